-- What reading window numbers in millionths keeps: the claim of specs/Kept. A frame of an accepted object has a picture by
-- demand 3, and where rule 30 held as it was both kinds of steps give the same.
use mathlib.Core.Path.{◌≡◌, sym, ◌∙◌}
use mathlib.Core.Bool.{true}
use mathlib.Core.List.{List}
use Prim.Native.Nat.{ℕ}
use native.Mathlib.Omega.{arith}
use Rattle.basics.specs.Bytes.{IsBytes}
use Rattle.verdict.specs.Verdict.{per_frame}
use Rattle.node.specs.Nodes.{nodes_of}
use Rattle.conformance.specs.Judging.{first_frame, frame_count}
use Rattle.display.specs.Drawing.{IsAccepted, IsFrame}
use Rattle.display.proofs.Drawing.{drawing}
use Rattle.thousandths.specs.Rule30.{rule30_before}
use Rattle.thousandths.specs.Kept.{IsAcceptedBefore, DrawnAlike, Kept}
use Rattle.thousandths.proofs.Numbers as numbers
use Rattle.thousandths.proofs.Rules as rules
use Rattle.thousandths.proofs.Pictures as pictures

accepted : (s : List ℕ) → IsAcceptedBefore s → IsAccepted s
accepted s a = record { rows = a.rows; reads = a.reads; sound = rules.accepted (nodes_of s) a.sound }

-- Rule 30 held at the frame.
at-frame : (s : List ℕ) (f : ℕ) → IsAcceptedBefore s → IsFrame s f → rule30_before (nodes_of s) f ≡ true
unfolding first_frame frame_count per_frame
at-frame s f a i = rules.held (nodes_of s) f (a.sound 30 (omega arith) (omega arith) f i.low (omega (arith, i.high)))

kept : (s : List ℕ) → IsBytes s → IsAcceptedBefore s → (f : ℕ) → IsFrame s f → DrawnAlike (nodes_of s) f
kept s b a f i =
    let w = (drawing s b f).drawable (accepted s a) i in
    record { p = w.p; before = sym (pictures.pictures (nodes_of s) f (at-frame s f a i)) ∙ w.is; after = w.is }

pub millionths-keep : Kept
millionths-keep = record { numbers = numbers.numbers; accepted = accepted; pictures = kept; drawn = pictures.drawn }
