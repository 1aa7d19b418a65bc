-- What is refused spells no data set, because that would read; and what is not refused reads, and so spells one.
use mathlib.Core.Path.{◌≡◌, sym, ap, ◌∙◌}
use Prim.Native.Nat.{ℕ}
use native.Mathlib.Omega.{arith}
use mathlib.Core.List.{List}
use mathlib.Core.Bool.{false}
use lib.ListN.{length}
use Rattle.basics.specs.Bytes.{IsBytes}
use Rattle.dataset.specs.declared.Fault.{Fault}
use Rattle.dataset.specs.declared.Fault.TheVariants.{CutShort}
use Rattle.dataset.specs.Header.{cursor}
use Rattle.dataset.specs.Reading.{Run, done, refused, unfinished, elements_at, depths, refused_at, read, whole, reading_of}
use Rattle.dataset.proofs.Whole.{reading_small}
use Rattle.grammar.specs.Grammar.{tree_rows}
use Rattle.grammar.specs.Claims.{Unspelt, Refusals}
use Rattle.grammar.proofs.Sound.{sound}
use Rattle.grammar.proofs.Complete.{complete}

unspelt : (s : List ℕ) (fault : Fault) (offset : ℕ) → reading_of s ≡ refused_at fault offset → Unspelt s
unspelt s fault offset r t h e =
    let a : refused_at fault offset ≡ read (tree_rows t) = sym r ∙ ap reading_of (sym e) ∙ sound t h in
    let z : ◌≡◌ {A = ℕ} 0 1 = cc in
    omega arith

by-run : (s : List ℕ) → IsBytes s → Unspelt s → (o : Run) → reading_of s ≡ whole o
    → (fault : Fault) × ((offset : ℕ) × (reading_of s ≡ refused_at fault offset))
by-run s bytes u (refused fault offset) e = (fault, (offset, e))
by-run s bytes u unfinished e = (CutShort, (0, e))
by-run s bytes u (done stop next rows) e = let c = complete s bytes rows e in absurd (u c.tree c.valid c.bytes)

pub refusals : (s : List ℕ) → Refusals s
refusals s =
    record {
      refused = λ bytes h u. by-run s bytes u (elements_at depths s 0 (cursor 0 (length s) false)) (reading_small s h);
      only = unspelt s;
    }
