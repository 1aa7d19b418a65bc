-- A frame of an accepted object that has a TO_LINEAR item has all that its mapping needs: rule 39 found it.
use Rattle.std.specs.Prelude.{Option, Some, None}
use mathlib.Core.Path.{◌≡◌, subst}
use mathlib.Core.Bool.{true, not, ◌&&◌, ◌||◌}
use mathlib.Core.List.{List, [], ◌∷◌}
use Prim.Native.Nat.{ℕ, ◌≤◌}
use native.Mathlib.Omega.{arith}
use lib.ListN.{length}
use lib.Dec.{eqb, leb}
use Rattle.basics.specs.Bytes.{IsBytes}
use Rattle.basics.specs.Vr.{SQ}
use Rattle.basics.proofs.Tests.{and_both}
use Rattle.node.specs.Nodes.{Node, nodes_of, node_at, root, inside}
use Rattle.node.specs.Find.{holds, if_present}
use Rattle.basics.specs.Tags
use Rattle.element.specs.Elements.{every, one_item, first}
use Rattle.element.specs.Frames.{frames_of, group_of}
use Rattle.rules.specs.Intensity.{linear_among, has_lut, are_luts, is_lut_group, has_linear, is_log, item39, rule39}
use Rattle.conformance.specs.declared.Finding.TheVariants.{Accepted}
use Rattle.conformance.specs.Judging.{finding_of}
use Rattle.display.specs.Show.{image_size}
use Rattle.display.proofs.Small.{us-in-small}
use Rattle.node.proofs.Tests.{same-is}
use Rattle.display.proofs.Accepted.{shape_of}
use Rattle.display.proofs.Objects.{object}
use Rattle.display.proofs.Rules.{at-items, group-is, r39}
use Rattle.display.proofs.Lacking.{geometry-size}
use Rattle.steps.proofs.Given.{check-some, never}
use Rattle.linear.specs.Mapping.{linear_on, linear_for}
use Rattle.linear.specs.Internal.{Mappable}

-- The first TO_LINEAR item of a group that rule 39 lets pass has its LUT.
first-has : (ns : List Node) (js : List ℕ) (j : ℕ) → first js ≡ Some j → every (has_lut ns) js ≡ true → has_lut ns j ≡ true
unfolding every
first-has ns [] j e h = absurd (never e)
first-has ns (k ∷ js) j e h =
    let q : k ≡ j = cc in
    subst (λ (x : ℕ). has_lut ns x ≡ true) q (and_both (has_lut ns k) (every (has_lut ns) js) h).0

on-group : (ns : List Node) (o : Option ℕ) (j : ℕ) → if_present o (is_lut_group ns) ≡ true → linear_on ns o ≡ Some (Some j) → has_lut ns j ≡ true
unfolding is_lut_group are_luts
on-group ns None j h e =
    let q : None ≡ Some j = cc in
    absurd (never q)
on-group ns (Some g) j h e =
    let a = and_both (eqb (node_at ns g).vr SQ) (leb 1 (length (inside ns g)) && are_luts ns (linear_among ns (inside ns g))) h in
    let b = and_both (leb 1 (length (inside ns g))) (are_luts ns (linear_among ns (inside ns g))) a.1 in
    let d = and_both (leb (length (linear_among ns (inside ns g))) 1) (every (has_lut ns) (linear_among ns (inside ns g))) b.1 in
    let u = (check-some (eqb (node_at ns g).vr SQ) (Some (first (linear_among ns (inside ns g)))) e).1 in
    let q : first (linear_among ns (inside ns g)) ≡ Some j = cc in
    first-has ns (linear_among ns (inside ns g)) j q d.1

pub item-lut : (ns : List Node) → finding_of ns ≡ Accepted → (n f j : ℕ) → frames_of ns ≡ Some n → 1 ≤ f → f ≤ n → linear_for ns f ≡ Some (Some j)
    → has_lut ns j ≡ true
unfolding rule39 item39 linear_for
item-lut ns ok n f j count low high e =
    let a = at-items ns f (item39 ns) (r39 ns ok n f count low high) in
    let p = group_of ns Tags.FramePixelDataPropertiesSequence a.s a.i in
    let g = group_of ns Tags.PixelIntensityRelationshipLUTSequence a.s a.i in
    let b = and_both (if_present p (one_item ns)) (if_present g (is_lut_group ns) && (not (holds p (is_log ns)) || holds g (has_linear ns)))
    a.holds in
    let d = and_both (if_present g (is_lut_group ns)) (not (holds p (is_log ns)) || holds g (has_linear ns)) b.1 in
    on-group ns g j d.0 (rw (group-is ns f Tags.PixelIntensityRelationshipLUTSequence a.s a.i a.shared a.item) at e)

pub mappable : (s : List ℕ) → IsBytes s → finding_of (nodes_of s) ≡ Accepted → (n f j : ℕ) → frames_of (nodes_of s) ≡ Some n → 1 ≤ f → f ≤ n
    → linear_for (nodes_of s) f ≡ Some (Some j) → (most : ℕ) → image_size (nodes_of s) ≤ most → Mappable (nodes_of s) f j most
mappable s b ok n f j count low high e most room =
    let ns = nodes_of s in
    let o = object ns (λ tag k e. us-in-small s b tag k (root ns) e) ok in
    let q : o.n ≡ n = same-is o.frames count in
    record {
      g = o.g;
      geometry = o.geometry;
      v = o.v;
      pixels = o.pixels;
      shape = shape_of o;
      inside = o.inside f low (omega arith);
      room = omega (arith, geometry-size ns o.g o.geometry);
      lut = item-lut ns ok n f j count low high e;
    }
