-- Mapping a frame whose parts are all there gives what the mapping says.
use Rattle.std.specs.Prelude.{Option, Some, is_some, IsSome}
use mathlib.Core.Path.{◌≡◌, sym, ap, ◌∙◌, subst}
use mathlib.Core.Bool.{true}
use mathlib.Core.List.{List, ◌++◌}
use Prim.Native.Nat.{ℕ, ◌≤◌}
use native.Mathlib.Omega.{arith}
use lib.ListN.{length, drop, replicate, length-replicate}
use borrow.Author.Tests.{eq-eqb}
use Rattle.node.specs.Nodes.{Node, inside}
use Rattle.node.specs.Find.{find_vr}
use Rattle.basics.specs.Tags
use Rattle.basics.specs.Vr.{US, OW}
use Rattle.element.specs.Elements.{value_at}
use Rattle.rules.specs.Intensity.{is_lut, has_lut}
use Rattle.pixel.specs.declared.Geometry.{Geometry}
use Rattle.pixel.specs.Pixel.{samples_of, is_frame, sample_at}
use Rattle.pixel.specs.Internal.{painted, Shaped}
use Rattle.steps.specs.Steps.{geometry_of, pixels_of}
use Rattle.node.proofs.Tests.{holds-is}
use Rattle.steps.proofs.Given.{same_some}
use Rattle.display.proofs.Pictures.{collected}
use Rattle.linear.specs.Mapping.{entry_at, entry_of, mapping_by}
use Rattle.linear.specs.Answer.{entries_in}
use Rattle.linear.specs.Internal.{MapReady, Mappable}
use Rattle.linear.proofs.Laws.{lut-is, entry-is}

module _ (ns : List Node) (f j most : ℕ) (m : Mappable ns f j most) where
  pub descriptor-there : {r : Option ℕ} → r ≡ find_vr ns Tags.LUTDescriptor US (inside ns j) → IsSome r
  unfolding has_lut
  descriptor-there e = ap is_some (e ∙ (holds-is (find_vr ns Tags.LUTDescriptor US (inside ns j)) _ m.lut).1.0)

  pub data-there : {r : Option ℕ} → r ≡ find_vr ns Tags.LUTData OW (inside ns j) → IsSome r
  unfolding has_lut
  data-there e =
      let d = holds-is (find_vr ns Tags.LUTDescriptor US (inside ns j)) _ m.lut in
      ap is_some (e ∙ (holds-is (find_vr ns Tags.LUTData OW (inside ns j)) _ d.1.1).1.0)

  module _ (g : Geometry) (v : List ℕ) (d t : ℕ) (eg : geometry_of ns ≡ Some g) (ev : pixels_of ns ≡ Some v)
      (ed : find_vr ns Tags.LUTDescriptor US (inside ns j) ≡ Some d) (et : find_vr ns Tags.LUTData OW (inside ns j) ≡ Some t) where
    lut : is_lut (value_at ns d) (value_at ns t) ≡ true
    unfolding has_lut
    lut = rw (ed, et) at m.lut

    in-pixels : is_frame g v f ≡ true
    in-pixels =
        subst (λ (x : Geometry). is_frame x v f ≡ true) (same_some m.geometry eg)
        (subst (λ (x : List ℕ). is_frame m.g x f ≡ true) (same_some m.pixels ev) m.inside)

    pub room : samples_of g ≤ most
    room = subst (λ (x : Geometry). samples_of x ≤ most) (same_some m.geometry eg) m.room

    pub ready : (values : List ℕ) → most ≡ length values → MapReady v g f (value_at ns d) (value_at ns t) values
    ready values e =
        record {
          shape = subst Shaped (same_some m.geometry eg) m.shape;
          inside = in-pixels;
          room = subst (λ (x : ℕ). samples_of g ≤ x) e room;
          lut = lut;
        }

    -- The numbers, and what the values buffer holds.
    pub record Maps (values : List ℕ) : Type 0 where
      pub l : List ℕ
      pub is : mapping_by ns f j ≡ Some l
      pub size : length l ≡ samples_of g
      pub painted-is : painted (λ i. entry_at (value_at ns d) (value_at ns t) (sample_at g v f i)) (samples_of g) values
          ≡ l ++ drop (samples_of g) values

    pub maps : (values : List ℕ) → samples_of g ≤ length values → Maps values
    unfolding mapping_by
    maps values h =
        let p = lut-is (value_at ns d) (value_at ns t) lut in
        let c = collected (λ i. entry_of (value_at ns d) (value_at ns t) (sample_at g v f i))
        (λ i. entry_at (value_at ns d) (value_at ns t) (sample_at g v f i)) (samples_of g) values h
        (λ i k. entry-is (value_at ns d) (value_at ns t) lut (sample_at g v f i)) in
        record {
          l = c.l;
          is = rw (eg, ev, in-pixels, ed, et, eq-eqb _ _ p.three, eq-eqb _ _ p.bits) c.is;
          size = c.size;
          painted-is = c.image-is;
        }

    pub leaves : (values : List ℕ) → most ≡ length values
        → painted (λ i. entry_at (value_at ns d) (value_at ns t) (sample_at g v f i)) (samples_of g) values
        ≡ entries_in (mapping_by ns f j) ++ drop (length (entries_in (mapping_by ns f j))) values
    leaves values e =
        let c = maps values (subst (λ (x : ℕ). samples_of g ≤ x) e room) in
        c.painted-is ∙ ap (λ (n : ℕ). c.l ++ drop n values) (sym c.size)
        ∙ ap (λ (o : Option (List ℕ)). entries_in o ++ drop (length (entries_in o)) values) (sym c.is)

  -- What the mapping gives, whatever the room.
  pub by-mappable : (l : List ℕ) × ((mapping_by ns f j ≡ Some l) × (length l ≡ samples_of m.g))
  unfolding has_lut
  by-mappable =
      let d = holds-is (find_vr ns Tags.LUTDescriptor US (inside ns j)) _ m.lut in
      let t = holds-is (find_vr ns Tags.LUTData OW (inside ns j)) _ d.1.1 in
      let c = maps m.g m.v d.0 t.0 m.geometry m.pixels d.1.0 t.1.0 (replicate {A = ℕ} (samples_of m.g) 0)
      (omega (arith, length-replicate {A = ℕ} (samples_of m.g) 0)) in
      (c.l, (c.is, c.size))
