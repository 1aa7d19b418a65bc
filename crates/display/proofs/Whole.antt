-- An accepted object holds all that drawing frame f of it rests on, since each fact follows from a rule: here they are in one place.
use Rattle.std.specs.Prelude.{Option, Some}
use mathlib.Core.Path.{◌≡◌, sym, subst}
use mathlib.Core.Bool.{true}
use mathlib.Core.List.{List, [], ◌∷◌}
use Prim.Native.Nat.{ℕ, zero, suc, ◌≤◌, ◌<◌}
use lib.ListN.{length, get_or}
use native.Mathlib.Omega.{arith}
use Rattle.basics.specs.Bytes.{IsBytes}
use Rattle.node.specs.Nodes.{Node, nodes_of, root}
use Rattle.element.specs.Frames.{frames_of}
use Rattle.conformance.specs.declared.Finding.TheVariants.{Accepted}
use Rattle.conformance.specs.Judging.{finding_of}
use Rattle.value.specs.Number.{us_values}
use Rattle.element.specs.Elements.{value_at}
use Rattle.pixel.specs.declared.Geometry.{Geometry}
use Rattle.pixel.specs.Pixel.{samples_of, is_frame}
use Rattle.pixel.specs.Internal.{Shaped}
use Rattle.steps.specs.Steps.{Mask, geometry_of, pixels_of, mask_for, masked as mask_of}
use Rattle.display.specs.declared.Masking.{Masking}
use Rattle.display.specs.declared.Masking.TheVariants as masking
use Rattle.display.specs.Internal.{AllWithin, Gives, masking_of, MaskingBelow, MasksReady}
use Rattle.display.specs.Show.{image_size}
use Rattle.steps.proofs.Given.{same_some}
use Rattle.display.proofs.Lacking.{geometry-size}
use Rattle.display.proofs.Small.{us-in-small}
use Rattle.node.proofs.Tests.{same-is}
use Rattle.display.proofs.Answering.{gives-sound}
use Rattle.display.proofs.Objects.{object, windowed}
use Rattle.display.proofs.Masks as masks
use Rattle.display.proofs.Accepted.{Object, GivesWindow, shape_of}

pub record All (ns : List Node) (f n : ℕ) : Type 0 where
  pub o : Object ns
  pub n-is : o.n ≡ n
  pub high : f ≤ o.n
  pub win : GivesWindow ns f o.g.stored
  pub mask : Gives n (mask_for ns f)

pub all_of : (s : List ℕ) → IsBytes s → finding_of (nodes_of s) ≡ Accepted → (f n : ℕ) → frames_of (nodes_of s) ≡ Some n → 1 ≤ f → f ≤ n
    → All (nodes_of s) f n
all_of s b ok f n frames low high =
    let ns = nodes_of s in
    let o = object ns (λ tag k e. us-in-small s b tag k (root ns) e) ok in
    let q : o.n ≡ n = same-is o.frames frames in
    let h : f ≤ o.n = omega arith in
    let m = masks.masking ns ok o.n o.frames o.some-frame o.few-frames f low h in
    record { o = o; n-is = q; high = h; win = windowed ns ok o f low h; mask = subst (λ (k : ℕ). Gives k (mask_for ns f)) q m }

-- ---- What painting is asked

all-at : (n : ℕ) (ks : List ℕ) → AllWithin n ks → (k : ℕ) → k < length ks → (1 ≤ get_or ks k 0) × (get_or ks k 0 ≤ n)
all-at n [] a k h = absurd (omega arith)
all-at n (x ∷ ks) a zero h = a.0
all-at n (x ∷ ks) a (suc k) h = all-at n ks a.1 k (omega arith)

module _ (ns : List Node) (v : List ℕ) (g : Geometry) (n : ℕ) (whole : (k : ℕ) → 1 ≤ k → k ≤ n → is_frame g v k ≡ true)
    (few : n ≤ 65535) where
  pub masks-ready : (k : Masking) (o : Option Mask) → Some (masking_of ns k) ≡ o → MaskingBelow (length ns) k → Gives n o → MasksReady ns v g k
  masks-ready masking.Native o e b q = tt
  masks-ready (masking.Average k m) o e b q =
      let s = gives-sound n (mask_of (us_values (value_at ns k)) m) o (sym e) q in (
        b,
        (
          record {
            some = s.0;
            few = s.1.0;
            frames = λ i h.
                whole _ (all-at n (us_values (value_at ns k)) s.1.1.0 i h).0 (all-at n (us_values (value_at ns k)) s.1.1.0 i h).1;
          },
          s.1.1.1.sizes,
        ),
      )
  masks-ready (masking.One t m) o e b q =
      let s = gives-sound n (mask_of (t ∷ []) m) o (sym e) q in (
        omega (arith, s.1.1.0.0.1),
        (whole t s.1.1.0.0.0 s.1.1.0.0.1, s.1.1.1.sizes),
      )

-- ---- The same over the answers that the code has

pub record Based (ns : List Node) (f n : ℕ) (g : Geometry) (v : List ℕ) : Type 0 where
  pub shape : Shaped g
  pub inside : is_frame g v f ≡ true
  pub each : (k : ℕ) → 1 ≤ k → k ≤ n → is_frame g v k ≡ true
  pub size : samples_of g ≡ image_size ns
  pub few : n ≤ 65535
  pub win : GivesWindow ns f g.stored

pub based_on : (ns : List Node) (f n : ℕ) (g : Geometry) (v : List ℕ) → All ns f n → 1 ≤ f → geometry_of ns ≡ Some g → pixels_of ns ≡ Some v
    → Based ns f n g v
based_on ns f n g v a low eg ev =
    let o = a.o in
    let p : o.g ≡ g = same_some o.geometry eg in
    let q : o.v ≡ v = same_some o.pixels ev in
    let each : (k : ℕ) → 1 ≤ k → k ≤ n → is_frame g v k ≡ true =
    λ k l h. subst (λ (x : Geometry). is_frame x v k ≡ true) p
    (subst (λ (y : List ℕ). is_frame o.g y k ≡ true) q (o.inside k l (omega (arith, a.n-is)))) in
    record {
      shape = subst Shaped p (shape_of o);
      inside = each f low (omega (arith, a.n-is, a.high));
      each = each;
      size = geometry-size ns g eg;
      few = omega (arith, a.n-is, o.few-frames);
      win = subst (λ (x : Geometry). GivesWindow ns f x.stored) p a.win;
    }
