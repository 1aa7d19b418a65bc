-- A picture that the steps gave they give.
use Rattle.std.specs.Prelude.{Option, Some, None}
use mathlib.Core.Path.{◌≡◌, refl, ap, ◌∙◌}
use mathlib.Core.Bool.{Bool, true, ◌&&◌}
use mathlib.Core.List.{List}
use Prim.Native.Nat.{ℕ}
use lib.Dec.{eqb}
use lib.ListN.{length}
use lib.IntN.{pos}
use Rattle.value.specs.declared.Function.{Function}
use Rattle.value.specs.Text.{values_of, value_of}
use Rattle.value.specs.Words.{is_function}
use Rattle.value.specs.Number.{is_number, is_width}
use Rattle.basics.proofs.Tests.{and_both}
use Rattle.shift.specs.declared.Moves.{Moves}
use Rattle.node.specs.Nodes.{Node, inside}
use Rattle.node.specs.Find.{if_present, find_vr}
use Rattle.basics.specs.Tags
use Rattle.basics.specs.Vr.{DS}
use Rattle.element.specs.Elements.{value_at, the_item, function_in}
use Rattle.element.specs.Frames.{group_of}
use Rattle.pixel.specs.declared.Geometry.{Geometry}
use Rattle.pixel.specs.Pixel.{samples_of, is_frame, sample_at}
use Rattle.window.specs.declared.Window.{Window}
use Rattle.window.specs.Window.{shaded}
use Rattle.steps.specs.Given.{check, then}
use Rattle.steps.specs.Steps as steps
use Rattle.steps.specs.Steps.{Picture, Mask, native as no_mask, masked as mask_of, geometry_of, pixels_of, mask_for, inverse_of, group_for}
use Rattle.steps.proofs.Given.{check-some, need-some, then_some, collect-same}
use Rattle.node.proofs.Tests.{holds-is}
use Rattle.display.proofs.Objects.{all_first, width-number}
use Rattle.display.proofs.Rules.{at-items, group-is}
use Rattle.thousandths.specs.Number.{decimal_of_before, least_width_before, all_decimals_before, all_widths_before}
use Rattle.thousandths.specs.Rule30.{is_window_before, has_window_before, is_voi_before, item30_before, rule30_before}
use Rattle.thousandths.specs.Step6.{full_window_before, window_in_before, window_on_before, window_for_before}
use Rattle.thousandths.specs.Step6.{native_cell_before, masked_cell_before, picture_by_before, steps_of_before}
use Rattle.thousandths.proofs.Numbers.{numbers}
use Rattle.thousandths.proofs.Levels.{scaled_window, same-level, same_half, same_full}
use Rattle.thousandths.proofs.Rules.{number-scaled}

-- ---- Steps that go on alike

module _ {A B : Type 0} where
  then_same : (o : Option B) (f g : B → Option A) → ((b : B) → f b ≡ g b) → then o f ≡ then o g
  then_same None f g h = refl
  then_same (Some b) f g h = h b

check-same : {A : Type 0} (t : Bool) (a b : Option A) → a ≡ b → check t a ≡ check t b
check-same t a b e = ap (check t) e

-- ---- The window

module _ (ns : List Node) where
  -- The window of the centre at c and the width at d, with a function.
  abbrev of_values : Option Function → ℕ → ℕ → Window
  of_values k c d =
      record { center = decimal_of_before (value_of (value_at ns c) 0); width = decimal_of_before (value_of (value_at ns d) 0); function = k }

  now-in : (is : List ℕ) (c d : ℕ) → find_vr ns Tags.WindowCenter DS is ≡ Some c → find_vr ns Tags.WindowWidth DS is ≡ Some d
      → is_number (decimal_of_before (value_of (value_at ns c) 0)) ≡ true → is_number (decimal_of_before (value_of (value_at ns d) 0)) ≡ true
      → is_function (function_in ns is) ≡ true
      → steps.window_in ns is ≡ Some (scaled_window (of_values (function_in ns is) c d))
  unfolding steps.window_in
  now-in is c d p q x y z =
      rw (
        p,
        q,
        numbers (value_of (value_at ns c) 0) x,
        numbers (value_of (value_at ns d) 0) y,
        number-scaled (decimal_of_before (value_of (value_at ns c) 0)) x,
        number-scaled (decimal_of_before (value_of (value_at ns d) 0)) y,
        z,
      )

  then-in : (is : List ℕ) (c d : ℕ) → find_vr ns Tags.WindowCenter DS is ≡ Some c → find_vr ns Tags.WindowWidth DS is ≡ Some d
      → is_number (decimal_of_before (value_of (value_at ns c) 0)) ≡ true → is_number (decimal_of_before (value_of (value_at ns d) 0)) ≡ true
      → is_function (function_in ns is) ≡ true
      → window_in_before ns is ≡ Some (of_values (function_in ns is) c d)
  unfolding window_in_before
  then-in is c d p q x y z = rw (p, q, x, y, z)

  window-in : (is : List ℕ) (w : Window) → window_in_before ns is ≡ Some w → steps.window_in ns is ≡ Some (scaled_window w)
  unfolding window_in_before
  window-in is w e =
      let c = need-some (find_vr ns Tags.WindowCenter DS is) _ e in
      let d = need-some (find_vr ns Tags.WindowWidth DS is) _ c.1.1 in
      let o = of_values (function_in ns is) c.0 d.0 in
      let k = check-some (is_number o.center && (is_number o.width && is_function (function_in ns is))) _ d.1.1 in
      let b = and_both (is_number o.center) (is_number o.width && is_function (function_in ns is)) k.0 in
      let e = and_both (is_number o.width) (is_function (function_in ns is)) b.1 in
      let same : o ≡ w = cc k.1 in
      now-in is c.0 d.0 c.1.0 d.1.0 b.0 e.0 e.1 ∙ ap (λ (v : Window). Some (scaled_window v)) same

  window_on_lem : (stored : ℕ) (o : Option ℕ) (w : Window) → window_on_before ns stored o ≡ Some w → steps.window_on ns stored o ≡ Some (scaled_window w)
  window_on_lem stored None w e =
      let same : full_window_before stored ≡ w = cc in
      ap Some (same_full stored ∙ ap scaled_window same)
  window_on_lem stored (Some g) w e =
      let j = need-some (the_item ns g) _ e in
      rw j.1.0 (window-in (inside ns j.0) w j.1.1)

  window-for : (f stored : ℕ) (w : Window) → window_for_before ns f stored ≡ Some w → steps.window_for ns f stored ≡ Some (scaled_window w)
  unfolding window_for_before steps.window_for
  window-for f stored w e =
      let o = then_some (group_for ns f Tags.FrameVOILUTSequence) (window_on_before ns stored) e in
      rw o.1.0 (window_on_lem stored o.0 w o.1.1)

-- ---- The cells

module _ (g : Geometry) (v : List ℕ) (f : ℕ) (w : Window) (inverse : Bool) where
  same-native : (i : ℕ) → steps.native_cell g v f (scaled_window w) inverse i ≡ native_cell_before g v f w inverse i
  unfolding steps.native_cell native_cell_before
  same-native i = ap (shaded inverse) (same-level w (pos (sample_at g v f i)))

  same-masked : (ks : List ℕ) (m : Moves) (i : ℕ)
      → steps.masked_cell g v f ks m (scaled_window w) inverse i ≡ masked_cell_before g v f ks m w inverse i
  unfolding steps.masked_cell masked_cell_before
  same-masked ks m i = rw (same_half, same-level)

  same-picture : (m : Mask) → steps.picture_by g v f (scaled_window w) inverse m ≡ picture_by_before g v f w inverse m
  unfolding steps.picture_by picture_by_before
  same-picture no_mask = rw (collect-same _ _ (samples_of g) (λ i h. same-native i))
  same-picture (mask_of ks m) = rw (collect-same _ _ (samples_of g) (λ i h. same-masked ks m i))

-- ---- The steps

module _ (ns : List Node) (f : ℕ) where
  to-picture : (g : Geometry) (v : List ℕ) (m : Mask) (w : Window) (inverse : Bool) → geometry_of ns ≡ Some g → pixels_of ns ≡ Some v
      → is_frame g v f ≡ true
      → mask_for ns f ≡ Some m → window_for_before ns f g.stored ≡ Some w → inverse_of ns ≡ Some inverse
      → steps.steps_of ns f ≡ picture_by_before g v f w inverse m
  unfolding steps.steps_of
  to-picture g v m w inverse eg ev ef em ew ei =
      rw (eg, ev, ef, em, window-for ns f g.stored w ew, ei) (same-picture g v f w inverse m)

  pub drawn : (p : Picture) → steps_of_before ns f ≡ Some p → steps.steps_of ns f ≡ Some p
  unfolding steps_of_before
  drawn p e =
      let g = then_some (geometry_of ns) _ e in
      let v = then_some (pixels_of ns) _ g.1.1 in
      let k = check-some (is_frame g.0 v.0 f) _ v.1.1 in
      let m = then_some (mask_for ns f) _ k.1 in
      let w = then_some (window_for_before ns f g.0.stored) _ m.1.1 in
      let i = then_some (inverse_of ns) _ w.1.1 in
      to-picture g.0 v.0 m.0 w.0 i.0 g.1.0 v.1.0 k.0 m.1.0 w.1.0 i.1.0 ∙ i.1.1

  -- Where each frame has a window, the steps give the same altogether.
  same-steps : ((stored : ℕ) → (w : Window) × (window_for_before ns f stored ≡ Some w)) → steps.steps_of ns f ≡ steps_of_before ns f
  unfolding steps_of_before steps.steps_of
  same-steps has =
      then_same (geometry_of ns) _ _ (λ g.
      then_same (pixels_of ns) _ _ (λ v.
      check-same (is_frame g v f) _ _
      (then_same (mask_for ns f) _ _ (λ m. by-window g v m (has g.stored)))))
    where
      by-window : (g : Geometry) (v : List ℕ) (m : Mask) → (w : Window) × (window_for_before ns f g.stored ≡ Some w)
          → then (steps.window_for ns f g.stored) (λ w. then (inverse_of ns) (λ inverse. steps.picture_by g v f w inverse m))
          ≡ then (window_for_before ns f g.stored) (λ w. then (inverse_of ns) (λ inverse. picture_by_before g v f w inverse m))
      by-window g v m h =
          rw (h.1, window-for ns f g.stored h.0 h.1)
          (then_same (inverse_of ns) (λ inverse. steps.picture_by g v f (scaled_window h.0) inverse m)
          (λ inverse. picture_by_before g v f h.0 inverse m) (λ inverse. same-picture g v f h.0 inverse m))

  -- Where rule 30 held there is one.
  has_in : (is : List ℕ) → has_window_before ns is ≡ true → (w : Window) × (window_in_before ns is ≡ Some w)
  unfolding has_window_before is_window_before all_decimals_before all_widths_before
  has_in is e =
      let c = holds-is (find_vr ns Tags.WindowCenter DS is) _ e in
      let d = holds-is (find_vr ns Tags.WindowWidth DS is) _ c.1.1 in
      let x = value_at ns c.0 in
      let y = value_at ns d.0 in
      let least = least_width_before (function_in ns is) in
      let k = and_both (is_function (function_in ns is))
      (eqb (length (values_of x)) (length (values_of y)) && (all_decimals_before x && all_widths_before least y)) d.1.1 in
      let a = and_both (eqb (length (values_of x)) (length (values_of y))) (all_decimals_before x && all_widths_before least y) k.1 in
      let b = and_both (all_decimals_before x) (all_widths_before least y) a.1 in
      let p : is_number (decimal_of_before (value_of x 0)) ≡ true = all_first (λ v. is_number (decimal_of_before v)) x b.0 in
      let q : is_number (decimal_of_before (value_of y 0))
      ≡ true = width-number least (decimal_of_before (value_of y 0)) (all_first (λ v. is_width least (decimal_of_before v)) y b.1) in
      (of_values ns (function_in ns is) c.0 d.0, then-in ns is c.0 d.0 c.1.0 d.1.0 p q k.0)

  item-window : (stored g j : ℕ) (w : Window) → the_item ns g ≡ Some j → window_in_before ns (inside ns j) ≡ Some w
      → window_on_before ns stored (Some g) ≡ Some w
  item-window stored g j w e h = rw e h

  has_on : (stored : ℕ) (o : Option ℕ) → if_present o (is_voi_before ns) ≡ true → (w : Window) × (window_on_before ns stored o ≡ Some w)
  unfolding is_voi_before
  has_on stored None e = (full_window_before stored, refl)
  has_on stored (Some g) e =
      let j = holds-is (the_item ns g) (λ i. has_window_before ns (inside ns i)) e in
      let w = has_in (inside ns j.0) j.1.1 in
      (w.0, item-window stored g j.0 w.0 j.1.0 w.1)

  group-window : (stored : ℕ) (o : Option ℕ) (w : Window) → group_for ns f Tags.FrameVOILUTSequence ≡ Some o → window_on_before ns stored o ≡ Some w
      → window_for_before ns f stored ≡ Some w
  unfolding window_for_before
  group-window stored o w e h = rw e h

  has-window : rule30_before ns f ≡ true → (stored : ℕ) → (w : Window) × (window_for_before ns f stored ≡ Some w)
  unfolding rule30_before item30_before
  has-window e stored =
      let a = at-items ns f (item30_before ns) e in
      let o = has_on stored (group_of ns Tags.FrameVOILUTSequence a.s a.i) a.holds in (
        o.0,
        group-window stored (group_of ns Tags.FrameVOILUTSequence a.s a.i) o.0
            (group-is ns f Tags.FrameVOILUTSequence a.s a.i a.shared a.item) o.1,
      )

  pub pictures : rule30_before ns f ≡ true → steps.steps_of ns f ≡ steps_of_before ns f
  pictures e = same-steps (has-window e)
