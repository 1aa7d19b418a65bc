-- Quarters change nothing for what was accepted before: it is accepted still, and its pictures are the same, cell for cell.
-- Moreover, wherever the steps of whole pixels gave a picture, of any data set, the steps of quarters give the same.
use Rattle.std.specs.Prelude.{Option, Some, None}
use mathlib.Core.Path.{◌≡◌, refl, sym, ap, ◌∙◌, subst}
use mathlib.Core.Bool.{Bool, true, false, cond, ◌&&◌}
use mathlib.Core.List.{List, [], ◌∷◌}
use Prim.Native.Nat.{ℕ, ◌≤◌, ◌<◌}
use package.native.Mathlib.Omega.{arith}
use lib.ListN.{length}
use lib.Dec.{eqb, leb}
use borrow.Author.Tests.{eqb-true, eq-eqb, lt-ltb}
use Rattle.basics.specs.Vr.{SQ, FL}
use Rattle.value.specs.Text.{ascii}
use Rattle.value.specs.Number.{is_number, number_or0}
use Rattle.shift.specs.declared.Shift.TheVariants as shift
use Rattle.shift.specs.declared.Moves.{Moves}
use Rattle.shift.specs.Shift.{item_shift, frame_shift}
use Rattle.shift.specs.Whole.{whole_moves_of, is_whole_shift_of, is_whole_shift, moves_in_quarters}
use Rattle.shift.proofs.Laws.{as-item, shift-length}
use Rattle.shift.proofs.Agree.{whole-moves, whole-shift, whole_item, whole-frame, whole-both, whole_numbers}
use Rattle.verdict.specs.Verdict.{per_frame}
use Rattle.basics.proofs.Tests.{false-is-true, and_both, both}
use Rattle.node.specs.Nodes.{Node, nodes_of, node_at, root, inside}
use Rattle.node.specs.Find.{holds, if_present, find, find_vr}
use Rattle.node.proofs.Tests.{holds_more, present-more}
use Rattle.basics.specs.Tags
use Rattle.element.specs.Elements.{value_at, every}
use Rattle.element.specs.Frames.{frames_of, frame_item, shared_item, group_of, mask_items, operation_is}
use Rattle.rules.specs.Frame.{has_id, is_shift_item, is_shift_group, item37, rule37}
use Rattle.rules.specs.Mask.{is_shift_at, shift_fits, rule35, rule36}
use Rattle.rules.specs.All.{rule_list, rule_at}
use Rattle.conformance.specs.declared.Finding.TheVariants.{Accepted}
use Rattle.conformance.specs.Judging.{first_frame, frame_count, finding_of}
use Rattle.conformance.proofs.First.{holds-accepted}
use Rattle.pixel.specs.declared.Geometry.{Geometry}
use Rattle.pixel.specs.Pixel.{samples_of, is_frame}
use Rattle.pixel.specs.Whole.{source_of}
use Rattle.pixel.proofs.Blend.{source-below, are-inside}
use Rattle.pixel.proofs.Quarters.{agree}
use Rattle.window.specs.declared.Window.{Window}
use Rattle.steps.specs.Given.{need, check, then}
use Rattle.steps.specs.Steps.{Mask, native, masked, geometry_of, pixels_of, applying_to, average_frames, tid_frame, item_shift_at}
use Rattle.steps.specs.Steps.{shift_for, moves_for, on_tid, mask_by, mask_on, mask_for, window_for, inverse_of, masked_cell, picture_by}
use Rattle.steps.specs.Steps.{steps_of}
use Rattle.display.specs.Before.{was_shift_at, shift_fitted, rule35_before, was_shift_item, was_shift_group, item37_before, rule37_before}
use Rattle.display.specs.Before.{rule_before, AcceptedBefore, moves_before, on_tid_before, mask_by_before, mask_on_before, mask_for_before}
use Rattle.display.specs.Before.{masked_cell_before, picture_before, steps_before, KeepsPictures, SamePictures}
use Rattle.steps.proofs.Given.{never, checked, check-some, then_some, collect-same}
use Rattle.steps.proofs.Laws.{to-picture}
use Rattle.display.proofs.Small.{us-in-small}
use Rattle.display.proofs.Objects.{object, windowed}
use Rattle.display.proofs.Masks as applying
use Rattle.display.proofs.Masks.{Among, every-at, Applies, nothing, applies, GivesShift, group-each, shift_by, ranges, masking}
use Rattle.display.proofs.Rules.{r31, r36}
use Rattle.display.proofs.Lacking.{nothing-lacks}

-- ---- Rules

every_more : (l : List ℕ) (p q : ℕ → Bool) → ((k : ℕ) → p k ≡ true → q k ≡ true) → every p l ≡ true → every q l ≡ true
unfolding every
every_more [] p q f e = e
every_more (k ∷ l) p q f e =
    let a = and_both (p k) _ e in
    rw (f k a.0, every_more l p q f a.1)

module _ (ns : List Node) where
  fits : (j : ℕ) → shift_fitted ns j ≡ true → shift_fits ns j ≡ true
  unfolding shift_fitted shift_fits was_shift_at is_shift_at
  fits j = present-more (find ns Tags.MaskSubPixelShift (inside ns j)) (was_shift_at ns) (is_shift_at ns) at_all
    where
      at_all : (k : ℕ) → was_shift_at ns k ≡ true → is_shift_at ns k ≡ true
      at_all k e =
          let a = and_both (eqb (node_at ns k).vr FL) _ e in
          rw (a.0, whole-shift (value_at ns k) a.1)

  kept-35 : rule35_before ns ≡ true → rule35 ns ≡ true
  unfolding rule35_before rule35
  kept-35 = every_more (mask_items ns) (shift_fitted ns) (shift_fits ns) fits

  item-now : (j : ℕ) → was_shift_item ns j ≡ true → is_shift_item ns j ≡ true
  unfolding was_shift_item is_shift_item
  item-now j e =
      let a = and_both (has_id ns j) _ e in
      rw a.0 (holds_more (find_vr ns Tags.MaskSubPixelShift FL (inside ns j)) _ _
      (λ k w. as-item (value_at ns k) ∙ whole-shift (value_at ns k) w) a.1)

  group : (g : ℕ) → was_shift_group ns g ≡ true → is_shift_group ns g ≡ true
  unfolding was_shift_group is_shift_group
  group g e =
      let a = and_both (eqb (node_at ns g).vr SQ) _ e in
      let b = and_both (leb 1 (length (inside ns g))) _ a.1 in
      let c = and_both (every (was_shift_item ns) (inside ns g)) _ b.1 in
      rw (a.0, b.0, every_more (inside ns g) (was_shift_item ns) (is_shift_item ns) item-now c.0) c.1

  kept-37 : (f : ℕ) → rule37_before ns f ≡ true → rule37 ns f ≡ true
  unfolding rule37_before rule37 item37_before item37
  kept-37 f =
      holds_more (shared_item ns) _ _ (λ s.
      holds_more (frame_item ns f) _ _ (λ i.
      present-more (group_of ns Tags.FramePixelShiftSequence s i) (was_shift_group ns) (is_shift_group ns) group))

  kept_rule : (rule f : ℕ) → rule_before ns rule f ≡ true → rule_at ns rule f ≡ true
  unfolding rule_before rule_at rule_list
  kept_rule rule f = go (eqb rule 35) refl (eqb rule 37) refl
    where
      go : (a : Bool) → eqb rule 35 ≡ a → (b : Bool) → eqb rule 37 ≡ b
          → cond a (rule35_before ns) (cond b (rule37_before ns f) (rule_at ns rule f)) ≡ true → rule_at ns rule f ≡ true
      go true p b q e = rw (eqb-true rule 35 p) (kept-35 e)
      go false p true q e = rw (eqb-true rule 37 q) (kept-37 f e)
      go false p false q e = e

  -- What was accepted is accepted still.
  pub still-accepted : AcceptedBefore ns → finding_of ns ≡ Accepted
  still-accepted ok = holds-accepted ns (λ rule a b f c d. kept_rule rule f (ok rule a (omega arith) f c d))

-- ---- Steps

-- A mask of whole moves, in quarters.
abbrev mask_in_quarters : Mask → Mask
mask_in_quarters native = native
mask_in_quarters (masked ks m) = masked ks (moves_in_quarters m)

module _ (ns : List Node) (f j : ℕ) where
  moves-now : (m : Moves) → moves_before ns f j ≡ Some m → moves_for ns f j ≡ Some (moves_in_quarters m)
  unfolding moves_before moves_for
  moves-now m e =
      let a = then_some (shift_for ns f j) _ e in
      let b = check-some (is_number (whole_moves_of a.0).vertical && is_number (whole_moves_of a.0).horizontal) _ a.1.1 in
      let c = and_both (is_number (whole_moves_of a.0).vertical) _ b.0 in
      let d : whole_moves_of a.0 ≡ m = cc b.1 in
      rw (a.1.0, whole-moves a.0 c.0 c.1, whole_numbers (whole_moves_of a.0) c.0 c.1, d)

  masked-now : (ks : List ℕ) (m : Mask) → then (moves_before ns f j) (λ x. Some (masked ks x)) ≡ Some m
      → then (moves_for ns f j) (λ x. Some (masked ks x)) ≡ Some (mask_in_quarters m)
  masked-now ks m e =
      let a = then_some (moves_before ns f j) _ e in
      let d : masked ks a.0 ≡ m = cc a.1.1 in
      rw (moves-now a.0 a.1.0) (ap Some (ap mask_in_quarters d))

  mask-now : (m : Mask) → mask_by_before ns f j ≡ Some m → mask_by ns f j ≡ Some (mask_in_quarters m)
  unfolding mask_by_before mask_by
  mask-now m = go (operation_is ns (ascii "NONE") j) (operation_is ns (ascii "AVG_SUB") j) (operation_is ns (ascii "TID") j)
    where
      tid : (o : Option ℕ) → on_tid_before ns f j o ≡ Some m → on_tid ns f j o ≡ Some (mask_in_quarters m)
      tid None e = let d : native ≡ m = cc in ap Some (ap mask_in_quarters d)
      tid (Some k) e = masked-now (k ∷ []) m e

      go : (a b c : Bool)
          → cond a (Some native) (cond b (then (average_frames ns j) (λ ks. then (moves_before ns f j) (λ x. Some (masked ks x))))
          (cond c (then (tid_frame ns f j) (on_tid_before ns f j)) None)) ≡ Some m
          → cond a (Some native) (cond b (then (average_frames ns j) (λ ks. then (moves_for ns f j) (λ x. Some (masked ks x))))
          (cond c (then (tid_frame ns f j) (on_tid ns f j)) None)) ≡ Some (mask_in_quarters m)
      go true b c e = let d : native ≡ m = cc in ap Some (ap mask_in_quarters d)
      go false true c e =
          let a = then_some (average_frames ns j) _ e in
          rw a.1.0 (masked-now a.0 m a.1.1)
      go false false true e =
          let a = then_some (tid_frame ns f j) _ e in
          rw a.1.0 (tid a.0 a.1.1)
      go false false false e = absurd (never e)

mask-for-now : (ns : List Node) (f : ℕ) (m : Mask) → mask_for_before ns f ≡ Some m → mask_for ns f ≡ Some (mask_in_quarters m)
unfolding mask_for_before mask_for
mask-for-now ns f m e =
    let a = then_some (applying_to ns f) _ e in
    rw a.1.0 (applied a.0 a.1.1)
  where
    applied : (x : Option ℕ) → mask_on_before ns f x ≡ Some m → mask_on ns f x ≡ Some (mask_in_quarters m)
    applied None e = let d : native ≡ m = cc in ap Some (ap mask_in_quarters d)
    applied (Some j) e = mask-now ns f j m e

-- Cell for cell.
cell_same : (g : Geometry) (v : List ℕ) (f : ℕ) (ks : List ℕ) (m : Moves) (w : Window) (inverse : Bool) (i : ℕ) → i < samples_of g
    → masked_cell_before g v f ks m w inverse i ≡ masked_cell g v f ks (moves_in_quarters m) w inverse i
unfolding masked_cell_before masked_cell
cell_same g v f ks m w inverse i inside = rw (
  lt-ltb (source_of g m i) (samples_of g) (source-below g m i inside),
  are-inside g (moves_in_quarters m) i inside,
  agree g v ks m i inside,
)

picture-same : (g : Geometry) (v : List ℕ) (f : ℕ) (w : Window) (inverse : Bool) (m : Mask)
    → picture_before g v f w inverse m ≡ picture_by g v f w inverse (mask_in_quarters m)
unfolding picture_before picture_by
picture-same g v f w inverse native = refl
picture-same g v f w inverse (masked ks m) = rw (collect-same (masked_cell_before g v f ks m w inverse)
    (masked_cell g v f ks (moves_in_quarters m) w inverse) (samples_of g) (cell_same g v f ks m w inverse))

-- The picture, once each step gave its part.
module _ (ns : List Node) (f : ℕ) (g : Geometry) (v : List ℕ) (w : Window) (inverse : Bool)
    (is_g : geometry_of ns ≡ Some g) (is_v : pixels_of ns ≡ Some v) (frame : is_frame g v f ≡ true) (is_w : window_for ns f g.stored ≡ Some w)
    (is_i : inverse_of ns ≡ Some inverse) where
  to-before : (m : Mask) → mask_for_before ns f ≡ Some m → steps_before ns f ≡ picture_before g v f w inverse m
  unfolding steps_before
  to-before m e = rw (is_g, is_v, frame, e, is_w, is_i)

  same-steps : (m : Mask) → mask_for_before ns f ≡ Some m → steps_before ns f ≡ steps_of ns f
  same-steps m e = to-before m e ∙ picture-same g v f w inverse m ∙
      sym (to-picture ns f g v w inverse is_g is_v frame is_w is_i (mask_in_quarters m) (mask-for-now ns f m e))

-- Where the steps of whole pixels give a picture, for any data set, those of quarters give the same.
pub same-pictures : SamePictures
unfolding steps_before
same-pictures ns f p e =
    let g = then_some (geometry_of ns) _ e in
    let v = then_some (pixels_of ns) _ g.1.1 in
    let t = check-some (is_frame g.0 v.0 f) _ v.1.1 in
    let m = then_some (mask_for_before ns f) _ t.1 in
    let w = then_some (window_for ns f g.0.stored) _ m.1.1 in
    let i = then_some (inverse_of ns) _ w.1.1 in
    sym (same-steps ns f g.0 v.0 w.0 i.0 g.1.0 v.1.0 t.0 w.1.0 i.1.0 m.0 m.1.0) ∙ e

-- ---- Of an accepted object the steps of whole pixels lacked nothing

module _ (ns : List Node) where
  item-whole : (o : Option ℕ) → if_present o (was_shift_at ns) ≡ true → GivesShift is_whole_shift_of (item_shift_at ns o)
  unfolding was_shift_at is_whole_shift_of whole_moves_of
  item-whole None e = (shift.None, (refl, refl))
  item-whole (Some k) e =
      let a = and_both (eqb (node_at ns k).vr FL) _ e in (
        item_shift (value_at ns k),
        (
          checked _ _ (both a.0 (eq-eqb _ _ (shift-length (value_at ns k) (whole-shift (value_at ns k) a.1)))),
          whole_item (value_at ns k) a.1,
        ),
      )

  frame-whole : (o : Option ℕ) → holds o (λ x. is_whole_shift (value_at ns x)) ≡ true
      → GivesShift is_whole_shift_of (need o (λ x. check (eqb (length (value_at ns x)) 8) (Some (frame_shift (value_at ns x)))))
  frame-whole None e = absurd (false-is-true e)
  frame-whole (Some x) e = (
    frame_shift (value_at ns x),
    (checked _ _ (eq-eqb _ _ (shift-length (value_at ns x) (whole-shift (value_at ns x) e))), whole-frame (value_at ns x) e),
  )

  was-items : (g : ℕ) → was_shift_group ns g ≡ true → every (was_shift_item ns) (inside ns g) ≡ true
  unfolding was_shift_group
  was-items g e = group-each ns g (was_shift_item ns) _ e

  shift-whole : (f j : ℕ) → rule36 ns ≡ true → rule37_before ns f ≡ true → Among j (mask_items ns) → shift_fitted ns j ≡ true
      → GivesShift is_whole_shift_of (shift_for ns f j)
  unfolding rule37_before item37_before shift_fitted was_shift_item
  shift-whole f j r e m w =
      shift_by ns is_whole_shift_of j (item-whole (find ns Tags.MaskSubPixelShift (inside ns j)) w) (was_shift_group ns) (group ns)
      (λ g k h a. frame-whole (find_vr ns Tags.MaskSubPixelShift FL (inside ns k))
      (and_both (has_id ns k) _ (every-at (was_shift_item ns) a (was-items g h))).1) f r e m

  moves_before_lem : (f j : ℕ) → GivesShift is_whole_shift_of (shift_for ns f j) → (m : Moves) × (moves_before ns f j ≡ Some m)
  unfolding moves_before
  moves_before_lem f j (s, (q, e)) = (whole_moves_of s, rw q (checked _ _ (whole-both s e)))

  -- The mask of an item whose steps lack nothing now lacked nothing then.
  mask-before : (f j : ℕ) (x : Moves) → moves_before ns f j ≡ Some x → (m : Mask) → mask_by ns f j ≡ Some m
      → (k : Mask) × (mask_by_before ns f j ≡ Some k)
  unfolding mask_by_before mask_by
  mask-before f j x moved m = go (operation_is ns (ascii "NONE") j) (operation_is ns (ascii "AVG_SUB") j) (operation_is ns (ascii "TID") j)
    where
      tid : (o : Option ℕ) → (k : Mask) × (on_tid_before ns f j o ≡ Some k)
      tid None = (native, refl)
      tid (Some k) = (masked (k ∷ []) x, rw moved)

      by-average : (o : Option (List ℕ)) (ks : List ℕ) → o ≡ Some ks
          → (k : Mask) × (then o (λ ks. then (moves_before ns f j) (λ y. Some (masked ks y))) ≡ Some k)
      by-average o ks e = (masked ks x, rw (e, moved))

      by-tid : (o : Option (Option ℕ)) (x : Option ℕ) → o ≡ Some x → (k : Mask) × (then o (on_tid_before ns f j) ≡ Some k)
      by-tid o x e = ((tid x).0, rw e (tid x).1)

      go : (a b c : Bool)
          → cond a (Some native) (cond b (then (average_frames ns j) (λ ks. then (moves_for ns f j) (λ y. Some (masked ks y))))
          (cond c (then (tid_frame ns f j) (on_tid ns f j)) None)) ≡ Some m
          → (k : Mask)
          × (cond a (Some native) (cond b (then (average_frames ns j) (λ ks. then (moves_before ns f j) (λ y. Some (masked ks y))))
          (cond c (then (tid_frame ns f j) (on_tid_before ns f j)) None)) ≡ Some k)
      go true b c e = (native, refl)
      go false true c e =
          let a = then_some (average_frames ns j) _ e in
          by-average (average_frames ns j) a.0 a.1.0
      go false false true e =
          let a = then_some (tid_frame ns f j) _ e in
          by-tid (tid_frame ns f j) a.0 a.1.0
      go false false false e = absurd (never e)

module _ (ns : List Node) (ok : AcceptedBefore ns) (n : ℕ) (count : frames_of ns ≡ Some n) (f : ℕ) (low : 1 ≤ f) (high : f ≤ n) where
  r35-before : rule35_before ns ≡ true
  unfolding rule_before per_frame first_frame frame_count
  r35-before = ok 35 (omega arith) (omega arith) 0 (omega arith) (omega arith)

  r37-before : rule37_before ns f ≡ true
  unfolding rule_before per_frame first_frame frame_count
  r37-before = ok 37 (omega arith) (omega arith) f low (rw count (omega arith))

  by-item : (j : ℕ) → Among j (mask_items ns) → (m : Mask) → mask_by ns f j ≡ Some m → (k : Mask) × (mask_by_before ns f j ≡ Some k)
  unfolding rule35_before
  by-item j a =
      let x = moves_before_lem ns f j (shift-whole ns f j (r36 ns (still-accepted ns ok)) r37-before a
      (every-at (shift_fitted ns) a r35-before)) in
      mask-before ns f j x.0 x.1

  on-before : (o : Option (Option ℕ)) → Applies (mask_items ns) o → (m : Mask) → then o (mask_on ns f) ≡ Some m
      → (k : Mask) × (then o (mask_on_before ns f) ≡ Some k)
  on-before o (nothing q) m e = (native, rw q)
  on-before o (applying.item j a q) m e =
      let k = by-item j a m (rw q at e) in
      (k.0, rw q k.1)

  mask-had : (m : Mask) → mask_for ns f ≡ Some m → (k : Mask) × (mask_for_before ns f ≡ Some k)
  unfolding mask_for mask_for_before
  mask-had m e = on-before (applying_to ns f) (applies ns f n (r31 ns (still-accepted ns ok)) (ranges ns (still-accepted ns ok) n count)) m e

-- An object accepted before is accepted still, and its pictures are the same, cell for cell.
pub keeps-pictures : KeepsPictures
keeps-pictures s b ok =
    let ns = nodes_of s in
    let now-ok = still-accepted ns ok in
    let o = object ns (λ tag k e. us-in-small s b tag k (root ns) e) now-ok in
    record {
      accepted = now-ok;
      pictures = λ f low high.
          let h : f ≤ o.n = subst (λ (x : Option ℕ). f ≤ number_or0 x) o.frames high in
          let d = nothing-lacks s b now-ok f low high in
          let w = windowed ns now-ok o f low h in
          let m = masking ns now-ok o.n o.frames o.some-frame o.few-frames f low h in
          let k = mask-had ns ok o.n o.frames f low h m.m m.mask in
          record {
            p = d.p;
            before = same-steps ns f o.g o.v w.w o.inverse o.geometry o.pixels (o.inside f low h) w.window
                o.photometric k.0 k.1 ∙ d.is;
            after = d.is;
          };
    }
