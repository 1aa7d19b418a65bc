-- Demand 3 over drawing and mapping, proved: drawing is from `Rattle.display`; that the mapping lacks nothing is from Accepted and
-- Maps; the rest follows what `linear` answers back to what it was asked.
use Rattle.std.specs.Prelude.{Option, Some, None, Result, Ok, Err}
use mathlib.Core.Path.{◌≡◌, refl, ap, ◌∙◌, subst}
use mathlib.Core.Bool.{Bool, true, false, cond}
use mathlib.Core.List.{List, ◌++◌}
use Prim.Native.Nat.{ℕ, ◌≤◌}
use native.Mathlib.Omega.{arith}
use lib.ListN.{length, drop}
use lib.Dec.{leb}
use borrow.Author.Tests.{le-leb, leb-true}
use Rattle.basics.proofs.Tests.{false-is-true}
use Rattle.value.specs.Number.{number_or0}
use Rattle.basics.specs.Bytes.{IsBytes}
use Rattle.dataset.specs.Tree.{rows_of}
use Rattle.node.specs.Nodes.{Node, nodes_of, root}
use Rattle.element.specs.Frames.{frames_of}
use Rattle.display.specs.Show.{is_frame_of, image_size}
use Rattle.display.specs.Drawing.{IsAccepted, IsFrame, HasRoom}
use Rattle.display.proofs.Codes.{was-frame, judged-accepted, was-judged}
use Rattle.display.proofs.Objects.{object}
use Rattle.display.proofs.Small.{us-in-small}
use Rattle.display.proofs.Lacking.{geometry-size}
use Rattle.display.proofs.Drawing as display
use Rattle.linear.specs.declared.LinearError.{LinearError}
use Rattle.linear.specs.declared.LinearError.TheVariants as error
use Rattle.linear.specs.Mapping.{linear_for, is_present, has_linear_item, mapping_by, mapping_of}
use Rattle.linear.specs.Answer.{entries_of, accepted_answer, answer_for as linear_from, linear_of, values_left, fields_of}
use Rattle.linear.specs.Demand3.{Mapped, LinearBack, Demand3}
use Rattle.linear.proofs.Accepted.{mappable}
use Rattle.linear.proofs.Maps as maps

-- ---- Where there is room, the answer is the numbers

module _ (s : List ℕ) (f : ℕ) (buffer values : List ℕ) where
  answer-mapped : (n : ℕ) → IsFrame s f → has_linear_item (nodes_of s) f ≡ true → HasRoom s buffer values
      → accepted_answer (nodes_of s) f values n ≡ Ok n
  unfolding accepted_answer
  answer-mapped n i m r =
      rw (
        le-leb 1 f i.low,
        le-leb f (number_or0 (frames_of (nodes_of s))) i.high,
        m,
        le-leb (image_size (nodes_of s)) (length values) r.cells,
      )

  maps-to : (a : IsAccepted s) → IsFrame s f → has_linear_item (nodes_of s) f ≡ true → HasRoom s buffer values
      → linear_of s f buffer values ≡ Ok (length (rows_of s))
  unfolding linear_of
  maps-to a i m r = rw (judged-accepted s buffer a r.rows, answer-mapped (length (rows_of s)) i m r)

  -- ---- And from numbers back to what there was

  -- What the answer of an accepted object says of the frame, its item and the values buffer.
  record Taken (n : ℕ) : Type 0 where
    pub frame : IsFrame s f
    pub item : has_linear_item (nodes_of s) f ≡ true
    pub cells : image_size (nodes_of s) ≤ length values

  was-taken : (n : ℕ) → (fields_of (accepted_answer (nodes_of s) f values n)).code ≡ 0 → Taken n
  unfolding accepted_answer
  was-taken n e = go (is_frame_of (nodes_of s) f) (has_linear_item (nodes_of s) f) (leb (image_size (nodes_of s)) (length values)) refl refl refl e
    where
      go : (t m u : Bool) → is_frame_of (nodes_of s) f ≡ t → has_linear_item (nodes_of s) f ≡ m → leb (image_size (nodes_of s)) (length values) ≡ u
          → (fields_of (cond t (cond m (cond u (Ok n) (Err error.NoValuesRoom)) (Err error.NoItem)) (Err error.NoFrame))).code ≡ 0 → Taken n
      go true true true p w q e =
          record { frame = was-frame s f p; item = w; cells = leb-true (image_size (nodes_of s)) (length values) q }
      go true true false p w q e = absurd (omega (arith, e))
      go true false u p w q e = absurd (omega (arith, e))
      go false m u p w q e = absurd (omega (arith, e))

  was-accepted : (fields_of (linear_of s f buffer values)).code ≡ 0
      → IsAccepted s × (IsFrame s f × ((has_linear_item (nodes_of s) f ≡ true) × HasRoom s buffer values))
  unfolding linear_of
  was-accepted e =
      let j = was-judged s buffer (λ a. (fields_of (linear_from (nodes_of s) f values a)).code)
      (record { refused = λ refusal. refl }) e in
      let d = was-taken (length j.accepted.rows) j.code in
      (j.accepted, (d.frame, (d.item, record { rows = j.room; cells = d.cells })))

  -- ---- What is handed back

  entries-is : (l : List ℕ) → mapping_of (nodes_of s) f ≡ Some l → entries_of (nodes_of s) f ≡ l
  unfolding entries_of
  entries-is l e = rw e

  values-is : (a : IsAccepted s) → IsFrame s f → has_linear_item (nodes_of s) f ≡ true → HasRoom s buffer values
      → values_left s f buffer values ≡ entries_of (nodes_of s) f ++ drop (length (entries_of (nodes_of s) f)) values
  unfolding values_left
  values-is a i m r = rw (maps-to a i m r)

  handed : (a : IsAccepted s) → IsFrame s f → has_linear_item (nodes_of s) f ≡ true → HasRoom s buffer values → Mapped (nodes_of s) f
      → LinearBack s f buffer values
  handed a i m r w =
      record {
        l = w.l;
        is = w.is;
        rows = ap (λ (x : Result ℕ LinearError). (fields_of x).rows) (maps-to a i m r);
        numbers =
            subst (λ (n : ℕ). values_left s f buffer values ≡ w.l ++ drop n values) w.size
            (subst (λ (x : List ℕ). values_left s f buffer values ≡ x ++ drop (length x) values) (entries-is w.l w.is)
            (values-is a i m r));
      }

-- ---- The mapping lacks nothing

-- The item that a frame has.
item_of : (o : Option (Option ℕ)) → is_present o ≡ true → (j : ℕ) × (o ≡ Some (Some j))
item_of None e = absurd (false-is-true e)
item_of (Some None) e = absurd (false-is-true e)
item_of (Some (Some j)) e = (j, refl)

mapping-by : (ns : List Node) (f j : ℕ) → linear_for ns f ≡ Some (Some j) → mapping_of ns f ≡ mapping_by ns f j
unfolding mapping_of
mapping-by ns f j e = rw e

lacks-nothing : (s : List ℕ) → IsBytes s → (f : ℕ) → IsAccepted s → IsFrame s f → has_linear_item (nodes_of s) f ≡ true → Mapped (nodes_of s) f
unfolding has_linear_item
lacks-nothing s b f a i m =
    let ns = nodes_of s in
    let o = object ns (λ tag k e. us-in-small s b tag k (root ns) e) a.sound in
    let h : f ≤ o.n = subst (λ (x : Option ℕ). f ≤ number_or0 x) o.frames i.high in
    let j = item_of (linear_for ns f) m in
    let p = mappable s b a.sound o.n f j.0 o.frames i.low h j.1 (image_size ns) (omega arith) in
    let t = maps.by-mappable ns f j.0 (image_size ns) p in
    record { l = t.0; is = mapping-by ns f j.0 j.1 ∙ t.1.0; size = t.1.1 ∙ geometry-size ns p.g p.geometry }

-- ---- The claim

pub demand-3 : Demand3
demand-3 s b f =
    record {
      drawing = display.drawing s b f;
      mappable = lacks-nothing s b f;
      mapped = λ buffer values a i m r. ap (λ (x : Result ℕ LinearError). (fields_of x).code) (maps-to s f buffer values a i m r);
      nothing-else = was-accepted s f;
      as-mapped = λ buffer values e.
          let w = was-accepted s f buffer values e in
          handed s f buffer values w.0 w.1.0 w.1.1.0 w.1.1.1 (lacks-nothing s b f w.0 w.1.0 w.1.1.0);
    }
