-- What is found in the head's elements: each element notes itself, and what stands in its value notes nothing, since it stands
-- deeper. So the loop along the elements keeps what the rows so far come to.
use Rattle.std.specs.Prelude.{Option, Some, None, Result, Ok, Err}
use mathlib.Core.Path.{◌≡◌, refl, sym, ap, ◌∙◌, subst}
use Prim.Native.Nat.{ℕ, ◌+◌, ◌-◌, ◌/◌, ◌≤◌}
use native.Mathlib.Omega.{arith}
use borrow.Author.Tests.{ne_eqb}
use mathlib.Core.Bool.{Bool, true, false, cond}
use mathlib.Core.List.{List, [], ◌∷◌, ◌++◌}
use lib.ListN.{length}
use lib.Dec.{eqb}
use Rattle.dataset.specs.declared.Cursor.{Cursor}
use Rattle.dataset.specs.declared.Head.{Head}
use Rattle.dataset.specs.declared.Head.TheVariants as heads
use Rattle.dataset.specs.declared.Walk.{Walk}
use Rattle.dataset.specs.declared.Fault.{Fault}
use Rattle.dataset.specs.declared.Refusal.{Refusal}
use Rattle.dataset.specs.Header.{cursor, moved, element_at}
use Rattle.dataset.specs.declared.Row.{Row}
use Rattle.dataset.specs.Reading.{row, Run, elements_at, value_run, depths}
use Rattle.dataset.specs.Internal.{Within, Walked}
use Rattle.dataset.proofs.Level as level
use Rattle.dataset.proofs.Depths.{Deep, RunDeep, value-deep}
use Rattle.meta.specs.declared.HeadFindings.{HeadFindings}
use Rattle.meta.specs.Meta.{start, uid_at, none_found, noted, found_in}
use Rattle.basics.specs.Tags.{MediaStorageSOPClassUID, TransferSyntaxUID}
use Rattle.basics.specs.Vr.{UI}
use Rattle.meta.specs.Internal.{UidWithin, FoundWithin, walk_of}

-- ---- Rows one after another

found-append : (a b : List Row) (f : Option HeadFindings) → found_in f (a ++ b) ≡ found_in (found_in f a) b
unfolding found_in
found-append [] b f = refl
found-append (r ∷ rs) b f = found-append rs b _

found-deep : (f : Option HeadFindings) (rows : List Row) → Deep 1 rows → found_in f rows ≡ f
unfolding found_in
found-deep f [] d = refl
found-deep f (r ∷ rs) d = rw (ne_eqb r.depth 0 (λ e. omega (arith, e, d.0))) (found-deep f rs d.1)

found_first : (f : Option HeadFindings) (tag vr offset size descendants parent : ℕ) (rows : List Row)
    → found_in f (row tag vr 0 offset size descendants parent ∷ rows) ≡ found_in (noted f tag vr offset size) rows
unfolding found_in
found_first f tag vr offset size descendants parent rows = refl

pub found-next : (f : Option HeadFindings) (rows below : List Row) (tag vr offset size descendants parent : ℕ) → Deep 1 below
    → found_in f (rows ++ (row tag vr 0 offset size descendants parent ∷ below)) ≡ noted (found_in f rows) tag vr offset size
found-next f rows below tag vr offset size descendants parent d =
    found-append rows (row tag vr 0 offset size descendants parent ∷ below) f
    ∙ found_first (found_in f rows) tag vr offset size descendants parent below
    ∙ found-deep (noted (found_in f rows) tag vr offset size) below d

found_none : found_in none_found [] ≡ none_found
unfolding found_in
found_none = refl

-- ---- Values within the file

-- What holds of both outcomes of a test holds of the outcome.
pub either : {A : Type 0} (P : A → Type 0) (t : Bool) {x y : A} → P x → P y → P (cond t x y)
either P true p q = p
either P false p q = q

uid-within : (size vr offset length : ℕ) → offset + length ≤ size → UidWithin size (uid_at vr offset length)
unfolding uid_at
uid-within size vr offset length h = either (UidWithin size) (eqb vr UI) (either (UidWithin size) (eqb length 0) tt (omega arith, h)) tt

pub noted-within : (size : ℕ) (f : Option HeadFindings) (tag vr offset length : ℕ) → FoundWithin size f → offset + length ≤ size
    → FoundWithin size (noted f tag vr offset length)
unfolding noted
noted-within size None tag vr offset length w h = tt
noted-within size (Some f) tag vr offset length w h =
    either (FoundWithin size) (eqb (tag / 65536) 2) (record {
      class-in = either (UidWithin size) (eqb tag MediaStorageSOPClassUID) (uid-within size vr offset length h) w.class-in;
      syntax-in = either (UidWithin size) (eqb tag TransferSyntaxUID) (uid-within size vr offset length h) w.syntax-in;
    }) tt

-- ---- The loop along the elements, from their start up to `end`

module _ (s : List ℕ) (end : ℕ) where
  abbrev pub from : Cursor
  from = cursor start end false

  abbrev pub stands : ℕ → ℕ → Result Head Fault
  stands a least = element_at s (moved from a) least 8

  abbrev pub Here : List ℕ → List ℕ → ℕ → ℕ → ℕ → Type 0
  Here none₀ none at n least = level.Here stands (value_run depths s) 0 (elements_at depths s 0 from) from 0 none₀ none at n least

  -- The rows so far come to what was found, which lies within the file.
  abbrev Keeps : List ℕ → List ℕ → ℕ → ℕ → ℕ → Option HeadFindings → Type 0
  Keeps none₀ none at n least found = (i : Here none₀ none at n least)
      × ((found_in none_found i.rows ≡ found) × FoundWithin (length s) found)

  abbrev pub Kept : List ℕ → List ℕ → Cursor → ℕ → ℕ → Option HeadFindings → Type 0
  Kept none₀ none here n least found = (here ≡ moved from here.at) × Keeps none₀ none here.at n least found

  module _ (none₀ : List ℕ) where
    pub begun : start ≤ end → end ≤ length s → Kept none₀ none₀ from 0 0 none_found
    begun p q = (
      refl,
      (
        record {
          rows = [];
          turns = length s + 1;
          rest = refl;
          enough = omega arith;
          low = omega arith;
          high = omega arith;
          count = omega arith;
          few = omega arith;
          kept = refl;
          wrote = λ _. refl;
        },
        (found_none, record { class-in = tt; syntax-in = tt }),
      ),
    )

    module _ {none : List ℕ} {here : Cursor} {n least : ℕ} {found : Option HeadFindings} (k : Kept none₀ none here n least found) where
      -- What the header says stands there.
      pub there : {h g : Result Head Fault} → h ≡ element_at s here least 8 → Within here h → h ≡ g
          → (stands here.at least ≡ g) × Within (moved from here.at) g
      there v w e = level.stands from here (λ (x : Cursor). element_at s x least 8) k.0 (v, w) e

      pub ended : {tag vr : ℕ} {next : Cursor} → stands here.at least ≡ Ok (heads.End tag vr next)
          → found ≡ walk_of (elements_at depths s 0 from)
      ended e =
          sym k.1.1.0
          ∙ ap walk_of (level.ended-run stands (value_run depths s) 0 (elements_at depths s 0 from) from 0 none₀ k.1.0 e)

      refused-by : {buffer after : List ℕ} {r : Refusal} → Walked (elements_at depths s 0 from) from 0 buffer after (Err r)
          → None ≡ walk_of (elements_at depths s 0 from)
      refused-by w = sym (ap walk_of (level.stopped (elements_at depths s 0 from) w).0)

      pub refuses : {fault : Fault} → stands here.at least ≡ Err fault → None ≡ walk_of (elements_at depths s 0 from)
      refuses e = refused-by (level.refuses stands (value_run depths s) 0 (elements_at depths s 0 from) from 0 none₀ k.1.0 e)

      module _ {tag vr : ℕ} {v : Cursor} (e : stands here.at least ≡ Ok (heads.Header tag vr v))
          (w : Within (moved from here.at) (Ok (heads.Header tag vr v))) {none₁ : List ℕ} where
        pub fails : {r : Refusal} → Walked (value_run depths s (n + 1) vr v) v (n + 1) none none₁ (Err r)
            → None ≡ walk_of (elements_at depths s 0 from)
        fails u = refused-by (level.fails stands (value_run depths s) 0 (elements_at depths s 0 from) from 0 none₀ k.1.0 e w u)

        pub goes_on : {f : Walk} {r : Cursor} {more : Option HeadFindings} → end ≤ length s → length none₀ ≡ 0 → length none₁ ≡ length none
            → Walked (value_run depths s (n + 1) vr v) v (n + 1) none none₁ (Ok f)
            → more ≡ noted found tag vr v.at (f.stop - v.at) → r ≡ moved here f.next → Kept none₀ none₁ r f.rows (tag + 1) more
        goes_on {f} {r} {more} q z l u y p =
            let b = level.below (value_run depths s (n + 1) vr v) u in
            let x = level.onward stands (value_run depths s) 0 (elements_at depths s 0 from) from 0 none₀ k.1.0 e w (length b.rows) l refl u
            (sym b.count) (λ h. absurd (omega (arith, h, l, z, k.1.0.kept))) in
            let d : Deep 1 x.inner = subst (λ (o : Run). RunDeep 1 o) x.is (value-deep 8 1 (omega arith) s (n + 1) vr v) in
            let g : found_in none_found x.here.rows ≡ more =
            ap (found_in none_found) x.more
            ∙ found-next none_found k.1.0.rows x.inner tag vr v.at (f.stop - v.at) (length x.inner) 0 d
            ∙ ap (λ (t : Option HeadFindings). noted t tag vr v.at (f.stop - v.at)) k.1.1.0
            ∙ sym y in
            let within : FoundWithin (length s) more =
            subst (λ (t : Option HeadFindings). FoundWithin (length s) t) (sym y)
            (noted-within (length s) found tag vr v.at (f.stop - v.at) k.1.1.1 (omega (arith, b.within, w, q))) in
            let a = level.moved-along from here r k.0 p in
            (a.0, subst (λ (t : ℕ). Keeps none₀ none₁ t f.rows (tag + 1) more) (sym a.1) (x.here, (g, within)))
