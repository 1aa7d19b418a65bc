-- What `read` answers and leaves in its buffer, and what `count` answers, from what their walks along the whole data set say.
use mathlib.Core.Path.{◌≡◌, refl, sym, ap, ◌∙◌, subst}
use Prim.Native.Nat.{ℕ, ◌*◌, ◌/◌, ◌≤◌, ◌<◌}
use native.Mathlib.Omega.{arith}
use borrow.Author.Tests.{lt-ltb, le-ltb, le-leb, lt-leb}
use mathlib.Core.Bool.{false}
use mathlib.Core.List.{List}
use lib.ListN.{length}
use Rattle.dataset.specs.declared.Cursor.{Cursor}
use Rattle.dataset.specs.declared.Walk.{Walk}
use Rattle.dataset.specs.declared.Refusal.{Refusal}
use Rattle.dataset.specs.declared.ReadError.{ReadError}
use Rattle.dataset.specs.declared.ReadError.TheVariants as errors
use Rattle.std.specs.Prelude.{Result, Ok, Err}
use Rattle.dataset.specs.Header.{cursor}
use Rattle.dataset.specs.declared.Row.{Row}
use Rattle.dataset.specs.Reading.{done, elements_at, whole, reading_of, depths}
use Rattle.basics.specs.Limits.{largest}
use Rattle.basics.specs.Fields.{Answers}
use Rattle.dataset.specs.Answer.{answer_of, count_of, buffer_of, fields_of, width}
use Rattle.dataset.specs.Internal.{Walked}
use Rattle.dataset.proofs.Level.{walked, below, stopped}
use Rattle.dataset.proofs.Buffer.{rows-first}
use Rattle.basics.proofs.Promised.{promised}

abbrev pub all : List ℕ → Cursor
all s = cursor 0 (length s) false

-- What the call has to say: its answer, and the buffer afterwards.
abbrev pub Read : List ℕ → List ℕ → Result ℕ ReadError → List ℕ → Type 0
Read s buffer r after = Answers fields_of r (answer_of (reading_of s) buffer) × (after ≡ buffer_of (reading_of s) buffer)

-- A walk from the start of the data set, once it is known how it came out.
pub from-start : (s : List ℕ) {c : Cursor} {part after : List ℕ} {r q : Result Walk Refusal} → c ≡ all s → r ≡ q
    → Walked (elements_at depths s 0 c) c 0 part after r → Walked (elements_at depths s 0 (all s)) (all s) 0 part after q
from-start s {c} {part} {after} {q = q} e f w =
    subst (λ (x : Cursor). Walked (elements_at depths s 0 x) x 0 part after q) e (walked f w)

pub reading_small : (s : List ℕ) → length s ≤ largest → reading_of s ≡ whole (elements_at depths s 0 (all s))
unfolding reading_of
reading_small s h = rw (le-ltb largest (length s) h)

pub too_large_lem : (s buffer : List ℕ) → largest < length s → Read s buffer (Err errors.TooLarge) buffer
unfolding reading_of
too_large_lem s buffer h = rw (lt-ltb largest (length s) h) (promised refl, refl)

module _ (s buffer : List ℕ) (h : length s ≤ largest) {part after : List ℕ} where
  pub refused : {r : Refusal} → Walked (elements_at depths s 0 (all s)) (all s) 0 part after (Err r)
      → Read s buffer (Err (errors.Refused r)) buffer
  refused w = rw (reading_small s h ∙ ap whole (stopped (elements_at depths s 0 (all s)) w).0) (promised refl, refl)

  module _ {f : Walk} (w : Walked (elements_at depths s 0 (all s)) (all s) 0 part after (Ok f)) where
    pub no_room : length buffer / width < f.rows → Read s buffer (Err errors.NoRoom) buffer
    no_room k =
        let b = below (elements_at depths s 0 (all s)) w in
        rw (reading_small s h ∙ ap whole b.is, lt-leb (width * length b.rows) (length buffer) (omega (arith, b.count)))
        (promised refl, refl)

    -- The second walk goes as the first.
    pub filled : {last : List ℕ} {g : Walk} → f.rows ≤ length buffer / width
        → Walked (elements_at depths s 0 (all s)) (all s) 0 buffer last (Ok g)
        → Read s buffer (Ok g.rows) last
    filled {last} {g} k v =
        let b = below (elements_at depths s 0 (all s)) w in
        let d = below (elements_at depths s 0 (all s)) v in
        let same : done f.stop f.next b.rows ≡ done g.stop g.next d.rows = sym b.is ∙ d.is in
        let rows : b.rows ≡ d.rows = cc in
        let n : length b.rows ≡ length d.rows = ap (λ (l : List Row). length l) rows in
        let room : width * length d.rows ≤ length buffer = omega (arith, b.count) in
        rw (reading_small s h ∙ ap whole d.is, le-leb (width * length d.rows) (length buffer) room)
        (promised (ap (λ (m : ℕ). Ok m) (omega (arith, d.count))), d.wrote (omega (arith, d.count)) ∙ rows-first buffer d.rows room)

    pub not-refused : {last : List ℕ} {r : Refusal} → Walked (elements_at depths s 0 (all s)) (all s) 0 buffer last (Err r) → ⊥
    not-refused v =
        let b = below (elements_at depths s 0 (all s)) w in
        let d = stopped (elements_at depths s 0 (all s)) v in
        let e = sym b.is ∙ d.0 in
        let z : ◌≡◌ {A = ℕ} 0 1 = cc in
        omega arith

-- ---- What `count` answers

pub uncounted : (s : List ℕ) → largest < length s → Err errors.TooLarge ≡ count_of (reading_of s)
unfolding reading_of
uncounted s h = rw (lt-ltb largest (length s) h) refl

module _ (s : List ℕ) (h : length s ≤ largest) {part after : List ℕ} where
  pub refused-count : {r : Refusal} → Walked (elements_at depths s 0 (all s)) (all s) 0 part after (Err r)
      → Err (errors.Refused r) ≡ count_of (reading_of s)
  refused-count w = rw (reading_small s h ∙ ap whole (stopped (elements_at depths s 0 (all s)) w).0) refl

  pub counted : {f : Walk} → Walked (elements_at depths s 0 (all s)) (all s) 0 part after (Ok f) → Ok f.rows ≡ count_of (reading_of s)
  counted w =
      let b = below (elements_at depths s 0 (all s)) w in
      rw (reading_small s h ∙ ap whole b.is) (ap (λ (m : ℕ). Ok m) (omega (arith, b.count)))
