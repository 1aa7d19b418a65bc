-- Nothing in a value stands at a depth above the value's: each level that is read goes one deeper.
use Prim.Native.Nat.{ℕ, zero, suc, ◌+◌, ◌-◌, ◌≤◌}
use native.Mathlib.Omega.{arith}
use mathlib.Core.Bool.{Bool, true, false, cond}
use mathlib.Core.List.{List, [], ◌∷◌, ◌++◌}
use lib.ListN.{length}
use lib.Dec.{eqb}
use Rattle.std.specs.Prelude.{Result, Ok, Err}
use Rattle.dataset.specs.declared.Fault.{Fault}
use Rattle.dataset.specs.declared.Cursor.{Cursor}
use Rattle.dataset.specs.declared.Head.{Head}
use Rattle.dataset.specs.declared.Head.TheVariants as heads
use Rattle.basics.specs.Vr.{SQ}
use Rattle.dataset.specs.Header.{moved, element_at, item_at}
use Rattle.dataset.specs.declared.Row.{Row}
use Rattle.dataset.specs.Reading.{row, Run, done, refused, unfinished, on_head, on_run, level, depths, turns_for, elements_by, items_by, value_run}

-- No row stands above depth d.
abbrev pub Deep : ℕ → List Row → Type 0
Deep d [] = Unit {0}
Deep d (r ∷ rs) = (d ≤ r.depth) × Deep d rs

abbrev pub RunDeep : ℕ → Run → Type 0
RunDeep d (done stop next rows) = Deep d rows
RunDeep d (refused fault offset) = Unit {0}
RunDeep d unfinished = Unit {0}

deep-append : (d : ℕ) (a b : List Row) → Deep d a → Deep d b → Deep d (a ++ b)
deep-append d [] b p q = q
deep-append d (r ∷ rs) b p q = (p.0, deep-append d rs b p.1 q)

level-deep : (head : ℕ → ℕ → Result Head Fault) (inside : ℕ → ℕ → Cursor → Run) (depth first turns at least : ℕ) (rows : List Row) (d : ℕ) → d ≤ depth
    → ((n vr : ℕ) (v : Cursor) → RunDeep d (inside n vr v)) → Deep d rows → RunDeep d (level head inside depth first turns at least rows)
unfolding level
level-deep head inside depth first zero at least rows d k inner h = tt
level-deep head inside depth first (suc turns) at least rows d k inner h =
    by-head (head at least) (λ next tag more q. level-deep head inside depth first turns next (tag + 1) (rows ++ more) d k inner q)
  where
    Go : Type 0
    Go = (next tag : ℕ) (more : List Row) → Deep d (rows ++ more)
        → RunDeep d (level head inside depth first turns next (tag + 1) (rows ++ more))

    by-run : (r : Run) (tag vr : ℕ) (v : Cursor) → RunDeep d r → Go
        → RunDeep d (on_run r (λ stop next below. level head inside depth first turns next (tag + 1)
        (rows ++ (row tag vr depth v.at (stop - v.at) (length below) first ∷ below))))
    by-run (refused fault offset) tag vr v q go = tt
    by-run unfinished tag vr v q go = tt
    by-run (done stop next below) tag vr v q go =
        go next tag (row tag vr depth v.at (stop - v.at) (length below) first ∷ below)
        (deep-append d rows (row tag vr depth v.at (stop - v.at) (length below) first ∷ below) h (k, q))

    by-head : (x : Result Head Fault) → Go
        → RunDeep d (on_head x (λ fault. refused fault at) (λ next. done at next rows)
        (λ tag vr value. on_run (inside (first + length rows + 1) vr value) (λ stop next below. level head inside depth first turns next
        (tag + 1) (rows ++ (row tag vr depth value.at (stop - value.at) (length below) first ∷ below)))))
    by-head (Err fault) go = tt
    by-head (Ok (heads.End tag vr next)) go = h
    by-head (Ok (heads.Header tag vr v)) go = by-run (inside (first + length rows + 1) vr v) tag vr v (inner (first + length rows + 1) vr v) go

pub value-deep : (levels d : ℕ) → d ≤ 9 - levels → (s : List ℕ) (first vr : ℕ) (v : Cursor) → RunDeep d (value_run levels s first vr v)
unfolding value_run
value-deep zero d k s first vr v = tt
value-deep (suc levels) d k s first vr v =
    by-vr (eqb vr SQ) (items_by (λ n c. elements_by (value_run levels s) levels s n c) levels s first v)
    (level-deep (λ at least. item_at s (moved v at)) (λ n _ c. elements_by (value_run levels s) levels s n c) (depths - levels) first
    (turns_for s) v.at 0 [] d (omega arith)
    (λ n _ c. level-deep (λ at least. element_at s (moved c at) least levels) (value_run levels s) (depths - levels) n (turns_for s) c.at
    0 [] d (omega arith)
    (λ m vr₁ w. value-deep levels d (omega arith) s m vr₁ w) tt)
    tt)
  where
    by-vr : (b : Bool) (items : Run) → RunDeep d items → RunDeep d (cond b items (done v.end v.end []))
    by-vr true items h = h
    by-vr false items h = tt
