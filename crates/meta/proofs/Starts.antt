-- Where the head is good the data set starts where the head ends, and that is within the file: it is tested.
use Rattle.std.specs.Prelude.{Option, Some, None, Result, Ok, Err}
use mathlib.Core.Path.{◌≡◌, refl, subst}
use Prim.Native.Nat.{ℕ, ◌≤◌}
use native.Mathlib.Omega.{arith}
use borrow.Author.Tests.{leb-true}
use mathlib.Core.Bool.{Bool, true, false, cond}
use mathlib.Core.List.{List}
use lib.ListN.{length}
use lib.Dec.{leb}
use Rattle.dataset.specs.Reading.{Run, done, refused, unfinished}
use Rattle.value.specs.Text.{is_single}
use Rattle.value.specs.Words.{is_uid}
use Rattle.meta.specs.declared.Place.{Place}
use Rattle.meta.specs.declared.HeadFindings.{HeadFindings}
use Rattle.meta.specs.declared.FileHead.{FileHead}
use Rattle.meta.specs.declared.HeadError.{HeadError}
use Rattle.meta.specs.declared.HeadError.TheVariants.{NoMark, BadHead, OtherSyntax}
use Rattle.meta.specs.Meta.{explicit_little_endian, is_marked, has_group_length, head_end, head_of, none_found, found_in, part, named, of_found, of_run}
use Rattle.meta.specs.Meta.{headed_of, meta_of}
use Rattle.meta.proofs.Heads.{either}

-- A good head names that end.
abbrev EndsAt : ℕ → Result FileHead HeadError → Type 0
EndsAt end (Ok h) = h.data_set ≡ end
EndsAt end (Err e) = Unit {0}

named-ends : (s : List ℕ) (class syntax : Option Place) → EndsAt (head_end s) (named s class syntax)
named-ends s None syntax = tt
named-ends s (Some class) None = tt
named-ends s (Some class) (Some syntax) =
    let At : Result FileHead HeadError → Type 0 = EndsAt (head_end s) in
    either At (is_single (part s class.start class.stop)) {y = Err BadHead}
    (either At (is_single (part s syntax.start syntax.stop)) {y = Err BadHead}
    (either At (is_uid (part s syntax.start syntax.stop) explicit_little_endian) {x = Ok (record { data_set = head_end s; class = class })}
    {y = Err OtherSyntax} refl tt) tt)
    tt

found-ends : (s : List ℕ) (f : Option HeadFindings) → EndsAt (head_end s) (of_found s f)
found-ends s None = tt
found-ends s (Some f) = named-ends s f.class f.syntax

run_ends : (s : List ℕ) (o : Run) → EndsAt (head_end s) (of_run s o)
run_ends s (refused code offset) = tt
run_ends s unfinished = tt
run_ends s (done stop next rows) = found-ends s (found_in none_found rows)

-- A good head ends within the file.
abbrev StartsWithin : ℕ → Result FileHead HeadError → Type 0
StartsWithin size (Ok h) = h.data_set ≤ size
StartsWithin size (Err e) = Unit {0}

ends-within : (end size : ℕ) → end ≤ size → (m : Result FileHead HeadError) → EndsAt end m → StartsWithin size m
ends-within end size h (Ok f) e = omega (arith, e)
ends-within end size h (Err x) e = tt

headed-within : (s : List ℕ) → StartsWithin (length s) (headed_of s)
unfolding headed_of
headed-within s = go (leb (head_end s) (length s)) refl
  where
    go : (t : Bool) → leb (head_end s) (length s) ≡ t → StartsWithin (length s) (cond t (of_run s (head_of s)) (Err BadHead))
    go true e = ends-within (head_end s) (length s) (leb-true (head_end s) (length s) e) (of_run s (head_of s)) (run_ends s (head_of s))
    go false e = tt

meta-within : (s : List ℕ) → StartsWithin (length s) (meta_of s)
unfolding meta_of
meta-within s = go (is_marked s) (has_group_length s)
  where
    go : (t u : Bool) → StartsWithin (length s) (cond t (cond u (headed_of s) (Err BadHead)) (Err NoMark))
    go true true = headed-within s
    go true false = tt
    go false u = tt

pub starts-within : (s : List ℕ) {h : FileHead} → meta_of s ≡ Ok h → h.data_set ≤ length s
starts-within s e = subst (λ (m : Result FileHead HeadError). StartsWithin (length s) m) e (meta-within s)
