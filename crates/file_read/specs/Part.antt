-- "Hand the data set on as the part of the file that it is" (document 02, Q-1): the reference points into the lent file itself, so
-- nothing is copied, and its bytes are the file's from there on.
use Rattle.std.specs.Prelude.{◌≡◌, ℕ, ◌+◌, List, drop}
use Rattle.std.specs.Borrow.{Bor}

pub record Rest (file : Bor (List ℕ)) (from : ℕ) (r : Bor (List ℕ)) : Type 0 where
  pub block : r.ref_ptr.0 ≡ file.ref_ptr.0
  pub place : r.ref_ptr.1 ≡ file.ref_ptr.1 + from
  pub bytes : r.now ≡ drop from file.now
