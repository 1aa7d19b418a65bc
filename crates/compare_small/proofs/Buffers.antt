-- Comparing depends on the row buffer only in whether the rows fit, as judging does.
use mathlib.Core.Path.{◌≡◌, ap}
use mathlib.Core.List.{List}
use Prim.Native.Nat.{ℕ, ◌*◌, ◌≤◌}
use lib.ListN.{length}
use Rattle.dataset.specs.Answer.{flat, width}
use Rattle.dataset.specs.Tree.{rows_of}
use Rattle.node.specs.Nodes.{nodes_of}
use Rattle.judge_small.proofs.Room.{roomy-accept}
use Rattle.compare.specs.Answer.{answer_for, compare_of}

pub roomy-compare : (s : List ℕ) (f : ℕ) (cells : List ℕ) (t : ℕ) (buffer : List ℕ) → width * length s ≤ 8 * length buffer
    → compare_of s f cells t buffer ≡ compare_of s f cells t (flat (rows_of s))
unfolding compare_of
roomy-compare s f cells t buffer h = ap (answer_for (nodes_of s) f cells t) (roomy-accept s buffer h)
