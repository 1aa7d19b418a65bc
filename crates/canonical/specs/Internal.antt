-- What the functions inside `write_canonical` require of and promise about the target. None of this is in the papers.
use Rattle.std.specs.Prelude.{◌≡◌, ℕ, ◌+◌, ◌≤◌, ◌<◌, List, length, drop}
use Rattle.std.proofs.lemmas.List.Edits.{sets}
use Rattle.node.specs.Nodes.{Node, next_node}
use Rattle.canonical.specs.Written.{written_size, written_of}

-- The bytes are at `at`, and nothing else has changed.
pub record Put (before after : List ℕ) (at : ℕ) (bytes : List ℕ) : Type 0 where
  pub is : after ≡ sets before at bytes
  pub kept : length after ≡ length before

-- The nodes from `from` up to `to` are complete, with all that is below them; and from `start` on the target has room for them and all
-- that follow.
pub record Fitting (ns : List Node) (target : List ℕ) (from to start : ℕ) : Type 0 where
  pub low : from ≤ to
  pub high : to ≤ length ns
  pub whole : (k : ℕ) → from ≤ k → k < to → next_node ns k ≤ to
  pub room : start + written_size (drop from ns) ≤ length target

-- The nodes from `from` up to `to` are written from `start` on, and the next one goes to `at`: once the rest is there, all nodes from
-- `from` on are written.
pub record WroteNodes (ns : List Node) (before after : List ℕ) (from start to at : ℕ) : Type 0 where
  pub place : at + written_size (drop to ns) ≡ start + written_size (drop from ns)
  pub kept : length after ≡ length before
  pub rest : sets after at (written_of (drop to ns)) ≡ sets before start (written_of (drop from ns))
