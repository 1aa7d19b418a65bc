-- How far judging can look (document 02, Q-11).
--
-- In plain words: for every accepted data set, the sum of all searches that judging is said to make is at most 40 × (N + 1) times the
-- number of its rows, where N is its number of frames. The 33 searches in the root and the 7 in each mask item together look at no more
-- than 40 times the rows; those of one frame look at no more than 25 times the rows.
use Rattle.std.specs.Prelude.{ℕ, ◌+◌, ◌*◌, ◌≤◌, ◌≡◌, List, length, Some}
use Rattle.node.specs.Nodes.{nodes_of}
use Rattle.element.specs.Frames.{frames_of}
use Rattle.conformance.specs.declared.Finding.TheVariants as finding
use Rattle.conformance.specs.Judging.{finding_of}
use Rattle.searches.specs.Searches.{searches_of}

abbrev pub Limit : Type 0
Limit =
    (s : List ℕ) (n : ℕ)
    → finding_of (nodes_of s) ≡ finding.Accepted
    → frames_of (nodes_of s) ≡ Some n
    → searches_of (nodes_of s) ≤ 40 * (n + 1) * length (nodes_of s)
