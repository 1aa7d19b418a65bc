-- Demand 2, as one statement over bytes and buffers. Take any data set that passes the size limit and the reading checks, and a row
-- buffer with room for its rows. Then `judge` answers code 0 exactly when every rule holds at every frame at which it is asked. Otherwise
-- it answers code 9: the rule that it names is broken at the frame that it names, every earlier rule holds at all its frames, and that
-- rule holds at every lower frame. Either way it names the number of rows, the row buffer holds the rows of that reading and is untouched
-- beyond them, and the answer can be written on a slip. And every verdict that can be written on a slip is read back as that verdict,
-- with its row count. A rule that is asked at each frame is asked at frames 1 to N, any other once, at frame 0. Proved in proofs/Demand2.
use Rattle.std.specs.Prelude.{◌≡◌, true, false, List, ◌++◌, ◌⊎◌, ℕ, ◌+◌, ◌*◌, ◌≤◌, ◌<◌, length, drop, Ok}
use Rattle.dataset.specs.Reading.{reading_of, read}
use Rattle.dataset.specs.declared.Row.{Row}
use Rattle.dataset.specs.Answer.{width, flat, buffer_of}
use Rattle.node.specs.Nodes.{Node, nodes_of}
use Rattle.verdict.specs.Verdict.{last_rule, writable}
use Rattle.verdict.specs.declared.Verdict.{Verdict}
use Rattle.slip.specs.Slip.{slip_of, read_of}
use Rattle.rules.specs.All.{rule_at}
use Rattle.conformance.specs.Judging.{first_frame, frame_count, judge_of, fields_of, verdict_of}

-- The rule holds at the frames from f up to but not including e.
abbrev pub HoldsAt : List Node → ℕ → ℕ → ℕ → Type 0
HoldsAt ns rule f e = (g : ℕ) → f ≤ g → g < e → rule_at ns rule g ≡ true

-- The rule holds at every frame at which it is asked.
abbrev pub Holds : List Node → ℕ → Type 0
Holds ns rule = HoldsAt ns rule (first_frame rule) (first_frame rule + frame_count ns rule)

-- Every rule from q up to but not including r holds at all its frames.
abbrev pub AllHold : List Node → ℕ → ℕ → Type 0
AllHold ns q r = (p : ℕ) → q ≤ p → p < r → Holds ns p

-- Every rule holds at all its frames.
abbrev pub Sound : List Node → Type 0
Sound ns = AllHold ns 1 (1 + last_rule)

-- The rule is broken at the frame, it holds at every lower frame, and every earlier rule holds at all its frames.
pub record Broke (ns : List Node) (rule frame : ℕ) : Type 0 where
  pub low : 1 ≤ rule
  pub high : rule ≤ last_rule
  pub from : first_frame rule ≤ frame
  pub below : frame < first_frame rule + frame_count ns rule
  pub fails : rule_at ns rule frame ≡ false
  pub lower : HoldsAt ns rule (first_frame rule) frame
  pub earlier : AllHold ns 1 rule

-- What `judge` says about a data set that reads as these rows, with room for them.
pub record Judged (s buffer : List ℕ) (rows : List Row) : Type 0 where
  -- Code 0 exactly when every rule holds,
  pub accepted : (fields_of (judge_of s buffer)).code ≡ 0 → Sound (nodes_of s)
  pub sound : Sound (nodes_of s) → (fields_of (judge_of s buffer)).code ≡ 0
  -- otherwise code 9, with the first broken rule and at that rule the lowest frame.
  pub otherwise : ((fields_of (judge_of s buffer)).code ≡ 0)
      ⊎ (((fields_of (judge_of s buffer)).code ≡ 9)
      × Broke (nodes_of s) (fields_of (judge_of s buffer)).rule (fields_of (judge_of s buffer)).frame)
  pub count : (fields_of (judge_of s buffer)).rows ≡ length rows
  pub after : buffer_of (reading_of s) buffer ≡ flat rows ++ drop (width * length rows) buffer

pub record Demand2 : Type 0 where
  pub judged : (s buffer : List ℕ) (rows : List Row) → reading_of s ≡ read rows → width * length rows ≤ length buffer → Judged s buffer rows
  -- Every answer of `judge` can be written on a slip,
  pub recorded : (s buffer : List ℕ) → writable (verdict_of (judge_of s buffer)) ≡ true
  -- and what is written is read back.
  pub read_back : (v : Verdict) → writable v ≡ true → read_of (slip_of v) ≡ Ok v
