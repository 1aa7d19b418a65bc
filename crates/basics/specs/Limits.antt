-- How large a data set may be (document 01, "Reading"), and the limits of the rules that are local ones (document 01, "The rule list").
use Rattle.std.specs.Prelude.{ℕ, ◌/◌}

-- The most bytes that a data set may have: 1,073,741,824.
abbrev pub largest : ℕ
largest = 1073741824

-- The most rows that it can have: a row takes at least 8 bytes.
abbrev pub most_rows : ℕ
most_rows = largest / 8

-- The largest frame number (rule 15): 65,535.
abbrev pub last_frame : ℕ
last_frame = 65535

-- The most mask items of an object (rule 31), and the most mask frames of an item (rule 33).
abbrev pub most_masks : ℕ
most_masks = 16

abbrev pub most_mask_frames : ℕ
most_mask_frames = 64
