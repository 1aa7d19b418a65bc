-- The readers that call each other. What is called stands behind a header of at least 8 bytes, and ends no later, or else is the same cursor,
-- one function down the ring. Each loop keeps `Level.Along`: what is left to read comes to what the whole level does.
use Prim.Native.Nat.{ℕ, ◌+◌, ◌-◌, ◌*◌}
use Rattle.dataset.proofs.Level as level
use Rattle.dataset.specs.Header.{moved, element_at, item_at}
use Rattle.dataset.specs.Internal.{items_at}
use Rattle.dataset.specs.Reading.{elements_at, value_run, depths}
use Rattle.dataset.specs.declared.Cursor.{Cursor}
use Rattle.dataset.proofs.+readers.Given as goal

-- The bytes that the cursor has left.
abbrev pub bytes_left : Cursor → ℕ
bytes_left c = c.end - c.at

abbrev pub decreases-read_item : goal.decreases-read_item
decreases-read_item l = 2 * bytes_left l.c

abbrev pub decreases-read_value : goal.decreases-read_value
decreases-read_value l = 2 * bytes_left l.value + 1

abbrev pub decreases-read_sequence : goal.decreases-read_sequence
decreases-read_sequence l = 2 * bytes_left l.c

abbrev pub decreases-read_member : goal.decreases-read_member
decreases-read_member l = 2 * bytes_left l.c + 1

abbrev pub invariant-read_item-loop-fault : goal.invariant-read_item-loop-fault
invariant-read_item-loop-fault loop =
    level.Along (λ a l. element_at loop.s (moved loop.initial.here a) l loop.levels) (value_run loop.levels loop.s) (depths - loop.levels)
    (elements_at loop.levels loop.s loop.first loop.initial.here) loop.initial.here
    loop.first
    loop.initial.rows loop.rows loop.here loop.n loop.least

abbrev pub decreases-read_item-loop-fault : goal.decreases-read_item-loop-fault
decreases-read_item-loop-fault l = bytes_left l.here

abbrev pub invariant-read_sequence-loop-fault : goal.invariant-read_sequence-loop-fault
invariant-read_sequence-loop-fault loop =
    (least : ℕ) × level.Along (λ a l. item_at loop.s (moved loop.initial.here a)) (λ n _ v. elements_at loop.levels loop.s n v)
    (depths - loop.levels)
    (items_at loop.levels loop.s loop.first loop.initial.here) loop.initial.here loop.first loop.initial.rows loop.rows loop.here loop.n least

abbrev pub decreases-read_sequence-loop-fault : goal.decreases-read_sequence-loop-fault
decreases-read_sequence-loop-fault l = bytes_left l.here
