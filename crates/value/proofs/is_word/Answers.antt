-- Several values are no word; a single one is compared as the definition has it.
use Rattle.value.specs.Words.{is_word}
use Rattle.value.proofs.is_word.Goals as goal

pub returns-then-is_single : goal.returns-then-is_single
unfolding is_word
returns-then-is_single c =
    rw (c.is_word_at.ensures, ← c.is_single.ensures, c.if-is_single.true)

pub returns-else-is_single : goal.returns-else-is_single
unfolding is_word
returns-else-is_single c =
    rw (← c.is_single.ensures, c.if-is_single.false)
