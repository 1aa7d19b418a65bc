-- The two words are tried in the order of the definition, and any other word lacks.
use mathlib.Core.Path.{sym, ◌∙◌}
use Rattle.value.specs.Words.{function_of}
use Rattle.value.proofs.function_of.Goals as goal

pub returns-then-is_word : goal.returns-then-is_word
unfolding function_of
returns-then-is_word c =
    rw (sym c.is_word.ensures ∙ c.if-is_word.true)

pub returns-then-is_word-2 : goal.returns-then-is_word-2
unfolding function_of
returns-then-is_word-2 c =
    rw (sym c.is_word.ensures ∙ c.if-is_word.false, sym c.is_word-else-is_word.ensures ∙ c.if-is_word-2.true)

pub returns-else-is_word-2 : goal.returns-else-is_word-2
unfolding function_of
returns-else-is_word-2 c =
    rw (sym c.is_word.ensures ∙ c.if-is_word.false, sym c.is_word-else-is_word.ensures ∙ c.if-is_word-2.false)
