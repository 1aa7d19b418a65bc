-- Values that are compared with a word: each is single.
use Rattle.std.specs.Prelude.{ℕ, Bool, true, false, cond, ◌&&◌, List, Option, Some, None}
use Rattle.basics.specs.Bytes.{same_bytes}
use Rattle.value.specs.Text.{ascii, is_single, value_of, trim_end, trimmed}
use Rattle.value.specs.declared.Function.{Function}
use Rattle.value.specs.declared.Function.TheVariants.{Linear, Exact}

-- Value k of a CS, without outer spaces, is the word.
unfoldable pub word_at : List ℕ → ℕ → List ℕ → Bool
word_at v k word = same_bytes (trimmed (value_of v k)) word

-- A CS is the word.
unfoldable pub is_word : List ℕ → List ℕ → Bool
is_word v word = is_single v && word_at v 0 word

-- A UI is the UID, without trailing zero bytes.
unfoldable pub is_uid : List ℕ → List ℕ → Bool
is_uid v uid = is_single v && same_bytes (trim_end 0 (value_of v 0)) uid

-- VOI LUT Function (0028,1056): LINEAR or LINEAR_EXACT. No other word is drawn.
unfoldable pub function_of : List ℕ → Option Function
function_of v = cond (is_word v (ascii "LINEAR")) (Some Linear) (cond (is_word v (ascii "LINEAR_EXACT")) (Some Exact) None)

abbrev pub is_function : Option Function → Bool
is_function (Some Linear) = true
is_function (Some Exact) = true
is_function None = false
