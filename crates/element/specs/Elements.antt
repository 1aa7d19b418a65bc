-- Reads of one element among members, by its tag: the vocabulary of the rules and the drawing steps. Each asks for the element's VR; a
-- read that finds no answer gives `None`, and a test of it is false.
use Rattle.std.specs.Prelude.{ℕ, ◌%◌, List, [], ◌∷◌, Bool, true, false, cond, ◌&&◌, ◌||◌, length, eqb, leb, Option, Some, None}
use Rattle.basics.specs.Vr.{SQ, CS, UI, US}
use Rattle.value.specs.Number.{us_of}
use Rattle.value.specs.declared.Function.{Function}
use Rattle.value.specs.declared.Function.TheVariants as function
use Rattle.value.specs.Words.{is_word, is_uid, function_of}
use Rattle.node.specs.Nodes.{Node, node_at, inside}
use Rattle.node.specs.Find.{holds, and_then, find, find_vr}
use Rattle.basics.specs.Tags.{VOILUTFunction}

abbrev pub value_at : List Node → ℕ → List ℕ
value_at ns i = (node_at ns i).value

-- A single US.
abbrev pub us_in : List Node → ℕ → List ℕ → Option ℕ
us_in ns tag is = and_then (find_vr ns tag US is) (λ i. us_of (value_at ns i))

-- A CS that is the word.
abbrev pub cs_is : List Node → ℕ → List ℕ → List ℕ → Bool
cs_is ns tag word is = holds (find_vr ns tag CS is) (λ i. is_word (value_at ns i) word)

-- A UI that is the UID.
abbrev pub ui_is : List Node → ℕ → List ℕ → List ℕ → Bool
ui_is ns tag uid is = holds (find_vr ns tag UI is) (λ i. is_uid (value_at ns i) uid)

-- ---- Sequences and items

abbrev pub first : List ℕ → Option ℕ
first [] = None
first (i ∷ is) = Some i

-- Whether a node is a sequence of one item, and that item.
unfoldable pub one_item : List Node → ℕ → Bool
one_item ns i = eqb (node_at ns i).vr SQ && eqb (length (inside ns i)) 1

unfoldable pub the_item : List Node → ℕ → Option ℕ
the_item ns i = cond (one_item ns i) (first (inside ns i)) None

-- The items of the sequence of the tag; none if there is no such sequence.
abbrev pub inside_of : List Node → Option ℕ → List ℕ
inside_of ns None = []
inside_of ns (Some i) = inside ns i

unfoldable pub items_in : List Node → ℕ → List ℕ → List ℕ
items_in ns tag is = inside_of ns (find_vr ns tag SQ is)

-- ---- Every member, and some member

unfoldable pub every : (ℕ → Bool) → List ℕ → Bool
every p [] = true
every p (i ∷ is) = p i && every p is

unfoldable pub some : (ℕ → Bool) → List ℕ → Bool
some p [] = false
some p (i ∷ is) = p i || some p is

-- ---- Pairs of numbers

-- Node i holds pairs of US numbers, at least one.
abbrev pub has_pairs : List Node → ℕ → Bool
has_pairs ns i = eqb (node_at ns i).vr US && (leb 4 (length (value_at ns i)) && eqb (length (value_at ns i) % 4) 0)

-- ---- The function of a window

-- VOI LUT Function (0028,1056) CS among the members of a VOI item: LINEAR if it is absent, none if it has another VR.
abbrev pub function_on : List Node → Option ℕ → Option Function
function_on ns None = Some function.Linear
function_on ns (Some k) = cond (eqb (node_at ns k).vr CS) (function_of (value_at ns k)) None

unfoldable pub function_in : List Node → List ℕ → Option Function
function_in ns is = function_on ns (find ns VOILUTFunction is)
