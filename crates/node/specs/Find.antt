-- Finding an element among members, and what "present" and "has" mean (document 01, "The rule list"). A read that finds nothing gives
-- `None`.
use Rattle.std.specs.Prelude.{ℕ, List, [], ◌∷◌, Bool, true, false, cond, not, length, eqb, Option, Some, None}
use Rattle.basics.specs.Vr.{SQ}
use Rattle.node.specs.Nodes.{Node, node_at}

-- ---- What a read answers, put to use

-- Something is there, and p holds for it.
abbrev pub holds : Option ℕ → (ℕ → Bool) → Bool
holds None p = false
holds (Some n) p = p n

-- If something is there, p holds for it.
abbrev pub if_present : Option ℕ → (ℕ → Bool) → Bool
if_present None p = true
if_present (Some n) p = p n

abbrev pub absent : Option ℕ → Bool
absent None = true
absent (Some n) = false

abbrev pub and_then : Option ℕ → (ℕ → Option ℕ) → Option ℕ
and_then None f = None
and_then (Some n) f = f n

abbrev pub or_else : Option ℕ → Option ℕ → Option ℕ
or_else None other = other
or_else (Some n) other = Some n

-- ---- Elements

-- The element of the tag among members, of any VR.
unfoldable pub find : List Node → ℕ → List ℕ → Option ℕ
find ns tag [] = None
find ns tag (i ∷ is) = cond (eqb (node_at ns i).tag tag) (Some i) (find ns tag is)

-- The same, with the VR.
unfoldable pub of_vr : List Node → ℕ → ℕ → Option ℕ
of_vr ns vr i = cond (eqb (node_at ns i).vr vr) (Some i) None

abbrev pub find_vr : List Node → ℕ → ℕ → List ℕ → Option ℕ
find_vr ns tag vr is = and_then (find ns tag is) (of_vr ns vr)

-- A length that is not 0. A sequence's length is 0 exactly when it contains no node (Length).
unfoldable pub filled : List Node → ℕ → Bool
filled ns i = cond (eqb (node_at ns i).vr SQ) (not (eqb (node_at ns i).descendants 0)) (not (eqb (length (node_at ns i).value) 0))

-- "Has": present among the members, with the VR, length not 0.
unfoldable pub has : List Node → ℕ → ℕ → List ℕ → Bool
has ns tag vr is = holds (find_vr ns tag vr is) (filled ns)
