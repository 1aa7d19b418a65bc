-- The words in which rules and steps are written say the same of lists of nodes that are alike: they look at tags, VRs and the nodes
-- below, and at values of tags that are read.
use Rattle.std.specs.Prelude.{Option, Some, None}
use mathlib.Core.Path.{◌≡◌, refl, ap, ◌∙◌, subst}
use Prim.Native.Nat.{ℕ, zero, suc}
use mathlib.Core.Bool.{Bool, true, false, cond}
use mathlib.Core.List.{List, [], ◌∷◌, map}
use lib.Dec.{eqb}
use borrow.Author.Tests.{eqb-true}
use Rattle.value.specs.Words.{is_word, is_uid}
use Rattle.value.specs.Number.{us_of, integer_of}
use Rattle.basics.specs.Vr.{SQ, CS, UI, US, IS}
use Rattle.node.specs.Nodes.{Node, node_at, next_node, members_by, members, root, inside}
use Rattle.node.specs.Find.{holds, if_present, and_then, find, of_vr, find_vr, filled, has}
use Rattle.basics.specs.Tags
use Rattle.element.specs.Elements.{value_at, us_in, cs_is, ui_is, one_item, the_item, inside_of, items_in, every, some, function_on, function_in}
use Rattle.element.specs.Frames.{as_count, frames_of, shared_item, frame_items, frame_item, group_of, mask_items, operation_is, id_in}
use Rattle.steps.proofs.Given.{never}
use Rattle.privacy.specs.Read.{is_read}
use Rattle.privacy.specs.Alike.{Alike}

-- ---- Tests that agree where something is there

pub holds_same : (o : Option ℕ) (p q : ℕ → Bool) → ((i : ℕ) → o ≡ Some i → p i ≡ q i) → holds o p ≡ holds o q
holds_same None p q h = refl
holds_same (Some i) p q h = h i refl

pub if-same : (o : Option ℕ) (p q : ℕ → Bool) → ((i : ℕ) → o ≡ Some i → p i ≡ q i) → if_present o p ≡ if_present o q
if-same None p q h = refl
if-same (Some i) p q h = h i refl

pub and_same : (o : Option ℕ) (p q : ℕ → Option ℕ) → ((i : ℕ) → o ≡ Some i → p i ≡ q i) → and_then o p ≡ and_then o q
and_same None p q h = refl
and_same (Some i) p q h = h i refl

pub every-same : (p q : ℕ → Bool) → ((i : ℕ) → p i ≡ q i) → (l : List ℕ) → every p l ≡ every q l
unfolding every
every-same p q h [] = refl
every-same p q h (i ∷ is) = rw (h i, every-same p q h is)

pub some_same : (p q : ℕ → Bool) → ((i : ℕ) → p i ≡ q i) → (l : List ℕ) → some p l ≡ some q l
unfolding some
some_same p q h [] = refl
some_same p q h (i ∷ is) = rw (h i, some_same p q h is)

pub map_same : (p q : ℕ → ℕ) → ((i : ℕ) → p i ≡ q i) → (l : List ℕ) → map p l ≡ map q l
map_same p q h [] = refl
map_same p q h (i ∷ is) = rw (h i, map_same p q h is)

module _ {ns ms : List Node} (a : Alike ns ms) where
  -- ---- Members

  pub next-same : (i : ℕ) → next_node ns i ≡ next_node ms i
  next-same i = rw (a.descendants i)

  members-by-same : (k i to : ℕ) → members_by k ns i to ≡ members_by k ms i to
  unfolding members_by
  members-by-same zero i to = refl
  members-by-same (suc k) i to = rw (next-same i, members-by-same k (next_node ms i) to)

  pub inside-same : (i : ℕ) → inside ns i ≡ inside ms i
  unfolding members
  inside-same i = rw (next-same i) (members-by-same _ _ _)

  pub root-same : root ns ≡ root ms
  unfolding members
  root-same = rw a.size (members-by-same _ _ _)

  -- ---- Finding

  pub find-same : (tag : ℕ) (is : List ℕ) → find ns tag is ≡ find ms tag is
  unfolding find
  find-same tag [] = refl
  find-same tag (i ∷ is) = rw (a.tag i, find-same tag is)

  pub find-root : (tag : ℕ) → find ns tag (root ns) ≡ find ms tag (root ms)
  find-root tag = rw root-same (find-same tag (root ms))

  pub find-tag : (tag : ℕ) (is : List ℕ) (i : ℕ) → find ns tag is ≡ Some i → (node_at ns i).tag ≡ tag
  unfolding find
  find-tag tag [] i e = absurd (never e)
  find-tag tag (j ∷ js) i e = go (λ t. find-tag tag js i t) (eqb (node_at ns j).tag tag) refl e
    where
      go : (find ns tag js ≡ Some i → (node_at ns i).tag ≡ tag) → (b : Bool) → eqb (node_at ns j).tag tag ≡ b
          → cond b (Some j) (find ns tag js) ≡ Some i → (node_at ns i).tag ≡ tag
      go r true t e = let z : j ≡ i = cc in subst (λ (k : ℕ). (node_at ns k).tag ≡ tag) z (eqb-true (node_at ns j).tag tag t)
      go r false t e = r e

  pub vr-same : (vr tag : ℕ) (is : List ℕ) → find_vr ns tag vr is ≡ find_vr ms tag vr is
  unfolding of_vr
  vr-same vr tag is = rw (find-same tag is) (go (find ms tag is))
    where
      go : (o : Option ℕ) → and_then o (of_vr ns vr) ≡ and_then o (of_vr ms vr)
      go None = refl
      go (Some i) = rw (a.vr i)

  pub vr-root : (vr tag : ℕ) → find_vr ns tag vr (root ns) ≡ find_vr ms tag vr (root ms)
  vr-root vr tag = rw root-same (vr-same vr tag (root ms))

  vr-tag : (tag vr : ℕ) (is : List ℕ) (i : ℕ) → find_vr ns tag vr is ≡ Some i → (node_at ns i).tag ≡ tag
  unfolding of_vr
  vr-tag tag vr is i e = go (find ns tag is) refl e
    where
      go : (o : Option ℕ) → find ns tag is ≡ o → and_then o (of_vr ns vr) ≡ Some i → (node_at ns i).tag ≡ tag
      go None f e = absurd (never e)
      go (Some j) f e = on (eqb (node_at ns j).vr vr) e
        where
          on : (b : Bool) → cond b (Some j) None ≡ Some i → (node_at ns i).tag ≡ tag
          on true e = let z : j ≡ i = cc in find-tag tag is i (f ∙ ap (λ (k : ℕ). Some k) z)
          on false e = absurd (never e)

  -- ---- The value of a tag that is read

  module _ (tag : ℕ) (q : is_read tag ≡ true) (is : List ℕ) where
    pub value_same : (i : ℕ) → find ns tag is ≡ Some i → value_at ns i ≡ value_at ms i
    value_same i e = a.value i (rw (find-tag tag is i e) q)

    pub value-vr-same : (vr i : ℕ) → find_vr ns tag vr is ≡ Some i → value_at ns i ≡ value_at ms i
    value-vr-same vr i e = a.value i (rw (vr-tag tag vr is i e) q)

    pub test-same : (vr : ℕ) (p : List ℕ → Bool)
        → holds (find_vr ns tag vr is) (λ i. p (value_at ns i)) ≡ holds (find_vr ms tag vr is) (λ i. p (value_at ms i))
    test-same vr p =
        holds_same (find_vr ns tag vr is) _ _ (λ i e. ap p (value-vr-same vr i e))
        ∙ ap (λ (o : Option ℕ). holds o (λ i. p (value_at ms i))) (vr-same vr tag is)

    pub number_same : (vr : ℕ) (p : List ℕ → Option ℕ)
        → and_then (find_vr ns tag vr is) (λ i. p (value_at ns i)) ≡ and_then (find_vr ms tag vr is) (λ i. p (value_at ms i))
    number_same vr p =
        and_same (find_vr ns tag vr is) _ _ (λ i e. ap p (value-vr-same vr i e))
        ∙ ap (λ (o : Option ℕ). and_then o (λ i. p (value_at ms i))) (vr-same vr tag is)

    pub us-same : us_in ns tag is ≡ us_in ms tag is
    us-same = number_same US us_of

    pub cs-same : (word : List ℕ) → cs_is ns tag word is ≡ cs_is ms tag word is
    cs-same word = test-same CS (λ v. is_word v word)

    ui-same : (uid : List ℕ) → ui_is ns tag uid is ≡ ui_is ms tag uid is
    ui-same uid = test-same UI (λ v. is_uid v uid)

    has_same : (vr : ℕ) → has ns tag vr is ≡ has ms tag vr is
    unfolding has filled
    has_same vr =
        holds_same (find_vr ns tag vr is) _ _ (λ i e. rw (value-vr-same vr i e, a.vr i, a.descendants i))
        ∙ ap (λ (o : Option ℕ). holds o (filled ms)) (vr-same vr tag is)

  -- The same in the root.
  module _ (tag : ℕ) (q : is_read tag ≡ true) where
    pub is-cs-root : (word : List ℕ) → cs_is ns tag word (root ns) ≡ cs_is ms tag word (root ms)
    is-cs-root word = rw root-same (cs-same tag q (root ms) word)

    pub is-ui-root : (word : List ℕ) → ui_is ns tag word (root ns) ≡ ui_is ms tag word (root ms)
    is-ui-root word = rw root-same (ui-same tag q (root ms) word)

    pub us-root : us_in ns tag (root ns) ≡ us_in ms tag (root ms)
    us-root = rw root-same (us-same tag q (root ms))

    pub has-root : (vr : ℕ) → has ns tag vr (root ns) ≡ has ms tag vr (root ms)
    has-root vr = rw root-same (has_same tag q (root ms) vr)

    pub test-root : (vr : ℕ) (p : List ℕ → Bool)
        → holds (find_vr ns tag vr (root ns)) (λ i. p (value_at ns i)) ≡ holds (find_vr ms tag vr (root ms)) (λ i. p (value_at ms i))
    test-root vr p = rw root-same (test-same tag q (root ms) vr p)

  -- ---- Sequences, items and frames

  pub one_same : (i : ℕ) → one_item ns i ≡ one_item ms i
  unfolding one_item
  one_same i = rw (a.vr i, inside-same i)

  pub the_same : (i : ℕ) → the_item ns i ≡ the_item ms i
  unfolding the_item
  the_same i = rw (one_same i, inside-same i)

  pub inside-of-same : (o : Option ℕ) → inside_of ns o ≡ inside_of ms o
  inside-of-same None = refl
  inside-of-same (Some i) = inside-same i

  items-same : (tag : ℕ) (is : List ℕ) → items_in ns tag is ≡ items_in ms tag is
  unfolding items_in
  items-same tag is = rw (vr-same SQ tag is) (inside-of-same (find_vr ms tag SQ is))

  pub frames-same : frames_of ns ≡ frames_of ms
  unfolding frames_of is_read
  frames-same = rw root-same (number_same Tags.NumberOfFrames refl (root ms) IS (λ v. as_count (integer_of v)))

  pub shared_same : shared_item ns ≡ shared_item ms
  unfolding shared_item
  shared_same = rw (find-root Tags.SharedFunctionalGroupsSequence)
      (and_same (find ms Tags.SharedFunctionalGroupsSequence (root ms)) _ _ (λ i _. the_same i))

  pub frame-items-same : frame_items ns ≡ frame_items ms
  unfolding frame_items
  frame-items-same = rw root-same (items-same Tags.PerFrameFunctionalGroupsSequence (root ms))

  pub item-same : (f : ℕ) → frame_item ns f ≡ frame_item ms f
  item-same f = rw frame-items-same

  pub mask-items-same : mask_items ns ≡ mask_items ms
  unfolding mask_items
  mask-items-same = rw root-same (items-same Tags.MaskSubtractionSequence (root ms))

  pub group-same : (tag s i : ℕ) → group_of ns tag s i ≡ group_of ms tag s i
  group-same tag s i = rw (inside-same i, inside-same s, find-same tag (inside ms i), find-same tag (inside ms s))

  pub operation-same : (word : List ℕ) (j : ℕ) → operation_is ns word j ≡ operation_is ms word j
  unfolding operation_is is_read
  operation-same word j = rw (inside-same j) (cs-same Tags.MaskOperation refl (inside ms j) word)

  pub id_same : (j : ℕ) → id_in ns j ≡ id_in ms j
  unfolding is_read
  id_same j = rw (inside-same j) (us-same Tags.SubtractionItemID refl (inside ms j))

  pub function-same : (is : List ℕ) → function_in ns is ≡ function_in ms is
  unfolding function_in is_read
  function-same is = go (find ns Tags.VOILUTFunction is) refl ∙ ap (function_on ms) (find-same Tags.VOILUTFunction is)
    where
      go : (o : Option ℕ) → find ns Tags.VOILUTFunction is ≡ o → function_on ns o ≡ function_on ms o
      go None e = refl
      go (Some k) e = rw (a.vr k, value_same Tags.VOILUTFunction refl is k e)
