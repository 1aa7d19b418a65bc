-- A rule that is asked at each frame is what the code asks of the shared item and the frame's item; any other rule does
-- not look at the frame.
use Rattle.std.specs.Prelude.{Option, Some, None}
use mathlib.Core.Path.{◌≡◌, refl, sym, ap, ◌∙◌, subst}
use Prim.Native.Nat.{ℕ, ◌-◌, ◌≤◌, ◌<◌}
use native.Mathlib.Omega.{arith}
use mathlib.Core.List.{List}
use mathlib.Core.Bool.{Bool, true, false, not, ◌&&◌, ◌||◌, true≢false}
use lib.ListN.{drop}
use lib.Dec.{eqb, leb}
use borrow.Author.Tests.{le-leb, eqb-true, eqb-false, leb-true}
use Rattle.verdict.specs.Verdict.{per_frame}
use Rattle.node.specs.Nodes.{Node, inside}
use Rattle.node.specs.Find.{holds, if_present, or_else, find}
use Rattle.node.specs.Internal.{holds_or}
use Rattle.node.proofs.Walks.{members-end, members-next}
use Rattle.element.specs.declared.Items.{Items}
use Rattle.basics.specs.Tags
use Rattle.element.specs.Elements.{first, one_item}
use Rattle.element.specs.Internal.{Along}
use Rattle.element.specs.Frames.{shared_item, frame_item, frame_items}
use Rattle.rules.specs.Frame.{at_frame, item27, item28, item29, item30, item37, rule27, rule28, rule29, rule30, rule37}
use Rattle.rules.specs.Intensity.{is_lut_group, has_linear, is_log, item39, rule39}
use Rattle.rules.specs.All.{rule_list, rule_at}
use Rattle.intensity.specs.declared.Grade.{Grade}
use Rattle.intensity.specs.declared.Grade.TheVariants.{Plain}
use Rattle.intensity.specs.Internal.{grade, grade_on, grades_agree, relation_of, table_of, relation_in, table_in}
use Rattle.rules_frame.specs.Internal.{group_tag, group_fits, group_holds, item_holds, item_grades, item_rule}

-- What is asked of the items may be put in other words.
at_same : (ns : List Node) (f : ℕ) (p q : ℕ → ℕ → Bool) → ((s i : ℕ) → p s i ≡ q s i) → at_frame ns f p ≡ at_frame ns f q
at_same ns f p q e = go (shared_item ns) (frame_item ns f)
  where
    go : (a b : Option ℕ) → holds a (λ s. holds b (λ i. p s i)) ≡ holds a (λ s. holds b (λ i. q s i))
    go None b = refl
    go (Some s) None = refl
    go (Some s) (Some i) = e s i

-- The group in the item, else the shared one.
group-join : (a b : Option ℕ) (p : ℕ → Bool) → holds_or a p (holds_or b p true) ≡ if_present (or_else a b) p
group-join None None p = refl
group-join None (Some s) p = refl
group-join (Some g) b p = refl

-- Rule 39 is what the grades of its two groups say.
grades-by : (a b c d : Bool) → (a && (c && (not b || d))) ≡ grades_agree (grade a b) (grade c d)
grades-by false b c d = refl
grades-by true false false d = refl
grades-by true true false d = refl
grades-by true false true false = refl
grades-by true false true true = refl
grades-by true true true false = refl
grades-by true true true true = refl

grades-group : (a b : Option ℕ) (one log luts linear : ℕ → Bool)
    → (if_present a one && (if_present b luts && (not (holds a log) || holds b linear)))
    ≡ grades_agree (grade_on a (λ p. grade (one p) (log p)) Plain) (grade_on b (λ g. grade (luts g) (linear g)) Plain)
grades-group None None one log luts linear = refl
grades-group None (Some g) one log luts linear = grades-by true false (luts g) (linear g)
grades-group (Some p) None one log luts linear = grades-by (one p) (log p) true false
grades-group (Some p) (Some g) one log luts linear = grades-by (one p) (log p) (luts g) (linear g)

grade-join : (a b : Option ℕ) (of : ℕ → Grade) → grade_on a of (grade_on b of Plain) ≡ grade_on (or_else a b) of Plain
grade-join None b of = refl
grade-join (Some g) b of = refl

grades-join : (a b c d : Option ℕ) (one log luts linear : ℕ → Bool)
    → (if_present (or_else a b) one && (if_present (or_else c d) luts && (not (holds (or_else a b) log) || holds (or_else c d) linear)))
    ≡ grades_agree (grade_on a (λ p. grade (one p) (log p)) (grade_on b (λ p. grade (one p) (log p)) Plain))
    (grade_on c (λ g. grade (luts g) (linear g)) (grade_on d (λ g. grade (luts g) (linear g)) Plain))
grades-join a b c d one log luts linear =
    rw (grade-join a b (λ p. grade (one p) (log p)), grade-join c d (λ g. grade (luts g) (linear g)))
    (grades-group (or_else a b) (or_else c d) one log luts linear)

module _ (ns : List Node) (f : ℕ) where
  same27 : (s i : ℕ) → item27 ns s i ≡ item_rule ns 27 s i
  unfolding item_rule item_holds
  same27 s i = refl

  asked27 : rule_at ns 27 f ≡ at_frame ns f (item_rule ns 27)
  unfolding rule_at rule_list rule27
  asked27 = at_same ns f (item27 ns) (item_rule ns 27) same27

  same28 : (s i : ℕ) → item28 ns s i ≡ item_rule ns 28 s i
  unfolding item_rule item_holds
  same28 s i = refl

  asked28 : rule_at ns 28 f ≡ at_frame ns f (item_rule ns 28)
  unfolding rule_at rule_list rule28
  asked28 = at_same ns f (item28 ns) (item_rule ns 28) same28

  same29 : (s i : ℕ) → item29 ns s i ≡ item_rule ns 29 s i
  unfolding item_rule item_holds item29 group_holds group_tag group_fits
  same29 s i = sym (group-join (find ns (group_tag 29) (inside ns i)) (find ns (group_tag 29) (inside ns s)) (group_fits ns 29))

  asked29 : rule_at ns 29 f ≡ at_frame ns f (item_rule ns 29)
  unfolding rule_at rule_list rule29
  asked29 = at_same ns f (item29 ns) (item_rule ns 29) same29

  same30 : (s i : ℕ) → item30 ns s i ≡ item_rule ns 30 s i
  unfolding item_rule item_holds item30 group_holds group_tag group_fits
  same30 s i = sym (group-join (find ns (group_tag 30) (inside ns i)) (find ns (group_tag 30) (inside ns s)) (group_fits ns 30))

  asked30 : rule_at ns 30 f ≡ at_frame ns f (item_rule ns 30)
  unfolding rule_at rule_list rule30
  asked30 = at_same ns f (item30 ns) (item_rule ns 30) same30

  same37 : (s i : ℕ) → item37 ns s i ≡ item_rule ns 37 s i
  unfolding item_rule item_holds item37 group_holds group_tag group_fits
  same37 s i = sym (group-join (find ns (group_tag 37) (inside ns i)) (find ns (group_tag 37) (inside ns s)) (group_fits ns 37))

  asked37 : rule_at ns 37 f ≡ at_frame ns f (item_rule ns 37)
  unfolding rule_at rule_list rule37
  asked37 = at_same ns f (item37 ns) (item_rule ns 37) same37

  same39 : (s i : ℕ) → item39 ns s i ≡ item_rule ns 39 s i
  unfolding item_rule item_grades item39 relation_in table_in relation_of table_of
  same39 s i =
      grades-join
      (find ns Tags.FramePixelDataPropertiesSequence (inside ns i)) (find ns Tags.FramePixelDataPropertiesSequence (inside ns s))
      (find ns Tags.PixelIntensityRelationshipLUTSequence (inside ns i)) (find ns Tags.PixelIntensityRelationshipLUTSequence (inside ns s))
      (one_item ns) (is_log ns) (is_lut_group ns) (has_linear ns)

  asked39 : rule_at ns 39 f ≡ at_frame ns f (item_rule ns 39)
  unfolding rule_at rule_list rule39
  asked39 = at_same ns f (item39 ns) (item_rule ns 39) same39

  -- The rules that are asked at each frame are 27, 28, 29, 30, 37 and 39.
  pub asked : (rule : ℕ) → per_frame rule ≡ true → rule_at ns rule f ≡ at_frame ns f (item_rule ns rule)
  unfolding per_frame
  asked rule h = go (eqb rule 37) refl (eqb rule 39) refl (eqb rule 27) refl (eqb rule 28) refl (eqb rule 29) refl (eqb rule 30) refl
    where
      Goal : ℕ → Type 0
      Goal r = rule_at ns r f ≡ at_frame ns f (item_rule ns r)

      from : (k : ℕ) → eqb rule k ≡ true → Goal k → Goal rule
      from k e g = subst Goal (sym (eqb-true rule k e)) g

      range : (a b c d : Bool) → leb 27 rule ≡ a → leb rule 30 ≡ b → c ≡ false → d ≡ false → (a && b) || (c || d) ≡ true
          → (27 ≤ rule) × (rule ≤ 30)
      range true true c d x y z u t = (leb-true 27 rule x, leb-true rule 30 y)
      range true false true d x y z u t = absurd (true≢false z)
      range true false false d x y z u t = absurd (true≢false (sym t ∙ u))
      range false b true d x y z u t = absurd (true≢false z)
      range false b false d x y z u t = absurd (true≢false (sym t ∙ u))

      go : (a : Bool) → eqb rule 37 ≡ a → (z : Bool) → eqb rule 39 ≡ z → (b : Bool) → eqb rule 27 ≡ b → (c : Bool) → eqb rule 28 ≡ c
          → (d : Bool) → eqb rule 29 ≡ d → (e : Bool) → eqb rule 30 ≡ e → Goal rule
      go true p z y b q c r d s e t = from 37 p asked37
      go false p true y b q c r d s e t = from 39 y asked39
      go false p false y true q c r d s e t = from 27 q asked27
      go false p false y false q true r d s e t = from 28 r asked28
      go false p false y false q false r true s e t = from 29 s asked29
      go false p false y false q false r false s true t = from 30 t asked30
      go false p false y false q false r false s false t =
          let w = range (leb 27 rule) (leb rule 30) (eqb rule 37) (eqb rule 39) refl refl p y h in
          absurd (omega (arith, w, eqb-false rule 27 q, eqb-false rule 28 r, eqb-false rule 29 s, eqb-false rule 30 t))

-- ---- The frame's item is the first of those that are left

module _ (ns : List Node) (f : ℕ) (c : Items) (some : 1 ≤ f) (w : Along ns (drop (f - 1) (frame_items ns)) c) where
  pub item-here : c.at < c.end → frame_item ns f ≡ Some c.at
  item-here h = rw (le-leb 1 f some) (ap first (sym w.ahead ∙ members-next ns c.at c.end h))

  pub item-none : c.end ≤ c.at → frame_item ns f ≡ None
  item-none h = rw (le-leb 1 f some) (ap first (sym w.ahead ∙ members-end ns c.at c.end h))
