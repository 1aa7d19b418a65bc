-- The limit: 33 searches in the root and 7 in each mask item look at no more than 40 times the rows, since mask items do not overlap; those
-- of a frame at no more than 25 times, and rule 26 says that there are N items of frames.
use Rattle.std.specs.Prelude.{Option, Some, None}
use mathlib.Core.Path.{◌≡◌, ◌∙◌}
use Prim.Native.Nat.{ℕ, ◌+◌, ◌*◌, ◌≤◌}
use native.Mathlib.Omega.{arith}
use mathlib.Core.List.{List}
use mathlib.Core.Bool.{true, false}
use lib.ListN.{length}
use lib.Dec.{eqb}
use borrow.Author.Tests.{eqb-true}
use Rattle.node.specs.Nodes.{Node, nodes_of, root, inside}
use Rattle.node.specs.Find.{holds, find_vr}
use Rattle.basics.specs.Vr.{SQ}
use Rattle.basics.specs.Tags
use Rattle.element.specs.Elements.{items_in, inside_of}
use Rattle.element.specs.Frames.{frames_of, shared_item, frame_items, mask_items}
use Rattle.rules.specs.Root.{rule26}
use Rattle.rules.specs.All.{rule_list, rule_at}
use Rattle.verdict.specs.Verdict.{per_frame}
use Rattle.conformance.specs.declared.Finding.TheVariants as finding
use Rattle.conformance.specs.Judging.{first_frame, frame_count, finding_of}
use Rattle.conformance.proofs.First.{accepted-holds}
use Rattle.searches.specs.Searches.{root_searches, mask_searches, frame_searches, searched_among, mask_sum, frames_sum, over_frames}
use Rattle.searches.specs.Searches.{searches_of}
use Rattle.searches.specs.Internal.{tags_of, mask_tags}
use Rattle.searches.specs.Limit.{Limit}
use Rattle.searches.proofs.Counting.{members-few, Within, nodes-within}
use Rattle.searches.proofs.Sums.{searched-is, mask_is, all-few, group-read, both-few, groups-few, frames-are}

-- Rule 26 holds where a data set is accepted.
accepted-26 : (ns : List Node) → finding_of ns ≡ finding.Accepted → rule26 ns ≡ true
unfolding rule_at rule_list first_frame frame_count per_frame
accepted-26 ns e = accepted-holds ns e 26 (omega arith) (omega arith) 0 (omega arith) (omega arith)

-- So there are N items of frames.
items-are : (ns : List Node) (n : ℕ) → rule26 ns ≡ true → frames_of ns ≡ Some n → length (frame_items ns) ≡ n
unfolding rule26 frame_items items_in
items-are ns n r f = go (find_vr ns Tags.PerFrameFunctionalGroupsSequence SQ (root ns)) (frames_of ns) f r
  where
    clash : {A : Type 0} → false ≡ true → A
    clash z = let x : ◌≡◌ {A = ℕ} 0 1 = cc in absurd (omega arith)

    go : (found frames : Option ℕ) → frames ≡ Some n → holds found (λ p. holds frames (λ m. eqb (length (inside ns p)) m)) ≡ true
        → length (inside_of ns found) ≡ n
    go None frames e r = clash r
    go (Some p) None e r = let x : ◌≡◌ {A = ℕ} 0 1 = cc in absurd (omega arith)
    go (Some p) (Some m) e r =
        let q : m ≡ n = cc in
        eqb-true (length (inside ns p)) m r ∙ q

module _ (ns : List Node) (w : Within ns) where
  pub root-few : searched_among ns root_searches (root ns) ≤ 33 * length ns
  unfolding root_searches
  root-few =
      rw (searched-is ns root_searches (root ns))
      (omega (arith, all-few ns (tags_of root_searches) (root ns), members-few ns 0 (length ns)))

  pub mask-few : mask_sum ns (mask_items ns) ≤ 7 * length ns
  unfolding mask_items items_in mask_tags mask_searches
  mask-few =
      rw (mask_is ns (mask_items ns))
      (group-read ns w mask_tags (find_vr ns Tags.MaskSubtractionSequence SQ (root ns)))

  pub frames-few : (s : ℕ) (is : List ℕ) → frames_sum ns s is ≤ 25 * length ns * length is
  unfolding frame_searches
  frames-few s is = rw (frames-are ns s is) (omega (arith, both-few ns w s is, groups-few ns w s frame_searches is))

  pub over-frames-few : (shared : Option ℕ) → over_frames ns shared ≤ 25 * length ns * length (frame_items ns)
  over-frames-few None = omega arith
  over-frames-few (Some s) = frames-few s (frame_items ns)

  pub sum-few : searches_of ns ≤ 40 * length ns + 25 * length ns * length (frame_items ns)
  unfolding searches_of
  sum-few = omega (arith, root-few, mask-few, over-frames-few (shared_item ns))

pub limit : Limit
limit s n a f =
    let ns = nodes_of s in
    let e = items-are ns n (accepted-26 ns a) f in
    let h = sum-few ns (nodes-within s) in
    let g : searches_of ns ≤ 40 * length ns + 25 * length ns * n = rw e at h in
    omega arith
