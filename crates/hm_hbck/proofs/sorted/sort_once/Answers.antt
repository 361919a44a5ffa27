use Rattle.std.proofs.Common.{sym, ◌∙◌}
use Rattle.std.proofs.lemmas.List.Filters.{dedup_is}
use Rattle.std.proofs.lemmas.List.Kept.{Contains-dedup, Contains-from_dedup, IsStrictlySortedBy-dedup}
use Rattle.std.proofs.lemmas.List.Sorted.{Contains-permutation, IsPermutation-sym}
use Rattle.hm_ranges.proofs.Lists.{contains_in, in_contains}
use Rattle.hm_hbck.proofs.Order.{equal_is}
use Rattle.hm_hbck.proofs.sorted.sort_once.Goals as goal

pub returns-clause-sorted : goal.returns-clause-sorted
returns-clause-sorted g c =
    let is = dedup_is _ _ _ c.dedup.ensures.filtered in
    rw is (IsStrictlySortedBy-dedup g.met.T.Ord.total g.met.T.Ord.matches_eq _ c.sort_unstable.ensures.sorted)

pub returns-clause-same : goal.returns-clause-same
returns-clause-same g c =
    let is = dedup_is _ _ _ c.dedup.ensures.filtered in
    let moved = c.sort_unstable.ensures.permutation in
    λ item. (
      λ there. in_contains item _ (Contains-permutation _ _ item (IsPermutation-sym _ _ moved) (Contains-from_dedup _ _ item (rw is at (contains_in item _ there)))),
      λ there. in_contains item _ (rw is (Contains-dedup g.met.T.Eq.laws (λ a b same. c.requires a b (equal_is (g.T.Ord.cmp a b) (sym (g.met.T.Ord.matches_eq a b) ∙ same))) _ item (Contains-permutation _ _ item moved (contains_in item _ there)))),
    )
