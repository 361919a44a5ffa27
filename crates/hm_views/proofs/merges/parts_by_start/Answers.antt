use Rattle.std.proofs.Common.{ap, ◌∙◌, rules}
use Rattle.std.specs.Ordering.{is_lt}
use Rattle.hm_names.specs.Order.{bytes_cmp}
use Rattle.hm_model.specs.Checks.{by_start}
use Rattle.hm_model.specs.declared.merged.Merged.{Merged}
use Rattle.hm_views.proofs.Sorting.{compares, parts_sorted, starts_order}
use Rattle.hm_views.proofs.merges.parts_by_start.Goals as goal

pub returns : goal.returns
returns c =
    let asked = compares _ _ (λ a r h called. search rules) in
    let sorted = c.in_ok-sort_by.ensures.sorted (λ (a b : Merged). is_lt (bytes_cmp a.range.start b.range.start)) starts_order asked in
    let stable = c.in_ok-sort_by.ensures.stable (λ (a b : Merged). is_lt (bytes_cmp a.range.start b.range.start)) starts_order asked in
    parts_sorted c.in_ok-parts.parts.items c.sort_by.new.self.items sorted stable ∙ ap by_start c.in_ok-parts.ensures
