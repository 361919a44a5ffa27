use Rattle.std.proofs.Common.{ap, ◌∙◌, ◌++◌}
use Rattle.std.proofs.lemmas.List.Sorted.{IsPermutation-map}
use Rattle.std.proofs.lemmas.Result.{on_ok_weaker}
use Rattle.hm_ranges.proofs.Lists.{in_moved, in_unmoved}
use Rattle.hm_hbck.specs.Found.{hold_of, holds_of}
use Rattle.hm_hbck.specs.Pairs.{of_pairs}
use Rattle.hm_hbck.proofs.Paired.{pairs_added}
use Rattle.hm_hbck.proofs.pairs.add_pairs.Goals as goal

pub returns : goal.returns
returns c =
    let old = c.args.list.items in
    let new = c.sort_holdings.new.list.items in
    let moved = IsPermutation-map hold_of old new c.sort_holdings.ensures.same in
    on_ok_weaker c.add_all.result
    (λ is. pairs_added (holds_of old) (holds_of new) c.args.found.now.items c.add_all.new.found.items (in_moved (holds_of old) (holds_of new) moved) (in_unmoved (holds_of old) (holds_of new) moved) (is ∙ ap (λ list. c.args.found.now.items ++ of_pairs (holds_of list)) c.deref.ensures.value))
    c.add_all.ensures
