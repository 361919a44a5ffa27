use Rattle.std.proofs.Common.{◌∙◌, ap, sym, Some, if◌then◌else◌}
use Rattle.std.specs.Ordering.{is_eq}
use Rattle.hm_names.specs.Order.{region_cmp}
use Rattle.hm_index.specs.Index.{find}
use Rattle.hm_server.specs.Actors.{duties_of}
use Rattle.hm_server.proofs.duties.keep.Goals as goal

pub returns-clause-duties : goal.returns-clause-duties
returns-clause-duties c = λ other.
    let same = c.in_ok-reserve-in-Some.ensures.pairs ∙ ap duties_of (sym c.in-Some.is) ∙ c.in_ok-begin.ensures.same in
    c.set.ensures.pairs other ∙ ap (λ pairs. if is_eq (region_cmp c.args.region other) then Some c.args.duty else find region_cmp pairs other) same
