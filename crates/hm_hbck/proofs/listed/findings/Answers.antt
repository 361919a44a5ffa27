use Rattle.std.proofs.Common.{subst, sym, ◌∙◌}
use Rattle.hm_hbck.specs.Findings.{AreFindings, finding_cmp, running}
use Rattle.hm_hbck.proofs.Named.{one_finding, sorted_alike}
use Rattle.hm_hbck.proofs.listed.findings.Goals as goal

pub sort_once-requires : goal.sort_once-requires
sort_once-requires c = λ a b tie. one_finding a b (sym (c.findings_order.ensures.order a b) ∙ tie)

pub returns : goal.returns
returns c =
    let items = c.sort_once.new.items.items in
    subst (AreFindings c.args.state.now.past (running c.args.actors.now)) (sym c.of.ensures) (
      sorted_alike _ finding_cmp c.findings_order.ensures.order items c.sort_once.ensures.sorted,
      λ finding. (λ there. (c.in_ok-found.ensures finding).0 ((c.sort_once.ensures.same finding).0 there), λ so. (c.sort_once.ensures.same finding).1 ((c.in_ok-found.ensures finding).1 so)),
    )
