use Rattle.std.proofs.Common.{ap, ◌∙◌}
use Rattle.hm_roster.proofs.Readied.{none_ready}
use Rattle.hm_roster.proofs.desk.Desk.open.Goals as goal

pub ready_all-requires-clause-none : goal.ready_all-requires-clause-none
ready_all-requires-clause-none c =
    none_ready c.args.records.now.past c.procedures-legal.ensures.legal c.fill.new.self (ap (λ v. v.items) c.in_ok-fill.ensures.claimed ∙ c.in_ok-desk.ensures.claimed)
    (λ k. c.in_ok-fill.ensures.lists k ∙ c.in_ok-desk.ensures.lists k) c.in_ok-fill.ensures.book
