use Rattle.std.proofs.Common.{ap, arith, refl, sym, ◌∙◌}
use Rattle.std.proofs.lemmas.Option.{none-some}
use Rattle.hm_model.specs.Phase.{ended}
use Rattle.hm_model.proofs.Grown.{grown_all}
use Rattle.hm_roster.proofs.Readied.{ready_next, ready_passed}
use Rattle.hm_roster.proofs.desk.Desk.ready_one.Goals as goal

pub returns-then-has_ended-clause-below : goal.returns-then-has_ended-clause-below
returns-then-has_ended-clause-below c =
    let low = c.requires.low in
    ready_passed c.args.records.now.past c.args.self.now c.args.pid.0 (omega (arith, low)) (ap (λ J. ended J c.args.pid.0) (sym c.procedures-procedures.ensures.past) ∙ sym c.has_ended.ensures ∙ c.if-has_ended.true) c.requires.below

pub ready-requires-clause-nowhere : goal.ready-requires-clause-nowhere
ready-requires-clause-nowhere c = c.requires.below.later c.args.pid.0 (omega arith)

pub returns-clause-below : goal.returns-clause-below
returns-clause-below c =
    let J = c.args.records.now.past in
    let low = c.requires.low in
    let there = (grown_all J c.procedures-procedures.ensures.legal).there c.args.pid.0 low c.requires.high in
    ready_next J c.procedures-procedures.ensures.legal c.args.self.now (record { claimed = c.args.self.now.claimed; sched = c.ready.new.self; book = c.args.self.now.book; numbers = c.args.self.now.numbers }) c.args.pid.0 c.is_of_crash-servers.result (omega (arith, low)) c.is_of_crash-servers.ensures
    ((λ none. none-some there.0 (sym none ∙ there.1)), ap (λ J. ended J c.args.pid.0) (sym c.procedures-procedures.ensures.past) ∙ sym c.has_ended.ensures ∙ c.if-has_ended.false)
    c.requires.free (record { claimed = refl; numbers = refl; pids = c.ready.ensures.pids; servers = c.ready.ensures.servers }) refl c.ready.ensures.joins c.ready.ensures.list c.requires.below
