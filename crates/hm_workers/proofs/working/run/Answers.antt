use Rattle.std.proofs.Common.{inl, inr, rules, subst, sym}
use Rattle.hm_lend.specs.Hall.{Answers, CanBeServed, Editions}
use Rattle.hm_workers.specs.Ends.{IsServed}
use Rattle.hm_workers.proofs.Running.{anyhow, known}
use Rattle.hm_workers.proofs.working.run.Goals as goal

pub serve-requires : goal.serve-requires
serve-requires g c =
    let m = c.requires.may in let s = subst (λ (e : Editions). CanBeServed e c.args.taken.was) (c.requires.knows m.0 m.1) m.2 in search (rules, s)

pub hand_over-requires-clause-answer : goal.hand_over-requires-clause-answer
hand_over-requires-clause-answer g c =
    let m = c.requires.may in
    let a : IsServed g.H.Hall.editions_in c.args.seat.now.view c.args.taken.was c.in-Ok.out = (m.0, m.1, subst (λ (e : Editions). Answers e c.args.taken.was c.in-Ok.out) (sym (c.requires.knows m.0 m.1)) c.in-Ok.ensures.out) in search (rules, a)

pub returns-in-Ok-clause-ready : goal.returns-in-Ok-clause-ready
returns-in-Ok-clause-ready g c = c.hand_over.ensures.ready

pub returns-in-Ok-clause-free : goal.returns-in-Ok-clause-free
returns-in-Ok-clause-free g c = c.hand_over.ensures.free

pub returns-in-Ok-clause-part : goal.returns-in-Ok-clause-part
returns-in-Ok-clause-part g c = c.hand_over.ensures.part

pub returns-in-Ok-clause-editions : goal.returns-in-Ok-clause-editions
returns-in-Ok-clause-editions g c = c.in-Ok.ensures.editions

pub returns-in-Ok-clause-ran : goal.returns-in-Ok-clause-ran
returns-in-Ok-clause-ran g c =
    inr (known (g.S.Serves.editions c.args.hands.now) g.H.Hall.editions_in 1 c.args.seat.now.view c.hand_over.new.seat.view c.requires.knows c.hand_over.ensures.mine, c.in-Ok.ensures.runs)

pub returns-in-Ok-clause-once : goal.returns-in-Ok-clause-once
returns-in-Ok-clause-once g c = anyhow c.hand_over.result c.in-Ok.ensures.runs

pub returns-in-Ok-clause-end : goal.returns-in-Ok-clause-end
returns-in-Ok-clause-end g c = c.hand_over.ensures.end

pub returns-in-Err-clause-ready : goal.returns-in-Err-clause-ready
returns-in-Err-clause-ready g c = c.give_up.ensures.ready

pub returns-in-Err-clause-free : goal.returns-in-Err-clause-free
returns-in-Err-clause-free g c = c.give_up.ensures.free

pub returns-in-Err-clause-part : goal.returns-in-Err-clause-part
returns-in-Err-clause-part g c = c.give_up.ensures.part

pub returns-in-Err-clause-editions : goal.returns-in-Err-clause-editions
returns-in-Err-clause-editions g c = c.in-Err.ensures.editions

pub returns-in-Err-clause-ran : goal.returns-in-Err-clause-ran
returns-in-Err-clause-ran g c =
    inl (known (g.S.Serves.editions c.args.hands.now) g.H.Hall.editions_in 0 c.args.seat.now.view c.give_up.new.seat.view c.requires.knows c.give_up.ensures.mine, c.in-Err.ensures.idle)

pub returns-in-Err-clause-once : goal.returns-in-Err-clause-once
returns-in-Err-clause-once g c = tt

pub returns-in-Err-clause-end : goal.returns-in-Err-clause-end
returns-in-Err-clause-end g c = c.give_up.ensures.end
