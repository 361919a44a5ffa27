use Rattle.std.proofs.Common.{Err, ap, inl, refl, rules, subst, sym, ◌∙◌}
use Rattle.hm_workers.specs.Ends.{EndIs}
use Rattle.hm_workers.specs.declared.ended.WorkEnd.{WorkEnd}
use Rattle.hm_workers.proofs.Running.{ends_by, known, knows_on, once_then, part_on}
use Rattle.hm_workers.proofs.working.turn.Goals as goal

pub perform-requires-clause-knows : goal.perform-requires-clause-knows
perform-requires-clause-knows g c =
    let k = knows_on g.H.Hall.editions_in c.args.seat.now.view c.start.new.seat.view (g.S.Serves.editions c.args.hands.now) c.start.ensures.part c.requires.knows in search (rules, k)

pub returns-in-Ok-clause-ran : goal.returns-in-Ok-clause-ran
returns-in-Ok-clause-ran g c =
    once_then (g.S.Serves.editions c.args.hands.now) (c.args.seat.now.view.mine) (c.start.new.seat.view.mine) (c.perform.new.seat.view.mine) _ _ (known (g.S.Serves.editions c.args.hands.now) g.H.Hall.editions_in 0 c.args.seat.now.view c.start.new.seat.view c.requires.knows c.start.ensures.mine) c.perform.ensures.ran

pub returns-in-Err-clause-ran : goal.returns-in-Err-clause-ran
returns-in-Err-clause-ran g c = inl (known (g.S.Serves.editions c.args.hands.now) g.H.Hall.editions_in 0 c.args.seat.now.view c.start.new.seat.view c.requires.knows c.start.ensures.mine, refl)

pub returns-in-Err-clause-end : goal.returns-in-Err-clause-end
returns-in-Err-clause-end g c =
    let w = c.start.new.seat.view in subst (λ (z : WorkEnd). EndIs g.H.Hall.rests w z) (sym c.end_of.ensures) (ends_by g.H.Hall.rests w c.in-Err.fault c.in-Err.ensures.task.1)

pub returns-in-Ok-clause-ready : goal.returns-in-Ok-clause-ready
returns-in-Ok-clause-ready g c = c.perform.ensures.ready

pub returns-in-Ok-clause-free : goal.returns-in-Ok-clause-free
returns-in-Ok-clause-free g c = c.perform.ensures.free

pub returns-in-Ok-clause-part : goal.returns-in-Ok-clause-part
returns-in-Ok-clause-part g c = part_on c.args.seat.now.view c.start.new.seat.view c.perform.new.seat.view c.start.ensures.part c.perform.ensures.part

pub returns-in-Ok-clause-editions : goal.returns-in-Ok-clause-editions
returns-in-Ok-clause-editions g c = c.perform.ensures.editions

pub returns-in-Ok-clause-end : goal.returns-in-Ok-clause-end
returns-in-Ok-clause-end g c = c.perform.ensures.end

pub returns-in-Err-clause-ready : goal.returns-in-Err-clause-ready
returns-in-Err-clause-ready g c = c.start.ensures.ready

pub returns-in-Err-clause-part : goal.returns-in-Err-clause-part
returns-in-Err-clause-part g c = c.start.ensures.part

pub returns-in-Ok-clause-shut : goal.returns-in-Ok-clause-shut
returns-in-Ok-clause-shut g c = λ was. absurd (c.in-Ok.ensures.shut was)

pub returns-in-Err-clause-shut : goal.returns-in-Err-clause-shut
returns-in-Err-clause-shut g c = λ was. ap (λ (z : WorkEnd). Err z) (c.end_of.ensures ∙ c.in-Err.ensures.shut was)
