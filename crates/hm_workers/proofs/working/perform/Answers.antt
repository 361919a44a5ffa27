use Rattle.std.proofs.Common.{inl, refl}
use Rattle.hm_workers.proofs.Running.{gains_none, known}
use Rattle.hm_workers.proofs.working.perform.Goals as goal

pub returns-in-Carry-clause-ran : goal.returns-in-Carry-clause-ran
returns-in-Carry-clause-ran g c = inl (known (g.S.Serves.editions c.args.hands.now) g.H.Hall.editions_in 0 c.args.seat.now.view c.carry-done.new.seat.view c.requires.knows c.carry-done.ensures.mine, refl)

pub returns-in-Flush-clause-ran : goal.returns-in-Flush-clause-ran
returns-in-Flush-clause-ran g c = inl (known (g.S.Serves.editions c.args.hands.now) g.H.Hall.editions_in 0 c.args.seat.now.view c.write-done.new.seat.view c.requires.knows c.write-done.ensures.mine, refl)

pub returns-in-Idle-clause-ran : goal.returns-in-Idle-clause-ran
returns-in-Idle-clause-ran g c = inl (gains_none (g.S.Serves.editions c.args.hands.now) (c.args.seat.now.view.mine), refl)
