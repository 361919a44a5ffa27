use Rattle.std.proofs.Common.{◌+◌, inl, sym, arith}
use Rattle.std.proofs.lemmas.List.{take_all}
use Rattle.hm_disk.specs.Disk.{CutOrWhole}
use Rattle.hm_disk.proofs.Moments.{started}
use Rattle.hm_log.proofs.open.cut_behind.Goals as goal

pub returns-then-size-gate-clause-cut : goal.returns-then-size-gate-clause-cut
returns-then-size-gate-clause-cut g c tells =
    sym (take_all (c.args.gate + 1) (g.D.Disk.seen c.args.disk.now) (omega (arith, c.requires.size tells, c.if-size-gate.true)))

pub returns-then-size-gate-clause-any_moment : goal.returns-then-size-gate-clause-any_moment
returns-then-size-gate-clause-any_moment g c =
    let d = g.D.Disk in
    started d.moment d.left_since c.args.disk.now (CutOrWhole (c.args.gate + 1) (d.seen c.args.disk.now))
    (λ f left. inl (c.requires.only f (g.met.D.Disk.only_now c.args.disk.now f left)))
