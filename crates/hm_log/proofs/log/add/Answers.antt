use Rattle.hm_log.proofs.Adding.{staged_is, opened, writes_behind, writes_both}
use Rattle.hm_log.proofs.Ways.{if_ok}
use Rattle.hm_log.proofs.log.add.Goals as goal

pub returns-in_err-write_through-clause-any_moment : goal.returns-in_err-write_through-clause-any_moment
returns-in_err-write_through-clause-any_moment g c tells frames more whole is =
    writes_behind c.args.gate frames _ whole _ more is g.D.Disk.moment g.D.Disk.left_since c.args.disk.now c.write_through.new.disk c.write_through.new.disk _ c.write_through.ensures.any_moment

pub returns-clause-added : goal.returns-clause-added
returns-clause-added g c tells frames more whole is =
    let seen = g.D.Disk.seen c.write_through.new.disk in
    let staged = staged_is c.args.gate frames _ whole _ more is seen (c.in_ok-write_through.ensures.written tells) in
    if_ok c.write_through-2.result (opened c.args.gate frames _ whole _ more is seen (g.D.Disk.seen c.write_through-2.new.disk) staged) (c.write_through-2.ensures.written tells)

pub returns-clause-any_moment : goal.returns-clause-any_moment
returns-clause-any_moment g c tells frames more whole is =
    let seen = g.D.Disk.seen c.write_through.new.disk in
    let staged = staged_is c.args.gate frames _ whole _ more is seen (c.in_ok-write_through.ensures.written tells) in
    writes_both c.args.gate frames _ whole _ more is g.D.Disk.moment g.D.Disk.left_since c.args.disk.now c.write_through.new.disk c.write_through-2.new.disk _ c.write_through.ensures.any_moment seen staged c.write_through-2.ensures.any_moment
