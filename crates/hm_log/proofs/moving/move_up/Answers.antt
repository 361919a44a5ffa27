use Rattle.std.proofs.Common.{◌≡◌, ◌+◌, arith}
use Rattle.hm_disk.proofs.Moments.{joined}
use Rattle.hm_log.specs.Format.{image_size, Reads}
use Rattle.hm_log.proofs.Moves.{first_log, first_long, first_switched, first_torn, up_behind, up_switch}
use Rattle.hm_log.proofs.moving.move_up.Goals as goal

pub write_behind-requires-clause-end : goal.write_behind-requires-clause-end
write_behind-requires-clause-end g c tells = (c.requires.first tells).place

pub write_through-requires-clause-place : goal.write_through-requires-clause-place
write_through-requires-clause-place g c tells =
    let d = g.D.Disk in
    first_long (d.seen c.args.disk.now) c.args.gate c.args.frames.now (c.requires.first tells) c.requires.some (c.args.gate + 2) (omega (arith, c.requires.fits)) (omega arith) (d.seen c.write_behind.new.disk) (c.in_ok-write_behind.ensures.staged tells)

pub finish-requires-clause-moved : goal.finish-requires-clause-moved
finish-requires-clause-moved g c tells =
    let d = g.D.Disk in
    first_log (d.seen c.args.disk.now) c.args.gate c.args.frames.now (c.requires.first tells) c.requires.some (c.args.gate + 2) (omega (arith, c.requires.fits)) (omega arith) (d.seen c.write_behind.new.disk) (c.in_ok-write_behind.ensures.staged tells)
    (d.seen c.write_through.new.disk) (c.in_ok-write_through.ensures.written tells)

pub returns-in_err-write_behind-clause-any_moment : goal.returns-in_err-write_behind-clause-any_moment
returns-in_err-write_behind-clause-any_moment g c tells =
    let d = g.D.Disk in
    let n = 1 + image_size c.args.frames.now + 8 in
    let all : c.args.gate + 1 + n ≡ c.args.gate + 2 + image_size c.args.frames.now + 8 = omega arith in
    up_behind d.moment d.left_since d.seen c.args.disk.now c.write_behind.new.disk c.write_behind.new.disk c.args.gate c.args.frames.now (c.requires.first tells) n (c.write_behind.ensures.any_moment n all)

pub returns-in_err-write_through-clause-any_moment : goal.returns-in_err-write_through-clause-any_moment
returns-in_err-write_through-clause-any_moment g c tells =
    let d = g.D.Disk in
    let n = 1 + image_size c.args.frames.now + 8 in
    let all : c.args.gate + 1 + n ≡ c.args.gate + 2 + image_size c.args.frames.now + 8 = omega arith in
    let torn = first_torn (d.seen c.args.disk.now) c.args.gate c.args.frames.now (c.requires.first tells) c.requires.some (c.args.gate + 2) (omega (arith, c.requires.fits)) (omega arith) (d.seen c.write_behind.new.disk) (c.in_ok-write_behind.ensures.staged tells) in
    up_switch d.moment d.left_since d.seen c.args.disk.now c.write_behind.new.disk c.write_through.new.disk c.args.gate c.args.frames.now (c.requires.first tells) n (c.write_behind.ensures.any_moment n all) torn c.write_through.ensures.any_moment

pub returns-clause-any_moment : goal.returns-clause-any_moment
returns-clause-any_moment g c tells =
    let d = g.D.Disk in
    let n = 1 + image_size c.args.frames.now + 8 in
    let all : c.args.gate + 1 + n ≡ c.args.gate + 2 + image_size c.args.frames.now + 8 = omega arith in
    let torn = first_torn (d.seen c.args.disk.now) c.args.gate c.args.frames.now (c.requires.first tells) c.requires.some (c.args.gate + 2) (omega (arith, c.requires.fits)) (omega arith) (d.seen c.write_behind.new.disk) (c.in_ok-write_behind.ensures.staged tells) in
    let switched = up_switch d.moment d.left_since d.seen c.args.disk.now c.write_behind.new.disk c.write_through.new.disk c.args.gate c.args.frames.now (c.requires.first tells) n (c.write_behind.ensures.any_moment n all) torn c.write_through.ensures.any_moment in
    joined d.moment d.left_since c.args.disk.now c.write_through.new.disk c.finish.new.disk (λ f. Reads f c.args.frames.now) switched (c.finish.ensures.any_moment tells)

pub returns-clause-written : goal.returns-clause-written
returns-clause-written g c tells =
    let d = g.D.Disk in
    let rest = first_switched (d.seen c.args.disk.now) c.args.gate c.args.frames.now (c.requires.first tells) c.requires.some (c.args.gate + 2) (omega (arith, c.requires.fits)) (omega arith) (d.seen c.write_behind.new.disk) (c.in_ok-write_behind.ensures.staged tells)
    (d.seen c.write_through.new.disk) (c.in_ok-write_through.ensures.written tells) in
    c.finish.ensures.written tells 2 rest.0 rest.1
