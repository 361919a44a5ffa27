use Rattle.std.proofs.Common.{◌≡◌, ◌+◌, arith}
use Rattle.hm_log.specs.Format.{image_size}
use Rattle.hm_log.proofs.Moves.{backed_long, ended, fronted_long, moved_long, leaves_back, leaves_end, leaves_front}
use Rattle.hm_log.proofs.Ways.{if_ok}
use Rattle.hm_log.proofs.moving.finish.Goals as goal

pub write_front-requires-clause-place : goal.write_front-requires-clause-place
write_front-requires-clause-place g c tells = moved_long g.D.Disk.moment g.D.Disk.left_since g.D.Disk.seen c.args.disk.now c.args.disk.now c.args.disk.now c.args.disk.now c.args.frames.now (c.requires.moved tells)

pub write_through-requires-clause-place : goal.write_through-requires-clause-place
write_through-requires-clause-place g c tells =
    fronted_long g.D.Disk.moment g.D.Disk.left_since g.D.Disk.seen c.args.disk.now c.write_front.new.disk c.write_front.new.disk c.write_front.new.disk c.args.frames.now (c.requires.moved tells) (c.in_ok-write_front.ensures.written tells)

pub trim-requires-clause-place : goal.trim-requires-clause-place
trim-requires-clause-place g c tells =
    let long = backed_long g.D.Disk.moment g.D.Disk.left_since g.D.Disk.seen c.args.disk.now c.write_front.new.disk c.write_through.new.disk c.write_through.new.disk c.args.frames.now (c.requires.moved tells) (c.in_ok-write_front.ensures.written tells) (c.in_ok-write_through.ensures.written tells) in
    omega (arith, long, c.image_size.ensures.size)

pub returns-in_err-write_front-clause-any_moment : goal.returns-in_err-write_front-clause-any_moment
returns-in_err-write_front-clause-any_moment g c tells =
    leaves_front g.D.Disk.moment g.D.Disk.left_since g.D.Disk.seen c.args.disk.now c.write_front.new.disk c.write_front.new.disk c.write_front.new.disk c.args.frames.now (c.requires.moved tells) c.write_front.ensures.any_moment

pub returns-in_err-write_through-clause-any_moment : goal.returns-in_err-write_through-clause-any_moment
returns-in_err-write_through-clause-any_moment g c tells =
    leaves_back g.D.Disk.moment g.D.Disk.left_since g.D.Disk.seen c.args.disk.now c.write_front.new.disk c.write_through.new.disk c.write_through.new.disk c.args.frames.now (c.requires.moved tells) (c.in_ok-write_front.ensures.written tells)
    c.write_front.ensures.any_moment c.write_through.ensures.any_moment

pub returns-clause-any_moment : goal.returns-clause-any_moment
returns-clause-any_moment g c tells =
    let size : c.image_size.result + 10 ≡ image_size c.args.frames.now + 10 = omega (arith, c.image_size.ensures.size) in
    leaves_end g.D.Disk.moment g.D.Disk.left_since g.D.Disk.seen c.args.disk.now c.write_front.new.disk c.write_through.new.disk c.trim.new.disk c.args.frames.now (c.requires.moved tells) (c.image_size.result + 10) size (c.in_ok-write_front.ensures.written tells)
    (c.in_ok-write_through.ensures.written tells) c.write_front.ensures.any_moment c.write_through.ensures.any_moment c.trim.ensures.any_moment

pub returns-clause-written : goal.returns-clause-written
returns-clause-written g c tells version rest is =
    let size : c.image_size.result + 10 ≡ image_size c.args.frames.now + 10 = omega (arith, c.image_size.ensures.size) in
    if_ok c.trim.result
    (λ cut. ended g.D.Disk.moment g.D.Disk.left_since g.D.Disk.seen c.args.disk.now c.write_front.new.disk c.write_through.new.disk c.trim.new.disk c.args.frames.now (c.requires.moved tells) (c.image_size.result + 10) size (c.in_ok-write_front.ensures.written tells)
    (c.in_ok-write_through.ensures.written tells) cut version rest is)
    (c.trim.ensures.cut tells)
