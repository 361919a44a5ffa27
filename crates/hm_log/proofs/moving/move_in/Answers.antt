use Rattle.std.proofs.Common.{◌≡◌, inr, ◌+◌, ◌-◌, ◌++◌, ◌∷◌, [], sym, arith}
use Rattle.hm_disk.proofs.Moments.{joined, weaker}
use Rattle.hm_log.specs.Format.{image_of, image_size, spelled, frames_of, OldOrNew, Reads}
use Rattle.hm_log.proofs.Moves.{front_kept, replace_behind, replace_switch, staged_log, staged_long, staged_switched, staged_torn, written_whole}
use Rattle.hm_log.proofs.Stages.{length_whole}
use Rattle.hm_log.proofs.Ways.{if_ok}
use Rattle.hm_log.proofs.moving.move_in.Goals as goal

pub write_behind-requires-clause-end : goal.write_behind-requires-clause-end
write_behind-requires-clause-end g c tells = sym (length_whole c.args.gate _ (g.D.Disk.seen c.args.disk.now) (c.requires.whole tells))

pub write_through-requires-clause-place : goal.write_through-requires-clause-place
write_through-requires-clause-place g c tells =
    let d = g.D.Disk in
    let file = d.seen c.args.disk.now in
    let frames = c.args.frames.now in
    let size = c.image_size.ensures.size in
    staged_long file c.args.gate (frames_of file) (c.requires.whole tells) frames c.image_size.ensures.each c.max-place.result (omega (arith, c.max-place.ensures, c.requires.fits, size)) (omega (arith, c.max-place.ensures, size)) (d.seen c.write_behind.new.disk) (c.in_ok-write_behind.ensures.staged tells)

pub finish-requires-clause-moved : goal.finish-requires-clause-moved
finish-requires-clause-moved g c tells =
    let d = g.D.Disk in
    let file = d.seen c.args.disk.now in
    let frames = c.args.frames.now in
    let size = c.image_size.ensures.size in
    staged_log file c.args.gate (frames_of file) (c.requires.whole tells) frames c.image_size.ensures.each c.max-place.result (omega (arith, c.max-place.ensures, c.requires.fits, size)) (omega (arith, c.max-place.ensures, size)) (d.seen c.write_behind.new.disk) (c.in_ok-write_behind.ensures.staged tells)
    (d.seen c.write_through.new.disk) (c.in_ok-write_through.ensures.written tells)

pub returns-in_err-write_behind-clause-any_moment : goal.returns-in_err-write_behind-clause-any_moment
returns-in_err-write_behind-clause-any_moment g c tells =
    let d = g.D.Disk in
    let file = d.seen c.args.disk.now in
    let frames = c.args.frames.now in
    let n = c.max-place.result + image_size frames + 8 - (c.args.gate + 1) in
    let all : c.args.gate + 1 + n ≡ c.max-place.result + image_size frames + 8 = omega (arith, c.max-place.ensures) in
    replace_behind d.moment d.left_since d.seen c.args.disk.now c.write_behind.new.disk c.write_behind.new.disk c.args.gate (frames_of file) (c.requires.whole tells) frames n (c.write_behind.ensures.any_moment n all)

pub returns-in_err-write_through-clause-any_moment : goal.returns-in_err-write_through-clause-any_moment
returns-in_err-write_through-clause-any_moment g c tells =
    let d = g.D.Disk in
    let file = d.seen c.args.disk.now in
    let frames = c.args.frames.now in
    let size = c.image_size.ensures.size in
    let n = c.max-place.result + image_size frames + 8 - (c.args.gate + 1) in
    let all : c.args.gate + 1 + n ≡ c.max-place.result + image_size frames + 8 = omega (arith, c.max-place.ensures) in
    let torn = staged_torn file c.args.gate (frames_of file) (c.requires.whole tells) frames c.image_size.ensures.each c.max-place.result (omega (arith, c.max-place.ensures, c.requires.fits, size)) (omega (arith, c.max-place.ensures, size)) (d.seen c.write_behind.new.disk) (c.in_ok-write_behind.ensures.staged tells) in
    replace_switch d.moment d.left_since d.seen c.args.disk.now c.write_behind.new.disk c.write_through.new.disk c.args.gate (frames_of file) (c.requires.whole tells) frames n (c.write_behind.ensures.any_moment n all) torn c.write_through.ensures.any_moment

pub returns-clause-any_moment : goal.returns-clause-any_moment
returns-clause-any_moment g c tells =
    let d = g.D.Disk in
    let file = d.seen c.args.disk.now in
    let frames = c.args.frames.now in
    let size = c.image_size.ensures.size in
    let n = c.max-place.result + image_size frames + 8 - (c.args.gate + 1) in
    let all : c.args.gate + 1 + n ≡ c.max-place.result + image_size frames + 8 = omega (arith, c.max-place.ensures) in
    let torn = staged_torn file c.args.gate (frames_of file) (c.requires.whole tells) frames c.image_size.ensures.each c.max-place.result (omega (arith, c.max-place.ensures, c.requires.fits, size)) (omega (arith, c.max-place.ensures, size)) (d.seen c.write_behind.new.disk) (c.in_ok-write_behind.ensures.staged tells) in
    let switched = replace_switch d.moment d.left_since d.seen c.args.disk.now c.write_behind.new.disk c.write_through.new.disk c.args.gate (frames_of file) (c.requires.whole tells) frames n (c.write_behind.ensures.any_moment n all) torn c.write_through.ensures.any_moment in
    joined d.moment d.left_since c.args.disk.now c.write_through.new.disk c.finish.new.disk (OldOrNew (frames_of file) frames) switched
    (weaker d.moment d.left_since c.write_through.new.disk c.finish.new.disk (λ f. Reads f frames) (OldOrNew (frames_of file) frames) (λ f reads. inr reads) (c.finish.ensures.any_moment tells))

pub returns-clause-written : goal.returns-clause-written
returns-clause-written g c tells =
    let d = g.D.Disk in
    let file = d.seen c.args.disk.now in
    let frames = c.args.frames.now in
    let size = c.image_size.ensures.size in
    let whole = c.requires.whole tells in
    let rest = staged_switched file c.args.gate (frames_of file) whole frames c.image_size.ensures.each c.max-place.result (omega (arith, c.max-place.ensures, c.requires.fits, size)) (omega (arith, c.max-place.ensures, size)) (d.seen c.write_behind.new.disk) (c.in_ok-write_behind.ensures.staged tells)
    (d.seen c.write_through.new.disk) (c.in_ok-write_through.ensures.written tells) in
    if_ok c.finish.result (front_kept whole.version whole.selector (spelled (frames_of file) ++ whole.gate ∷ []) file (image_of frames) (d.seen c.finish.new.disk) whole.spelling) (c.finish.ensures.written tells whole.version rest.0 rest.1)

pub returns-clause-whole : goal.returns-clause-whole
returns-clause-whole g c at is tells =
    let d = g.D.Disk in
    let file = d.seen c.args.disk.now in
    let frames = c.args.frames.now in
    let size = c.image_size.ensures.size in
    let whole = c.requires.whole tells in
    let rest = staged_switched file c.args.gate (frames_of file) whole frames c.image_size.ensures.each c.max-place.result (omega (arith, c.max-place.ensures, c.requires.fits, size)) (omega (arith, c.max-place.ensures, size)) (d.seen c.write_behind.new.disk) (c.in_ok-write_behind.ensures.staged tells)
    (d.seen c.write_through.new.disk) (c.in_ok-write_through.ensures.written tells) in
    if_ok c.finish.result (written_whole whole.version whole.newer frames c.image_size.ensures.each (d.seen c.finish.new.disk) at is) (c.finish.ensures.written tells whole.version rest.0 rest.1)
