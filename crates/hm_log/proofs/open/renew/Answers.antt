use Rattle.std.proofs.Common.{◌+◌}
use Rattle.hm_disk.specs.Disk.{CutOrWhole}
use Rattle.hm_disk.proofs.Moments.{joined, weaker}
use Rattle.hm_log.specs.Format.{Reads}
use Rattle.hm_log.proofs.Settling.{first_cut, first_reads_to, first_whole, settles_same}
use Rattle.hm_log.proofs.open.renew.Goals as goal

pub returns-in_err-cut_behind-clause-any_moment : goal.returns-in_err-cut_behind-clause-any_moment
returns-in_err-cut_behind-clause-any_moment g c tells =
    let d = g.D.Disk in
    let file = d.seen c.args.disk.now in
    let gate = c.args.found.now.gate in
    let frames = c.args.found.now.frames in
    let first = c.requires.first tells in
    settles_same d.moment d.left_since c.args.disk.now c.args.disk.now c.cut_behind.new.disk file frames (first_reads_to file gate frames first.0 first.1)
    (weaker d.moment d.left_since c.args.disk.now c.cut_behind.new.disk (CutOrWhole (gate + 1) file) (λ f. Reads f frames) (first_cut file gate frames first.0 first.1) c.cut_behind.ensures.any_moment)

pub move_up-requires-clause-first : goal.move_up-requires-clause-first
move_up-requires-clause-first g c tells =
    let first = c.requires.first tells in
    first_whole (g.D.Disk.seen c.args.disk.now) c.args.found.now.gate c.args.found.now.frames first.0 first.1 (g.D.Disk.seen c.cut_behind.new.disk) (c.in_ok-cut_behind.ensures.cut tells)

pub returns-clause-any_moment : goal.returns-clause-any_moment
returns-clause-any_moment g c tells =
    let d = g.D.Disk in
    let file = d.seen c.args.disk.now in
    let gate = c.args.found.now.gate in
    let frames = c.args.found.now.frames in
    let first = c.requires.first tells in
    settles_same d.moment d.left_since c.args.disk.now c.args.disk.now c.move_up.new.disk file frames (first_reads_to file gate frames first.0 first.1)
    (joined d.moment d.left_since c.args.disk.now c.cut_behind.new.disk c.move_up.new.disk (λ f. Reads f frames)
    (weaker d.moment d.left_since c.args.disk.now c.cut_behind.new.disk (CutOrWhole (gate + 1) file) (λ f. Reads f frames) (first_cut file gate frames first.0 first.1) c.cut_behind.ensures.any_moment)
    (c.move_up.ensures.any_moment tells))
