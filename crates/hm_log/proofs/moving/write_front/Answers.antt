use Rattle.std.proofs.Common.{arith}
use Rattle.hm_log.specs.Format.{image_size}
use Rattle.hm_log.proofs.Runs.{run_starts, run_waits}
use Rattle.hm_log.proofs.moving.write_front.Goals as goal

pub returns-in_err-put_image-clause-any_moment : goal.returns-in_err-put_image-clause-any_moment
returns-in_err-put_image-clause-any_moment g c =
    let start = c.args.disk.now in
    let n = image_size c.args.frames.now in
    (c.put_image.ensures.goes_on 10 n _ start (omega arith) (omega arith) (run_starts g.D.Disk g.met.D.Disk.only_now start 10 n c.requires.only)).leaves

pub returns-clause-any_moment : goal.returns-clause-any_moment
returns-clause-any_moment g c =
    let start = c.args.disk.now in
    let n = image_size c.args.frames.now in
    let run = c.put_image.ensures.goes_on 10 n _ start (omega arith) (omega arith) (run_starts g.D.Disk g.met.D.Disk.only_now start 10 n c.requires.only) in
    (run_waits g.D.Disk g.met.D.Disk.only_now 10 n _ start _ _ c.sync.ensures.crash c.sync.ensures.time run).leaves
