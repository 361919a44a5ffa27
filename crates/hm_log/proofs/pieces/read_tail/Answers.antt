use Rattle.std.proofs.Common.{◌+◌, arith}
use Rattle.std.proofs.lemmas.Grind.{common_steps}
use Rattle.std.specs.Prelude.{IsErrOf}
use Rattle.hm_log.specs.declared.why.OpenWhy.TheVariants.{BadFrame}
use Rattle.hm_log.proofs.Further.{body_long}
use Rattle.hm_log.proofs.Tails.{same_runs, runs_well, runs_end}
use Rattle.hm_log.proofs.pieces.read_tail.Goals as goal

pub returns-in_err-frames-clause-bad_frame : goal.returns-in_err-frames-clause-bad_frame
returns-in_err-frames-clause-bad_frame g c tells more runs at err =
    let fails : IsErrOf c.read_frames.result (BadFrame at) = grind (arith, common_steps) in
    runs_well _ more _ _ runs (c.read_frames.ensures.bad_frame tells at fails).1

pub returns-then-end-gate-clause-bad_frame : goal.returns-then-end-gate-clause-bad_frame
returns-then-end-gate-clause-bad_frame g c tells more runs at err =
    let seen = g.D.Disk.seen c.args.disk.now in
    let ends = runs_end _ c.in_ok-frames.frames more _ (c.in_ok-frames.ensures.runs tells) runs in
    c.if-end-gate.true (omega (arith, ends, c.in_ok-frames.ensures.ends.at, body_long seen c.args.place (c.args.gate + 1) (c.requires.limit tells), c.requires.within.0))

pub returns-clause-frames : goal.returns-clause-frames
returns-clause-frames g c tells more runs = (same_runs _ c.in_ok-frames.frames more _ _ (c.in_ok-frames.ensures.runs tells) runs).0
