use Rattle.std.proofs.Common.{◌≤◌, ◌-◌, ◌+◌, List, ℕ, length, drop, arith, subst}
use Rattle.std.proofs.lemmas.Grind.{common_steps}
use Rattle.std.specs.Prelude.{IsErrOf}
use Rattle.hm_log.specs.Format.{spelled, IsOpenBad, RunsTo}
use Rattle.hm_log.specs.Pieces.{body_in}
use Rattle.hm_log.specs.declared.why.OpenWhy.TheVariants.{BadFrame}
use Rattle.hm_log.proofs.Finding.{span_bad, span_foreign, span_found}
use Rattle.hm_log.proofs.Spelling.{length-spelled}
use Rattle.hm_log.proofs.pieces.find.Goals as goal

pub returns-in_err-frames-clause-bad_frame : goal.returns-in_err-frames-clause-bad_frame
returns-in_err-frames-clause-bad_frame g c tells at err =
    let seen = g.D.Disk.seen c.args.disk.now in
    let span = c.in_ok-span.span in
    let fails : IsErrOf c.read_frames.result (BadFrame at) = grind (arith, common_steps) in
    let bad = subst (λ (s : List ℕ). (span.first ≤ at) × IsOpenBad (body_in span.first span.limit s) (at - span.first)) c.survey.ensures.only_reads.untouched.reads (c.read_frames.ensures.bad_frame tells at fails) in
    span_bad span.layout seen span.first span.limit at (c.in_ok-span.ensures.span tells) bad.0 bad.1

pub returns-clause-found : goal.returns-clause-found
returns-clause-found g c tells =
    let seen = g.D.Disk.seen c.args.disk.now in
    let span = c.in_ok-span.span in
    let frames = c.in_ok-frames.frames in
    let within : span.limit ≤ length seen = omega (arith, c.in_ok-span.ensures.within.1, c.requires.size tells) in
    let runs = subst (λ (s : List ℕ). RunsTo (body_in span.first span.limit s) frames (drop (length (spelled frames) + 1) (body_in span.first span.limit s))) c.survey.ensures.only_reads.untouched.reads (c.in_ok-frames.ensures.runs tells) in
    span_found seen span.first span.limit within frames c.in_ok-frames.gate c.in_ok-frames.ensures.ends runs span.layout (c.in_ok-span.ensures.span tells) (c.ends_early.ensures.last c.if-ends_early.false)

pub returns-then-gate-clause-memory : goal.returns-then-gate-clause-memory
returns-then-gate-clause-memory g c tells place err foreign =
    let span = c.in_ok-span.span in
    let within = c.in_ok-span.ensures.within in
    span_foreign span.layout (g.D.Disk.seen c.args.disk.now) span.first span.limit place within.0 (omega (arith, within.1, c.requires.size tells)) (c.in_ok-span.ensures.span tells) foreign

pub returns-clause-small : goal.returns-clause-small
returns-clause-small g c =
    let within = c.in_ok-span.ensures.within in (
      omega (arith, c.if-gate.false, c.in_ok-frames.ensures.ends.at, within.2, length-spelled c.in_ok-frames.frames),
      omega (arith, c.if-gate.false),
    )
