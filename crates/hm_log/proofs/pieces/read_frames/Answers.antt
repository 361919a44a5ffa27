use Rattle.std.proofs.Common.{rules, ◌≡◌, ◌≤◌, ◌-◌, arith, subst, ◌∙◌, List, ℕ, length, drop, ◌++◌, length-append, length-drop}
use Rattle.std.proofs.lemmas.List.{length-take}
use Rattle.std.proofs.lemmas.Grind.{common_steps}
use Rattle.std.specs.Prelude.{IsErrOf}
use Rattle.hm_log.specs.Format.{IsOpenBad}
use Rattle.hm_log.specs.Pieces.{IsShutBehind, StandsIn, body_in}
use Rattle.hm_log.specs.declared.why.OpenWhy.TheVariants.{BadFrame}
use Rattle.hm_log.proofs.Further.{body_long, runs_to}
use Rattle.hm_log.proofs.Reading.{reads_then}
use Rattle.hm_log.proofs.pieces.read_frames.Goals as goal

pub returns-in_err-gate-clause-bad_frame : goal.returns-in_err-gate-clause-bad_frame
returns-in_err-gate-clause-bad_frame g c tells at err =
    let fails : IsErrOf c.read_piece.result (BadFrame at) = grind (arith, common_steps) in
    subst (λ (s : List ℕ). (c.args.span.first ≤ at) × IsOpenBad (body_in c.args.span.first c.args.span.limit s) (at - c.args.span.first)) c.loop-gate.invariant.reads.untouched.reads (c.read_piece.ensures.bad_frame tells at fails)

pub loop-gate-preserved : goal.loop-gate-preserved
loop-gate-preserved g c =
    let was = c.loop-gate.invariant in
    let same = was.reads.untouched.reads in
    let now : List ℕ = c.read_piece.new.piece in
    let vec : List ℕ = c.loop-gate.piece.items in
    let long : length now ≡ length vec = search rules in
    record {
      reads = reads_then g.D.Disk c.args.disk.now c.loop-gate.disk c.read_piece.new.disk was.reads c.read_piece.ensures.only_reads;
      no_fault = c.in_ok-gate.ensures.no_fault ∙ was.no_fault;
      ends = c.in_ok-gate.ensures.ends;
      stands = λ tells. subst (λ (s : List ℕ). StandsIn (body_in c.args.span.first c.args.span.limit s) c.read_piece.new.frames) same (c.in_ok-gate.ensures.stands tells);
      shut = λ tells closed. subst (λ (s : List ℕ). IsShutBehind (body_in c.args.span.first c.args.span.limit s) c.read_piece.new.frames) same (c.in_ok-gate.ensures.shut tells closed);
      room = omega (arith, long, was.room, length-take c.loop-gate.piece.len (now ++ drop (length now) vec), length-append now (drop (length now) vec), length-drop (length now) vec);
    }

pub returns-clause-runs : goal.returns-clause-runs
returns-clause-runs g c tells =
    let was = c.loop-gate.invariant in
    runs_to _ c.loop-gate.frames (omega (arith, was.ends.at, was.ends.within, body_long (g.D.Disk.seen c.args.disk.now) c.args.span.first c.args.span.limit (c.requires.limit tells))) was.ends.each (was.stands tells) (was.shut tells c.loop-gate-test.false)
