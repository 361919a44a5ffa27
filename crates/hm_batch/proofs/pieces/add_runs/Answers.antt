use Rattle.std.proofs.Common.{◌+◌, ◌∙◌, List, ℕ, append-nil, take, drop, refl, sym, ap, subst, arith}
use Rattle.std.proofs.lemmas.List.{length-take-le}
use Rattle.hm_disk.proofs.Moments.{started}
use Rattle.hm_log.specs.Format.{Reads}
use Rattle.hm_log.specs.Run.{IsRun, BeforeOrAll}
use Rattle.hm_log.proofs.Ways.{on_err}
use Rattle.hm_batch.specs.Flushing.{BreaksOff}
use Rattle.hm_batch.specs.declared.pieces.Piece.{Piece}
use Rattle.hm_batch.proofs.Steps.{next, frames_more, moments_more, changes_more}
use Rattle.hm_batch.proofs.pieces.add_runs.Goals as goal

-- before the first piece
pub loop-note-init : goal.loop-note-init
loop-note-init g c =
    let d = g.D.Disk in
    let log = c.args.log.now in
    let durable : d.tells → (f : List ℕ) → d.image log.disk f → Reads f log.frames = λ tells f. c.anchor-before.ensures.durable tells c.requires.live f in
    record {
      live = c.requires.live;
      rest = λ pieces laid. laid.bytes_are;
      bytes = refl;
      room = refl;
      frames = λ tells pieces laid. sym (append-nil log.frames);
      durable = durable;
      moments = λ tells pieces laid.
          started d.moment d.left_since log.disk _
          (λ f left. (0, omega arith, subst (Reads f) (sym (append-nil log.frames)) (durable tells f (g.met.D.Disk.only_now log.disk f left))));
      no_fault = refl;
      changes = record { later = omega arith; least = omega arith; most = omega arith };
      setting = refl;
    }

pub split_at-requires : goal.split_at-requires
split_at-requires g c =
    let here = next c.args.notes.now c.args.bytes.now c.requires.laid.0 c.requires.laid.1 c.loop-note.note-index (record { bytes = 0; frames = 0 }) c.loop-note.rest.now (omega (arith, c.loop-note-test.true)) (c.loop-note.invariant.rest c.requires.laid.0 c.requires.laid.1) in
    here.long

pub append_run-requires-clause-run : goal.append_run-requires-clause-run
append_run-requires-clause-run g c =
    let here = next c.args.notes.now c.args.bytes.now c.requires.laid.0 c.requires.laid.1 c.loop-note.note-index (record { bytes = 0; frames = 0 }) c.loop-note.rest.now (omega (arith, c.loop-note-test.true)) (c.loop-note.invariant.rest c.requires.laid.0 c.requires.laid.1) in
    (here.piece, subst (λ (r : List ℕ). IsRun r here.piece) (sym c.split_at.ensures.front) here.run, ap (λ (n : Piece). n.frames) here.noted_is)

pub returns-in_err-append_run-clause-any_moment : goal.returns-in_err-append_run-clause-any_moment
returns-in_err-append_run-clause-any_moment g c tells pieces laid =
    let d = g.D.Disk in
    let so_far = c.loop-note.invariant in
    let here = next c.args.notes.now c.args.bytes.now pieces laid c.loop-note.note-index (record { bytes = 0; frames = 0 }) c.loop-note.rest.now (omega (arith, c.loop-note-test.true)) (c.loop-note.invariant.rest pieces laid) in
    let run = subst (λ (r : List ℕ). IsRun r here.piece) (sym c.split_at.ensures.front) here.run in
    moments_more d.moment d.left_since c.args.log.now.disk c.loop-note.log.disk c.append_run.new.self.disk c.args.log.now.frames c.loop-note.log.frames pieces c.loop-note.note-index here.piece here.within here.so_far
    (so_far.frames tells pieces laid) (so_far.moments tells pieces laid) (c.append_run.ensures.any_moment tells here.piece run)

pub returns-in_err-append_run-clause-breaks_off : goal.returns-in_err-append_run-clause-breaks_off
returns-in_err-append_run-clause-breaks_off g c pieces laid =
    let d = g.D.Disk in
    let laws = g.met.D.Disk in
    let i = c.loop-note.note-index in
    let mid = c.loop-note.log in
    let new = c.append_run.new.self.disk in
    let so_far = c.loop-note.invariant in
    let here = next c.args.notes.now c.args.bytes.now pieces laid c.loop-note.note-index (record { bytes = 0; frames = 0 }) c.loop-note.rest.now (omega (arith, c.loop-note-test.true)) (c.loop-note.invariant.rest pieces laid) in
    let run = subst (λ (r : List ℕ). IsRun r here.piece) (sym c.split_at.ensures.front) here.run in
    let breaks : BreaksOff d pieces c.args.log.now c.append_run.new.self = record {
      written = take i pieces;
      failed = here.piece;
      others = drop (i + 1) pieces;
      split = here.split;
      least = omega (arith, so_far.changes.least, c.append_run.ensures.called.later, length-take-le i pieces (omega (arith, here.within)));
      most = omega (arith, so_far.changes.most, c.append_run.ensures.called.changes, length-take-le i pieces (omega (arith, here.within)));
      leaves = λ tells f image.
          let added = c.append_run.ensures.any_moment tells here.piece run in
          subst (λ (fs : List (List ℕ)). BeforeOrAll fs here.piece f) (so_far.frames tells pieces laid) (added.each f (laws.counts_now new (d.moment mid.disk) f added.later image));
    } in
    on_err _ breaks

pub loop-note-preserved : goal.loop-note-preserved
loop-note-preserved g c =
    let d = g.D.Disk in
    let i = c.loop-note.note-index in
    let so_far = c.loop-note.invariant in
    let old = c.args.log.now in
    let mid = c.loop-note.log in
    let new = c.append_run.new.self in
    let ok = c.in_ok-append_run.ensures in
    record {
      live = ok.live_on;
      rest = λ pieces laid.
          let here = next c.args.notes.now c.args.bytes.now pieces laid c.loop-note.note-index (record { bytes = 0; frames = 0 }) c.loop-note.rest.now (omega (arith, c.loop-note-test.true)) (c.loop-note.invariant.rest pieces laid) in
          c.split_at.ensures.back ∙ here.behind;
      bytes = omega (arith, so_far.bytes, ok.bytes, c.split_at.ensures.front_len, c.split_at.ensures.back_len);
      room = c.append_run.ensures.room ∙ so_far.room;
      frames = λ tells pieces laid.
          let here = next c.args.notes.now c.args.bytes.now pieces laid c.loop-note.note-index (record { bytes = 0; frames = 0 }) c.loop-note.rest.now (omega (arith, c.loop-note-test.true)) (c.loop-note.invariant.rest pieces laid) in
          let run = subst (λ (r : List ℕ). IsRun r here.piece) (sym c.split_at.ensures.front) here.run in
          frames_more old.frames mid.frames new.frames pieces i here.piece here.so_far (so_far.frames tells pieces laid) (ok.added tells here.piece run);
      durable = ok.durable;
      moments = λ tells pieces laid.
          let here = next c.args.notes.now c.args.bytes.now pieces laid c.loop-note.note-index (record { bytes = 0; frames = 0 }) c.loop-note.rest.now (omega (arith, c.loop-note-test.true)) (c.loop-note.invariant.rest pieces laid) in
          let run = subst (λ (r : List ℕ). IsRun r here.piece) (sym c.split_at.ensures.front) here.run in
          moments_more d.moment d.left_since old.disk mid.disk new.disk old.frames mid.frames pieces i here.piece here.within here.so_far (so_far.frames tells pieces laid) (so_far.moments tells pieces laid) (c.append_run.ensures.any_moment tells here.piece run);
      no_fault = ok.no_fault ∙ so_far.no_fault;
      changes = changes_more (d.changes old.disk) (d.changes mid.disk) (d.changes new.disk) i so_far.changes ok.changes;
      setting = c.append_run.ensures.called.setting ∙ so_far.setting;
    }
