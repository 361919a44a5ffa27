use Rattle.std.proofs.Common.{◌≡◌, ◌∙◌, [], ap, drop, inl, refl, subst, sym}
use Rattle.std.specs.Option.{option_copied}
use Rattle.hm_exec.specs.Hearing.{report_entry}
use Rattle.hm_exec.specs.View.{moment_of}
use Rattle.hm_model.specs.Locks.{IsIn}
use Rattle.hm_world.specs.Scene.{WorldView}
use Rattle.hm_world.proofs.Carried.{front, no_front}
use Rattle.hm_world.proofs.Entered.{report_enters}
use Rattle.hm_world.proofs.Keeps.{sound_heard, sound_reported}
use Rattle.hm_world.proofs.world.World.hear.Goals as goal

pub unreachable-requires : goal.unreachable-requires
unreachable-requires g c =
    c.requires.waits (subst (λ (v : WorldView _). (let f = v.fleet in f.waiting) ≡ []) c.self.view_is (no_front c.self.inside.fleet.waiting (sym c.oldest.ensures ∙ ap option_copied c.in_default.is)))

pub invariant_of-self : goal.invariant_of-self
invariant_of-self g c =
    let report = c.in-Some.report.now in
    let fleet = c.self.inside.fleet in
    let is = front report fleet.waiting (sym c.in-Some.ensures) in
    let old = moment_of g.R.Recorder.kept c.self.inside.exec in
    let new = moment_of g.R.Recorder.kept c.hear.new.self in
    sound_heard new.kept fleet c.hear-in-Ok.new.self c.self.inside.due.items
    (sound_reported old.kept new.kept fleet c.self.inside.due.items report (subst (IsIn report) (sym is) (inl refl)) c.self.invariant (report_enters (λ entry. entry ≡ report_entry report) old new report refl c.hear.result c.hear.ensures.answers))
    report (drop 1 fleet.waiting) is c.hear-in-Ok.ensures.outside c.hear-in-Ok.ensures.wire c.hear-in-Ok.ensures.waiting

pub invariant_of-self-in-Err : goal.invariant_of-self-in-Err
invariant_of-self-in-Err g c =
    let report = c.in-Some.report.now in
    let fleet = c.self.inside.fleet in
    let is = front report fleet.waiting (sym c.in-Some.ensures) in
    let old = moment_of g.R.Recorder.kept c.self.inside.exec in
    let new = moment_of g.R.Recorder.kept c.hear.new.self in
    sound_reported old.kept new.kept fleet c.self.inside.due.items report (subst (IsIn report) (sym is) (inl refl)) c.self.invariant (report_enters (λ entry. entry ≡ report_entry report) old new report refl c.hear.result c.hear.ensures.answers)
