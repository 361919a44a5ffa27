use Rattle.std.proofs.Common.{Ok, Err, map, refl, sym, ap, ◌∙◌, subst}
use Rattle.hm_sheet.specs.Registry.{sheets_by}
use Rattle.hm_journal.specs.Opened.{Opened as OpenedAt}
use Rattle.hm_model.specs.Editions.{editions}
use Rattle.hm_model.specs.Journal.{back}
use Rattle.hm_model.specs.Sheets.{sheets_of as in_force}
use Rattle.hm_commands.specs.Hands.{AgreeOn, first_sheets}
use Rattle.hm_commands.specs.Scenes.{halt_at, journal_at, new_scene}
use Rattle.hm_commands.specs.View.{IsLeftBy, scene_in}
use Rattle.hm_commands.proofs.Ran.{ran_idle, ran_none, run_none}
use Rattle.hm_world.specs.Scene.{Scene}
use Rattle.hm_top.specs.Answering.{IsAnswering}
use Rattle.hm_top.proofs.Openings.{answered_on, answering_ends, downs_keep, ran_behind}
use Rattle.hm_top.proofs.Runs.{ran_from}
use Rattle.hm_top.proofs.talking.answer_over.Goals as goal

pub returns-in-Err-clause-stopped : goal.returns-in-Err-clause-stopped
returns-in-Err-clause-stopped g c =
    (new_scene c.args.store.kept, (c.requires.fresh, refl, λ told. refl), c.in-Err.ensures.left, ran_idle _ c.args.store.kept.entries c.args.store.kept.entries refl (run_none _ _))

pub returns-in_default-clause-stopped : goal.returns-in_default-clause-stopped
returns-in_default-clause-stopped g c =
    let cluster = c.in-Ok.ensures in
    let left = subst (λ (at : OpenedAt _). IsLeftBy g.D.Disk at (scene_in c.in-Ok.cluster) c.into_disk.result) cluster.opened c.into_disk.ensures.left in (
      new_scene c.args.store.kept,
      (c.reserve.ensures.items ∙ c.requires.fresh, refl, λ told. refl),
      subst (λ (s : Scene). IsLeftBy g.D.Disk c.args.store.opened s c.into_disk.result) cluster.at left,
      ran_idle _ c.args.store.kept.entries c.args.store.kept.entries refl (run_none _ _),
    )

pub returns-in-Err-begin-clause-stopped : goal.returns-in-Err-begin-clause-stopped
returns-in-Err-begin-clause-stopped g c =
    let cluster = c.in-Ok.ensures in
    let was = scene_in c.in-Ok.cluster in
    let early = c.in-Err-begin.ensures.early in
    let end = c.in-Err-begin.end in
    let new = early.0 in
    let items = c.args.commands.items in
    let marks = c.reserve.new.self.items in (
      new,
      (
        subst (λ (s : Scene). IsAnswering g.K.Sink.tells (g.K.Sink.got c.args.out.now) (g.K.Sink.got c.begin.new.out) (Err end) items s marks new) cluster.at
            (subst (λ m. IsAnswering g.K.Sink.tells (g.K.Sink.got c.args.out.now) (g.K.Sink.got c.begin.new.out) (Err end) items was m new) (sym (c.reserve.ensures.items ∙ c.requires.fresh)) (early.4 items)),
        early.3,
      ),
      subst (λ (at : OpenedAt _). IsLeftBy g.D.Disk at new c.in-Err-begin.disk) cluster.opened early.1,
      ran_from (journal_at was) c.args.store.kept.entries (journal_at new) (ap journal_at cluster.at) (ran_none _ (journal_at was) (journal_at new) early.2 (run_none _ _)),
    )

pub answer_all-requires-clause-hands : goal.answer_all-requires-clause-hands
answer_all-requires-clause-hands g c =
    let f = λ (r : _). sheets_by (goal.Handler-dyn g) r in
    let was = scene_in c.in-Ok.cluster in
    let at = scene_in c.in-Ok-begin.begun in
    let passing = c.in-Ok-begin.ensures.done in
    let going = ap halt_at c.in-Ok.ensures.at ∙ c.requires.going in
    let keeps = downs_keep _ was passing.lines at going passing.downs in
    let opened = keeps.sheets ∙ ap (λ (s : Scene). in_force (back (journal_at s))) c.in-Ok.ensures.at in
    let edition = keeps.edition ∙ ap (λ (s : Scene). editions (back (journal_at s))) c.in-Ok.ensures.at in
    record {
      agree = c.requires.hands.agree;
      begins = subst (AgreeOn (first_sheets (map f c.args.hands.now.items))) (sym opened) c.requires.hands.begins;
      unadopted = edition ∙ c.requires.hands.unadopted;
    }

pub returns-in-Ok-answer_all-clause-done : goal.returns-in-Ok-answer_all-clause-done
returns-in-Ok-answer_all-clause-done g c =
    let cluster = c.in-Ok.ensures in
    let answered = c.in-Ok-answer_all.ensures in
    subst (λ (s : Scene). IsAnswering g.K.Sink.tells (g.K.Sink.got c.args.out.now) (g.K.Sink.got c.answer_all.new.out) (Ok tt) c.args.commands.items s c.answer_all.new.marks.items (scene_in c.in-Ok-answer_all.cluster)) cluster.at
    (answered_on refl c.in-Ok-begin.ensures.done (Ok tt) answered.done)

pub returns-in-Ok-answer_all-clause-ran : goal.returns-in-Ok-answer_all-clause-ran
returns-in-Ok-answer_all-clause-ran g c =
    let cluster = c.in-Ok.ensures in
    let was = scene_in c.in-Ok.cluster in
    let begun = c.in-Ok-begin.ensures in
    let mid = scene_in c.in-Ok-begin.begun in
    let new = scene_in c.in-Ok-answer_all.cluster in
    let going = ap halt_at cluster.at ∙ c.requires.going in
    let steps = (downs_keep _ was begun.done.lines mid going begun.done.downs).steps in
    ran_from (journal_at was) c.args.store.kept.entries (journal_at new) (ap journal_at cluster.at) (ran_behind was mid (journal_at new) steps c.in-Ok-answer_all.ensures.ran)

pub returns-in-Err-answer_all-clause-stopped : goal.returns-in-Err-answer_all-clause-stopped
returns-in-Err-answer_all-clause-stopped g c =
    let cluster = c.in-Ok.ensures in
    let was = scene_in c.in-Ok.cluster in
    let begun = c.in-Ok-begin.ensures in
    let mid = scene_in c.in-Ok-begin.begun in
    let early = c.in-Err-answer_all.ensures.early in
    let end = c.in-Err-answer_all.end in
    let new = early.0 in
    let going = ap halt_at cluster.at ∙ c.requires.going in
    let steps = (downs_keep _ was begun.done.lines mid going begun.done.downs).steps in (
      new,
      (
        subst (λ (s : Scene). IsAnswering g.K.Sink.tells (g.K.Sink.got c.args.out.now) (g.K.Sink.got c.answer_all.new.out) (Err end) c.args.commands.items s c.answer_all.new.marks.items new) cluster.at (answered_on refl begun.done (Err end) early.1),
        answering_ends end early.1.rest early.1.mid new early.1.ends,
      ),
      subst (λ (at : OpenedAt _). IsLeftBy g.D.Disk at new c.in-Err-answer_all.disk) (begun.opened ∙ cluster.opened) early.2,
      ran_from (journal_at was) c.args.store.kept.entries (journal_at new) (ap journal_at cluster.at) (ran_behind was mid (journal_at new) steps early.3),
    )
