use Rattle.std.proofs.Common.{◌≡◌, ◌∷◌, ◌++◌, [], All, List, length, Some, refl, sym, ap, subst, ◌∙◌, append_assoc, arith}
use Rattle.hm_model.specs.Image.{counted}
use Rattle.hm_world.specs.Scene.{past_in}
use Rattle.hm_script.specs.declared.command.Command.{Command}
use Rattle.std.specs.Vec.Iter.{into_iter_items}
use Rattle.std.proofs.lemmas.Grind.{common_steps}
use Rattle.hm_journal.specs.Opened.{Opened as OpenedAt}
use Rattle.hm_commands.specs.Offered.{IsOffered}
use Rattle.hm_commands.specs.Scenes.{journal_at}
use Rattle.hm_commands.specs.View.{IsLeftBy, scene_in}
use Rattle.hm_commands.proofs.Ran.{run_none, ran_idle, ran_on}
use Rattle.hm_commands.proofs.Serving.{comes_editions, comes_sheets, serve_on}
use Rattle.hm_top.proofs.Offered.{offered_in}
use Rattle.hm_top.proofs.Sessions.{all_answered, none_answered, none_left, said_less, said_more, stopped_within}
use Rattle.hm_top.proofs.answering.answer_all.Goals as goal

pub loop-command-init : goal.loop-command-init
loop-command-init g c =
    let was = scene_in c.args.cluster in
    let given = c.into_iter-command-iterator.ensures.into_iter_gives.0 in
    record {
      answered = none_answered was c.requires.fresh;
      parts = sym given;
      counted = grind (arith, common_steps);
      room = omega (arith, ap length given, c.requires.room);
      begun = refl;
      edition = refl;
      opened = refl;
      ran = ran_idle _ (journal_at was) (journal_at was) refl (run_none _ _);
      each = c.requires.each;
      sink_later = omega arith;
    }

pub answer-requires-clause-hands : goal.answer-requires-clause-hands
answer-requires-clause-hands g c =
    let so_far = c.loop-command in
    serve_on _ _ (journal_at (scene_in c.args.cluster)) (journal_at (scene_in so_far.cluster)) c.requires.hands so_far.invariant.ran.2.alike so_far.invariant.begun so_far.invariant.edition

pub answer-requires-clause-offered : goal.answer-requires-clause-offered
answer-requires-clause-offered g c =
    let so_far = c.loop-command in
    offered_in so_far.yielded c.in-Some.command (into_iter_items c.next.new.self)
    (subst (All IsOffered) (so_far.invariant.parts ∙ ap (λ (l : List Command). so_far.yielded ++ l) c.in-Some.ensures.steps.0) c.requires.offered)

pub returns-in-Err-clause-early : goal.returns-in-Err-clause-early
returns-in-Err-clause-early g c =
    let so_far = c.loop-command in
    let lost = c.in-Err.ensures.early in (
      lost.0,
      stopped_within _ so_far.invariant.answered so_far.invariant.parts c.in-Some.ensures.steps.0 lost.0 lost.1,
      subst (λ (opened : OpenedAt _). IsLeftBy g.D.Disk opened lost.0 c.in-Err.disk) so_far.invariant.opened lost.2,
      ran_on (journal_at (scene_in c.args.cluster)) (journal_at (scene_in so_far.cluster)) (journal_at lost.0) _ _ _ _ _ _ so_far.invariant.ran lost.3,
    )

pub returns-in-Err-said-clause-early : goal.returns-in-Err-said-clause-early
returns-in-Err-said-clause-early g c =
    let so_far = c.loop-command in
    let now = scene_in c.in-Ok.answered.0 in
    let marked : c.push_reserved.new.self.items ≡ so_far.marks.items ++ counted (past_in now) ∷ [] = grind (arith, common_steps, c.counted.ensures.count) in (
      now,
      said_less _ so_far.invariant.answered so_far.invariant.parts c.in-Some.ensures.steps.0 c.in-Ok.answered.1 now c.in-Ok.ensures.answers c.keeps.ensures.once marked c.in-Err-said.ensures.part,
      subst (λ (opened : OpenedAt _). IsLeftBy g.D.Disk opened now c.into_disk.result) (c.in-Ok.ensures.opened ∙ so_far.invariant.opened) c.into_disk.ensures.left,
      ran_on (journal_at (scene_in c.args.cluster)) (journal_at (scene_in so_far.cluster)) (journal_at now) _ _ _ _ _ _ so_far.invariant.ran c.in-Ok.ensures.ran,
    )

pub loop-command-preserved : goal.loop-command-preserved
loop-command-preserved g c =
    let so_far = c.loop-command in
    let now = scene_in c.in-Ok.answered.0 in
    let rest = c.in-Some.ensures.steps.0 in
    let marked : c.push_reserved.new.self.items ≡ so_far.marks.items ++ counted (past_in now) ∷ [] = grind (arith, common_steps, c.counted.ensures.count) in
    record {
      answered = said_more _ so_far.invariant.answered so_far.invariant.parts rest c.in-Ok.answered.1 now c.in-Ok.ensures.answers c.keeps.ensures.once marked c.in_default.ensures.all;
      parts = so_far.invariant.parts ∙ ap (λ (l : List Command). so_far.yielded ++ l) rest ∙ sym (append_assoc so_far.yielded (c.in-Some.command ∷ []) (into_iter_items c.next.new.self));
      counted = let was = so_far.invariant.counted in let gone = c.in-Some.ensures.steps.1 in let short = ap length rest in omega (arith, was, gone, short);
      room = omega (arith, ap length rest, so_far.invariant.room, c.push_reserved.ensures.len, c.push_reserved.ensures.capacity);
      begun = comes_sheets c.in-Some.command (scene_in so_far.cluster) (Some c.in-Ok.answered.1) now c.in-Ok.ensures.answers ∙ so_far.invariant.begun;
      edition = comes_editions c.in-Some.command (scene_in so_far.cluster) (Some c.in-Ok.answered.1) now c.in-Ok.ensures.answers ∙ so_far.invariant.edition;
      opened = c.in-Ok.ensures.opened ∙ so_far.invariant.opened;
      ran = ran_on (journal_at (scene_in c.args.cluster)) (journal_at (scene_in so_far.cluster)) (journal_at now) _ _ _ _ _ _ so_far.invariant.ran c.in-Ok.ensures.ran;
      each = c.answer.ensures.each;
      sink_later = let later = c.say-said.ensures.cause.later in omega (arith, so_far.invariant.sink_later, later);
    }

pub returns-clause-done : goal.returns-clause-done
returns-clause-done g c =
    let so_far = c.loop-command.invariant in
    let rest = into_iter_items c.loop-command.command-iterator in
    all_answered so_far.answered rest so_far.parts (none_left rest (sym so_far.counted ∙ c.in-None.ensures.steps.0))
