use Rattle.std.proofs.Common.{◌≡◌, ◌<◌, [], length, take, Some, refl, sym, subst, ◌∙◌, append-nil, arith, slice_get}
use lib.Seq.{take_all}
use Rattle.hm_journal.proofs.Spelled.{take_item}
use Rattle.hm_journal.specs.Opened.{Opened as OpenedAt}
use Rattle.hm_model.specs.Fleet.{servers_of}
use Rattle.hm_world.specs.Scene.{past_in}
use Rattle.hm_commands.specs.Scenes.{journal_at}
use Rattle.hm_commands.specs.View.{IsLeftBy, scene_in}
use Rattle.hm_top.specs.Opening.{IsPassing}
use Rattle.hm_top.proofs.Openings.{adds_on, item_at, keeps_on, keeps_same, not_opened, opened_said, pass_keeps, pass_more, split_at, stop_ends, stop_steps, stops}
use Rattle.hm_top.proofs.opening.begin.Goals as goal

pub returns-in-Err-clause-early : goal.returns-in-Err-clause-early
returns-in-Err-clause-early g c =
    let was = scene_in c.args.cluster in
    (was, c.into_disk.ensures.left, ([], sym (append-nil (journal_at was)), refl), tt, λ commands. not_opened was commands (rw c.counted.ensures.count at c.in-Err.ensures.part))

pub loop-place-init : goal.loop-place-init
loop-place-init g c =
    let was = scene_in c.args.cluster in
    record {
      passing = opened_said was (rw c.counted.ensures.count at c.in_default.ensures.all);
      keeps = keeps_same was was refl c.requires.going;
      opened = refl;
      sink_later = c.say.ensures.cause.later;
    }

pub returns-in-Err-pass_by-clause-early : goal.returns-in-Err-pass_by-clause-early
returns-in-Err-pass_by-clause-early g c =
    let was = scene_in c.args.cluster in
    let at = scene_in c.loop-place.cluster in
    let so_far = c.loop-place.invariant in
    let early = c.in-Err-pass_by.ensures.early in
    let end = c.in-Err-pass_by.early.1 in
    let here : slice_get (servers_of (past_in was)) c.loop-place.place ≡ Some early.0 = subst (λ l. slice_get l c.loop-place.place ≡ Some early.0) so_far.keeps.servers early.1 in
    let parts = split_at (servers_of (past_in was)) c.loop-place.place early.0 here in (
      early.2,
      subst (λ (opened : OpenedAt _). IsLeftBy g.D.Disk opened early.2 c.in-Err-pass_by.early.0) so_far.opened early.4,
      adds_on was at early.2 so_far.keeps.steps (stop_steps _ _ _ early.0 at end early.2 so_far.keeps.going early.3),
      stop_ends _ _ _ early.0 at end early.2 early.3,
      λ commands. stops so_far.passing early.0 parts.0 parts.1 commands end early.2 (g.K.Sink.got c.pass_by.new.out) early.3,
    )

pub loop-place-preserved : goal.loop-place-preserved
loop-place-preserved g c =
    let was = scene_in c.args.cluster in
    let at = scene_in c.loop-place.cluster in
    let new = scene_in c.in-Ok.next in
    let so_far = c.loop-place.invariant in
    let place = c.loop-place.place in
    let below = c.loop-place-test.true in
    let many = c.server_count-place-end.ensures in
    let within : place < length (servers_of (past_in was)) = omega (arith, below, many) in
    let item = item_at (servers_of (past_in was)) place within in
    let here : slice_get (servers_of (past_in at)) place ≡ Some item.0 = subst (λ l. slice_get l place ≡ Some item.0) (sym so_far.keeps.servers) item.1 in
    let passed = c.in-Ok.ensures.done item.0 here in
    record {
      passing = subst (λ l. IsPassing g.K.Sink.tells (g.K.Sink.got c.args.out.now) (g.K.Sink.got c.pass_by.new.out) was l new) (sym (take_item (servers_of (past_in was)) place item.0 item.1))
          (pass_more so_far.passing item.0 passed.0 new passed.1 passed.2);
      keeps = keeps_on was at new so_far.keeps (pass_keeps item.0 at new passed.0 so_far.keeps.going passed.1);
      opened = c.in-Ok.ensures.opened ∙ so_far.opened;
      sink_later = let before = so_far.sink_later in let later = c.pass_by.ensures.later in omega (arith, before, later);
    }

pub returns-clause-done : goal.returns-clause-done
returns-clause-done g c =
    let was = scene_in c.args.cluster in
    let out = c.loop-place-test.false in
    let many = c.server_count-place-end.ensures in
    let all : take c.loop-place.place (servers_of (past_in was)) ≡ servers_of (past_in was) = take_all c.loop-place.place (servers_of (past_in was)) (omega (arith, out, many)) in
    subst (λ l. IsPassing g.K.Sink.tells (g.K.Sink.got c.args.out.now) (g.K.Sink.got c.loop-place.out) was l (scene_in c.loop-place.cluster)) all c.loop-place.invariant.passing
