use Rattle.std.proofs.Common.{◌≡◌, [], None, refl, sym, subst, ◌∙◌, append-nil, inl, inr, slice_get}
use Rattle.std.proofs.lemmas.Option.{same_Some}
use Rattle.hm_model.specs.Fleet.{servers_of}
use Rattle.hm_world.specs.Scene.{past_in}
use Rattle.hm_commands.specs.Live.{live_if}
use Rattle.hm_commands.specs.View.{scene_in}
use Rattle.hm_top.specs.Opening.{GoesDown}
use Rattle.hm_top.proofs.Openings.{err_so, found_at, none_at, ok_so, some_at}
use Rattle.hm_top.proofs.opening.pass_by.Goals as goal

pub put_down-requires-clause-live : goal.put_down-requires-clause-live
put_down-requires-clause-live g c =
    let old = scene_in c.args.cluster in (found_at old (slice_get (servers_of (past_in old)) c.args.place) c.in-Ok-Some.server (sym c.in-Ok-Some.field-0-is ∙ c.in-Ok-Some.ensures.found)).1

pub returns-in-Ok-None-clause-done : goal.returns-in-Ok-None-clause-done
returns-in-Ok-None-clause-done g c server at =
    let old = scene_in c.args.cluster in
    let none = none_at old server (subst (λ o. None ≡ live_if (past_in old) o) at (sym c.in-Ok-None.field-0-is ∙ c.in-Ok-None.ensures.found)) in
    ([], inr (none, refl, refl), λ told. sym (append-nil (g.K.Sink.got c.args.out.now)))

pub returns-in-Err-clause-early : goal.returns-in-Err-clause-early
returns-in-Err-clause-early g c =
    let old = scene_in c.args.cluster in
    let lack = some_at old (slice_get (servers_of (past_in old)) c.args.place) c.in-Err.ensures.lack in
    (lack.0, lack.1, old, ((lack.2, inr (c.requires.going, refl)), λ told. refl), c.into_disk.ensures.left)

pub returns-in-Ok-Some-clause-done : goal.returns-in-Ok-Some-clause-done
returns-in-Ok-Some-clause-done g c =
    let old = scene_in c.args.cluster in
    let place = slice_get (servers_of (past_in old)) c.args.place in
    let found = found_at old place c.in-Ok-Some.server (sym c.in-Ok-Some.field-0-is ∙ c.in-Ok-Some.ensures.found) in
    ok_so c.put_down.result (λ next done server at.
    let same : c.in-Ok-Some.server ≡ server = same_Some _ _ (sym found.0 ∙ at) in (done.0, inl (subst (λ s. GoesDown s old done.0 (scene_in next)) same done.1), done.2)) c.put_down.ensures.done

pub returns-in-Ok-Some-clause-early : goal.returns-in-Ok-Some-clause-early
returns-in-Ok-Some-clause-early g c =
    let old = scene_in c.args.cluster in
    let place = slice_get (servers_of (past_in old)) c.args.place in
    let found = found_at old place c.in-Ok-Some.server (sym c.in-Ok-Some.field-0-is ∙ c.in-Ok-Some.ensures.found) in
    err_so c.put_down.result (λ e early. (c.in-Ok-Some.server, found.0, early.0, early.1, early.2)) c.put_down.ensures.early
