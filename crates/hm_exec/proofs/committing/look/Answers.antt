use Rattle.std.proofs.Common.{◌↔◌, IsTrue, Option, subst, sym, ◌∙◌}
use Rattle.std.proofs.lemmas.Bool.{true≢false}
use Rattle.hm_names.specs.Server.{Server}
use Rattle.hm_judge.specs.Inputs.{IsInput}
use Rattle.hm_model.specs.Journal.{Past}
use Rattle.hm_model.specs.Picks.{PicksRight}
use Rattle.hm_exec.proofs.Looked.{fresh_is, is_fresh, is_now}
use Rattle.hm_exec.proofs.committing.look.Goals as goal
use Rattle.hm_exec.proofs.committing.look.Goals.{else-right-via-else-right, else-right-via-then-right+else-same}

pub returns-then-same : goal.returns-then-same
returns-then-same c =
    is_fresh c.args.state.now.past c.args.taken.now c.in_ok-now.now c.picks_right-right.result
    (subst (λ (J : Past). IsTrue c.picks_right-right.result ↔ PicksRight J c.args.taken.now.pid.0 c.args.taken.now.was.pick) c.records.ensures c.picks_right-right.ensures)
    (subst (λ (o : Option Server). IsInput c.args.state.now.past c.args.taken.now.pid.0 o c.in_ok-now.now) c.pick_if.ensures c.in_ok-now.ensures.input)
    c.if-right.true (c.same.ensures.0 c.if-same.true)

pub returns-else-right : goal.returns-else-right
returns-else-right c =
    let J = c.args.state.now.past in
    let taken = c.args.taken.now in
    let right = c.picks_right-right.result in
    let picks = subst (λ (J : Past). IsTrue right ↔ PicksRight J taken.pid.0 taken.was.pick) c.records.ensures c.picks_right-right.ensures in
    let sees = subst (λ (o : Option Server). IsInput J taken.pid.0 o c.in_ok-now.now) c.pick_if.ensures c.in_ok-now.ensures.input in (
      λ fresh.
          let told = fresh_is J taken c.in_ok-now.now right picks sees fresh in
          elim c.else-right.branch [
            | else-right-via-then-right+else-same w ↦ absurd (true≢false (sym (w.same.ensures.1 told.1) ∙ w.if-same.false))
            | else-right-via-else-right w ↦ absurd (true≢false (sym told.0 ∙ w.if-right.false))
          ],
      is_now J taken c.in_ok-now.now right picks sees c.requires,
    )
