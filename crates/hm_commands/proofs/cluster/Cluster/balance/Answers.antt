use Rattle.std.proofs.Common.{◌∷◌, ◌++◌, [], List, length, refl, sym, ap, subst, ◌∙◌, append_assoc, arith}
use Rattle.std.specs.Vec.Iter.{into_iter_items}
use Rattle.std.proofs.lemmas.Grind.{common_steps}
use Rattle.hm_moves.specs.Planned.{ArePlanned}
use Rattle.hm_moves.specs.declared.moving.Move.{Move}
use Rattle.hm_commands.specs.View.{scene_in}
use Rattle.hm_commands.proofs.Moving.{all_moved, lacking, move_comes, moved_so, none_left, none_moved, tried_in}
use Rattle.hm_world.specs.Scene.{WorldView, past_in}
use Rattle.hm_model.specs.Journal.{Past}
use Rattle.hm_commands.proofs.cluster.Cluster.balance.Goals as goal

pub loop-one-init : goal.loop-one-init
loop-one-init g c =
    let was = scene_in c.args.self.now in
    let given = c.into_iter-one-iterator.ensures.into_iter_gives.0 in
    record {
      moved = none_moved c.in_ok-shifts.shifts was c.in_ok-text.text.items c.in_ok-text.ensures;
      planned =
          subst (λ (l : List Move). ArePlanned (past_in was) c.in_ok-shifts.shifts l) (sym given)
          (subst (λ (w : WorldView _). ArePlanned (past_in (scene_in w)) c.in_ok-shifts.shifts c.in_ok-shifts.planned.items) c.self.view_is
          (subst (λ (J : Past). ArePlanned J c.in_ok-shifts.shifts c.in_ok-shifts.planned.items) (sym c.state.ensures) c.in_ok-shifts.ensures));
      counted = grind (arith, common_steps);
      opened = refl;
    }

pub loop-one-preserved : goal.loop-one-preserved
loop-one-preserved g c =
    let so_far = c.loop-one in
    let rest = c.in-Some.ensures.steps.0 in
    let was = scene_in c.args.self.now in
    let planned = so_far.invariant.planned in
    record {
      moved =
          moved_so c.in_ok-shifts.shifts so_far.yielded was (scene_in so_far.self) so_far.text.items so_far.invariant.moved c.in-Some.one c.in_ok-answer.field-0 (scene_in c.try_move.new.self) c.try_move.new.text.items
          c.in_default.not-Some c.in_ok-answer.ensures.tries;
      planned =
          subst (λ (l : List Move). ArePlanned (past_in was) c.in_ok-shifts.shifts l)
          (ap (λ (l : List Move). so_far.yielded ++ l) rest ∙ sym (append_assoc so_far.yielded (c.in-Some.one ∷ []) (into_iter_items c.next.new.self))) planned;
      counted = let counts = so_far.invariant.counted in let gone = c.in-Some.ensures.steps.1 in let short = ap length rest in omega (arith, counts, gone, short);
      opened = c.in_ok-answer.ensures.opened ∙ so_far.invariant.opened;
    }

pub returns-in_err-answer-clause-comes : goal.returns-in_err-answer-clause-comes
returns-in_err-answer-clause-comes g c =
    let so_far = c.loop-one in
    let was = scene_in c.args.self.now in
    let shifts = c.in_ok-shifts.shifts in
    let planned = subst (λ (l : List Move). ArePlanned (past_in was) shifts (so_far.yielded ++ l)) c.in-Some.ensures.steps.0 so_far.invariant.planned in
    lacking _ c.from_residual-in_err-answer.result c.from_residual-in_err-answer.ensures.1 was (scene_in c.try_move.new.self)
    (tried_in shifts so_far.yielded was (scene_in so_far.self) so_far.text.items so_far.invariant.moved c.in-Some.one (into_iter_items c.next.new.self) planned (scene_in c.try_move.new.self) c.in_err-answer.ensures.err)

pub returns-in-Some-2-clause-comes : goal.returns-in-Some-2-clause-comes
returns-in-Some-2-clause-comes g c =
    let so_far = c.loop-one in
    let was = scene_in c.args.self.now in
    let shifts = c.in_ok-shifts.shifts in
    let planned = subst (λ (l : List Move). ArePlanned (past_in was) shifts (so_far.yielded ++ l)) c.in-Some.ensures.steps.0 so_far.invariant.planned in
    move_comes shifts so_far.yielded was (scene_in so_far.self) so_far.text.items so_far.invariant.moved c.in-Some.one (into_iter_items c.next.new.self) planned (scene_in c.try_move.new.self) c.ended.result
    c.in_ok-answer.field-0 c.in-Some-2.answer c.try_move.new.text.items c.in-Some-2.is c.in_ok-answer.ensures.tries c.ended.ensures

pub returns-clause-comes : goal.returns-clause-comes
returns-clause-comes g c =
    let so_far = c.loop-one in
    let was = scene_in c.args.self.now in
    all_moved c.in_ok-shifts.shifts so_far.yielded was (scene_in so_far.self) so_far.text.items so_far.invariant.moved (into_iter_items so_far.one-iterator) so_far.invariant.planned
    (none_left (into_iter_items so_far.one-iterator) (sym so_far.invariant.counted ∙ c.in-None.ensures.steps.0)) so_far.text refl
