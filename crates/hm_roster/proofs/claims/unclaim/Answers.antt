use Rattle.std.proofs.Common.{Some, sym, subst, slice_get, ◌≡◌, ◌∙◌}
use Rattle.hm_model.specs.Locks.{IsIn}
use Rattle.hm_roster.proofs.Unclaimed.{others_stay, unclaimed}
use Rattle.hm_roster.proofs.claims.unclaim.Goals as goal

pub loop-place-preserved : goal.loop-place-preserved
loop-place-preserved c = record {
  others = λ q differs.
      (let at = subst (λ l. slice_get l c.in-Some.place ≡ Some c.args.pid) c.deref.ensures.value c.in-Some.ensures.found in
      let left = others_stay c.loop-place.claimed.items c.in-Some.place c.args.pid q at differs in
      let was = c.loop-place.invariant.others q differs in (
        λ e. was.0 (left.0 (subst (IsIn q) c.remove-pid.ensures.items e)),
        λ e. subst (IsIn q) (sym c.remove-pid.ensures.items) (left.1 (was.1 e)),
      ));
  capacity = c.remove-pid.ensures.capacity ∙ c.loop-place.invariant.capacity;
}

pub returns-clause-less : goal.returns-clause-less
returns-clause-less c =
    unclaimed c.args.claimed.now.items c.loop-place.claimed.items c.args.pid c.loop-place.invariant.others (λ e. c.in_default.ensures.none (subst (IsIn c.args.pid) (sym c.deref.ensures.value) e))
