-- What the calls of a hall do to what the gate sees, by what ties the two.
use Rattle.std.proofs.Common.{◌≡◌, ◌≢◌, ◌⊎◌, ⊎_elim, ℕ, ◌≤◌, List, ◌++◌, true, Some, ap, sym, subst, ◌∙◌, arith}
use Rattle.std.specs.Prelude.{is_some}
use Rattle.hm_data.specs.declared.entry.Entry.{Entry}
use Rattle.hm_data.specs.declared.entry.Entry.TheVariants as entry_is
use Rattle.hm_data.specs.declared.step.StepOut.{StepOut}
use Rattle.hm_gate.specs.Total.{times}
use Rattle.hm_gate.specs.Weights.{weigh}
use Rattle.hm_gate.specs.Whole.{Whole}
use Rattle.hm_gate.proofs.Totals.{same-cases}
use Rattle.hm_hall.specs.Hall.{IsStepOf}
use Rattle.hm_hall.specs.declared.taken.Taken.{Taken}
use Rattle.hm_lend.specs.Hall.{Answers, Editions, HallView, IsOut}
use Rattle.hm_lend.specs.Stays.{AreOwn, Grows, IsOwn, SameOuts, Takes, one_step}
use Rattle.hm_lend.specs.Ties.{IsTold, Ties}

-- a number stands as often in two lists where it is out in both or in neither
told_alike : (n : ℕ) (outs outs' : List ℕ) (at at' : HallView) → IsTold n outs at → IsTold n outs' at' → (IsOut n at → IsOut n at') → (IsOut n at' → IsOut n at) → times n outs' ≡ times n outs
told_alike n outs outs' at at' told told' to from =
    ⊎_elim
    (λ here. ⊎_elim (λ there. there.0 ∙ sym here.0) (λ there. absurd (there.1 (to here.1))) told')
    (λ here. ⊎_elim (λ there. absurd (here.1 (from there.1))) (λ there. there.0 ∙ sym here.0) told')
    told

pub told_none : (n : ℕ) (outs : List ℕ) (at : HallView) → IsTold n outs at → (IsOut n at → ⊥) → times n outs ≡ 0
told_none n outs at told none = ⊎_elim (λ here. absurd (none here.1)) (λ here. here.0) told

pub told_one : (n : ℕ) (outs : List ℕ) (at : HallView) → IsTold n outs at → IsOut n at → times n outs ≡ 1
told_one n outs at told is = ⊎_elim (λ here. here.0) (λ here. absurd (here.1 is)) told

pub told_is : (n : ℕ) (outs : List ℕ) (at : HallView) → IsTold n outs at → times n outs ≡ 1 → IsOut n at
told_is n outs at told one = ⊎_elim (λ here. here.1) (λ here. absurd (let a = here.0 in omega arith)) told

module _ {S T : Type 0} (shown : S → Whole Entry T) (editions_in : T → Editions) (x y : S) (at at' : HallView) (tied : Ties editions_in (shown x) at) (tied' : Ties editions_in (shown y) at') where
  -- p goes out, and the others stay as they are
  pub takes : (p : ℕ) → (IsOut p at → ⊥) → ((n : ℕ) → IsOut n at → IsOut n at') → ((n : ℕ) → n ≢ p → IsOut n at' → IsOut n at) → IsOut p at' → Takes shown x y p
  takes p none stay come out = record {
    outs_are = λ n. ⊎_elim
        (λ e. let a = told_none n ((shown x).outs) at (tied.outs n) (subst (λ (m : ℕ). IsOut m at → ⊥) (sym e.0) none) in
        let b = told_one n ((shown y).outs) at' (tied'.outs n) (subst (λ (m : ℕ). IsOut m at') (sym e.0) out) in let s = e.1 in omega arith)
        (λ e. let a = told_alike n ((shown x).outs) ((shown y).outs) at at' (tied.outs n) (tied'.outs n) (stay n) (come n e.0) in let s = e.1 in omega arith)
        (same-cases n p);
    fresh = told_none p ((shown x).outs) at (tied.outs p) none;
  }

  -- the same are out
  pub same_outs : ((n : ℕ) → IsOut n at → IsOut n at') → ((n : ℕ) → IsOut n at' → IsOut n at) → SameOuts shown x y
  same_outs stay come n = told_alike n ((shown x).outs) ((shown y).outs) at at' (tied.outs n) (tied'.outs n) (stay n) (come n)

  -- what stopped one stops the other
  pub stays_stopped : (at'.stopped ≡ at.stopped) ⊎ (is_some at'.stopped ≡ true) → (shown x).stopped ≡ true → (shown y).stopped ≡ true
  stays_stopped how stopped = ⊎_elim (λ e. tied'.stopped ∙ ap is_some e ∙ sym tied.stopped ∙ stopped) (λ e. tied'.stopped ∙ e) how

  -- the list grows
  pub grows : (most : ℕ) (more : List Entry) → at'.items ≡ at.items ++ more → AreOwn at.editions more → weigh one_step more ≤ most → (at'.stopped ≡ at.stopped) ⊎ (is_some at'.stopped ≡ true) → (shown y).terms ≡ (shown x).terms → Grows shown at.editions most x y
  grows most more is own few stopped terms = record {
    more = more;
    items_are = tied'.items ∙ is ∙ ap (λ (l : List Entry). l ++ more) (sym tied.items);
    own = own;
    few = few;
    stopped_is = stays_stopped stopped;
    terms_is = terms;
  }

-- an entry with the answer of a step is a hall's own, and one step
pub step_own : (editions : Editions) (taken : Taken) (out : StepOut) (entry : Entry) → Answers editions taken.was out → IsStepOf taken out entry → IsOwn editions entry × (one_step entry ≤ 1)
step_own editions taken out (entry_is.Step pid pick its) answer is = ((taken.was, answer ∙ ap (λ (o : StepOut). Some o) (sym is.2)), omega arith)
step_own editions taken out (entry_is.Undo pid row its) answer is = ((taken.was, answer ∙ ap (λ (o : StepOut). Some o) (sym is.2)), omega arith)
step_own editions taken out entry answer is = absurd is
