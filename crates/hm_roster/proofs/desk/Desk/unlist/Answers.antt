use Rattle.std.proofs.Common.{◌≡◌, ◌+◌, ◌<◌, ◌^◌, ap, arith, inl, inr, ◌∙◌}
use Rattle.std.proofs.lemmas.Bool.{cases_lt}
use Rattle.hm_model.specs.Tree.{made}
use Rattle.hm_roster.proofs.Listing.{all_back}
use Rattle.hm_roster.proofs.desk.Desk.unlist.Goals as goal

pub returns-clause-follows : goal.returns-clause-follows
returns-clause-follows c =
    let J = c.args.records.now.past in
    let inv = c.loop-place.invariant in
    let all : c.loop-place.place ≡ c.args.count = omega arith in
    all_back J c.procedures.ensures.legal c.args.self.now c.args.count c.loop-place.self c.requires inv.same inv.kept
    (λ p lt. elim (cases_lt (made J + c.args.count) p) [
      | inl over ↦ inv.rest p (omega (arith, over, all)) ∙ c.requires.rest p over
      | inr le ↦ inv.gone p lt (omega (arith, le, all))
    ])

pub overflow_add-last-in-loop-place : goal.overflow_add-last-in-loop-place
overflow_add-last-in-loop-place c =
    let J = c.args.records.now.past in
    let last : c.last_pid-last.result ≡ made J = c.last_pid-last.ensures.last ∙ ap made c.procedures.ensures.past in
    let few : made J + c.args.count < 2 ^ 64 = c.requires.few in
    omega (arith, last, few)
