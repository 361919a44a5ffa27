use Rattle.std.proofs.Common.{◌≡◌}
use Rattle.std.proofs.lemmas.Option.{slice_get_within}
use Rattle.hm_workers.specs.Ran.{RanFor}
use Rattle.hm_workers.proofs.Each.{each_so}
use Rattle.hm_workers.proofs.pool.work_each.Goals as goal

pub returns-clause-ran : goal.returns-clause-ran
returns-clause-ran g c = λ i old new was is.
    let r = (c.for_each_mut.ensures i old (slice_get_within c.args.pairs.now i old was)).1 in
    each_so
    (λ a b. (g.S.Serves.editions b.1 ≡ g.S.Serves.editions a.1) × RanFor (g.S.Serves.editions a.1) a.0.view.mine b.0.view.mine (g.S.Serves.runs a.1) (g.S.Serves.runs b.1))
    c.args.pairs.now c.for_each_mut.new.s i r.argument.now r.after_call.now old new r.argument_is r.left was is (r.call.4, r.call.5)
