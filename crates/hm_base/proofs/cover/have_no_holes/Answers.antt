use Rattle.std.proofs.Common.{refl, sym, ◌∙◌}
use Rattle.std.proofs.lemmas.Bool.{false≢true}
use Rattle.hm_base.specs.Whole.{HasNoHole}
use Rattle.hm_base.proofs.Each.{each_done, each_not, each_on}
use Rattle.hm_base.proofs.cover.have_no_holes.Goals as goal

pub loop-key-preserved : goal.loop-key-preserved
loop-key-preserved c =
    each_on (λ row. HasNoHole c.args.catalog.now.rows row.0) (c.in-Some.key.now, c.in-Some._row.now) c.next.new.self c.loop-key.key-iterator c.args.catalog.now.rows c.in-Some.ensures.steps
    (c.in_ok-covered.ensures.0 c.if-not-covered.false) c.loop-key.invariant

pub returns-then-not-covered : goal.returns-then-not-covered
returns-then-not-covered c =
    let not = each_not (λ row. HasNoHole c.args.catalog.now.rows row.0) (c.in-Some.key.now, c.in-Some._row.now) c.next.new.self c.loop-key.key-iterator c.args.catalog.now.rows c.in-Some.ensures.steps
    (λ here. false≢true (sym c.if-not-covered.true ∙ c.in_ok-covered.ensures.1 here)) c.loop-key.invariant in
    (λ e. absurd (false≢true e), λ all. absurd (not all))

pub returns : goal.returns
returns c = (λ e. each_done (λ row. HasNoHole c.args.catalog.now.rows row.0) c.loop-key.key-iterator c.args.catalog.now.rows c.in-None.ensures.steps.0 c.loop-key.invariant, λ all. refl)
