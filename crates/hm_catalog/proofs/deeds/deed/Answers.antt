use Rattle.std.proofs.Common.{Ok, refl, sym, ap, ◌∙◌}
use Rattle.hm_catalog.proofs.Asked.{deed_cause, deed_edits}
use Rattle.hm_catalog.proofs.deeds.deed.Goals as goal

pub returns-in-Some : goal.returns-in-Some
returns-in-Some c = deed_cause c.args.request.now c.args.first c.args.catalog.now.rows c.len-rows.ensures.order c.in-Some.cause (sym c.in-Some.ensures)

pub returns-in-Ok : goal.returns-in-Ok
returns-in-Ok c =
    deed_edits c.args.request.now c.args.first c.args.catalog.now.rows c.len-rows.ensures.order (sym c.in_default.ensures) ∙ ap Ok (sym (c.of.ensures ∙ c.in-Ok.ensures))

pub returns-in-Err : goal.returns-in-Err
returns-in-Err c = rw (deed_edits c.args.request.now c.args.first c.args.catalog.now.rows c.len-rows.ensures.order (sym c.in_default.ensures)) refl
