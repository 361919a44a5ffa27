use Rattle.std.proofs.Common.{length, arith, ap, sym, ◌∙◌}
use Rattle.std.proofs.lemmas.List.{length_push}
use Rattle.std.proofs.lemmas.Iterator.Adapters.{YieldsList-from_vec}
use Rattle.std.proofs.lemmas.Iterator.Consumers.{YieldsList-turn}
use Rattle.hm_model.specs.RowsSaid.{Rows}
use Rattle.hm_catalog.specs.Rows.{with_row}
use Rattle.hm_records.proofs.Edits.{edits_more}
use Rattle.hm_records.proofs.rows.set_all.Goals as goal

pub set_one-requires : goal.set_one-requires
set_one-requires c =
    let b = c.into_iter-edit-iterator.ensures.into_iter_gives in
    let turn = YieldsList-turn (YieldsList-from_vec {s = c.into_iter-edit-iterator.result} c.args.edits (b.0 ∙ c.into_vec-edit-items.ensures) (b.1 ∙ c.into_vec-edit-items.result.ok.0 ∙ ap length c.into_vec-edit-items.ensures)) c.loop-edit.yielded c.loop-edit.edit-iterator c.loop-edit.yielded_by c.next.result c.next.new.self c.in-Some.edit c.in-Some.is c.next.ensures.steps in
    omega (arith, turn.0, c.loop-edit.invariant.spare, c.requires)

pub loop-edit-preserved : goal.loop-edit-preserved
loop-edit-preserved c = record {
  rows = c.set_one.ensures.rows ∙ ap (λ (rows : Rows). with_row c.in-Some.edit.key c.in-Some.edit.after rows) c.loop-edit.invariant.rows ∙ sym (edits_more c.loop-edit.yielded c.in-Some.edit c.args.catalog.now.rows);
  spare = omega (arith, c.set_one.ensures.spare, c.loop-edit.invariant.spare, length_push c.loop-edit.yielded c.in-Some.edit);
  room = c.set_one.ensures.room ∙ c.loop-edit.invariant.room;
}
