use Rattle.std.proofs.Common.{[], ◌∷◌, refl, arith, ◌∙◌}
use Rattle.std.proofs.lemmas.Grind.{common_steps}
use Rattle.std.proofs.lemmas.Option.{slice_get_within}
use Rattle.hm_sheet.specs.Own.{own_sheet as own}
use Rattle.hm_rows_workers.specs.declared.stage.Stage.TheVariants as stage_is
use Rattle.hm_rows_workers.proofs.Answering.{is_at, returns}
use Rattle.hm_rows_workers.proofs.Telling.{long_still, so_set}
use Rattle.hm_rows_workers.proofs.toy.ToyHall.put_back.Goals as goal

pub index_mut-requires : goal.index_mut-requires
index_mut-requires c =
    let s = c.args.self.now in
    let is = is_at s.entries.items s.durable s.lent s.stages.items (own 26 ∷ []) c.number_of-place.result c.args.taken.pid.0 c.number_of-place.ensures c.number_of-place.type_inv c.requires in
    let w = slice_get_within s.stages.items c.number_of-place.result stage_is.Out is in grind (arith, common_steps, w)

pub invariant_of-self : goal.invariant_of-self
invariant_of-self c =
    let s = c.args.self.now in
    let is = is_at s.entries.items s.durable s.lent s.stages.items (own 26 ∷ []) c.number_of-place.result c.args.taken.pid.0 c.number_of-place.ensures c.number_of-place.type_inv c.requires in
    let l = long_still s.stages.items c.number_of-place.result stage_is.Waits in record {
      so = so_set s.stages.items s.entries.items c.number_of-place.result stage_is.Out stage_is.Waits is refl refl s.so;
      all = l ∙ s.all;
      few = (let f = s.few in omega arith);
    }

pub returns-clause-back : goal.returns-clause-back
returns-clause-back c =
    let s = c.args.self.now in
    returns s.entries.items s.durable s.lent s.stages.items (own 26 ∷ []) c.args.taken c.number_of-place.result c.number_of-place.ensures c.number_of-place.type_inv c.requires
