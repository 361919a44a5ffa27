use Rattle.std.proofs.Common.{◌≤◌, arith}
use Rattle.hm_names.specs.declared.table.TableName.{TableName}
use Rattle.hm_model.specs.Journal.{Past}
use Rattle.hm_model.specs.Tree.{drawn}
use Rattle.hm_model.proofs.Grown.{ids_within}
use Rattle.hm_records.proofs.ids.first_of.Goals as goal

pub overflow_add-result : goal.overflow_add-result
overflow_add-result c =
    let J : Past = c.args.records.now.past in
    let table : TableName = c.in-Some.table.now in
    let few : drawn J table ≤ 4096 = ids_within J c.procedures-legal.ensures.legal table in
    omega (arith, few, c.drawn.ensures)
