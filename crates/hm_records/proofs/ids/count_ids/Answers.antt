use Rattle.std.proofs.Common.{ℕ, ◌+◌, ap, sym, ◌∙◌, arith}
use Rattle.hm_names.specs.declared.table.TableName.{TableName}
use Rattle.hm_data.specs.declared.entry.Entry.{Entry}
use Rattle.hm_model.specs.Journal.{Past}
use Rattle.hm_records.specs.Records.{beside_ids}
use Rattle.hm_records.proofs.Drawn.{drawn_none, drawn_some, few_drawn}
use Rattle.hm_records.proofs.ids.count_ids.Goals as goal

pub overflow_add-before : goal.overflow_add-before
overflow_add-before c =
    let J : Past = c.args.past.now.past in
    let entry : Entry = c.args.entry.now in
    let ids : TableName × ℕ = (c.in-Some.table, c.in-Some.count) in
    let few = few_drawn J entry ids (sym c.requires.ids ∙ c.in-Some.is) c.requires.legal in
    let was = c.drawn_beside-before.ensures ∙ ap (beside_ids entry) (c.requires.drawn c.in-Some.table) in
    omega (arith, few, was)

pub returns-clause-drawn : goal.returns-clause-drawn
returns-clause-drawn c =
    drawn_some c.args.past.now.past c.args.entry.now (c.in-Some.table, c.in-Some.count) (sym c.requires.ids ∙ c.in-Some.is) c.args.drawn.now.pairs c.set.new.self.pairs _ c.requires.drawn
    (ap (λ n. n + c.in-Some.count) c.drawn_beside-before.ensures) c.set.ensures.pairs

pub returns-in_default-clause-drawn : goal.returns-in_default-clause-drawn
returns-in_default-clause-drawn c = drawn_none c.args.past.now.past c.args.entry.now (sym c.requires.ids ∙ c.in_default.is) c.args.drawn.now.pairs c.requires.drawn
