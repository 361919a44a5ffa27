use Rattle.std.proofs.Common.{rules}
use Rattle.std.proofs.lemmas.Fn.{always_returns_same}
use Rattle.hm_data.specs.declared.catalog.CatKey.{CatKey}
use Rattle.hm_data.specs.declared.catalog.CatRow.{CatRow}
use Rattle.hm_data.specs.Keys.{key_cmp}
use Rattle.hm_reads.proofs.Inserted.{found_at, found_gap}
use Rattle.hm_reads.proofs.found.put.Goals as goal

pub returns-in_ok-insert : goal.returns-in_ok-insert
returns-in_ok-insert c = λ all order there asked was.
    let key = c.args.key.now in
    let found = c.args.found.now.items in
    let facts = rw c.deref.ensures.value at c.in-Err.ensures in
    let parts = facts.position (λ (y : CatKey × CatRow). key_cmp y.0 key) (always_returns_same _ _ _ (λ a r h called. search (rules, c.keys_order_by_name.ensures.order))) in
    rw (c.in_ok-insert.ensures.items, c.in_ok-copy.ensures, c.in_ok-copy-2.ensures) (found_gap key asked all found c.args.row.now c.in-Err.place order there was facts.bound parts)

pub returns-in_default : goal.returns-in_default
returns-in_default c = λ all order there asked was.
    let key = c.args.key.now in
    let found = c.args.found.now.items in
    let facts = rw c.deref.ensures.value at c.in_default.ensures in
    let tied = facts.position (λ (y : CatKey × CatRow). key_cmp y.0 key) (always_returns_same _ _ _ (λ a r h called. search (rules, c.keys_order_by_name.ensures.order))) in
    found_at key asked all found c.args.row.now c.in_default.field-0 order there was facts.bound tied
