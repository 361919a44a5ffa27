use Rattle.std.proofs.Common.{rules, sym}
use Rattle.std.proofs.lemmas.Fn.{always_returns_same}
use Rattle.hm_data.specs.Keys.{key_cmp}
use Rattle.hm_data.specs.declared.catalog.CatKey.{CatKey}
use Rattle.hm_data.specs.declared.catalog.CatKey.TheVariants as key_is
use Rattle.hm_data.specs.declared.catalog.CatRow.{CatRow}
use Rattle.hm_views.proofs.InOrder.{found, absent}
use Rattle.hm_views.proofs.lookup.seek.Goals as goal

pub returns-in-Ok : goal.returns-in-Ok
returns-in-Ok c =
    let key = key_is.Region c.args.region.now in
    let tied = c.in-Ok.ensures.position (λ (row : CatKey × CatRow). key_cmp row.0 key) (always_returns_same _ _ _ (λ a r h called. search rules)) in
    let is = found key c.args.rows.now c.in-Ok.place c.index-rows-place.result c.requires c.in-Ok.ensures.bound (tied c.index-rows-place.result) in
    cc

pub returns-in-Err : goal.returns-in-Err
returns-in-Err c =
    let key = key_is.Region c.args.region.now in
    let split = c.in-Err.ensures.position (λ (row : CatKey × CatRow). key_cmp row.0 key) (always_returns_same _ _ _ (λ a r h called. search rules)) in
    sym (absent key c.args.rows.now c.in-Err.field-0 c.requires split)
