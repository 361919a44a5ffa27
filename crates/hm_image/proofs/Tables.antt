-- Where nothing is unfinished, region ids were drawn for each table that has a row: it has regions.
use Rattle.std.proofs.Common.{◌≡◌, ◌≢◌, [], None, ap, sym, ◌∙◌, arith}
use Rattle.std.proofs.lemmas.Bool.{true≢false}
use Rattle.std.proofs.lemmas.Option.{none-some}
use Rattle.hm_names.specs.declared.table.TableName.{TableName}
use Rattle.hm_data.specs.declared.catalog.CatKey.{CatKey}
use Rattle.hm_data.specs.declared.catalog.CatKey.TheVariants as key_is
use Rattle.hm_model.specs.Base.{IsBegun}
use Rattle.hm_model.specs.Catalog.{cat}
use Rattle.hm_model.specs.Journal.{Past}
use Rattle.hm_model.specs.Reads.{IsBusy}
use Rattle.hm_model.specs.Rebase.{under_way}
use Rattle.hm_model.specs.Rules.{IsLegal}
use Rattle.hm_model.specs.Tree.{drawn}
use Rattle.hm_model.proofs.Parted.{no_half}
use Rattle.hm_cover.specs.Theorem.{LiveRegionsCover}
use Rattle.hm_ids.specs.Drawn.{RegionIdsAreDrawn}
use Rattle.hm_rebase.proofs.Still.{still}

module _ (J : Past) (legal : IsLegal J) (begun : IsBegun J) (none : under_way J ≡ 0) (cover : LiveRegionsCover) (are_drawn : RegionIdsAreDrawn) where
  free : (key : CatKey) → IsBusy J key → ⊥
  free key busy = true≢false (sym (still J legal none busy.0 busy.1 busy.2) ∙ busy.3.1)

  pub drawn_some : (table : TableName) → cat J (key_is.Table table) ≢ None → drawn J table ≢ 0
  drawn_some table there zero =
      let live = cover J legal (no_half J begun) table (free (key_is.Table table)) there [] in
      let region = live.0 in
      let row : cat J (key_is.Region region) ≢ None = (λ gone. none-some _ (sym gone ∙ live.3.1)) in
      let ids = are_drawn J legal region.table region.id row in
      let low = ids.0 in
      let high = ids.1 in
      let same : drawn J region.table ≡ 0 = ap (drawn J) live.2 ∙ zero in
      absurd (omega (arith, low, high, same))
