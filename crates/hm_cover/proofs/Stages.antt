-- Which rows of regions the stages of a root give that asks for tables alone: what was there, none, or what a create adds.
-- No journal.
use Rattle.std.proofs.Common.{◌≡◌, ℕ, List, Option, None, refl, ◌∙◌, inl, inr, ◌⊎◌}
use Rattle.std.proofs.lemmas.Bool.{cases_Bool, cond-false, cond-true}
use Rattle.hm_names.specs.declared.table.TableName.{TableName}
use Rattle.hm_data.specs.declared.args.Args.TheVariants as args_are
use Rattle.hm_data.specs.declared.catalog.CatKey.{CatKey}
use Rattle.hm_data.specs.declared.catalog.CatKey.TheVariants as key_is
use Rattle.hm_data.specs.declared.catalog.CatRow.{CatRow}
use Rattle.hm_data.specs.declared.catalog.Edit.{Edit}
use Rattle.hm_model.specs.Catalog.{Catalog, edited}
use Rattle.hm_model.specs.Changes.{region_key}
use Rattle.hm_model.specs.Checks.{table_free}
use Rattle.hm_model.specs.Lists.{Line}
use Rattle.hm_kinds.proofs.CreateTable.{Creating, bounds_for}
use Rattle.hm_kinds.proofs.DeleteTable.{Deleting}
use Rattle.hm_kinds.proofs.DisableTable.{Disabling}
use Rattle.hm_kinds.proofs.EnableTable.{Enabling}
use Rattle.hm_kinds.proofs.ModifyTable.{Modifying}
use Rattle.hm_kinds.proofs.Shares.{add_effect, added_row, remove_effect, row_or, touches}

-- a row is none, or that of the catalog
abbrev pub IsLess : Catalog → CatKey → Option CatRow → Type 0
IsLess base key row = (row ≡ None) ⊎ (row ≡ base key)

-- a table that wasn't there has the row of one of its new regions
abbrev pub IsAdded : TableName → List (List ℕ) → ℕ → Catalog → CatKey → Option CatRow → Type 0
IsAdded u split first base key row =
    (table_free (base (key_is.Ns u.ns)) (base (key_is.Table u)) ≡ None) × (row ≡ row_or (added_row u first (bounds_for split) key) (base key))

module _ (base : Catalog) (t : TableName) (id : ℕ) where
  abbrev behind : List Edit → Option CatRow
  behind then = edited then (region_key t id) (base (region_key t id))

  pub creating_row : (u : TableName) (split : List (List ℕ)) (first : ℕ) (lines : List Line) (then : List Edit) → Creating u split first base lines then → IsLess base (region_key t id) (behind then) ⊎ IsAdded u split first base (region_key t id) (behind then)
  creating_row u split first lines then Creating.begins = inl (inr refl)
  creating_row u split first lines then (Creating.free none) = inl (inr refl)
  creating_row u split first lines then (Creating.added none) = inl (inr refl)
  creating_row u split first lines then (Creating.laid none) = inl (inr refl)
  creating_row u split first lines then (Creating.filled none) = inr (none, add_effect (λ k. None) u first (bounds_for split) (region_key t id) (base (region_key t id)))
  creating_row u split first lines then (Creating.enabled none) = inr (none, add_effect (λ k. None) u first (bounds_for split) (region_key t id) (base (region_key t id)))
  creating_row u split first lines then (Creating.opened none) = inr (none, add_effect (λ k. None) u first (bounds_for split) (region_key t id) (base (region_key t id)))

  pub deleting_row : (u : TableName) (lines : List Line) (then : List Edit) → Deleting u base lines then → IsLess base (region_key t id) (behind then)
  deleting_row u lines then Deleting.begins = inr refl
  deleting_row u lines then (Deleting.disabled none) = inr refl
  deleting_row u lines then (Deleting.emptied none ids has) = elim (cases_Bool (touches (args_are.DropRegions u ids) (region_key t id))) [
    | inl on ↦ inl (remove_effect (λ key. None) u ids (region_key t id) (base (region_key t id)) ∙ cond-true (touches (args_are.DropRegions u ids) (region_key t id)) None (base (region_key t id)) on)
    | inr off ↦ inr (remove_effect (λ key. None) u ids (region_key t id) (base (region_key t id)) ∙ cond-false (touches (args_are.DropRegions u ids) (region_key t id)) None (base (region_key t id)) off)
  ]

  pub enabling_row : (u : TableName) (lines : List Line) (then : List Edit) → Enabling u base lines then → IsLess base (region_key t id) (behind then)
  enabling_row u lines then Enabling.begins = inr refl
  enabling_row u lines then (Enabling.found none) = inr refl
  enabling_row u lines then (Enabling.told none) = inr refl
  enabling_row u lines then (Enabling.moved none) = inr refl

  pub disabling_row : (u : TableName) (lines : List Line) (then : List Edit) → Disabling u base lines then → IsLess base (region_key t id) (behind then)
  disabling_row u lines then Disabling.begins = inr refl
  disabling_row u lines then (Disabling.found none) = inr refl
  disabling_row u lines then (Disabling.told none) = inr refl
  disabling_row u lines then (Disabling.moved none) = inr refl

  pub modifying_row : (u : TableName) (lines : List Line) (then : List Edit) → Modifying u base lines then → IsLess base (region_key t id) (behind then)
  modifying_row u lines then Modifying.begins = inr refl
  modifying_row u lines then (Modifying.found none) = inr refl
