-- A request to enable a table: how far it is, and what its steps do.
use Rattle.std.proofs.Common.{◌≡◌, ℕ, List, [], ◌∷◌, true, false, ◌==◌, None, ap, sym, ◌∙◌, subst}
use Rattle.std.proofs.lemmas.Bool.{or_left}
use Rattle.hm_names.specs.declared.table.TableName.{TableName}
use Rattle.hm_data.specs.declared.act.Act.TheVariants as act_is
use Rattle.hm_data.specs.declared.act.Back.TheVariants as back_is
use Rattle.hm_data.specs.declared.args.Args.{Args}
use Rattle.hm_data.specs.declared.args.Args.TheVariants as args_are
use Rattle.hm_data.specs.declared.catalog.CatKey.{CatKey}
use Rattle.hm_data.specs.declared.catalog.CatKey.TheVariants as key_is
use Rattle.hm_data.specs.declared.catalog.Edit.{Edit}
use Rattle.hm_data.specs.declared.catalog.TableState.TheVariants as state_is
use Rattle.hm_data.specs.declared.place.Goal.TheVariants as goal_is
use Rattle.hm_data.specs.declared.request.Request.TheVariants as request_is
use Rattle.hm_data.specs.declared.step.StepIn.{StepIn}
use Rattle.hm_model.specs.Acts.{act_answer}
use Rattle.hm_model.specs.Answers.{no_row}
use Rattle.hm_model.specs.Catalog.{Catalog, row_at}
use Rattle.hm_model.specs.Changes.{changed}
use Rattle.hm_model.specs.Checks.{table_disabled}
use Rattle.hm_model.specs.Deeds.{unless}
use Rattle.hm_model.specs.Keys.{same_table}
use Rattle.hm_model.specs.Lists.{Line, late, plain, undone}
use Rattle.hm_model.specs.Reads.{covers, reads}
use Rattle.hm_model.specs.NamespaceActs.{check_table_disabled, set_state}
use Rattle.hm_model.specs.Pieces.{transits}
use Rattle.hm_model.specs.RegionActs.{open_regions, regions_for}
use Rattle.hm_model.specs.RowsSaid.{in_state}
use Rattle.hm_model.proofs.KeyTests.{same_table-refl}
use Rattle.hm_model.proofs.ValidSheets.{is_last}
use Rattle.hm_kinds.proofs.Clause.{Serves, Sight, Stepped, checks_so, edits_so, ends_so, knows, one_order, quiet_so, sees}
use Rattle.hm_kinds.proofs.Quiet.{quiet_moves}
use Rattle.hm_kinds.proofs.TableRows.{state_again, state_same}

-- how far it is: nothing done; the table was there and disabled; it is being enabled
pub data Enabling (table : TableName) (base : Catalog) : List Line → List Edit → Type 0 where
  begins : Enabling table base (plain act_is.CheckTableDisabled ∷ undone act_is.SetEnabling back_is.Edits ∷ late act_is.OpenRegions ∷ late act_is.SetEnabled ∷ []) []
  found : table_disabled (base (key_is.Table table)) ≡ None → Enabling table base (undone act_is.SetEnabling back_is.Edits ∷ late act_is.OpenRegions ∷ late act_is.SetEnabled ∷ []) []
  told : table_disabled (base (key_is.Table table)) ≡ None → Enabling table base (late act_is.OpenRegions ∷ late act_is.SetEnabled ∷ []) (changed base (key_is.Table table) (in_state state_is.Enabling) ∷ [])
  moved : table_disabled (base (key_is.Table table)) ≡ None → Enabling table base (late act_is.SetEnabled ∷ []) (changed base (key_is.Table table) (in_state state_is.Enabling) ∷ [])

module _ (table : TableName) (first : ℕ) where
  abbrev own : Args
  own = args_are.Root (request_is.EnableTable table) first

  reads_table : reads (args_are.Root (request_is.EnableTable table) first) (key_is.Table table) ≡ true
  reads_table = same_table-refl table

  covers_table : covers (args_are.Root (request_is.EnableTable table) first) (key_is.Table table) ≡ true
  covers_table = or_left (same_table table table) false (same_table-refl table)

  enables : (base there others : Catalog) (keys : List CatKey) (line : Line) (behind : List Line) (sofar : List Edit) (at : StepIn) (next : ℕ) → Enabling table base (line ∷ behind) sofar → Sight (args_are.Root (request_is.EnableTable table) first) base there others keys sofar at → (next == no_row) ≡ is_last behind → Stepped (args_are.Root (request_is.EnableTable table) first) (Enabling table base behind) base others keys sofar (act_answer line.act next at)
  enables base there others keys line behind sofar at next begins s last =
      subst (λ a. Stepped own (Enabling table base behind) base others keys sofar (check_table_disabled next a at.rows)) (sym s.own)
      (checks_so own (Enabling table base behind) base others keys [] next (table_disabled (row_at at.rows (key_is.Table table))) (λ none. found (ap table_disabled (sym (sees own base there others keys [] at s (key_is.Table table) reads_table)) ∙ none)))
  enables base there others keys line behind sofar at next (found none) s last =
      subst (λ a. Stepped own (Enabling table base behind) base others keys sofar (set_state state_is.Enabling next a at.rows)) (sym s.own)
      (edits_so own (Enabling table base behind) base others keys [] next (changed (row_at at.rows) (key_is.Table table) (in_state state_is.Enabling) ∷ []) last (changed base (key_is.Table table) (in_state state_is.Enabling) ∷ []) (told none)
      (λ key g. state_same table (row_at at.rows) base (in_state state_is.Enabling) (sees own base there others keys [] at s (key_is.Table table) reads_table) key (base key)))
  enables base there others keys line behind sofar at next (told none) s last =
      subst (λ a. Stepped own (Enabling table base behind) base others keys sofar (open_regions next a at.rows)) (sym s.own)
      (quiet_so own (Enabling table base behind) base others keys sofar next (transits goal_is.Assign (regions_for table first None at.rows)) (quiet_moves goal_is.Assign (regions_for table first None at.rows)) (moved none))
  enables base there others keys line behind sofar at next (moved none) s last =
      subst (λ a. Stepped own (Enabling table base behind) base others keys sofar (set_state state_is.Enabled next a at.rows)) (sym s.own)
      (ends_so own (Enabling table base behind) base others keys sofar next (changed (row_at at.rows) (key_is.Table table) (in_state state_is.Enabled) ∷ []) last (changed others (key_is.Table table) (in_state state_is.Enabled) ∷ [])
      (ap (λ o. unless (table_disabled o) (changed others (key_is.Table table) (in_state state_is.Enabled) ∷ [])) (knows own base there others keys sofar at s (key_is.Table table) reads_table) ∙ ap (λ c. unless c (changed others (key_is.Table table) (in_state state_is.Enabled) ∷ [])) none)
      (covers_table, tt)
      (λ key c. state_again table base others (row_at at.rows) state_is.Enabling state_is.Enabled (knows own base there others keys sofar at s (key_is.Table table) reads_table) (sees own base there others keys sofar at s (key_is.Table table) reads_table) key (base key)))

  pub enable_table_serves : Serves (args_are.Root (request_is.EnableTable table) first) (Enabling table)
  enable_table_serves = record { begins = λ base lines order. one_order (λ l. Enabling table base l []) lines _ order begins; steps = enables }
