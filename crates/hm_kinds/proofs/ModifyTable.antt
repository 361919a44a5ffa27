-- A request to give a table another version: how far it is, and what its steps do.
use Rattle.std.proofs.Common.{◌≡◌, ℕ, List, [], ◌∷◌, true, false, ◌==◌, None, ap, sym, ◌∙◌, subst}
use Rattle.std.proofs.lemmas.Bool.{or_left}
use Rattle.hm_names.specs.declared.table.TableName.{TableName}
use Rattle.hm_data.specs.declared.act.Act.TheVariants as act_is
use Rattle.hm_data.specs.declared.args.Args.{Args}
use Rattle.hm_data.specs.declared.args.Args.TheVariants as args_are
use Rattle.hm_data.specs.declared.catalog.CatKey.{CatKey}
use Rattle.hm_data.specs.declared.catalog.CatKey.TheVariants as key_is
use Rattle.hm_data.specs.declared.catalog.Edit.{Edit}
use Rattle.hm_data.specs.declared.request.Request.TheVariants as request_is
use Rattle.hm_data.specs.declared.step.StepIn.{StepIn}
use Rattle.hm_model.specs.Acts.{act_answer}
use Rattle.hm_model.specs.Answers.{no_row}
use Rattle.hm_model.specs.Catalog.{Catalog, row_at}
use Rattle.hm_model.specs.Changes.{changed}
use Rattle.hm_model.specs.Checks.{table_disabled}
use Rattle.hm_model.specs.Deeds.{unless}
use Rattle.hm_model.specs.Keys.{same_table}
use Rattle.hm_model.specs.Lists.{Line, plain}
use Rattle.hm_model.specs.Reads.{covers, reads}
use Rattle.hm_model.specs.NamespaceActs.{check_table_disabled, set_version}
use Rattle.hm_model.specs.RowsSaid.{in_version}
use Rattle.hm_model.proofs.KeyTests.{same_table-refl}
use Rattle.hm_model.proofs.ValidSheets.{is_last}
use Rattle.hm_kinds.proofs.Clause.{Serves, Sight, Stepped, checks_so, ends_so, knows, one_order, sees}
use Rattle.hm_kinds.proofs.TableRows.{state_same}

-- how far it is: nothing done, or the table was there and disabled
pub data Modifying (table : TableName) (base : Catalog) : List Line → List Edit → Type 0 where
  begins : Modifying table base (plain act_is.CheckTableDisabled ∷ plain act_is.SetVersion ∷ []) []
  found : table_disabled (base (key_is.Table table)) ≡ None → Modifying table base (plain act_is.SetVersion ∷ []) []

module _ (table : TableName) (version first : ℕ) where
  abbrev own : Args
  own = args_are.Root (request_is.ModifyTable table version) first

  reads_table : reads (args_are.Root (request_is.ModifyTable table version) first) (key_is.Table table) ≡ true
  reads_table = same_table-refl table

  covers_table : covers (args_are.Root (request_is.ModifyTable table version) first) (key_is.Table table) ≡ true
  covers_table = or_left (same_table table table) false (same_table-refl table)

  modifies : (base there others : Catalog) (keys : List CatKey) (line : Line) (behind : List Line) (sofar : List Edit) (at : StepIn) (next : ℕ) → Modifying table base (line ∷ behind) sofar → Sight (args_are.Root (request_is.ModifyTable table version) first) base there others keys sofar at → (next == no_row) ≡ is_last behind → Stepped (args_are.Root (request_is.ModifyTable table version) first) (Modifying table base behind) base others keys sofar (act_answer line.act next at)
  modifies base there others keys line behind sofar at next begins s last =
      subst (λ a. Stepped own (Modifying table base behind) base others keys sofar (check_table_disabled next a at.rows)) (sym s.own)
      (checks_so own (Modifying table base behind) base others keys [] next (table_disabled (row_at at.rows (key_is.Table table))) (λ none. found (ap table_disabled (sym (sees own base there others keys [] at s (key_is.Table table) reads_table)) ∙ none)))
  modifies base there others keys line behind sofar at next (found none) s last =
      subst (λ a. Stepped own (Modifying table base behind) base others keys sofar (set_version next a at.rows)) (sym s.own)
      (ends_so own (Modifying table base behind) base others keys [] next (changed (row_at at.rows) (key_is.Table table) (in_version version) ∷ []) last (changed others (key_is.Table table) (in_version version) ∷ [])
      (ap (λ o. unless (table_disabled o) (changed others (key_is.Table table) (in_version version) ∷ [])) (knows own base there others keys [] at s (key_is.Table table) reads_table) ∙ ap (λ c. unless c (changed others (key_is.Table table) (in_version version) ∷ [])) none)
      (covers_table, tt)
      (λ key c. state_same table others (row_at at.rows) (in_version version) (knows own base there others keys [] at s (key_is.Table table) reads_table ∙ sym (sees own base there others keys [] at s (key_is.Table table) reads_table)) key (base key)))

  pub modify_table_serves : Serves (args_are.Root (request_is.ModifyTable table version) first) (Modifying table)
  modify_table_serves = record { begins = λ base lines order. one_order (λ l. Modifying table base l []) lines _ order begins; steps = modifies }
