-- The one step of a child that adds or drops regions does what its args say.
use Rattle.std.proofs.Common.{◌≡◌, ℕ, List, true, cond, Option, ap, ◌∙◌}
use Rattle.std.proofs.lemmas.Bool.{false≢true}
use Rattle.hm_names.specs.declared.table.TableName.{TableName}
use Rattle.hm_data.specs.declared.act.Act.{Act}
use Rattle.hm_data.specs.declared.act.Act.TheVariants as act_is
use Rattle.hm_data.specs.declared.args.Args.{Args}
use Rattle.hm_data.specs.declared.args.Args.TheVariants as args_are
use Rattle.hm_data.specs.declared.catalog.CatKey.{CatKey}
use Rattle.hm_data.specs.declared.catalog.CatRow.{CatRow}
use Rattle.hm_data.specs.declared.step.StepIn.{StepIn}
use Rattle.hm_data.specs.declared.step.StepOut.{StepOut}
use Rattle.hm_model.specs.Acts.{act_answer}
use Rattle.hm_model.specs.Catalog.{edited, row_at}
use Rattle.hm_model.specs.RegionActs.{add_region_rows, drop_region_rows}
use Rattle.hm_model.proofs.ExactRows.{is_listed}
use Rattle.hm_kinds.proofs.Shares.{add_effect, added_row, remove_effect, row_or-cond, touches, value}

-- the row becomes what the args say, and others stay
abbrev pub DoesShare : Args → StepOut → Type 0
DoesShare args out = (key : CatKey) (row : Option CatRow) → edited out.edits key row ≡ cond (touches args key) (value args key) row

pub adds_share : (table : TableName) (first : ℕ) (bounds : List (List ℕ)) (act : Act) → is_listed 20 act ≡ true → (next : ℕ) (at : StepIn) → at.args ≡ args_are.AddRegions table first bounds → DoesShare (args_are.AddRegions table first bounds) (act_answer act next at)
adds_share table first bounds act_is.AddRegionRows h next at own key row =
    ap (λ a. edited (add_region_rows next a at.rows).edits key row) own
    ∙ add_effect (row_at at.rows) table first bounds key row ∙ row_or-cond (added_row table first bounds key) row
adds_share table first bounds act h next at own key row = absurd (false≢true h)

pub drops_share : (table : TableName) (ids : List ℕ) (act : Act) → is_listed 21 act ≡ true → (next : ℕ) (at : StepIn) → at.args ≡ args_are.DropRegions table ids → DoesShare (args_are.DropRegions table ids) (act_answer act next at)
drops_share table ids act_is.DropRegionRows h next at own key row = ap (λ a. edited (drop_region_rows next a at.rows).edits key row) own ∙ remove_effect (row_at at.rows) table ids key row
drops_share table ids act h next at own key row = absurd (false≢true h)
