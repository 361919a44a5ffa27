-- Children that change nothing: transits, and who has files laid out.
use Rattle.std.proofs.Common.{◌≡◌, ℕ, zero, suc, List, [], ◌∷◌, ◌++◌, false, map, Some, None, ap, sym, slice_get}
use Rattle.std.proofs.lemmas.Option.{none-some, same_Some}
use Rattle.hm_names.specs.Region.{Region}
use Rattle.hm_names.specs.declared.pid.Pid.{Pid}
use Rattle.hm_names.specs.declared.table.TableName.{TableName}
use Rattle.hm_data.specs.declared.args.Args.{Args}
use Rattle.hm_data.specs.declared.args.Args.TheVariants as args_are
use Rattle.hm_data.specs.declared.args.Child.TheVariants as child_is
use Rattle.hm_data.specs.declared.catalog.CatKey.{CatKey}
use Rattle.hm_data.specs.declared.place.Goal.{Goal}
use Rattle.hm_model.specs.Locks.{in_name_order}
use Rattle.hm_model.specs.Pieces.{Batch, batches, transits}
use Rattle.hm_model.specs.Tree.{args_in}
use Rattle.hm_kinds.proofs.Shares.{touches}

-- each of some procedures changes nothing
abbrev pub AllQuiet : List Args → Type 0
AllQuiet made = (i : ℕ) (args : Args) → slice_get made i ≡ Some args → (key : CatKey) → touches args key ≡ false

quiet_transits : (table : TableName) (goal : Goal) (ids : List ℕ) (more : List Args) → AllQuiet more → AllQuiet (map (λ id. args_are.Transit (record { table = table; id = id }) goal None) ids ++ more)
quiet_transits table goal [] more rest i args is key = rest i args is key
quiet_transits table goal (id ∷ ids) more rest zero args is key = ap (λ a. touches a key) (sym (same_Some (args_are.Transit (record { table = table; id = id }) goal None) args is))
quiet_transits table goal (id ∷ ids) more rest (suc i) args is key = quiet_transits table goal ids more rest i args is key

quiet_batches : (goal : Goal) (list : List Batch) → AllQuiet (args_in (map (λ batch. child_is.Transits batch.table batch.ids goal) list))
quiet_batches goal [] i args is key = absurd (none-some args is)
quiet_batches goal (batch ∷ more) i args is key = quiet_transits batch.table goal batch.ids (args_in (map (λ b. child_is.Transits b.table b.ids goal) more)) (quiet_batches goal more) i args is key

pub quiet_moves : (goal : Goal) (regions : List Region) → AllQuiet (args_in (transits goal regions))
quiet_moves goal regions = quiet_batches goal (batches (in_name_order regions))

pub quiet_layout : (root : Pid) → AllQuiet (args_in (child_is.One (args_are.LayoutCall root) ∷ []))
quiet_layout root zero args is key = ap (λ a. touches a key) (sym (same_Some (args_are.LayoutCall root) args is))
quiet_layout root (suc i) args is key = absurd (none-some args is)
