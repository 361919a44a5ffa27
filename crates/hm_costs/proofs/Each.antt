-- Each of some args, and each of the transits that open regions.
use Rattle.std.proofs.Common.{◌≡◌, ℕ, zero, suc, List, [], ◌∷◌, ◌++◌, map, Some, None, subst, slice_get}
use Rattle.std.proofs.lemmas.Option.{none-some, same_Some}
use Rattle.hm_names.specs.Region.{Region}
use Rattle.hm_names.specs.declared.table.TableName.{TableName}
use Rattle.hm_data.specs.declared.args.Args.{Args}
use Rattle.hm_data.specs.declared.args.Args.TheVariants as args_are
use Rattle.hm_data.specs.declared.args.Child.TheVariants as child_is
use Rattle.hm_data.specs.declared.place.Goal.TheVariants as goal_is
use Rattle.hm_model.specs.Pieces.{Batch}
use Rattle.hm_model.specs.Tree.{args_in}

module _ (Holds : Args → Type 0) where
  abbrev pub Each : List Args → Type 0
  Each [] = Unit {0}
  Each (args ∷ more) = Holds args × Each more

  pub each_at : (list : List Args) → Each list → (i : ℕ) (args : Args) → slice_get list i ≡ Some args → Holds args
  each_at [] all i args is = absurd (none-some args is)
  each_at (first ∷ more) all zero args is = subst Holds (same_Some first args is) all.0
  each_at (first ∷ more) all (suc i) args is = each_at more all.1 i args is

  module _ (opens : (region : Region) → Holds (args_are.Transit region goal_is.Assign None)) where
    each_id : (table : TableName) (ids : List ℕ) (more : List Args) → Each more → Each (map (λ id. args_are.Transit (record { table = table; id = id }) goal_is.Assign None) ids ++ more)
    each_id table [] more all = all
    each_id table (id ∷ ids) more all = (opens (record { table = table; id = id }), each_id table ids more all)

    pub each_opened : (list : List Batch) → Each (args_in (map (λ batch. child_is.Transits batch.table batch.ids goal_is.Assign) list))
    each_opened [] = tt
    each_opened (batch ∷ more) = each_id batch.table batch.ids (args_in (map (λ batch. child_is.Transits batch.table batch.ids goal_is.Assign) more)) (each_opened more)
