-- Which transits the acts make, and who adds or drops rows of regions.
use Rattle.std.proofs.Common.{◌≡◌, ℕ, zero, suc, ◌+◌, List, [], ◌∷◌, Bool, true, false, Option, Some, None, cond, nat_le, length, take, drop, map, refl, ap}
use Rattle.hm_names.specs.declared.table.TableName.{TableName}
use Rattle.hm_data.specs.declared.act.Act.{Act}
use Rattle.hm_data.specs.declared.act.Act.TheVariants as act_is
use Rattle.hm_data.specs.declared.args.Args.{Args}
use Rattle.hm_data.specs.declared.args.Args.TheVariants as args_are
use Rattle.hm_data.specs.declared.args.Child.{Child}
use Rattle.hm_data.specs.declared.args.Child.TheVariants as child_is
use Rattle.hm_data.specs.declared.place.Goal.{Goal}
use Rattle.hm_data.specs.declared.step.StepIn.{StepIn}
use Rattle.hm_data.specs.declared.step.StepOut.{StepOut}
use Rattle.hm_model.specs.Acts.{act_answer}
use Rattle.hm_model.specs.RowsSaid.{all_among}
use Rattle.hm_model.specs.Views.{first_id_of}
use Rattle.hm_model.specs.Outs.{spawns}
use Rattle.hm_model.specs.Pieces.{Batch, adding, batches, by_64}
use Rattle.hm_model.specs.Locks.{in_name_order}
use Rattle.hm_model.proofs.PlainActs.{is_plain}
use Rattle.hm_names.specs.Region.{Region}
use Rattle.hm_kinds.proofs.Kids.{AllMade, only_adds, only_drops}
use Rattle.hm_model.specs.MadeOf.{IsMadeOf, Makes, Making, making}
use Rattle.hm_model.proofs.MadeOf.{made_of}

-- the goal of the transits that an act makes
abbrev pub goal_made : Making → Option Goal
goal_made (Making.moves goal which) = Some goal
goal_made making = None

abbrev pub makes : Act → Option Goal
makes act = goal_made (making act)

-- a procedure that an act may make: a transit has the act's goal, and names no server
abbrev pub GoalIs : Act → Args → Type 0
GoalIs act (args_are.Root request first) = ⊥
GoalIs act (args_are.Transit region goal to) = (makes act ≡ Some goal) × (to ≡ None)
GoalIs act (args_are.Crash server) = ⊥
GoalIs act (args_are.AddRegions table first bounds) = act ≡ act_is.AddRegions
GoalIs act (args_are.DropRegions table ids) = act ≡ act_is.DropRegions
GoalIs act args = Unit {0}

module _ (P : Args → Type 0) where
  spawns_all : (next : ℕ) (children : List Child) → AllMade P children → AllMade P (spawns next children).children
  spawns_all next [] all = tt
  spawns_all next (child ∷ more) all = all

  pub sent_all : (goal : Goal) → ((region : Region) → P (args_are.Transit region goal None)) → (list : List Batch) → AllMade P (map (λ batch. child_is.Transits batch.table batch.ids goal) list)
  sent_all goal each [] = tt
  sent_all goal each (batch ∷ more) = ((λ id. each (record { table = batch.table; id = id })), sent_all goal each more)

module _ (act : Act) where
  adds : act ≡ act_is.AddRegions → (most : ℕ) (table : TableName) (first : ℕ) (bounds : List (List ℕ)) → AllMade (GoalIs act) (adding most table first bounds)
  adds only zero table first bounds = tt
  adds only (suc most) table first bounds = by_test (nat_le (length bounds) 1) (child_is.One (args_are.AddRegions table first (take 65 bounds)) ∷ adding most table (first + 64) (drop 64 bounds)) (only, adds only most table (first + 64) (drop 64 bounds))
    where
      by_test : (b : Bool) (children : List Child) → AllMade (GoalIs act) children → AllMade (GoalIs act) (cond b [] children)
      by_test true children h = tt
      by_test false children h = h

  drops : act ≡ act_is.DropRegions → (table : TableName) (pieces : List (List ℕ)) → AllMade (GoalIs act) (map (λ piece. child_is.One (args_are.DropRegions table piece)) pieces)
  drops only table [] = tt
  drops only table (piece ∷ more) = (only, drops only table more)

goal_makes : (act : Act) (at : StepIn) → {children : List Child} → Makes act at children → AllMade (GoalIs act) children
goal_makes act at (Makes.lays only) = (tt, tt)
goal_makes act at (Makes.fences only server is) = (tt, tt)
goal_makes act at (Makes.adds_all only table is bounds are) = adds act (only_adds act only) (length bounds) table (first_id_of at.args) bounds
goal_makes act at (Makes.drops_all only table is) = drops act (only_drops act only) table (by_64 (map (λ (region : Region). region.id) (all_among table at.rows)))
goal_makes act at (Makes.sends goal sent which only regions are) = sent_all (GoalIs act) goal (λ region. (ap goal_made only, refl)) (batches (in_name_order regions))
goal_makes act at (Makes.opens off region is server there) = (tt, tt)

goal_all : (act : Act) (next : ℕ) (at : StepIn) → {out : StepOut} → IsMadeOf act next at out → AllMade (GoalIs act) out.children
goal_all act next at (IsMadeOf.made children makes) = spawns_all (GoalIs act) next children (goal_makes act at makes)
goal_all act next at (IsMadeOf.shut off region is server there) = (tt, tt)
goal_all act next at other = tt

-- what such an act makes
pub kids_goal : (act : Act) → is_plain act ≡ true → (next : ℕ) (at : StepIn) → AllMade (GoalIs act) (act_answer act next at).children
kids_goal act h next at = goal_all act next at (made_of act next at)
