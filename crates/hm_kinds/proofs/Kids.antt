-- Which procedures the acts make.
use Rattle.std.proofs.Common.{subst, ap, sym, ◌∙◌, ◌≡◌, ℕ, zero, suc, ◌+◌, List, [], ◌∷◌, Bool, true, false, Some, None, cond, nat_le, length, take, drop, map, refl, slice_get, ◌++◌}
use Rattle.std.proofs.lemmas.Bool.{false≢true, true≢false}
use Rattle.std.proofs.lemmas.Option.{none-some, same_Some}
use Rattle.hm_names.specs.declared.table.TableName.{TableName}
use Rattle.hm_data.specs.declared.act.Act.{Act}
use Rattle.hm_data.specs.declared.act.Act.TheVariants as act_is
use Rattle.hm_data.specs.declared.args.Args.{Args}
use Rattle.hm_data.specs.declared.args.Args.TheVariants as args_are
use Rattle.hm_data.specs.declared.args.Child.{Child}
use Rattle.hm_data.specs.declared.args.Child.TheVariants as child_is
use Rattle.hm_data.specs.declared.place.Goal.{Goal}
use Rattle.hm_data.specs.declared.step.StepIn.{StepIn}
use Rattle.hm_data.specs.declared.step.StepOut.{StepOut}
use Rattle.hm_data.specs.declared.place.Goal.TheVariants as goal_is
use Rattle.hm_model.specs.Acts.{act_answer}
use Rattle.hm_model.specs.RowsSaid.{all_among}
use Rattle.hm_model.specs.Views.{first_id_of, table_of}
use Rattle.hm_model.specs.Outs.{spawns}
use Rattle.hm_model.specs.Pieces.{Batch, adding, batches, by_64}
use Rattle.hm_model.specs.Locks.{in_name_order}
use Rattle.hm_model.specs.Tree.{args_in}
use Rattle.hm_model.proofs.PlainActs.{is_plain}
use Rattle.hm_names.specs.Region.{Region}
use Rattle.hm_model.specs.MadeOf.{IsMadeOf, IsSent, Makes, Making, making}
use Rattle.hm_model.proofs.MadeOf.{made_of}

-- each of the procedures that children stand for is such a one
abbrev pub AllMade : (Args → Type 0) → List Child → Type 0
AllMade P [] = Unit {0}
AllMade P (child_is.Transits table ids goal ∷ more) = ((id : ℕ) → P (args_are.Transit (record { table = table; id = id }) goal None)) × AllMade P more
AllMade P (child_is.One args ∷ more) = P args × AllMade P more

made_transit : (P : Args → Type 0) (table : TableName) (goal : Goal) → ((id : ℕ) → P (args_are.Transit (record { table = table; id = id }) goal None)) → (ids : List ℕ) (more : List Args) → ((i : ℕ) (args : Args) → slice_get more i ≡ Some args → P args) → (i : ℕ) (args : Args) → slice_get (map (λ id. args_are.Transit (record { table = table; id = id }) goal None) ids ++ more) i ≡ Some args → P args
made_transit P table goal each [] more rest i args is = rest i args is
made_transit P table goal each (id ∷ ids) more rest zero args is = subst P (same_Some _ args is) (each id)
made_transit P table goal each (id ∷ ids) more rest (suc i) args is = made_transit P table goal each ids more rest i args is

pub made_at : (P : Args → Type 0) (children : List Child) → AllMade P children → (i : ℕ) (args : Args) → slice_get (args_in children) i ≡ Some args → P args
made_at P [] all i args is = absurd (none-some args is)
made_at P (child_is.Transits table ids goal ∷ more) all i args is = made_transit P table goal all.0 ids (args_in more) (λ k a g. made_at P more all.1 k a g) i args is
made_at P (child_is.One own ∷ more) all zero args is = subst P (same_Some own args is) all.0
made_at P (child_is.One own ∷ more) all (suc i) args is = made_at P more all.1 i args is

-- who may be made by an act of a procedure
abbrev pub IsChildOf : Act → Args → Args → Type 0
IsChildOf act args (args_are.AddRegions table first bounds) = (act ≡ act_is.AddRegions) × (table_of args ≡ Some table)
IsChildOf act args (args_are.DropRegions table ids) = (act ≡ act_is.DropRegions) × (table_of args ≡ Some table)
IsChildOf act args (args_are.LayoutCall root) = act ≡ act_is.Layout
IsChildOf act args (args_are.FenceCall server) = Unit {0}
IsChildOf act args (args_are.Transit region goal_is.Assign to) = Unit {0}
IsChildOf act args (args_are.Transit region goal_is.Unassign to) = Unit {0}
IsChildOf act args other = ⊥

abbrev pub MadeBy : Act → Args → StepOut → Type 0
MadeBy act args out = AllMade (IsChildOf act args) out.children

-- the acts that alone make some sorts of procedures
abbrev is_layout_made : Making → Bool
is_layout_made Making.layout = true
is_layout_made making = false

abbrev is_adds_made : Making → Bool
is_adds_made Making.adds = true
is_adds_made making = false

abbrev is_drops_made : Making → Bool
is_drops_made Making.drops = true
is_drops_made making = false

pub only_layout : (act : Act) → making act ≡ Making.layout → act ≡ act_is.Layout
only_layout act_is.Layout is = refl
only_layout act is = absurd (false≢true (ap is_layout_made is))

pub only_adds : (act : Act) → making act ≡ Making.adds → act ≡ act_is.AddRegions
only_adds act_is.AddRegions is = refl
only_adds act is = absurd (false≢true (ap is_adds_made is))

pub only_drops : (act : Act) → making act ≡ Making.drops → act ≡ act_is.DropRegions
only_drops act_is.DropRegions is = refl
only_drops act is = absurd (false≢true (ap is_drops_made is))

module _ (act : Act) (args : Args) where
  kids_spawns : (next : ℕ) (children : List Child) → AllMade (IsChildOf act args) children → MadeBy act args (spawns next children)
  kids_spawns next [] all = tt
  kids_spawns next (child ∷ more) all = all

  sent_kid : (goal : Goal) → IsSent goal → (region : Region) → IsChildOf act args (args_are.Transit region goal None)
  sent_kid goal_is.Move sent region = sent
  sent_kid goal_is.Assign sent region = tt
  sent_kid goal_is.Unassign sent region = tt

  sent_kids : (goal : Goal) → IsSent goal → (list : List Batch) → AllMade (IsChildOf act args) (map (λ batch. child_is.Transits batch.table batch.ids goal) list)
  sent_kids goal sent [] = tt
  sent_kids goal sent (batch ∷ more) = ((λ id. sent_kid goal sent (record { table = batch.table; id = id })), sent_kids goal sent more)

  adds : act ≡ act_is.AddRegions → (most : ℕ) (table : TableName) → table_of args ≡ Some table → (first : ℕ) (bounds : List (List ℕ)) → AllMade (IsChildOf act args) (adding most table first bounds)
  adds only zero table is first bounds = tt
  adds only (suc most) table is first bounds = by_test (nat_le (length bounds) 1) (child_is.One (args_are.AddRegions table first (take 65 bounds)) ∷ adding most table (first + 64) (drop 64 bounds)) ((only, is), adds only most table is (first + 64) (drop 64 bounds))
    where
      by_test : (b : Bool) (children : List Child) → AllMade (IsChildOf act args) children → AllMade (IsChildOf act args) (cond b [] children)
      by_test true children h = tt
      by_test false children h = h

  drops : act ≡ act_is.DropRegions → (table : TableName) → table_of args ≡ Some table → (pieces : List (List ℕ)) → AllMade (IsChildOf act args) (map (λ piece. child_is.One (args_are.DropRegions table piece)) pieces)
  drops only table is [] = tt
  drops only table is (piece ∷ more) = ((only, is), drops only table is more)

kids_makes : (act : Act) (at : StepIn) → is_plain act ≡ true → {children : List Child} → Makes act at children → AllMade (IsChildOf act at.args) children
kids_makes act at h (Makes.lays is) = (only_layout act is, tt)
kids_makes act at h (Makes.fences is server own) = (tt, tt)
kids_makes act at h (Makes.adds_all is table own bounds are) = adds act at.args (only_adds act is) (length bounds) table own (first_id_of at.args) bounds
kids_makes act at h (Makes.drops_all is table own) = drops act at.args (only_drops act is) table own (by_64 (map (λ (region : Region). region.id) (all_among table at.rows)))
kids_makes act at h (Makes.sends goal sent which is regions are) = sent_kids act at.args goal sent (batches (in_name_order regions))
kids_makes act at h (Makes.opens off region own server there) = absurd (true≢false (sym h ∙ off))

kids_made : (act : Act) (next : ℕ) (at : StepIn) → is_plain act ≡ true → {out : StepOut} → IsMadeOf act next at out → MadeBy act at.args out
kids_made act next at h (IsMadeOf.made children makes) = kids_spawns act at.args next children (kids_makes act at h makes)
kids_made act next at h (IsMadeOf.shut off region own server there) = absurd (true≢false (sym h ∙ off))
kids_made act next at h other = tt

-- what such an act makes
pub kids_act : (act : Act) → is_plain act ≡ true → (next : ℕ) (at : StepIn) → MadeBy act at.args (act_answer act next at)
kids_act act h next at = kids_made act next at h (made_of act next at)
