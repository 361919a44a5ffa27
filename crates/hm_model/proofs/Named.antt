-- The servers that acts name: the one of the procedure, that of its region's place, and the one that was picked.
use Rattle.hm_data.specs.declared.act.Act.{Act}
use Rattle.hm_data.specs.declared.act.Back.{Back}
use Rattle.hm_data.specs.declared.answer.Answer.{Answer}
use Rattle.hm_data.specs.declared.answer.Cause.{Cause}
use Rattle.hm_data.specs.declared.answer.Cause.TheVariants as cause_is
use Rattle.hm_data.specs.declared.args.Args.{Args}
use Rattle.hm_data.specs.declared.args.Args.TheVariants as args_are
use Rattle.hm_data.specs.declared.args.Child.{Child}
use Rattle.hm_data.specs.declared.args.Child.TheVariants as child_is
use Rattle.hm_data.specs.declared.call.Told.{Told}
use Rattle.hm_data.specs.declared.catalog.Edit.{Edit}
use Rattle.hm_data.specs.declared.place.Goal.{Goal}
use Rattle.hm_data.specs.declared.place.Goal.TheVariants as goal_is
use Rattle.hm_data.specs.declared.place.Place.{Place}
use Rattle.hm_data.specs.declared.sheet.Row.{Row}
use Rattle.hm_data.specs.declared.step.StepIn.{StepIn}
use Rattle.hm_data.specs.declared.step.StepOut.{StepOut}
use Rattle.hm_model.specs.Acts.{act_answer}
use Rattle.hm_model.specs.Evaluation.{is_cut_off, row_answer}
use Rattle.hm_model.specs.Outs.{ends_with, fails, gives, on_to, spawns}
use Rattle.hm_model.specs.Pieces.{Batch, adding, batches, by_64, transits}
use Rattle.hm_model.specs.RowsSaid.{all_among}
use Rattle.hm_model.specs.Undoing.{closed_by, undo_followers}
use Rattle.hm_model.specs.TransitActs.{told_place}
use Rattle.hm_model.specs.Views.{first_id_of}
use Rattle.hm_model.specs.Wanted.{server_of}
use Rattle.hm_names.specs.Region.{Region}
use Rattle.hm_names.specs.Server.{Server}
use Rattle.hm_names.specs.declared.pid.Pid.{Pid}
use Rattle.hm_data.specs.declared.act.Back.TheVariants as back_is
use Rattle.hm_names.specs.declared.table.TableName.{TableName}
use Rattle.hm_model.specs.Locks.{in_name_order}
use Rattle.std.proofs.Common.{Bool, List, None, Option, Some, [], true, false, if◌then◌else◌, length, map, take, drop, nat_le, subst, zero, suc, ℕ, ◌+◌, ◌∷◌, ◌≡◌}
use Rattle.std.proofs.lemmas.Option.{same_Some}
use Rattle.hm_model.specs.MadeOf.{Gives, IsMadeOf, Makes}
use Rattle.hm_model.proofs.MadeOf.{made_of}

-- what is there has the property
abbrev pub OfOption : {A : Type 0} → (A → Type 0) → Option A → Type 0
OfOption {A} P o = (a : A) → o ≡ Some a → P a

-- each server that a procedure names has the property
abbrev pub IsOfNamed : (Server → Type 0) → Child → Type 0
IsOfNamed P (child_is.Transits table ids goal) = Unit {0}
IsOfNamed P (child_is.One args) = OfOption P (server_of args)

abbrev pub AreOfNamed : (Server → Type 0) → List Child → Type 0
AreOfNamed P [] = Unit {0}
AreOfNamed P (child ∷ more) = IsOfNamed P child × AreOfNamed P more

abbrev pub IsPlacedAt : (Server → Type 0) → Option Place → Type 0
IsPlacedAt P None = Unit {0}
IsPlacedAt P (Some place) = OfOption P place.server

-- the servers that an answer names have the property
pub record IsNamed (P : Server → Type 0) (out : StepOut) : Type 0 where
  pub children : AreOfNamed P out.children
  pub place : IsPlacedAt P out.place

-- those that a step sees
pub record SeesNamed (P : Server → Type 0) (at : StepIn) : Type 0 where
  pub own : OfOption P (server_of at.args)
  pub place : OfOption P (told_place at.place).server
  pub pick : OfOption P at.pick

module _ (P : Server → Type 0) where
  plainly : (answer : Answer) (edits : List Edit) (place : Option Place) → IsPlacedAt P place → IsNamed P (record { answer = answer; edits = edits; children = []; call = None; place = place; followers = [] })
  plainly answer edits place at = record { children = tt; place = at }

  onwards : (next : ℕ) (edits : List Edit) → IsNamed P (gives (on_to next) edits)
  onwards next edits = record { children = tt; place = tt }

  ended : (next : ℕ) (told : Told) → IsNamed P (ends_with told)
  ended next told = record { children = tt; place = tt }

  failed : (next : ℕ) (cause : Cause) → IsNamed P (fails cause)
  failed next cause = record { children = tt; place = tt }

  spawned : (next : ℕ) (children : List Child) → AreOfNamed P children → IsNamed P (spawns next children)
  spawned next [] are = record { children = tt; place = tt }
  spawned next (child ∷ more) are = record { children = are; place = tt }

  batches_named : (goal : Goal) (list : List Batch) → AreOfNamed P (map (λ batch. child_is.Transits batch.table batch.ids goal) list)
  batches_named goal [] = tt
  batches_named goal (batch ∷ more) = (tt, batches_named goal more)

  transits_named : (goal : Goal) (regions : List Region) → AreOfNamed P (transits goal regions)
  transits_named goal regions = batches_named goal (batches (in_name_order regions))

  pieces_named : (table : TableName) (pieces : List (List ℕ)) → AreOfNamed P (map (λ piece. child_is.One (args_are.DropRegions table piece)) pieces)
  pieces_named table [] = tt
  pieces_named table (piece ∷ more) = ((λ s e. cc), pieces_named table more)

  adding_if : (b : Bool) (children : List Child) → AreOfNamed P children → AreOfNamed P (if b then [] else children)
  adding_if true children are = tt
  adding_if false children are = are

  adding_named : (most : ℕ) (table : TableName) (first : ℕ) (bounds : List (List ℕ)) → AreOfNamed P (adding most table first bounds)
  adding_named zero table first bounds = tt
  adding_named (suc most) table first bounds =
      adding_if (nat_le (length bounds) 1) (child_is.One (args_are.AddRegions table first (take 65 bounds)) ∷ adding most table (first + 64) (drop 64 bounds))
      ((λ s e. cc), adding_named most table (first + 64) (drop 64 bounds))

  server_named : (o : Option Server) → OfOption P o → (server : Server) → o ≡ Some server → OfOption P (Some server)
  server_named o of server is s e = subst P (same_Some server s e) (of server is)

  makes_named : (act : Act) (at : StepIn) → SeesNamed P at → {children : List Child} → Makes act at children → AreOfNamed P children
  makes_named act at sees (Makes.lays is) = ((λ s e. cc), tt)
  makes_named act at sees (Makes.fences is server own) = (server_named (server_of at.args) sees.own server own, tt)
  makes_named act at sees (Makes.adds_all is table own bounds are) = adding_named (length bounds) table (first_id_of at.args) bounds
  makes_named act at sees (Makes.drops_all is table own) = pieces_named table (by_64 (map (λ (region : Region). region.id) (all_among table at.rows)))
  makes_named act at sees (Makes.sends goal sent which is regions are) = transits_named goal regions
  makes_named act at sees (Makes.opens off region own server there) = (server_named (told_place at.place).server sees.place server there, tt)

  gives_named : (at : StepIn) → SeesNamed P at → {place : Option Place} → Gives at place → IsPlacedAt P place
  gives_named at sees Gives.left = tt
  gives_named at sees (Gives.away state) = λ s e. cc
  gives_named at sees (Gives.picked state) = sees.pick
  gives_named at sees (Gives.there state) = sees.place

  made_named : (act : Act) (next : ℕ) (at : StepIn) → SeesNamed P at → {out : StepOut} → IsMadeOf act next at out → IsNamed P out
  made_named act next at sees (IsMadeOf.made children makes) = spawned next children (makes_named act at sees makes)
  made_named act next at sees (IsMadeOf.placed off answer near place gives) = plainly answer [] place (gives_named at sees gives)
  made_named act next at sees (IsMadeOf.shut off region own server there) =
      let of = server_named (told_place at.place).server sees.place server there in record { children = (of, tt); place = of }
  made_named act next at sees other = record { children = tt; place = tt }

  -- a row answers so
  pub row_named : (row : Row) (at : StepIn) → SeesNamed P at → IsNamed P (row_answer row at)
  row_named row at sees = by (is_cut_off row at)
    where
      by : (b : Bool) → IsNamed P (if b then fails cause_is.Aborted else act_answer row.act row.next at)
      by true = failed row.next cause_is.Aborted
      by false = made_named row.act row.next at sees (made_of row.act row.next at)

  -- and what undoes a step
  pub undo_named : (undo : Back) (args : Args) (root : Pid) → AreOfNamed P (undo_followers undo args root)
  undo_named back_is.Sweep args root = ((λ s e. cc), tt)
  undo_named back_is.Reopen args root = transits_named goal_is.Assign (closed_by args)
  undo_named undo args root = tt
