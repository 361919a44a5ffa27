-- The handlers of a run, as their sheets, and how often they were run.
use Rattle.std.specs.Prelude.{◌≡◌, ◌⊎◌, ℕ, ◌+◌, ◌-◌, ◌^◌, ◌<◌, ◌≤◌, List, [], ◌∷◌, ◌++◌, length, map, sum, Any, All, Option, Some, None, IsTrue}
use Rattle.std.specs.List.{flat_map}
use Rattle.hm_data.specs.declared.sheet.Sheet.{Sheet}
use Rattle.hm_data.specs.declared.entry.Entry.{Entry}
use Rattle.hm_data.specs.declared.entry.Entry.TheVariants as entry_is
use Rattle.hm_model.specs.Editions.{editions}
use Rattle.hm_model.specs.Journal.{back}
use Rattle.hm_model.specs.Kinds.{all_kinds}
use Rattle.hm_model.specs.Sheets.{sheet_for, sheets_of as in_force}
use Rattle.hm_sheet.specs.Own.{is_kind}
use Rattle.hm_sheet.specs.declared.handler.Handler as Handler
use Rattle.hm_sheet.specs.Registry.{runs_of, sheets_of}
use Rattle.hm_sheet.specs.declared.registry.Registry.{Registry}

-- registries: the sheets of each before and after, and how often each was run
pub record HandsUse : Type 0 where
  pub before : List (List Sheet)
  pub after : List (List Sheet)
  pub runs_before : List ℕ
  pub runs_after : List ℕ

-- what a call did with registries
abbrev pub hands_use : {X : Type 0} {F : X → Type 0} → ((x : X) → Handler.Ghosts (F x)) → List (Registry X F) → List (Registry X F) → HandsUse
hands_use hand old new =
    record {
      before = map (sheets_of hand) old;
      after = map (sheets_of hand) new;
      runs_before = map runs_of old;
      runs_after = map runs_of new;
    }

-- a sheet that is there, as a list
abbrev pub listed : Option Sheet → List Sheet
listed None = []
listed (Some sheet) = sheet ∷ []

-- the sheets of all kinds of procedures, in their order
abbrev pub own_sheets : List Sheet → List Sheet
own_sheets sheets = flat_map (λ kind. listed (sheet_for sheets kind)) all_kinds

-- the same sheets for all kinds of procedures
abbrev pub AgreeOn : List Sheet → List Sheet → Type 0
AgreeOn one other = (kind : ℕ) → IsTrue (is_kind kind) → sheet_for one kind ≡ sheet_for other kind

-- the same sheets for all kinds
abbrev pub AreEqual : List Sheet → List Sheet → Type 0
AreEqual one other = (kind : ℕ) → kind < 256 → sheet_for one kind ≡ sheet_for other kind

-- the sheets of the first registry
abbrev pub first_sheets : List (List Sheet) → List Sheet
first_sheets [] = []
first_sheets (first ∷ others) = first

-- the sheets that the first of registries has for an edition, if it has that edition
abbrev pub first_in : List (ℕ → Option (List Sheet)) → ℕ → Option (List Sheet)
first_in [] edition = None
first_in (first ∷ others) edition = first edition

-- the sheets of the first of these registries, for all kinds of procedures
abbrev pub sheets_used : HandsUse → List Sheet
sheets_used hands = own_sheets (first_sheets hands.before)

-- there are seventeen registries, one for the caller and sixteen for workers, and their sheets are equal
pub record HandsAgree (hands : List (List Sheet)) : Type 0 where
  pub seventeen : length hands ≡ 17
  pub alike : All (AreEqual (first_sheets hands)) hands

-- registries that agree, and that have the sheets in force in a journal that adopted none: those of its start, or of its base
pub record Serve (hands : List (List Sheet)) (journal : List Entry) : Type 0 where
  pub agree : HandsAgree hands
  pub begins : AgreeOn (first_sheets hands) (in_force (back journal))
  pub unadopted : editions (back journal) ≡ 0

-- the sum of counts rose by at least so many, or one of them stands at its end
abbrev pub SumRisesBy : ℕ → List ℕ → List ℕ → Type 0
SumRisesBy count before now = (sum before + count ≤ sum now) ⊎ Any (λ n. 2 ^ 64 - 1 ≤ n) now

-- no count fell
abbrev pub NoneFell : List ℕ → List ℕ → Type 0
NoneFell [] [] = Unit {0}
NoneFell [] (n ∷ now) = ⊥
NoneFell (b ∷ before) [] = ⊥
NoneFell (b ∷ before) (n ∷ now) = (b ≤ n) × NoneFell before now

-- the registries have the sheets that they had, and together they were run so often at least
pub record RunBy (hands : HandsUse) (count : ℕ) : Type 0 where
  pub alike : hands.after ≡ hands.before
  pub kept : NoneFell hands.runs_before hands.runs_after
  pub rises : SumRisesBy count hands.runs_before hands.runs_after

-- 1 for a step
abbrev pub one_step : Entry → ℕ
one_step (entry_is.Step pid pick out) = 1
one_step (entry_is.Undo pid row out) = 1
one_step entry = 0

-- how many of these entries are steps, or undo one
abbrev pub steps_in : List Entry → ℕ
steps_in [] = 0
steps_in (entry ∷ more) = one_step entry + steps_in more

-- the journal grew, and the registries were run once at least for each step that it gained
abbrev pub Ran : HandsUse → List Entry → List Entry → Type 0
Ran hands old new = (added : List Entry) × (new ≡ old ++ added) × RunBy hands (steps_in added)
