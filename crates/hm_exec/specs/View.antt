-- An executor as callers see it, and what is kept.
use Rattle.std.specs.Prelude.{◌≡◌, ℕ, List}
use Rattle.hm_hall.specs.Recording.{Recording, past_in}
use Rattle.hm_locks.specs.Book.{Row}
use Rattle.hm_model.specs.Journal.{Past}
use Rattle.hm_model.specs.Locks.{IsIn}
use Rattle.hm_roster.specs.Roster.{Follows, claims_on}
use Rattle.hm_roster.specs.declared.desk.Desk.{Desk}
use Rattle.hm_tied.specs.Tied.{CanGo}
use Rattle.hm_exec.specs.Moment.{Moment}

-- an executor: its recorder, who is claimed, who stands where, who is enlisted, and how much memory it has for these
pub record ExecView (R : Type 0) : Type 0 where
  pub recorder : R
  pub claimed : List ℕ
  pub lists : List (List ℕ)
  pub rows : List Row
  pub room : ℕ

-- what its recorder keeps, and who is claimed
abbrev pub moment_of : {R : Type 0} → (R → Recording) → ExecView R → Moment
moment_of kept exec = record { kept = kept exec.recorder; claimed = exec.claimed }

-- whoever is claimed can go on
abbrev pub AreAble : Past → Desk → Type 0
AreAble J desk = (q : ℕ) → IsIn q (claims_on desk) → CanGo J q

-- an executor but for its recorder: its journal, back from its newest entry, who is claimed, who stands where, who is enlisted, and how
-- much memory it has for these
pub record CoreView : Type 0 where
  pub past : Past
  pub claimed : List ℕ
  pub lists : List (List ℕ)
  pub rows : List Row
  pub room : ℕ

-- the desk follows the journal, and whoever is claimed can go on
pub record IsCore (past : Past) (desk : Desk) : Type 0 where
  pub follows : Follows past desk
  pub able : AreAble past desk

-- the state is that of what is recorded, the desk follows it, and whoever is claimed can go on
pub record IsExec (kept : Recording) (past : Past) (desk : Desk) : Type 0 where
  pub same : past_in kept ≡ past
  pub follows : Follows past desk
  pub able : AreAble past desk
