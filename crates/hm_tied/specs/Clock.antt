-- Who waits for a timer: told by the events of a clock and the journal.
use Rattle.std.specs.Prelude.{◌≡◌, ℕ, ◌+◌, ◌-◌, ◌*◌, ◌^◌, ◌==◌, ◌&&◌, ◌≤◌, List, [], ◌∷◌, length, min, Option, Some, None, Bool, true, false, if◌then◌else◌, nat_le, nat_lt}
use Rattle.hm_names.specs.Server.{Server}
use Rattle.hm_names.specs.declared.pid.Pid.{Pid}
use Rattle.hm_data.specs.declared.entry.Entry.{Entry}
use Rattle.hm_data.specs.declared.entry.Entry.TheVariants as entry_is
use Rattle.hm_data.specs.declared.step.StepOut.{StepOut}
use Rattle.hm_model.specs.Journal.{Past}
use Rattle.hm_model.specs.Laws.{is_part}
use Rattle.hm_model.specs.Places.{has_failed, one_more, tries_of}

-- an event of the clock: the present tick after it, how many ticks the next try waits that follows a first failure, and how many entries
-- the journal had
pub record Tock : Type 0 where
  pub now : ℕ
  pub wait : ℕ
  pub length : ℕ

-- before any event the tick is 0, and no try waits
abbrev pub dawn : Tock
dawn = record { now = 0; wait = 0; length = 0 }

-- the newest of some events, which stand newest first
abbrev pub newest : List Tock → Tock
newest [] = dawn
newest (tock ∷ older) = tock

-- the newest event that came while the journal had at most so many entries
abbrev pub tock_at : List Tock → ℕ → Tock
tock_at [] n = dawn
tock_at (tock ∷ older) n = if nat_le tock.length n then tock else tock_at older n

-- an entry is a step of a procedure at which its region fails to open
abbrev pub fails : Entry → ℕ → Bool
fails (entry_is.Step pid pick out) p = (p == pid.0) && has_failed out.place
fails entry p = false

-- the last step at which a procedure's region failed to open: how many entries stood before it, and how often it failed by then
abbrev pub last_failed : Past → ℕ → Option (ℕ × ℕ)
last_failed [] p = None
last_failed (entry_is.Step pid pick out ∷ before) p =
    if (p == pid.0) && has_failed out.place then Some (length before, one_more (tries_of before p)) else last_failed before p
last_failed (entry_is.Base part ∷ before) p = None
last_failed (entry ∷ before) p = last_failed before p

-- so many ticks a try waits after so many failures: the number that was set, doubled at each failure but the first, six times at most
abbrev pub wait_of : ℕ → ℕ → ℕ
wait_of wait tries = wait * 2 ^ min (tries - 1) 6

-- the tick that a failure of then is waited for to, if it is
abbrev pub due_if : List Tock → Option (ℕ × ℕ) → Option ℕ
due_if clock None = None
due_if clock (Some failed) = let at = tock_at clock failed.0 in if at.wait == 0 then None else Some (at.now + wait_of at.wait failed.1)

-- the tick that a procedure's last failure is waited for to, if it is
abbrev pub due_of : List Tock → Past → ℕ → Option ℕ
due_of clock before p = due_if clock (last_failed before p)

-- a tick, if there is one, is still to come
abbrev pub is_ahead : ℕ → Option ℕ → Bool
is_ahead now None = false
is_ahead now (Some due) = nat_lt now due

-- a procedure waits for its timer
abbrev pub waits_by : List Tock → Past → ℕ → Bool
waits_by clock before p = let last = newest clock in is_ahead last.now (due_of clock before p)

-- by an entry that is no part of a base and no failure of its own a procedure's due stays
abbrev pub DuesStay : Type 0
DuesStay =
    (clock : List Tock) (entry : Entry) (J : Past) (p : ℕ) → is_part entry ≡ false → fails entry p ≡ false
    → due_of clock (entry ∷ J) p ≡ due_of clock J p

-- by an event of the clock all dues stay
abbrev pub ClocksGoOn : Type 0
ClocksGoOn =
    (clock : List Tock) (tock : Tock) (J : Past) (p : ℕ) → tock.length ≡ length J → due_of (tock ∷ clock) J p ≡ due_of clock J p

-- by a failure of its own it is due as the newest event says, unless no try waits
abbrev pub FailuresSet : Type 0
FailuresSet =
    (clock : List Tock) (pid : Pid) (pick : Option Server) (out : StepOut) (J : Past) → has_failed out.place ≡ true
    → (let last = newest clock in
    last.length ≤ length J
    → due_of clock (entry_is.Step pid pick out ∷ J) pid.0
    ≡ (if last.wait == 0 then None else Some (last.now + wait_of last.wait (one_more (tries_of J pid.0)))))
