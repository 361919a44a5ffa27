-- Timers of procedures whose numbers count from a first one on.
use Rattle.std.specs.Prelude.{ℕ, ◌+◌, ◌<◌, ◌≤◌, ◌^◌, ◌==◌, map, Bool}
use Rattle.std.specs.List.{list_any}
use Rattle.hm_names.specs.declared.pid.Pid.{Pid}
use Rattle.hm_timer.specs.Timers.{Timers, View}

-- what callers see: the present tick, how many ticks the try waits that follows a first failure, the pids that are set, by due and
-- then by the order of setting, the first pid that may be set, the number that all of them are below, and how much memory there is
pub record ClockView : Type 0 where
  pub now : ℕ
  pub wait : ℕ
  pub set : Timers
  pub low : ℕ
  pub pids : ℕ
  pub room : ℕ

-- the timers of pids, where a wheel has those of their places from a first pid on
abbrev pub raised : ℕ → Timers → Timers
raised low timers = map (λ timer. (low + timer.0, timer.1)) timers

-- the pid of a place from a first pid on
abbrev pub pid_from : ℕ → Pid → Pid
pid_from low place = record { 0 = low + place.0 }

-- a pid is set
abbrev pub is_set_in : Timers → ℕ → Bool
is_set_in timers pid = list_any (λ timer. timer.0 == pid) timers

-- a pid may be set
abbrev pub IsKnown : ClockView → ℕ → Type 0
IsKnown clock pid = (clock.low ≤ pid) × (pid < clock.pids)

-- what holds of a clock: the wait has three bits, a pid has 64, and a tick 63
pub record IsClock (wheel : View) (low wait : ℕ) : Type 0 where
  pub short : wait ≤ 7
  pub fits : low + wheel.spare < 2 ^ 64
  pub small : wheel.now < 2 ^ 63
