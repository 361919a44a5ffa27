-- What the phase of a root says.
use Rattle.std.specs.Prelude.{Bool, true, false}
use Rattle.hm_data.specs.declared.record.Phase.{Phase}
use Rattle.hm_data.specs.declared.record.Phase.TheVariants as phase_is

-- the phase of a root that has failed
abbrev pub is_failed : Phase → Bool
is_failed phase_is.Runnable = false
is_failed phase_is.Waiting = false
is_failed phase_is.Awaiting = false
is_failed (phase_is.Failed cause) = true
is_failed (phase_is.RolledBack cause) = true
is_failed phase_is.Success = false
