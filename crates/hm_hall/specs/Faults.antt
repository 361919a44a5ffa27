-- Why nothing was recorded, as those say it who asked for it.
use Rattle.hm_hall.specs.declared.fault.HallFault.{HallFault}
use Rattle.hm_hall.specs.declared.fault.HallFault.TheVariants as hall_is
use Rattle.hm_hall.specs.declared.fault.RecordFault.{RecordFault}
use Rattle.hm_hall.specs.declared.fault.RecordFault.TheVariants as fault_is

-- the same cause
abbrev pub fault_of : RecordFault → HallFault
fault_of fault_is.LogFault = hall_is.LogFault
fault_of (fault_is.JournalFull bytes) = hall_is.JournalFull bytes
fault_of (fault_is.Halted why) = hall_is.Halted why
