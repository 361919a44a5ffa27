-- What recording an entry answers, and what it leaves.
use Rattle.std.specs.Prelude.{◌≡◌, ℕ, Result, Ok, Err}
use Rattle.hm_data.specs.declared.entry.Entry.{Entry}
use Rattle.hm_hall.specs.Recording.{Accepts, Recording, Records}
use Rattle.hm_hall.specs.declared.fault.HallFault.{HallFault}
use Rattle.hm_hall.specs.declared.fault.HallFault.TheVariants as fault_is
use Rattle.hm_hall.specs.declared.fault.RecordFault.TheVariants as record_is

-- an entry is recorded, or isn't: memory runs out only for one that would be recorded, and leaves all as it was
abbrev pub Adds : Recording → Entry → Result ℕ HallFault → Recording → Type 0
Adds old entry (Ok number) new = Records old entry (Ok number) new
Adds old entry (Err fault_is.LogFault) new = Records old entry (Err record_is.LogFault) new
Adds old entry (Err (fault_is.JournalFull bytes)) new = Records old entry (Err (record_is.JournalFull bytes)) new
Adds old entry (Err (fault_is.Halted why)) new = Records old entry (Err (record_is.Halted why)) new
Adds old entry (Err fault_is.Memory) new = Accepts old entry × (new ≡ old)
