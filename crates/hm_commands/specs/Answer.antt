-- What each answer says.
use Rattle.std.specs.Prelude.{ℕ, List, [], ◌++◌, Option, Some, None, codes}
use Rattle.std.specs.Fmt.{decimal}
use Rattle.hm_names.specs.Server.{Server}
use Rattle.hm_names.specs.Servers.{server_text}
use Rattle.hm_hall.specs.declared.fault.Halt.{Halt}
use Rattle.hm_hall.specs.declared.fault.Halt.TheVariants as halt_is
use Rattle.hm_show.specs.Words.{state_text}
use Rattle.hm_commands.specs.RowNames.{row_text_if}
use Rattle.hm_commands.specs.declared.answer.Answer.{Answer}
use Rattle.hm_commands.specs.declared.answer.Answer.TheVariants as answer_is
use Rattle.hm_commands.specs.declared.answer.Refusal.{Refusal}
use Rattle.hm_commands.specs.declared.answer.Refusal.TheVariants as refusal_is

-- what halted the run
abbrev pub halt_text : Halt → List ℕ
halt_text halt_is.LogFault = codes "LogFault"
halt_text (halt_is.JournalFull bytes) = codes "JournalFull " ++ decimal bytes

-- why a command is refused: the first word, with a space where more follows
abbrev pub refusal_word : Refusal → List ℕ
refusal_word (refusal_is.BadArgs number) = codes "BadArgs "
refusal_word (refusal_is.NonceClash pid) = codes "NonceClash "
refusal_word (refusal_is.TooManyRegions drawn) = codes "TooManyRegions "
refusal_word (refusal_is.JournalFull bytes) = codes "JournalFull "
refusal_word refusal_is.Unknown = codes "Unknown"
refusal_word (refusal_is.Child root) = codes "Child "
refusal_word (refusal_is.Finished phase) = codes "Finished "
refusal_word (refusal_is.TooLate act) = codes "TooLate "
refusal_word (refusal_is.OldStart start) = codes "OldStart "
refusal_word refusal_is.Known = codes "Known"
refusal_word refusal_is.AlreadyDown = codes "AlreadyDown"
refusal_word refusal_is.NoServer = codes "NoServer"
refusal_word (refusal_is.Unsettled roots) = codes "Unsettled "
refusal_word (refusal_is.TooOld number) = codes "TooOld "
refusal_word refusal_is.Late = codes "Late"
refusal_word refusal_is.NoGroup = codes "NoGroup"
refusal_word refusal_is.NotInGroup = codes "NotInGroup"
refusal_word refusal_is.Grouped = codes "Grouped"
refusal_word refusal_is.Alone = codes "Alone"
refusal_word refusal_is.Active = codes "Active"

-- the word after it
abbrev pub refusal_detail : Refusal → List ℕ
refusal_detail (refusal_is.Finished phase) = state_text phase
refusal_detail (refusal_is.TooLate act) = row_text_if act
refusal_detail why = []

-- the number after it
abbrev pub refusal_number : Refusal → Option ℕ
refusal_number (refusal_is.BadArgs number) = Some number
refusal_number (refusal_is.NonceClash pid) = Some pid
refusal_number (refusal_is.TooManyRegions drawn) = Some drawn
refusal_number (refusal_is.JournalFull bytes) = Some bytes
refusal_number (refusal_is.Child root) = Some root
refusal_number (refusal_is.OldStart start) = Some start
refusal_number (refusal_is.Unsettled roots) = Some roots
refusal_number (refusal_is.TooOld number) = Some number
refusal_number why = None

-- a number in decimals, where there is one
abbrev number_text : Option ℕ → List ℕ
number_text None = []
number_text (Some number) = decimal number

-- its words
abbrev pub refusal_text : Refusal → List ℕ
refusal_text why = refusal_word why ++ refusal_detail why ++ number_text (refusal_number why)

-- the line of a server that comes up
abbrev pub up_text : Server → List ℕ
up_text server = codes "up " ++ server_text server ++ codes "\n"

-- the line of a crash that is recorded, and of the procedure that sees to it
abbrev pub expired_text : Server → ℕ → List ℕ
expired_text server pid = codes "expired " ++ server_text server ++ codes " pid " ++ decimal pid ++ codes "\n"

-- the lines of an answer
abbrev pub answer_text : Answer → List ℕ
answer_text (answer_is.Opened at) = codes "opened at " ++ decimal at ++ codes "\n"
answer_text (answer_is.Pid pid) = codes "pid " ++ decimal pid ++ codes "\n"
answer_text (answer_is.Repeated pid) = codes "pid " ++ decimal pid ++ codes " repeated\n"
answer_text (answer_is.Refused why) = codes "refused " ++ refusal_text why ++ codes "\n"
answer_text (answer_is.Aborting pid) = codes "aborting " ++ decimal pid ++ codes "\n"
answer_text (answer_is.AbortingAlready pid) = codes "aborting " ++ decimal pid ++ codes " repeated\n"
answer_text (answer_is.Up server) = up_text server
answer_text (answer_is.UpInPlaceOf older pid server) = expired_text older pid ++ up_text server
answer_text (answer_is.Expired server pid) = expired_text server pid
answer_text (answer_is.Dead server) = codes "dead " ++ server_text server ++ codes "\n"
answer_text answer_is.Armed = codes "armed\n"
answer_text (answer_is.Stepped tasks at) = codes "stepped " ++ decimal tasks ++ codes " at " ++ decimal at ++ codes "\n"
answer_text (answer_is.Settled at) = codes "settled at " ++ decimal at ++ codes "\n"
answer_text (answer_is.Waiting at roots) = codes "waiting at " ++ decimal at ++ codes ": " ++ decimal roots ++ codes "\n"
answer_text (answer_is.Lost count) = codes "lost " ++ decimal count ++ codes "\n"
answer_text (answer_is.Resent count) = codes "repeated " ++ decimal count ++ codes "\n"
answer_text (answer_is.Table table) = table.items
answer_text (answer_is.Balanced lines) = lines.items
answer_text (answer_is.Halted why) = codes "halted " ++ halt_text why ++ codes "\n"
answer_text (answer_is.Rolled at) = codes "rolled at " ++ decimal at ++ codes "\n"
answer_text (answer_is.Adopted kind) = codes "adopted " ++ decimal kind ++ codes "\n"
answer_text (answer_is.Reopened at) = codes "reopened at " ++ decimal at ++ codes "\n"
answer_text (answer_is.Followed at) = codes "followed at " ++ decimal at ++ codes "\n"
answer_text (answer_is.Epoch epoch at) = codes "epoch " ++ decimal epoch ++ codes " at " ++ decimal at ++ codes "\n"
answer_text (answer_is.Deposed epoch) = codes "deposed " ++ decimal epoch ++ codes "\n"
answer_text (answer_is.Backoff ticks) = codes "backoff " ++ decimal ticks ++ codes "\n"
answer_text (answer_is.Ticked at woken) = codes "tick at " ++ decimal at ++ codes ": " ++ decimal woken ++ codes "\n"
answer_text (answer_is.Group name servers) = codes "group " ++ name ++ codes " " ++ decimal servers ++ codes "\n"
answer_text answer_is.Grouped = codes "grouped\n"
answer_text (answer_is.Draining lines) = lines.items
answer_text (answer_is.Undrained server) = codes "undrained " ++ server_text server ++ codes "\n"
