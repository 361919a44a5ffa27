-- The last line that each status writes.
use Rattle.std.specs.Prelude.{ℕ, List, [], ◌++◌, codes}
use Rattle.std.specs.Fmt.{decimal}
use Rattle.hm_script.specs.Faults.{why_text}
use Rattle.hm_top.specs.declared.status.LogWhy.{LogWhy}
use Rattle.hm_top.specs.declared.status.LogWhy.TheVariants.{NotALog, BadFrame, BadEntry, Illegal, SheetsDiffer, NotEmpty}
use Rattle.hm_top.specs.declared.status.RunStatus.{RunStatus}
use Rattle.hm_top.specs.declared.status.RunStatus.TheVariants.{Done, Usage, BadScript, LogFault, LogRefused, ReadFault, WriteFault, JournalFull, Memory}

-- what is wrong with a log
abbrev pub log_text : LogWhy → List ℕ
log_text (NotALog at) = codes "NotALog " ++ decimal at
log_text (BadFrame at) = codes "BadFrame " ++ decimal at
log_text (BadEntry number at) = codes "BadEntry " ++ decimal number ++ codes " " ++ decimal at
log_text (Illegal number rule) = codes "Illegal " ++ decimal number ++ codes " " ++ decimal rule
log_text (SheetsDiffer kind) = codes "SheetsDiffer " ++ decimal kind
log_text (NotEmpty entries) = codes "NotEmpty " ++ decimal entries

-- the last line, where the status has one
abbrev pub last_line : RunStatus → List ℕ
last_line Done = []
last_line (Usage word) = codes "hmaster: usage: word " ++ decimal word ++ codes "\n"
last_line (BadScript bad) = codes "hmaster: script: line " ++ decimal bad.line ++ codes ": " ++ why_text bad.why ++ codes "\n"
last_line LogFault = codes "hmaster: log fault\n"
last_line (LogRefused why) = codes "hmaster: log refused: " ++ log_text why ++ codes "\n"
last_line ReadFault = codes "hmaster: read fault\n"
last_line WriteFault = []
last_line (JournalFull bytes) = codes "hmaster: journal full: " ++ decimal bytes ++ codes "\n"
last_line Memory = []

-- the exit status of the program
abbrev pub status_code : RunStatus → ℕ
status_code Done = 0
status_code (Usage word) = 2
status_code (BadScript bad) = 3
status_code LogFault = 4
status_code (LogRefused why) = 5
status_code ReadFault = 6
status_code WriteFault = 7
status_code (JournalFull bytes) = 8
status_code Memory = 9
