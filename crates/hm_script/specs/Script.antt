-- What a script says.
use Rattle.std.specs.Prelude.{◌≡◌, ◌⊎◌, ℕ, zero, suc, ◌+◌, ◌-◌, ◌≤◌, Bool, true, false, ◌==◌, nat_lt, if◌then◌else◌, Result, Ok, Err, List, [], ◌∷◌, ◌++◌, length, map, take, drop, All}
use Rattle.std.specs.List.{flat_map}
use Rattle.hm_script.specs.declared.bad.Bad.{Bad}
use Rattle.hm_script.specs.declared.bad.Why.{Why}
use Rattle.hm_script.specs.declared.bad.Why.TheVariants.{TooLong, Word, Memory}
use Rattle.hm_script.specs.declared.command.Command.{Command}
use Rattle.hm_script.specs.declared.command.Command.TheVariants as C
use Rattle.hm_script.specs.declared.command.Order.{Order}
use Rattle.hm_script.specs.declared.command.Order.TheVariants as O
use Rattle.hm_script.specs.declared.program.Program.{Program}
use Rattle.hm_script.specs.declared.program.Program.TheVariants.{Run, Pair}
use Rattle.hm_script.specs.Lines.{indent_of, is_skipped, lines_of}
use Rattle.hm_script.specs.Programs.{is_word_of}
use Rattle.hm_script.specs.Reading.{line_kept, may_stand, read_line}
use Rattle.hm_script.specs.Spellings.{Spelling, spelling, command_text}

-- who reads scripts: a program, of how many regions a merge may be, and which of its commands the program has
pub record Reader : Type 0 where
  pub program : Program
  pub most_regions : ℕ
  pub has : Spelling → Bool

-- one command before others
abbrev pub onto_others : Spelling → Result (List Spelling) Bad → Result (List Spelling) Bad
onto_others said (Ok others) = Ok (said ∷ others)
onto_others said (Err bad) = Err bad

-- what the line with this number says, before what the others say; its fault comes before theirs
abbrev pub before_others : ℕ → Result Spelling Why → Result (List Spelling) Bad → Result (List Spelling) Bad
before_others number (Ok said) others = onto_others said others
before_others number (Err why) others = Err (record { line = number; why = why })

-- where a program doesn't have the command of a line, its first word is wrong
abbrev pub if_had : (Spelling → Bool) → List ℕ → Result Spelling Why → Result Spelling Why
if_had has line (Ok said) = if has said then Ok said else Err (Word (indent_of line))
if_had has line (Err why) = Err why

-- what lines say to a reader. They are numbered from `number` on; `first` tells whether no command
-- stands before them.
abbrev pub read_lines : Reader → ℕ → Bool → List (List ℕ) → Result (List Spelling) Bad
read_lines reader number first [] = Ok []
read_lines reader number first (line ∷ lines) =
    if is_skipped line then read_lines reader (number + 1) first lines
    else before_others number (if_had reader.has line (read_line reader.program reader.most_regions first line)) (read_lines reader (number + 1) false lines)

-- what the lines of a script say to a reader: their commands, or the first line that says none, and that line's first fault
unfoldable pub read_script : Reader → List ℕ → Result (List Spelling) Bad
read_script reader bytes =
    if nat_lt 1048576 (length bytes) then Err (record { line = 0; why = TooLong }) else read_lines reader 1 true (lines_of bytes)

-- each command
abbrev pub every : Spelling → Bool
every said = true

-- a reader of the same program that has each of its commands
abbrev pub whole : Reader → Reader
whole reader = record { program = reader.program; most_regions = reader.most_regions; has = every }

-- what a second reading says of what the first reads; a fault of the first comes before its own
abbrev pub unless_bad : Result (List Spelling) Bad → Result (List Spelling) Bad → Result (List Spelling) Bad
unless_bad (Ok said) second = second
unless_bad (Err bad) second = Err bad

-- what a script says to a reader: it has to be one before it is asked which of its commands the reader has
abbrev pub read_to : Reader → List ℕ → Result (List Spelling) Bad
read_to reader bytes = unless_bad (read_script (whole reader) bytes) (read_script reader bytes)

-- to such a reader the bytes are a script of these commands
abbrev pub IsScriptTo : Reader → List ℕ → List Command → Type 0
IsScriptTo reader bytes commands = read_to reader bytes ≡ Ok (map spelling commands)

-- to such a reader the bytes are no script, and this is their fault: the first of all, or else the first command that it
-- doesn't have
abbrev pub IsFaultTo : Reader → List ℕ → Bad → Type 0
IsFaultTo reader bytes bad = read_to reader bytes ≡ Err bad

-- who reads all commands of the program `run`, and merges of up to ten regions
abbrev pub run_reader : Reader
run_reader = record { program = Run; most_regions = 10; has = every }

-- and of the program `pair`
abbrev pub pair_reader : Reader
pair_reader = record { program = Pair; most_regions = 10; has = every }

-- how much room for commands is made where there is so much: for 16 at first, and then for as many again
abbrev pub more_room : ℕ → ℕ
more_room room = if room == 0 then 16 else room

-- how much there is after so many times
abbrev pub room_after : ℕ → ℕ
room_after zero = 0
room_after (suc times) = let room = room_after times in room + more_room room

-- so many commands use up the room that there is for them
abbrev pub IsFull : ℕ → Type 0
IsFull count = (times : ℕ) × (count ≡ room_after times)

-- a line says a command
abbrev pub SaysOne : Reader → Bool → List ℕ → Type 0
SaysOne reader first line = (one : Spelling) × (read_line reader.program reader.most_regions first line ≡ Ok one)

-- memory may run out at this line: the lines before it say commands, and in it something is to be kept that takes memory; or it says a
-- command too, and those before use up the room for commands
pub record RunsOutAt (reader : Reader) (lines : List (List ℕ)) (number : ℕ) : Type 0 where
  pub said : List Spelling
  pub line : List ℕ
  pub later : List (List ℕ)
  pub before : read_lines (whole reader) 1 true (take (number - 1) lines) ≡ Ok said
  pub here : drop (number - 1) lines ≡ line ∷ later
  pub kept : (line_kept reader.program reader.most_regions (length said == 0) line ≡ true) ⊎ (IsFull (length said) × SaysOne reader (length said == 0) line)

-- memory ran out, at the line of this fault
abbrev pub RanOut : Reader → List ℕ → Bad → Type 0
RanOut reader bytes bad = (bad.why ≡ Memory) × RunsOutAt reader (lines_of bytes) bad.line

-- the line that says a command, with its newline
abbrev pub line_text : Command → List ℕ
line_text command = command_text command ++ 10 ∷ []

-- the script of commands, a line each
abbrev pub script_text : List Command → List ℕ
script_text commands = flat_map line_text commands

-- so many regions may be merged: two, or more, but no more than a reader takes
abbrev pub AreMergeable : ℕ → ℕ → Type 0
AreMergeable most count = (2 ≤ count) × (count ≤ most)

-- an order that a line can say
abbrev pub IsOrder : ℕ → Order → Type 0
IsOrder most (O.Merge nonce regions) = AreMergeable most (length regions)
IsOrder most order = Unit {0}

-- a command that a line can say, where a merge may have so many regions
abbrev pub IsSpelled : ℕ → Command → Type 0
IsSpelled most (C.Workers count) = count ≤ 16
IsSpelled most (C.Merge nonce regions) = AreMergeable most (length regions)
IsSpelled most (C.Backoff ticks) = ticks ≤ 7
IsSpelled most (C.Tick ticks) = (1 ≤ ticks) × (ticks ≤ 1000000)
IsSpelled most (C.Group name servers) = 1 ≤ length servers
IsSpelled most (C.Old order) = IsOrder most order
IsSpelled most command = Unit {0}

-- a command that a line can say to a reader: a word of its program begins it, and the reader has it
pub record IsSpelledTo (reader : Reader) (command : Command) : Type 0 where
  pub spelled : IsSpelled reader.most_regions command
  pub known : is_word_of reader.program (spelling command).keyword ≡ true
  pub had : reader.has (spelling command) ≡ true

-- a command that may stand after others: no Workers
abbrev pub IsLater : Command → Type 0
IsLater command = may_stand false (spelling command).keyword ≡ true

-- commands that have a script for a reader: a Workers stands first alone
abbrev pub IsPrintableTo : Reader → List Command → Type 0
IsPrintableTo reader commands = All (IsSpelledTo reader) commands × All IsLater (drop 1 commands)
