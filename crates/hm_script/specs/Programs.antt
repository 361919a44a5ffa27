-- Which words begin the lines of each program's scripts.
use Rattle.std.specs.Prelude.{Bool, true, false, not, Option, Some, None, if◌then◌else◌}
use Rattle.hm_script.specs.declared.keyword.Keyword.{Keyword}
use Rattle.hm_script.specs.declared.keyword.Keyword.TheVariants.{Workers, OfNs, Create, OfTable, Modify, Split, Merge, Move, OfNumber, OfServer, Backoff, Tick, Group, TableGroup, Cut, Old, Alone}
use Rattle.hm_script.specs.declared.keyword.ServerWord.TheVariants.{Expire, Drain, Undrain}
use Rattle.hm_script.specs.declared.keyword.LoneWord.TheVariants.{Reopen, Roll, Timers, Hbck, Follow, Takeover}
use Rattle.hm_script.specs.declared.program.Program.{Program}
use Rattle.hm_script.specs.declared.program.Program.TheVariants.{Run, Pair}

-- a word of `run`, and not of `pair`
abbrev pub is_of_run_alone : Keyword → Bool
is_of_run_alone Workers = true
is_of_run_alone Cut = true
is_of_run_alone Backoff = true
is_of_run_alone Tick = true
is_of_run_alone Group = true
is_of_run_alone TableGroup = true
is_of_run_alone (OfServer Drain) = true
is_of_run_alone (OfServer Undrain) = true
is_of_run_alone (Alone Reopen) = true
is_of_run_alone (Alone Roll) = true
is_of_run_alone (Alone Timers) = true
is_of_run_alone (Alone Hbck) = true
is_of_run_alone keyword = false

-- a word of `pair`, and not of `run`
abbrev pub is_of_pair_alone : Keyword → Bool
is_of_pair_alone Old = true
is_of_pair_alone (Alone Follow) = true
is_of_pair_alone (Alone Takeover) = true
is_of_pair_alone keyword = false

-- lines of the program's scripts may begin with the word
abbrev pub is_word_of : Program → Keyword → Bool
is_word_of Run keyword = not (is_of_pair_alone keyword)
is_word_of Pair keyword = not (is_of_run_alone keyword)

-- the keyword, where it is a word of the program
abbrev pub known_to : Program → Option Keyword → Option Keyword
known_to program None = None
known_to program (Some keyword) = if is_word_of program keyword then Some keyword else None

-- what a master that was deposed may be told: a submission, `abort`, `expire` or `step`
abbrev pub may_be_old : Keyword → Bool
may_be_old (OfNs word) = true
may_be_old Create = true
may_be_old (OfTable word) = true
may_be_old Modify = true
may_be_old Split = true
may_be_old Merge = true
may_be_old Move = true
may_be_old (OfNumber word) = true
may_be_old (OfServer Expire) = true
may_be_old keyword = false

-- the keyword, where it may follow `old`
abbrev pub old_one : Option Keyword → Option Keyword
old_one None = None
old_one (Some keyword) = if may_be_old keyword then Some keyword else None
