-- Which commands are offered.
use Rattle.std.specs.Prelude.{◌≡◌, Bool, true, false}
use Rattle.hm_script.specs.declared.command.Command.{Command}
use Rattle.hm_script.specs.declared.keyword.Keyword.{Keyword}
use Rattle.hm_script.specs.declared.keyword.Keyword.TheVariants.{Workers, OfNs, Create, OfTable, Modify, Split, Merge, Move, OfNumber, OfServer, Refuse, Backoff, Tick, Group, TableGroup, Procs, Cut, Old, Alone}
use Rattle.hm_script.specs.declared.keyword.LoneWord.TheVariants.{Settle, Lose, Repeat, Balance, Regions, Locks, Servers, Reopen, Roll, Timers, Hbck, Follow, Takeover}
use Rattle.hm_script.specs.declared.keyword.ServerWord.TheVariants.{Server, Die, Expire, Drain, Undrain}
use Rattle.hm_script.specs.declared.program.Program.TheVariants.{Run}
use Rattle.hm_script.specs.Script.{Reader}
use Rattle.hm_script.specs.Spellings.{Spelling, spelling}

-- by the word that begins its line: each word is named, so that no new one is offered unasked
abbrev pub is_offered_as : Keyword → Bool
is_offered_as Workers = false
is_offered_as (OfNs word) = true
is_offered_as Create = true
is_offered_as (OfTable word) = true
is_offered_as Modify = true
is_offered_as Split = true
is_offered_as Merge = true
is_offered_as Move = true
is_offered_as (OfNumber word) = true
is_offered_as (OfServer Server) = true
is_offered_as (OfServer Die) = true
is_offered_as (OfServer Expire) = true
is_offered_as (OfServer Drain) = false
is_offered_as (OfServer Undrain) = false
is_offered_as Refuse = true
is_offered_as Backoff = false
is_offered_as Tick = false
is_offered_as Group = false
is_offered_as TableGroup = false
is_offered_as Procs = true
is_offered_as Cut = false
is_offered_as Old = false
is_offered_as (Alone Settle) = true
is_offered_as (Alone Lose) = true
is_offered_as (Alone Repeat) = true
is_offered_as (Alone Balance) = true
is_offered_as (Alone Regions) = true
is_offered_as (Alone Locks) = true
is_offered_as (Alone Servers) = true
is_offered_as (Alone Reopen) = false
is_offered_as (Alone Roll) = false
is_offered_as (Alone Timers) = false
is_offered_as (Alone Hbck) = false
is_offered_as (Alone Follow) = false
is_offered_as (Alone Takeover) = false

-- the same, of a spelling
abbrev pub is_offered : Spelling → Bool
is_offered said = is_offered_as said.keyword

-- who reads scripts: the program `run`, with these commands, and merges of two regions
abbrev pub offered : Reader
offered = record { program = Run; most_regions = 2; has = is_offered }

-- a command that is offered
abbrev pub IsOffered : Command → Type 0
IsOffered command = is_offered (spelling command) ≡ true
