-- The words that begin lines.
use Rattle.std.specs.Prelude.{ℕ, Option, List, find, codes}
use Rattle.std.specs.Str.{bytes_eq}
use Rattle.hm_script.specs.declared.keyword.Keyword.{Keyword}
use Rattle.hm_script.specs.declared.keyword.Keyword.TheVariants.{Workers, OfNs, Create, OfTable, Modify, Split, Merge, Move, OfNumber, OfServer, Refuse, Backoff, Tick, Group, TableGroup, Procs, Cut, Old, Alone}
use Rattle.hm_script.specs.declared.keyword.NsWord.TheVariants.{Namespace, DropNamespace}
use Rattle.hm_script.specs.declared.keyword.TableWord.TheVariants.{Delete, Enable, Disable}
use Rattle.hm_script.specs.declared.keyword.NumberWord.TheVariants.{Abort, Step}
use Rattle.hm_script.specs.declared.keyword.ServerWord.TheVariants.{Server, Die, Expire, Drain, Undrain}
use Rattle.hm_script.specs.declared.keyword.LoneWord.TheVariants.{Settle, Lose, Repeat, Balance, Regions, Locks, Servers, Reopen, Roll, Timers, Hbck, Follow, Takeover}
use Rattle.hm_script.specs.declared.keyword.TheConstants.{KEYWORDS}

-- the word of each keyword
abbrev pub keyword_text : Keyword → List ℕ
keyword_text Workers = codes "workers"
keyword_text (OfNs Namespace) = codes "namespace"
keyword_text (OfNs DropNamespace) = codes "drop-namespace"
keyword_text Create = codes "create"
keyword_text (OfTable Delete) = codes "delete"
keyword_text (OfTable Enable) = codes "enable"
keyword_text (OfTable Disable) = codes "disable"
keyword_text Modify = codes "modify"
keyword_text Split = codes "split"
keyword_text Merge = codes "merge"
keyword_text Move = codes "move"
keyword_text (OfNumber Abort) = codes "abort"
keyword_text (OfNumber Step) = codes "step"
keyword_text (OfServer Server) = codes "server"
keyword_text (OfServer Die) = codes "die"
keyword_text (OfServer Expire) = codes "expire"
keyword_text (OfServer Drain) = codes "drain"
keyword_text (OfServer Undrain) = codes "undrain"
keyword_text Refuse = codes "refuse"
keyword_text Backoff = codes "backoff"
keyword_text Tick = codes "tick"
keyword_text Group = codes "group"
keyword_text TableGroup = codes "table-group"
keyword_text Procs = codes "procs"
keyword_text Cut = codes "cut"
keyword_text Old = codes "old"
keyword_text (Alone Settle) = codes "settle"
keyword_text (Alone Lose) = codes "lose"
keyword_text (Alone Repeat) = codes "repeat"
keyword_text (Alone Balance) = codes "balance"
keyword_text (Alone Regions) = codes "regions"
keyword_text (Alone Locks) = codes "locks"
keyword_text (Alone Servers) = codes "servers"
keyword_text (Alone Reopen) = codes "reopen"
keyword_text (Alone Roll) = codes "roll"
keyword_text (Alone Timers) = codes "timers"
keyword_text (Alone Hbck) = codes "hbck"
keyword_text (Alone Follow) = codes "follow"
keyword_text (Alone Takeover) = codes "takeover"

-- the first of these keywords that a word is
abbrev pub keyword_in : List Keyword → List ℕ → Option Keyword
keyword_in keywords word = find (λ keyword. bytes_eq word (keyword_text keyword)) keywords

-- the keyword that a word is
unfoldable pub keyword_of : List ℕ → Option Keyword
keyword_of word = keyword_in KEYWORDS word
