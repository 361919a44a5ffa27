-- How commands are spelled: a keyword, and the values of the words after it.
use Rattle.std.specs.Prelude.{ℕ, Bool, Result, Ok, Err, List, [], ◌∷◌, ◌++◌, map}
use Rattle.std.specs.List.{flat_map}
use Rattle.hm_script.specs.declared.bad.Why.{Why}
use Rattle.hm_script.specs.declared.command.Command.{Command}
use Rattle.hm_script.specs.declared.command.Command.TheVariants as C
use Rattle.hm_script.specs.declared.command.Order.{Order}
use Rattle.hm_script.specs.declared.command.Order.TheVariants as O
use Rattle.hm_script.specs.declared.keyword.Keyword.{Keyword}
use Rattle.hm_script.specs.declared.keyword.Keyword.TheVariants.{Workers, OfNs, Create, OfTable, Modify, Split, Merge, Move, OfNumber, OfServer, Refuse, Backoff, Tick, Group, TableGroup, Procs, Cut, Old, Alone}
use Rattle.hm_script.specs.declared.keyword.NsWord.TheVariants.{Namespace, DropNamespace}
use Rattle.hm_script.specs.declared.keyword.TableWord.TheVariants.{Delete, Enable, Disable}
use Rattle.hm_script.specs.declared.keyword.NumberWord.TheVariants.{Abort, Step}
use Rattle.hm_script.specs.declared.keyword.ServerWord.TheVariants.{Server, Die, Expire, Drain, Undrain}
use Rattle.hm_script.specs.declared.keyword.LoneWord.TheVariants.{Settle, Lose, Repeat, Balance, Regions, Locks, Servers, Reopen, Roll, Timers, Hbck, Follow, Takeover}
use Rattle.hm_script.specs.Keywords.{keyword_text}
use Rattle.hm_script.specs.Memory.{needs_kept}
use Rattle.hm_script.specs.Shapes.{shape_of, read_needs}
use Rattle.hm_script.specs.Values.{Value, of_nonce, of_ns, of_table, of_region, of_key, of_server, of_number, of_storage, of_json, of_keyword, server_values, value_text}

pub record Spelling : Type 0 where
  pub keyword : Keyword
  pub values : List Value

-- how each order is spelled, as the command of the same name
abbrev pub order_spelling : Order → Spelling
order_spelling (O.Namespace nonce ns) = record { keyword = OfNs Namespace; values = of_nonce nonce ∷ of_ns ns ∷ [] }
order_spelling (O.DropNamespace nonce ns) = record { keyword = OfNs DropNamespace; values = of_nonce nonce ∷ of_ns ns ∷ [] }
order_spelling (O.Create nonce table keys) = record { keyword = Create; values = of_nonce nonce ∷ of_table table ∷ map of_key keys }
order_spelling (O.Delete nonce table) = record { keyword = OfTable Delete; values = of_nonce nonce ∷ of_table table ∷ [] }
order_spelling (O.Enable nonce table) = record { keyword = OfTable Enable; values = of_nonce nonce ∷ of_table table ∷ [] }
order_spelling (O.Disable nonce table) = record { keyword = OfTable Disable; values = of_nonce nonce ∷ of_table table ∷ [] }
order_spelling (O.Modify nonce table version) = record { keyword = Modify; values = of_nonce nonce ∷ of_table table ∷ of_number version ∷ [] }
order_spelling (O.Split nonce region key) = record { keyword = Split; values = of_nonce nonce ∷ of_region region ∷ of_key key ∷ [] }
order_spelling (O.Merge nonce regions) = record { keyword = Merge; values = of_nonce nonce ∷ map of_region regions }
order_spelling (O.Move nonce region to) = record { keyword = Move; values = of_nonce nonce ∷ of_region region ∷ server_values to }
order_spelling (O.Abort pid) = record { keyword = OfNumber Abort; values = of_number pid.0 ∷ [] }
order_spelling (O.Expire server) = record { keyword = OfServer Expire; values = of_server server ∷ [] }
order_spelling (O.Step count) = record { keyword = OfNumber Step; values = of_number count ∷ [] }

-- a spelling after the word `old`
abbrev pub old_spelling : Spelling → Spelling
old_spelling said = record { keyword = Old; values = of_keyword said.keyword ∷ said.values }

-- how each command is spelled
abbrev pub spelling : Command → Spelling
spelling (C.Workers count) = record { keyword = Workers; values = of_number count ∷ [] }
spelling (C.Namespace nonce ns) = record { keyword = OfNs Namespace; values = of_nonce nonce ∷ of_ns ns ∷ [] }
spelling (C.DropNamespace nonce ns) = record { keyword = OfNs DropNamespace; values = of_nonce nonce ∷ of_ns ns ∷ [] }
spelling (C.Create nonce table keys) = record { keyword = Create; values = of_nonce nonce ∷ of_table table ∷ map of_key keys }
spelling (C.Delete nonce table) = record { keyword = OfTable Delete; values = of_nonce nonce ∷ of_table table ∷ [] }
spelling (C.Enable nonce table) = record { keyword = OfTable Enable; values = of_nonce nonce ∷ of_table table ∷ [] }
spelling (C.Disable nonce table) = record { keyword = OfTable Disable; values = of_nonce nonce ∷ of_table table ∷ [] }
spelling (C.Modify nonce table version) = record { keyword = Modify; values = of_nonce nonce ∷ of_table table ∷ of_number version ∷ [] }
spelling (C.Split nonce region key) = record { keyword = Split; values = of_nonce nonce ∷ of_region region ∷ of_key key ∷ [] }
spelling (C.Merge nonce regions) = record { keyword = Merge; values = of_nonce nonce ∷ map of_region regions }
spelling (C.Move nonce region to) = record { keyword = Move; values = of_nonce nonce ∷ of_region region ∷ server_values to }
spelling (C.Abort pid) = record { keyword = OfNumber Abort; values = of_number pid.0 ∷ [] }
spelling (C.Server server) = record { keyword = OfServer Server; values = of_server server ∷ [] }
spelling (C.Die server) = record { keyword = OfServer Die; values = of_server server ∷ [] }
spelling (C.Expire server) = record { keyword = OfServer Expire; values = of_server server ∷ [] }
spelling (C.Drain server) = record { keyword = OfServer Drain; values = of_server server ∷ [] }
spelling (C.Undrain server) = record { keyword = OfServer Undrain; values = of_server server ∷ [] }
spelling (C.Refuse server count) = record { keyword = Refuse; values = of_server server ∷ of_number count ∷ [] }
spelling (C.RefuseStorage count) = record { keyword = Refuse; values = of_storage ∷ of_number count ∷ [] }
spelling (C.Step count) = record { keyword = OfNumber Step; values = of_number count ∷ [] }
spelling C.Settle = record { keyword = Alone Settle; values = [] }
spelling C.Lose = record { keyword = Alone Lose; values = [] }
spelling C.Repeat = record { keyword = Alone Repeat; values = [] }
spelling C.Balance = record { keyword = Alone Balance; values = [] }
spelling C.Procs = record { keyword = Procs; values = [] }
spelling C.ProcsJson = record { keyword = Procs; values = of_json ∷ [] }
spelling C.Regions = record { keyword = Alone Regions; values = [] }
spelling C.Locks = record { keyword = Alone Locks; values = [] }
spelling C.Servers = record { keyword = Alone Servers; values = [] }
spelling (C.Backoff ticks) = record { keyword = Backoff; values = of_number ticks ∷ [] }
spelling (C.Tick ticks) = record { keyword = Tick; values = of_number ticks ∷ [] }
spelling C.Timers = record { keyword = Alone Timers; values = [] }
spelling (C.Group name servers) = record { keyword = Group; values = of_ns name ∷ map of_server servers }
spelling (C.TableGroup table name) = record { keyword = TableGroup; values = of_table table ∷ of_ns name ∷ [] }
spelling C.Hbck = record { keyword = Alone Hbck; values = [] }
spelling C.Roll = record { keyword = Alone Roll; values = [] }
spelling (C.Cut changes bytes) = record { keyword = Cut; values = of_number changes ∷ of_number bytes ∷ [] }
spelling C.Reopen = record { keyword = Alone Reopen; values = [] }
spelling C.Follow = record { keyword = Alone Follow; values = [] }
spelling C.Takeover = record { keyword = Alone Takeover; values = [] }
spelling (C.Old order) = old_spelling (order_spelling order)

-- a keyword before values
abbrev pub spelled : Keyword → Result (List Value) Why → Result Spelling Why
spelled keyword (Ok values) = Ok (record { keyword = keyword; values = values })
spelled keyword (Err why) = Err why

-- a keyword and the words after it, but for `old`; a merge may have so many regions
abbrev pub read_plain : ℕ → Keyword → List (List ℕ) → Result Spelling Why
read_plain most keyword words = spelled keyword (read_needs (shape_of most keyword).needs (shape_of most keyword).rest words)

-- and where memory may run out
abbrev pub plain_kept : ℕ → Keyword → List (List ℕ) → Bool
plain_kept most keyword words = needs_kept (shape_of most keyword).needs (shape_of most keyword).rest words

-- a value after a space
abbrev pub behind_space : Value → List ℕ
behind_space value = 32 ∷ value_text value

-- the line that says a command
abbrev pub command_text : Command → List ℕ
command_text command = keyword_text (spelling command).keyword ++ flat_map behind_space (spelling command).values
