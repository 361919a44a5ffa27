-- A world: a master's journal, what it claims and sends, and what is outside.
use Rattle.std.specs.Prelude.{ℕ, ◌-◌, List, [], ◌∷◌, length, drop, map, Option, Some, None}
use Rattle.hm_names.specs.Server.{Server}
use Rattle.hm_data.specs.declared.call.Call.{Call}
use Rattle.hm_data.specs.declared.call.ReportMsg.{ReportMsg}
use Rattle.hm_data.specs.declared.entry.Entry.{Entry}
use Rattle.hm_model.specs.Storages.{Storage}
use Rattle.hm_model.specs.Fleet.{is_fenced}
use Rattle.hm_model.specs.Journal.{Past}
use Rattle.hm_model.specs.Layouts.{is_laid}
use Rattle.hm_model.specs.Rebase.{rebase}
use Rattle.hm_world_model.specs.Outside.{Outside, nobody}

-- why a master goes on no longer: its log failed, or is full
pub data Halt : Type 0 where
  LogFault : Halt
  JournalFull : Halt

-- a procedure that is being worked on, and the server that was picked for its step
pub record Claimed : Type 0 where
  pub pid : ℕ
  pub pick : Option Server

-- the journal, newest first; an entry that a fault may have left after it; how many entries are durable; who was claimed
-- since the master was opened, those too that have ended, but none whose last claim was given up before a first step; who is
-- claimed; calls on the wire and reports that wait, oldest first; what is outside; whether the master halted; and so many entries
-- of the journal the master's own has replaced by their image
pub record World : Type 0 where
  pub past : Past
  pub tail : Option Entry
  pub durable : ℕ
  pub taken : List ℕ
  pub claimed : List Claimed
  pub wire : List Call
  pub waiting : List ReportMsg
  pub outside : Outside
  pub halted : Option Halt
  pub rolled : Option ℕ

-- the journal with its tail
abbrev pub with_tail : Option Entry → Past → Past
with_tail None past = past
with_tail (Some entry) past = entry ∷ past

-- the journal of a world with its tail
abbrev pub whole : World → Past
whole w = with_tail w.tail w.past

-- the first k entries
abbrev pub first : ℕ → Past → Past
first k past = drop (length past - k) past

-- what no stop can take
abbrev pub durable_part : World → Past
durable_part w = first w.durable w.past

-- who is claimed
abbrev pub claimed_pids : World → List ℕ
claimed_pids w = map (λ claim. claim.pid) w.claimed

-- a journal with its first entries replaced by their image, where it was rolled
abbrev pub rebased_by : Option ℕ → Past → Past
rebased_by None past = past
rebased_by (Some r) past = rebase past r

-- the journal as the master has it
abbrev pub own : World → Past
own w = rebased_by w.rolled w.past

-- the storage with the fences and layouts that the reports of a journal, and a base at its beginning, show
abbrev pub shown_storage : Past → Storage
shown_storage past = record { answer = λ id. None; fenced = is_fenced past; laid = λ root. is_laid past root.0; refusals = 0 }

-- a master that opens a journal, with nobody outside
abbrev pub opened : Past → World
opened past = record {
  past = past;
  tail = None;
  durable = length past;
  taken = [];
  claimed = [];
  wire = [];
  waiting = [];
  outside = nobody (shown_storage past);
  halted = None;
  rolled = None;
}
