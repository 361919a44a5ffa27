-- What a recorder has recorded whose log may be out to be written, and what its calls do.
use Rattle.std.specs.Prelude.{◌≡◌, ◌≢◌, ◌⊎◌, ℕ, ◌+◌, List, [], ◌∷◌, ◌++◌, length, All, Bool, true, false, Option, Some, None, Result, Ok, Err, if◌then◌else◌, nat_le}
use Rattle.hm_data.specs.declared.entry.Entry.{Entry}
use Rattle.hm_entry.specs.Fits.{EntryFits}
use Rattle.hm_gate.specs.Gate.{Begins}
use Rattle.hm_hall.specs.Recording.{Passes, behind, bytes_of}
use Rattle.hm_hall.specs.declared.fault.Halt.{Halt}
use Rattle.hm_hall.specs.declared.fault.Halt.TheVariants as halt_is
use Rattle.hm_hall.specs.declared.fault.RecordFault.{RecordFault}
use Rattle.hm_hall.specs.declared.fault.RecordFault.TheVariants as fault_is
use Rattle.hm_lend.specs.Outs.{OutView}

-- the recorded entries, first the parts of a base where there is one, the one that is ready to be recorded, how many of those behind the
-- base are durable, with how many of them the log is out where it is, how many flushes wrote, what halted the recorder, and its two
-- marks
pub record Recording : Type 0 where
  pub entries : List Entry
  pub next : Option Entry
  pub durable : ℕ
  pub out : Option ℕ
  pub flushes : ℕ
  pub halted : Option Halt
  pub soft : ℕ
  pub hard : ℕ

-- the entry that is ready
abbrev pub next_of : Recording → Option Entry
next_of kept = kept.next

-- what halted it
abbrev pub halt_of : Recording → Option Halt
halt_of kept = kept.halted

-- with how many entries behind the base the log is out
abbrev pub out_of : Recording → Option ℕ
out_of kept = kept.out

-- the entries behind the base, from which places count
abbrev pub own_of : Recording → List Entry
own_of kept = behind kept.entries

-- each entry that it recorded has a spelling
abbrev pub AllFit : Recording → Type 0
AllFit kept = All EntryFits kept.entries

-- the same, with this entry ready
abbrev pub with_next : Recording → Entry → Recording
with_next kept entry = record kept { next = Some entry }

-- the recorder isn't halted, and the entry doesn't pass the hard mark
abbrev pub Accepts : Recording → Entry → Type 0
Accepts kept entry = (kept.halted ≡ None) × (Passes kept.hard kept.entries entry → ⊥)

-- the bytes, where they have reached the soft mark
abbrev pub full_at : Recording → Option ℕ
full_at kept = if nat_le kept.soft (bytes_of kept.entries) then Some (bytes_of kept.entries) else None

-- What recording an entry answers, its place behind the base, and what it leaves. It gathers the entry and touches no device, so no fault of the log
-- comes of it. Whether the recorder is halted is judged first, then whether the entry passes the hard mark.
abbrev pub Records : Recording → Entry → Result ℕ RecordFault → Recording → Type 0
Records old entry (Ok number) new =
    (old.halted ≡ None) × (Passes old.hard old.entries entry → ⊥) × (number ≡ length (own_of old)) × (new ≡ record old { entries = old.entries ++ entry ∷ []; next = None })
Records old entry (Err (fault_is.Halted why)) new = (old.halted ≡ Some why) × (new ≡ old)
Records old entry (Err (fault_is.JournalFull bytes)) new =
    (old.halted ≡ None) × Passes old.hard old.entries entry × (bytes ≡ bytes_of old.entries) × (new ≡ record old { next = None; halted = Some (halt_is.JournalFull bytes) })
Records old entry (Err fault_is.LogFault) new = ⊥

-- there is nothing to lend: all is durable, the log is out, or it failed
abbrev pub HasNone : Recording → Type 0
HasNone kept = (kept.durable ≡ length (own_of kept)) ⊎ ((kept.out ≢ None) ⊎ (kept.halted ≡ Some halt_is.LogFault))

-- what lending the log answers, and what it leaves: what was ready is forgotten, and the log is out with all entries
-- behind the base
abbrev pub Lends : {T : Type 0} → T → Recording → Option (OutView T) → Recording → Type 0
Lends terms old None new = HasNone old × (new ≡ old)
Lends terms old (Some out) new =
    (HasNone old → ⊥)
    × (new ≡ record old { next = None; out = Some (length (own_of old)) })
    × (out ≡ record { list = own_of old; durable = old.durable; terms = terms; written = false })

-- what bringing the log back answers, and what it leaves: what was lent is durable, or the log failed
abbrev pub Backs : {T : Type 0} → Recording → OutView T → Result ℕ RecordFault → Recording → Type 0
Backs old out (Ok number) new = (number ≡ length out.list) × (new ≡ record old { durable = number; flushes = old.flushes + 1; out = None })
Backs old out (Err fault_is.LogFault) new = new ≡ record old { halted = Some halt_is.LogFault; out = None }
Backs old out (Err fault) new = ⊥

-- what giving the log up answers, and what it leaves: it stays out, and comes only where it is in
abbrev pub GivesUp : Recording → Bool → Recording → Type 0
GivesUp old true new = (old.out ≡ None) × (new ≡ record old { next = None; out = Some (length (own_of old)) })
GivesUp old false new = (old.out ≢ None) × (new ≡ old)

-- a log may come back: it is the one that is out, with all that was recorded then, it was written, and it is of this recorder
pub record MayReturn {T : Type 0} (opened : T) (kept : Recording) (out : OutView T) : Type 0 where
  pub is_out : kept.out ≡ Some (length out.list)
  pub begins : Begins (own_of kept) out.list
  pub durable : out.durable ≡ kept.durable
  pub terms : out.terms ≡ opened
  pub written : out.written ≡ true
