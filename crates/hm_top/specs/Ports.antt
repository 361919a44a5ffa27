-- What a call did with each of its ports: what it was handed and what it left, as far as the port tells.
use Rattle.std.specs.Prelude.{◌≡◌, ℕ, List}
use Rattle.hm_ports.specs.Faults.{Rose}
use Rattle.hm_ports.specs.declared.source.Source as Source
use Rattle.hm_ports.specs.declared.sink.Sink as Sink
use Rattle.hm_disk.specs.Called.{IsCalled}
use Rattle.hm_disk.specs.Disk.{LeavesOnly, LeavesThen}
use Rattle.hm_disk.specs.declared.disk.Disk as Disk
use Rattle.hm_log.specs.Opening.{IsUsed, OnlyReads}

-- a source: its bytes before and after, that a read failed, and that it is as handed in
pub record SourceUse : Type 1 where
  pub tells : Type 0
  pub before : List ℕ
  pub after : List ℕ
  pub failed : Type 0
  pub untouched : Type 0

-- what a call did with a source
abbrev pub source_use : {S : Type 0} → Source.Ghosts S → S → S → SourceUse
source_use source old new =
    record {
      tells = source.tells;
      before = source.left old;
      after = source.left new;
      failed = Rose (source.faults old) (source.faults new);
      untouched = new ≡ old;
    }

-- a sink: its bytes before and after, and that a write failed
pub record SinkUse : Type 1 where
  pub tells : Type 0
  pub before : List ℕ
  pub after : List ℕ
  pub failed : Type 0

-- what a call did with a sink
abbrev pub sink_use : {K : Type 0} → Sink.Ghosts K → K → K → SinkUse
sink_use sink old new =
    record {
      tells = sink.tells;
      before = sink.got old;
      after = sink.got new;
      failed = Rose (sink.faults old) (sink.faults new);
    }

-- stops of a disk: what one might leave before, may leave after, has left at each moment since, and up to some moment and then
pub record StopUse : Type 1 where
  pub before : List ℕ → Type 0
  pub after : List ℕ → Type 0
  pub leave_only : (List ℕ → Type 0) → Type 0
  pub leave_then : (List ℕ → Type 0) → (List ℕ → Type 0) → Type 0

-- what stops of a disk left through a call
abbrev pub stop_use : {D Setting : Type 0} → Disk.Ghosts D Setting → D → D → StopUse
stop_use disk old new =
    record {
      before = disk.image old;
      after = disk.image new;
      leave_only = LeavesOnly disk.moment disk.left_since old new;
      leave_then = LeavesThen disk.moment disk.left_since old new;
    }

-- a disk: its bytes before and after, its stops, that its counts didn't fall and its setting stays, that it counted so many changes at most, that a call failed,
-- that it was only read, that it is as handed in
pub record DiskUse : Type 1 where
  pub tells : Type 0
  pub before : List ℕ
  pub after : List ℕ
  pub stops : StopUse
  pub used : Type 0
  pub called : ℕ → Type 0
  pub failed : Type 0
  pub only_read : Type 0
  pub untouched : Type 0

-- what a call did with a disk
abbrev pub disk_use : {D Setting : Type 0} → Disk.Ghosts D Setting → D → D → DiskUse
disk_use disk old new =
    record {
      tells = disk.tells;
      before = disk.seen old;
      after = disk.seen new;
      stops = stop_use disk old new;
      used = IsUsed disk old new;
      called = λ most. IsCalled disk most old new;
      failed = Rose (disk.faults old) (disk.faults new);
      only_read = OnlyReads disk old new;
      untouched = new ≡ old;
    }
