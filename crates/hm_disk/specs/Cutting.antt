-- What contracts see of a disk that can be cut.
use Rattle.std.specs.Prelude.{◌≡◌, ◌⊎◌, ℕ, ◌<◌, min, Option, Some, None, IsSomeAnd}
use Rattle.hm_ports.specs.Faults.{raised}
use Rattle.hm_disk.specs.declared.cut.Arming.{Arming}
use Rattle.hm_disk.specs.declared.cut.Limit.{Limit}

-- the disk below, what it was told last, and how many changes and faults of its own there were
pub record CutView (D : Type 0) : Type 0 where
  pub inner : D
  pub arming : Arming
  pub changes : ℕ
  pub faults : ℕ

-- it is armed, and there were more changes than it lets pass
abbrev pub IsCut : Arming → ℕ → Type 0
IsCut arming changes = IsSomeAnd arming.limit (λ limit. limit.changes < changes)

-- how many of so many bytes a limit passes of the write that it cuts
abbrev pub passed_by : Option Limit → ℕ → ℕ
passed_by None count = 0
passed_by (Some limit) count = min limit.bytes count

-- and a disk that was told so
abbrev pub passed : Arming → ℕ → ℕ
passed arming count = passed_by arming.limit count

-- since it was told last it had faults of its own only if it is cut
abbrev pub IsOwed : Arming → ℕ → ℕ → Type 0
IsOwed arming changes faults = (faults ≡ arming.faults) ⊎ IsCut arming changes

-- a new one is disarmed
abbrev pub new_cut : {D : Type 0} → D → CutView D
new_cut inner = record { inner = inner; arming = record { limit = None; faults = 0 }; changes = 0; faults = 0 }

-- it passes so many changes from now on, and so many bytes of the next one
abbrev pub armed : {D : Type 0} → ℕ → ℕ → CutView D → CutView D
armed changes bytes d = record d { arming = record { limit = Some (record { changes = changes; bytes = bytes }); faults = d.faults }; changes = 0 }

-- it passes each call
abbrev pub disarmed : {D : Type 0} → CutView D → CutView D
disarmed d = record d { arming = record { limit = None; faults = d.faults } }

-- a fault of its own
abbrev pub stopped : {D : Type 0} → CutView D → CutView D
stopped d = record d { faults = raised d.faults }

-- one change more was asked for
abbrev pub after_change : {D : Type 0} → CutView D → CutView D
after_change d = record d { changes = raised d.changes }
