-- What a stop leaves by choice.
use Rattle.std.specs.Prelude.{ℕ, List}
use Rattle.hm_disk.specs.Memory.{filled}
use Rattle.hm_disk.specs.declared.memory.Choice.{Choice}
use Rattle.hm_disk.specs.declared.memory.Choice.TheVariants.{Synced, AsRead, Fill}

-- the content of the last sync, what a read gives, or that with each byte that isn't synced replaced
abbrev pub chosen : Choice → List ℕ → List ℕ → List ℕ → List ℕ
chosen Synced bytes synced dirty = synced
chosen AsRead bytes synced dirty = bytes
chosen (Fill byte) bytes synced dirty = filled byte dirty bytes
