-- What an opening leaves of the disk that it was handed.
use Rattle.std.specs.Prelude.{◌≡◌, ◌⊎◌, ℕ, ◌≤◌, List, [], length}
use Rattle.hm_disk.specs.declared.disk.Disk as Disk
use Rattle.hm_disk.specs.Called.{IsCalled}
use Rattle.hm_disk.specs.Disk.{Torn, LeavesOnly}
use Rattle.hm_log.specs.Format.{IsFirst, IsPlain, RunsTo, Reads}

-- the old is a log, and the new reads as the same frames
pub record ReadsAlike (old new : List ℕ) : Type 0 where
  pub frames : List (List ℕ)
  pub was : Reads old frames
  pub stays : (others : List (List ℕ)) → Reads old others → Reads new others

-- a log of version 1 without frames
pub record IsFirstEmpty (bytes : List ℕ) : Type 0 where
  pub front : List ℕ
  pub body : List ℕ
  pub free : List ℕ
  pub first : IsFirst bytes front body
  pub runs : RunsTo body [] free

-- nothing is there yet: the size is 0, or it is a log of version 1 without frames
abbrev pub IsBlank : List ℕ → Type 0
IsBlank bytes = (length bytes ≡ 0) ⊎ IsFirstEmpty bytes

-- nothing was there, and the eleven bytes of a new log are being written
abbrev pub IsMaking : List ℕ → List ℕ → Type 0
IsMaking old new = IsBlank old × Torn 0 11 [] new

-- it reads as the same frames, or is being made
abbrev pub Reopens : List ℕ → List ℕ → Type 0
Reopens old new = ReadsAlike old new ⊎ IsMaking old new

-- what a stop leaves while a file is made a log of version 2: where nothing was there, the file or a log in the making, and
-- else the same frames
abbrev pub Settles : {D : Type 0} → (D → ℕ) → (D → ℕ → List ℕ → Type 0) → List ℕ → List (List ℕ) → D → D → Type 0
Settles moment left_since file frames old new =
    (IsBlank file × LeavesOnly moment left_since old new (λ c. (c ≡ file) ⊎ IsMaking file c))
    ⊎ (Reads file frames × LeavesOnly moment left_since old new (λ c. Reads c frames))

-- an opening needn't move it: the size is 0, or it begins as a plain log of version 2
abbrev pub IsInPlace : List ℕ → Type 0
IsInPlace bytes = (length bytes ≡ 0) ⊎ ((front : List ℕ) × (body : List ℕ) × IsPlain bytes front body)

-- the faults and the count of changes don't fall, and the setting stays
pub record IsUsed {D Setting : Type 0} (disk : Disk.Ghosts D Setting) (old new : D) : Type 0 where
  pub fault : disk.faults old ≤ disk.faults new
  pub later : disk.changes old ≤ disk.changes new
  pub setting : disk.setting new ≡ disk.setting old

-- nothing was changed: it reads as before, each image is one from before, and the count of changes is the same
pub record IsUntouched {D : Type 0} (seen : D → List ℕ) (image : D → List ℕ → Type 0) (changes : D → ℕ) (old new : D) : Type 0 where
  pub reads : seen new ≡ seen old
  pub images : (c : List ℕ) → image new c → image old c
  pub count : changes new ≡ changes old

-- nothing was changed, and a stop leaves what it might have left before
pub record ChangesNothing {D Setting : Type 0} (disk : Disk.Ghosts D Setting) (old new : D) : Type 0 where
  pub untouched : IsUntouched disk.seen disk.image disk.changes old new
  pub leaves : LeavesOnly disk.moment disk.left_since old new (disk.image old)
  pub called : IsCalled disk 0 old new

-- the disk was only read: nothing was changed, each image from before is still one, and it is the same moment
pub record OnlyReads {D Setting : Type 0} (disk : Disk.Ghosts D Setting) (old new : D) : Type 0 where
  pub untouched : IsUntouched disk.seen disk.image disk.changes old new
  pub stays : (c : List ℕ) → disk.image old c → disk.image new c
  pub moment : disk.moment new ≡ disk.moment old
  pub leaves : LeavesOnly disk.moment disk.left_since old new (disk.image old)
  pub called : IsCalled disk 0 old new
