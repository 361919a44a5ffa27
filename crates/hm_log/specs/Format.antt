-- The bytes of a log, and the frames that they read as.
use Rattle.std.specs.Prelude.{◌≡◌, ◌≢◌, ◌⊎◌, ℕ, zero, suc, ◌+◌, ◌-◌, ◌<◌, ◌≤◌, List, [], ◌∷◌, ◌++◌, length, take, drop, slice_index, sum_by, All, if◌then◌else◌, ◌==◌}
use Rattle.std.specs.Int.{to_le_bytes, from_le_bytes, w32, w64}

-- HMASTERJ
abbrev pub magic : List ℕ
magic = 72 ∷ 77 ∷ 65 ∷ 83 ∷ 84 ∷ 69 ∷ 82 ∷ 74 ∷ []

-- what a log of version 2 begins with: the magic, its version and its selector
abbrev pub head : ℕ → ℕ → List ℕ
head version selector = magic ++ version ∷ selector ∷ []

-- these ten bytes as they are written: version 2, and a minus
abbrev pub header : List ℕ
header = head 2 45

-- a frame has 1 to 65,536 bytes
pub record IsFrame (frame : List ℕ) : Type 0 where
  pub some : 1 ≤ length frame
  pub most : length frame ≤ 65536

-- a length in four bytes, the lowest first
unfoldable pub size_bytes : ℕ → List ℕ
size_bytes n = to_le_bytes w32 n

-- a place in eight bytes, the lowest first
unfoldable pub place_bytes : ℕ → List ℕ
place_bytes n = to_le_bytes w64 n

-- eight bytes read as a place
unfoldable pub place_of : List ℕ → ℕ
place_of bytes = from_le_bytes w64 bytes

-- a frame as it stands after its open gate: its length and its bytes
abbrev pub laid : List ℕ → List ℕ
laid frame = size_bytes (length frame) ++ frame

-- open gates, each with its frame
abbrev pub spelled : List (List ℕ) → List ℕ
spelled [] = []
spelled (frame ∷ frames) = 43 ∷ laid frame ++ spelled frames

-- open gates with these frames and a closed gate, as it is written: a minus
abbrev pub image_of : List (List ℕ) → List ℕ
image_of frames = spelled frames ++ 45 ∷ []

-- the size of an image of these frames
abbrev pub image_size : List (List ℕ) → ℕ
image_size frames = 1 + sum_by (λ frame. length frame + 5) frames

-- the bytes of a log with these frames, as it is written
abbrev pub log_of : List (List ℕ) → List ℕ
log_of frames = header ++ image_of frames

-- the size of a log with these frames and nothing after its closed gate
abbrev pub size_with : List (List ℕ) → ℕ
size_with frames = 10 + image_size frames

-- version 1: the magic and the byte 1, and after them the body, where gates and frames stand
pub record IsFirst (bytes front body : List ℕ) : Type 0 where
  pub is : front ≡ magic ++ 1 ∷ []
  pub parts : bytes ≡ front ++ body

-- version 2, plain: the magic, a version that isn't 1, a selector that is no plus, and after them the body
pub record IsPlain (bytes front body : List ℕ) : Type 0 where
  pub version : ℕ
  pub selector : ℕ
  pub newer : version ≢ 1
  pub off : selector ≢ 43
  pub is : front ≡ head version selector
  pub parts : bytes ≡ front ++ body

-- Version 2, moved: the selector is a plus. The last eight bytes are the place of the body, and between the selector and
-- the body there is room for as many bytes as it has.
pub record IsMoved (bytes front body : List ℕ) : Type 0 where
  pub version : ℕ
  pub between : List ℕ
  pub place : List ℕ
  pub newer : version ≢ 1
  pub is : front ≡ head version 43 ++ between
  pub eight : length place ≡ 8
  pub at : place_of place ≡ length front
  pub some : 1 ≤ length body
  pub room : length body ≤ length between
  pub parts : bytes ≡ front ++ body ++ place

-- one of the two layouts in which the body goes on to the end
abbrev pub IsOpenEnded : List ℕ → List ℕ → List ℕ → Type 0
IsOpenEnded bytes front body = IsFirst bytes front body ⊎ IsPlain bytes front body

-- open gates with these frames up to a closed gate, and what follows it
pub record RunsTo (body : List ℕ) (frames : List (List ℕ)) (free : List ℕ) : Type 0 where
  pub gate : ℕ
  pub shut : gate ≢ 43
  pub spelling : body ≡ spelled frames ++ gate ∷ free
  pub each : All IsFrame frames

-- The bytes are a log with these frames. What follows the closed gate is free; in a moved log the body ends with it.
pub record Reads (bytes : List ℕ) (frames : List (List ℕ)) : Type 0 where
  pub front : List ℕ
  pub body : List ℕ
  pub free : List ℕ
  pub layout : IsOpenEnded bytes front body ⊎ (IsMoved bytes front body × (free ≡ []))
  pub runs : RunsTo body frames free

-- of size 0 it holds no frame, and otherwise those that it reads as
abbrev pub HoldsFrames : List ℕ → List (List ℕ) → Type 0
HoldsFrames bytes frames = ((length bytes ≡ 0) × (frames ≡ [])) ⊎ Reads bytes frames

-- it reads as these frames, or as these and one more
abbrev pub BeforeOrAfter : List (List ℕ) → List ℕ → List ℕ → Type 0
BeforeOrAfter frames frame bytes = Reads bytes frames ⊎ Reads bytes (frames ++ frame ∷ [])

-- it reads as the old frames, or as the new ones
abbrev pub OldOrNew : List (List ℕ) → List (List ℕ) → List ℕ → Type 0
OldOrNew old new bytes = Reads bytes old ⊎ Reads bytes new

-- four bytes read as a length
unfoldable pub size_of : List ℕ → ℕ
size_of bytes = from_le_bytes w32 (take 4 bytes)

-- after an open gate: fewer than 4 bytes, a length of 0 or above 65,536, or fewer bytes than the length and the next gate need
abbrev pub NoFrame : List ℕ → Type 0
NoFrame rest = (length rest < 4) ⊎ ((size_of rest ≡ 0) ⊎ ((65536 < size_of rest) ⊎ (length rest ≤ 4 + size_of rest)))

-- the gate at this place of a body, after these frames, is open and has no frame
pub record IsOpenBad (body : List ℕ) (place : ℕ) : Type 0 where
  pub frames : List (List ℕ)
  pub rest : List ℕ
  pub spelling : body ≡ spelled frames ++ 43 ∷ rest
  pub at : place ≡ length (spelled frames)
  pub each : All IsFrame frames
  pub none : NoFrame rest

-- the gate at this place of a body, after these frames, is closed, and bytes follow it
pub record IsShutEarly (body : List ℕ) (place : ℕ) : Type 0 where
  pub frames : List (List ℕ)
  pub free : List ℕ
  pub runs : RunsTo body frames free
  pub at : place ≡ length (spelled frames)
  pub some : 1 ≤ length free

-- the gate at this place is open and has no frame, or, in a moved log, it is closed and isn't the last byte of the body
pub record IsBadFrame (bytes : List ℕ) (place : ℕ) : Type 0 where
  pub front : List ℕ
  pub body : List ℕ
  pub within : ℕ
  pub at : place ≡ length front + within
  pub bad : (IsOpenEnded bytes front body × IsOpenBad body within) ⊎ (IsMoved bytes front body × (IsOpenBad body within ⊎ IsShutEarly body within))

-- the magic stands there, and after it another version than 1
pub record IsNewer (bytes : List ℕ) : Type 0 where
  pub begins : take 8 bytes ≡ magic
  pub newer : slice_index bytes 8 ≢ 1

-- the place that the last eight bytes are
abbrev pub told_place : List ℕ → ℕ
told_place bytes = place_of (drop (length bytes - 8) bytes)

-- no body stands at this place of so many bytes: it is below 11 or above the size less 9, or there is too little room before it
abbrev pub NoBody : ℕ → ℕ → Type 0
NoBody place size = (place < 11) ⊎ ((size < place + 9) ⊎ (place + place < size + 2))

-- a size of 1 to 9, the first byte of the magic that differs, or a size of 10 in version 2
abbrev pub NoHead : List ℕ → ℕ → Type 0
NoHead bytes place =
    ((1 ≤ length bytes) × (length bytes ≤ 9) × (place ≡ length bytes))
    ⊎ (((10 ≤ length bytes) × (place < 8) × (take place bytes ≡ take place magic) × (slice_index bytes place ≢ slice_index magic place))
    ⊎ ((length bytes ≡ 10) × (place ≡ 10) × IsNewer bytes))

-- a selector that is a plus, in version 2, where no body stands at the place that the last bytes are
pub record IsLost (bytes : List ℕ) (place : ℕ) : Type 0 where
  pub long : 11 ≤ length bytes
  pub at : place ≡ 9
  pub newer : IsNewer bytes
  pub plus : slice_index bytes 9 ≡ 43
  pub none : NoBody (told_place bytes) (length bytes)

-- the bytes are no log, which this place shows
abbrev pub IsNotALog : List ℕ → ℕ → Type 0
IsNotALog bytes place = NoHead bytes place ⊎ IsLost bytes place

-- the frames from a gate on, as far as so many steps go
unfoldable pub frames_from : ℕ → List ℕ → List (List ℕ)
frames_from zero bytes = []
frames_from (suc steps) [] = []
frames_from (suc steps) (gate ∷ rest) =
    if gate == 43 then take (size_of rest) (drop 4 rest) ∷ frames_from steps (drop (4 + size_of rest) rest) else []

-- the place of the first gate
unfoldable pub first_gate : List ℕ → ℕ
first_gate bytes = if slice_index bytes 8 == 1 then 9 else if slice_index bytes 9 == 43 then told_place bytes else 10

-- the frames that a log reads as: where it reads as any, these
unfoldable pub frames_of : List ℕ → List (List ℕ)
frames_of bytes = frames_from (length bytes) (drop (first_gate bytes) bytes)

-- a plain log of version 2 with these frames, whose closed gate is at this place, and nothing follows
pub record IsWhole (bytes : List ℕ) (at : ℕ) (frames : List (List ℕ)) : Type 0 where
  pub version : ℕ
  pub selector : ℕ
  pub gate : ℕ
  pub newer : version ≢ 1
  pub off : selector ≢ 43
  pub shut : gate ≢ 43
  pub spelling : bytes ≡ head version selector ++ spelled frames ++ gate ∷ []
  pub place : at ≡ length (head version selector ++ spelled frames)
  pub each : All IsFrame frames

-- the bytes are a plain log of version 2, and nothing stands after it
abbrev pub IsClean : List ℕ → Type 0
IsClean bytes = (at : ℕ) × (frames : List (List ℕ)) × IsWhole bytes at frames

-- where the frames end: at a closed gate, or at an open one that has no whole frame
abbrev pub IsEnd : List ℕ → Type 0
IsEnd [] = ⊥
IsEnd (gate ∷ rest) = (gate ≢ 43) ⊎ ((gate ≡ 43) × NoFrame rest)

-- a piece begins with open gates that have these frames, which end at this place of it
pub record BeginsWith (piece : List ℕ) (frames : List (List ℕ)) (place : ℕ) : Type 0 where
  pub end : List ℕ
  pub spelling : piece ≡ spelled frames ++ end
  pub at : place ≡ length (spelled frames)
  pub each : All IsFrame frames
  pub is : IsEnd end
