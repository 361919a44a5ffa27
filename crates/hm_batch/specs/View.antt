-- What callers see of a batch, and what is kept of its fields.
use Rattle.std.specs.Prelude.{◌≡◌, ◌⊎◌, ℕ, ◌+◌, ◌-◌, ◌<◌, ◌≤◌, List, [], ◌∷◌, ◌++◌, length, map, take, drop, All}
use Rattle.hm_log.specs.Format.{frames_from}
use Rattle.hm_batch.specs.Pieces.{bytes_of, pieces_of, runs_of, IsPiece}
use Rattle.hm_batch.specs.declared.pieces.Piece.{Piece}

-- a batch: its frames in order, and for how many bytes and pieces in all room was made
pub record BatchView : Type 0 where
  pub frames : List (List ℕ)
  pub room : ℕ
  pub slots : ℕ

-- there is room for one frame more of so many bytes
abbrev pub HasRoomFor : ℕ → BatchView → Type 0
HasRoomFor bytes batch = (bytes_of batch.frames + bytes + 5 ≤ batch.room) × (length (pieces_of batch.frames) < batch.slots)

-- what is noted of a piece: how many bytes its run has, and how many frames
abbrev pub noted : List (List ℕ) → Piece
noted piece = record { bytes = bytes_of piece; frames = length piece }

-- the frames in the runs of pieces of which this is noted
abbrev pub frames_in : List Piece → List ℕ → List (List ℕ)
frames_in [] bytes = []
frames_in (piece ∷ pieces) bytes = frames_from (piece.frames + 1) (43 ∷ take piece.bytes bytes) ++ frames_in pieces (drop piece.bytes bytes)

-- these are the runs of some pieces, and what is noted of them
pub record AreLaid (notes : List Piece) (bytes : List ℕ) (pieces : List (List (List ℕ))) : Type 0 where
  pub notes_are : notes ≡ map noted pieces
  pub bytes_are : bytes ≡ runs_of pieces
  pub each : All IsPiece pieces

-- they are the pieces of the frames
abbrev pub IsBatch : List Piece → List ℕ → Type 0
IsBatch notes bytes = (frames : List (List ℕ)) × AreLaid notes bytes (pieces_of frames)

-- the last piece has room for so many bytes more: it is taken off the notes, and the gate at its end is opened
abbrev pub GrowsLast : ℕ → Piece → List Piece → List Piece → List ℕ → List ℕ → Type 0
GrowsLast size piece old_notes notes old_bytes bytes =
    (old_notes ≡ notes ++ piece ∷ []) × (piece.bytes + size ≤ 65541) × (bytes ≡ take (length old_bytes - 1) old_bytes ++ 43 ∷ [])

-- no piece has that room: nothing is changed, and a piece without a frame begins
abbrev pub GrowsNone : ℕ → Piece → List Piece → List Piece → List ℕ → List ℕ → Type 0
GrowsNone size piece old_notes notes old_bytes bytes =
    (piece ≡ record { bytes = 0; frames = 0 }) × (notes ≡ old_notes) × (bytes ≡ old_bytes)
    × ((front : List Piece) (last : Piece) → old_notes ≡ front ++ last ∷ [] → 65541 < last.bytes + size)

-- one of the two
abbrev pub Grows : ℕ → Piece → List Piece → List Piece → List ℕ → List ℕ → Type 0
Grows size piece old_notes notes old_bytes bytes = GrowsLast size piece old_notes notes old_bytes bytes ⊎ GrowsNone size piece old_notes notes old_bytes bytes
