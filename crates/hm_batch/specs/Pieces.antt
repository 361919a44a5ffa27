-- Frames in pieces, each of which is written as one run.
use Rattle.std.specs.Prelude.{◌≡◌, ℕ, ◌+◌, ◌<◌, ◌≤◌, List, [], ◌∷◌, ◌++◌, length, sum_by, All, if◌then◌else◌, nat_le}
use Rattle.std.specs.List.{flat_map}
use Rattle.hm_log.specs.Format.{laid, spelled, IsFrame}

-- the bytes that a frame takes in a log: its own, its length and a gate
abbrev pub size_of_frame : List ℕ → ℕ
size_of_frame frame = length frame + 5

-- the bytes that frames take in a log
abbrev pub bytes_of : List (List ℕ) → ℕ
bytes_of frames = sum_by size_of_frame frames

-- the pieces of a first one that may still grow, and of the frames after it: as many of the next go to each as fit into 65,541 bytes
unfoldable pub grown : List (List ℕ) → List (List ℕ) → List (List (List ℕ))
grown piece [] = piece ∷ []
grown piece (frame ∷ frames) =
    if nat_le (bytes_of piece + size_of_frame frame) 65541 then grown (piece ++ frame ∷ []) frames else piece ∷ grown (frame ∷ []) frames

-- the pieces of frames
unfoldable pub pieces_of : List (List ℕ) → List (List (List ℕ))
pieces_of [] = []
pieces_of (frame ∷ frames) = grown (frame ∷ []) frames

-- the frames of pieces, in order
abbrev pub in_order : List (List (List ℕ)) → List (List ℕ)
in_order pieces = flat_map (λ piece. piece) pieces

-- one frame or more, each of a size that a log takes
abbrev pub IsPiece : List (List ℕ) → Type 0
IsPiece piece = (1 ≤ length piece) × All IsFrame piece

-- no piece has room for the first frame of the next
abbrev pub AreFull : List (List (List ℕ)) → Type 0
AreFull pieces = (front back : List (List (List ℕ))) (piece : List (List ℕ)) (frame : List ℕ) (frames : List (List ℕ)) →
    pieces ≡ front ++ piece ∷ (frame ∷ frames) ∷ back → 65541 < bytes_of piece + size_of_frame frame

-- a piece as it is written: its frames, with an open gate between two of them and a closed one at the end
abbrev pub run_of : List (List ℕ) → List ℕ
run_of [] = []
run_of (frame ∷ frames) = laid frame ++ (spelled frames ++ 45 ∷ [])

-- the runs of pieces, one after the other
abbrev pub runs_of : List (List (List ℕ)) → List ℕ
runs_of pieces = flat_map run_of pieces
