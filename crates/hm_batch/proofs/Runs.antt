-- Pieces as they are written, and how they are read back.
use Rattle.std.proofs.Common.{◌≡◌, ℕ, ◌+◌, ◌-◌, ◌≤◌, List, [], ◌∷◌, ◌++◌, length, take, drop, map, refl, sym, ◌∙◌, ap, arith, append_assoc, length-append}
use Rattle.std.proofs.lemmas.List.{append-nil, take_at, drop_at}
use Rattle.std.proofs.lemmas.List.Elements.{All-head, All-tail}
use Rattle.std.proofs.lemmas.List.Sums.{sum_by-cons}
use Rattle.std.proofs.lemmas.Grind.{flat_map-append}
use Rattle.std.specs.Prelude.{All}
use Rattle.hm_log.specs.Format.{laid, spelled, frames_from}
use Rattle.hm_log.specs.Run.{IsRun}
use Rattle.hm_log.proofs.Spelling.{length-spelled, spelled-push}
use Rattle.hm_log.proofs.Listed.{frames_from-spelled}
use Rattle.hm_batch.specs.Pieces.{size_of_frame, bytes_of, in_order, pieces_of, run_of, runs_of, IsPiece}
use Rattle.hm_batch.specs.View.{noted, frames_in, AreLaid}
use Rattle.hm_batch.specs.declared.pieces.Piece.{Piece}
use Rattle.hm_batch.proofs.Gathering.{bytes_of-push, in_order-pieces_of}

-- a run after an open gate is the frames with theirs, and a closed gate
pub run_spelling : (piece : List (List ℕ)) → 1 ≤ length piece → 43 ∷ run_of piece ≡ spelled piece ++ 45 ∷ []
run_spelling [] some = absurd (omega arith)
run_spelling (frame ∷ frames) some = ap (λ (l : List ℕ). 43 ∷ l) (sym (append_assoc (laid frame) (spelled frames) (45 ∷ [])))

pub run_is : (piece : List (List ℕ)) → IsPiece piece → IsRun (run_of piece) piece
run_is piece is = record { some = is.0; each = is.1; spelling = run_spelling piece is.0 }

pub length-run_of : (piece : List (List ℕ)) → 1 ≤ length piece → length (run_of piece) ≡ bytes_of piece
length-run_of piece some = omega (arith, ap length (run_spelling piece some), length-append (spelled piece) (45 ∷ []), length-spelled piece)

-- the same without its closed gate
pub open_run : (piece : List (List ℕ)) → 1 ≤ length piece → (front : List ℕ) × (run_of piece ≡ front ++ 45 ∷ []) × ((frame : List ℕ) → run_of (piece ++ frame ∷ []) ≡ front ++ 43 ∷ [] ++ laid frame ++ 45 ∷ [])
open_run [] some = absurd (omega arith)
open_run (first ∷ piece) some = (
  laid first ++ spelled piece,
  sym (append_assoc (laid first) (spelled piece) (45 ∷ [])),
  λ frame.
      ap (λ (l : List ℕ). laid first ++ l) (spelled-push piece frame (45 ∷ []))
      ∙ sym (append_assoc (laid first) (spelled piece) (43 ∷ (laid frame ++ 45 ∷ [])))
      ∙ sym (append_assoc (laid first ++ spelled piece) (43 ∷ []) (laid frame ++ 45 ∷ []))
      ∙ sym (append_assoc (laid first ++ spelled piece ++ 43 ∷ []) (laid frame) (45 ∷ [])),
)

runs_one : (piece : List (List ℕ)) → runs_of (piece ∷ []) ≡ run_of piece
runs_one piece = append-nil (run_of piece)

pub runs_push : (front : List (List (List ℕ))) (piece : List (List ℕ)) → runs_of (front ++ piece ∷ []) ≡ runs_of front ++ run_of piece
runs_push front piece = flat_map-append run_of front (piece ∷ []) ∙ ap (λ (l : List ℕ). runs_of front ++ l) (runs_one piece)

-- a frame more in the last piece: its last gate is opened
pub runs_grow : (front : List (List (List ℕ))) (last : List (List ℕ)) (frame bytes : List ℕ) → 1 ≤ length last → bytes ≡ runs_of (front ++ last ∷ [])
    → take (length bytes - 1) bytes ++ 43 ∷ [] ++ laid frame ++ 45 ∷ [] ≡ runs_of (front ++ (last ++ frame ∷ []) ∷ [])
runs_grow front last frame bytes some is =
    let split = open_run last some in
    let whole : bytes ≡ runs_of front ++ split.0 ++ 45 ∷ [] = is ∙ runs_push front last ∙ ap (λ (l : List ℕ). runs_of front ++ l) split.1 ∙ sym (append_assoc (runs_of front) split.0 (45 ∷ [])) in
    let long : length (runs_of front ++ split.0) ≡ length bytes - 1 = omega (arith, ap length whole, length-append (runs_of front ++ split.0) (45 ∷ [])) in
    let kept : take (length bytes - 1) bytes ≡ runs_of front ++ split.0 = ap (λ (l : List ℕ). take (length bytes - 1) l) whole ∙ take_at (runs_of front ++ split.0) (45 ∷ []) (length bytes - 1) long in
    ap (λ (l : List ℕ). l ++ 43 ∷ [] ++ laid frame ++ 45 ∷ []) kept
    ∙ ap (λ (l : List ℕ). l ++ laid frame ++ 45 ∷ []) (append_assoc (runs_of front) split.0 (43 ∷ []))
    ∙ ap (λ (l : List ℕ). l ++ 45 ∷ []) (append_assoc (runs_of front) (split.0 ++ 43 ∷ []) (laid frame))
    ∙ append_assoc (runs_of front) (split.0 ++ 43 ∷ [] ++ laid frame) (45 ∷ [])
    ∙ ap (λ (l : List ℕ). runs_of front ++ l) (sym (split.2 frame))
    ∙ sym (runs_push front (last ++ frame ∷ []))

-- a frame more in a piece of its own
pub runs_begin : (pieces : List (List (List ℕ))) (frame bytes : List ℕ) → bytes ≡ runs_of pieces → bytes ++ laid frame ++ 45 ∷ [] ≡ runs_of (pieces ++ (frame ∷ []) ∷ [])
runs_begin pieces frame bytes is =
    ap (λ (l : List ℕ). l ++ laid frame ++ 45 ∷ []) is
    ∙ append_assoc (runs_of pieces) (laid frame) (45 ∷ [])
    ∙ sym (runs_push pieces (frame ∷ []))

-- what is noted of a piece with a frame more
pub noted_more : (piece : List (List ℕ)) (frame : List ℕ) → noted (piece ++ frame ∷ []) ≡ record { bytes = bytes_of piece + size_of_frame frame; frames = length piece + 1 }
noted_more piece frame =
    let long : length (piece ++ frame ∷ []) ≡ length piece + 1 = omega (arith, length-append piece (frame ∷ [])) in
    λ i. record { bytes = bytes_of-push piece frame i; frames = long i }

-- the frames are read back
pub read_back : (pieces : List (List (List ℕ))) → All IsPiece pieces → frames_in (map noted pieces) (runs_of pieces) ≡ in_order pieces
read_back [] each = refl
read_back (piece ∷ pieces) each =
    let is = All-head IsPiece piece pieces each in
    let size = length-run_of piece is.0 in
    let run : take (bytes_of piece) (runs_of (piece ∷ pieces)) ≡ run_of piece = take_at (run_of piece) (runs_of pieces) (bytes_of piece) size in
    let others : drop (bytes_of piece) (runs_of (piece ∷ pieces)) ≡ runs_of pieces = drop_at (run_of piece) (runs_of pieces) (bytes_of piece) size in
    let spelling : 43 ∷ take (bytes_of piece) (runs_of (piece ∷ pieces)) ≡ spelled piece ++ 45 ∷ [] = ap (λ (l : List ℕ). 43 ∷ l) run ∙ run_spelling piece is.0 in
    let first : frames_from (length piece + 1) (43 ∷ take (bytes_of piece) (runs_of (piece ∷ pieces))) ≡ piece = ap (λ (l : List ℕ). frames_from (length piece + 1) l) spelling ∙ frames_from-spelled piece (length piece + 1) 45 [] (omega arith) is.1 (omega arith) in
    let rest : frames_in (map noted pieces) (drop (bytes_of piece) (runs_of (piece ∷ pieces))) ≡ in_order pieces = ap (λ (l : List ℕ). frames_in (map noted pieces) l) others ∙ read_back pieces (All-tail IsPiece piece pieces each) in
    λ i. first i ++ rest i

-- the frames of a batch
pub frames_are : (notes : List Piece) (bytes : List ℕ) (frames : List (List ℕ)) → AreLaid notes bytes (pieces_of frames) → frames_in notes bytes ≡ frames
frames_are notes bytes frames laid =
    ap (λ (n : List Piece). frames_in n bytes) laid.notes_are
    ∙ ap (λ (b : List ℕ). frames_in (map noted (pieces_of frames)) b) laid.bytes_are
    ∙ read_back (pieces_of frames) laid.each
    ∙ in_order-pieces_of frames

-- how many bytes all runs have
pub length-runs_of : (pieces : List (List (List ℕ))) → All IsPiece pieces → length (runs_of pieces) ≡ bytes_of (in_order pieces)
length-runs_of [] each = refl
length-runs_of (piece ∷ pieces) each =
    omega (arith, length-append (run_of piece) (runs_of pieces), length-run_of piece (All-head IsPiece piece pieces each).0, length-runs_of pieces (All-tail IsPiece piece pieces each), bytes_of-append piece (in_order pieces))
  where
    bytes_of-append : (first others : List (List ℕ)) → bytes_of (first ++ others) ≡ bytes_of first + bytes_of others
    bytes_of-append [] others = omega arith
    bytes_of-append (f ∷ first) others = omega (arith, sum_by-cons size_of_frame f (first ++ others), sum_by-cons size_of_frame f first, bytes_of-append first others)
