-- One frame more in a batch.
use Rattle.std.proofs.Common.{◌≡◌, inl, inr, ℕ, ◌+◌, ◌≤◌, List, [], ◌∷◌, ◌++◌, length, take, map, refl, sym, ◌∙◌, ap, subst, arith, length-append}
use Rattle.std.proofs.lemmas.List.{take_at, get_or_push, map-append, length-map}
use Rattle.std.proofs.lemmas.List.Elements.{All-push, All-pop, All-cons, All-nil}
use Rattle.std.proofs.lemmas.List.Sums.{sum_by-cons}
use Rattle.std.specs.Prelude.{All, get_or, Some}
use Rattle.hm_log.specs.Format.{laid, IsFrame}
use Rattle.hm_batch.specs.Pieces.{size_of_frame, bytes_of, pieces_of, run_of, runs_of, IsPiece}
use Rattle.hm_batch.specs.View.{noted, frames_in, AreLaid, GrowsLast, GrowsNone, Grows}
use Rattle.hm_batch.specs.declared.pieces.Piece.{Piece}
use Rattle.hm_batch.proofs.Gathering.{Ends, pieces_ends, bytes_of-push, in_order-pieces_of}
use Rattle.hm_batch.proofs.Runs.{length-run_of, length-runs_of, runs_push, runs_grow, runs_begin, frames_are}

-- two lists with an element at the end
front_same : {X : Type 0} (xs ys : List X) (x y : X) → xs ++ x ∷ [] ≡ ys ++ y ∷ [] → xs ≡ ys
front_same xs ys x y is =
    let long : length ys ≡ length xs = omega (arith, ap length is, length-append xs (x ∷ []), length-append ys (y ∷ [])) in
    sym (take_at xs (x ∷ []) (length xs) refl) ∙ ap (λ (l : List _). take (length xs) l) is ∙ take_at ys (y ∷ []) (length xs) long

last_same : {X : Type 0} (xs ys : List X) (x y : X) → xs ++ x ∷ [] ≡ ys ++ y ∷ [] → x ≡ y
last_same xs ys x y is =
    let long : length ys ≡ length xs = omega (arith, ap length is, length-append xs (x ∷ []), length-append ys (y ∷ [])) in
    sym (get_or_push xs x x (length xs) refl) ∙ ap (λ (l : List _). get_or l (length xs) x) is ∙ get_or_push ys y x (length xs) long

same_note : (a b : Piece) → a.bytes ≡ b.bytes → a.frames ≡ b.frames → a ≡ b
same_note a b bytes frames = λ i. record { bytes = bytes i; frames = frames i }

-- no more frames than bytes
fewer : (piece : List (List ℕ)) → length piece ≤ bytes_of piece
fewer [] = omega arith
fewer (frame ∷ piece) = omega (arith, fewer piece, sum_by-cons size_of_frame frame piece)

-- the same notes and bytes
pub laid_as : (notes new_notes : List Piece) (bytes new_bytes : List ℕ) (pieces : List (List (List ℕ))) → new_notes ≡ notes → new_bytes ≡ bytes → AreLaid notes bytes pieces → AreLaid new_notes new_bytes pieces
laid_as notes new_notes bytes new_bytes pieces same_notes same_bytes laid_is = record { notes_are = same_notes ∙ laid_is.notes_are; bytes_are = same_bytes ∙ laid_is.bytes_are; each = laid_is.each }

module _ (notes : List Piece) (bytes : List ℕ) (frames : List (List ℕ)) (laid_is : AreLaid notes bytes (pieces_of frames)) where
  -- how many notes and bytes there are
  pub note_count : length notes ≡ length (pieces_of (frames_in notes bytes))
  note_count = ap length laid_is.notes_are ∙ length-map (pieces_of frames) noted ∙ ap (λ (fs : List (List ℕ)). length (pieces_of fs)) (sym (frames_are notes bytes frames laid_is))

  pub byte_count : length bytes ≡ bytes_of (frames_in notes bytes)
  byte_count =
      ap length laid_is.bytes_are
      ∙ length-runs_of (pieces_of frames) laid_is.each
      ∙ ap bytes_of (in_order-pieces_of frames ∙ sym (frames_are notes bytes frames laid_is))

  -- where there is a last note, the last piece
  record LastPiece (front : List Piece) (last : Piece) : Type 0 where
    ends : Ends (pieces_of frames) (λ frame. pieces_of (frames ++ frame ∷ []))
    front_is : front ≡ map noted ends.front
    last_is : last ≡ noted ends.last
    good : All IsPiece ends.front × IsPiece ends.last

  last_piece : (front : List Piece) (last : Piece) → notes ≡ front ++ last ∷ [] → LastPiece front last
  last_piece front last is = elim (pieces_ends frames) [
    | inl none ↦ absurd (omega (arith, ap length is, length-append front (last ∷ []), ap length laid_is.notes_are, length-map (pieces_of frames) noted, ap length none.0))
    | inr ends ↦
        let both : front ++ last ∷ [] ≡ map noted ends.front ++ noted ends.last ∷ [] = sym is ∙ laid_is.notes_are ∙ ap (λ (ps : List (List (List ℕ))). map noted ps) ends.is ∙ map-append noted ends.front (ends.last ∷ []) in
        record {
          ends = ends;
          front_is = front_same front (map noted ends.front) last (noted ends.last) both;
          last_is = last_same front (map noted ends.front) last (noted ends.last) both;
          good = All-pop IsPiece (pieces_of frames) ends.front (Some ends.last) ends.is laid_is.each;
        }
  ]

  -- it has bytes
  pub some_bytes : (last : Piece) (front : List Piece) → notes ≡ front ++ last ∷ [] → 1 ≤ length bytes
  some_bytes last front is =
      let at = last_piece front last is in
      let whole : bytes ≡ runs_of at.ends.front ++ run_of at.ends.last = laid_is.bytes_are ∙ ap runs_of at.ends.is ∙ runs_push at.ends.front at.ends.last in
      omega (arith, ap length whole, length-append (runs_of at.ends.front) (run_of at.ends.last), length-run_of at.ends.last at.good.1.0, fewer at.ends.last, at.good.1.0)

  module _ (size : ℕ) (piece : Piece) (mid_notes : List Piece) (mid_bytes : List ℕ) (grows : Grows size piece notes mid_notes bytes mid_bytes) where
    -- its count fits
    pub few_frames : piece.frames ≤ 65541
    few_frames = elim grows [
      | inl in_last ↦
          let at = last_piece mid_notes piece in_last.0 in
          omega (arith, in_last.1, fewer at.ends.last, ap (λ (n : Piece). n.bytes) at.last_is, ap (λ (n : Piece). n.frames) at.last_is)
      | inr in_none ↦ omega (arith, ap (λ (n : Piece). n.frames) in_none.0)
    ]

    pub no_more_notes : length mid_notes ≤ length notes
    no_more_notes = elim grows [
      | inl in_last ↦ omega (arith, ap length in_last.0, length-append mid_notes (piece ∷ []))
      | inr in_none ↦ omega (arith, ap length in_none.1)
    ]

    module _ (frame : List ℕ) (fits : IsFrame frame) (size_is : size ≡ size_of_frame frame) (note : Piece) (note_bytes : note.bytes ≡ piece.bytes + size) (note_frames : note.frames ≡ piece.frames + 1) where
      in_the_last : GrowsLast size piece notes mid_notes bytes mid_bytes → AreLaid (mid_notes ++ note ∷ []) (mid_bytes ++ laid frame ++ 45 ∷ []) (pieces_of (frames ++ frame ∷ []))
      in_the_last in_last =
          let at = last_piece mid_notes piece in_last.0 in
          let more : List (List ℕ) = at.ends.last ++ frame ∷ [] in
          let pieces_are : pieces_of (frames ++ frame ∷ []) ≡ at.ends.front ++ more ∷ [] = at.ends.joins frame (omega (arith, in_last.1, size_is, ap (λ (n : Piece). n.bytes) at.last_is)) in
          let note_is : note ≡ noted more = same_note note (noted more)
          (omega (arith, note_bytes, size_is, bytes_of-push at.ends.last frame, ap (λ (n : Piece). n.bytes) at.last_is))
          (omega (arith, note_frames, length-append at.ends.last (frame ∷ []), ap (λ (n : Piece). n.frames) at.last_is)) in
          record {
            notes_are = (λ i. at.front_is i ++ note_is i ∷ []) ∙ sym (map-append noted at.ends.front (more ∷ [])) ∙ ap (λ (ps : List (List (List ℕ))). map noted ps) (sym pieces_are);
            bytes_are = ap (λ (l : List ℕ). l ++ laid frame ++ 45 ∷ []) in_last.2 ∙ runs_grow at.ends.front at.ends.last frame bytes at.good.1.0 (laid_is.bytes_are ∙ ap runs_of at.ends.is) ∙ ap runs_of (sym pieces_are);
            each = subst (All IsPiece) (sym pieces_are) (All-push IsPiece at.ends.front more at.good.0 (omega (arith, length-append at.ends.last (frame ∷ [])), All-push IsFrame at.ends.last frame at.good.1.1 fits));
          }

      in_a_new_one : GrowsNone size piece notes mid_notes bytes mid_bytes → AreLaid (mid_notes ++ note ∷ []) (mid_bytes ++ laid frame ++ 45 ∷ []) (pieces_of (frames ++ frame ∷ []))
      in_a_new_one in_none =
          let pieces_are : pieces_of (frames ++ frame ∷ []) ≡ pieces_of frames ++ (frame ∷ []) ∷ [] = elim (pieces_ends frames) [
            | inl none ↦ none.1 frame ∙ ap (λ (ps : List (List (List ℕ))). ps ++ (frame ∷ []) ∷ []) (sym none.0)
            | inr ends ↦
                let notes_are : notes ≡ map noted ends.front ++ noted ends.last ∷ [] = laid_is.notes_are ∙ ap (λ (ps : List (List (List ℕ))). map noted ps) ends.is ∙ map-append noted ends.front (ends.last ∷ []) in
                ends.begins frame (omega (arith, in_none.3 (map noted ends.front) (noted ends.last) notes_are, size_is))
          ] in
          let note_is : note ≡ noted (frame ∷ []) = same_note note (noted (frame ∷ []))
          (omega (arith, note_bytes, size_is, sum_by-cons size_of_frame frame [], ap (λ (n : Piece). n.bytes) in_none.0))
          (omega (arith, note_frames, ap (λ (n : Piece). n.frames) in_none.0)) in
          record {
            notes_are = (λ i. (in_none.1 ∙ laid_is.notes_are) i ++ note_is i ∷ []) ∙ sym (map-append noted (pieces_of frames) ((frame ∷ []) ∷ [])) ∙ ap (λ (ps : List (List (List ℕ))). map noted ps) (sym pieces_are);
            bytes_are = runs_begin (pieces_of frames) frame mid_bytes (in_none.2 ∙ laid_is.bytes_are) ∙ ap runs_of (sym pieces_are);
            each = subst (All IsPiece) (sym pieces_are) (All-push IsPiece (pieces_of frames) (frame ∷ []) laid_is.each (omega arith, All-cons IsFrame frame [] fits (All-nil IsFrame)));
          }

      -- the notes and the bytes are those of one frame more
      pub grown_by : AreLaid (mid_notes ++ note ∷ []) (mid_bytes ++ laid frame ++ 45 ∷ []) (pieces_of (frames ++ frame ∷ []))
      grown_by = elim grows [ inl in_last ↦ in_the_last in_last | inr in_none ↦ in_a_new_one in_none ]
