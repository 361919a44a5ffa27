-- How frames gather in pieces.
use Rattle.std.proofs.Common.{◌≡◌, ◌⊎◌, inl, inr, ℕ, ◌+◌, ◌<◌, ◌≤◌, List, [], ◌∷◌, ◌++◌, refl, sym, ◌∙◌, ap, subst, arith, append_assoc, length-append}
use Rattle.std.proofs.lemmas.List.Elements.{All-nil, All-cons, All-push, All-head, All-tail}
use Rattle.std.proofs.lemmas.List.Sums.{sum_by-cons}
use Rattle.std.proofs.lemmas.Bool.{cases_lt}
use Rattle.std.proofs.lemmas.Bool.Decides.{nat_tests}
use Rattle.std.specs.Prelude.{All}
use Rattle.hm_log.specs.Format.{IsFrame}
use Rattle.hm_batch.specs.Pieces.{size_of_frame, bytes_of, grown, pieces_of, in_order, IsPiece, AreFull}

-- a frame that fits goes to the piece
pub grown_joins : (piece : List (List ℕ)) (frame : List ℕ) (frames : List (List ℕ)) → bytes_of piece + size_of_frame frame ≤ 65541 → grown piece (frame ∷ frames) ≡ grown (piece ++ frame ∷ []) frames
unfolding grown
grown_joins piece frame frames fits = grind (arith, nat_tests)

-- one that doesn't begins the next
pub grown_begins : (piece : List (List ℕ)) (frame : List ℕ) (frames : List (List ℕ)) → 65541 < bytes_of piece + size_of_frame frame → grown piece (frame ∷ frames) ≡ piece ∷ grown (frame ∷ []) frames
unfolding grown
grown_begins piece frame frames over = grind (arith, nat_tests)

pub grown_alone : (piece : List (List ℕ)) → grown piece [] ≡ piece ∷ []
unfolding grown
grown_alone piece = refl

-- the last piece, and what becomes of it with a frame more
pub record Ends (pieces : List (List (List ℕ))) (with_more : List ℕ → List (List (List ℕ))) : Type 0 where
  pub front : List (List (List ℕ))
  pub last : List (List ℕ)
  pub is : pieces ≡ front ++ last ∷ []
  pub joins : (frame : List ℕ) → bytes_of last + size_of_frame frame ≤ 65541 → with_more frame ≡ front ++ (last ++ frame ∷ []) ∷ []
  pub begins : (frame : List ℕ) → 65541 < bytes_of last + size_of_frame frame → with_more frame ≡ pieces ++ (frame ∷ []) ∷ []

-- the same after a piece that is full
ends_behind : (piece : List (List ℕ)) (pieces all : List (List (List ℕ))) (with_more more : List ℕ → List (List (List ℕ))) → all ≡ piece ∷ pieces → ((frame : List ℕ) → more frame ≡ piece ∷ with_more frame) → Ends pieces with_more → Ends all more
ends_behind piece pieces all with_more more all_is more_is ends = record {
  front = piece ∷ ends.front;
  last = ends.last;
  is = all_is ∙ ap (λ (l : List (List (List ℕ))). piece ∷ l) ends.is;
  joins = λ frame fits. more_is frame ∙ ap (λ (l : List (List (List ℕ))). piece ∷ l) (ends.joins frame fits);
  begins = λ frame over. more_is frame ∙ ap (λ (l : List (List (List ℕ))). piece ∷ l) (ends.begins frame over) ∙ ap (λ (l : List (List (List ℕ))). l ++ (frame ∷ []) ∷ []) (sym all_is);
}

-- the same of equal pieces
ends_as : (pieces all : List (List (List ℕ))) (with_more more : List ℕ → List (List (List ℕ))) → all ≡ pieces → ((frame : List ℕ) → more frame ≡ with_more frame) → Ends pieces with_more → Ends all more
ends_as pieces all with_more more all_is more_is ends = record {
  front = ends.front;
  last = ends.last;
  is = all_is ∙ ends.is;
  joins = λ frame fits. more_is frame ∙ ends.joins frame fits;
  begins = λ frame over. more_is frame ∙ ends.begins frame over ∙ ap (λ (l : List (List (List ℕ))). l ++ (frame ∷ []) ∷ []) (sym all_is);
}

pub grown_ends : (piece frames : List (List ℕ)) → Ends (grown piece frames) (λ frame. grown piece (frames ++ frame ∷ []))
grown_ends piece [] = record {
  front = [];
  last = piece;
  is = grown_alone piece;
  joins = λ frame fits. grown_joins piece frame [] fits ∙ grown_alone (piece ++ frame ∷ []);
  begins = λ frame over. grown_begins piece frame [] over ∙ ap (λ (l : List (List (List ℕ))). piece ∷ l) (grown_alone (frame ∷ [])) ∙ ap (λ (l : List (List (List ℕ))). l ++ (frame ∷ []) ∷ []) (sym (grown_alone piece));
}
grown_ends piece (next ∷ frames) = elim (cases_lt 65541 (bytes_of piece + size_of_frame next)) [
  | inl over ↦ ends_behind piece (grown (next ∷ []) frames) (grown piece (next ∷ frames)) (λ frame. grown (next ∷ []) (frames ++ frame ∷ [])) (λ frame. grown piece (next ∷ frames ++ frame ∷ [])) (grown_begins piece next frames over) (λ frame. grown_begins piece next (frames ++ frame ∷ []) over) (grown_ends (next ∷ []) frames)
  | inr fits ↦ ends_as (grown (piece ++ next ∷ []) frames) (grown piece (next ∷ frames)) (λ frame. grown (piece ++ next ∷ []) (frames ++ frame ∷ [])) (λ frame. grown piece (next ∷ frames ++ frame ∷ [])) (grown_joins piece next frames fits) (λ frame. grown_joins piece next (frames ++ frame ∷ []) fits) (grown_ends (piece ++ next ∷ []) frames)
]

-- the pieces have the frames in order
in_order-grown : (piece frames : List (List ℕ)) → in_order (grown piece frames) ≡ piece ++ frames
in_order-grown piece [] = ap in_order (grown_alone piece)
in_order-grown piece (frame ∷ frames) = elim (cases_lt 65541 (bytes_of piece + size_of_frame frame)) [
  | inl over ↦ ap in_order (grown_begins piece frame frames over) ∙ ap (λ (l : List (List ℕ)). piece ++ l) (in_order-grown (frame ∷ []) frames)
  | inr fits ↦ ap in_order (grown_joins piece frame frames fits) ∙ in_order-grown (piece ++ frame ∷ []) frames ∙ append_assoc piece (frame ∷ []) frames
]

pub in_order-pieces_of : (frames : List (List ℕ)) → in_order (pieces_of frames) ≡ frames
unfolding pieces_of
in_order-pieces_of [] = refl
in_order-pieces_of (frame ∷ frames) = in_order-grown (frame ∷ []) frames

-- none is empty
each-grown : (piece frames : List (List ℕ)) → IsPiece piece → All IsFrame frames → All IsPiece (grown piece frames)
each-grown piece [] is each = subst (All IsPiece) (sym (grown_alone piece)) (All-cons IsPiece piece [] is (All-nil IsPiece))
each-grown piece (frame ∷ frames) is each =
    let first = All-head IsFrame frame frames each in
    let others = All-tail IsFrame frame frames each in
    elim (cases_lt 65541 (bytes_of piece + size_of_frame frame)) [
      | inl over ↦ subst (All IsPiece) (sym (grown_begins piece frame frames over)) (All-cons IsPiece piece (grown (frame ∷ []) frames) is (each-grown (frame ∷ []) frames (omega arith, All-cons IsFrame frame [] first (All-nil IsFrame)) others))
      | inr fits ↦ subst (All IsPiece) (sym (grown_joins piece frame frames fits)) (each-grown (piece ++ frame ∷ []) frames (omega (arith, length-append piece (frame ∷ [])), All-push IsFrame piece frame is.1 first) others)
    ]

pub each-pieces_of : (frames : List (List ℕ)) → All IsFrame frames → All IsPiece (pieces_of frames)
unfolding pieces_of
each-pieces_of [] each = All-nil IsPiece
each-pieces_of (frame ∷ frames) each = each-grown (frame ∷ []) frames (omega arith, All-cons IsFrame frame [] (All-head IsFrame frame frames each) (All-nil IsFrame)) (All-tail IsFrame frame frames each)

pub bytes_of-push : (piece : List (List ℕ)) (frame : List ℕ) → bytes_of (piece ++ frame ∷ []) ≡ bytes_of piece + size_of_frame frame
bytes_of-push [] frame = omega (arith, sum_by-cons size_of_frame frame [])
bytes_of-push (first ∷ piece) frame = omega (arith, sum_by-cons size_of_frame first (piece ++ frame ∷ []), sum_by-cons size_of_frame first piece, bytes_of-push piece frame)

-- the size of a piece
abbrev Within : List (List ℕ) → Type 0
Within piece = bytes_of piece ≤ 65541

within-grown : (piece frames : List (List ℕ)) → Within piece → All IsFrame frames → All Within (grown piece frames)
within-grown piece [] is each = subst (All Within) (sym (grown_alone piece)) (All-cons Within piece [] is (All-nil Within))
within-grown piece (frame ∷ frames) is each =
    let first = All-head IsFrame frame frames each in
    let others = All-tail IsFrame frame frames each in
    elim (cases_lt 65541 (bytes_of piece + size_of_frame frame)) [
      | inl over ↦ subst (All Within) (sym (grown_begins piece frame frames over)) (All-cons Within piece (grown (frame ∷ []) frames) is (within-grown (frame ∷ []) frames (omega (arith, first.most, sum_by-cons size_of_frame frame [])) others))
      | inr fits ↦ subst (All Within) (sym (grown_joins piece frame frames fits)) (within-grown (piece ++ frame ∷ []) frames (omega (arith, bytes_of-push piece frame, fits)) others)
    ]

pub within-pieces_of : (frames : List (List ℕ)) → All IsFrame frames → All Within (pieces_of frames)
unfolding pieces_of
within-pieces_of [] each = All-nil Within
within-pieces_of (frame ∷ frames) each = within-grown (frame ∷ []) frames (omega (arith, (All-head IsFrame frame frames each).most, sum_by-cons size_of_frame frame [])) (All-tail IsFrame frame frames each)

-- the first piece begins with its first frame
record Begins (frame : List ℕ) (pieces : List (List (List ℕ))) : Type 0 where
  frames : List (List ℕ)
  behind : List (List (List ℕ))
  is : pieces ≡ (frame ∷ frames) ∷ behind

grown_head : (frame : List ℕ) (piece frames : List (List ℕ)) → Begins frame (grown (frame ∷ piece) frames)
grown_head frame piece [] = record { frames = piece; behind = []; is = grown_alone (frame ∷ piece) }
grown_head frame piece (next ∷ frames) = elim (cases_lt 65541 (bytes_of (frame ∷ piece) + size_of_frame next)) [
  | inl over ↦ record { frames = piece; behind = grown (next ∷ []) frames; is = grown_begins (frame ∷ piece) next frames over }
  | inr fits ↦ let so = grown_head frame (piece ++ next ∷ []) frames in record { frames = so.frames; behind = so.behind; is = grown_joins (frame ∷ piece) next frames fits ∙ so.is }
]

-- of two lists that are the same, the first elements and the others
heads : {X : Type 0} (x y : X) (xs ys : List X) → x ∷ xs ≡ y ∷ ys → x ≡ y
heads x y xs ys is = cc

tails : {X : Type 0} (x y : X) (xs ys : List X) → x ∷ xs ≡ y ∷ ys → xs ≡ ys
tails x y xs ys is = cc

full_one : (piece : List (List ℕ)) → AreFull (piece ∷ [])
full_one piece [] back found frame frames is = absurd (cc)
full_one piece (p ∷ []) back found frame frames is = absurd (cc)
full_one piece (p ∷ q ∷ front) back found frame frames is = absurd (cc)

full_more : (piece : List (List ℕ)) (frame : List ℕ) (pieces : List (List (List ℕ))) → Begins frame pieces → 65541 < bytes_of piece + size_of_frame frame → AreFull pieces → AreFull (piece ∷ pieces)
full_more piece frame pieces begins over full [] back found next frames is =
    let same : piece ≡ found = heads piece found pieces ((next ∷ frames) ∷ back) is in
    let rest : pieces ≡ (next ∷ frames) ∷ back = tails piece found pieces ((next ∷ frames) ∷ back) is in
    let first : frame ≡ next = cc in
    subst (λ (n : List ℕ). 65541 < bytes_of found + size_of_frame n) first (subst (λ (p : List (List ℕ)). 65541 < bytes_of p + size_of_frame frame) same over)
full_more piece frame pieces begins over full (p ∷ front) back found next frames is =
    full front back found next frames (tails piece p pieces (front ++ found ∷ (next ∷ frames) ∷ back) is)

full-grown : (piece frames : List (List ℕ)) → AreFull (grown piece frames)
full-grown piece [] = subst AreFull (sym (grown_alone piece)) (full_one piece)
full-grown piece (frame ∷ frames) = elim (cases_lt 65541 (bytes_of piece + size_of_frame frame)) [
  | inl over ↦ subst AreFull (sym (grown_begins piece frame frames over)) (full_more piece frame (grown (frame ∷ []) frames) (grown_head frame [] frames) over (full-grown (frame ∷ []) frames))
  | inr fits ↦ subst AreFull (sym (grown_joins piece frame frames fits)) (full-grown (piece ++ frame ∷ []) frames)
]

-- there are none
full_none : AreFull []
full_none [] back piece frame frames is = absurd (cc)
full_none (p ∷ front) back piece frame frames is = absurd (cc)

pub full-pieces_of : (frames : List (List ℕ)) → AreFull (pieces_of frames)
unfolding pieces_of
full-pieces_of [] = full_none
full-pieces_of (frame ∷ frames) = full-grown (frame ∷ []) frames

-- without a frame there is no piece, and else a last one
pub pieces_ends : (frames : List (List ℕ)) → (pieces_of frames ≡ []) × ((frame : List ℕ) → pieces_of (frames ++ frame ∷ []) ≡ (frame ∷ []) ∷ []) ⊎ Ends (pieces_of frames) (λ frame. pieces_of (frames ++ frame ∷ []))
unfolding pieces_of
pieces_ends [] = inl (refl, λ frame. grown_alone (frame ∷ []))
pieces_ends (first ∷ frames) = inr (grown_ends (first ∷ []) frames)
