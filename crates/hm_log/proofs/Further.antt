-- What a piece adds to what was read before it.
use Rattle.std.proofs.Common.{◌≡◌, ◌≢◌, ◌⊎◌, inl, inr, ℕ, suc, ◌+◌, ◌-◌, ◌≤◌, ◌<◌, List, [], ◌∷◌, ◌++◌, length, take, drop, get_or, refl, sym, ◌∙◌, ap, subst, arith, append_assoc, length-append, length-drop, take-append-drop}
use Rattle.std.proofs.Math.Seq.{drop-cons}
use Rattle.std.proofs.lemmas.List.{drop_at, drop-drop, drop-take, take-take, append-nil, get_or-append-add, get_or-drop, length-take}
use Rattle.std.proofs.lemmas.List.Elements.{All-append}
use Rattle.std.proofs.lemmas.Bool.{cases_lt}
use Rattle.std.specs.Prelude.{All, min}
use Rattle.hm_log.specs.Format.{laid, spelled, size_of, IsFrame, NoFrame, IsEnd, BeginsWith, IsOpenBad, RunsTo}
use Rattle.hm_log.specs.Pieces.{EndsAt, StandsIn, IsShutBehind, body_in}
use Rattle.hm_log.proofs.Ends.{some_end}
use Rattle.hm_log.proofs.Spelling.{spelled-append, spelled-push}

-- a length is read from four bytes, whatever follows
size_more : (tail more : List ℕ) → 4 ≤ length tail → size_of (tail ++ more) ≡ size_of tail
unfolding size_of
size_more [] more four = absurd (omega arith)
size_more (a ∷ []) more four = absurd (omega arith)
size_more (a ∷ b ∷ []) more four = absurd (omega arith)
size_more (a ∷ b ∷ c ∷ []) more four = absurd (omega arith)
size_more (a ∷ b ∷ c ∷ d ∷ tail) more four = refl

-- a goal of the next lemma, over plain numbers
above : (n m : ℕ) → m ≡ n → 65536 < n → 65536 < m
above n m is lt = omega (arith, is, lt)

-- no whole frame stands in a piece: where the piece is long or nothing follows it, none stands there at all
pub none_more : (tail more : List ℕ) → NoFrame tail → (length more ≡ 0) ⊎ (65541 ≤ length tail) → NoFrame (tail ++ more)
none_more tail [] none last = subst NoFrame (sym (append-nil tail)) none
none_more tail (m ∷ more) none (inl is) = absurd (omega arith)
none_more tail (m ∷ more) (inl short) (inr long) = absurd (omega (arith, short, long))
none_more tail (m ∷ more) (inr (inl zero)) (inr long) = inr (inl (size_more tail (m ∷ more) (omega (arith, long)) ∙ zero))
none_more tail (m ∷ more) (inr (inr (inl many))) (inr long) = inr (inr (inl (above (size_of tail) _ (size_more tail (m ∷ more) (omega (arith, long))) many)))
none_more tail (m ∷ more) (inr (inr (inr short))) (inr long) = inr (inr (inl (above (size_of tail) _ (size_more tail (m ∷ more) (omega (arith, long))) (omega (arith, short, long)))))

-- a piece of the bytes is a piece of the body
pub piece_in : (bytes piece : List ℕ) (first limit place k : ℕ) → place ≡ first + k → place + length piece ≤ limit → piece ≡ take (length piece) (drop place bytes)
    → piece ≡ take (length piece) (drop k (body_in first limit bytes))
piece_in bytes piece first limit place k at within is =
    let m = limit - place in
    let whole : drop k (body_in first limit bytes) ≡ take m (drop place bytes) =
    drop-drop k first (take limit bytes)
    ∙ (λ i. drop (sym at i) (take (split i) bytes))
    ∙ drop-take place m bytes in
    is ∙ sym (take-take (length piece) m (drop place bytes) (omega (arith, within))) ∙ ap (λ (l : List ℕ). take (length piece) l) (sym whole)
  where
    split : limit ≡ place + (limit - place)
    split = omega (arith, within)

-- the size of a body
pub body_long : (bytes : List ℕ) (first limit : ℕ) → limit ≤ length bytes → length (body_in first limit bytes) ≡ limit - first
body_long bytes first limit within = omega (arith, length-drop first (take limit bytes), length-take limit bytes, within)

module _ (piece : List ℕ) (more : List (List ℕ)) (n : ℕ) (part : BeginsWith piece more n) where
  -- its end is within the piece
  pub end_within : n < length piece
  end_within = omega (arith, ap length part.spelling, length-append (spelled more) part.end, part.at, some_end part.end part.is)

  -- the gate there
  gate_is : get_or piece n 0 ≡ get_or part.end 0 0
  gate_is = (λ i. get_or (part.spelling i) (part.at i) 0) ∙ ap (λ (k : ℕ). get_or (spelled more ++ part.end) k 0) (omega arith) ∙ get_or-append-add (spelled more) part.end 0 0

  -- it is one more place where frames end
  pub ends_later : (first : ℕ) (frames : List (List ℕ)) (place limit : ℕ) → EndsAt first frames place limit → place + length piece ≤ limit → EndsAt first (frames ++ more) (place + n) limit
  ends_later first frames place limit ends fits = record {
    at = omega (arith, ends.at, part.at, ap length (spelled-append frames more), length-append (spelled frames) (spelled more));
    each = All-append IsFrame frames more ends.each part.each;
    within = omega (arith, end_within, fits);
  }

  module _ (body : List ℕ) (frames : List (List ℕ)) (all : All IsFrame frames) (stands : StandsIn body frames) (is : piece ≡ take (length piece) (drop (length (spelled frames)) body)) where
    abbrev behind_frames : List ℕ
    behind_frames = drop (length (spelled frames)) body

    abbrev rest : List ℕ
    rest = drop (length piece) behind_frames

    abbrev tail : List ℕ
    tail = part.end ++ rest

    abbrev both : List (List ℕ)
    both = frames ++ more

    spelling : body ≡ spelled both ++ tail
    spelling =
        stands
        ∙ ap (λ (l : List ℕ). spelled frames ++ l) (sym (take-append-drop (length piece) behind_frames) ∙ ap (λ (l : List ℕ). l ++ rest) (sym is ∙ part.spelling) ∙ append_assoc (spelled more) part.end rest)
        ∙ sym (append_assoc (spelled frames) (spelled more) tail)
        ∙ ap (λ (l : List ℕ). l ++ tail) (sym (spelled-append frames more))

    behind : drop (length (spelled both)) body ≡ tail
    behind = ap (λ (l : List ℕ). drop (length (spelled both)) l) spelling ∙ drop_at (spelled both) tail (length (spelled both)) refl

    pub stands_later : StandsIn body both
    stands_later = spelling ∙ ap (λ (l : List ℕ). spelled both ++ l) (sym behind)

    pub shut_there : get_or piece n 0 ≢ 43 → IsShutBehind body both
    shut_there ne same = ne (gate_is ∙ first part.end part.is ∙ sym (ap (λ (l : List ℕ). get_or l 0 0) behind) ∙ get_or-drop (length (spelled both)) body 0 0 ∙ ap (λ (k : ℕ). get_or body k 0) (omega arith) ∙ same)
      where
        first : (end : List ℕ) → IsEnd end → get_or end 0 0 ≡ get_or (end ++ rest) 0 0
        first [] is = absurd is
        first (gate ∷ free) is = refl

    pub bad_there : get_or piece n 0 ≡ 43 → (length rest ≡ 0) ⊎ ((n ≡ 0) × (65542 ≤ length piece)) → (within : ℕ) → within ≡ length (spelled both) → IsOpenBad body within
    bad_there is_open last within at = from part.end part.is spelling (sym gate_is ∙ is_open) (long last)
      where
        long : (length rest ≡ 0) ⊎ ((n ≡ 0) × (65542 ≤ length piece)) → (length rest ≡ 0) ⊎ (65542 ≤ length part.end)
        long (inl none) = inl none
        long (inr (zero, most)) = inr (omega (arith, zero, most, part.at, ap length part.spelling, length-append (spelled more) part.end))

        from : (end : List ℕ) → IsEnd end → body ≡ spelled both ++ (end ++ rest) → get_or end 0 0 ≡ 43 → (length rest ≡ 0) ⊎ (65542 ≤ length end) → IsOpenBad body within
        from [] ends so first end = absurd ends
        from (gate ∷ free) (inl shut) so first end = absurd (shut first)
        from (gate ∷ free) (inr none) so first end = record {
          frames = both;
          rest = free ++ rest;
          spelling = so ∙ ap (λ (g : ℕ). spelled both ++ g ∷ (free ++ rest)) first;
          at = at;
          each = All-append IsFrame frames more all part.each;
          none = none_more free rest none.1 (shorter end);
        }
          where
            shorter : (length rest ≡ 0) ⊎ (65542 ≤ length (gate ∷ free)) → (length rest ≡ 0) ⊎ (65541 ≤ length free)
            shorter (inl zero) = inl zero
            shorter (inr most) = inr (omega (arith, most))

-- a frame more in a piece
pub one_more : (bytes : List ℕ) (more : List (List ℕ)) (rest tail frame next : List ℕ) → bytes ≡ spelled more ++ rest → rest ≡ 43 ∷ tail → tail ≡ laid frame ++ next → bytes ≡ spelled (more ++ frame ∷ []) ++ next
one_more bytes more after past frame next so is_open is = so ∙ ap (λ (l : List ℕ). spelled more ++ l) (is_open ∙ ap (λ (l : List ℕ). 43 ∷ l) is) ∙ sym (spelled-push more frame next)

-- a piece that is the last, or long enough for any frame
pub last_piece : (body piece : List ℕ) (n k left : ℕ) → length body ≡ k + left → length piece ≡ min left 1048576 → (n ≡ 0) ⊎ (length piece ≡ left)
    → (length (drop (length piece) (drop k body)) ≡ 0) ⊎ ((n ≡ 0) × (65542 ≤ length piece))
last_piece body piece n k left is long (inr same) = inl (omega (arith, is, same, length-drop (length piece) (drop k body), length-drop k body))
last_piece body piece n k left is long (inl zero) = elim (cases_lt 1048576 left) [
  | inl more ↦ inr (zero, omega (arith, long, more))
  | inr less ↦ inl (omega (arith, is, long, less, length-drop (length piece) (drop k body), length-drop k body))
]

-- frames up to a closed gate
pub runs_to : (body : List ℕ) (frames : List (List ℕ)) → length (spelled frames) < length body → All IsFrame frames → StandsIn body frames → IsShutBehind body frames → RunsTo body frames (drop (length (spelled frames) + 1) body)
runs_to body frames within each stands shut =
    let next : suc (length (spelled frames)) ≡ length (spelled frames) + 1 = omega arith in
    record {
      gate = get_or body (length (spelled frames)) 0;
      shut = shut;
      spelling =
          stands
          ∙ ap (λ (l : List ℕ). spelled frames ++ l)
          (drop-cons body (length (spelled frames)) 0 within ∙ ap (λ (m : ℕ). get_or body (length (spelled frames)) 0 ∷ drop m body) next);
      each = each;
    }
