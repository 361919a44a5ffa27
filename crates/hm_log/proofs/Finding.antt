-- What was found on a disk, by what was read of its body.
use Rattle.std.proofs.Common.{◌≡◌, inl, inr, ℕ, ◌+◌, ◌-◌, ◌≤◌, ◌<◌, List, [], ◌∷◌, ◌++◌, length, take, drop, get_or, refl, sym, ◌∙◌, ap, subst, arith, length-drop}
use Rattle.std.proofs.lemmas.List.{take_all, take-take, get_or-take, drop_all, length-take}
use Rattle.std.specs.Int.{from_le_bytes, w64}
use Rattle.std.specs.Prelude.{min}
use Rattle.hm_log.specs.Format.{magic, spelled, IsFirst, IsPlain, IsMoved, IsOpenBad, IsBadFrame, IsNewer, IsNotALog, NoBody, NoHead, RunsTo, place_of, told_place}
use Rattle.hm_log.specs.Pieces.{EndsAt, IsFound, IsSpan, IsSpanOf, body_in}
use Rattle.hm_log.specs.declared.pieces.Layout.{Layout}
use Rattle.hm_log.specs.declared.pieces.Layout.TheVariants.{Blank, First, Plain, Moved}
use Rattle.hm_log.proofs.Foreign.{not_foreign}
use Rattle.hm_log.proofs.Further.{body_long}

-- what the first bytes show they show of all
pub head_shows : (bytes piece : List ℕ) (size place : ℕ) → size ≡ length bytes → piece ≡ take (min size 11) bytes → NoHead piece place → NoHead bytes place
head_shows bytes piece size place all is (inl short) =
    let le = short.1 in
    let long : length piece ≡ min (min size 11) (length bytes) = ap length is ∙ length-take (min size 11) bytes in
    let same : piece ≡ bytes = is ∙ take_all (min size 11) bytes (omega (arith, long, le, all)) in
    inl (subst (λ (l : List ℕ). (1 ≤ length l) × (length l ≤ 9) × (place ≡ length l)) same short)
head_shows bytes piece size place all is (inr (inl differs)) =
    let ge = differs.0 in
    let low = differs.1 in
    let long : length piece ≡ min (min size 11) (length bytes) = ap length is ∙ length-take (min size 11) bytes in
    inr (inl (
      omega (arith, long, ge, all),
      low,
      sym (ap (λ (l : List ℕ). take place l) is ∙ take-take place (min size 11) bytes (omega (arith, long, ge, low))) ∙ differs.2,
      λ same. differs.3 (ap (λ (l : List ℕ). get_or l place 0) is ∙ get_or-take (min size 11) bytes place 0 (omega (arith, long, ge, low)) ∙ same),
    ))
head_shows bytes piece size place all is (inr (inr bare)) =
    let ten = bare.0 in
    let long : length piece ≡ min (min size 11) (length bytes) = ap length is ∙ length-take (min size 11) bytes in
    let same : piece ≡ bytes = is ∙ take_all (min size 11) bytes (omega (arith, long, ten, all)) in
    inr (inr (subst (λ (l : List ℕ). (length l ≡ 10) × (place ≡ 10) × IsNewer l) same bare))

-- a byte of the first bytes
pub head_byte : (bytes piece : List ℕ) (n i : ℕ) → piece ≡ take n bytes → i < n → get_or bytes i 0 ≡ get_or piece i 0
head_byte bytes piece n i is low = sym (ap (λ (l : List ℕ). get_or l i 0) is ∙ get_or-take n bytes i 0 low)

pub head_magic : (bytes piece : List ℕ) (n : ℕ) → piece ≡ take n bytes → 8 ≤ n → take 8 piece ≡ magic → take 8 bytes ≡ magic
head_magic bytes piece n is low begins = sym (take-take 8 n bytes low) ∙ ap (λ (l : List ℕ). take 8 l) (sym is) ∙ begins

pub first_span : (bytes : List ℕ) (limit : ℕ) → IsFirst bytes (magic ++ 1 ∷ []) (body_in 9 limit bytes) → IsSpan bytes IsFirst 9 limit
first_span bytes limit lies = record { front = magic ++ 1 ∷ []; long = refl; lies = lies }

pub plain_span : (bytes front : List ℕ) (limit : ℕ) → length front ≡ 10 → IsPlain bytes front (body_in 10 limit bytes) → IsSpan bytes IsPlain 10 limit
plain_span bytes front limit long lies = record { front = front; long = long; lies = lies }

pub moved_span : (bytes : List ℕ) (first limit : ℕ) → first ≤ length bytes → IsMoved bytes (take first bytes) (body_in first limit bytes) → IsSpan bytes IsMoved first limit
moved_span bytes first limit within lies = record { front = take first bytes; long = omega (arith, length-take first bytes, within); lies = lies }

-- no log shows that it is none
pub span_foreign : (layout : Layout) (bytes : List ℕ) (first limit q : ℕ) → first < limit → limit ≤ length bytes → IsSpanOf bytes layout first limit → IsNotALog bytes q → ⊥
span_foreign Blank bytes first limit q some within span foreign = span
span_foreign First bytes first limit q some within span foreign = not_foreign bytes span.front (body_in first limit bytes) q (inl (inl span.lies)) (omega (arith, body_long bytes first limit within, some)) foreign
span_foreign Plain bytes first limit q some within span foreign = not_foreign bytes span.front (body_in first limit bytes) q (inl (inr span.lies)) (omega (arith, body_long bytes first limit within, some)) foreign
span_foreign Moved bytes first limit q some within span foreign = not_foreign bytes span.front (body_in first limit bytes) q (inr span.lies) (omega (arith, body_long bytes first limit within, some)) foreign

-- an open gate of the body that has no frame
pub span_bad : (layout : Layout) (bytes : List ℕ) (first limit at : ℕ) → IsSpanOf bytes layout first limit → first ≤ at → IsOpenBad (body_in first limit bytes) (at - first) → IsBadFrame bytes at
span_bad Blank bytes first limit at span low bad = absurd span
span_bad First bytes first limit at span low bad = record { front = span.front; body = body_in first limit bytes; within = at - first; at = omega (arith, low, span.long); bad = inl (inl span.lies, bad) }
span_bad Plain bytes first limit at span low bad = record { front = span.front; body = body_in first limit bytes; within = at - first; at = omega (arith, low, span.long); bad = inl (inr span.lies, bad) }
span_bad Moved bytes first limit at span low bad = record { front = span.front; body = body_in first limit bytes; within = at - first; at = omega (arith, low, span.long); bad = inr (span.lies, inl bad) }

module _ (bytes : List ℕ) (first limit : ℕ) (within : limit ≤ length bytes) (frames : List (List ℕ)) (gate : ℕ) (ends : EndsAt first frames gate limit)
    (runs : RunsTo (body_in first limit bytes) frames (drop (length (spelled frames) + 1) (body_in first limit bytes))) where
  -- a closed gate of a moved log that isn't the last byte of the body
  pub span_early : IsSpan bytes IsMoved first limit → gate + 1 < limit → IsBadFrame bytes gate
  span_early span more = record {
    front = span.front;
    body = body_in first limit bytes;
    within = length (spelled frames);
    at = omega (arith, ends.at, span.long);
    bad = inr (
      span.lies,
      inr (record {
        frames = frames;
        free = drop (length (spelled frames) + 1) (body_in first limit bytes);
        runs = runs;
        at = refl;
        some = omega (arith, length-drop (length (spelled frames) + 1) (body_in first limit bytes), body_long bytes first limit within, ends.at, more);
      }),
    );
  }

  -- what was found
  pub span_found : (layout : Layout) → IsSpanOf bytes layout first limit → (layout ≡ Moved → limit ≤ gate + 1) → IsFound bytes layout frames gate
  span_found Blank span last = absurd span
  span_found First span last = (
    drop (length (spelled frames) + 1) (body_in first limit bytes),
    record { front = span.front; body = body_in first limit bytes; lies = span.lies; runs = runs; place = omega (arith, ends.at, span.long) },
  )
  span_found Plain span last = (
    drop (length (spelled frames) + 1) (body_in first limit bytes),
    record { front = span.front; body = body_in first limit bytes; lies = span.lies; runs = runs; place = omega (arith, ends.at, span.long) },
  )
  span_found Moved span last = record {
    front = span.front;
    body = body_in first limit bytes;
    lies = span.lies;
    runs = subst (λ (free : List ℕ). RunsTo (body_in first limit bytes) frames free) (drop_all (length (spelled frames) + 1) (body_in first limit bytes) (omega (arith, body_long bytes first limit within, ends.at, last refl))) runs;
    place = omega (arith, ends.at, span.long);
  }

-- the place that was read from the last eight bytes
pub told_is : (bytes last : List ℕ) (size place : ℕ) → size ≡ length bytes → 11 ≤ size → last ≡ take 8 (drop (size - 8) bytes) → place ≡ from_le_bytes w64 last → place ≡ told_place bytes
unfolding place_of
told_is bytes last size place all long is read =
    let tail : List ℕ = drop (size - 8) bytes in
    let eight : length tail ≤ 8 = omega (arith, length-drop (size - 8) bytes, all, long) in
    read
    ∙ ap (from_le_bytes w64) (is ∙ take_all 8 tail eight)
    ∙ ap (λ (n : ℕ). from_le_bytes w64 (drop (n - 8) bytes)) all

-- where no body stands, by the three tests
pub body_low : (place size : ℕ) → place < 11 → NoBody place size
body_low place size low = inl low

pub body_high : (place size : ℕ) → 11 ≤ size → size - 9 < place → NoBody place size
body_high place size long high = inr (inl (omega (arith, long, high)))

pub body_tight : (place size : ℕ) → 11 ≤ place → place ≤ size - 9 → place - 10 < size - 8 - place → NoBody place size
body_tight place size low high tight = inr (inr (omega (arith, low, high, tight)))

pub body_there : (place size : ℕ) → 11 ≤ size → 11 ≤ place → place ≤ size - 9 → size - 8 - place ≤ place - 10 → NoBody place size → ⊥
body_there place size long low high room (inl less) = omega (arith, low, less)
body_there place size long low high room (inr (inl less)) = omega (arith, long, high, less)
body_there place size long low high room (inr (inr less)) = omega (arith, long, low, high, room, less)

-- a body that stands there is within the bytes
pub body_within : (place size : ℕ) → (NoBody place size → ⊥) → place + 9 ≤ size
body_within place size there = omega (arith, no)
  where
    no : size < place + 9 → ⊥
    no less = there (inr (inl less))
