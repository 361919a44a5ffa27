-- Each content has one verdict.
use Rattle.std.proofs.Common.{◌≡◌, ◌≢◌, ◌⊎◌, inl, inr, ℕ, ◌+◌, ◌-◌, ◌≤◌, ◌<◌, List, [], ◌∷◌, ◌++◌, length, take, get_or, refl, sym, ◌∙◌, ap, arith, length-append, length-drop}
use Rattle.std.proofs.lemmas.List.{length-take}
use Rattle.std.proofs.lemmas.List.Elements.{All-take, All-drop}
use Rattle.std.proofs.lemmas.Bool.{cases_eq, cases_lt}
use Rattle.std.specs.Prelude.{All}
use Rattle.hm_log.specs.Format.{magic, head, spelled, told_place, IsFrame, IsEnd, IsMoved, IsOpenEnded, IsOpenBad, IsShutEarly, NoBody, Reads, IsBadFrame, IsNotALog}
use Rattle.hm_log.specs.Pieces.{body_in}
use Rattle.hm_log.specs.Verdict.{Verdict, Blank, Holds, Foreign, Broken, Judges}
use Rattle.hm_log.proofs.Ends.{Ends, IsByte, some_end, same_ends, closed_or_open, tail_of, ended}
use Rattle.hm_log.proofs.Foreign.{not_foreign, one_place, foreign_some, differs_at}
use Rattle.hm_log.proofs.Layouts.{layout_of, lies_of, same_body, not_moved, is_first, is_plain, is_moved}
use Rattle.hm_log.proofs.Listed.{one_list}

-- a log, or one with a bad frame
pub record Begins (bytes : List ℕ) : Type 0 where
  pub front : List ℕ
  pub body : List ℕ
  pub layout : IsOpenEnded bytes front body ⊎ IsMoved bytes front body
  pub ends : Ends body

abbrev holds_begins : (bytes : List ℕ) (frames : List (List ℕ)) → Reads bytes frames → Begins bytes
holds_begins bytes frames reads = record {
  front = reads.front;
  body = reads.body;
  layout = layout_of bytes frames reads;
  ends = record { frames = frames; end = reads.runs.gate ∷ reads.free; spelling = reads.runs.spelling; each = reads.runs.each; is = inl reads.runs.shut };
}

abbrev open_ends : (body : List ℕ) (place : ℕ) → IsOpenBad body place → Ends body
open_ends body place bad = record { frames = bad.frames; end = 43 ∷ bad.rest; spelling = bad.spelling; each = bad.each; is = inr (refl, bad.none) }

abbrev shut_ends : (body : List ℕ) (place : ℕ) → IsShutEarly body place → Ends body
shut_ends body place early = record { frames = early.frames; end = early.runs.gate ∷ early.free; spelling = early.runs.spelling; each = early.runs.each; is = inl early.runs.shut }

-- a log with a bad frame, by its cases
abbrev Bad : (bytes front body : List ℕ) (within : ℕ) → Type 0
Bad bytes front body within = (IsOpenEnded bytes front body × IsOpenBad body within) ⊎ (IsMoved bytes front body × (IsOpenBad body within ⊎ IsShutEarly body within))

bad_layout : (bytes front body : List ℕ) (within : ℕ) → Bad bytes front body within → IsOpenEnded bytes front body ⊎ IsMoved bytes front body
bad_layout bytes front body within (inl (straight, bad)) = inl straight
bad_layout bytes front body within (inr (moved, bad)) = inr moved

-- where its frames end, at the place
record BadEnd (body : List ℕ) (within : ℕ) : Type 0 where
  ends : Ends body
  at : within ≡ length (spelled ends.frames)

bad_end : (bytes front body : List ℕ) (within : ℕ) → Bad bytes front body within → BadEnd body within
bad_end bytes front body within (inl (straight, bad)) = record { ends = open_ends body within bad; at = bad.at }
bad_end bytes front body within (inr (moved, inl bad)) = record { ends = open_ends body within bad; at = bad.at }
bad_end bytes front body within (inr (moved, inr early)) = record { ends = shut_ends body within early; at = early.at }

abbrev broken_begins : (bytes : List ℕ) (place : ℕ) → IsBadFrame bytes place → Begins bytes
broken_begins bytes place bad = record {
  front = bad.front;
  body = bad.body;
  layout = bad_layout bytes bad.front bad.body bad.within bad.bad;
  ends = (bad_end bytes bad.front bad.body bad.within bad.bad).ends;
}

same_front : (bytes : List ℕ) (one other : Begins bytes) → (length one.front ≡ length other.front) × (one.body ≡ other.body)
same_front bytes one other = same_body bytes one.front other.front one.body other.body (lies_of bytes one.front one.body one.layout) (lies_of bytes other.front other.body other.layout)

same_begins : (bytes : List ℕ) (one other : Begins bytes) → (one.ends.frames ≡ other.ends.frames) × (one.ends.end ≡ other.ends.end)
same_begins bytes one other =
    same_ends one.ends.frames other.ends.frames one.ends.end other.ends.end one.ends.each other.ends.each one.ends.is other.ends.is
    (sym one.ends.spelling ∙ (same_front bytes one other).1 ∙ other.ends.spelling)

body_some : (bytes : List ℕ) (one : Begins bytes) → 1 ≤ length one.body
body_some bytes one = omega (arith, ap length one.ends.spelling, length-append (spelled one.ends.frames) one.ends.end, some_end one.ends.end one.ends.is)

bytes_some : (bytes : List ℕ) (one : Begins bytes) → 1 ≤ length bytes
bytes_some bytes one =
    let lies = lies_of bytes one.front one.body one.layout in
    omega (arith, ap length lies.parts, length-append one.front (one.body ++ lies.behind), length-append one.body lies.behind, body_some bytes one)

begins_foreign : (bytes : List ℕ) (q : ℕ) → Begins bytes → IsNotALog bytes q → ⊥
begins_foreign bytes q one foreign = not_foreign bytes one.front one.body q one.layout (body_some bytes one) foreign

-- a log has no bad frame
holds_broken : (bytes : List ℕ) (frames : List (List ℕ)) (q : ℕ) → Reads bytes frames → IsBadFrame bytes q → ⊥
unfolding bad_end
holds_broken bytes frames q reads bad = by bad.bad (same_begins bytes (holds_begins bytes frames reads) (broken_begins bytes q bad)).1
  where
    early : IsMoved bytes bad.front bad.body → (free : List ℕ) → 1 ≤ length free → reads.free ≡ free → IsOpenEnded bytes reads.front reads.body ⊎ (IsMoved bytes reads.front reads.body × (reads.free ≡ [])) → ⊥
    early moved free some same (inl straight) = not_moved bytes reads.front bad.front reads.body bad.body straight moved
    early moved free some same (inr last) = omega (arith, some, ap length same, ap length last.1)

    by : (is : Bad bytes bad.front bad.body bad.within) → reads.runs.gate ∷ reads.free ≡ (bad_end bytes bad.front bad.body bad.within is).ends.end → ⊥
    by (inl (straight, none)) same = closed_or_open reads.runs.gate 43 reads.free none.rest reads.runs.shut same
    by (inr (moved, inl none)) same = closed_or_open reads.runs.gate 43 reads.free none.rest reads.runs.shut same
    by (inr (moved, inr shut)) same = early moved shut.free shut.some (tail_of reads.runs.gate shut.runs.gate reads.free shut.free same) reads.layout

broken_once : (bytes : List ℕ) (p q : ℕ) → IsBadFrame bytes p → IsBadFrame bytes q → p ≡ q
broken_once bytes p q one other =
    let a = broken_begins bytes p one in
    let b = broken_begins bytes q other in
    let fronts = (same_front bytes a b).0 in
    let frames = ap (λ (fs : List (List ℕ)). length (spelled fs)) (same_begins bytes a b).0 in
    omega (arith, one.at, other.at, (bad_end bytes one.front one.body one.within one.bad).at, (bad_end bytes other.front other.body other.within other.bad).at, fronts, frames)

pub only : (bytes : List ℕ) (one other : Verdict) → Judges bytes one → Judges bytes other → one ≡ other
only bytes Blank Blank is also = refl
only bytes Blank (Holds gs) is also = absurd (omega (arith, is, bytes_some bytes (holds_begins bytes gs also)))
only bytes Blank (Foreign q) is also = absurd (omega (arith, is, foreign_some bytes q also))
only bytes Blank (Broken q) is also = absurd (omega (arith, is, bytes_some bytes (broken_begins bytes q also)))
only bytes (Holds fs) Blank is also = absurd (omega (arith, also, bytes_some bytes (holds_begins bytes fs is)))
only bytes (Holds fs) (Holds gs) is also = ap Holds (one_list bytes fs gs is also)
only bytes (Holds fs) (Foreign q) is also = absurd (begins_foreign bytes q (holds_begins bytes fs is) also)
only bytes (Holds fs) (Broken q) is also = absurd (holds_broken bytes fs q is also)
only bytes (Foreign p) Blank is also = absurd (omega (arith, also, foreign_some bytes p is))
only bytes (Foreign p) (Holds gs) is also = absurd (begins_foreign bytes p (holds_begins bytes gs also) is)
only bytes (Foreign p) (Foreign q) is also = ap Foreign (one_place bytes p q is also)
only bytes (Foreign p) (Broken q) is also = absurd (begins_foreign bytes p (broken_begins bytes q also) is)
only bytes (Broken p) Blank is also = absurd (omega (arith, also, bytes_some bytes (broken_begins bytes p is)))
only bytes (Broken p) (Holds gs) is also = absurd (holds_broken bytes gs p also is)
only bytes (Broken p) (Foreign q) is also = absurd (begins_foreign bytes q (broken_begins bytes p is) also)
only bytes (Broken p) (Broken q) is also = ap Broken (broken_once bytes p q is also)

-- where the body goes on to the end
ended_open : (bytes front body : List ℕ) → IsOpenEnded bytes front body → (frames : List (List ℕ)) (end : List ℕ) → body ≡ spelled frames ++ end → All IsFrame frames → IsEnd end → (verdict : Verdict) × Judges bytes verdict
ended_open bytes front body straight frames [] spelling each is = absurd is
ended_open bytes front body straight frames (gate ∷ rest) spelling each (inl shut) = (
  Holds frames,
  record { front = front; body = body; free = rest; layout = inl straight; runs = record { gate = gate; shut = shut; spelling = spelling; each = each } },
)
ended_open bytes front body straight frames (gate ∷ rest) spelling each (inr bad) = (
  Broken (length front + length (spelled frames)),
  record {
    front = front;
    body = body;
    within = length (spelled frames);
    at = refl;
    bad = inl (straight, record { frames = frames; rest = rest; spelling = spelling ∙ ap (λ (g : ℕ). spelled frames ++ g ∷ rest) bad.0; at = refl; each = each; none = bad.1 });
  },
)

-- where it is that of a moved log
ended_moved : (bytes front body : List ℕ) → IsMoved bytes front body → (frames : List (List ℕ)) (end : List ℕ) → body ≡ spelled frames ++ end → All IsFrame frames → IsEnd end → (verdict : Verdict) × Judges bytes verdict
ended_moved bytes front body moved frames [] spelling each is = absurd is
ended_moved bytes front body moved frames (gate ∷ []) spelling each (inl shut) = (
  Holds frames,
  record { front = front; body = body; free = []; layout = inr (moved, refl); runs = record { gate = gate; shut = shut; spelling = spelling; each = each } },
)
ended_moved bytes front body moved frames (gate ∷ next ∷ rest) spelling each (inl shut) = (
  Broken (length front + length (spelled frames)),
  record {
    front = front;
    body = body;
    within = length (spelled frames);
    at = refl;
    bad = inr (moved, inr (record { frames = frames; free = next ∷ rest; runs = record { gate = gate; shut = shut; spelling = spelling; each = each }; at = refl; some = omega arith }));
  },
)
ended_moved bytes front body moved frames (gate ∷ rest) spelling each (inr bad) = (
  Broken (length front + length (spelled frames)),
  record {
    front = front;
    body = body;
    within = length (spelled frames);
    at = refl;
    bad = inr (moved, inl (record { frames = frames; rest = rest; spelling = spelling ∙ ap (λ (g : ℕ). spelled frames ++ g ∷ rest) bad.0; at = refl; each = each; none = bad.1 }));
  },
)

all_in : (first limit : ℕ) (bytes : List ℕ) → All IsByte bytes → All IsByte (body_in first limit bytes)
all_in first limit bytes all = All-drop IsByte first (take limit bytes) (All-take IsByte limit bytes all)

long_in : (first limit : ℕ) (bytes : List ℕ) → first < limit → limit ≤ length bytes → 1 ≤ length (body_in first limit bytes)
long_in first limit bytes some within = omega (arith, length-drop first (take limit bytes), length-take limit bytes)

open_verdict : (first : ℕ) (bytes front : List ℕ) → first < length bytes → IsOpenEnded bytes front (body_in first (length bytes) bytes) → All IsByte bytes → (verdict : Verdict) × Judges bytes verdict
open_verdict first bytes front some straight all =
    let body = body_in first (length bytes) bytes in
    let ends = ended (length body) body (omega arith) (long_in first (length bytes) bytes some (omega arith)) (all_in first (length bytes) bytes all) in
    ended_open bytes front body straight ends.frames ends.end ends.spelling ends.each ends.is

no_body : (place size : ℕ) → NoBody place size ⊎ (NoBody place size → ⊥)
no_body place size = elim (cases_lt place 11) [
  | inl low ↦ inl (inl low)
  | inr not_low ↦ elim (cases_lt size (place + 9)) [
    | inl high ↦ inl (inr (inl high))
    | inr not_high ↦ elim (cases_lt (place + place) (size + 2)) [
      | inl tight ↦ inl (inr (inr tight))
      | inr not_tight ↦ inr (there not_low not_high not_tight)
    ]
  ]
]
  where
    there : 11 ≤ place → place + 9 ≤ size → size + 2 ≤ place + place → NoBody place size → ⊥
    there a b c (inl low) = omega (arith, a, low)
    there a b c (inr (inl high)) = omega (arith, b, high)
    there a b c (inr (inr tight)) = omega (arith, c, tight)

moved_verdict : (bytes : List ℕ) → 11 ≤ length bytes → take 8 bytes ≡ magic → get_or bytes 8 0 ≢ 1 → get_or bytes 9 0 ≡ 43 → All IsByte bytes → (verdict : Verdict) × Judges bytes verdict
moved_verdict bytes long begins newer plus all = by (no_body (told_place bytes) (length bytes))
  where
    by : NoBody (told_place bytes) (length bytes) ⊎ (NoBody (told_place bytes) (length bytes) → ⊥) → (verdict : Verdict) × Judges bytes verdict
    by (inl none) = (Foreign 9, inr (record { long = long; at = refl; newer = record { begins = begins; newer = newer }; plus = plus; none = none }))
    by (inr there) =
        let first = told_place bytes in
        let limit = length bytes - 8 in
        let body = body_in first limit bytes in
        let moved = is_moved bytes first limit (omega (arith, long)) long begins newer plus refl there in
        let ends = ended (length body) body (omega arith) moved.some (all_in first limit bytes all) in
        ended_moved bytes (take first bytes) body moved ends.frames ends.end ends.spelling ends.each ends.is

head_verdict : (bytes : List ℕ) → 10 ≤ length bytes → take 8 bytes ≡ magic → All IsByte bytes → (verdict : Verdict) × Judges bytes verdict
head_verdict bytes long begins all = elim (cases_eq (get_or bytes 8 0) 1) [
  | inl one ↦ open_verdict 9 bytes (magic ++ 1 ∷ []) (omega arith) (inl (is_first bytes (length bytes) refl long begins one)) all
  | inr newer ↦ elim (cases_eq (length bytes) 10) [
    | inl ten ↦ (Foreign 10, inl (inr (inr (ten, refl, record { begins = begins; newer = newer }))))
    | inr more ↦ elim (cases_eq (get_or bytes 9 0) 43) [
      | inl plus ↦ moved_verdict bytes (omega (arith, long, more)) begins newer plus all
      | inr off ↦ open_verdict 10 bytes (head (get_or bytes 8 0) (get_or bytes 9 0)) (omega (arith, long, more)) (inr (is_plain bytes (length bytes) refl long begins newer off)) all
    ]
  ]
]

pub some : (bytes : List ℕ) → All IsByte bytes → (verdict : Verdict) × Judges bytes verdict
some bytes all = elim (cases_eq (length bytes) 0) [
  | inl nought ↦ (Blank, nought)
  | inr filled ↦ elim (cases_lt (length bytes) 10) [
    | inl short ↦ (Foreign (length bytes), inl (inl (omega arith, omega arith, refl)))
    | inr long ↦ elim (differs_at magic bytes (omega arith)) [
      | inl same ↦ head_verdict bytes long same all
      | inr d ↦ (Foreign d.0, inl (inr (inl (long, d.1, d.2, d.3))))
    ]
  ]
]
