-- The frames after a place of a whole log.
use Rattle.std.proofs.Common.{◌≡◌, inl, inr, ℕ, ◌+◌, ◌≤◌, List, [], ◌∷◌, ◌++◌, length, take, drop, refl, sym, ◌∙◌, ap, arith, append_assoc, length-append, take-append-drop}
use Rattle.std.proofs.lemmas.List.{length-drop, drop_at, take_all, take-append-le}
use Rattle.std.proofs.lemmas.List.Elements.{All-drop}
use Rattle.std.specs.Prelude.{sum_by}
use Rattle.hm_log.specs.Format.{head, spelled, IsFrame, IsWhole, IsOpenBad, RunsTo}
use Rattle.hm_log.specs.Pieces.{body_in}
use Rattle.hm_log.specs.Tail.{IsCursor}
use Rattle.hm_log.specs.declared.tail.Cursor.{Cursor}
use Rattle.hm_log.proofs.Ends.{same_ends, head_of}
use Rattle.hm_log.proofs.Spelling.{length-spelled, spelled-append}
use Rattle.hm_log.proofs.Stages.{length_whole}

module _ (seen : List ℕ) (gate : ℕ) (frames : List (List ℕ)) (whole : IsWhole seen gate frames) where
  ten : List ℕ
  ten = head whole.version whole.selector

  -- after a cursor the other frames stand, up to the closed gate
  pub tail_runs : (cursor : Cursor) → IsCursor frames cursor → RunsTo (body_in cursor.place (gate + 1) seen) (drop cursor.number frames) []
  unfolding ten
  tail_runs cursor is =
      let first : List (List ℕ) = take cursor.number frames in
      let others : List (List ℕ) = drop cursor.number frames in
      let front : List ℕ = head whole.version whole.selector ++ spelled first in
      let back : List ℕ = spelled others ++ whole.gate ∷ [] in
      let parts : spelled frames ≡ spelled first ++ spelled others = ap spelled (sym (take-append-drop cursor.number frames)) ∙ spelled-append first others in
      let split : seen ≡ front ++ back =
      whole.spelling
      ∙ ap (λ (l : List ℕ). head whole.version whole.selector ++ l ++ whole.gate ∷ []) parts
      ∙ ap (λ (l : List ℕ). l ++ whole.gate ∷ []) (sym (append_assoc (head whole.version whole.selector) (spelled first) (spelled others)))
      ∙ append_assoc front (spelled others) (whole.gate ∷ []) in
      let long : length front ≡ cursor.place = omega (arith, is.at, length-append (head whole.version whole.selector) (spelled first), length-spelled first) in
      record {
        gate = whole.gate;
        shut = whole.shut;
        spelling =
            ap (λ (l : List ℕ). drop cursor.place l) (take_all (gate + 1) seen (omega (arith, length_whole gate frames seen whole)))
            ∙ ap (λ (l : List ℕ). drop cursor.place l) split
            ∙ drop_at front back cursor.place long;
        each = All-drop IsFrame cursor.number frames whole.each;
      }

  -- a cursor is before the closed gate, or at it
  pub tail_within : (cursor : Cursor) → IsCursor frames cursor → cursor.place ≤ gate
  tail_within cursor is =
      let runs = tail_runs cursor is in
      let size : length seen ≡ gate + 1 = length_whole gate frames seen whole in
      let all : length (take (gate + 1) seen) ≡ length seen = ap length (take_all (gate + 1) seen (omega (arith, size))) in
      omega (arith, ap length runs.spelling, length-drop cursor.place (take (gate + 1) seen), all, size, length-append (spelled (drop cursor.number frames)) (runs.gate ∷ []))

  -- the cursor after all frames
  pub tail_end : (cursor : Cursor) → cursor.place ≡ gate → cursor.number ≡ length frames → IsCursor frames cursor
  tail_end cursor place number = record {
    within = omega (arith, number);
    at =
        place
        ∙ omega (arith, whole.place, length-append (head whole.version whole.selector) (spelled frames), length-spelled frames)
        ∙ ap (λ (fs : List (List ℕ)). 10 + sum_by (λ (f : List ℕ). length f + 5) fs) (sym (take_all cursor.number frames (omega (arith, number))));
  }

-- a cursor stays one while frames are added
pub cursor_stays : (frames more : List (List ℕ)) (cursor : Cursor) → IsCursor frames cursor → IsCursor (frames ++ more) cursor
cursor_stays frames more cursor is = record {
  within = omega (arith, is.within, length-append frames more);
  at = is.at ∙ ap (λ (fs : List (List ℕ)). 10 + sum_by (λ (f : List ℕ). length f + 5) fs) (sym (take-append-le cursor.number frames more is.within));
}

-- a body runs to one closed gate
pub same_runs : (body : List ℕ) (fs gs : List (List ℕ)) (free other : List ℕ) → RunsTo body fs free → RunsTo body gs other → (fs ≡ gs) × (length free ≡ length other)
same_runs body fs gs free other one also =
    let same = same_ends fs gs (one.gate ∷ free) (also.gate ∷ other) one.each also.each (inl one.shut) (inl also.shut) (sym one.spelling ∙ also.spelling) in
    (same.0, omega (arith, ap length same.1))

-- it has no open gate without a frame
pub runs_well : (body : List ℕ) (frames : List (List ℕ)) (free : List ℕ) (at : ℕ) → RunsTo body frames free → IsOpenBad body at → ⊥
runs_well body frames free at runs bad =
    let same = same_ends frames bad.frames (runs.gate ∷ free) (43 ∷ bad.rest) runs.each bad.each (inl runs.shut) (inr (refl, bad.none)) (sym runs.spelling ∙ bad.spelling) in
    runs.shut (head_of runs.gate 43 free bad.rest same.1)

-- the closed gate at its end, where nothing follows
pub runs_end : (body : List ℕ) (frames more : List (List ℕ)) (free : List ℕ) → RunsTo body frames free → RunsTo body more [] → length (spelled frames) + 1 ≡ length body
runs_end body frames more free runs whole =
    let same = same_runs body frames more free [] runs whole in
    omega (arith, ap length runs.spelling, length-append (spelled frames) (runs.gate ∷ free), same.1)
