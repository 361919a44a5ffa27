-- Runs of writes within one range.
use Rattle.std.proofs.Common.{◌≡◌, ℕ, ◌+◌, ◌-◌, ◌≤◌, List, [], ◌∷◌, ◌++◌, length, take, drop, sym, ◌∙◌, ap, subst, arith, append_assoc, length-append}
use Rattle.std.proofs.lemmas.List.{take_at, drop_at, drop-drop, take-take, length-take}
use Rattle.hm_disk.specs.declared.disk.Disk as Disk
use Rattle.hm_disk.specs.Disk.{written, Torn, Elapses, Follows, Only}
use Rattle.hm_disk.proofs.Moments.{started, one_call, joined}
use Rattle.hm_disk.proofs.Splice.{torn_same}
use Rattle.std.proofs.lemmas.List.{append-nil, take_more}
use Rattle.std.proofs.lemmas.List.Sums.{sum_by-take-drop}
use Rattle.std.proofs.lemmas.Option.{get_or_from_slice_get, slice_get_within}
use Rattle.std.specs.Prelude.{slice_get, Some}
use Rattle.hm_log.specs.Format.{laid, spelled, image_size}
use Rattle.hm_log.specs.Moving.{WritesWithin}
use Rattle.hm_log.specs.Opening.{IsUsed}
use Rattle.hm_log.proofs.Spelling.{length-spelled, spelled-append}

-- a write within the range of another, after it
pub torn_then : (from n at k : ℕ) (base mid new : List ℕ) → from ≤ at → at + k ≤ from + n → Torn from n base mid → Torn at k mid new → Torn from n base new
torn_then from n at k base mid new low high first second =
    let gap = (from + n) - (at + k) in
    let sum : at + k + gap ≡ from + n = omega (arith, high) in
    let later : (l : List ℕ) → drop (from + n) l ≡ drop gap (drop (at + k) l) = λ l. ap (λ (m : ℕ). drop m l) (sym sum) ∙ sym (drop-drop gap (at + k) l) in
    record {
      before = sym (take-take from at new low) ∙ ap (λ (l : List ℕ). take from l) second.before ∙ take-take from at mid low ∙ first.before;
      after = later new ∙ ap (λ (l : List ℕ). drop gap l) second.after ∙ sym (later mid) ∙ first.after;
      no_shorter = omega (arith, first.no_shorter, second.no_shorter);
      no_longer = omega (arith, first.no_longer, second.no_longer, high);
    }

-- two writes, one after the other
pub written_then : (at to : ℕ) (first second old : List ℕ) → at ≤ length old → to ≡ at + length first → written to second (written at first old) ≡ written at (first ++ second) old
written_then at to first second old low is =
    let front : List ℕ = take at old in
    let rest : List ℕ = drop (at + length first) old in
    let begun : length (front ++ first) ≡ to = omega (arith, is, length-append front first, length-take at old, low) in
    let next : drop (to + length second) (front ++ first ++ rest) ≡ drop (at + length (first ++ second)) old =
    sym (drop-drop (length second) to (front ++ first ++ rest))
    ∙ ap (λ (l : List ℕ). drop (length second) l) (drop_at (front ++ first) rest to begun)
    ∙ drop-drop (length second) (at + length first) old
    ∙ ap (λ (m : ℕ). drop m old) (omega (arith, length-append first second)) in
    ap (λ (l : List ℕ). l ++ second ++ drop (to + length second) (front ++ first ++ rest)) (take_at (front ++ first) rest to begun)
    ∙ ap (λ (l : List ℕ). front ++ first ++ second ++ l) next
    ∙ ap (λ (l : List ℕ). l ++ drop (at + length (first ++ second)) old) (append_assoc front first second)

-- one frame more is laid out after those that were
pub laid_next : (frames : List (List ℕ)) (i : ℕ) (frame done front was before after : List ℕ) → slice_get frames i ≡ Some frame → done ++ was ≡ spelled (take i frames) → front ++ before ≡ was → after ≡ before ++ 43 ∷ laid frame
    → (done ++ front) ++ after ≡ spelled (take (i + 1) frames)
laid_next frames i frame done front was before after there so_far parts is =
    let tail : List ℕ = 43 ∷ laid frame in
    ap (λ (l : List ℕ). (done ++ front) ++ l) is
    ∙ append_assoc done front (before ++ tail)
    ∙ ap (λ (l : List ℕ). done ++ l) (sym (append_assoc front before tail) ∙ ap (λ (l : List ℕ). l ++ tail) parts)
    ∙ sym (append_assoc done was tail)
    ∙ ap (λ (l : List ℕ). l ++ tail) so_far
    ∙ ap (λ (l : List ℕ). spelled (take i frames) ++ 43 ∷ l) (sym (append-nil (laid frame)))
    ∙ sym (spelled-append (take i frames) (frame ∷ []))
    ∙ ap spelled (ap (λ (f : List ℕ). take i frames ++ f ∷ []) (sym (get_or_from_slice_get frames i frame [] there)) ∙ sym (take_more frames i [] (slice_get_within frames i frame there)))

-- what is laid out of an image is shorter than it
pub laid_within : (frames : List (List ℕ)) (i : ℕ) (done was : List ℕ) → done ++ was ≡ spelled (take i frames) → length done + length was + 1 ≤ image_size frames
laid_within frames i done was so_far =
    omega (arith, ap length so_far, length-append done was, length-spelled (take i frames), sum_by-take-drop (λ (f : List ℕ). length f + 5) frames i)

pub used_then : {D Setting : Type 0} (disk : Disk.Ghosts D Setting) (old mid new : D) → IsUsed disk old mid → IsUsed disk mid new → IsUsed disk old new
used_then disk old mid new first second = record { fault = omega (arith, first.fault, second.fault); later = omega (arith, first.later, second.later); setting = second.setting ∙ first.setting }

module _ {D Setting : Type 0} (disk : Disk.Ghosts D Setting) (only_now : (d : D) (c : List ℕ) → disk.left_since d (disk.moment d) c → disk.image d c) where
  -- before the first write
  pub run_starts : (start : D) (at n : ℕ) → Only (disk.seen start) (disk.image start) → WritesWithin disk at n (disk.seen start) start start
  run_starts start at n only =
      let here : (c : List ℕ) → disk.image start c → Torn at n (disk.seen start) c = λ c image. subst (λ (f : List ℕ). Torn at n (disk.seen start) f) (sym (only c image)) (torn_same at n (disk.seen start)) in
      record {
        images = here;
        leaves = started disk.moment disk.left_since start (λ c. Torn at n (disk.seen start) c) (λ c left. here c (only_now start c left));
      }

  -- one write more
  pub run_goes_on : (from n at k : ℕ) (base : List ℕ) (start old new : D) → from ≤ at → at + k ≤ from + n → Follows (Torn at k) (disk.image old) (disk.image new)
      → Elapses (disk.moment old) (disk.moment new) (disk.left_since old) (disk.left_since new) (disk.image new) → WritesWithin disk from n base start old → WritesWithin disk from n base start new
  run_goes_on from n at k base start old new low high follows time so_far =
      let here : (c : List ℕ) → disk.image new c → Torn from n base c =
      λ c image. let was = follows c image in torn_then from n at k base was.0 c low high (so_far.images was.0 was.1) was.2 in
      record {
        images = here;
        leaves = joined disk.moment disk.left_since start old new (λ c. Torn from n base c) so_far.leaves
            (one_call disk.moment disk.left_since old new (λ c. Torn from n base c) (disk.image new) time (λ c left. so_far.images c (only_now old c left)) here);
      }

  -- a call that changes nothing
  pub run_waits : (from n : ℕ) (base : List ℕ) (start old new : D) → ((c : List ℕ) → disk.image new c → disk.image old c)
      → Elapses (disk.moment old) (disk.moment new) (disk.left_since old) (disk.left_since new) (disk.image new) → WritesWithin disk from n base start old → WritesWithin disk from n base start new
  run_waits from n base start old new same time so_far =
      let here : (c : List ℕ) → disk.image new c → Torn from n base c = λ c image. so_far.images c (same c image) in
      record {
        images = here;
        leaves = joined disk.moment disk.left_since start old new (λ c. Torn from n base c) so_far.leaves
            (one_call disk.moment disk.left_since old new (λ c. Torn from n base c) (disk.image new) time (λ c left. so_far.images c (only_now old c left)) here);
      }
