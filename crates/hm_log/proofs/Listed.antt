-- The frames that a log reads as.
use Rattle.std.proofs.Common.{inl, inr, ◌≡◌, ◌≢◌, ℕ, zero, suc, ◌+◌, ◌≤◌, ◌<◌, List, [], ◌∷◌, ◌++◌, length, take, drop, refl, sym, ◌∙◌, ap, subst, arith, append_assoc, length-append}
use Rattle.std.proofs.lemmas.List.{take_at, drop_at, drop-drop}
use Rattle.std.proofs.lemmas.List.Elements.{All-head, All-tail}
use Rattle.std.proofs.lemmas.Nat.{from_le_bytes-to_le_bytes_4}
use Rattle.std.proofs.lemmas.Bool.Decides.{nat_tests}
use Rattle.std.specs.Prelude.{All}
use Rattle.hm_log.specs.Format.{size_bytes, laid, spelled, IsFrame, Reads, IsWhole, OldOrNew, size_of, frames_from, frames_of, first_gate}
use Rattle.hm_log.specs.Run.{BeforeOrAll}
use Rattle.hm_log.proofs.Layouts.{Lies, layout_of, lies_of, behind_front}
use Rattle.hm_log.proofs.Spelling.{length-size_bytes, spelled_fewer}
use Rattle.hm_log.proofs.Stages.{whole_reads}

pub size_of-size_bytes : (n : ℕ) (rest : List ℕ) → n ≤ 65536 → size_of (size_bytes n ++ rest) ≡ n
unfolding size_of size_bytes
size_of-size_bytes n rest le = from_le_bytes-to_le_bytes_4 n (omega arith)

pub frames_from-spelled : (frames : List (List ℕ)) (steps gate : ℕ) (rest : List ℕ) → length frames < steps → All IsFrame frames → gate ≢ 43 → frames_from steps (spelled frames ++ gate ∷ rest) ≡ frames
unfolding frames_from
frames_from-spelled [] zero gate rest lt each shut = absurd (omega arith)
frames_from-spelled [] (suc steps) gate rest lt each shut = grind (arith, nat_tests)
frames_from-spelled (f ∷ frames) zero gate rest lt each shut = absurd (omega arith)
frames_from-spelled (f ∷ frames) (suc steps) gate rest lt each shut =
    let tail : List ℕ = spelled frames ++ gate ∷ rest in
    let bytes : List ℕ = laid f ++ spelled frames ++ gate ∷ rest in
    let split : bytes ≡ size_bytes (length f) ++ (f ++ tail) = append_assoc (laid f) (spelled frames) (gate ∷ rest) ∙ append_assoc (size_bytes (length f)) f tail in
    let size : size_of bytes ≡ length f = ap size_of split ∙ size_of-size_bytes (length f) (f ++ tail) (All-head IsFrame f frames each).most in
    let behind : drop 4 bytes ≡ f ++ tail = ap (λ (l : List ℕ). drop 4 l) split ∙ drop_at (size_bytes (length f)) (f ++ tail) 4 (length-size_bytes (length f)) in
    let first : take (size_of bytes) (drop 4 bytes) ≡ f = ap (λ (n : ℕ). take n (drop 4 bytes)) size ∙ ap (λ (l : List ℕ). take (length f) l) behind ∙ take_at f tail (length f) refl in
    let others : drop (4 + size_of bytes) bytes ≡ tail = sym (drop-drop (size_of bytes) 4 bytes) ∙ ap (λ (n : ℕ). drop n (drop 4 bytes)) size ∙ ap (λ (l : List ℕ). drop (length f) l) behind ∙ drop_at f tail (length f) refl in
    (λ i. first i ∷ frames_from steps (others i)) ∙ ap (λ (l : List (List ℕ)). f ∷ l) (frames_from-spelled frames steps gate rest (omega arith) (All-tail IsFrame f frames each) shut)

-- how a log that reads as frames lies
pub reads_lies : (bytes : List ℕ) (frames : List (List ℕ)) (reads : Reads bytes frames) → Lies bytes reads.front reads.body
reads_lies bytes frames reads = lies_of bytes reads.front reads.body (layout_of bytes frames reads)

-- there is at most one list
pub frames_of-reads : (bytes : List ℕ) (frames : List (List ℕ)) → Reads bytes frames → frames_of bytes ≡ frames
unfolding frames_of
frames_of-reads bytes frames reads =
    let lies = reads_lies bytes frames reads in
    let gate = reads.runs.gate in
    let tail : List ℕ = reads.free ++ lies.behind in
    let here : drop (first_gate bytes) bytes ≡ spelled frames ++ gate ∷ tail =
    behind_front bytes reads.front reads.body lies ∙ ap (λ (l : List ℕ). l ++ lies.behind) reads.runs.spelling ∙ append_assoc (spelled frames) (gate ∷ reads.free) lies.behind in
    let long : length frames < length bytes =
    omega (arith, ap length lies.parts, length-append reads.front (reads.body ++ lies.behind), length-append reads.body lies.behind, ap length reads.runs.spelling, length-append (spelled frames) (gate ∷ reads.free), spelled_fewer frames) in
    ap (λ (l : List ℕ). frames_from (length bytes) l) here ∙ frames_from-spelled frames (length bytes) gate tail long reads.runs.each reads.runs.shut

pub one_list : (file : List ℕ) (frames others : List (List ℕ)) → Reads file frames → Reads file others → frames ≡ others
one_list file frames others reads also = sym (frames_of-reads file frames reads) ∙ frames_of-reads file others also

-- the frames of a whole file, as they are read
pub whole_as : (seen : List ℕ) (at : ℕ) (frames : List (List ℕ)) → IsWhole seen at frames → IsWhole seen at (frames_of seen)
whole_as seen at frames whole = subst (λ (fs : List (List ℕ)). IsWhole seen at fs) (sym (frames_of-reads seen frames (whole_reads at frames seen whole))) whole

-- a file that reads as some frames reads as its frames
pub reads_as : (seen : List ℕ) (frames : List (List ℕ)) → Reads seen frames → Reads seen (frames_of seen)
reads_as seen frames reads = subst (λ (fs : List (List ℕ)). Reads seen fs) (sym (frames_of-reads seen frames reads)) reads

pub reads_either : (frames more : List (List ℕ)) (seen : List ℕ) → BeforeOrAll frames more seen → Reads seen (frames_of seen)
reads_either frames more seen (inl before) = reads_as seen frames before
reads_either frames more seen (inr after) = reads_as seen (frames ++ more) after

pub reads_one_of : (old new : List (List ℕ)) (seen : List ℕ) → OldOrNew old new seen → Reads seen (frames_of seen)
reads_one_of old new seen (inl before) = reads_as seen old before
reads_one_of old new seen (inr after) = reads_as seen new after

-- one more frame, in the words of what it reads as
pub next_whole : (seen : List ℕ) (gate to : ℕ) (frames : List (List ℕ)) → IsWhole seen gate frames → gate ≡ to → IsWhole seen to (frames_of seen)
next_whole seen gate to frames whole is = subst (λ (n : ℕ). IsWhole seen n (frames_of seen)) is (whole_as seen gate frames whole)
