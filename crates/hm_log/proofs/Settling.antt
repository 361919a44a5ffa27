-- What each step of an opening leaves, from what the step before it has left.
use Rattle.std.proofs.Common.{◌≡◌, ◌⊎◌, inl, inr, ℕ, ◌+◌, ◌≤◌, List, [], ◌∷◌, ◌++◌, length, take, refl, sym, ◌∙◌, ap, subst, arith, append_assoc, length-append}
use Rattle.std.proofs.lemmas.List.{take_at}
use Rattle.hm_disk.specs.Disk.{CutOrWhole, LeavesOnly, LeavesThen}
use Rattle.hm_disk.proofs.Moments.{weaker, joined, then_now, then_stays, then_weaker, earlier_weaker}
use Rattle.hm_disk.proofs.Splice.{cut_end}
use Rattle.hm_log.specs.Format.{head, spelled, log_of, IsFrame, size_with, IsFirst, IsPlain, Reads, IsWhole, IsClean, HoldsFrames}
use Rattle.hm_log.specs.Moving.{IsWholeFirst}
use Rattle.hm_log.specs.Opening.{IsMaking, Reopens, Settles}
use Rattle.hm_log.specs.Pieces.{IsFound, ReadsTo}
use Rattle.hm_log.specs.declared.pieces.Layout.{Layout}
use Rattle.hm_log.specs.declared.pieces.Layout.TheVariants.{Blank, First, Plain, Moved}
use Rattle.hm_log.proofs.Layouts.{moved_reads}
use Rattle.hm_log.proofs.Listed.{one_list}
use Rattle.hm_log.proofs.Moves.{written_whole}
use Rattle.hm_log.proofs.Stages.{length_whole, whole_reads}
use Rattle.std.specs.Prelude.{All}
use Rattle.hm_log.proofs.Spelling.{length-spelled}

-- the eleven bytes of a new log
abbrev pub new_log : List ℕ
new_log = 72 ∷ 77 ∷ 65 ∷ 83 ∷ 84 ∷ 69 ∷ 82 ∷ 74 ∷ 2 ∷ 45 ∷ 45 ∷ []

pub empty : (l : List ℕ) → length l ≡ 0 → l ≡ []
empty [] is = refl
empty (x ∷ l) is = absurd (omega arith)

-- a log of version 1 after its frames
module _ (bytes : List ℕ) (gate : ℕ) (frames : List (List ℕ)) (free : List ℕ) (to : ReadsTo IsFirst bytes gate frames free) where
  pub first_reads_to : Reads bytes frames
  first_reads_to = record { front = to.front; body = to.body; free = free; layout = inl (inl to.lies); runs = to.runs }

  split : bytes ≡ (to.front ++ (spelled frames ++ to.runs.gate ∷ [])) ++ free
  split =
      to.lies.parts
      ∙ ap (λ (l : List ℕ). to.front ++ l) (to.runs.spelling ∙ sym (append_assoc (spelled frames) (to.runs.gate ∷ []) free))
      ∙ sym (append_assoc to.front (spelled frames ++ to.runs.gate ∷ []) free)

  ends : gate + 1 ≡ length (to.front ++ (spelled frames ++ to.runs.gate ∷ []))
  ends = omega (arith, to.place, length-append to.front (spelled frames ++ to.runs.gate ∷ []), length-append (spelled frames) (to.runs.gate ∷ []))

  pub first_cut : (c : List ℕ) → CutOrWhole (gate + 1) bytes c → Reads c frames
  first_cut c cut =
      let end = cut_end (gate + 1) (to.front ++ (spelled frames ++ to.runs.gate ∷ [])) free c ends (subst (λ (f : List ℕ). CutOrWhole (gate + 1) f c) split cut) in
      record {
        front = to.front;
        body = spelled frames ++ to.runs.gate ∷ end.0;
        free = end.0;
        layout = inl (inl (record { is = to.lies.is; parts = end.1 ∙ append_assoc to.front (spelled frames ++ to.runs.gate ∷ []) end.0 ∙ ap (λ (l : List ℕ). to.front ++ l) (append_assoc (spelled frames) (to.runs.gate ∷ []) end.0) }));
        runs = record { gate = to.runs.gate; shut = to.runs.shut; spelling = refl; each = to.runs.each };
      }

  pub first_whole : (now : List ℕ) → now ≡ take (gate + 1) bytes → IsWholeFirst now gate frames
  first_whole now is =
      let same : now ≡ to.front ++ (spelled frames ++ to.runs.gate ∷ []) =
      is ∙ ap (λ (f : List ℕ). take (gate + 1) f) split ∙ take_at (to.front ++ (spelled frames ++ to.runs.gate ∷ [])) free (gate + 1) (sym ends) in
      record {
        front = to.front;
        body = spelled frames ++ to.runs.gate ∷ [];
        first = record { is = to.lies.is; parts = same };
        runs = record { gate = to.runs.gate; shut = to.runs.shut; spelling = refl; each = to.runs.each };
        place = ends ∙ ap length (sym same);
      }

-- a plain log
module _ (bytes : List ℕ) (gate : ℕ) (frames : List (List ℕ)) (free : List ℕ) (to : ReadsTo IsPlain bytes gate frames free) where
  pub plain_reads_to : Reads bytes frames
  plain_reads_to = record { front = to.front; body = to.body; free = free; layout = inl (inr to.lies); runs = to.runs }

  plain_split : bytes ≡ (to.front ++ (spelled frames ++ to.runs.gate ∷ [])) ++ free
  plain_split =
      to.lies.parts
      ∙ ap (λ (l : List ℕ). to.front ++ l) (to.runs.spelling ∙ sym (append_assoc (spelled frames) (to.runs.gate ∷ []) free))
      ∙ sym (append_assoc to.front (spelled frames ++ to.runs.gate ∷ []) free)

  plain_ends : gate + 1 ≡ length (to.front ++ (spelled frames ++ to.runs.gate ∷ []))
  plain_ends = omega (arith, to.place, length-append to.front (spelled frames ++ to.runs.gate ∷ []), length-append (spelled frames) (to.runs.gate ∷ []))

  pub plain_bytes : gate + 1 ≡ size_with frames
  plain_bytes = omega (arith, to.place, ap length to.lies.is, length-spelled frames)

  pub plain_cut : (c : List ℕ) → CutOrWhole (gate + 1) bytes c → Reads c frames
  plain_cut c cut =
      let end = cut_end (gate + 1) (to.front ++ (spelled frames ++ to.runs.gate ∷ [])) free c plain_ends (subst (λ (f : List ℕ). CutOrWhole (gate + 1) f c) plain_split cut) in
      record {
        front = to.front;
        body = spelled frames ++ to.runs.gate ∷ end.0;
        free = end.0;
        layout = inl (inr (record {
          version = to.lies.version;
          selector = to.lies.selector;
          newer = to.lies.newer;
          off = to.lies.off;
          is = to.lies.is;
          parts = end.1 ∙ append_assoc to.front (spelled frames ++ to.runs.gate ∷ []) end.0 ∙ ap (λ (l : List ℕ). to.front ++ l) (append_assoc (spelled frames) (to.runs.gate ∷ []) end.0);
        }));
        runs = record { gate = to.runs.gate; shut = to.runs.shut; spelling = refl; each = to.runs.each };
      }

  pub plain_whole : (now : List ℕ) → now ≡ take (gate + 1) bytes → IsWhole now gate frames
  plain_whole now is =
      let same : now ≡ to.front ++ (spelled frames ++ to.runs.gate ∷ []) =
      is ∙ ap (λ (f : List ℕ). take (gate + 1) f) plain_split ∙ take_at (to.front ++ (spelled frames ++ to.runs.gate ∷ [])) free (gate + 1) (sym plain_ends) in
      let ten = head to.lies.version to.lies.selector in
      record {
        version = to.lies.version;
        selector = to.lies.selector;
        gate = to.runs.gate;
        newer = to.lies.newer;
        off = to.lies.off;
        shut = to.runs.shut;
        spelling = same ∙ ap (λ (l : List ℕ). l ++ (spelled frames ++ to.runs.gate ∷ [])) to.lies.is ∙ sym (append_assoc ten (spelled frames) (to.runs.gate ∷ []));
        place = omega (arith, to.place, ap length to.lies.is, length-append ten (spelled frames));
        each = to.runs.each;
      }

-- what was found reads so
pub found_holds : (bytes : List ℕ) (layout : Layout) (frames : List (List ℕ)) (gate : ℕ) → IsFound bytes layout frames gate → HoldsFrames bytes frames
found_holds bytes Blank frames gate found = inl found
found_holds bytes First frames gate found = inr (first_reads_to bytes gate frames found.0 found.1)
found_holds bytes Plain frames gate found = inr (plain_reads_to bytes gate frames found.0 found.1)
found_holds bytes Moved frames gate found = inr (moved_reads found.front found.body frames bytes found.lies found.runs)

-- a log as it is written is whole
pub log_whole : (frames : List (List ℕ)) → All IsFrame frames → (bytes : List ℕ) (at : ℕ) → at + 1 ≡ size_with frames → bytes ≡ log_of frames → IsWhole bytes at frames
log_whole frames each bytes at size is = written_whole 2 (omega arith) frames each bytes at (omega (arith, size)) is

-- a whole log has the size of its frames
pub clean_size : (bytes : List ℕ) (frames : List (List ℕ)) → IsClean bytes → Reads bytes frames → length bytes ≡ size_with frames
clean_size bytes frames clean reads =
    let at = clean.0 in
    let own = clean.1 in
    let whole = clean.2 in
    let same : own ≡ frames = one_list bytes own frames (whole_reads at own bytes whole) reads in
    omega (arith, length_whole at own bytes whole, whole.place, length-append (head whole.version whole.selector) (spelled own), length-spelled own)
    ∙ ap size_with same

module _ {D : Type 0} (moment : D → ℕ) (left_since : D → ℕ → List ℕ → Type 0) (old mid new : D) (file : List ℕ) (frames : List (List ℕ)) where
  abbrev OldOrMaking : List ℕ → Type 0
  OldOrMaking c = (c ≡ file) ⊎ IsMaking file c

  abbrev SameFrames : List ℕ → Type 0
  SameFrames c = Reads c frames

  pub settles_same : Reads file frames → LeavesOnly moment left_since old new SameFrames → Settles moment left_since file frames old new
  settles_same reads run = inr (reads, run)

  -- an opening that fails: what it was, or what is read alike, or a log in the making
  module _ (image : List ℕ → Type 0) (there : image file) (first : LeavesOnly moment left_since old mid image) where
    abbrev Left : List ℕ → Type 0
    Left c = image c ⊎ Reopens file c

    alike : Reads file frames → (c : List ℕ) → Reads c frames → Left c
    alike reads c now = inr (inl (record { frames = frames; was = reads; stays = λ others also. subst (λ (fs : List (List ℕ)). Reads c fs) (one_list file frames others reads also) now }))

    before : LeavesOnly moment left_since old mid Left
    before = weaker moment left_since old mid image Left (λ c is. inl is) first

    pub leaves_settling : Settles moment left_since file frames mid new → LeavesOnly moment left_since old new Left
    leaves_settling (inl (blank, run)) =
        joined moment left_since old mid new Left before
        (weaker moment left_since mid new OldOrMaking Left (λ c is. elim is [ inl same ↦ inl (subst image (sym same) there) | inr making ↦ inr (inr making) ]) run)
    leaves_settling (inr (reads, run)) =
        joined moment left_since old mid new Left before (weaker moment left_since mid new SameFrames Left (alike reads) run)

    -- one that succeeds
    abbrev Early : List ℕ → Type 0
    Early c = image c ⊎ IsMaking file c

    pub then_settling : LeavesThen moment left_since old mid image (λ c. c ≡ file) → Settles moment left_since file frames mid new → ((c : List ℕ) → left_since new (moment new) c → Reads c frames)
        → LeavesThen moment left_since old new Early SameFrames
    then_settling turn (inl (blank, run)) now =
        then_now moment left_since old new Early SameFrames
        (joined moment left_since old mid new Early
        (weaker moment left_since old mid image Early (λ c is. inl is) first)
        (weaker moment left_since mid new OldOrMaking Early (λ c is. elim is [ inl same ↦ inl (subst image (sym same) there) | inr making ↦ inr making ]) run))
        now
    then_settling turn (inr (reads, run)) now =
        then_stays moment left_since old mid new Early SameFrames
        (earlier_weaker moment left_since old mid image SameFrames Early (λ c was. inl was)
        (then_weaker moment left_since old mid image (λ c. c ≡ file) SameFrames (λ c same. subst SameFrames (sym same) reads) turn))
        run

  -- what it reads then
  pub seen_settling : Settles moment left_since file frames mid new → (now : List ℕ) → ((t : ℕ) → t ≤ moment new → left_since new t now) → (now ≡ file) ⊎ Reopens file now
  seen_settling (inl (blank, run)) now counts =
      elim (run.each now (counts (moment mid) run.later)) [ inl same ↦ inl same | inr making ↦ inr (inr making) ]
  seen_settling (inr (reads, run)) now counts =
      inr (inl (record { frames = frames; was = reads; stays = λ others also. subst (λ (fs : List (List ℕ)). Reads now fs) (one_list file frames others reads also) (run.each now (counts (moment mid) run.later)) }))
