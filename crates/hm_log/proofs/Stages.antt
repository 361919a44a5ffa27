-- What a stop leaves in each of the two steps of an append.
use Rattle.std.proofs.Common.{◌≡◌, inl, inr, ℕ, ◌+◌, List, [], ◌∷◌, ◌++◌, ◌≢◌, length, take, refl, sym, ◌∙◌, ap, subst, arith, append_assoc, length-append}
use Rattle.std.proofs.lemmas.List.Elements.{All-append}
use Rattle.std.proofs.lemmas.Bool.{cases_eq}
use Rattle.hm_disk.specs.Disk.{written, Torn}
use Rattle.hm_disk.proofs.Splice.{torn_end, torn_over, written_end, written_over}
use Rattle.hm_log.specs.Format.{head, spelled, image_of, IsFrame, Reads, IsWhole}
use Rattle.hm_log.specs.Run.{IsRun, BeforeOrAll}
use Rattle.hm_log.proofs.Layouts.{plain_reads}
use Rattle.hm_log.proofs.Spelling.{length-run, opened_log, spelled-append}

module _ (at : ℕ) (frames : List (List ℕ)) (file : List ℕ) (whole : IsWhole file at frames) where
  abbrev ten : List ℕ
  ten = head whole.version whole.selector

  abbrev front : List ℕ
  front = ten ++ spelled frames

  -- what reads as the frames, as it does: another gate that is closed, and anything after it
  reads_with : (gate : ℕ) → gate ≢ 43 → (free c : List ℕ) → c ≡ front ++ gate ∷ free → Reads c frames
  reads_with gate shut free c is = plain_reads whole.version whole.selector gate whole.newer whole.off shut frames whole.each free c (is ∙ append_assoc ten (spelled frames) (gate ∷ free))

  pub ten_are : take 10 file ≡ ten
  ten_are = ap (λ (l : List ℕ). take 10 l) whole.spelling

  pub length_whole : length file ≡ at + 1
  length_whole = omega (arith, ap length whole.spelling, length-append front (whole.gate ∷ []), whole.place)

  pub whole_reads : Reads file frames
  whole_reads = reads_with whole.gate whole.shut [] file whole.spelling

  -- after the closed gate anything may stand
  pub behind_reads : (tail c : List ℕ) → c ≡ file ++ tail → Reads c frames
  behind_reads tail c is = reads_with whole.gate whole.shut tail c (is ∙ ap (λ (l : List ℕ). l ++ tail) whole.spelling ∙ append_assoc front (whole.gate ∷ []) tail)

  pub torn_behind : (n : ℕ) (c : List ℕ) → Torn (at + 1) n file c → Reads c frames
  torn_behind n c torn =
      let split = torn_end (at + 1) n file c (sym length_whole) torn in
      behind_reads split.0 c split.1

  module _ (run : List ℕ) where
    -- the file with a run after its closed gate
    abbrev pub staged : List ℕ
    staged = front ++ whole.gate ∷ [] ++ run

    pub written_behind : written (at + 1) run file ≡ staged
    written_behind = written_end (at + 1) file run (sym length_whole) ∙ ap (λ (l : List ℕ). l ++ run) whole.spelling

    module _ (more : List (List ℕ)) (is : IsRun run more) where
      pub written_log : written at (43 ∷ []) staged ≡ ten ++ image_of (frames ++ more)
      written_log = written_over at front (whole.gate ∷ []) (43 ∷ []) run whole.place refl ∙ opened_log ten frames run more is

      -- a gate of any value in front of the run
      with_gate : (gate : ℕ) → BeforeOrAll frames more (front ++ gate ∷ [] ++ run)
      with_gate gate = elim (cases_eq gate 43) [
        | inl open_is ↦ inr (plain_reads whole.version whole.selector 45 whole.newer whole.off (omega arith) (frames ++ more) (All-append IsFrame frames more whole.each is.each) [] _
            (ap (λ (g : ℕ). front ++ g ∷ [] ++ run) open_is ∙ opened_log ten frames run more is))
        | inr shut ↦ inl (reads_with gate shut run _ (append_assoc front (gate ∷ []) run))
      ]

      -- the gate may be torn, and nothing else
      pub torn_gate : (c : List ℕ) → Torn at 1 staged c → BeforeOrAll frames more c
      torn_gate c torn =
          let split = torn_over at 1 front (whole.gate ∷ []) run c whole.place refl torn in
          one split.0 split.1 split.2
        where
          one : (new : List ℕ) → length new ≡ 1 → c ≡ front ++ new ++ run → BeforeOrAll frames more c
          one [] is so = absurd (cc)
          one (g ∷ []) is so = subst (BeforeOrAll frames more) (sym so) (with_gate g)
          one (g ∷ h ∷ new) is so = absurd (omega arith)

      pub written_gate : IsWhole (written at (43 ∷ []) staged) (at + length run) (frames ++ more)
      written_gate = record {
        version = whole.version;
        selector = whole.selector;
        gate = 45;
        newer = whole.newer;
        off = whole.off;
        shut = omega arith;
        spelling = written_log ∙ sym (append_assoc ten (spelled (frames ++ more)) (45 ∷ []));
        place = omega (arith, whole.place, length-append ten (spelled frames), length-append ten (spelled (frames ++ more)), ap length (spelled-append frames more), length-append (spelled frames) (spelled more), length-run run more is);
        each = All-append IsFrame frames more whole.each is.each;
      }
