-- Who waits for a timer.
use Rattle.std.proofs.Common.{◌≡◌, ℕ, ◌+◌, ◌<◌, ◌≤◌, ◌==◌, ◌&&◌, List, [], ◌∷◌, length, Option, Some, None, false, if◌then◌else◌, nat_le, refl, ap, sym, subst, ◌∙◌, inl, inr, arith}
use Rattle.std.proofs.lemmas.Bool.{and_from, cases_Bool, cond-false, cond-true, eq-eqb, le-leb, leb-true, true≢false}
use Rattle.std.proofs.lemmas.Option.{none-some, same_Some}
use Rattle.hm_data.specs.declared.entry.Entry.{Entry}
use Rattle.hm_data.specs.declared.entry.Entry.TheVariants as entry_is
use Rattle.hm_model.specs.Journal.{Past}
use Rattle.hm_model.specs.Laws.{is_part}
use Rattle.hm_model.specs.Places.{has_failed, one_more, tries_of}
use Rattle.hm_tied.specs.Clock.{ClocksGoOn, DuesStay, FailuresSet, Tock, due_if, fails, last_failed, newest, tock_at, wait_of}

-- the last failure is the same
failed_same : (entry : Entry) (J : Past) (p : ℕ) → is_part entry ≡ false → fails entry p ≡ false → last_failed (entry ∷ J) p ≡ last_failed J p
failed_same (entry_is.Start sheets) J p part none = refl
failed_same (entry_is.Submit nonce request) J p part none = refl
failed_same (entry_is.Step pid pick out) J p part none =
    cond-false ((p == pid.0) && has_failed out.place) (Some (length J, one_more (tries_of J p))) (last_failed J p) none
failed_same (entry_is.Undo pid row out) J p part none = refl
failed_same (entry_is.Report call told) J p part none = refl
failed_same (entry_is.Up server) J p part none = refl
failed_same (entry_is.Down server) J p part none = refl
failed_same (entry_is.Abort pid) J p part none = refl
failed_same (entry_is.Base piece) J p part none = absurd (true≢false part)
failed_same (entry_is.Adopt sheets) J p part none = refl

pub dues_stay : DuesStay
dues_stay clock entry J p part none = ap (due_if clock) (failed_same entry J p part none)

-- a failure stands in the journal
failed_within : (J : Past) (p : ℕ) (failed : ℕ × ℕ) → last_failed J p ≡ Some failed → failed.0 < length J
failed_within [] p failed e = absurd (none-some failed e)
failed_within (entry_is.Step pid pick out ∷ J) p failed e = elim (cases_Bool ((p == pid.0) && has_failed out.place)) [
  | inl on ↦ (let same = same_Some (length J, one_more (tries_of J p)) failed (sym (cond-true ((p == pid.0) && has_failed out.place) (Some (length J, one_more (tries_of J p))) (last_failed J p) on) ∙ e) in
      omega (arith, ap (λ (f : ℕ × ℕ). f.0) same))
  | inr off ↦ (let older = failed_within J p failed (sym (cond-false ((p == pid.0) && has_failed out.place) (Some (length J, one_more (tries_of J p))) (last_failed J p) off) ∙ e) in omega (arith, older))
]
failed_within (entry_is.Base part ∷ J) p failed e = absurd (none-some failed e)
failed_within (entry_is.Start sheets ∷ J) p failed e = let older = failed_within J p failed e in omega (arith, older)
failed_within (entry_is.Submit nonce request ∷ J) p failed e = let older = failed_within J p failed e in omega (arith, older)
failed_within (entry_is.Undo pid row out ∷ J) p failed e = let older = failed_within J p failed e in omega (arith, older)
failed_within (entry_is.Report call told ∷ J) p failed e = let older = failed_within J p failed e in omega (arith, older)
failed_within (entry_is.Up server ∷ J) p failed e = let older = failed_within J p failed e in omega (arith, older)
failed_within (entry_is.Down server ∷ J) p failed e = let older = failed_within J p failed e in omega (arith, older)
failed_within (entry_is.Abort pid ∷ J) p failed e = let older = failed_within J p failed e in omega (arith, older)
failed_within (entry_is.Adopt sheets ∷ J) p failed e = let older = failed_within J p failed e in omega (arith, older)

-- what is beyond isn't reached
unreached : (a b : ℕ) → b < a → nat_le a b ≡ false
unreached a b beyond = elim (cases_Bool (nat_le a b)) [
  | inl on ↦ (let le = leb-true a b on in absurd (omega (arith, le, beyond)))
  | inr off ↦ off
]

pub clocks_go_on : ClocksGoOn
clocks_go_on clock tock J p here = by (last_failed J p) (failed_within J p)
  where
    by : (o : Option (ℕ × ℕ)) → ((failed : ℕ × ℕ) → o ≡ Some failed → failed.0 < length J) → due_if (tock ∷ clock) o ≡ due_if clock o
    by None within = refl
    by (Some failed) within =
        let before = within failed refl in
        let off = unreached tock.length failed.0 (subst (λ n. failed.0 < n) (sym here) before) in
        ap (λ (at : Tock). if at.wait == 0 then None else Some (at.now + wait_of at.wait failed.1)) (cond-false (nat_le tock.length failed.0) tock (tock_at clock failed.0) off)

-- the newest event is in force
newest_on : (clock : List Tock) (n : ℕ) → (let last = newest clock in last.length ≤ n) → tock_at clock n ≡ newest clock
newest_on [] n before = refl
newest_on (tock ∷ older) n before = cond-true (nat_le tock.length n) tock (tock_at older n) (le-leb tock.length n before)

pub failures_set : FailuresSet
failures_set clock pid pick out J failed before =
    ap (due_if clock) (cond-true ((pid.0 == pid.0) && has_failed out.place) (Some (length J, one_more (tries_of J pid.0))) (last_failed J pid.0)
    (and_from (pid.0 == pid.0) (has_failed out.place) (eq-eqb pid.0 pid.0 refl) failed))
    ∙ ap (λ (at : Tock). if at.wait == 0 then None else Some (at.now + wait_of at.wait (one_more (tries_of J pid.0)))) (newest_on clock (length J) before)
