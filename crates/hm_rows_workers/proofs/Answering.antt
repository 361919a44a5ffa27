-- What each call of the hall of tasks answers and leaves.
use Rattle.std.proofs.Common.{◌≡◌, ◌≢◌, ◌⊎◌, inl, inr, ⊎_elim, ℕ, ◌+◌, ◌*◌, ◌^◌, ◌<◌, List, [], ◌∷◌, ◌++◌, length, set, Option, Some, None, Ok, false, true, refl, ap, sym, subst, ◌∙◌, arith}
use Rattle.std.specs.Prelude.{is_some, slice_get}
use Rattle.std.proofs.lemmas.Option.{none-some, slice_get_within}
use Rattle.hm_data.specs.declared.entry.Entry.{Entry}
use Rattle.hm_data.specs.declared.entry.Entry.TheVariants as entry_is
use Rattle.hm_data.specs.declared.sheet.Sheet.{Sheet}
use Rattle.hm_data.specs.declared.step.StepIn.{StepIn}
use Rattle.hm_data.specs.declared.step.StepOut.{StepOut}
use Rattle.hm_names.specs.declared.server.ServerName.{ServerName}
use Rattle.hm_hall.specs.declared.hall.Task.TheVariants as task_is
use Rattle.hm_hall.specs.declared.taken.Given.TheVariants as given_is
use Rattle.hm_hall.specs.declared.taken.Taken.{Taken}
use Rattle.hm_hall.specs.Hall.{ComesBack}
use Rattle.hm_lend.specs.Hall.{AnswersBack, AnswersGive, AnswersLend, AnswersTake, GetsBack, HallView, IsOut}
use Rattle.hm_lend.specs.Outs.{OutView, number_of}
use Rattle.hm_model.specs.Evaluation.{CanRun}
use Rattle.hm_rows_workers.specs.declared.stage.Stage.{Stage}
use Rattle.hm_rows_workers.specs.declared.stage.Stage.TheVariants as stage_is
use Rattle.hm_rows_workers.specs.Tasks.{AreSo, CanGo, log_number, outs_from, view_of}
use Rattle.hm_rows_workers.proofs.Telling.{can_go, comes, get_same, goes, nobody, none_can_go, not_out, somebody, was_out}
use Rattle.hm_rows_workers.specs.Tied.{log_apart}

not_again : Some stage_is.Waits ≡ Some stage_is.Out → ⊥
not_again e = cc

not_done : Some stage_is.Done ≡ Some stage_is.Out → ⊥
not_done e = cc

-- where the log is out it has a number
out_number : (durable : ℕ) (lent : Option ℕ) → is_some lent ≡ true → log_number durable lent ≢ None
out_number durable None out e = absurd cc
out_number durable (Some count) out e = none-some _ (sym e)

-- and where it is in, none
in_none : (lent : Option ℕ) → is_some lent ≡ false → lent ≡ None
in_none None inside = refl
in_none (Some count) inside = absurd cc

in_number : (durable : ℕ) (lent : Option ℕ) → is_some lent ≡ false → log_number durable lent ≡ None
in_number durable lent inside = ap (log_number durable) (in_none lent inside)

module _ (items : List Entry) (durable : ℕ) (lent : Option ℕ) (l : List Stage) (sheets : List Sheet) where
  -- a task that is out by another name
  pub is_at : (p pid : ℕ) → p ≡ pid → p < 2 ^ 64 → IsOut pid (view_of items durable lent l sheets) → slice_get l p ≡ Some stage_is.Out
  is_at p pid e few out = was_out p l durable lent few (subst (λ (q : ℕ). IsOut q (view_of items durable lent l sheets)) (sym e) out)

  pub gives : (taken : Taken) (out : StepOut) (p : ℕ) → p ≡ taken.pid.0 → p < 2 ^ 64 → IsOut taken.pid.0 (view_of items durable lent l sheets)
      → (pick : Option ServerName) → pick ≡ taken.was.pick → (number : ℕ) → number ≡ length items → (more : List Entry) → more ≡ items ++ entry_is.Step taken.pid pick out ∷ []
      → AnswersGive (view_of items durable lent l sheets) taken out (Ok (given_is.Kept number)) (view_of more durable lent (set l p stage_is.Done) sheets)
  gives taken out p e few is_out pick picked number counted more added =
      let is = is_at p taken.pid.0 e few is_out in (
        refl,
        (
          counted,
          subst (λ (q : ℕ). ComesBack q (outs_from 0 l) (outs_from 0 (set l p stage_is.Done))) e (comes p l stage_is.Done not_done is),
          (λ again. not_out p (set l p stage_is.Done) durable lent stage_is.Done few (get_same l p stage_is.Out stage_is.Done is) not_done
              (subst (λ (q : ℕ). IsOut q (view_of more durable lent (set l p stage_is.Done) sheets)) (sym e) again)),
          (entry_is.Step taken.pid pick out, (refl, picked, refl), ap (λ (xs : List Entry). view_of xs durable lent (set l p stage_is.Done) sheets) added),
        ),
      )

  pub returns : (taken : Taken) (p : ℕ) → p ≡ taken.pid.0 → p < 2 ^ 64 → IsOut taken.pid.0 (view_of items durable lent l sheets)
      → GetsBack (view_of items durable lent l sheets) taken (view_of items durable lent (set l p stage_is.Waits) sheets)
  returns taken p e few is_out =
      let is = is_at p taken.pid.0 e few is_out in (
        subst (λ (q : ℕ). ComesBack q (outs_from 0 l) (outs_from 0 (set l p stage_is.Waits))) e (comes p l stage_is.Waits not_again is),
        (λ again. not_out p (set l p stage_is.Waits) durable lent stage_is.Waits few (get_same l p stage_is.Out stage_is.Waits is) not_again
            (subst (λ (q : ℕ). IsOut q (view_of items durable lent (set l p stage_is.Waits) sheets)) (sym e) again)),
        refl,
      )

  module _ (wanted : ℕ) (all : length l ≡ wanted) (so : AreSo l items) where
    pub runs : (was : StepIn) (p : ℕ) → slice_get l p ≡ Some stage_is.Waits → length l < 2 ^ 64 → CanRun sheets was
        → AnswersTake (CanGo wanted) (view_of items durable lent l sheets) (Ok (task_is.Run (record { pid = record { 0 = p }; was = was }))) (view_of items durable lent (set l p stage_is.Out) sheets)
    runs was p is short can =
        let few : p < 2 ^ 64 = (let w = slice_get_within l p stage_is.Waits is in omega arith) in
        (refl, (can_go wanted p l items all so is, can, not_out p l durable lent stage_is.Waits few is not_again, goes p l is, refl))

    module _ (none : (p : ℕ) → slice_get l p ≢ Some stage_is.Waits) where
      pub flushes : is_some lent ≡ false → durable ≢ length items → AnswersTake (CanGo wanted) (view_of items durable lent l sheets) (Ok task_is.Flush) (view_of items durable lent l sheets)
      flushes inside some = (refl, none_can_go wanted l items all so none, (some, in_number durable lent inside), refl)

      pub waits_for_log : is_some lent ≡ true → AnswersTake (CanGo wanted) (view_of items durable lent l sheets) (Ok task_is.Busy) (view_of items durable lent l sheets)
      waits_for_log out = (refl, none_can_go wanted l items all so none, (λ has. out_number durable lent out has.1), inr (out_number durable lent out), refl)

      pub waits : durable ≡ length items → (p : ℕ) → slice_get l p ≡ Some stage_is.Out → AnswersTake (CanGo wanted) (view_of items durable lent l sheets) (Ok task_is.Busy) (view_of items durable lent l sheets)
      waits is p out = (refl, none_can_go wanted l items all so none, (λ has. has.0 is), inl (somebody p l out), refl)

      pub rests : is_some lent ≡ false → durable ≡ length items → ((p : ℕ) → slice_get l p ≢ Some stage_is.Out) → AnswersTake (CanGo wanted) (view_of items durable lent l sheets) (Ok task_is.Idle) (view_of items durable lent l sheets)
      rests inside is out = (refl, none_can_go wanted l items all so none, (nobody 0 l out, in_number durable lent inside, is), refl)

-- the log is out by this number
abbrev with_log_out : HallView → ℕ → HallView
with_log_out at n = record at { lent = Some n }

module _ {T : Type 0} (items : List Entry) (durable : ℕ) (lent : Option ℕ) (l : List Stage) (sheets : List Sheet) (few : length l < 2 ^ 64) where
  pub lends : (out : OutView T) (count : ℕ) → out.list ≡ items → out.durable ≡ durable → out.written ≡ false → count ≡ length items → is_some lent ≡ false → durable ≢ count
      → AnswersLend (view_of items durable lent l sheets) (Some out) (view_of items durable (Some count) l sheets)
  lends out count list kept written counted inside some =
      let none = in_number durable lent inside in
      let long : length out.list ≡ count = ap (λ (xs : List Entry). length xs) list ∙ sym counted in
      let same : 2 ^ 64 * (durable + 1) + count ≡ number_of out = ap (λ (n : ℕ). 2 ^ 64 * (n + 1) + count) (sym kept) ∙ ap (λ (n : ℕ). 2 ^ 64 * (out.durable + 1) + n) (sym long) in (
        (λ has. ⊎_elim (λ e. some (e ∙ sym counted)) (λ more. ⊎_elim (λ n. n none) (λ e. none-some _ e) more) has),
        list,
        kept,
        written,
        (λ out_now. ⊎_elim (log_apart out.durable (Some (length out.list)) l few (number_of out) refl) (λ e. none-some _ (sym none ∙ e)) out_now),
        ap (λ (n : ℕ). with_log_out (view_of items durable lent l sheets) n) same,
      )

  pub backs : (out : OutView T) (count : ℕ) → count ≡ length out.list → IsOut (number_of out) (view_of items durable lent l sheets)
      → AnswersBack (view_of items durable lent l sheets) out (Ok count) (view_of items count None l sheets)
  backs out count is was = (
    ⊎_elim (λ c. absurd (log_apart out.durable (Some (length out.list)) l few (number_of out) refl c)) (λ e. e) was,
    is,
    (λ again. ⊎_elim (log_apart out.durable (Some (length out.list)) l few (number_of out) refl) (λ e. none-some _ e) again),
    refl,
  )
