use Rattle.std.proofs.Common.{◌≡◌, ◌≢◌, List, [], ◌∷◌, ℕ, Some, sym, subst, ◌∙◌}
use Rattle.std.specs.Prelude.{slice_get}
use Rattle.hm_sheet.specs.Own.{own_sheet as own}
use Rattle.hm_rows_workers.specs.declared.stage.Stage.{Stage}
use Rattle.hm_rows_workers.specs.declared.stage.Stage.TheVariants as stage_is
use Rattle.hm_rows_workers.proofs.Answering.{flushes, rests, runs, waits, waits_for_log}
use Rattle.hm_rows_workers.proofs.Telling.{all_done, nobody}
use Rattle.hm_rows_workers.proofs.toy.ToyHall.take.Goals as goal

-- no stage of this list is this one
abbrev Lacks : Stage → List Stage → Type 0
Lacks stage l = (p : ℕ) → slice_get l p ≢ Some stage

pub returns-in-Some-clause-answers : goal.returns-in-Some-clause-answers
returns-in-Some-clause-answers c =
    let s = c.args.self.now in
    let is = subst (λ (l : List Stage). slice_get l c.in-Some.place ≡ Some stage_is.Waits) c.as_slice.ensures.value c.in-Some.ensures in
    runs s.entries.items s.durable s.lent s.stages.items (own 26 ∷ []) s.wanted s.all s.so c.input-was.result c.in-Some.place is s.few c.input-was.ensures

pub returns-then-is_some-clause-answers : goal.returns-then-is_some-clause-answers
returns-then-is_some-clause-answers c =
    let s = c.args.self.now in
    let none = subst (Lacks stage_is.Waits) c.as_slice.ensures.value c.in_default.ensures in
    waits_for_log s.entries.items s.durable s.lent s.stages.items (own 26 ∷ []) s.wanted s.all s.so none (sym c.is_some.ensures ∙ c.if-is_some.true)

pub returns-then-self-len-clause-answers : goal.returns-then-self-len-clause-answers
returns-then-self-len-clause-answers c =
    let s = c.args.self.now in
    let none = subst (Lacks stage_is.Waits) c.as_slice.ensures.value c.in_default.ensures in
    flushes s.entries.items s.durable s.lent s.stages.items (own 26 ∷ []) s.wanted s.all s.so none (sym c.is_some.ensures ∙ c.if-is_some.false)
    (λ e. c.if-self-len.true (e ∙ sym (c.len.ensures ∙ s.entries.ok.0)))

pub returns-in-Some-first_at-clause-answers : goal.returns-in-Some-first_at-clause-answers
returns-in-Some-first_at-clause-answers c =
    let s = c.args.self.now in
    let none = subst (Lacks stage_is.Waits) c.as_slice.ensures.value c.in_default.ensures in
    let out = subst (λ (l : List Stage). slice_get l c.in-Some-first_at.field-0 ≡ Some stage_is.Out) c.as_slice-2.ensures.value c.in-Some-first_at.ensures in
    waits s.entries.items s.durable s.lent s.stages.items (own 26 ∷ []) s.wanted s.all s.so none (c.if-self-len.false ∙ c.len.ensures ∙ s.entries.ok.0) c.in-Some-first_at.field-0 out

pub returns-in-None-clause-answers : goal.returns-in-None-clause-answers
returns-in-None-clause-answers c =
    let s = c.args.self.now in
    let none = subst (Lacks stage_is.Waits) c.as_slice.ensures.value c.in_default.ensures in
    let out = subst (Lacks stage_is.Out) c.as_slice-2.ensures.value c.in-None.ensures in
    rests s.entries.items s.durable s.lent s.stages.items (own 26 ∷ []) s.wanted s.all s.so none (sym c.is_some.ensures ∙ c.if-is_some.false) (c.if-self-len.false ∙ c.len.ensures ∙ s.entries.ok.0) out

pub returns-in-None-clause-idle : goal.returns-in-None-clause-idle
returns-in-None-clause-idle c = λ _.
    let s = c.args.self.now in
    let none = subst (Lacks stage_is.Waits) c.as_slice.ensures.value c.in_default.ensures in
    let out = subst (Lacks stage_is.Out) c.as_slice-2.ensures.value c.in-None.ensures in
    all_done s.wanted s.stages.items s.entries.items s.all s.so none (nobody 0 s.stages.items out)
