-- No two that hold conflict, where whoever is taken was free when it was taken.
use Rattle.hm_model.proofs.Parted.{no_node}
use Rattle.std.proofs.Common.{◌≡◌, ◌≢◌, ℕ, List, [], ◌∷◌, true, false, Option, Some, None, refl, ap, sym, ◌∙◌, subst, inl, inr, ◌⊎◌}
use Rattle.std.proofs.lemmas.Bool.{cases_Bool, cases_eq, cond-false, cond-true, false≢true, true≢false}
use Rattle.std.proofs.lemmas.Option.{none-some}
use Rattle.hm_names.specs.Server.{Server}
use Rattle.hm_names.specs.declared.pid.Pid.{Pid}
use Rattle.hm_data.specs.declared.entry.Entry.{Entry}
use Rattle.hm_data.specs.declared.entry.Entry.TheVariants as entry_is
use Rattle.hm_data.specs.declared.step.StepOut.{StepOut}
use Rattle.hm_model.specs.Answers.{is_stopped, last_answer}
use Rattle.hm_model.specs.Holding.{HoldsWith, InConflict, IsFree, NoneClash}
use Rattle.hm_model.specs.Journal.{Past}
use Rattle.hm_model.specs.Locks.{AsksClash, Clash, IsAbove, IsIn, asks}
use Rattle.hm_model.specs.Phase.{ended, ended_node, root_ended}
use Rattle.hm_model.specs.Rules.{IsLegal}
use Rattle.hm_model.specs.Tree.{Node, is_top, node_of}
use Rattle.hm_model.specs.declared.lock.Ask.{Ask}
use Rattle.hm_model.proofs.Free.{step_free}
use Rattle.hm_model.proofs.Grown.{nodes_stay}
use Rattle.hm_model.proofs.LegalSteps.{ready_stops}
use Rattle.hm_model.proofs.Tops.{root_stays}
use Rattle.hm_model.proofs.Trees.{grown_all, other_answer, step_of}
use Rattle.hm_model.specs.Taking.{IsTaken, NoneConflict, NoneOfLegalConflict, StepsFree, lets_go, nobody, records, takes}
use Rattle.std.proofs.Math.Bool.{or_comm}

pub some_node : (J : Past) (p : ℕ) → node_of J p ≢ None → (x : Node) × (node_of J p ≡ Some x)
some_node J p there = by (node_of J p) refl
  where
    by : (o : Option Node) → node_of J p ≡ o → (x : Node) × (node_of J p ≡ Some x)
    by None e = absurd (there e)
    by (Some x) e = (x, e)

pub clash_sym : (one other : List Ask) → Clash one other → Clash other one
clash_sym one other c = (c.1, c.0, c.3, c.2, sym c.4, or_comm c.1.exclusive c.0.exclusive ∙ c.5)

clash_back : (one other : Option Node) → AsksClash one other → AsksClash other one
clash_back None other h = absurd h
clash_back (Some x) None h = absurd h
clash_back (Some x) (Some y) h = clash_sym (asks x.args) (asks y.args) h

conflict_back : (J : Past) (p q : ℕ) → InConflict J p q → InConflict J q p
conflict_back J p q c = ((λ same. c.0 (sym same)), (c.1.1, c.1.0, clash_back (node_of J p) (node_of J q) c.1.2))

legal_of : (J : Past) (taken : List ℕ) → IsTaken J taken → IsLegal J
legal_of J taken nobody = tt
legal_of J taken (takes p t there free) = legal_of _ _ t
legal_of J taken (records entry t allowed free) = (legal_of _ _ t, allowed)
legal_of J taken (lets_go left t within) = legal_of _ _ t

there_of : (J : Past) (taken : List ℕ) → IsTaken J taken → (p : ℕ) → IsIn p taken → node_of J p ≢ None
there_of J taken nobody p among = absurd among
there_of J taken (takes q t there free) p (inl same) = λ none. there (ap (node_of J) (sym same) ∙ none)
there_of J taken (takes q t there free) p (inr among) = there_of _ _ t p among
there_of J taken (records {before} entry t allowed free) p among = λ none.
    let x = some_node before p (there_of _ _ t p among) in
    none-some x.0 (sym none ∙ nodes_stay entry before (legal_of _ _ t, allowed) p x.0 x.1)
there_of J taken (lets_go left t within) p among = there_of _ _ t p (within p among)

-- a descendant that has ended stays so
below_stays : (entry : Entry) (J : Past) → IsLegal (entry ∷ J) → (q : ℕ) → is_stopped (last_answer J q) ≡ true → is_stopped (last_answer (entry ∷ J) q) ≡ true
below_stays (entry_is.Step pid pick out) J legal q over = elim (cases_eq q pid.0) [
  | inr other ↦ ap is_stopped (other_answer pid pick out J q other) ∙ over
  | inl mine ↦
      let step = step_of pid pick out J (grown_all J legal.0) legal in
      absurd (true≢false (sym over ∙ ap (λ p. is_stopped (last_answer J p)) mine ∙ ready_stops J pid.0 step.node (last_answer J pid.0) step.ready))
]
below_stays (entry_is.Base part) J legal q over = absurd (false≢true (sym (ap is_stopped ((grown_all J legal.0).unmade q (no_node part J legal.1.0 q))) ∙ over))
below_stays entry J legal q over = over

-- who hasn't ended hadn't
pub open_before : (entry : Entry) (J : Past) → IsLegal (entry ∷ J) → (q : ℕ) (x : Node) → node_of J q ≡ Some x → ended (entry ∷ J) q ≡ false → ended J q ≡ false
open_before entry J legal q x is running = elim (cases_Bool (ended J q)) [
  | inr off ↦ off
  | inl over ↦ absurd (true≢false (sym (by x.above refl over) ∙ running))
]
  where
    there : node_of (entry ∷ J) q ≡ Some x
    there = nodes_stay entry J legal q x is

    by : (above : List ℕ) → x.above ≡ above → ended J q ≡ true → ended (entry ∷ J) q ≡ true
    by [] e over =
        ap (ended_node (entry ∷ J) q) there ∙ cond-true (is_top x.above) (root_ended (entry ∷ J) q) (is_stopped (last_answer (entry ∷ J) q)) (ap is_top e)
        ∙ root_stays entry J legal q x (is, e) (sym (cond-true (is_top x.above) (root_ended J q) (is_stopped (last_answer J q)) (ap is_top e)) ∙ sym (ap (ended_node J q) is) ∙ over)
    by (u ∷ rest) e over =
        ap (ended_node (entry ∷ J) q) there ∙ cond-false (is_top x.above) (root_ended (entry ∷ J) q) (is_stopped (last_answer (entry ∷ J) q)) (ap is_top e)
        ∙ below_stays entry J legal q (sym (cond-false (is_top x.above) (root_ended J q) (is_stopped (last_answer J q)) (ap is_top e)) ∙ sym (ap (ended_node J q) is) ∙ over)

-- the conflicts of those who were there are as before
conflict_before : (entry : Entry) (J : Past) → IsLegal (entry ∷ J) → (p q : ℕ) (x y : Node) → node_of J p ≡ Some x → node_of J q ≡ Some y → InConflict (entry ∷ J) p q → InConflict J p q
conflict_before entry J legal p q x y p_is q_is c =
    let p_now = nodes_stay entry J legal p x p_is ∙ sym p_is in
    let q_now = nodes_stay entry J legal q y q_is ∙ sym q_is in
    (c.0, ((λ up. c.1.0 (subst (IsAbove p) (sym q_now) up)), (λ up. c.1.1 (subst (IsAbove q) (sym p_now) up)), subst (λ o. AsksClash o (node_of J q)) p_now (subst (AsksClash (node_of (entry ∷ J) p)) q_now c.1.2)))

-- one more is taken, or steps, who is free
one_more : (J : Past) (taken : List ℕ) (p : ℕ) → NoneClash J taken → IsFree J taken p → (a b : ℕ) → HoldsWith J taken a ⊎ (a ≡ p) → HoldsWith J taken b ⊎ (b ≡ p) → InConflict J a b → ⊥
one_more J taken p none free a b (inl x) (inl y) c = none a b x y c
one_more J taken p none free a b (inl x) (inr y) c = free a x (conflict_back J a p (subst (InConflict J a) y c))
one_more J taken p none free a b (inr x) (inl y) c = free b y (subst (λ k. InConflict J k b) x c)
one_more J taken p none free a b (inr x) (inr y) c = c.0 (x ∙ sym y)

-- who holds with one more taken held, or is that one
held_or : (J : Past) (taken : List ℕ) (p a : ℕ) → HoldsWith J (p ∷ taken) a → HoldsWith J taken a ⊎ (a ≡ p)
held_or J taken p a (there, running, inl some) = inl (there, running, inl some)
held_or J taken p a (there, running, inr (inl same)) = inr same
held_or J taken p a (there, running, inr (inr among)) = inl (there, running, inr among)

-- nor do any where one more is taken who is free
pub clash_taken : (J : Past) (taken : List ℕ) (p : ℕ) → NoneClash J taken → IsFree J taken p → NoneClash J (p ∷ taken)
clash_taken J taken p none free a b ha hb c = one_more J taken p none free a b (held_or J taken p a ha) (held_or J taken p b hb) c

-- nor where some are let go
pub clash_within : (J : Past) (left taken : List ℕ) → ((p : ℕ) → IsIn p left → IsIn p taken) → NoneClash J taken → NoneClash J left
clash_within J left taken within none a b ha hb c = none a b (ha.0, ha.1, by a ha.2) (hb.0, hb.1, by b hb.2) c
  where
    by : (a : ℕ) → (last_answer J a ≢ None) ⊎ IsIn a left → (last_answer J a ≢ None) ⊎ IsIn a taken
    by a (inl some) = inl some
    by a (inr among) = inr (within a among)

-- who holds after an entry held before it, or steps at it
module _ (entry : Entry) (J : Past) (legal : IsLegal (entry ∷ J)) (taken : List ℕ) (made_all : (p : ℕ) → IsIn p taken → node_of J p ≢ None) where
  was_there : (a : ℕ) → (last_answer (entry ∷ J) a ≡ last_answer J a) → HoldsWith (entry ∷ J) taken a → node_of J a ≢ None
  was_there a last (there, running, inl some) none = some (last ∙ (grown_all J legal.0).unmade a none)
  was_there a last (there, running, inr among) none = made_all a among none

  held_before : (a : ℕ) → last_answer (entry ∷ J) a ≡ last_answer J a → HoldsWith (entry ∷ J) taken a → HoldsWith J taken a
  held_before a last h =
      let there = was_there a last h in
      let x = some_node J a there in
      (there, open_before entry J legal a x.0 x.1 h.1, by h.2)
    where
      by : (last_answer (entry ∷ J) a ≢ None) ⊎ IsIn a taken → (last_answer J a ≢ None) ⊎ IsIn a taken
      by (inl some) = inl (λ none. some (last ∙ none))
      by (inr among) = inr among

  calm : NoneClash J taken → ((a : ℕ) → last_answer (entry ∷ J) a ≡ last_answer J a) → NoneClash (entry ∷ J) taken
  calm none last p q hp hq c =
      let x = some_node J p (was_there p (last p) hp) in
      let y = some_node J q (was_there q (last q) hq) in
      none p q (held_before p (last p) hp) (held_before q (last q) hq) (conflict_before entry J legal p q x.0 y.0 x.1 y.1 c)

-- a step of one who was taken, or is free
module _ (pid : Pid) (pick : Option Server) (out : StepOut) (J : Past) (legal : IsLegal (entry_is.Step pid pick out ∷ J)) (taken : List ℕ) (made_all : (p : ℕ) → IsIn p taken → node_of J p ≢ None) where
  me_there : node_of J pid.0 ≢ None
  me_there none = let step = step_of pid pick out J (grown_all J legal.0) legal in none-some step.node (sym none ∙ step.node_is)

  there_step : (a : ℕ) → HoldsWith (entry_is.Step pid pick out ∷ J) taken a → node_of J a ≢ None
  there_step a h = elim (cases_eq a pid.0) [
    | inl mine ↦ λ none. me_there (ap (node_of J) (sym mine) ∙ none)
    | inr other ↦ was_there (entry_is.Step pid pick out) J legal taken made_all a (other_answer pid pick out J a other) h
  ]

  held_step : (a : ℕ) → HoldsWith (entry_is.Step pid pick out ∷ J) taken a → HoldsWith J taken a ⊎ (a ≡ pid.0)
  held_step a h = elim (cases_eq a pid.0) [
    | inl mine ↦ inr mine
    | inr other ↦ inl (held_before (entry_is.Step pid pick out) J legal taken made_all a (other_answer pid pick out J a other) h)
  ]

  -- one who was taken held before
  taken_held : IsIn pid.0 taken → (a : ℕ) → HoldsWith (entry_is.Step pid pick out ∷ J) taken a → HoldsWith J taken a
  taken_held among a h = elim (held_step a h) [
    | inl held ↦ held
    | inr mine ↦
        let x = some_node J a (there_step a h) in
        (there_step a h, open_before (entry_is.Step pid pick out) J legal a x.0 x.1 h.1, inr (subst (λ k. IsIn k taken) (sym mine) among))
  ]

  steps : NoneClash J taken → IsIn pid.0 taken ⊎ IsFree J taken pid.0 → NoneClash (entry_is.Step pid pick out ∷ J) taken
  steps none who p q hp hq c =
      let x = some_node J p (there_step p hp) in
      let y = some_node J q (there_step q hq) in
      let was = conflict_before (entry_is.Step pid pick out) J legal p q x.0 y.0 x.1 y.1 c in
      elim who [
        | inl among ↦ none p q (taken_held among p hp) (taken_held among q hq) was
        | inr free ↦ one_more J taken pid.0 none free p q (held_step p hp) (held_step q hq) was
      ]

-- after an entry whose step is of one who was taken, or is free, no two conflict where none did
pub after : (entry : Entry) (J : Past) (legal : IsLegal (entry ∷ J)) (taken : List ℕ) → ((p : ℕ) → IsIn p taken → node_of J p ≢ None) → NoneClash J taken → StepsFree J taken entry → NoneClash (entry ∷ J) taken
after (entry_is.Step pid pick out) J legal taken made_all none free = steps pid pick out J legal taken made_all none free
after (entry_is.Base part) J legal taken made_all none free = λ p q hp hq c. absurd (hp.0 refl)
after entry J legal taken made_all none free = calm entry J legal taken made_all none (λ a. refl)

pub none_conflict_is : NoneConflict
none_conflict_is J all nobody = λ p q hp hq c. absurd (hp.0 refl)
none_conflict_is J all (takes {before} {taken} p t there free) = clash_taken before taken p (none_conflict_is _ _ t) free
none_conflict_is J all (records {before} {taken} entry t allowed free) = after entry before (legal_of _ _ t, allowed) taken (there_of _ _ t) (none_conflict_is _ _ t) free
none_conflict_is J all (lets_go {before} {taken} left t within) = clash_within before left taken within (none_conflict_is _ _ t)

-- the step of a legal journal is of one who is free
steps_free : (entry : Entry) (J : Past) → IsLegal (entry ∷ J) → StepsFree J [] entry
steps_free (entry_is.Step pid pick out) J legal = inr (step_free pid pick out J legal)
steps_free entry J legal = tt

-- so no two conflict that have a step and haven't ended
pub legal_apart : NoneOfLegalConflict
legal_apart [] legal = λ p q hp hq c. absurd (hp.0 refl)
legal_apart (entry ∷ J) legal = after entry J legal [] (λ p among. absurd among) (legal_apart J legal.0) (steps_free entry J legal)
