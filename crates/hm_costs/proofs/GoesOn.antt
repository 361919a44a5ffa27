-- The latest procedure of a tree that hasn't stopped can go on.
use Rattle.std.proofs.Common.{◌≡◌, ◌≢◌, ℕ, zero, suc, ◌+◌, ◌<◌, ◌≤◌, List, [], ◌∷◌, Bool, true, false, not, ◌||◌, ◌==◌, cond, Option, Some, None, is_some, refl, ap, sym, ◌∙◌, subst, inl, inr, ◌⊎◌, arith}
use Rattle.std.proofs.lemmas.Bool.{and_from, cases_Bool, cases_eq, cond-true, eq-eqb, eqb-true, false≢true, not_from_false, not_from_true, not-false, or_cases, or_left, or_parts, or_right, true≢false}
use Rattle.std.proofs.lemmas.Option.{none-some, same_Some}
use Rattle.hm_names.specs.Server.{Server}
use Rattle.hm_names.specs.declared.pid.Pid.{Pid}
use Rattle.hm_data.specs.declared.answer.Answer.{Answer}
use Rattle.hm_data.specs.declared.answer.Answer.TheVariants as answer_is
use Rattle.hm_data.specs.declared.answer.Cause.{Cause}
use Rattle.hm_data.specs.declared.entry.Entry.TheVariants as entry_is
use Rattle.hm_data.specs.declared.record.Phase.{Phase}
use Rattle.hm_data.specs.declared.record.Phase.TheVariants as phase_is
use Rattle.hm_data.specs.declared.step.StepOut.{StepOut}
use Rattle.hm_model.specs.Answers.{done_with, failing, is_stopped, last_answer}
use Rattle.hm_model.specs.Journal.{Past}
use Rattle.hm_model.specs.Phase.{all_below, all_stopped, cause, child_in, children_ended, in_tree, is_parent, or_else, own_phase, phase, phase_table, rolled_back, root_ended, root_over, stopped_in}
use Rattle.hm_model.specs.Rest.{MayUndo}
use Rattle.hm_model.specs.Rules.{IsLegal}
use Rattle.hm_model.specs.Tree.{Node, is_top, made, node_of, root_in, root_of}
use Rattle.hm_model.specs.Undo.{is_empty, stack}
use Rattle.hm_model.proofs.LegalSteps.{StepFacts}
use Rattle.hm_model.proofs.StepDoes.{Does, IsStepAnswer}
use Rattle.hm_model.proofs.Trees.{Grown, IsRooted, all_below_from, answer_now, does_of, down_rooted, grown_all, is_there, le_or_lt, node_same, old_or_new, other_answer, step_of, still_there, submit_rooted, undo_rooted}
use Rattle.hm_model.proofs.Answered.{or_some}
use Rattle.hm_costs.specs.Theorem.{HasOneThatGoes, EachTreeGoesOn}

-- steps never answer that something is undone, and where one failed its tree has a cause
pub record IsSoundJournal (J : Past) : Type 0 where
  pub undone : (p : ℕ) → last_answer J p ≡ Some answer_is.Undone → ⊥
  pub caused : (p : ℕ) (node : Node) → node_of J p ≡ Some node → (c : Cause) → last_answer J p ≡ Some (answer_is.Fail c) → cause J node.root ≢ None

or_new : (c e : Option Cause) → e ≢ None → or_else c e ≢ None
or_new None e some = some
or_new (Some c) e some = λ is. none-some c (sym is)

sound_rooted : (J J' : Past) → IsRooted J J' → Grown J → ((r : ℕ) → cause J' r ≡ cause J r) → IsSoundJournal J → IsSoundJournal J'
sound_rooted J J' rooted grown causes sound = record {
  undone = λ p is. sound.undone p (sym (rooted.last p) ∙ is);
  caused = λ p node is c failed. elim (old_or_new J J' rooted grown p node is) [
    | inl was ↦ λ none. sound.caused p node was c (sym (rooted.last p) ∙ failed) (sym (causes node.root) ∙ none)
    | inr new ↦ absurd (none-some (answer_is.Fail c) (sym new.3 ∙ failed))
  ];
}

module _ (pid : Pid) (pick : Option Server) (out : StepOut) (J : Past) (grown : Grown J) (step : StepFacts J pid.0 pick out) (d : Does J pid.0 step.node.args (last_answer J pid.0) step.sheet.rows out) (sound : IsSoundJournal J) where
  unsound : (a : Answer) → IsStepAnswer a → a ≡ answer_is.Undone → ⊥
  unsound a s is = subst IsStepAnswer is s

  kept_cause : (r : ℕ) → cause J r ≢ None → cause (entry_is.Step pid pick out ∷ J) r ≢ None
  kept_cause r some = by (root_of J pid.0 == r)
    where
      by : (b : Bool) → cond b (or_else (cause J r) (failing out.answer)) (cause J r) ≢ None
      by true = or_some (cause J r) (failing out.answer) some
      by false = some

  new_cause : (c : Cause) → out.answer ≡ answer_is.Fail c → cause (entry_is.Step pid pick out ∷ J) step.node.root ≢ None
  new_cause c failed none = or_new (cause J step.node.root) (failing out.answer) (λ e. none-some c (sym e ∙ ap failing failed)) (sym (cond-true (root_of J pid.0 == step.node.root) _ (cause J step.node.root) (eq-eqb (root_of J pid.0) step.node.root (ap root_in step.node_is))) ∙ none)

  sound_step : IsSoundJournal (entry_is.Step pid pick out ∷ J)
  sound_step = record {
    undone = λ p is. elim (cases_eq p pid.0) [
      | inl same ↦ unsound out.answer d.sound (same_Some out.answer answer_is.Undone (sym (answer_now pid pick out J) ∙ ap (last_answer (entry_is.Step pid pick out ∷ J)) (sym same) ∙ is))
      | inr differs ↦ sound.undone p (sym (other_answer pid pick out J p differs) ∙ is)
    ];
    caused = λ p node is c failed. elim (cases_eq p pid.0) [
      | inl same ↦
          let one : step.node ≡ node = same_Some step.node node (sym (still_there pid pick out J grown step d pid.0 step.node step.node_is) ∙ ap (node_of (entry_is.Step pid pick out ∷ J)) (sym same) ∙ is) in
          subst (λ (n : Node). cause (entry_is.Step pid pick out ∷ J) n.root ≢ None) one (new_cause c (same_Some out.answer (answer_is.Fail c) (sym (answer_now pid pick out J) ∙ ap (last_answer (entry_is.Step pid pick out ∷ J)) (sym same) ∙ failed)))
      | inr differs ↦
          let was = sym (other_answer pid pick out J p differs) ∙ failed in
          elim (le_or_lt p (made J)) [
            | inl le ↦ kept_cause node.root (sound.caused p node (sym (node_same pid pick out J p le) ∙ is) c was)
            | inr lt ↦ absurd (none-some (answer_is.Fail c) (sym (grown.unmade p (grown.numbered p lt)) ∙ was))
          ]
    ];
  }

pub sound_all : (J : Past) → IsLegal J → IsSoundJournal J
sound_all [] legal = record { undone = λ p is. none-some answer_is.Undone is; caused = λ p node is. absurd (none-some node is) }
sound_all (entry_is.Submit nonce request ∷ J) legal = let grown = grown_all J legal.0 in sound_rooted J (entry_is.Submit nonce request ∷ J) (submit_rooted nonce request J grown) grown (λ r. refl) (sound_all J legal.0)
sound_all (entry_is.Step pid pick out ∷ J) legal =
    let grown = grown_all J legal.0 in
    let step = step_of pid pick out J grown legal in
    sound_step pid pick out J grown step (does_of pid pick out J grown step) (sound_all J legal.0)
sound_all (entry_is.Undo pid row out ∷ J) legal = let grown = grown_all J legal.0 in sound_rooted J (entry_is.Undo pid row out ∷ J) (undo_rooted pid row out J grown) grown (λ r. refl) (sound_all J legal.0)
sound_all (entry_is.Down server ∷ J) legal = let grown = grown_all J legal.0 in sound_rooted J (entry_is.Down server ∷ J) (down_rooted server J grown) grown (λ r. refl) (sound_all J legal.0)
sound_all (entry_is.Base part ∷ J) legal = record { undone = λ p is. none-some answer_is.Undone is; caused = λ p node is. absurd (none-some node is) }
sound_all (entry ∷ J) legal = let s = sound_all J legal.0 in record { undone = s.undone; caused = s.caused }

-- the last number below n that fails a test, if one does
last_failing : (n : ℕ) (test : ℕ → Bool) → (all_below n test ≡ true) ⊎ ((q : ℕ) × (q < n) × (test q ≡ false) × ((k : ℕ) → q < k → k < n → test k ≡ true))
last_failing zero test = inl refl
last_failing (suc n) test = elim (cases_Bool (test n)) [
  | inr off ↦ inr (n, omega arith, off, λ k lt below. absurd (omega (arith, lt, below)))
  | inl on ↦ elim (last_failing n test) [
    | inl all ↦ inl (and_from (test n) (all_below n test) on all)
    | inr f ↦ inr (
      f.0,
      (let lt = f.1 in omega (arith, lt)),
      f.2,
      λ k lt below. elim (cases_eq k n) [
        | inl same ↦ ap test same ∙ on
        | inr differs ↦ f.3 k lt (omega (arith, below, differs))
      ],
    )
  ]
]

module _ (J : Past) (legal : IsLegal J) (r : ℕ) (node : Node) (is : node_of J r ≡ Some node) (top : node.above ≡ []) where
  grown : Grown J
  grown = grown_all J legal

  -- it isn't of the tree, or has stopped
  is_still : ℕ → Bool
  is_still q = not (in_tree r (node_of J q)) || is_stopped (last_answer J q)

  tree_node : (q : ℕ) (o : Option Node) → node_of J q ≡ o → in_tree r o ≡ true → (x : Node) × (node_of J q ≡ Some x) × (x.root ≡ r)
  tree_node q None e h = absurd (false≢true h)
  tree_node q (Some x) e h = (x, e, eqb-true x.root r h)

  -- who fails the test is of the tree, and hasn't stopped
  unstill : (q : ℕ) → is_still q ≡ false → (x : Node) × (node_of J q ≡ Some x) × (x.root ≡ r) × (is_stopped (last_answer J q) ≡ false)
  unfolding is_still
  unstill q h =
      let p = or_parts (not (in_tree r (node_of J q))) (is_stopped (last_answer J q)) h in
      let t = tree_node q (node_of J q) refl (not-false (in_tree r (node_of J q)) p.0) in
      (t.0, t.1, t.2, p.1)

  -- where all later ones of the tree have stopped, so have its children
  ended_from : (q : ℕ) (x : Node) → node_of J q ≡ Some x → x.root ≡ r → ((k : ℕ) → q < k → k < made J + 1 → is_still k ≡ true) → children_ended J q ≡ true
  unfolding is_still
  ended_from q x at root rest = all_below_from (made J + 1) (λ k. not (child_in q (node_of J k)) || is_stopped (last_answer J k)) (λ k lt. by k lt (node_of J k) refl)
    where
      by : (k : ℕ) → k < made J + 1 → (o : Option Node) → node_of J k ≡ o → (not (child_in q o) || is_stopped (last_answer J k)) ≡ true
      by k lt None e = refl
      by k lt (Some c) e = by_above c.above refl
        where
          by_above : (above : List ℕ) → c.above ≡ above → (not (is_parent q above) || is_stopped (last_answer J k)) ≡ true
          by_above [] a = refl
          by_above (u ∷ more) a = elim (cases_Bool (u == q)) [
            | inr off ↦ or_left (not (u == q)) (is_stopped (last_answer J k)) (not_from_false (u == q) off)
            | inl on ↦
                let same = eqb-true u q on in
                let up = (grown_all J legal).ups k c e u more a in
                let one : up.0 ≡ x = same_Some up.0 x (sym up.1 ∙ ap (node_of J) same ∙ at) in
                let of_tree : c.root ≡ r = sym up.3 ∙ ap (λ (n : Node). n.root) one ∙ root in
                let later : q < k = (let l = (grown_all J legal).later k c e u more a in omega (arith, l, same)) in
                or_right (not (u == q)) (is_stopped (last_answer J k)) (elim (or_cases (not (in_tree r (node_of J k))) (is_stopped (last_answer J k)) (rest k later lt)) [
                  | inl out_of ↦ absurd (true≢false (sym out_of ∙ not_from_true (in_tree r (node_of J k)) (ap (in_tree r) e ∙ eq-eqb c.root r of_tree)))
                  | inr stopped ↦ stopped
                ])
          ]

  own_goes : (o : Option Answer) (b : Bool) → is_stopped o ≡ false → b ≡ true → (own_phase o b ≡ phase_is.Runnable) ⊎ (own_phase o b ≡ phase_is.Awaiting)
  own_goes None b runs e = inl refl
  own_goes (Some (answer_is.More n)) b runs e = inl refl
  own_goes (Some (answer_is.Wait n)) b runs e = inl (ap (own_phase (Some (answer_is.Wait n))) e)
  own_goes (Some (answer_is.Await n)) b runs e = inr refl
  own_goes (Some answer) b runs e = absurd (true≢false runs)

  own_at : (q : ℕ) → is_stopped (last_answer J q) ≡ false → children_ended J q ≡ true → (own_phase (last_answer J q) (children_ended J q) ≡ phase_is.Runnable) ⊎ (own_phase (last_answer J q) (children_ended J q) ≡ phase_is.Awaiting)
  own_at q runs ended = own_goes (last_answer J q) (children_ended J q) runs ended

  -- the phase of one whose tree hasn't failed, or that isn't the root and whose tree isn't rolled back
  phase_own : (q : ℕ) (x : Node) → x.root ≡ r → (c : Option Cause) → cause J r ≡ c → (rolled : Bool) → rolled_back J r ≡ rolled → ((c ≡ None) ⊎ ((rolled ≡ false) × (is_top x.above ≡ false))) → phase J q x ≡ own_phase (last_answer J q) (children_ended J q)
  phase_own q x root c e rolled f h =
      ap (λ k. phase_table (cause J k) (rolled_back J k) (is_top x.above) (own_phase (last_answer J q) (children_ended J q))) root
      ∙ ap (λ k. phase_table k (rolled_back J r) (is_top x.above) (own_phase (last_answer J q) (children_ended J q))) e
      ∙ ap (λ k. phase_table c k (is_top x.above) (own_phase (last_answer J q) (children_ended J q))) f
      ∙ by c rolled (is_top x.above) (own_phase (last_answer J q) (children_ended J q)) h
    where
      by : (c : Option Cause) (rolled top : Bool) (own : Phase) → (c ≡ None) ⊎ ((rolled ≡ false) × (top ≡ false)) → phase_table c rolled top own ≡ own
      by None rolled top own h = refl
      by (Some c) rolled top own (inl h) = absurd (none-some c (sym h))
      by (Some c) true top own (inr h) = absurd (true≢false h.0)
      by (Some c) false true own (inr h) = absurd (true≢false h.1)
      by (Some c) false false own (inr h) = refl

  goes_at : (q : ℕ) (x : Node) → node_of J q ≡ Some x → x.root ≡ r → is_stopped (last_answer J q) ≡ false → ((k : ℕ) → q < k → k < made J + 1 → is_still k ≡ true) → phase J q x ≡ own_phase (last_answer J q) (children_ended J q) → HasOneThatGoes J r
  goes_at q x at root runs rest own = (q, x, at, root, elim (own_at q runs (ended_from q x at root rest)) [ inl a ↦ inl (own ∙ a) | inr a ↦ inr (own ∙ a) ])

  -- a root that has stopped without a cause has ended
  root_still : cause J r ≡ None → root_ended J r ≡ false → is_stopped (last_answer J r) ≡ false
  root_still none open_still = by (last_answer J r) refl
    where
      by : (o : Option Answer) → last_answer J r ≡ o → is_stopped o ≡ false
      by None e = refl
      by (Some (answer_is.Done told)) e = absurd (true≢false (sym (ap (λ c. root_over c (rolled_back J r) (done_with (last_answer J r))) none ∙ ap (λ o. is_some (done_with o)) e) ∙ open_still))
      by (Some (answer_is.Fail c)) e = absurd ((sound_all J legal).caused r node is c e (ap (cause J) ((grown_all J legal).tops r node is top) ∙ none))
      by (Some answer_is.Undone) e = absurd ((sound_all J legal).undone r e)
      by (Some answer) e = refl

  own_root : node.root ≡ r
  own_root = (grown_all J legal).tops r node is top

  goes_unfailed : cause J r ≡ None → root_ended J r ≡ false → HasOneThatGoes J r
  unfolding is_still
  goes_unfailed none open_still = elim (last_failing (made J + 1) is_still) [
    | inr f ↦ let u = unstill f.0 f.2 in goes_at f.0 u.0 u.1 u.2 u.3 f.3 (phase_own f.0 u.0 u.2 None none (rolled_back J r) refl (inl refl))
    | inl all ↦
        let lt : r < made J + 1 = (let le = is_there J (grown_all J legal) r node is in omega (arith, le)) in
        let at = Rattle.hm_model.proofs.Trees.all_below_at (made J + 1) is_still r all lt in
        elim (or_cases (not (in_tree r (node_of J r))) (is_stopped (last_answer J r)) at) [
          | inl out_of ↦ absurd (true≢false (sym out_of ∙ not_from_true (in_tree r (node_of J r)) (ap (in_tree r) is ∙ eq-eqb node.root r own_root)))
          | inr stopped ↦ absurd (true≢false (sym stopped ∙ root_still none open_still))
        ]
  ]

  -- a failed tree: a descendant that hasn't stopped goes on, and else a step is to be undone
  not_top : (q : ℕ) (x : Node) → node_of J q ≡ Some x → x.root ≡ r → q ≢ r → is_top x.above ≡ false
  not_top q x at root differs = by x.above refl
    where
      by : (above : List ℕ) → x.above ≡ above → is_top above ≡ false
      by [] e = absurd (differs (sym ((grown_all J legal).tops q x at e) ∙ root))
      by (u ∷ rest) e = refl

  still_of : (k : ℕ) → k ≢ r → stopped_in J r k ≡ true → is_still k ≡ true
  unfolding is_still
  still_of k differs h = elim (or_cases (not (in_tree r (node_of J k))) ((k == r) || is_stopped (last_answer J k)) h) [
    | inl out_of ↦ or_left (not (in_tree r (node_of J k))) (is_stopped (last_answer J k)) out_of
    | inr more ↦ elim (or_cases (k == r) (is_stopped (last_answer J k)) more) [
      | inl same ↦ absurd (differs (eqb-true k r same))
      | inr stopped ↦ or_right (not (in_tree r (node_of J k))) (is_stopped (last_answer J k)) stopped
    ]
  ]

  -- descendants come later than the root
  below_root : (above : List ℕ) (q : ℕ) (x : Node) → node_of J q ≡ Some x → x.above ≡ above → x.root ≡ r → r ≤ q
  below_root [] q x at e root = (let t = (grown_all J legal).tops q x at e in omega (arith, t, root))
  below_root (u ∷ rest) q x at e root =
      let up = (grown_all J legal).ups q x at u rest e in
      let le = below_root rest u up.0 up.1 up.2 (up.3 ∙ root) in
      let lt = (grown_all J legal).later q x at u rest e in
      omega (arith, le, lt)

  goes_failed : (c : Cause) → cause J r ≡ Some c → root_ended J r ≡ false → HasOneThatGoes J r ⊎ MayUndo J r
  goes_failed c e open_still =
      let rolled : rolled_back J r ≡ false = sym (ap (λ k. root_over k (rolled_back J r) (done_with (last_answer J r))) e) ∙ open_still in
      elim (last_failing (made J + 1) (stopped_in J r)) [
        | inr f ↦
            let p = or_parts (not (in_tree r (node_of J f.0))) ((f.0 == r) || is_stopped (last_answer J f.0)) f.2 in
            let s = or_parts (f.0 == r) (is_stopped (last_answer J f.0)) p.1 in
            let t = tree_node f.0 (node_of J f.0) refl (not-false (in_tree r (node_of J f.0)) p.0) in
            let differs : f.0 ≢ r = (λ same. true≢false (sym (eq-eqb f.0 r same) ∙ s.0)) in
            let le = below_root t.0.above f.0 t.0 t.1 refl t.2 in
            inl (goes_at f.0 t.0 t.1 t.2 s.1 (λ k lt below. still_of k (λ same. omega (arith, lt, le, same)) (f.3 k lt below)) (phase_own f.0 t.0 t.2 (Some c) e false rolled (inr (refl, not_top f.0 t.0 t.1 t.2 differs))))
        | inl all ↦ inr (
          node,
          is,
          and_from (is_top node.above) _ (ap is_top top) (and_from (is_some (cause J r)) _ (ap is_some e) (and_from (all_stopped J r) (not (is_empty (stack J r))) all (not_from_false (is_empty (stack J r)) (elim (cases_Bool (is_empty (stack J r))) [
            | inr off ↦ off
            | inl on ↦ absurd (true≢false (sym (and_from (all_stopped J r) (is_empty (stack J r)) all on) ∙ rolled))
          ])))),
        )
      ]

  goes_by : (c : Option Cause) → cause J r ≡ c → root_ended J r ≡ false → HasOneThatGoes J r ⊎ MayUndo J r
  goes_by None e open_still = inl (goes_unfailed e open_still)
  goes_by (Some c) e open_still = goes_failed c e open_still

pub each_tree_goes_on_is : EachTreeGoesOn
each_tree_goes_on_is J legal r node is top open_still = goes_by J legal r node is top (cause J r) refl open_still
