-- What every legal journal keeps of its procedures and their calls, whatever its steps conflicted with.
use Rattle.std.proofs.Common.{◌≡◌, ◌≢◌, ℕ, zero, suc, ◌+◌, ◌-◌, ◌<◌, ◌≤◌, List, [], ◌∷◌, Bool, true, false, not, ◌||◌, ◌==◌, nat_lt, Option, Some, None, option_map, refl, ap, sym, ◌∙◌, subst, inl, inr, ◌⊎◌, slice_get, arith}
use Rattle.std.specs.Option.{option_or}
use Rattle.std.proofs.lemmas.Bool.{and_from, and_parts, cases_Bool, cases_eq, cases_lt, cond-false, cond-true, eq-eqb, false≢true, le-ltb, lt-ltb, ne_eqb, not-true, or_cases, true≢false}
use Rattle.std.proofs.lemmas.Option.{none-some, same_Some, slice_get_past}
use Rattle.hm_names.specs.Region.{Region}
use Rattle.hm_names.specs.Server.{Server}
use Rattle.hm_names.specs.declared.nonce.Nonce.{Nonce}
use Rattle.hm_names.specs.declared.pid.Pid.{Pid}
use Rattle.hm_data.specs.declared.answer.Answer.{Answer}
use Rattle.hm_data.specs.declared.answer.Answer.TheVariants as answer_is
use Rattle.hm_data.specs.declared.args.Args.{Args}
use Rattle.hm_data.specs.declared.args.Args.TheVariants as args_are
use Rattle.hm_data.specs.declared.args.Child.{Child}
use Rattle.hm_data.specs.declared.call.Told.{Told}
use Rattle.hm_data.specs.declared.call.Verb.{Verb}
use Rattle.hm_data.specs.declared.entry.Entry.{Entry}
use Rattle.hm_data.specs.declared.entry.Entry.TheVariants as entry_is
use Rattle.hm_data.specs.declared.request.Request.{Request}
use Rattle.hm_data.specs.declared.sheet.Sheet.{Sheet}
use Rattle.hm_data.specs.declared.step.StepOut.{StepOut}
use Rattle.hm_model.specs.Answers.{is_stopped, last_answer, report_of, row_after, row_of}
use Rattle.hm_model.specs.Journal.{Past}
use Rattle.hm_model.specs.Kinds.{first_row_of, kind_of, table_of_request}
use Rattle.hm_model.specs.Rules.{IsLegal}
use Rattle.hm_model.specs.Lists.{exact_rows}
use Rattle.hm_model.specs.Phase.{all_below, child_in, children_ended, is_parent}
use Rattle.hm_model.specs.Reports.{fits_verb, is_about, last_call, verb_of}
use Rattle.hm_model.specs.Sheets.{sheet_for, sheets_by, sheets_of}
use Rattle.hm_model.specs.Inputs.{made_at_step}
use Rattle.hm_model.specs.Tree.{Node, args_in, child_of, children_of, first_of, is_top, made, node_of, root_node, submitted}
use Rattle.hm_model.specs.Validity.{AllValid}
use Rattle.hm_model.specs.Verbs.{verb_in}
use Rattle.hm_model.proofs.StepDoes.{CallerAt, Does, bears, does}
use Rattle.hm_model.proofs.ExactRows.{IsLed, sheet_is, start_led, valid_by}
use Rattle.hm_model.proofs.LegalSteps.{ReadyBy, StepFacts, legal_step, ready_stops}
use Rattle.hm_model.proofs.PlainActs.{ChildrenWait}
use Rattle.hm_model.proofs.RootSheets.{by_stays, not_next}
use Rattle.hm_model.proofs.Small.{cons_nil, nil_cons, top_is}

-- it waits for children
abbrev pub IsWaiting : Option Answer → Type 0
IsWaiting None = ⊥
IsWaiting (Some (answer_is.More n)) = ⊥
IsWaiting (Some (answer_is.Wait n)) = Unit {0}
IsWaiting (Some (answer_is.Await n)) = ⊥
IsWaiting (Some (answer_is.Done told)) = ⊥
IsWaiting (Some (answer_is.Fail cause)) = ⊥
IsWaiting (Some answer_is.Undone) = ⊥

pub waiting_some : (last : Option Answer) → IsWaiting last → last ≢ None
waiting_some None w e = w
waiting_some (Some answer) w e = none-some answer (sym e)

pub record Grown (J : Past) : Type 0 where
  pub numbered : (p : ℕ) → made J < p → node_of J p ≡ None
  pub unmade : (p : ℕ) → node_of J p ≡ None → last_answer J p ≡ None
  pub tops : (p : ℕ) (node : Node) → node_of J p ≡ Some node → node.above ≡ [] → node.root ≡ p
  pub ups : (p : ℕ) (node : Node) → node_of J p ≡ Some node → (u : ℕ) (rest : List ℕ) → node.above ≡ u ∷ rest → (up : Node) × (node_of J u ≡ Some up) × (up.above ≡ rest) × (up.root ≡ node.root) × (bears up.args node.args ≡ true)
  pub later : (p : ℕ) (node : Node) → node_of J p ≡ Some node → (u : ℕ) (rest : List ℕ) → node.above ≡ u ∷ rest → u < p
  pub waits : (p : ℕ) (node : Node) → node_of J p ≡ Some node → (u : ℕ) (rest : List ℕ) → node.above ≡ u ∷ rest → is_stopped (last_answer J p) ≡ false → IsWaiting (last_answer J u)
  pub led : (p : ℕ) (node : Node) → node_of J p ≡ Some node → exact_rows (kind_of node.args) ≡ [] → (sheet : Sheet) → sheet_for (sheets_by J node.root) (kind_of node.args) ≡ Some sheet → is_stopped (last_answer J p) ≡ false → IsLed (kind_of node.args) sheet.rows (row_of J p node)
  pub calls : (p : ℕ) (node : Node) → node_of J p ≡ Some node → (verb : Verb) → verb_in node.args ≡ Some verb → CallerAt verb (verb_of J p) (last_answer J p)
  pub verbs : (p : ℕ) (verb : Verb) → verb_of J p ≡ Some verb → (node : Node) × (node_of J p ≡ Some node) × (verb_in node.args ≡ Some verb)
  pub fits : (p : ℕ) (told : Told) → report_of J p ≡ Some told → (verb : Verb) × (verb_of J p ≡ Some verb) × (fits_verb verb told ≡ true)
  pub last_is : (r : Region) (p : ℕ) → last_call J r ≡ Some p → is_about r (verb_of J p) ≡ true

pub grown_nothing : Grown []
grown_nothing = record {
  numbered = λ p h. refl;
  unmade = λ p h. refl;
  tops = λ p node is. absurd (none-some node is);
  ups = λ p node is. absurd (none-some node is);
  later = λ p node is. absurd (none-some node is);
  waits = λ p node is. absurd (none-some node is);
  led = λ p node is. absurd (none-some node is);
  calls = λ p node is. absurd (none-some node is);
  verbs = λ p verb is. absurd (none-some verb is);
  fits = λ p told is. absurd (none-some told is);
  last_is = λ r p is. absurd (none-some p is);
}

pub le_or_lt : (m n : ℕ) → (m ≤ n) ⊎ (n < m)
le_or_lt m n = elim (cases_lt n m) [ inl lt ↦ inr lt | inr le ↦ inl le ]

pub is_there : (J : Past) → Grown J → (p : ℕ) (node : Node) → node_of J p ≡ Some node → p ≤ made J
is_there J grown p node is = elim (le_or_lt p (made J)) [ inl le ↦ le | inr lt ↦ absurd (none-some node (sym (grown.numbered p lt) ∙ is)) ]

-- nor is its root above what was made
pub root_low : (J : Past) → Grown J → (above : List ℕ) (p : ℕ) (node : Node) → node_of J p ≡ Some node → node.above ≡ above → node.root ≤ p
root_low J grown [] p node is e = let own = grown.tops p node is e in omega (arith, own)
root_low J grown (u ∷ rest) p node is e =
    let up = grown.ups p node is u rest e in
    let later = grown.later p node is u rest e in
    let le = root_low J grown rest u up.0 up.1 up.2 in
    let same = up.3 in
    omega (arith, le, later, same)

pub root_within : (J : Past) → Grown J → (p : ℕ) (node : Node) → node_of J p ≡ Some node → node.root ≤ made J
root_within J grown p node is =
    let up = root_low J grown node.above p node is refl in
    let le = is_there J grown p node is in
    omega (arith, up, le)

-- nobody who wasn't made has a call
pub no_verb : (J : Past) → Grown J → (p : ℕ) (o : Option Verb) → verb_of J p ≡ o → node_of J p ≡ None → o ≡ None
no_verb J grown p None is none = refl
no_verb J grown p (Some verb) is none = let v = grown.verbs p verb is in absurd (none-some v.0 (sym none ∙ v.1))

pub all_below_at : (n : ℕ) (test : ℕ → Bool) (q : ℕ) → all_below n test ≡ true → q < n → test q ≡ true
all_below_at zero test q all lt = absurd (omega (arith, lt))
all_below_at (suc n) test q all lt = elim (cases_eq q n) [
  | inl same ↦ ap test same ∙ (and_parts (test n) (all_below n test) all).0
  | inr differs ↦ all_below_at n test q (and_parts (test n) (all_below n test) all).1 (omega (arith, lt, differs))
]

pub all_below_from : (n : ℕ) (test : ℕ → Bool) → ((q : ℕ) → q < n → test q ≡ true) → all_below n test ≡ true
all_below_from zero test each = refl
all_below_from (suc n) test each = and_from (test n) (all_below n test) (each n (omega arith)) (all_below_from n test (λ q lt. each q (omega (arith, lt))))

-- the children of one whose children have ended have stopped
pub child_stopped : (J : Past) → Grown J → (p : ℕ) → children_ended J p ≡ true → (q : ℕ) (node : Node) → node_of J q ≡ Some node → (rest : List ℕ) → node.above ≡ p ∷ rest → is_stopped (last_answer J q) ≡ true
child_stopped J grown p ended q node is rest above =
    let at = all_below_at (made J + 1) (λ k. not (child_in p (node_of J k)) || is_stopped (last_answer J k)) q ended (let le = is_there J grown q node is in omega (arith, le)) in
    elim (or_cases (not (child_in p (node_of J q))) (is_stopped (last_answer J q)) at) [
      | inl none ↦ absurd (true≢false (sym (ap (child_in p) is ∙ ap (is_parent p) above ∙ eq-eqb p p refl) ∙ not-true (child_in p (node_of J q)) none))
      | inr stopped ↦ stopped
    ]

-- entries that make roots
pub record IsRooted (J J' : Past) : Type 0 where
  pub old : (p : ℕ) → p ≤ made J → node_of J' p ≡ node_of J p
  pub new : (p : ℕ) → made J < p → (node_of J' p ≡ None) ⊎ ((args : Args) × (first : ℕ) × (node_of J' p ≡ Some (root_node p args first)))
  pub past : (p : ℕ) → made J' < p → node_of J' p ≡ None
  pub last : (p : ℕ) → last_answer J' p ≡ last_answer J p
  pub verb : (p : ℕ) → verb_of J' p ≡ verb_of J p
  pub report : (p : ℕ) → report_of J' p ≡ report_of J p
  pub lasts : (r : Region) → last_call J' r ≡ last_call J r
  pub sheets : (root : ℕ) → root ≤ made J → sheets_by J' root ≡ sheets_by J root
  pub steps : (p : ℕ) → made_at_step J' p ≡ made_at_step J p

module _ (J J' : Past) (rooted : IsRooted J J') (grown : Grown J) where
  -- a procedure is an old one, or a new root that has no step
  pub old_or_new : (p : ℕ) (node : Node) → node_of J' p ≡ Some node → (node_of J p ≡ Some node) ⊎ ((args : Args) × (first : ℕ) × (node ≡ root_node p args first) × (last_answer J' p ≡ None) × (made J < p))
  old_or_new p node is = elim (le_or_lt p (made J)) [
    | inl le ↦ inl (sym (rooted.old p le) ∙ is)
    | inr lt ↦ elim (rooted.new p lt) [
      | inl none ↦ absurd (none-some node (sym none ∙ is))
      | inr root ↦ inr (root.0, root.1, same_Some node (root_node p root.0 root.1) (sym is ∙ root.2), rooted.last p ∙ grown.unmade p (grown.numbered p lt), lt)
    ]
  ]

  pub still : (p : ℕ) (node : Node) → node_of J p ≡ Some node → node_of J' p ≡ Some node
  still p node is = rooted.old p (is_there J grown p node is) ∙ is

  root_above : (p : ℕ) (node : Node) (args : Args) (first u : ℕ) (rest : List ℕ) → node ≡ root_node p args first → node.above ≡ u ∷ rest → ⊥
  root_above p node args first u rest is above = nil_cons u rest (ap (λ (n : Node). n.above) (sym is) ∙ above)

  pub grown_rooted : ((root : ℕ) → AllValid (sheets_by J' root)) → Grown J'
  grown_rooted valid = record {
    numbered = rooted.past;
    unmade = λ p none. rooted.last p ∙ elim (le_or_lt p (made J)) [
      | inl le ↦ grown.unmade p (sym (rooted.old p le) ∙ none)
      | inr lt ↦ grown.unmade p (grown.numbered p lt)
    ];
    tops = λ p node is above. elim (old_or_new p node is) [
      | inl was ↦ grown.tops p node was above
      | inr root ↦ ap (λ (n : Node). n.root) root.2
    ];
    ups = λ p node is u rest above. elim (old_or_new p node is) [
      | inl was ↦ let up = grown.ups p node was u rest above in (up.0, still u up.0 up.1, up.2, up.3, up.4)
      | inr root ↦ absurd (root_above p node root.0 root.1 u rest root.2 above)
    ];
    later = λ p node is u rest above. elim (old_or_new p node is) [
      | inl was ↦ grown.later p node was u rest above
      | inr root ↦ absurd (root_above p node root.0 root.1 u rest root.2 above)
    ];
    waits = λ p node is u rest above runs. elim (old_or_new p node is) [
      | inl was ↦ subst IsWaiting (sym (rooted.last u)) (grown.waits p node was u rest above (ap is_stopped (sym (rooted.last p)) ∙ runs))
      | inr root ↦ absurd (root_above p node root.0 root.1 u rest root.2 above)
    ];
    led = λ p node is lined sheet found runs. elim (old_or_new p node is) [
      | inl was ↦ subst (λ o. IsLed (kind_of node.args) sheet.rows (row_after (first_row_of node.args) o)) (sym (rooted.last p)) (grown.led p node was lined sheet (ap (λ s. sheet_for s (kind_of node.args)) (sym (rooted.sheets node.root (root_within J grown p node was))) ∙ found) (ap is_stopped (sym (rooted.last p)) ∙ runs))
      | inr root ↦
          let v = sheet_is (sheets_by J' node.root) (valid node.root) (kind_of node.args) sheet found in
          subst (λ o. IsLed (kind_of node.args) sheet.rows (row_after (first_row_of node.args) o)) (sym root.3) (start_led node.args lined sheet v.0 v.1)
    ];
    calls = λ p node is verb v. elim (old_or_new p node is) [
      | inl was ↦ rw (rooted.last p, rooted.verb p) (grown.calls p node was verb v)
      | inr root ↦ subst (CallerAt verb (verb_of J' p)) (sym root.3) (rooted.verb p ∙ no_verb J grown p (verb_of J p) refl (grown.numbered p root.4))
    ];
    verbs = λ p verb is. let v = grown.verbs p verb (sym (rooted.verb p) ∙ is) in (v.0, still p v.0 v.1, v.2);
    fits = λ p told is. let f = grown.fits p told (sym (rooted.report p) ∙ is) in (f.0, rooted.verb p ∙ f.1, f.2);
    last_is = λ r p is. ap (is_about r) (rooted.verb p) ∙ grown.last_is r p (sym (rooted.lasts r) ∙ is);
  }

-- a submission, a server that went down, and an undo make roots
pub submit_rooted : (nonce : Nonce) (request : Request) (J : Past) → Grown J → IsRooted J (entry_is.Submit nonce request ∷ J)
submit_rooted nonce request J grown = record {
  old = λ p le. cond-false (p == made J + 1) (Some (submitted J request p)) (node_of J p) (ne_eqb p (made J + 1) (λ e. omega (arith, le, e)));
  new = λ p lt. elim (cases_eq p (made J + 1)) [
    | inl same ↦ inr (args_are.Root request (first_of J (table_of_request request)), first_of J (table_of_request request), cond-true (p == made J + 1) (Some (submitted J request p)) (node_of J p) (eq-eqb p (made J + 1) same))
    | inr differs ↦ inl (cond-false (p == made J + 1) (Some (submitted J request p)) (node_of J p) (ne_eqb p (made J + 1) differs) ∙ grown.numbered p lt)
  ];
  past = λ p lt. cond-false (p == made J + 1) (Some (submitted J request p)) (node_of J p) (ne_eqb p (made J + 1) (λ e. omega (arith, lt, e))) ∙ grown.numbered p (omega (arith, lt));
  last = λ p. refl;
  verb = λ p. refl;
  report = λ p. refl;
  lasts = λ r. refl;
  sheets = λ root le. cond-false (root == made J + 1) (sheets_of J) (sheets_by J root) (not_next root (made J) le);
  steps = λ p. refl;
}

pub down_rooted : (server : Server) (J : Past) → Grown J → IsRooted J (entry_is.Down server ∷ J)
down_rooted server J grown = record {
  old = λ p le. cond-false (p == made J + 1) (Some (root_node p (args_are.Crash server) 1)) (node_of J p) (ne_eqb p (made J + 1) (λ e. omega (arith, le, e)));
  new = λ p lt. elim (cases_eq p (made J + 1)) [
    | inl same ↦ inr (args_are.Crash server, 1, cond-true (p == made J + 1) (Some (root_node p (args_are.Crash server) 1)) (node_of J p) (eq-eqb p (made J + 1) same))
    | inr differs ↦ inl (cond-false (p == made J + 1) (Some (root_node p (args_are.Crash server) 1)) (node_of J p) (ne_eqb p (made J + 1) differs) ∙ grown.numbered p lt)
  ];
  past = λ p lt. cond-false (p == made J + 1) (Some (root_node p (args_are.Crash server) 1)) (node_of J p) (ne_eqb p (made J + 1) (λ e. omega (arith, lt, e))) ∙ grown.numbered p (omega (arith, lt));
  last = λ p. refl;
  verb = λ p. refl;
  report = λ p. refl;
  lasts = λ r. refl;
  sheets = λ root le. cond-false (root == made J + 1) (sheets_of J) (sheets_by J root) (not_next root (made J) le);
  steps = λ p. refl;
}

pub undo_rooted : (pid : Pid) (row : ℕ) (out : StepOut) (J : Past) → Grown J → IsRooted J (entry_is.Undo pid row out ∷ J)
undo_rooted pid row out J grown = record {
  old = λ p le. cond-false (nat_lt (made J) p) (option_map (λ args. root_node p args 1) (slice_get (args_in out.followers) (p - made J - 1))) (node_of J p) (le-ltb (made J) p le);
  new = λ p lt. by p (slice_get (args_in out.followers) (p - made J - 1)) (cond-true (nat_lt (made J) p) (option_map (λ args. root_node p args 1) (slice_get (args_in out.followers) (p - made J - 1))) (node_of J p) (lt-ltb (made J) p lt));
  past = λ p lt. cond-true (nat_lt (made J) p) (option_map (λ args. root_node p args 1) (slice_get (args_in out.followers) (p - made J - 1))) (node_of J p) (lt-ltb (made J) p (omega (arith, lt))) ∙ ap (option_map (λ args. root_node p args 1)) (slice_get_past (args_in out.followers) (p - made J - 1) (omega (arith, lt)));
  last = λ p. refl;
  verb = λ p. refl;
  report = λ p. refl;
  lasts = λ r. refl;
  sheets = λ root le. cond-false (nat_lt (made J) root) (sheets_of J) (sheets_by J root) (le-ltb (made J) root le);
  steps = λ p. refl;
}
  where
    by : (p : ℕ) (o : Option Args) → node_of (entry_is.Undo pid row out ∷ J) p ≡ option_map (λ args. root_node p args 1) o → (node_of (entry_is.Undo pid row out ∷ J) p ≡ None) ⊎ ((args : Args) × (first : ℕ) × (node_of (entry_is.Undo pid row out ∷ J) p ≡ Some (root_node p args first)))
    by p None e = inl e
    by p (Some args) e = inr (args, 1, e)

-- a step
module _ (pid : Pid) (pick : Option Server) (out : StepOut) (J : Past) where
  pub answer_now : last_answer (entry_is.Step pid pick out ∷ J) pid.0 ≡ Some out.answer
  answer_now = cond-true (pid.0 == pid.0) (Some out.answer) (last_answer J pid.0) (eq-eqb pid.0 pid.0 refl)

  pub other_answer : (q : ℕ) → q ≢ pid.0 → last_answer (entry_is.Step pid pick out ∷ J) q ≡ last_answer J q
  other_answer q differs = cond-false (q == pid.0) (Some out.answer) (last_answer J q) (ne_eqb q pid.0 differs)

  -- who goes on behind a step of somebody who went on did so before
  pub ran_before : is_stopped (last_answer J pid.0) ≡ false → (q : ℕ) → is_stopped (last_answer (entry_is.Step pid pick out ∷ J) q) ≡ false → is_stopped (last_answer J q) ≡ false
  ran_before runs q now = elim (cases_eq q pid.0) [
    | inl same ↦ ap (λ x. is_stopped (last_answer J x)) same ∙ runs
    | inr differs ↦ ap is_stopped (sym (other_answer q differs)) ∙ now
  ]

  pub node_same : (q : ℕ) → q ≤ made J → node_of (entry_is.Step pid pick out ∷ J) q ≡ node_of J q
  node_same q le = cond-false (nat_lt (made J) q) (children_of pid.0 (node_of J pid.0) (slice_get (args_in out.children) (q - made J - 1))) (node_of J q) (le-ltb (made J) q le)

  pub steps_now : made_at_step (entry_is.Step pid pick out ∷ J) pid.0 ≡ made J
  steps_now = cond-true (pid.0 == pid.0) (made J) (made_at_step J pid.0) (eq-eqb pid.0 pid.0 refl)

  pub other_steps : (q : ℕ) → q ≢ pid.0 → made_at_step (entry_is.Step pid pick out ∷ J) q ≡ made_at_step J q
  other_steps q differs = cond-false (q == pid.0) (made J) (made_at_step J q) (ne_eqb q pid.0 differs)

  pub verb_now : verb_of (entry_is.Step pid pick out ∷ J) pid.0 ≡ option_or out.call (verb_of J pid.0)
  verb_now = cond-true (pid.0 == pid.0) (option_or out.call (verb_of J pid.0)) (verb_of J pid.0) (eq-eqb pid.0 pid.0 refl)

  pub other_verb : (q : ℕ) → q ≢ pid.0 → verb_of (entry_is.Step pid pick out ∷ J) q ≡ verb_of J q
  other_verb q differs = cond-false (q == pid.0) (option_or out.call (verb_of J q)) (verb_of J q) (ne_eqb q pid.0 differs)

  -- a call was there before a step, or is the one that it makes
  pub verb_was : (q : ℕ) (verb : Verb) → verb_of (entry_is.Step pid pick out ∷ J) q ≡ Some verb → (verb_of J q ≡ Some verb) ⊎ ((q ≡ pid.0) × (out.call ≡ Some verb))
  verb_was q verb is = elim (cases_eq q pid.0) [
    | inl same ↦ by same out.call refl (sym verb_now ∙ ap (verb_of (entry_is.Step pid pick out ∷ J)) (sym same) ∙ is)
    | inr differs ↦ inl (sym (other_verb q differs) ∙ is)
  ]
    where
      by : q ≡ pid.0 → (o : Option Verb) → out.call ≡ o → option_or o (verb_of J pid.0) ≡ Some verb → (verb_of J q ≡ Some verb) ⊎ ((q ≡ pid.0) × (out.call ≡ Some verb))
      by same None e h = inl (ap (verb_of J) same ∙ h)
      by same (Some v) e h = inr (same, e ∙ h)

  pub node_new : (node : Node) → node_of J pid.0 ≡ Some node → (q : ℕ) → made J < q → node_of (entry_is.Step pid pick out ∷ J) q ≡ option_map (child_of pid.0 node) (slice_get (args_in out.children) (q - made J - 1))
  node_new node is q lt = cond-true (nat_lt (made J) q) (children_of pid.0 (node_of J pid.0) (slice_get (args_in out.children) (q - made J - 1))) (node_of J q) (lt-ltb (made J) q lt) ∙ ap (λ n. children_of pid.0 n (slice_get (args_in out.children) (q - made J - 1))) is ∙ by (slice_get (args_in out.children) (q - made J - 1))
    where
      by : (o : Option Args) → children_of pid.0 (Some node) o ≡ option_map (child_of pid.0 node) o
      by None = refl
      by (Some args) = refl

  -- a new procedure is a child of the one that steps
  pub new_child : (node : Node) → node_of J pid.0 ≡ Some node → (q : ℕ) → made J < q → (n : Node) → node_of (entry_is.Step pid pick out ∷ J) q ≡ Some n → (args : Args) × (slice_get (args_in out.children) (q - made J - 1) ≡ Some args) × (n ≡ child_of pid.0 node args)
  new_child node is q lt n at = by (slice_get (args_in out.children) (q - made J - 1)) refl (sym (node_new node is q lt) ∙ at)
    where
      by : (o : Option Args) → slice_get (args_in out.children) (q - made J - 1) ≡ o → option_map (child_of pid.0 node) o ≡ Some n → (args : Args) × (slice_get (args_in out.children) (q - made J - 1) ≡ Some args) × (n ≡ child_of pid.0 node args)
      by None e m = absurd (none-some n m)
      by (Some args) e m = (args, e, sym (same_Some (child_of pid.0 node args) n m))

  module _ (grown : Grown J) (step : StepFacts J pid.0 pick out) (d : Does J pid.0 step.node.args (last_answer J pid.0) step.sheet.rows out) where
    pub pid_there : pid.0 ≤ made J
    pid_there = is_there J grown pid.0 step.node step.node_is

    pub runs : is_stopped (last_answer J pid.0) ≡ false
    runs = ready_stops J pid.0 step.node (last_answer J pid.0) step.ready

    unmade_now : (q : ℕ) → made J < q → last_answer (entry_is.Step pid pick out ∷ J) q ≡ None
    unmade_now q lt = other_answer q (λ e. let le = pid_there in omega (arith, le, lt, e)) ∙ grown.unmade q (grown.numbered q lt)

    none_now : (q : ℕ) → node_of (entry_is.Step pid pick out ∷ J) q ≡ None → last_answer (entry_is.Step pid pick out ∷ J) q ≡ None
    none_now q none = elim (le_or_lt q (made J)) [
      | inl le ↦
          let was = sym (node_same q le) ∙ none in
          other_answer q (λ e. none-some step.node (sym was ∙ ap (node_of J) e ∙ step.node_is)) ∙ grown.unmade q was
      | inr lt ↦ unmade_now q lt
    ]

    pub still_there : (q : ℕ) (n : Node) → node_of J q ≡ Some n → node_of (entry_is.Step pid pick out ∷ J) q ≡ Some n
    still_there q n is = node_same q (is_there J grown q n is) ∙ is

    -- what waits for children ends, or goes on when they have ended
    waits_ready : (o : Option Answer) → IsWaiting o → ReadyBy J pid.0 step.node o → children_ended J pid.0 ≡ true
    waits_ready (Some (answer_is.Wait n)) w ready = ready
    waits_ready None w ready = absurd w
    waits_ready (Some (answer_is.More n)) w ready = absurd w
    waits_ready (Some (answer_is.Await n)) w ready = absurd w
    waits_ready (Some (answer_is.Done told)) w ready = absurd w
    waits_ready (Some (answer_is.Fail cause)) w ready = absurd w
    waits_ready (Some answer_is.Undone) w ready = absurd w

    has_child : (children : List Child) (i : ℕ) (args : Args) → slice_get (args_in children) i ≡ Some args → children ≡ [] → ⊥
    has_child children i args is none = none-some args (ap (λ c. slice_get (args_in c) i) (sym none) ∙ is)

    parent_waits : (answer : Answer) (children : List Child) (i : ℕ) (args : Args) → slice_get (args_in children) i ≡ Some args → ChildrenWait answer children → IsWaiting (Some answer)
    parent_waits (answer_is.Wait n) children i args is w = tt
    parent_waits answer children i args is w = has_child children i args is w

    same_above : (n : Node) (args : Args) (u : ℕ) (rest : List ℕ) → n ≡ child_of pid.0 step.node args → n.above ≡ u ∷ rest → (pid.0 ≡ u) × (step.node.above ≡ rest)
    same_above n args u rest is above = heads (ap (λ (x : Node). x.above) (sym is) ∙ above)
      where
        heads : pid.0 ∷ step.node.above ≡ u ∷ rest → (pid.0 ≡ u) × (step.node.above ≡ rest)
        heads e = (cc, cc)

    waits_now : (q : ℕ) (n : Node) → node_of (entry_is.Step pid pick out ∷ J) q ≡ Some n → (u : ℕ) (rest : List ℕ) → n.above ≡ u ∷ rest → is_stopped (last_answer (entry_is.Step pid pick out ∷ J) q) ≡ false → IsWaiting (last_answer (entry_is.Step pid pick out ∷ J) u)
    waits_now q n is u rest above now = elim (le_or_lt q (made J)) [
      | inl le ↦
          let was = sym (node_same q le) ∙ is in
          let waited = grown.waits q n was u rest above (ran_before runs q now) in
          elim (cases_eq u pid.0) [
            | inl same ↦ absurd (true≢false (sym (child_stopped J grown pid.0 (waits_ready (last_answer J pid.0) (subst (λ x. IsWaiting (last_answer J x)) same waited) step.ready) q n was rest (above ∙ ap (λ x. x ∷ rest) same)) ∙ ran_before runs q now))
            | inr differs ↦ subst IsWaiting (sym (other_answer u differs)) waited
          ]
      | inr lt ↦
          let c = new_child step.node step.node_is q lt n is in
          let mine = (same_above n c.0 u rest c.2 above).0 in
          subst (λ x. IsWaiting (last_answer (entry_is.Step pid pick out ∷ J) x)) mine (subst IsWaiting (sym answer_now) (parent_waits out.answer out.children (q - made J - 1) c.0 c.1 d.waits))
    ]

    led_now : (q : ℕ) (n : Node) → node_of (entry_is.Step pid pick out ∷ J) q ≡ Some n → exact_rows (kind_of n.args) ≡ [] → (sheet : Sheet) → sheet_for (sheets_by J n.root) (kind_of n.args) ≡ Some sheet → AllValid (sheets_by J n.root) → is_stopped (last_answer (entry_is.Step pid pick out ∷ J) q) ≡ false → IsLed (kind_of n.args) sheet.rows (row_of (entry_is.Step pid pick out ∷ J) q n)
    led_now q n is lined sheet found valid now = elim (cases_eq q pid.0) [
      | inl same ↦
          let one : step.node ≡ n = same_Some step.node n (sym step.node_is ∙ sym (node_same pid.0 pid_there) ∙ ap (node_of (entry_is.Step pid pick out ∷ J)) (sym same) ∙ is) in
          let sheets : step.sheet ≡ sheet = same_Some step.sheet sheet (sym step.sheet_is ∙ ap (λ (x : Node). sheet_for (sheets_by J x.root) (kind_of x.args)) one ∙ found) in
          let now_is : last_answer (entry_is.Step pid pick out ∷ J) q ≡ Some out.answer = ap (last_answer (entry_is.Step pid pick out ∷ J)) same ∙ answer_now in
          subst (λ o. IsLed (kind_of n.args) sheet.rows (row_after (first_row_of n.args) o)) (sym now_is)
          (subst (λ (s : Sheet). IsLed (kind_of n.args) s.rows (row_after (first_row_of n.args) (Some out.answer))) sheets
          (subst (λ (x : Node). IsLed (kind_of x.args) step.sheet.rows (row_after (first_row_of x.args) (Some out.answer))) one (d.led (ap (λ (x : Node). exact_rows (kind_of x.args)) one ∙ lined) (ap is_stopped (sym now_is) ∙ now))))
      | inr differs ↦ elim (le_or_lt q (made J)) [
        | inl le ↦ subst (λ o. IsLed (kind_of n.args) sheet.rows (row_after (first_row_of n.args) o)) (sym (other_answer q differs)) (grown.led q n (sym (node_same q le) ∙ is) lined sheet found (ran_before runs q now))
        | inr lt ↦
            let v = sheet_is (sheets_by J n.root) valid (kind_of n.args) sheet found in
            subst (λ o. IsLed (kind_of n.args) sheet.rows (row_after (first_row_of n.args) o)) (sym (unmade_now q lt)) (start_led n.args lined sheet v.0 v.1)
      ]
    ]

    -- a call that was made stays
    pub verb_stays : (q : ℕ) (verb : Verb) → verb_of J q ≡ Some verb → verb_of (entry_is.Step pid pick out ∷ J) q ≡ Some verb
    verb_stays q verb is = elim (cases_eq q pid.0) [
      | inl same ↦
          let was : verb_of J pid.0 ≡ Some verb = ap (verb_of J) (sym same) ∙ is in
          let v = grown.verbs pid.0 verb was in
          let one : v.0 ≡ step.node = same_Some v.0 step.node (sym v.1 ∙ step.node_is) in
          let mine : verb_in step.node.args ≡ Some verb = ap (λ (x : Node). verb_in x.args) (sym one) ∙ v.2 in
          ap (verb_of (entry_is.Step pid pick out ∷ J)) same ∙ verb_now ∙ by verb was (elim (d.calls verb mine).does [
            | inl asks ↦ absurd (none-some verb (sym (subst (CallerAt verb (verb_of J pid.0)) asks.0 (grown.calls pid.0 step.node step.node_is verb mine)) ∙ was))
            | inr ends ↦ ends.0
          ])
      | inr differs ↦ other_verb q differs ∙ is
    ]
      where
        by : (verb : Verb) → verb_of J pid.0 ≡ Some verb → out.call ≡ None → option_or out.call (verb_of J pid.0) ≡ Some verb
        by verb was none = ap (λ o. option_or o (verb_of J pid.0)) none ∙ was

    -- who makes a call is for it, and made none before
    pub call_mine : (verb : Verb) → out.call ≡ Some verb → (verb_in step.node.args ≡ Some verb) × (last_answer J pid.0 ≡ None) × (out.answer ≡ answer_is.Await 1) × (verb_of J pid.0 ≡ None)
    call_mine verb is = by (verb_in step.node.args) refl
      where
        by : (o : Option Verb) → verb_in step.node.args ≡ o → (verb_in step.node.args ≡ Some verb) × (last_answer J pid.0 ≡ None) × (out.answer ≡ answer_is.Await 1) × (verb_of J pid.0 ≡ None)
        by None e = absurd (none-some verb (sym (d.silent e) ∙ is))
        by (Some own) e = elim (d.calls own e).does [
          | inl asks ↦ (e ∙ sym asks.1 ∙ is, asks.0, asks.2, subst (CallerAt own (verb_of J pid.0)) asks.0 (grown.calls pid.0 step.node step.node_is own e))
          | inr ends ↦ absurd (none-some verb (sym ends.0 ∙ is))
        ]

    calls_now : (q : ℕ) (n : Node) → node_of (entry_is.Step pid pick out ∷ J) q ≡ Some n → (verb : Verb) → verb_in n.args ≡ Some verb → CallerAt verb (verb_of (entry_is.Step pid pick out ∷ J) q) (last_answer (entry_is.Step pid pick out ∷ J) q)
    calls_now q n is verb v = elim (cases_eq q pid.0) [
      | inl same ↦
          let one : step.node ≡ n = same_Some step.node n (sym step.node_is ∙ sym (node_same pid.0 pid_there) ∙ ap (node_of (entry_is.Step pid pick out ∷ J)) (sym same) ∙ is) in
          let mine : verb_in step.node.args ≡ Some verb = ap (λ (x : Node). verb_in x.args) one ∙ v in
          subst (λ x. CallerAt verb (verb_of (entry_is.Step pid pick out ∷ J) x) (last_answer (entry_is.Step pid pick out ∷ J) x)) (sym same)
          (subst (CallerAt verb (verb_of (entry_is.Step pid pick out ∷ J) pid.0)) (sym answer_now) (by_call verb (d.calls verb mine).does))
      | inr differs ↦ elim (le_or_lt q (made J)) [
        | inl le ↦ rw (other_answer q differs, other_verb q differs) (grown.calls q n (sym (node_same q le) ∙ is) verb v)
        | inr lt ↦ subst (CallerAt verb (verb_of (entry_is.Step pid pick out ∷ J) q)) (sym (unmade_now q lt)) (other_verb q differs ∙ no_verb J grown q (verb_of J q) refl (grown.numbered q lt))
      ]
    ]
      where
        by_call : (verb : Verb) → ((last_answer J pid.0 ≡ None) × (out.call ≡ Some verb) × (out.answer ≡ answer_is.Await 1)) ⊎ ((out.call ≡ None) × Rattle.hm_model.proofs.CallSteps.Ending J pid.0 step.node.args (last_answer J pid.0) out.answer) → CallerAt verb (verb_of (entry_is.Step pid pick out ∷ J) pid.0) (Some out.answer)
        by_call verb (inl asks) = subst (λ a. CallerAt verb (verb_of (entry_is.Step pid pick out ∷ J) pid.0) (Some a)) (sym asks.2) (refl, verb_now ∙ ap (λ o. option_or o (verb_of J pid.0)) asks.1)
        by_call verb (inr ends) = elim ends.1 [
          | inl gone ↦ subst (λ a. CallerAt verb (verb_of (entry_is.Step pid pick out ∷ J) pid.0) (Some a)) (sym gone.0) tt
          | inr other ↦ elim other [
            | inl told ↦ subst (λ a. CallerAt verb (verb_of (entry_is.Step pid pick out ∷ J) pid.0) (Some a)) (sym told.1) tt
            | inr failed ↦ subst (λ a. CallerAt verb (verb_of (entry_is.Step pid pick out ∷ J) pid.0) (Some a)) (sym failed.1) tt
          ]
        ]

    last_now : (r : Region) (p : ℕ) → last_call (entry_is.Step pid pick out ∷ J) r ≡ Some p → is_about r (verb_of (entry_is.Step pid pick out ∷ J) p) ≡ true
    last_now r p is = elim (cases_Bool (is_about r out.call)) [
      | inl about ↦
          let same : pid.0 ≡ p = same_Some pid.0 p (sym (cond-true (is_about r out.call) (Some pid.0) (last_call J r) about) ∙ is) in
          ap (λ x. is_about r (verb_of (entry_is.Step pid pick out ∷ J) x)) (sym same) ∙ ap (is_about r) verb_now ∙ by out.call about
      | inr not_about ↦
          let was = grown.last_is r p (sym (cond-false (is_about r out.call) (Some pid.0) (last_call J r) not_about) ∙ is) in
          stays (verb_of J p) refl was
    ]
      where
        by : (o : Option Verb) → is_about r o ≡ true → is_about r (option_or o (verb_of J pid.0)) ≡ true
        by None about = absurd (false≢true about)
        by (Some verb) about = about

        stays : (o : Option Verb) → verb_of J p ≡ o → is_about r o ≡ true → is_about r (verb_of (entry_is.Step pid pick out ∷ J) p) ≡ true
        stays None e about = absurd (false≢true about)
        stays (Some verb) e about = ap (is_about r) (verb_stays p verb e) ∙ about

    pub grown_step : ((root : ℕ) → AllValid (sheets_by J root)) → Grown (entry_is.Step pid pick out ∷ J)
    grown_step valid = record {
      numbered = λ q lt. node_new step.node step.node_is q (omega (arith, lt)) ∙ ap (option_map (child_of pid.0 step.node)) (slice_get_past (args_in out.children) (q - made J - 1) (omega (arith, lt)));
      unmade = none_now;
      tops = λ q n is above. elim (le_or_lt q (made J)) [
        | inl le ↦ grown.tops q n (sym (node_same q le) ∙ is) above
        | inr lt ↦ let c = new_child step.node step.node_is q lt n is in absurd (cons_nil pid.0 step.node.above (ap (λ (x : Node). x.above) (sym c.2) ∙ above))
      ];
      ups = λ q n is u rest above. elim (le_or_lt q (made J)) [
        | inl le ↦ let up = grown.ups q n (sym (node_same q le) ∙ is) u rest above in (up.0, still_there u up.0 up.1, up.2, up.3, up.4)
        | inr lt ↦
            let c = new_child step.node step.node_is q lt n is in
            let mine = same_above n c.0 u rest c.2 above in
            (step.node, ap (node_of (entry_is.Step pid pick out ∷ J)) (sym mine.0) ∙ still_there pid.0 step.node step.node_is, mine.1, ap (λ (x : Node). x.root) (sym c.2), ap (λ (x : Node). bears step.node.args x.args) c.2 ∙ d.bearing (q - made J - 1) c.0 c.1)
      ];
      later = λ q n is u rest above. elim (le_or_lt q (made J)) [
        | inl le ↦ grown.later q n (sym (node_same q le) ∙ is) u rest above
        | inr lt ↦
            let c = new_child step.node step.node_is q lt n is in
            let mine = (same_above n c.0 u rest c.2 above).0 in
            let le = pid_there in
            omega (arith, le, lt, mine)
      ];
      waits = waits_now;
      led = λ q n is lined sheet found now. led_now q n is lined sheet found (valid n.root) now;
      calls = calls_now;
      verbs = λ q verb is. elim (verb_was q verb is) [
        | inl was ↦ let v = grown.verbs q verb was in (v.0, still_there q v.0 v.1, v.2)
        | inr new ↦ (step.node, ap (node_of (entry_is.Step pid pick out ∷ J)) new.0 ∙ still_there pid.0 step.node step.node_is, (call_mine verb new.1).0)
      ];
      fits = λ q told is. let f = grown.fits q told is in (f.0, verb_stays q f.0 f.1, f.2);
      last_is = last_now;
    }

pub at_top : (J : Past) → Grown J → (p : ℕ) (node : Node) → node_of J p ≡ Some node → is_top node.above ≡ true → node.root ≡ p
at_top J grown p node is top = grown.tops p node is (top_is node.above top)

pub step_of : (pid : Pid) (pick : Option Server) (out : StepOut) (J : Past) → Grown J → IsLegal (entry_is.Step pid pick out ∷ J) → StepFacts J pid.0 pick out
step_of pid pick out J grown legal = legal_step pid pick out J (λ node is top. at_top J grown pid.0 node is top) (λ node is lined sheet found runs. grown.led pid.0 node is lined sheet found runs) legal

pub does_of : (pid : Pid) (pick : Option Server) (out : StepOut) (J : Past) → Grown J → (step : StepFacts J pid.0 pick out) → Does J pid.0 step.node.args (last_answer J pid.0) step.sheet.rows out
does_of pid pick out J grown step = does J pid.0 pick out step (λ lined. grown.led pid.0 step.node step.node_is lined step.sheet step.sheet_is (ready_stops J pid.0 step.node (last_answer J pid.0) step.ready)) (λ verb v. grown.calls pid.0 step.node step.node_is verb v)

-- a report of a call that has none
report_fits : (call : Pid) (told : Told) (J : Past) → Grown J → (verb : Verb) → verb_of J call.0 ≡ Some verb → fits_verb verb told ≡ true → (p : ℕ) (t : Told) → report_of (entry_is.Report call told ∷ J) p ≡ Some t → (v : Verb) × (verb_of J p ≡ Some v) × (fits_verb v t ≡ true)
report_fits call told J grown verb v fit p t is = elim (cases_eq p call.0) [
  | inl same ↦
      let one : told ≡ t = same_Some told t (sym (cond-true (p == call.0) (Some told) (report_of J p) (eq-eqb p call.0 same)) ∙ is) in
      (verb, ap (verb_of J) same ∙ v, ap (fits_verb verb) (sym one) ∙ fit)
  | inr differs ↦ grown.fits p t (sym (cond-false (p == call.0) (Some told) (report_of J p) (ne_eqb p call.0 differs)) ∙ is)
]

pub some_of : {A : Type 0} (o : Option A) → o ≢ None → (x : A) × (o ≡ Some x)
some_of None h = absurd (h refl)
some_of (Some x) h = (x, refl)

pub start_none : (J : Past) → J ≡ [] → (p : ℕ) → node_of J p ≡ None
start_none J e p = ap (λ j. node_of j p) e

pub grown_all : (J : Past) → IsLegal J → Grown J
grown_all [] legal = grown_nothing
grown_all (entry_is.Start sheets ∷ J) legal =
    let grown = grown_all J legal.0 in
    record {
      numbered = grown.numbered;
      unmade = grown.unmade;
      tops = grown.tops;
      ups = grown.ups;
      later = grown.later;
      waits = grown.waits;
      led = λ p node is. absurd (none-some node (sym (start_none J legal.1.0.0 p) ∙ is));
      calls = grown.calls;
      verbs = grown.verbs;
      fits = grown.fits;
      last_is = grown.last_is;
    }
grown_all (entry_is.Submit nonce request ∷ J) legal =
    let grown = grown_all J legal.0 in
    grown_rooted J (entry_is.Submit nonce request ∷ J) (submit_rooted nonce request J grown) grown (valid_by (entry_is.Submit nonce request ∷ J) legal)
grown_all (entry_is.Step pid pick out ∷ J) legal =
    let grown = grown_all J legal.0 in
    let step = step_of pid pick out J grown legal in
    grown_step pid pick out J grown step (does_of pid pick out J grown step) (valid_by J legal.0)
grown_all (entry_is.Undo pid row out ∷ J) legal =
    let grown = grown_all J legal.0 in
    grown_rooted J (entry_is.Undo pid row out ∷ J) (undo_rooted pid row out J grown) grown (valid_by (entry_is.Undo pid row out ∷ J) legal)
grown_all (entry_is.Report call told ∷ J) legal =
    let grown = grown_all J legal.0 in
    let verb = some_of (verb_of J call.0) legal.1.1.0.0 in
    record {
      numbered = grown.numbered;
      unmade = grown.unmade;
      tops = grown.tops;
      ups = grown.ups;
      later = grown.later;
      waits = grown.waits;
      led = grown.led;
      calls = grown.calls;
      verbs = grown.verbs;
      fits = report_fits call told J grown verb.0 verb.1 (legal.1.1.1.0 verb.0 verb.1);
      last_is = grown.last_is;
    }
grown_all (entry_is.Down server ∷ J) legal =
    let grown = grown_all J legal.0 in
    grown_rooted J (entry_is.Down server ∷ J) (down_rooted server J grown) grown (valid_by (entry_is.Down server ∷ J) legal)
grown_all (entry_is.Base part ∷ J) legal = record {
  numbered = λ p h. refl;
  unmade = λ p h. refl;
  tops = λ p node is top. absurd (none-some node is);
  ups = λ p node is. absurd (none-some node is);
  later = λ p node is. absurd (none-some node is);
  waits = λ p node is. absurd (none-some node is);
  led = λ p node is. absurd (none-some node is);
  calls = λ p node is. absurd (none-some node is);
  verbs = λ p verb is. absurd (none-some verb is);
  fits = λ p told is. absurd (none-some told is);
  last_is = λ r p is. absurd (none-some p is);
}
grown_all (entry ∷ J) legal =
    let grown = grown_all J legal.0 in
    record { numbered = grown.numbered; unmade = grown.unmade; tops = grown.tops; ups = grown.ups; later = grown.later; waits = grown.waits; led = grown.led; calls = grown.calls; verbs = grown.verbs; fits = grown.fits; last_is = grown.last_is }

-- an entry leaves alone what a procedure runs by
pub sheets_stay : (entry : Entry) (J : Past) → IsLegal (entry ∷ J) → (p : ℕ) (node : Node) → node_of J p ≡ Some node → sheets_by (entry ∷ J) node.root ≡ sheets_by J node.root
sheets_stay entry J legal p node is = by_stays entry J legal node.root (root_within J (grown_all J legal.0) p node is)
