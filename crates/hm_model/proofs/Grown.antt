-- What a legal journal made.
use Rattle.hm_data.specs.declared.part.Part.TheVariants as part_is
use Rattle.hm_model.specs.Base.{IsBegun}
use Rattle.hm_data.specs.declared.part.Part.{Part}
use Rattle.hm_model.proofs.Parted.{by_parts, no_node}
use Rattle.std.proofs.Common.{Bool, ◌++◌, ◌||◌, ◌⊎◌, IsTrue, List, None, Option, Some, [], ap, arith, false, inl, inr, length, nat_lt, refl, slice_get, subst, sym, true, ℕ, ◌&&◌, ◌+◌, ◌<◌, ◌-◌, ◌==◌, ◌∙◌, ◌∷◌, ◌≡◌, ◌≢◌, ◌≤◌}
use Rattle.std.proofs.lemmas.Bool.{and_right, cases_Bool, cases_eq, cases_lt, cond-false, cond-true, eq-eqb, false≢true, le-ltb, lt-ltb, ne_eqb}
use Rattle.std.proofs.lemmas.Option.{none-some, same_Some, slice_get_cases, slice_get_past}
use Rattle.std.specs.Option.{option_map, option_or}
use Rattle.hm_data.specs.declared.args.Args.TheVariants as args_are
use Rattle.hm_data.specs.declared.call.Told.{Told}
use Rattle.hm_data.specs.declared.entry.Entry.{Entry}
use Rattle.hm_data.specs.declared.request.Request.{Request}
use Rattle.hm_data.specs.declared.sheet.Sheet.{Sheet}
use Rattle.hm_data.specs.declared.step.StepOut.{StepOut}
use Rattle.hm_names.specs.Server.{Server}
use Rattle.hm_names.specs.declared.nonce.Nonce.{Nonce}
use Rattle.hm_names.specs.declared.pid.Pid.{Pid}
use Rattle.hm_model.specs.Answers.{is_aborted, last_answer, report_of}
use Rattle.hm_model.specs.Journal.{Past}
use Rattle.hm_model.specs.Keys.{same_table}
use Rattle.hm_model.specs.Kinds.{table_of_request}
use Rattle.hm_model.proofs.KeyTests.{same_table-is}
use Rattle.hm_names.specs.declared.table.TableName.{TableName}
use Rattle.hm_model.specs.Procedures.{offset}
use Rattle.hm_model.specs.Laws.{IsGrown, IsOld, IsUnder, OriginIsOldest, are_parts, is_part, is_start}
use Rattle.hm_model.specs.Base.{PartFits, Rises}
use Rattle.std.specs.List.{list_any}
use Rattle.hm_model.specs.Nonces.{by_nonce, is_same}
use Rattle.hm_model.specs.Places.{has_failed, one_more, tries_of}
use Rattle.hm_model.specs.Reports.{verb_of}
use Rattle.hm_model.specs.Rules.{Allowed, IsLegal}
use Rattle.hm_model.specs.Base.{AreSheets}
use Rattle.hm_model.specs.Editions.{editions, sheets_in}
use Rattle.hm_model.specs.Sheets.{sheets_of}
use Rattle.hm_model.specs.Tree.{Node, args_in, child_of, children_of, drawn, ids_for, is_root, is_root_in, made, new_ids, node_of, root_node, submitted}
use Rattle.hm_data.specs.declared.entry.Entry.TheVariants as entry_is
use Rattle.hm_data.specs.declared.request.Request.TheVariants as request_is

no_child : (pid : ℕ) (up : Option Node) → children_of pid up None ≡ None
no_child pid None = refl
no_child pid (Some up) = refl

pub grown_nothing : IsGrown []
grown_nothing = record { none = refl; low = omega arith; numbered = λ p lt. refl; there = λ p ge le. absurd (omega (arith, ge, le)); unmade = λ p e. refl; uncalled = λ p e. refl; unreported = λ p e. refl; unaborted = λ p e. refl }

pub made_up_to : (J : Past) → IsGrown J → (p : ℕ) (node : Node) → node_of J p ≡ Some node → (1 ≤ p) × (p ≤ made J)
made_up_to J grown p node is = elim (cases_lt (made J) p) [
  | inl lt ↦ absurd (none-some node (sym (grown.numbered p lt) ∙ is))
  | inr le ↦ elim (cases_eq p 0) [
    | inl zero_is ↦ absurd (none-some node (sym (ap (node_of J) zero_is ∙ grown.none) ∙ is))
    | inr positive ↦ (omega (arith, positive), le)
  ]
]

-- what wasn't there has no more after one entry
pub record StaysUntold (J J' : Past) : Type 0 where
  pub unmade : (p : ℕ) → node_of J p ≡ None → last_answer J p ≡ None → last_answer J' p ≡ None
  pub uncalled : (p : ℕ) → node_of J p ≡ None → verb_of J p ≡ None → verb_of J' p ≡ None
  pub unreported : (p : ℕ) → node_of J p ≡ None → report_of J p ≡ None → report_of J' p ≡ None
  pub unaborted : (p : ℕ) → node_of J p ≡ None → is_aborted J p ≡ false → is_aborted J' p ≡ false

-- the same procedures
same_grown : (J J' : Past) → made J' ≡ made J → offset J' ≡ offset J → ((p : ℕ) → node_of J' p ≡ node_of J p) → StaysUntold J J' → IsGrown J → IsGrown J'
same_grown J J' made_is off_is node_is untold grown = record {
  none = node_is 0 ∙ grown.none;
  low = omega (arith, made_is, off_is, grown.low);
  numbered = λ p lt. node_is p ∙ grown.numbered p (omega (arith, lt, made_is));
  there = λ p ge le. let t = grown.there p (omega (arith, ge, off_is)) (omega (arith, le, made_is)) in (t.0, node_is p ∙ t.1);
  unmade = λ p h. let was = sym (node_is p) ∙ h in untold.unmade p was (grown.unmade p was);
  uncalled = λ p h. let was = sym (node_is p) ∙ h in untold.uncalled p was (grown.uncalled p was);
  unreported = λ p h. let was = sym (node_is p) ∙ h in untold.unreported p was (grown.unreported p was);
  unaborted = λ p h. let was = sym (node_is p) ∙ h in untold.unaborted p was (grown.unaborted p was);
}

-- more procedures, numbered after the others
module _ (J J' : Past) (count : ℕ) (made_is : made J' ≡ made J + count) (off_is : offset J' ≡ offset J) (old : (q : ℕ) → q ≤ made J → node_of J' q ≡ node_of J q) (new : (q : ℕ) → made J < q → q ≤ made J + count → (x : Node) × (node_of J' q ≡ Some x)) (past : (q : ℕ) → made J + count < q → node_of J' q ≡ None) (untold : StaysUntold J J') (grown : IsGrown J) where
  -- what is not there now wasn't before
  more_none : (q : ℕ) → node_of J' q ≡ None → node_of J q ≡ None
  more_none q h = elim (cases_lt (made J) q) [
    | inl lt ↦ grown.numbered q lt
    | inr le ↦ sym (old q le) ∙ h
  ]

  more_grown : IsGrown J'
  more_grown = record {
    none = old 0 (omega arith) ∙ grown.none;
    low = omega (arith, made_is, off_is, grown.low);
    numbered = λ p lt. past p (omega (arith, lt, made_is));
    there = λ p ge le. elim (cases_lt (made J) p) [
      | inl lt ↦ new p lt (omega (arith, le, made_is))
      | inr few ↦ let t = grown.there p (omega (arith, ge, off_is)) few in (t.0, old p few ∙ t.1)
    ];
    unmade = λ p h. let was = more_none p h in untold.unmade p was (grown.unmade p was);
    uncalled = λ p h. let was = more_none p h in untold.uncalled p was (grown.uncalled p was);
    unreported = λ p h. let was = more_none p h in untold.unreported p was (grown.unreported p was);
    unaborted = λ p h. let was = more_none p h in untold.unaborted p was (grown.unaborted p was);
  }

module _ (nonce : Nonce) (request : Request) (before : Past) where
  pub submit_old : (q : ℕ) → q ≢ made before + 1 → node_of (entry_is.Submit nonce request ∷ before) q ≡ node_of before q
  submit_old q differs = cond-false (q == made before + 1) (Some (submitted before request q)) (node_of before q) (ne_eqb q (made before + 1) differs)

  pub submit_new : (q : ℕ) → q ≡ made before + 1 → node_of (entry_is.Submit nonce request ∷ before) q ≡ Some (submitted before request q)
  submit_new q same = cond-true (q == made before + 1) (Some (submitted before request q)) (node_of before q) (eq-eqb q (made before + 1) same)

  pub grown_submit : IsGrown before → IsGrown (entry_is.Submit nonce request ∷ before)
  grown_submit grown = more_grown before (entry_is.Submit nonce request ∷ before) 1 refl refl
      (λ q le. submit_old q (λ e. omega (arith, le, e)))
      (λ q lt le. (submitted before request q, submit_new q (omega (arith, lt, le))))
      (λ q lt. submit_old q (λ e. omega (arith, lt, e)) ∙ grown.numbered q (omega (arith, lt)))
      (record { unmade = λ p h e. e; uncalled = λ p h e. e; unreported = λ p h e. e; unaborted = λ p h e. e })
      grown

module _ (pid : Pid) (pick : Option Server) (out : StepOut) (before : Past) where
  pub stepped : last_answer (entry_is.Step pid pick out ∷ before) pid.0 ≡ Some out.answer
  stepped = cond-true (pid.0 == pid.0) (Some out.answer) (last_answer before pid.0) (eq-eqb pid.0 pid.0 refl)

  pub not_stepped : (q : ℕ) → q ≢ pid.0 → last_answer (entry_is.Step pid pick out ∷ before) q ≡ last_answer before q
  not_stepped q differs = cond-false (q == pid.0) (Some out.answer) (last_answer before q) (ne_eqb q pid.0 differs)

  module _ (childless : out.children ≡ []) where
    pub step_made : made (entry_is.Step pid pick out ∷ before) ≡ made before
    step_made = ap (λ c. made before + length (args_in c)) childless ∙ omega arith

    pub step_node : IsGrown before → (q : ℕ) → node_of (entry_is.Step pid pick out ∷ before) q ≡ node_of before q
    step_node grown q = elim (cases_lt (made before) q) [
      | inl lt ↦
          cond-true (nat_lt (made before) q) (children_of pid.0 (node_of before pid.0) (slice_get (args_in out.children) (q - made before - 1))) (node_of before q) (lt-ltb (made before) q lt)
          ∙ ap (λ c. children_of pid.0 (node_of before pid.0) (slice_get (args_in c) (q - made before - 1))) childless
          ∙ no_child pid.0 (node_of before pid.0)
          ∙ sym (grown.numbered q lt)
      | inr le ↦ cond-false (nat_lt (made before) q) (children_of pid.0 (node_of before pid.0) (slice_get (args_in out.children) (q - made before - 1))) (node_of before q) (le-ltb (made before) q le)
    ]

  pub step_new : (q : ℕ) → made before < q → node_of (entry_is.Step pid pick out ∷ before) q ≡ children_of pid.0 (node_of before pid.0) (slice_get (args_in out.children) (q - made before - 1))
  step_new q lt = cond-true (nat_lt (made before) q) (children_of pid.0 (node_of before pid.0) (slice_get (args_in out.children) (q - made before - 1))) (node_of before q) (lt-ltb (made before) q lt)

  pub step_old : (q : ℕ) → q ≤ made before → node_of (entry_is.Step pid pick out ∷ before) q ≡ node_of before q
  step_old q le = cond-false (nat_lt (made before) q) (children_of pid.0 (node_of before pid.0) (slice_get (args_in out.children) (q - made before - 1))) (node_of before q) (le-ltb (made before) q le)

  -- it adds its children
  pub grown_step : (node : Node) → node_of before pid.0 ≡ Some node → IsGrown before → IsGrown (entry_is.Step pid pick out ∷ before)
  grown_step node is grown = more_grown before (entry_is.Step pid pick out ∷ before) (length (args_in out.children)) refl refl step_old new past (record {
    unmade = λ p h e. not_stepped p (not_own p h) ∙ e;
    uncalled = λ p h e. cond-false (p == pid.0) (option_or out.call (verb_of before p)) (verb_of before p) (ne_eqb p pid.0 (not_own p h)) ∙ e;
    unreported = λ p h e. e;
    unaborted = λ p h e. e;
  }) grown
    where
      not_own : (p : ℕ) → node_of before p ≡ None → p ≢ pid.0
      not_own p h e = none-some node (sym h ∙ ap (node_of before) e ∙ is)

      new : (q : ℕ) → made before < q → q ≤ made before + length (args_in out.children) → (x : Node) × (node_of (entry_is.Step pid pick out ∷ before) q ≡ Some x)
      new q lt le = elim ((slice_get_cases (args_in out.children) (q - made before - 1)).1) [
        | inl there ↦ (child_of pid.0 node there.0, step_new q lt ∙ ap (λ up. children_of pid.0 up (slice_get (args_in out.children) (q - made before - 1))) is ∙ ap (children_of pid.0 (Some node)) there.2)
        | inr none ↦ (let few = none.0 in absurd (omega (arith, few, lt, le)))
      ]

      past : (q : ℕ) → made before + length (args_in out.children) < q → node_of (entry_is.Step pid pick out ∷ before) q ≡ None
      past q lt = step_new q (omega (arith, lt)) ∙ ap (children_of pid.0 (node_of before pid.0)) (slice_get_past (args_in out.children) (q - made before - 1) (omega (arith, lt))) ∙ no_child pid.0 (node_of before pid.0)

module _ (pid : Pid) (row : ℕ) (out : StepOut) (before : Past) where
  pub undo_new : (q : ℕ) → made before < q → node_of (entry_is.Undo pid row out ∷ before) q ≡ option_map (λ args. root_node q args 1) (slice_get (args_in out.followers) (q - made before - 1))
  undo_new q lt = cond-true (nat_lt (made before) q) (option_map (λ args. root_node q args 1) (slice_get (args_in out.followers) (q - made before - 1))) (node_of before q) (lt-ltb (made before) q lt)

  pub undo_old : (q : ℕ) → q ≤ made before → node_of (entry_is.Undo pid row out ∷ before) q ≡ node_of before q
  undo_old q le = cond-false (nat_lt (made before) q) (option_map (λ args. root_node q args 1) (slice_get (args_in out.followers) (q - made before - 1))) (node_of before q) (le-ltb (made before) q le)

  -- it adds its followers
  pub grown_undo : IsGrown before → IsGrown (entry_is.Undo pid row out ∷ before)
  grown_undo grown = more_grown before (entry_is.Undo pid row out ∷ before) (length (args_in out.followers)) refl refl undo_old
      (λ q lt le. elim ((slice_get_cases (args_in out.followers) (q - made before - 1)).1) [
        | inl there ↦ (root_node q there.0 1, undo_new q lt ∙ ap (option_map (λ args. root_node q args 1)) there.2)
        | inr none ↦ (let few = none.0 in absurd (omega (arith, few, lt, le)))
      ])
      (λ q lt. undo_new q (omega (arith, lt)) ∙ ap (option_map (λ args. root_node q args 1)) (slice_get_past (args_in out.followers) (q - made before - 1) (omega (arith, lt))))
      (record { unmade = λ p h e. e; uncalled = λ p h e. e; unreported = λ p h e. e; unaborted = λ p h e. e })
      grown

module _ (server : Server) (before : Past) where
  pub down_old : (q : ℕ) → q ≢ made before + 1 → node_of (entry_is.Down server ∷ before) q ≡ node_of before q
  down_old q differs = cond-false (q == made before + 1) (Some (root_node q (args_are.Crash server) 1)) (node_of before q) (ne_eqb q (made before + 1) differs)

  pub down_new : (q : ℕ) → q ≡ made before + 1 → node_of (entry_is.Down server ∷ before) q ≡ Some (root_node q (args_are.Crash server) 1)
  down_new q same = cond-true (q == made before + 1) (Some (root_node q (args_are.Crash server) 1)) (node_of before q) (eq-eqb q (made before + 1) same)

  pub grown_down : IsGrown before → IsGrown (entry_is.Down server ∷ before)
  grown_down grown = more_grown before (entry_is.Down server ∷ before) 1 refl refl
      (λ q le. down_old q (λ e. omega (arith, le, e)))
      (λ q lt le. (root_node q (args_are.Crash server) 1, down_new q (omega (arith, lt, le))))
      (λ q lt. down_old q (λ e. omega (arith, lt, e)) ∙ grown.numbered q (omega (arith, lt)))
      (record { unmade = λ p h e. e; uncalled = λ p h e. e; unreported = λ p h e. e; unaborted = λ p h e. e })
      grown

grown_report : (call : Pid) (told : Told) (before : Past) → verb_of before call.0 ≢ None → IsGrown before → IsGrown (entry_is.Report call told ∷ before)
grown_report call told before called grown = same_grown before (entry_is.Report call told ∷ before) refl refl (λ p. refl) (record {
  unmade = λ p h e. e;
  uncalled = λ p h e. e;
  unreported = λ p h e. cond-false (p == call.0) (Some told) (report_of before p) (ne_eqb p call.0 (λ same. called (ap (verb_of before) (sym same) ∙ grown.uncalled p h))) ∙ e;
  unaborted = λ p h e. e;
}) grown

grown_abort : (pid : Pid) (before : Past) → is_root before pid.0 ≡ true → IsGrown before → IsGrown (entry_is.Abort pid ∷ before)
grown_abort pid before root grown = same_grown before (entry_is.Abort pid ∷ before) refl refl (λ p. refl) (record {
  unmade = λ p h e. e;
  uncalled = λ p h e. e;
  unreported = λ p h e. e;
  unaborted = λ p h e. cond-false (p == pid.0) true (is_aborted before p) (ne_eqb p pid.0 (λ same. false≢true (sym (ap is_root_in h) ∙ ap (is_root before) same ∙ root))) ∙ e;
}) grown

pub grown_all : (J : Past) → IsLegal J → IsGrown J
grown_all [] legal = grown_nothing
grown_all (entry_is.Submit nonce request ∷ before) legal = grown_submit nonce request before (grown_all before legal.0)
grown_all (entry_is.Step pid pick out ∷ before) legal = let may = legal.1.1.0 in grown_step pid pick out before may.0 may.1 (grown_all before legal.0)
grown_all (entry_is.Undo pid row out ∷ before) legal = grown_undo pid row out before (grown_all before legal.0)
grown_all (entry_is.Report call told ∷ before) legal = grown_report call told before legal.1.1.0.0 (grown_all before legal.0)
grown_all (entry_is.Down server ∷ before) legal = grown_down server before (grown_all before legal.0)
grown_all (entry_is.Abort pid ∷ before) legal = grown_abort pid before legal.1.1.0.0 (grown_all before legal.0)
grown_all (entry_is.Base part ∷ before) legal = record { none = refl; low = omega arith; numbered = λ p lt. refl; there = λ p ge le. absurd (omega (arith, ge, le)); unmade = λ p e. refl; uncalled = λ p e. refl; unreported = λ p e. refl; unaborted = λ p e. refl }
grown_all (entry ∷ before) legal = same_grown before (entry ∷ before) refl refl (λ p. refl) (record { unmade = λ p h e. e; uncalled = λ p h e. e; unreported = λ p h e. e; unaborted = λ p h e. e }) (grown_all before legal.0)

-- what was made stays as it is
pub nodes_stay : (entry : Entry) (before : Past) → IsLegal (entry ∷ before) → (q : ℕ) (x : Node) → node_of before q ≡ Some x → node_of (entry ∷ before) q ≡ Some x
nodes_stay (entry_is.Submit nonce request) before legal q x is = let few = (made_up_to before (grown_all before legal.0) q x is).1 in submit_old nonce request before q (λ e. omega (arith, e, few)) ∙ is
nodes_stay (entry_is.Step pid pick out) before legal q x is = step_old pid pick out before q (made_up_to before (grown_all before legal.0) q x is).1 ∙ is
nodes_stay (entry_is.Undo pid row out) before legal q x is = undo_old pid row out before q (made_up_to before (grown_all before legal.0) q x is).1 ∙ is
nodes_stay (entry_is.Down server) before legal q x is = let few = (made_up_to before (grown_all before legal.0) q x is).1 in down_old server before q (λ e. omega (arith, e, few)) ∙ is
nodes_stay (entry_is.Base part) before legal q x is = absurd (none-some x (sym (no_node part before legal.1.0 q) ∙ is))
nodes_stay entry before legal q x is = is

-- one entry more that is neither a start nor a part
entry_more : (entry : Entry) (before : Past) → is_start entry ≡ false → is_part entry ≡ false → sheets_in (entry ∷ before) 0 ≡ sheets_in before 0 → OriginIsOldest before → OriginIsOldest (entry ∷ before)
entry_more entry before off out same (inl old) = inl (entry ∷ old.0, ap (λ b. entry ∷ b) (old.1 ∙ ap (λ s. old.0 ++ entry_is.Start s ∷ []) (sym same)), by off old.2)
  where
    by : is_start entry ≡ false → list_any is_start old.0 ≡ false → (is_start entry || list_any is_start old.0) ≡ false
    by a b = rw a b
entry_more entry before off out same (inr old) = inr (entry ∷ old.0, old.1, ap (λ b. entry ∷ b) old.2, by out old.3, old.4, old.5, old.6)
  where
    by : is_part entry ≡ false → list_any is_part old.0 ≡ false → (is_part entry || list_any is_part old.0) ≡ false
    by a b = rw a b

-- the newest entry, if there is one, is a part
abbrev pub ends_parted : Past → Bool
ends_parted [] = true
ends_parted (entry ∷ before) = is_part entry

-- before a part stand parts alone
pub all_parts : (J : Past) → IsLegal J → ends_parted J ≡ true → are_parts J ≡ true
all_parts [] legal is = refl
all_parts (entry_is.Base part ∷ before) legal is = all_parts before legal.0 (by_parts (λ J. ends_parted J ≡ true) refl (λ own older. refl) part before legal.1.0)
all_parts (entry ∷ before) legal is = absurd (false≢true is)

-- the start comes first, and only there
pub start_oldest : (J : Past) → IsLegal J → IsBegun J → OriginIsOldest J
start_oldest [] legal some = absurd some
start_oldest (entry_is.Start sheets ∷ before) legal some = inl ([], ap (λ b. entry_is.Start sheets ∷ b) legal.1.0.0, refl)
start_oldest (entry_is.Adopt sheets ∷ before) legal some = entry_more (entry_is.Adopt sheets) before refl refl (cond-false (0 == editions before + 1) sheets (sheets_in before 0) (ne_eqb 0 (editions before + 1) (λ e. omega (arith, e)))) (start_oldest before legal.0 legal.1.0)
start_oldest (entry_is.Base part ∷ before) legal whole = inr ([], entry_is.Base part ∷ before, refl, refl, all_parts (entry_is.Base part ∷ before) legal refl, legal, whole)
start_oldest (entry ∷ before) legal some = entry_more entry before refl refl refl (start_oldest before legal.0 legal.1.0)

-- a journal that has begun has an entry
pub begun_some : (J : Past) → IsBegun J → J ≢ []
begun_some [] begun = absurd begun
begun_some (entry ∷ before) begun = λ none. cc

rises_some : (J : Past) (part : Part) → Rises J part → J ≢ []
rises_some [] part after = absurd after
rises_some (entry ∷ before) part after = λ none. cc

part_sheets_are : (part : Part) (before : Past) → PartFits part before → (before ≢ [] → AreSheets (sheets_of before)) → AreSheets (sheets_of (entry_is.Base part ∷ before))
part_sheets_are (part_is.Head entries last parts sheets) before fits was = fits.1
part_sheets_are (part_is.Namespace ns) before fits was = was (rises_some before (part_is.Namespace ns) fits)
part_sheets_are part before fits was = was (rises_some before part fits.0)

-- the sheets in force are those of all kinds
pub sheets_are : (J : Past) → IsLegal J → J ≢ [] → AreSheets (sheets_of J)
sheets_are [] legal some = absurd (some refl)
sheets_are (entry_is.Start sheets ∷ before) legal some = legal.1.0.1
sheets_are (entry_is.Adopt sheets ∷ before) legal some = legal.1.1.0.0
sheets_are (entry_is.Base part ∷ before) legal some = part_sheets_are part before legal.1.0 (sheets_are before legal.0)
sheets_are (entry ∷ before) legal some = sheets_are before legal.0 (begun_some before legal.1.0)

-- what stands under a nonce after one more entry that makes nothing new of it
under_on : (entry : Entry) (J : Past) (nonce : Nonce) (p : ℕ) (under : IsUnder J nonce p) → ((node : Node) → node_of J p ≡ Some node → node_of (entry ∷ J) p ≡ Some node) → IsUnder (entry ∷ J) nonce p
under_on entry J nonce p under stays = record {
  newer = entry ∷ under.newer;
  used = under.used;
  request = under.request;
  older = under.older;
  splits = ap (λ b. entry ∷ b) under.splits;
  same = under.same;
  place = under.place;
  node_is = stays (submitted under.older under.request p) under.node_is;
}

either_on : (entry : Entry) (J : Past) → IsLegal (entry ∷ J) → offset (entry ∷ J) ≡ offset J → (nonce : Nonce) (p : ℕ) → IsUnder J nonce p ⊎ IsOld J nonce p → IsUnder (entry ∷ J) nonce p ⊎ IsOld (entry ∷ J) nonce p
either_on entry J legal same nonce p (inl under) = inl (under_on entry J nonce p under (nodes_stay entry J legal p))
either_on entry J legal same nonce p (inr old) = inr (record { part = old.part; newer = entry ∷ old.newer; older = old.older; splits = ap (λ b. entry ∷ b) old.splits; used = old.used; root = old.root; same = old.same; above = old.above; within = subst (λ n. p ≤ n) (sym same) old.within })

-- what the parts before say of a nonce
older_root : (part : Part) (before : Past) → PartFits part before → IsLegal before → made (entry_is.Base part ∷ before) ≡ made before → (nonce : Nonce) (p : ℕ) → IsUnder before nonce p ⊎ IsOld before nonce p → IsOld (entry_is.Base part ∷ before) nonce p
older_root part before fits legal same nonce p (inl under) = absurd (none-some (submitted under.older under.request p) (sym (no_node part before fits p) ∙ under.node_is))
older_root part before fits legal same nonce p (inr old) = record { part = old.part; newer = entry_is.Base part ∷ old.newer; older = old.older; splits = ap (λ b. entry_is.Base part ∷ b) old.splits; used = old.used; root = old.root; same = old.same; above = old.above; within = omega (arith, same, old.within, (grown_all before legal).low) }

old_root : (part : Part) (before : Past) → IsLegal (entry_is.Base part ∷ before) → ((nonce : Nonce) (p : ℕ) → by_nonce before nonce ≡ Some p → IsUnder before nonce p ⊎ IsOld before nonce p) → (nonce : Nonce) (p : ℕ) → by_nonce (entry_is.Base part ∷ before) nonce ≡ Some p → IsOld (entry_is.Base part ∷ before) nonce p
old_root (part_is.Head entries last parts sheets) before legal was nonce p is = absurd (none-some p (sym (ap (λ j. by_nonce j nonce) legal.1.0.0) ∙ is))
old_root (part_is.Root pid used args cause) before legal was nonce p is = elim (cases_Bool (is_same used nonce)) [
  | inl on ↦
      let own : pid.0 ≡ p = same_Some pid.0 p (sym (cond-true (is_same used nonce) (Some pid.0) (by_nonce before nonce) on) ∙ is) in
      record { part = part_is.Root pid used args cause; newer = []; older = before; splits = refl; used = used; root = ap (λ n. Some (used, n)) own; same = on; above = subst (λ n. 1 ≤ n) own legal.1.0.1; within = subst (λ n. n ≤ made before) own legal.1.0.2 }
  | inr off ↦ older_root (part_is.Root pid used args cause) before legal.1.0 legal.0 refl nonce p (was nonce p (sym (cond-false (is_same used nonce) (Some pid.0) (by_nonce before nonce) off) ∙ is))
]
old_root part before legal was nonce p is = older_root part before legal.1.0 legal.0 refl nonce p (was nonce p is)

pub by_nonce_under : (J : Past) → IsLegal J → (nonce : Nonce) (p : ℕ) → by_nonce J nonce ≡ Some p → IsUnder J nonce p ⊎ IsOld J nonce p
by_nonce_under [] legal nonce p is = absurd (none-some p is)
by_nonce_under (entry_is.Submit used request ∷ before) legal nonce p is = elim (cases_Bool (is_same used nonce)) [
  | inl on ↦
      let new : p ≡ made before + 1 = sym (same_Some (made before + 1) p (sym (cond-true (is_same used nonce) (Some (made before + 1)) (by_nonce before nonce) on) ∙ is)) in
      inl (record { newer = []; used = used; request = request; older = before; splits = refl; same = on; place = new; node_is = submit_new used request before p new })
  | inr off ↦
      either_on (entry_is.Submit used request) before legal refl nonce p (by_nonce_under before legal.0 nonce p (sym (cond-false (is_same used nonce) (Some (made before + 1)) (by_nonce before nonce) off) ∙ is))
]
by_nonce_under (entry_is.Base part ∷ before) legal nonce p is = inr (old_root part before legal (by_nonce_under before legal.0) nonce p is)
by_nonce_under (entry ∷ before) legal nonce p is = either_on entry before legal refl nonce p (by_nonce_under before legal.0 nonce p is)

pub by_nonce_made : (J : Past) → IsLegal J → (nonce : Nonce) (p : ℕ) → by_nonce J nonce ≡ Some p → (1 ≤ p) × (p ≤ made J)
by_nonce_made J legal nonce p is = elim (by_nonce_under J legal nonce p is) [
  | inl under ↦ made_up_to J (grown_all J legal) p (submitted under.older under.request p) under.node_is
  | inr old ↦ let low = (grown_all J legal).low in (old.above, omega (arith, low, old.within))
]

pub stepper_made : (pid : Pid) (pick : Option Server) (out : StepOut) (before : Past) → IsLegal (entry_is.Step pid pick out ∷ before) → (1 ≤ pid.0) × (pid.0 ≤ made before)
stepper_made pid pick out before legal = let may = legal.1.1.0 in made_up_to before (grown_all before legal.0) pid.0 may.0 may.1

part_within : (part : Part) (before : Past) → PartFits part before → ((table : TableName) → drawn before table ≤ 4096) → (table : TableName) → drawn (entry_is.Base part ∷ before) table ≤ 4096
part_within (part_is.Table own ids row) before fits was table = elim (cases_Bool (same_table own table)) [
  | inl on ↦ rw on fits.1
  | inr off ↦ rw off (was table)
]
part_within part before fits was table = was table

-- region ids stay within their limit
pub ids_within : (J : Past) → IsLegal J → (table : TableName) → drawn J table ≤ 4096
ids_within [] legal table = omega arith
ids_within (entry_is.Submit nonce request ∷ before) legal table = by (ids_within before legal.0 table) (table_of_request request) refl
  where
    was : drawn before table ≤ 4096 → drawn before table + 0 ≤ 4096
    was le = omega (arith, le)

    by : drawn before table ≤ 4096 → (o : Option TableName) → table_of_request request ≡ o → drawn before table + ids_for o (new_ids request) table ≤ 4096
    by le None e = was le
    by le (Some own) e = elim (cases_Bool (same_table own table)) [
      | inl on ↦ rw on (subst (λ t. drawn before t + new_ids request ≤ 4096) (same_table-is own table on) (legal.1.1.1.1.0 own e))
      | inr off ↦ rw off (was le)
    ]
ids_within (entry_is.Base part ∷ before) legal table = part_within part before legal.1.0 (ids_within before legal.0) table
ids_within (entry ∷ before) legal table = ids_within before legal.0 table
