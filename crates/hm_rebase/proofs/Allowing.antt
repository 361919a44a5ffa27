-- Journals that read alike allow the same next entries.
use Rattle.std.proofs.Common.{◌≡◌, ℕ, ◌+◌, ◌<◌, ◌≤◌, [], true, false, cond, Option, Some, None, refl, ap, sym, ◌∙◌, subst, inl, inr, arith}
use Rattle.std.proofs.lemmas.Bool.{true≢false}
use Rattle.hm_names.specs.Server.{Server}
use Rattle.hm_names.specs.declared.nonce.Nonce.{Nonce}
use Rattle.hm_names.specs.declared.pid.Pid.{Pid}
use Rattle.hm_data.specs.declared.entry.Entry.{Entry}
use Rattle.hm_data.specs.declared.entry.Entry.TheVariants as entry_is
use Rattle.hm_data.specs.declared.step.StepOut.{StepOut}
use Rattle.hm_model.specs.Answers.{last_answer, report_of}
use Rattle.hm_model.specs.Base.{IsBegun}
use Rattle.hm_model.specs.Holding.{HoldsWith, InConflict, IsFree}
use Rattle.hm_model.specs.Inputs.{answers, fenced_if, undoes}
use Rattle.hm_model.specs.Journal.{Past}
use Rattle.hm_model.specs.Laws.{is_part}
use Rattle.hm_model.specs.Locks.{AsksClash, IsAbove}
use Rattle.hm_model.specs.Phase.{ended, phase, root_ended}
use Rattle.hm_model.specs.Procedures.{latest, left_to_undo, offset}
use Rattle.hm_model.specs.Rest.{IsReady, MayStep}
use Rattle.hm_model.specs.Rules.{Allowed, CanAbort, IsFresh, IsLatest, IsLegal, IsOutstanding}
use Rattle.hm_model.specs.Tree.{Node, new_ids, node_of, root_in, root_of}
use Rattle.hm_model.specs.Undo.{stack}
use Rattle.hm_model.specs.Whereabouts.{called_by}
use Rattle.hm_model.proofs.Grown.{grown_all}
use Rattle.hm_model.proofs.Running.{ready_runs, run_open, undo_facts, undo_open}
use Rattle.hm_model.proofs.Tops.{ended_top}
use Rattle.hm_model.proofs.Trees.{le_or_lt, some_of}
use Rattle.hm_model.proofs.Counting.{root_node_of}
use Rattle.hm_model.proofs.Small.{top_is}
use Rattle.hm_rebase.specs.Alike.{Alike, AlikeAllow}
use Rattle.hm_rebase.proofs.Bounds.{above_base, none_below, root_above, root_before}
use Rattle.hm_rebase.proofs.Inputs.{answers_same, right_same}
use Rattle.hm_rebase.proofs.Readings.{ended_same, high_of, is_root_same, next_row_same, phase_same, root_ended_same, root_high, root_of_same, undoes_same}
use Rattle.hm_rebase.proofs.Servers.{fenced_same, has_newer_same, has_older_same}

-- what one journal allows another does that says the same of what is looked at
module _ (A B : Past) where
  ready_to : (p : ℕ) (node : Node) → phase A p node ≡ phase B p node → report_of A p ≡ report_of B p → fenced_if A (called_by node.args) ≡ fenced_if B (called_by node.args) → IsReady A p node → IsReady B p node
  ready_to p node phases reports fences (inl runs) = inl (sym phases ∙ runs)
  ready_to p node phases reports fences (inr h) = inr (sym phases ∙ h.0, elim h.1 [ inl told ↦ inl (λ none. told (reports ∙ none)) | inr gone ↦ inr (sym fences ∙ gone) ])

  holds_to : (q : ℕ) → node_of A q ≡ node_of B q → ended A q ≡ ended B q → last_answer A q ≡ last_answer B q → HoldsWith A [] q → HoldsWith B [] q
  holds_to q nodes ends answer h = ((λ none. h.0 (nodes ∙ none)), sym ends ∙ h.1, elim h.2 [ inl some ↦ inl (λ none. some (answer ∙ none)) | inr taken ↦ inr taken ])

  conflict_to : (p q : ℕ) → node_of A p ≡ node_of B p → node_of A q ≡ node_of B q → InConflict A p q → InConflict B p q
  conflict_to p q one other h = (
    h.0,
    ((λ above. h.1.0 (subst (IsAbove p) (sym other) above)), (λ above. h.1.1 (subst (IsAbove q) (sym one) above)), subst (λ o. AsksClash o (node_of B q)) one (subst (AsksClash (node_of A p)) other h.1.2)),
  )

  latest_to : (p row : ℕ) → root_of A p ≡ root_of B p → node_of A (root_of B p) ≡ node_of B (root_of B p) → ((root : Node) → undoes A (root_of B p) root ≡ undoes B (root_of B p) root) → left_to_undo A (root_of B p) ≡ left_to_undo B (root_of B p) → IsLatest A p row → IsLatest B p row
  latest_to p row roots nodes on left h =
      let root = h.0 in
      (root, sym nodes ∙ ap (node_of A) (sym roots) ∙ h.1, sym (on root) ∙ ap (λ r. undoes A r root) (sym roots) ∙ h.2, h.3, ap latest (sym left ∙ ap (left_to_undo A) (sym roots)) ∙ h.4, h.5, h.6)

module _ (J K : Past) (legal_J : IsLegal J) (legal_K : IsLegal K) (alike : Alike J K) where
  -- who may go on is the same in both
  pub step_high : (p : ℕ) → MayStep J p → offset K < p
  step_high p may = high_of J K legal_J legal_K alike p may.0 may.1 (run_open J legal_J p may.0 may.1 (ready_runs J p may.0 may.2))

  undo_root : (r : ℕ) (root : Node) → node_of J r ≡ Some root → undoes J r root ≡ true → offset K < r
  undo_root r root is on = high_of J K legal_J legal_K alike r root is (ended_top J r root is (top_is root.above (undo_facts J r root on).0) ∙ undo_open J r root on)

  -- and so is whose root is
  under_root : (p : ℕ) → offset K < root_of J p → offset K < p
  under_root p high = elim (le_or_lt p (offset K)) [ inr lt ↦ lt | inl le ↦ absurd (by le (node_of J p) refl) ]
    where
      by : p ≤ offset K → (o : Option Node) → node_of J p ≡ o → ⊥
      by le None e = let none : root_of J p ≡ 0 = ap root_in e in omega (arith, none, high)
      by le (Some x) e =
          let own : root_of J p ≡ x.root = ap root_in e in
          let first = root_before J legal_J p x e in
          omega (arith, own, first, le, high)

  pub latest_high : (p row : ℕ) → IsLatest J p row → offset K < p
  latest_high p row h = under_root p (undo_root (root_of J p) h.0 h.1 h.2)

  pub called_high : (p : ℕ) → IsOutstanding J p → offset K < p
  called_high p h = let there = some_of (node_of J p) (λ none. h.0 ((grown_all J legal_J).uncalled p none)) in high_of J K legal_J legal_K alike p there.0 there.1 h.2

  pub abort_high : (p : ℕ) → CanAbort J p → offset K < p
  abort_high p h = let there = root_node_of J p h.0 in high_of J K legal_J legal_K alike p there.0 there.1 h.1

  left_same : (r : ℕ) → offset K < r → left_to_undo J r ≡ left_to_undo K r
  left_same r high = ap (λ b. cond b [] (stack J r)) (root_ended_same J K legal_J legal_K alike r high) ∙ ap (cond (root_ended K r) []) (alike.same r high).left

  -- holders
  to_holder : (q : ℕ) → HoldsWith K [] q → offset K < q
  to_holder q h = let there = some_of (node_of K q) h.0 in above_base K legal_K q there.0 there.1

  from_holder : (q : ℕ) → HoldsWith J [] q → offset K < q
  from_holder q h = let there = some_of (node_of J q) h.0 in high_of J K legal_J legal_K alike q there.0 there.1 h.1

  free_to : (p : ℕ) → offset K < p → IsFree J [] p → IsFree K [] p
  free_to p high free q holds conflict =
      let up = to_holder q holds in
      let s = alike.same q up in
      free q (holds_to K J q (sym s.node) (sym (ended_same J K legal_J legal_K alike q up)) (sym s.answer) holds) (conflict_to K J p q (sym (alike.same p high).node) (sym s.node) conflict)

  free_from : (p : ℕ) → offset K < p → IsFree K [] p → IsFree J [] p
  free_from p high free q holds conflict =
      let up = from_holder q holds in
      let s = alike.same q up in
      free q (holds_to J K q s.node (ended_same J K legal_J legal_K alike q up) s.answer holds) (conflict_to J K p q (alike.same p high).node s.node conflict)

  module _ (begun_J : IsBegun J) (begun_K : IsBegun K) where
    step_to : (pid : Pid) (pick : Option Server) (out : StepOut) → Allowed J (entry_is.Step pid pick out) → Allowed K (entry_is.Step pid pick out)
    step_to pid pick out a =
        let may = a.1.0 in
        let high = step_high pid.0 may in
        let s = alike.same pid.0 high in
        let above = root_high J K legal_J legal_K alike pid.0 may.0 high may.1 in
        let right = a.1.1.1.0 in
        let answer = a.1.1.1.1.0 in (
          begun_K,
          (
            (may.0, sym s.node ∙ may.1, ready_to J K pid.0 may.0 (phase_same J K legal_J legal_K alike pid.0 may.0 high above) s.report (fenced_same J K alike (called_by may.0.args)) may.2),
            (
              free_to pid.0 high a.1.1.0,
              (
                (right.0, sym s.node ∙ right.1, sym (right_same J K legal_J legal_K alike pid.0 right.0 pick high) ∙ right.2),
                ((answer.0, sym s.node ∙ answer.1, sym (answers_same J K legal_J legal_K alike pid.0 answer.0 pick answer.1 high (root_high J K legal_J legal_K alike pid.0 answer.0 high answer.1)) ∙ answer.2), tt),
              ),
            ),
          ),
        )

    step_from : (pid : Pid) (pick : Option Server) (out : StepOut) → Allowed K (entry_is.Step pid pick out) → Allowed J (entry_is.Step pid pick out)
    step_from pid pick out a =
        let may = a.1.0 in
        let high = above_base K legal_K pid.0 may.0 may.1 in
        let s = alike.same pid.0 high in
        let above = root_above K legal_K pid.0 may.0 may.1 in
        let right = a.1.1.1.0 in
        let answer = a.1.1.1.1.0 in (
          begun_J,
          (
            (may.0, s.node ∙ may.1, ready_to K J pid.0 may.0 (sym (phase_same J K legal_J legal_K alike pid.0 may.0 high above)) (sym s.report) (sym (fenced_same J K alike (called_by may.0.args))) may.2),
            (
              free_from pid.0 high a.1.1.0,
              (
                (right.0, s.node ∙ right.1, right_same J K legal_J legal_K alike pid.0 right.0 pick high ∙ right.2),
                ((answer.0, s.node ∙ answer.1, answers_same J K legal_J legal_K alike pid.0 answer.0 pick (s.node ∙ answer.1) high (root_above K legal_K pid.0 answer.0 answer.1) ∙ answer.2), tt),
              ),
            ),
          ),
        )

    undo_to : (pid : Pid) (row : ℕ) (out : StepOut) → Allowed J (entry_is.Undo pid row out) → Allowed K (entry_is.Undo pid row out)
    undo_to pid row out a =
        let high = latest_high pid.0 row a.1.0 in
        let roots = root_of_same J K legal_J legal_K alike pid.0 high in
        let up = subst (λ r. offset K < r) roots (undo_root (root_of J pid.0) a.1.0.0 a.1.0.1 a.1.0.2) in
        let s = alike.same (root_of K pid.0) up in
        let answer = a.1.1.0 in
        let there : node_of J (root_of K pid.0) ≡ Some answer.0 = ap (node_of J) (sym roots) ∙ answer.1 in (
          begun_K,
          (
            latest_to J K pid.0 row roots s.node (λ root. undoes_same J K legal_J legal_K alike (root_of K pid.0) root up) (left_same (root_of K pid.0) up) a.1.0,
            ((answer.0, sym s.node ∙ there, sym (answers_same J K legal_J legal_K alike (root_of K pid.0) answer.0 None there up (root_high J K legal_J legal_K alike (root_of K pid.0) answer.0 up there)) ∙ ap (λ r. answers J r answer.0 None) (sym roots) ∙ answer.2), tt),
          ),
        )

    undo_from : (pid : Pid) (row : ℕ) (out : StepOut) → Allowed K (entry_is.Undo pid row out) → Allowed J (entry_is.Undo pid row out)
    undo_from pid row out a =
        let up = above_base K legal_K (root_of K pid.0) a.1.0.0 a.1.0.1 in
        let high = k_high up in
        let roots = root_of_same J K legal_J legal_K alike pid.0 high in
        let up_J = subst (λ r. offset K < r) (sym roots) up in
        let s = alike.same (root_of J pid.0) up_J in
        let answer = a.1.1.0 in
        let there : node_of K (root_of J pid.0) ≡ Some answer.0 = ap (node_of K) roots ∙ answer.1 in (
          begun_J,
          (
            latest_to K J pid.0 row (sym roots) (sym s.node) (λ root. sym (undoes_same J K legal_J legal_K alike (root_of J pid.0) root up_J)) (sym (left_same (root_of J pid.0) up_J)) a.1.0,
            ((answer.0, s.node ∙ there, answers_same J K legal_J legal_K alike (root_of J pid.0) answer.0 None (s.node ∙ there) up_J (root_above K legal_K (root_of J pid.0) answer.0 there) ∙ ap (λ r. answers K r answer.0 None) roots ∙ answer.2), tt),
          ),
        )
      where
        k_high : offset K < root_of K pid.0 → offset K < pid.0
        k_high up = elim (le_or_lt pid.0 (offset K)) [
          | inr lt ↦ lt
          | inl le ↦ (let none : root_of K pid.0 ≡ 0 = ap root_in (none_below K legal_K pid.0 le) in absurd (omega (arith, none, up)))
        ]

    fresh_to : (nonce : Nonce) → IsFresh J nonce → IsFresh K nonce
    fresh_to nonce (inl zero) = inl zero
    fresh_to nonce (inr new) = inr (sym (alike.nonces nonce) ∙ new)

    fresh_from : (nonce : Nonce) → IsFresh K nonce → IsFresh J nonce
    fresh_from nonce (inl zero) = inl zero
    fresh_from nonce (inr new) = inr (alike.nonces nonce ∙ new)

    pub allowed_to : (entry : Entry) → is_part entry ≡ false → Allowed J entry → Allowed K entry
    allowed_to (entry_is.Start sheets) other a = absurd (subst IsBegun a.0.0 begun_J)
    allowed_to (entry_is.Submit nonce request) other a =
        (begun_K, (a.1.0, (fresh_to nonce a.1.1.0, ((λ table is. subst (λ n. n + new_ids request ≤ 4096) (alike.ids table) (a.1.1.1.0 table is)), tt))))
    allowed_to (entry_is.Step pid pick out) other a = step_to pid pick out a
    allowed_to (entry_is.Undo pid row out) other a = undo_to pid row out a
    allowed_to (entry_is.Report call told) other a =
        let high = called_high call.0 a.1.0 in
        let s = alike.same call.0 high in (
          begun_K,
          (
            ((λ none. a.1.0.0 (s.verb ∙ none)), sym s.report ∙ a.1.0.1, sym (ended_same J K legal_J legal_K alike call.0 high) ∙ a.1.0.2),
            ((λ verb is. a.1.1.0 verb (s.verb ∙ is)), tt),
          ),
        )
    allowed_to (entry_is.Up server) other a = (begun_K, (sym (has_newer_same J K alike server) ∙ a.1.0, (sym (has_older_same J K alike server) ∙ a.1.1.0, tt)))
    allowed_to (entry_is.Down server) other a = (begun_K, (sym (alike.live server) ∙ a.1.0, tt))
    allowed_to (entry_is.Abort pid) other a =
        let high = abort_high pid.0 a.1.0 in
        let s = alike.same pid.0 high in
        let at = a.1.1.0 in (
          begun_K,
          (
            (sym (is_root_same J K legal_J legal_K alike pid.0 high) ∙ a.1.0.0, sym (ended_same J K legal_J legal_K alike pid.0 high) ∙ a.1.0.1, sym s.failure ∙ a.1.0.2, sym s.aborted ∙ a.1.0.3),
            ((at.0, sym s.node ∙ at.1, at.2, sym (next_row_same J K legal_J legal_K alike pid.0 at.0 at.1 high (root_high J K legal_J legal_K alike pid.0 at.0 high at.1)) ∙ at.3, at.4), tt),
          ),
        )
    allowed_to (entry_is.Adopt sheets) other a = (begun_K, ((a.1.0.0, (λ e. a.1.0.1 (e ∙ sym alike.sheets))), tt))
    allowed_to (entry_is.Base part) other a = absurd (true≢false other)

    pub allowed_from : (entry : Entry) → is_part entry ≡ false → Allowed K entry → Allowed J entry
    allowed_from (entry_is.Start sheets) other a = absurd (subst IsBegun a.0.0 begun_K)
    allowed_from (entry_is.Submit nonce request) other a =
        (begun_J, (a.1.0, (fresh_from nonce a.1.1.0, ((λ table is. subst (λ n. n + new_ids request ≤ 4096) (sym (alike.ids table)) (a.1.1.1.0 table is)), tt))))
    allowed_from (entry_is.Step pid pick out) other a = step_from pid pick out a
    allowed_from (entry_is.Undo pid row out) other a = undo_from pid row out a
    allowed_from (entry_is.Report call told) other a =
        let there = some_of (node_of K call.0) (λ none. a.1.0.0 ((grown_all K legal_K).uncalled call.0 none)) in
        let high = above_base K legal_K call.0 there.0 there.1 in
        let s = alike.same call.0 high in (
          begun_J,
          (
            ((λ none. a.1.0.0 (sym s.verb ∙ none)), s.report ∙ a.1.0.1, ended_same J K legal_J legal_K alike call.0 high ∙ a.1.0.2),
            ((λ verb is. a.1.1.0 verb (sym s.verb ∙ is)), tt),
          ),
        )
    allowed_from (entry_is.Up server) other a = (begun_J, (has_newer_same J K alike server ∙ a.1.0, (has_older_same J K alike server ∙ a.1.1.0, tt)))
    allowed_from (entry_is.Down server) other a = (begun_J, (alike.live server ∙ a.1.0, tt))
    allowed_from (entry_is.Abort pid) other a =
        let there = root_node_of K pid.0 a.1.0.0 in
        let high = above_base K legal_K pid.0 there.0 there.1 in
        let s = alike.same pid.0 high in
        let at = a.1.1.0 in (
          begun_J,
          (
            (is_root_same J K legal_J legal_K alike pid.0 high ∙ a.1.0.0, ended_same J K legal_J legal_K alike pid.0 high ∙ a.1.0.1, s.failure ∙ a.1.0.2, s.aborted ∙ a.1.0.3),
            ((at.0, s.node ∙ at.1, at.2, next_row_same J K legal_J legal_K alike pid.0 at.0 (s.node ∙ at.1) high (root_above K legal_K pid.0 at.0 at.1) ∙ at.3, at.4), tt),
          ),
        )
    allowed_from (entry_is.Adopt sheets) other a = (begun_J, ((a.1.0.0, (λ e. a.1.0.1 (e ∙ alike.sheets))), tt))
    allowed_from (entry_is.Base part) other a = absurd (true≢false other)

pub alike_allow : AlikeAllow
alike_allow J K legal_J legal_K begun_J begun_K alike entry other = (allowed_to J K legal_J legal_K alike begun_J begun_K entry other, allowed_from J K legal_J legal_K alike begun_J begun_K entry other)
