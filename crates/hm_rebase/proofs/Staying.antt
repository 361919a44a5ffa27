-- Journals that read alike do so behind each entry that may come next.
use Rattle.std.proofs.Common.{◌≡◌, ℕ, ◌+◌, ◌-◌, ◌<◌, ◌≤◌, List, [], ◌∷◌, ◌++◌, Bool, true, false, cond, not, length, ◌&&◌, ◌||◌, ◌==◌, nat_lt, Option, Some, None, is_some, option_map, slice_get, refl, ap, sym, ◌∙◌, subst, inl, inr, ◌⊎◌, arith}
use Rattle.std.specs.Option.{option_or}
use Rattle.std.proofs.lemmas.Bool.{cond-false, le-ltb, ne_eqb, true≢false}
use Rattle.std.proofs.lemmas.List.{append_cancel_right}
use Rattle.std.proofs.lemmas.Option.{none-some, same_Some}
use Rattle.hm_names.specs.Region.{Region}
use Rattle.hm_names.specs.Server.{Server}
use Rattle.hm_names.specs.declared.nonce.Nonce.{Nonce}
use Rattle.hm_names.specs.declared.pid.Pid.{Pid}
use Rattle.hm_names.specs.declared.table.TableName.{TableName}
use Rattle.hm_data.specs.Numbers.{told_number}
use Rattle.hm_data.specs.declared.args.Args.{Args}
use Rattle.hm_data.specs.declared.args.Args.TheVariants as args_are
use Rattle.hm_data.specs.declared.call.Told.{Told}
use Rattle.hm_data.specs.declared.call.Told.TheVariants as told_is
use Rattle.hm_data.specs.declared.catalog.CatKey.TheVariants as key_is
use Rattle.hm_data.specs.declared.entry.Entry.{Entry}
use Rattle.hm_data.specs.declared.entry.Entry.TheVariants as entry_is
use Rattle.hm_data.specs.declared.place.Place.{Place}
use Rattle.hm_data.specs.declared.request.Request.{Request}
use Rattle.hm_data.specs.declared.sheet.Sheet.{Sheet}
use Rattle.hm_data.specs.declared.step.StepOut.{StepOut}
use Rattle.hm_model.specs.Answers.{failing, is_stopped, last_answer}
use Rattle.hm_model.specs.Base.{IsBegun}
use Rattle.hm_model.specs.Catalog.{cat, edited}
use Rattle.hm_model.specs.Fleet.{fences_if, is_fenced, same_server, with_server}
use Rattle.hm_model.specs.Image.{nonce_of, root_parts}
use Rattle.hm_model.specs.Journal.{Past}
use Rattle.hm_model.specs.Kinds.{table_of_request}
use Rattle.hm_model.specs.Laws.{is_part}
use Rattle.hm_model.specs.Layouts.{is_laid, laid_by, laid_if, layout_called}
use Rattle.hm_model.specs.Nonces.{by_nonce, is_same}
use Rattle.hm_model.specs.Inputs.{made_at_step}
use Rattle.hm_model.specs.Phase.{cause, ended, ended_node, or_else, root_ended}
use Rattle.hm_model.specs.Places.{has_failed, one_more, place_of, placed_by, region_if}
use Rattle.hm_model.specs.Procedures.{offset}
use Rattle.hm_model.specs.Reports.{is_the_region, verb_of}
use Rattle.hm_model.specs.Rules.{Allowed, IsLegal}
use Rattle.hm_model.specs.Sheets.{sheets_by, sheets_of, undo_by, undo_of_next}
use Rattle.hm_model.specs.Tree.{Node, args_in, child_of, children_of, drawn, first_of, ids_for, is_top, made, new_ids, node_of, root_in, root_node, root_of, submitted}
use Rattle.hm_model.specs.Undo.{pushed, rest_of, row_if_there, stack}
use Rattle.hm_model.proofs.Grown.{grown_all, nodes_stay}
use Rattle.hm_model.proofs.Tops.{ended_top, root_stays}
use Rattle.hm_model.proofs.Trees.{le_or_lt, node_new, other_answer}
use Rattle.hm_rebase.specs.Alike.{Alike, AlikeStay, IsForgotten, IsIdle, IsSame, base_of}
use Rattle.hm_rebase.proofs.Allowing.{allowed_to, called_high, latest_high, step_high}
use Rattle.hm_rebase.proofs.Bounds.{none_below}
use Rattle.hm_rebase.proofs.Forgetting.{base_on, forgotten_rowless}
use Rattle.hm_rebase.proofs.Readings.{next_row_same, root_high, root_of_same, row_same}
use Rattle.hm_rebase.proofs.Telling.{above, above_same, below, below_on, leaves_base, nonce_old, roots_split, told_same}

-- who was made stays as it is
pub node_old : (entry : Entry) (J : Past) → is_part entry ≡ false → (p : ℕ) → p ≤ made J → node_of (entry ∷ J) p ≡ node_of J p
node_old (entry_is.Submit nonce request) J other p le = cond-false (p == made J + 1) (Some (submitted J request p)) (node_of J p) (ne_eqb p (made J + 1) (λ e. omega (arith, le, e)))
node_old (entry_is.Step pid pick out) J other p le =
    cond-false (nat_lt (made J) p) (children_of pid.0 (node_of J pid.0) (slice_get (args_in out.children) (p - made J - 1))) (node_of J p) (le-ltb (made J) p le)
node_old (entry_is.Undo pid row out) J other p le =
    cond-false (nat_lt (made J) p) (option_map (λ args. root_node p args 1) (slice_get (args_in out.followers) (p - made J - 1))) (node_of J p) (le-ltb (made J) p le)
node_old (entry_is.Down server) J other p le = cond-false (p == made J + 1) (Some (root_node p (args_are.Crash server) 1)) (node_of J p) (ne_eqb p (made J + 1) (λ e. omega (arith, le, e)))
node_old (entry_is.Base part) J other p le = absurd (true≢false other)
node_old entry J other p le = refl

-- who has ended stays so, where it makes no step
ended_on : (entry : Entry) (J : Past) → IsLegal (entry ∷ J) → (p : ℕ) (node : Node) → node_of J p ≡ Some node → last_answer (entry ∷ J) p ≡ last_answer J p → ended J p ≡ true → ended (entry ∷ J) p ≡ true
ended_on entry J legal p node is last over = by node.above refl
  where
    now : node_of (entry ∷ J) p ≡ Some node
    now = nodes_stay entry J legal p node is

    by : (above : List ℕ) → node.above ≡ above → ended (entry ∷ J) p ≡ true
    by [] top = ended_top (entry ∷ J) p node now top ∙ root_stays entry J legal p node (is, top) (sym (ended_top J p node is top) ∙ over)
    by (up ∷ above) below =
        ap (ended_node (entry ∷ J) p) now
        ∙ ap (λ l. cond (is_top l) (root_ended (entry ∷ J) p) (is_stopped (last_answer (entry ∷ J) p))) below
        ∙ ap is_stopped last
        ∙ sym (ap (ended_node J p) is ∙ ap (λ l. cond (is_top l) (root_ended J p) (is_stopped (last_answer J p))) below)
        ∙ over

cond_under : {A : Type 0} (b : Bool) (x y z : A) → (b ≡ false → y ≡ z) → cond b x y ≡ cond b x z
cond_under true x y z same = refl
cond_under false x y z same = same refl

-- steps make no roots
old_root : (pid : Pid) (pick : Option Server) (out : StepOut) (J : Past) (its : Node) → node_of J pid.0 ≡ Some its → (p : ℕ) (node : Node) → node_of (entry_is.Step pid pick out ∷ J) p ≡ Some node → node.above ≡ [] → node_of J p ≡ Some node
old_root pid pick out J its its_is p node is at = elim (le_or_lt p (made J)) [
  | inl le ↦ sym (node_old (entry_is.Step pid pick out) J refl p le) ∙ is
  | inr lt ↦ absurd (by (slice_get (args_in out.children) (p - made J - 1)) (sym (node_new pid pick out J its its_is p lt) ∙ is))
]
  where
    by : (o : Option Args) → option_map (child_of pid.0 its) o ≡ Some node → ⊥
    by None e = none-some node e
    by (Some args) e =
        let one : child_of pid.0 its args ≡ node = same_Some (child_of pid.0 its args) node e in
        let two : pid.0 ∷ its.above ≡ [] = ap (λ (n : Node). n.above) one ∙ at in
        cc

-- a step gives both one place, or leaves both
place_on : (region : Region) (own : Option Region) (given : Option Place) (one other : Place)
    → (placed_by region own given one ≡ placed_by region own given other) ⊎ ((placed_by region own given one ≡ one) × (placed_by region own given other ≡ other))
place_on region own None one other = inr (refl, refl)
place_on region own (Some given) one other = by (is_the_region region own)
  where
    by : (b : Bool) → (cond b given one ≡ cond b given other) ⊎ ((cond b given one ≡ one) × (cond b given other ≡ other))
    by true = inl refl
    by false = inr (refl, refl)

module _ (J K : Past) (legal_J : IsLegal J) (legal_K : IsLegal K) (begun_J : IsBegun J) (begun_K : IsBegun K) (alike : Alike J K) where
  over_on : (entry : Entry) → is_part entry ≡ false → Allowed J entry → ((p : ℕ) → p ≤ offset K → last_answer (entry ∷ J) p ≡ last_answer J p) → (p : ℕ) (node : Node) → p ≤ offset K → node_of (entry ∷ J) p ≡ Some node → ended (entry ∷ J) p ≡ true
  over_on entry other allowed last p node le now =
      let low = (grown_all K legal_K).low in
      let one = alike.last in
      let is : node_of J p ≡ Some node = sym (node_old entry J other p (omega (arith, le, low, one))) ∙ now in
      ended_on entry J (legal_J, allowed) p node is (last p le) (alike.over p node le is)

  -- the base of the first stands for no more procedures
  offset_low : offset J ≤ offset K
  offset_low = elim (le_or_lt (offset J) (offset K)) [
    | inl le ↦ le
    | inr lt ↦
        let low = (grown_all J legal_J).low in
        let last = alike.last in
        let its = (grown_all K legal_K).there (offset K + 1) (omega arith) (omega (arith, lt, low, last)) in
        absurd (none-some its.0 (sym (none_below J legal_J (offset K + 1) (omega (arith, lt))) ∙ (alike.same (offset K + 1) (omega arith)).node ∙ its.1))
  ]

  -- roots that the base stands for stay as they are told
  roots_on : (entry : Entry) → is_part entry ≡ false → made (entry ∷ J) ≡ made (entry ∷ K) → ((p : ℕ) → p ≤ offset K → cause (entry ∷ J) p ≡ cause J p) → ((p : ℕ) → offset K < p → IsSame (entry ∷ J) (entry ∷ K) p) → root_parts (entry ∷ J) ≡ root_parts (entry ∷ K)
  roots_on entry other last_now quiet same =
      let low = (grown_all K legal_K).low in
      let base = offset_low in
      let last = alike.last in
      let on_J = leaves_base entry J other in
      let on_K = leaves_base entry K other in
      let more_J = on_J.grows in
      let more_K = on_K.grows in
      let base_J = on_J.base in
      let base_K = on_K.base in
      let cut = append_cancel_right (below J (offset K)) (below K (offset K)) (above K (offset K))
      (ap (λ l. below J (offset K) ++ l) (sym (above_same J K (offset K) last (λ q high. let s = alike.same q high in told_same J K q s.node s.nonce s.failure)))
      ∙ sym (roots_split J (offset K) base (omega (arith, low, last)))
      ∙ alike.roots
      ∙ roots_split K (offset K) (omega arith) low) in
      roots_split (entry ∷ J) (offset K) (omega (arith, base, base_J)) (omega (arith, low, last, more_J))
      ∙ ap (λ l. l ++ above (entry ∷ J) (offset K)) (below_on entry J (offset K) on_J (λ q high le. told_same (entry ∷ J) J q (node_old entry J other q (omega (arith, le, low, last))) (nonce_old entry J q (omega (arith, le, low, last))) (quiet q le)) ∙ cut ∙ sym (below_on entry K (offset K) on_K (λ q high le. absurd (omega (arith, high, le)))))
      ∙ ap (λ l. below (entry ∷ K) (offset K) ++ l) (above_same (entry ∷ J) (entry ∷ K) (offset K) last_now (λ q high. let s = same q high in told_same (entry ∷ J) (entry ∷ K) q s.node s.nonce s.failure))
      ∙ sym (roots_split (entry ∷ K) (offset K) (omega (arith, base_K)) (omega (arith, low, more_K)))

  -- a place that both leave is one in both, or that of a region that stays forgotten
  place_stays : (entry : Entry) → is_part entry ≡ false → Allowed J entry → (region : Region) → place_of (entry ∷ J) region ≡ place_of J region → place_of (entry ∷ K) region ≡ place_of K region
      → (place_of (entry ∷ J) region ≡ place_of (entry ∷ K) region) ⊎ IsForgotten (entry ∷ J) (entry ∷ K) region
  place_stays entry other allowed region one two = elim (alike.places region) [
    | inl same ↦ inl (one ∙ same ∙ sym two)
    | inr was ↦
        let base = sym (base_on entry K other) in
        let old : region.id ≤ drawn (base_of (entry ∷ K)) region.table = subst (λ B. region.id ≤ drawn B region.table) base was.old in
        let unbased : cat (base_of (entry ∷ K)) (key_is.Region region) ≡ None = subst (λ B. cat B (key_is.Region region) ≡ None) base was.unbased in
        inr (record {
          old = old;
          unbased = unbased;
          rowless = forgotten_rowless (entry ∷ K) (legal_K, allowed_to J K legal_J legal_K alike begun_J begun_K entry other allowed) region old unbased;
          one = subst IsIdle (sym one) was.one;
          other = subst IsIdle (sym two) was.other;
        })
  ]

  first_same : (table : Option TableName) → first_of J table ≡ first_of K table
  first_same None = refl
  first_same (Some table) = ap (λ n. n + 1) (alike.ids table)

  module _ (nonce : Nonce) (request : Request) (allowed : Allowed J (entry_is.Submit nonce request)) where
    same_submit : (p : ℕ) → offset K < p → IsSame (entry_is.Submit nonce request ∷ J) (entry_is.Submit nonce request ∷ K) p
    same_submit p high = let s = alike.same p high in record {
      node =
          ap (λ m. cond (p == m + 1) (Some (submitted J request p)) (node_of J p)) alike.last
          ∙ ap (λ f. cond (p == made K + 1) (Some (root_node p (args_are.Root request f) f)) (node_of J p)) (first_same (table_of_request request))
          ∙ ap (cond (p == made K + 1) (Some (submitted K request p))) s.node;
      nonce = ap (λ m. cond (p == m + 1) nonce (nonce_of J p)) alike.last ∙ ap (cond (p == made K + 1) nonce) s.nonce;
      answer = s.answer;
      verb = s.verb;
      report = s.report;
      aborted = s.aborted;
      tries = s.tries;
      stepped = s.stepped;
      sheets = λ node is at.
          ap (λ m. cond (p == m + 1) (sheets_of J) (sheets_by J p)) alike.last
          ∙ ap (λ l. cond (p == made K + 1) l (sheets_by J p)) alike.sheets
          ∙ cond_under (p == made K + 1) (sheets_of K) (sheets_by J p) (sheets_by K p) (λ off. s.sheets node (sym (cond-false (p == made J + 1) (Some (submitted J request p)) (node_of J p) (ap (λ m. p == m + 1) alike.last ∙ off)) ∙ is) at);
      failure = s.failure;
      left = s.left;
    }

    on_submit : Alike (entry_is.Submit nonce request ∷ J) (entry_is.Submit nonce request ∷ K)
    on_submit = record {
      counts = ap (λ n. n + 1) alike.counts;
      last = ap (λ n. n + 1) alike.last;
      same = same_submit;
      over = over_on (entry_is.Submit nonce request) refl allowed (λ p le. refl);
      roots = roots_on (entry_is.Submit nonce request) refl (ap (λ n. n + 1) alike.last) (λ p le. refl) same_submit;
      sheets = alike.sheets;
      rows = alike.rows;
      places = λ region. place_stays (entry_is.Submit nonce request) refl allowed region refl refl;
      servers = alike.servers;
      live = alike.live;
      fenced = alike.fenced;
      nonces = λ own. ap (λ n. cond (is_same nonce own) (Some (n + 1)) (by_nonce J own)) alike.last ∙ ap (cond (is_same nonce own) (Some (made K + 1))) (alike.nonces own);
      ids = λ table. ap (λ n. n + ids_for (table_of_request request) (new_ids request) table) (alike.ids table);
      laid = alike.laid;
    }

  module _ (pid : Pid) (pick : Option Server) (out : StepOut) (allowed : Allowed J (entry_is.Step pid pick out)) where
    step_up : offset K < pid.0
    step_up = step_high J K legal_J legal_K alike pid.0 allowed.1.0

    me : IsSame J K pid.0
    me = alike.same pid.0 step_up

    roots : root_of J pid.0 ≡ root_of K pid.0
    roots = root_of_same J K legal_J legal_K alike pid.0 step_up

    its : Node
    its = allowed.1.0.0

    its_is : node_of J pid.0 ≡ Some its
    unfolding its
    its_is = allowed.1.0.1

    its_is_too : node_of K pid.0 ≡ Some its
    its_is_too = sym me.node ∙ its_is

    undone : undo_of_next J pid.0 (node_of J pid.0) ≡ undo_of_next K pid.0 (node_of K pid.0)
    undone =
        ap (undo_of_next J pid.0) its_is ∙ ap undo_by (next_row_same J K legal_J legal_K alike pid.0 its its_is step_up (root_high J K legal_J legal_K alike pid.0 its step_up its_is)) ∙ sym (ap (undo_of_next K pid.0) its_is_too)

    row : row_if_there J pid.0 (node_of J pid.0) ≡ row_if_there K pid.0 (node_of K pid.0)
    row = ap (row_if_there J pid.0) its_is ∙ row_same J K legal_J legal_K alike pid.0 its step_up ∙ sym (ap (row_if_there K pid.0) its_is_too)

    same_step : (p : ℕ) → offset K < p → IsSame (entry_is.Step pid pick out ∷ J) (entry_is.Step pid pick out ∷ K) p
    same_step p high = let s = alike.same p high in record {
      node =
          ap (λ m. cond (nat_lt m p) (children_of pid.0 (node_of J pid.0) (slice_get (args_in out.children) (p - m - 1))) (node_of J p)) alike.last
          ∙ ap (λ o. cond (nat_lt (made K) p) (children_of pid.0 o (slice_get (args_in out.children) (p - made K - 1))) (node_of J p)) me.node
          ∙ ap (cond (nat_lt (made K) p) (children_of pid.0 (node_of K pid.0) (slice_get (args_in out.children) (p - made K - 1)))) s.node;
      nonce = s.nonce;
      answer = ap (cond (p == pid.0) (Some out.answer)) s.answer;
      verb = ap (λ v. cond (p == pid.0) (option_or out.call v) v) s.verb;
      report = s.report;
      aborted = s.aborted;
      tries = ap (λ n. cond ((p == pid.0) && has_failed out.place) (one_more n) n) s.tries;
      stepped = ap (λ n. cond (p == pid.0) n (made_at_step J p)) alike.last ∙ ap (cond (p == pid.0) (made K)) s.stepped;
      sheets = λ node is at. s.sheets node (old_root pid pick out J its its_is p node is at) at;
      failure = ap (λ r. cond (r == p) (or_else (cause J p) (failing out.answer)) (cause J p)) roots ∙ ap (λ c. cond (root_of K pid.0 == p) (or_else c (failing out.answer)) c) s.failure;
      left =
          ap (λ r. cond (r == p) (pushed (undo_of_next J pid.0 (node_of J pid.0)) (is_some (failing out.answer)) pid.0 (row_if_there J pid.0 (node_of J pid.0)) out.edits (stack J p)) (stack J p)) roots
          ∙ ap (λ u. cond (root_of K pid.0 == p) (pushed u (is_some (failing out.answer)) pid.0 (row_if_there J pid.0 (node_of J pid.0)) out.edits (stack J p)) (stack J p)) undone
          ∙ ap (λ n. cond (root_of K pid.0 == p) (pushed (undo_of_next K pid.0 (node_of K pid.0)) (is_some (failing out.answer)) pid.0 n out.edits (stack J p)) (stack J p)) row
          ∙ ap (λ l. cond (root_of K pid.0 == p) (pushed (undo_of_next K pid.0 (node_of K pid.0)) (is_some (failing out.answer)) pid.0 (row_if_there K pid.0 (node_of K pid.0)) out.edits l) l) s.left;
    }

    step_quiet : (p : ℕ) → p ≤ offset K → cause (entry_is.Step pid pick out ∷ J) p ≡ cause J p
    step_quiet p le =
        let high = root_high J K legal_J legal_K alike pid.0 its step_up its_is in
        let own : root_of J pid.0 ≡ its.root = ap root_in its_is in
        cond-false (root_of J pid.0 == p) (or_else (cause J p) (failing out.answer)) (cause J p) (ne_eqb (root_of J pid.0) p (λ e. omega (arith, le, high, own, e)))

    step_places : (region : Region) → (place_of (entry_is.Step pid pick out ∷ J) region ≡ place_of (entry_is.Step pid pick out ∷ K) region) ⊎ IsForgotten (entry_is.Step pid pick out ∷ J) (entry_is.Step pid pick out ∷ K) region
    step_places region =
        let own = ap (λ o. placed_by region (region_if o) out.place (place_of J region)) me.node in
        elim (place_on region (region_if (node_of K pid.0)) out.place (place_of J region) (place_of K region)) [
          | inl given ↦ inl (own ∙ given)
          | inr left ↦ place_stays (entry_is.Step pid pick out) refl allowed region (own ∙ left.0) left.1
        ]

    on_step : Alike (entry_is.Step pid pick out ∷ J) (entry_is.Step pid pick out ∷ K)
    on_step = record {
      counts = ap (λ n. n + 1) alike.counts;
      last = ap (λ n. n + length (args_in out.children)) alike.last;
      same = same_step;
      over = over_on (entry_is.Step pid pick out) refl allowed (λ p le. other_answer pid pick out J p (λ e. omega (arith, le, step_up, e)));
      roots = roots_on (entry_is.Step pid pick out) refl (ap (λ n. n + length (args_in out.children)) alike.last) step_quiet same_step;
      sheets = alike.sheets;
      rows = λ key. ap (edited out.edits key) (alike.rows key);
      places = step_places;
      servers = alike.servers;
      live = alike.live;
      fenced = alike.fenced;
      nonces = alike.nonces;
      ids = alike.ids;
      laid = alike.laid;
    }

  module _ (pid : Pid) (row : ℕ) (out : StepOut) (allowed : Allowed J (entry_is.Undo pid row out)) where
    undo_up : offset K < pid.0
    undo_up = latest_high J K legal_J legal_K alike pid.0 row allowed.1.0

    undo_roots : root_of J pid.0 ≡ root_of K pid.0
    undo_roots = root_of_same J K legal_J legal_K alike pid.0 undo_up

    same_undo : (p : ℕ) → offset K < p → IsSame (entry_is.Undo pid row out ∷ J) (entry_is.Undo pid row out ∷ K) p
    same_undo p high = let s = alike.same p high in record {
      node =
          ap (λ m. cond (nat_lt m p) (option_map (λ args. root_node p args 1) (slice_get (args_in out.followers) (p - m - 1))) (node_of J p)) alike.last
          ∙ ap (cond (nat_lt (made K) p) (option_map (λ args. root_node p args 1) (slice_get (args_in out.followers) (p - made K - 1)))) s.node;
      nonce = s.nonce;
      answer = s.answer;
      verb = s.verb;
      report = s.report;
      aborted = s.aborted;
      tries = s.tries;
      stepped = s.stepped;
      sheets = λ node is at.
          ap (λ m. cond (nat_lt m p) (sheets_of J) (sheets_by J p)) alike.last
          ∙ ap (λ l. cond (nat_lt (made K) p) l (sheets_by J p)) alike.sheets
          ∙ cond_under (nat_lt (made K) p) (sheets_of K) (sheets_by J p) (sheets_by K p) (λ off. s.sheets node (sym (cond-false (nat_lt (made J) p) (option_map (λ args. root_node p args 1) (slice_get (args_in out.followers) (p - made J - 1))) (node_of J p) (ap (λ m. nat_lt m p) alike.last ∙ off)) ∙ is) at);
      failure = s.failure;
      left = ap (λ r. cond (r == p) (rest_of (stack J p)) (stack J p)) undo_roots ∙ ap (λ l. cond (root_of K pid.0 == p) (rest_of l) l) s.left;
    }

    on_undo : Alike (entry_is.Undo pid row out ∷ J) (entry_is.Undo pid row out ∷ K)
    on_undo = record {
      counts = ap (λ n. n + 1) alike.counts;
      last = ap (λ n. n + length (args_in out.followers)) alike.last;
      same = same_undo;
      over = over_on (entry_is.Undo pid row out) refl allowed (λ p le. refl);
      roots = roots_on (entry_is.Undo pid row out) refl (ap (λ n. n + length (args_in out.followers)) alike.last) (λ p le. refl) same_undo;
      sheets = alike.sheets;
      rows = λ key. ap (edited out.edits key) (alike.rows key);
      places = λ region. place_stays (entry_is.Undo pid row out) refl allowed region refl refl;
      servers = alike.servers;
      live = alike.live;
      fenced = alike.fenced;
      nonces = alike.nonces;
      ids = alike.ids;
      laid = alike.laid;
    }

  module _ (call : Pid) (told : Told) (allowed : Allowed J (entry_is.Report call told)) where
    told_of : IsSame J K call.0
    told_of = alike.same call.0 (called_high J K legal_J legal_K alike call.0 allowed.1.0)

    same_report : (p : ℕ) → offset K < p → IsSame (entry_is.Report call told ∷ J) (entry_is.Report call told ∷ K) p
    same_report p high = let s = alike.same p high in record {
      node = s.node;
      nonce = s.nonce;
      answer = s.answer;
      verb = s.verb;
      report = ap (cond (p == call.0) (Some told)) s.report;
      aborted = s.aborted;
      tries = s.tries;
      stepped = s.stepped;
      sheets = s.sheets;
      failure = s.failure;
      left = s.left;
    }

    on_report : Alike (entry_is.Report call told ∷ J) (entry_is.Report call told ∷ K)
    on_report = record {
      counts = ap (λ n. n + 1) alike.counts;
      last = alike.last;
      same = same_report;
      over = over_on (entry_is.Report call told) refl allowed (λ p le. refl);
      roots = roots_on (entry_is.Report call told) refl (alike.last) (λ p le. refl) same_report;
      sheets = alike.sheets;
      rows = alike.rows;
      places = λ region. place_stays (entry_is.Report call told) refl allowed region refl refl;
      servers = alike.servers;
      live = alike.live;
      fenced = λ server. ap (λ o. ((told_number told == told_number told_is.Fenced) && fences_if o server) || is_fenced J server) told_of.node ∙ ap (λ b. ((told_number told == told_number told_is.Fenced) && fences_if (node_of K call.0) server) || b) (alike.fenced server);
      nonces = alike.nonces;
      ids = alike.ids;
      laid = λ root. ap (λ v. laid_if (layout_called v) (laid_by told) root (is_laid J root)) told_of.verb ∙ ap (laid_if (layout_called (verb_of K call.0)) (laid_by told) root) (alike.laid root);
    }

  module _ (server : Server) (allowed : Allowed J (entry_is.Up server)) where
    same_up : (p : ℕ) → offset K < p → IsSame (entry_is.Up server ∷ J) (entry_is.Up server ∷ K) p
    same_up p high = let s = alike.same p high in record {
      node = s.node;
      nonce = s.nonce;
      answer = s.answer;
      verb = s.verb;
      report = s.report;
      aborted = s.aborted;
      tries = s.tries;
      stepped = s.stepped;
      sheets = s.sheets;
      failure = s.failure;
      left = s.left;
    }

    on_up : Alike (entry_is.Up server ∷ J) (entry_is.Up server ∷ K)
    on_up = record {
      counts = ap (λ n. n + 1) alike.counts;
      last = alike.last;
      same = same_up;
      over = over_on (entry_is.Up server) refl allowed (λ p le. refl);
      roots = roots_on (entry_is.Up server) refl (alike.last) (λ p le. refl) same_up;
      sheets = alike.sheets;
      rows = alike.rows;
      places = λ region. place_stays (entry_is.Up server) refl allowed region refl refl;
      servers = ap (with_server server) alike.servers;
      live = λ own. ap (λ b. same_server own server || b) (alike.live own);
      fenced = alike.fenced;
      nonces = alike.nonces;
      ids = alike.ids;
      laid = alike.laid;
    }

  module _ (server : Server) (allowed : Allowed J (entry_is.Down server)) where
    same_down : (p : ℕ) → offset K < p → IsSame (entry_is.Down server ∷ J) (entry_is.Down server ∷ K) p
    same_down p high = let s = alike.same p high in record {
      node =
          ap (λ m. cond (p == m + 1) (Some (root_node p (args_are.Crash server) 1)) (node_of J p)) alike.last
          ∙ ap (cond (p == made K + 1) (Some (root_node p (args_are.Crash server) 1))) s.node;
      nonce = s.nonce;
      answer = s.answer;
      verb = s.verb;
      report = s.report;
      aborted = s.aborted;
      tries = s.tries;
      stepped = s.stepped;
      sheets = λ node is at.
          ap (λ m. cond (p == m + 1) (sheets_of J) (sheets_by J p)) alike.last
          ∙ ap (λ l. cond (p == made K + 1) l (sheets_by J p)) alike.sheets
          ∙ cond_under (p == made K + 1) (sheets_of K) (sheets_by J p) (sheets_by K p) (λ off. s.sheets node (sym (cond-false (p == made J + 1) (Some (root_node p (args_are.Crash server) 1)) (node_of J p) (ap (λ m. p == m + 1) alike.last ∙ off)) ∙ is) at);
      failure = s.failure;
      left = s.left;
    }

    on_down : Alike (entry_is.Down server ∷ J) (entry_is.Down server ∷ K)
    on_down = record {
      counts = ap (λ n. n + 1) alike.counts;
      last = ap (λ n. n + 1) alike.last;
      same = same_down;
      over = over_on (entry_is.Down server) refl allowed (λ p le. refl);
      roots = roots_on (entry_is.Down server) refl (ap (λ n. n + 1) alike.last) (λ p le. refl) same_down;
      sheets = alike.sheets;
      rows = alike.rows;
      places = λ region. place_stays (entry_is.Down server) refl allowed region refl refl;
      servers = alike.servers;
      live = λ own. ap (λ b. not (same_server own server) && b) (alike.live own);
      fenced = alike.fenced;
      nonces = alike.nonces;
      ids = alike.ids;
      laid = alike.laid;
    }

  module _ (pid : Pid) (allowed : Allowed J (entry_is.Abort pid)) where
    same_abort : (p : ℕ) → offset K < p → IsSame (entry_is.Abort pid ∷ J) (entry_is.Abort pid ∷ K) p
    same_abort p high = let s = alike.same p high in record {
      node = s.node;
      nonce = s.nonce;
      answer = s.answer;
      verb = s.verb;
      report = s.report;
      aborted = ap (cond (p == pid.0) true) s.aborted;
      tries = s.tries;
      stepped = s.stepped;
      sheets = s.sheets;
      failure = s.failure;
      left = s.left;
    }

    on_abort : Alike (entry_is.Abort pid ∷ J) (entry_is.Abort pid ∷ K)
    on_abort = record {
      counts = ap (λ n. n + 1) alike.counts;
      last = alike.last;
      same = same_abort;
      over = over_on (entry_is.Abort pid) refl allowed (λ p le. refl);
      roots = roots_on (entry_is.Abort pid) refl (alike.last) (λ p le. refl) same_abort;
      sheets = alike.sheets;
      rows = alike.rows;
      places = λ region. place_stays (entry_is.Abort pid) refl allowed region refl refl;
      servers = alike.servers;
      live = alike.live;
      fenced = alike.fenced;
      nonces = alike.nonces;
      ids = alike.ids;
      laid = alike.laid;
    }

  module _ (sheets : List Sheet) (allowed : Allowed J (entry_is.Adopt sheets)) where
    same_adopt : (p : ℕ) → offset K < p → IsSame (entry_is.Adopt sheets ∷ J) (entry_is.Adopt sheets ∷ K) p
    same_adopt p high = let s = alike.same p high in record {
      node = s.node;
      nonce = s.nonce;
      answer = s.answer;
      verb = s.verb;
      report = s.report;
      aborted = s.aborted;
      tries = s.tries;
      stepped = s.stepped;
      sheets = s.sheets;
      failure = s.failure;
      left = s.left;
    }

    on_adopt : Alike (entry_is.Adopt sheets ∷ J) (entry_is.Adopt sheets ∷ K)
    on_adopt = record {
      counts = ap (λ n. n + 1) alike.counts;
      last = alike.last;
      same = same_adopt;
      over = over_on (entry_is.Adopt sheets) refl allowed (λ p le. refl);
      roots = roots_on (entry_is.Adopt sheets) refl (alike.last) (λ p le. refl) same_adopt;
      sheets = refl;
      rows = alike.rows;
      places = λ region. place_stays (entry_is.Adopt sheets) refl allowed region refl refl;
      servers = alike.servers;
      live = alike.live;
      fenced = alike.fenced;
      nonces = alike.nonces;
      ids = alike.ids;
      laid = alike.laid;
    }

pub alike_stay : AlikeStay
alike_stay J K legal_J legal_K begun_J begun_K alike (entry_is.Start sheets) other allowed = absurd (subst IsBegun allowed.0.0 begun_J)
alike_stay J K legal_J legal_K begun_J begun_K alike (entry_is.Submit nonce request) other allowed = on_submit J K legal_J legal_K begun_J begun_K alike nonce request allowed
alike_stay J K legal_J legal_K begun_J begun_K alike (entry_is.Step pid pick out) other allowed = on_step J K legal_J legal_K begun_J begun_K alike pid pick out allowed
alike_stay J K legal_J legal_K begun_J begun_K alike (entry_is.Undo pid row out) other allowed = on_undo J K legal_J legal_K begun_J begun_K alike pid row out allowed
alike_stay J K legal_J legal_K begun_J begun_K alike (entry_is.Report call told) other allowed = on_report J K legal_J legal_K begun_J begun_K alike call told allowed
alike_stay J K legal_J legal_K begun_J begun_K alike (entry_is.Up server) other allowed = on_up J K legal_J legal_K begun_J begun_K alike server allowed
alike_stay J K legal_J legal_K begun_J begun_K alike (entry_is.Down server) other allowed = on_down J K legal_J legal_K begun_J begun_K alike server allowed
alike_stay J K legal_J legal_K begun_J begun_K alike (entry_is.Abort pid) other allowed = on_abort J K legal_J legal_K begun_J begun_K alike pid allowed
alike_stay J K legal_J legal_K begun_J begun_K alike (entry_is.Adopt sheets) other allowed = on_adopt J K legal_J legal_K begun_J begun_K alike sheets allowed
alike_stay J K legal_J legal_K begun_J begun_K alike (entry_is.Base part) other allowed = absurd (true≢false other)
