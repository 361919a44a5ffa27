-- In every legal journal the catalog of the deeds has whole tables.
use Rattle.std.proofs.Common.{◌≡◌, ◌≢◌, ℕ, ◌+◌, ◌-◌, ◌<◌, ◌≤◌, true, false, ◌==◌, is_some, map, not, ◌||◌, nat_lt, List, [], ◌∷◌, Option, Some, None, refl, sym, ap, subst, ◌∙◌, inl, inr, ◌⊎◌, arith, slice_get}
use Rattle.std.specs.Option.{option_map}
use Rattle.std.specs.declared.result.Result.TheVariants.{Ok, Err}
use Rattle.std.proofs.lemmas.Bool.{and_left, cases_Bool, cases_eq, eqb-true, not-true, or_cases, cond-true, cond-false, eq-eqb, ne_eqb, lt-ltb, le-ltb, false≢true, true≢false}
use Rattle.std.proofs.lemmas.Option.{none-some, same_Some}
use Rattle.hm_names.specs.Server.{Server}
use Rattle.hm_names.specs.declared.nonce.Nonce.{Nonce}
use Rattle.hm_names.specs.declared.pid.Pid.{Pid}
use Rattle.hm_names.specs.declared.table.TableName.{TableName}
use Rattle.hm_data.specs.declared.answer.Answer.{Answer}
use Rattle.hm_data.specs.declared.answer.Answer.TheVariants as answer_is
use Rattle.hm_data.specs.declared.answer.Cause.{Cause}
use Rattle.hm_data.specs.declared.args.Args.{Args}
use Rattle.hm_data.specs.declared.args.Args.TheVariants as args_are
use Rattle.hm_data.specs.declared.args.Child.TheVariants as child_is
use Rattle.hm_data.specs.declared.act.Back.{Back}
use Rattle.hm_data.specs.declared.act.Back.TheVariants as back_is
use Rattle.hm_data.specs.declared.call.Told.{Told}
use Rattle.hm_data.specs.declared.catalog.CatKey.{CatKey}
use Rattle.hm_data.specs.declared.catalog.CatKey.TheVariants as key_is
use Rattle.hm_data.specs.declared.catalog.Edit.{Edit}
use Rattle.hm_data.specs.declared.entry.Entry.TheVariants as entry_is
use Rattle.hm_data.specs.declared.place.Goal.TheVariants as goal_is
use Rattle.hm_data.specs.declared.request.Request.{Request}
use Rattle.hm_data.specs.declared.step.StepOut.{StepOut}
use Rattle.hm_model.proofs.Grown.{ids_within}
use Rattle.hm_model.proofs.Rows.{has_key, in_with_keys}
use Rattle.hm_model.proofs.Trees.{Grown, IsWaiting, all_below_at, answer_now, grown_all, is_there, le_or_lt, new_child, node_same, other_answer, root_low, step_of}
use Rattle.hm_model.proofs.UndoMakes.{undo_of}
use Rattle.hm_model.specs.Answers.{done_with, failing, is_stopped, last_answer}
use Rattle.hm_model.specs.Catalog.{Catalog, at_start, cat, edited, keys_of}
use Rattle.hm_model.specs.Changes.{region_key}
use Rattle.hm_model.specs.Deeds.{Deed, deed, deed_if}
use Rattle.hm_model.specs.Journal.{Past}
use Rattle.hm_model.specs.Kinds.{table_of_request}
use Rattle.hm_model.specs.Locks.{Holds, IsIn, in_name_order}
use Rattle.hm_model.specs.Reads.{IsBusy, covers}
use Rattle.hm_model.specs.Phase.{all_stopped, cause, ended_node, in_tree, or_else, rolled_back, root_ended, root_over, stopped_in}
use Rattle.hm_model.specs.Pieces.{Batch, batches}
use Rattle.hm_model.specs.Requests.{wrong_in}
use Rattle.hm_model.specs.Rules.{IsLegal}
use Rattle.hm_model.specs.Serial.{at_end, edits_in, ended_deed, if_root, serial}
use Rattle.hm_model.specs.Tree.{Node, args_in, drawn, first_of, is_top, made, new_ids, node_of, root_in, root_node, root_of, submitted}
use Rattle.hm_model.specs.Undo.{is_empty, stack}
use Rattle.hm_model.specs.Undoing.{closed_by, undo_followers}
use Rattle.hm_model.specs.Views.{Asked, asked_of}
use Rattle.hm_serial.proofs.Fallen.{root_of_node, some_cons}
use Rattle.hm_serial.proofs.FallAll.{falls_all}
use Rattle.hm_kinds.proofs.Kids.{AllMade, made_at}
use Rattle.hm_serial.proofs.Kinship.{is_kid}
use Rattle.hm_serial.proofs.Serial.{catalog_is}
use Rattle.hm_serial.proofs.StandAll.{over_now, serials_now, stands_all}
use Rattle.hm_model.proofs.Tops.{TopHolds}
use Rattle.hm_serial.proofs.Standing.{live_child, waiting_runs}
use Rattle.hm_model.proofs.LegalSteps.{StepFacts, ready_stops}
use Rattle.hm_cover.proofs.Deeds.{MayDo, deed_drawn, deed_stays}
use Rattle.hm_ids.proofs.Drawn.{ArgsDrawn, IsDrawnAt, SeenDrawn}
use Rattle.hm_ids.proofs.DrawnAll.{DrawnIn, at_more, drawn_all, drawn_more, edited_drawn}
use Rattle.hm_cover.proofs.Whole.{Whole, bare_at, covered, none_overlap, whole_none, whole_same}
use Rattle.hm_cover.specs.Theorem.{DeedsKeepRanges}
use Rattle.hm_model.specs.Base.{HasNoHalfBase}
use Rattle.hm_model.proofs.Grown.{all_parts}
use Rattle.hm_model.proofs.Parted.{no_half}
use Rattle.hm_model.proofs.Small.{none_from}
use Rattle.hm_model.proofs.Answered.{running_undone}
use Rattle.hm_cover.proofs.Based.{base_whole}
use Rattle.hm_model.specs.Ranges.{IsBare, IsCovered, NoneOverlap}

-- an id of a table is one of those that a request drew
abbrev pub InRange : Asked → TableName → ℕ → Type 0
InRange a u i = (table_of_request a.request ≡ Some u) × (a.first ≤ i) × (i < a.first + new_ids a.request)

pub asked_ids : (d : TableName → ℕ → Type 0) (args : Args) (a : Asked) → ArgsDrawn d args → asked_of args ≡ Some a → (u : TableName) (i : ℕ) → InRange a u i → d u i
asked_ids d (args_are.Root request first) a fits is u i at =
    let own : (x : Asked) → x ≡ a → InRange x u i = (λ x e. subst (λ y. InRange y u i) (sym e) at) in
    let mine = own (record { request = request; first = first }) (same_Some (record { request = request; first = first }) a is) in
    fits u mine.0 i mine.1 mine.2
asked_ids d args a fits is u i at = absurd (none-some a is)

-- a deed that a step ends, or nothing
deed_or_none : (above : List ℕ) (answer : Answer) (o : Option Asked) (keys : List CatKey) (there : Catalog)
    → (edits_in (if_root above (at_end answer (deed_if o keys there))) ≡ [])
    ⊎ ((a : Asked) × (o ≡ Some a) × (told : Told) × (answer ≡ answer_is.Done told) × (above ≡ []) × (deed a.request a.first keys there ≡ Ok (edits_in (if_root above (at_end answer (deed_if o keys there))))))
deed_or_none (u ∷ rest) answer o keys there = inl refl
deed_or_none [] (answer_is.More next) o keys there = inl refl
deed_or_none [] (answer_is.Wait next) o keys there = inl refl
deed_or_none [] (answer_is.Await next) o keys there = inl refl
deed_or_none [] (answer_is.Fail c) o keys there = inl refl
deed_or_none [] answer_is.Undone o keys there = inl refl
deed_or_none [] (answer_is.Done told) None keys there = inl refl
deed_or_none [] (answer_is.Done told) (Some a) keys there = by (deed a.request a.first keys there) refl
  where
    by : (r : Deed) → deed a.request a.first keys there ≡ r → (edits_in (deed a.request a.first keys there) ≡ []) ⊎ ((b : Asked) × (Some a ≡ Some b) × (t : Told) × (answer_is.Done told ≡ answer_is.Done t) × (◌≡◌ {A = List ℕ} [] []) × (deed b.request b.first keys there ≡ Ok (edits_in (deed a.request a.first keys there))))
    by (Ok edits) e = inr (a, refl, told, refl, refl, e ∙ ap (λ r. Ok (edits_in r)) (sym e))
    by (Err c) e = inl (ap edits_in e)

waiting_undone : (o : Option Answer) → IsWaiting o → done_with o ≡ None
waiting_undone o w = running_undone o (waiting_runs o w)

kid_unasked : (args : Args) → is_kid args ≡ true → asked_of args ≡ None
kid_unasked (args_are.Root request first) k = absurd (false≢true k)
kid_unasked args k = refl

-- while a descendant goes on its root hasn't ended
kid_open : (J : Past) → Grown J → (q : ℕ) (y : Node) → node_of J q ≡ Some y → y.above ≢ [] → is_stopped (last_answer J q) ≡ false → IsWaiting (last_answer J y.root) × (root_ended J y.root ≡ false)
kid_open J grown q y is kid runs =
    let live = live_child J grown y.above q y is refl kid runs in
    (live.5, by (cause J y.root) refl live.5)
  where
    own_root : (y.root == q) ≡ true → ⊥
    own_root same = by_above y.above refl
      where
        by_above : (above : List ℕ) → y.above ≡ above → ⊥
        by_above [] e = kid e
        by_above (u ∷ rest) e =
            let up = grown.ups q y is u rest e in
            let low = root_low J grown rest u up.0 up.1 up.2 in
            let lt = grown.later q y is u rest e in
            let r = up.3 in
            let eq = eqb-true y.root q same in
            omega (arith, low, lt, r, eq)

    unstopped : all_stopped J y.root ≡ true → ⊥
    unstopped all =
        let at = all_below_at (made J + 1) (stopped_in J y.root) q all (let le = is_there J grown q y is in omega (arith, le)) in
        elim (or_cases (not (in_tree y.root (node_of J q))) ((q == y.root) || is_stopped (last_answer J q)) at) [
          | inl out ↦ true≢false (sym (ap (in_tree y.root) is ∙ eq-eqb y.root y.root refl) ∙ not-true (in_tree y.root (node_of J q)) out)
          | inr other ↦ elim (or_cases (q == y.root) (is_stopped (last_answer J q)) other) [
            | inl same ↦ own_root (eq-eqb y.root q (sym (eqb-true q y.root same)))
            | inr stopped ↦ true≢false (sym stopped ∙ runs)
          ]
        ]

    by : (c : Option Cause) → cause J y.root ≡ c → IsWaiting (last_answer J y.root) → root_ended J y.root ≡ false
    by None e w = ap (λ k. root_over k (rolled_back J y.root) (done_with (last_answer J y.root))) e ∙ ap is_some (waiting_undone (last_answer J y.root) w)
    by (Some c) e w = ap (λ k. root_over k (rolled_back J y.root) (done_with (last_answer J y.root))) e ∙ elim (cases_Bool (all_stopped J y.root)) [
      | inl on ↦ absurd (unstopped on)
      | inr off ↦ and_left (all_stopped J y.root) (is_empty (stack J y.root)) off
    ]

waits_none : (o : Option Answer) → IsWaiting o → o ≡ None → ⊥
waits_none None w e = w
waits_none (Some a) w e = none-some a (sym e)

-- whoever holds has a root that holds
holds_root : (J : Past) → Grown J → (q : ℕ) (y : Node) → node_of J q ≡ Some y → Holds J q → (x : Node) × TopHolds J y.root x
holds_root J grown q y is h = by y.above refl
  where
    by : (above : List ℕ) → y.above ≡ above → (x : Node) × TopHolds J y.root x
    by [] e =
        let own = grown.tops q y is e in
        (y, ((ap (node_of J) own ∙ is, e), (λ none. h.0 (ap (last_answer J) (sym own) ∙ none)), ap (root_ended J) own ∙ sym (ap (ended_node J q) is ∙ cond-true (is_top y.above) (root_ended J q) (is_stopped (last_answer J q)) (ap is_top e)) ∙ h.1))
    by (u ∷ rest) e =
        let runs : is_stopped (last_answer J q) ≡ false = sym (ap (ended_node J q) is ∙ cond-false (is_top y.above) (root_ended J q) (is_stopped (last_answer J q)) (ap is_top e)) ∙ h.1 in
        let open_root = kid_open J grown q y is (λ none. some_cons u rest (sym e ∙ none)) runs in
        let root = root_of_node J grown q y is in
        (root.0, (root.1, (λ none. waits_none (last_answer J y.root) open_root.0 none), open_root.1))

pub record IsWhole (n : ℕ) (J : Past) : Type 0 where
  pub whole : (t : TableName) → Whole n (serial J) t
  pub sound : (p : ℕ) (x : Node) (a : Asked) → node_of J p ≡ Some x → asked_of x.args ≡ Some a → wrong_in a.request ≡ None
  pub apart : (p q : ℕ) (x y : Node) (a b : Asked) → p ≢ q → node_of J p ≡ Some x → node_of J q ≡ Some y → asked_of x.args ≡ Some a → asked_of y.args ≡ Some b → (u : TableName) (i : ℕ) → InRange a u i → InRange b u i → ⊥
  pub free : (p : ℕ) (x : Node) (a : Asked) → node_of J p ≡ Some x → asked_of x.args ≡ Some a → done_with (last_answer J p) ≡ None → (u : TableName) (i : ℕ) → InRange a u i → serial J (region_key u i) ≡ None
  pub listed : (key : CatKey) → serial J key ≢ None → IsIn key (keys_of J)
  pub rows : SeenDrawn (DrawnIn J) (serial J)

-- a submission
module _ (n : ℕ) (nonce : Nonce) (request : Request) (J : Past) (legal : IsLegal (entry_is.Submit nonce request ∷ J)) (kept : IsWhole n J) where
  abbrev mine : Asked
  mine = record { request = request; first = first_of J (table_of_request request) }

  submit_or : (p : ℕ) (x : Node) (a : Asked) → node_of (entry_is.Submit nonce request ∷ J) p ≡ Some x → asked_of x.args ≡ Some a → (node_of J p ≡ Some x) ⊎ ((p ≡ made J + 1) × (a ≡ mine))
  submit_or p x a is asked = elim (cases_eq p (made J + 1)) [
    | inl same ↦
        let one : submitted J request p ≡ x = same_Some (submitted J request p) x (sym (cond-true (p == made J + 1) (Some (submitted J request p)) (node_of J p) (eq-eqb p (made J + 1) same)) ∙ is) in
        inr (same, same_Some a mine (sym asked ∙ ap (λ (y : Node). asked_of y.args) (sym one)))
    | inr differs ↦ inl (sym (cond-false (p == made J + 1) (Some (submitted J request p)) (node_of J p) (ne_eqb p (made J + 1) differs)) ∙ is)
  ]

  mine_high : (o : Option TableName) (u : TableName) (i : ℕ) → o ≡ Some u → first_of J o ≤ i → i ≤ drawn J u → ⊥
  mine_high None u i e low le = none-some u e
  mine_high (Some t) u i e low le = let same : drawn J t ≡ drawn J u = ap (drawn J) (same_Some t u e) in omega (arith, low, le, same)

  high : (a : Asked) → a ≡ mine → (u : TableName) (i : ℕ) → InRange a u i → i ≤ drawn J u → ⊥
  high a e u i at le = let own : InRange mine u i = subst (λ x. InRange x u i) e at in mine_high (table_of_request request) u i own.0 own.1 le

  old_ids : (q : ℕ) (y : Node) (b : Asked) → node_of J q ≡ Some y → asked_of y.args ≡ Some b → (u : TableName) (i : ℕ) → InRange b u i → i ≤ drawn J u
  old_ids q y b is asked u i at = (asked_ids (DrawnIn J) y.args b ((drawn_all J legal.0).args q y is) asked u i at).1

  submit_whole : IsWhole n (entry_is.Submit nonce request ∷ J)
  submit_whole = record {
    whole = kept.whole;
    sound = λ p x a is asked. elim (submit_or p x a is asked) [
      | inl old ↦ kept.sound p x a old asked
      | inr new ↦ ap (λ (b : Asked). wrong_in b.request) new.1 ∙ legal.1.1.0
    ];
    apart = λ p q x y a b differs px qy pa qb u i one other. elim (submit_or p x a px pa) [
      | inl old ↦ elim (submit_or q y b qy qb) [
        | inl both ↦ kept.apart p q x y a b differs old both pa qb u i one other
        | inr new ↦ high b new.1 u i other (old_ids p x a old pa u i one)
      ]
      | inr new ↦ elim (submit_or q y b qy qb) [
        | inl old ↦ high a new.1 u i one (old_ids q y b old qb u i other)
        | inr too ↦ differs (new.0 ∙ sym too.0)
      ]
    ];
    free = λ p x a is asked undone u i at. elim (submit_or p x a is asked) [
      | inl old ↦ kept.free p x a old asked undone u i at
      | inr new ↦ none_from (serial J (region_key u i)) (λ some. high a new.1 u i at (kept.rows (region_key u i) some).1)
    ];
    listed = kept.listed;
    rows = λ key. at_more (DrawnIn J) (DrawnIn (entry_is.Submit nonce request ∷ J)) (drawn_more J (entry_is.Submit nonce request ∷ J) (λ t. omega arith)) key (serial J key) (kept.rows key);
  }

-- an entry that leaves the catalog of the deeds, and makes procedures that nobody asked for
module _ (n : ℕ) (J J' : Past) (kept : IsWhole n J) (same : (key : CatKey) → serial J' key ≡ serial J key)
    (old : (p : ℕ) (x : Node) (a : Asked) → node_of J' p ≡ Some x → asked_of x.args ≡ Some a → node_of J p ≡ Some x)
    (last : (p : ℕ) → last_answer J' p ≡ last_answer J p) (keys : (key : CatKey) → IsIn key (keys_of J) → IsIn key (keys_of J')) (ids : (t : TableName) → drawn J' t ≡ drawn J t) where
  calm_whole : IsWhole n J'
  calm_whole = record {
    whole = λ t. whole_same n (serial J) (serial J') t (λ id. same (region_key t id)) (ap is_some (same (key_is.Table t))) (kept.whole t);
    sound = λ p x a is asked. kept.sound p x a (old p x a is asked) asked;
    apart = λ p q x y a b differs px qy pa qb. kept.apart p q x y a b differs (old p x a px pa) (old q y b qy qb) pa qb;
    free = λ p x a is asked undone u i at. same (region_key u i) ∙ kept.free p x a (old p x a is asked) asked (ap done_with (sym (last p)) ∙ undone) u i at;
    listed = λ key some. keys key (kept.listed key (λ none. some (same key ∙ none)));
    rows = λ key. at_more (DrawnIn J) (DrawnIn J') (drawn_more J J' (λ t. (let e = ids t in omega (arith, e)))) key (serial J' key) (subst (IsDrawnAt (DrawnIn J) key) (sym (same key)) (kept.rows key));
  }

-- a step
module _ (n : ℕ) (big : 4096 < n) (pid : Pid) (pick : Option Server) (out : StepOut) (J : Past) (legal : IsLegal (entry_is.Step pid pick out ∷ J)) (kept : IsWhole n J) where
  abbrev J' : Past
  J' = entry_is.Step pid pick out ∷ J

  grown : Grown J
  grown = grown_all J legal.0

  step : StepFacts J pid.0 pick out
  step = step_of pid pick out J (grown_all J legal.0) legal

  abbrev done : List Edit
  done = edits_in (ended_deed (node_of J pid.0) out.answer (keys_of J) (serial J))

  -- who was asked for was there
  step_old : (p : ℕ) (x : Node) (a : Asked) → node_of (entry_is.Step pid pick out ∷ J) p ≡ Some x → asked_of x.args ≡ Some a → node_of J p ≡ Some x
  step_old p x a is asked = elim (le_or_lt p (made J)) [
    | inl le ↦ sym (node_same pid pick out J p le) ∙ is
    | inr lt ↦
        let kid = new_child pid pick out J step.node step.node_is p lt x is in
        let kind = (falls_all (entry_is.Step pid pick out ∷ J) legal).falls.kids p x is (λ none. some_cons pid.0 step.node.above (ap (λ (y : Node). y.above) (sym kid.2) ∙ none)) in
        absurd (none-some a (sym (kid_unasked x.args kind) ∙ asked))
  ]

  runs : is_stopped (last_answer J pid.0) ≡ false
  runs = ready_stops J pid.0 step.node (last_answer J pid.0) step.ready

  abbrev IsDeed : Type 0
  IsDeed = (a : Asked) × (asked_of step.node.args ≡ Some a) × (told : Told) × (out.answer ≡ answer_is.Done told) × (step.node.above ≡ []) × (deed a.request a.first (keys_of J) (serial J) ≡ Ok done)

  deed_cases : (done ≡ []) ⊎ IsDeed
  deed_cases = subst (λ e. (e ≡ []) ⊎ ((a : Asked) × (asked_of step.node.args ≡ Some a) × (told : Told) × (out.answer ≡ answer_is.Done told) × (step.node.above ≡ []) × (deed a.request a.first (keys_of J) (serial J) ≡ Ok e))) (ap (λ o. edits_in (ended_deed o out.answer (keys_of J) (serial J))) (sym step.node_is)) (deed_or_none step.node.above out.answer (asked_of step.node.args) (keys_of J) (serial J))

  abbrev AfterStep : Type 0
  AfterStep = IsWhole n J'

  -- nothing is done
  none_done : done ≡ [] → IsWhole n (entry_is.Step pid pick out ∷ J)
  none_done none =
      let same : (key : CatKey) → serial (entry_is.Step pid pick out ∷ J) key ≡ serial J key = (λ key. ap (λ e. edited e key (serial J key)) none) in
      record {
        whole = λ t. whole_same n (serial J) (serial (entry_is.Step pid pick out ∷ J)) t (λ id. same (region_key t id)) (ap is_some (same (key_is.Table t))) (kept.whole t);
        sound = λ p x a is asked. kept.sound p x a (step_old p x a is asked) asked;
        apart = λ p q x y a b differs px qy pa qb. kept.apart p q x y a b differs (step_old p x a px pa) (step_old q y b qy qb) pa qb;
        free = λ p x a is asked undone u i at. same (region_key u i) ∙ kept.free p x a (step_old p x a is asked) asked (undone_before p undone) u i at;
        listed = λ key some. in_with_keys key out.edits (keys_of J) (kept.listed key (λ none. some (same key ∙ none)));
        rows = λ key. subst (IsDrawnAt (DrawnIn J) key) (sym (same key)) (kept.rows key);
      }
    where
      undone_before : (p : ℕ) → done_with (last_answer (entry_is.Step pid pick out ∷ J) p) ≡ None → done_with (last_answer J p) ≡ None
      undone_before p undone = elim (cases_eq p pid.0) [
        | inl same ↦ running_undone (last_answer J p) (ap (λ q. is_stopped (last_answer J q)) same ∙ runs)
        | inr differs ↦ ap done_with (sym (other_answer pid pick out J p differs)) ∙ undone
      ]

  module _ (is : IsDeed) where
    -- its root has ended after it
    ends_it : root_ended (entry_is.Step pid pick out ∷ J) step.node.root ≡ true
    ends_it =
        let own : step.node.root ≡ pid.0 = grown.tops pid.0 step.node step.node_is is.4 in
        let mine : root_of J pid.0 ≡ step.node.root = ap root_in step.node_is in
        let uncaused : cause J step.node.root ≡ None = ap (cause J) own ∙ step.uncaused (ap is_top is.4) in
        let none : cause (entry_is.Step pid pick out ∷ J) step.node.root ≡ None = cond-true (root_of J pid.0 == step.node.root) (or_else (cause J step.node.root) (failing out.answer)) (cause J step.node.root) (eq-eqb (root_of J pid.0) step.node.root mine) ∙ ap (λ c. or_else c (failing out.answer)) uncaused ∙ ap failing is.3 in
        ap (λ k. root_over k (rolled_back (entry_is.Step pid pick out ∷ J) step.node.root) (done_with (last_answer (entry_is.Step pid pick out ∷ J) step.node.root))) none
        ∙ ap (λ p. is_some (done_with (last_answer (entry_is.Step pid pick out ∷ J) p))) own ∙ ap (λ o. is_some (done_with o)) (answer_now pid pick out J ∙ ap Some is.3)

    may : MayDo n (serial J) (keys_of J) is.0.request is.0.first
    may = record {
      sound = kept.sound pid.0 step.node is.0 step.node_is is.1;
      free = λ u own i low high. kept.free pid.0 step.node is.0 step.node_is is.1 (running_undone (last_answer J pid.0) runs) u i (own, low, high);
      low = λ u own i low high. (
          let le = (asked_ids (DrawnIn J) step.node.args is.0 ((drawn_all J legal.0).args pid.0 step.node step.node_is) is.1 u i (own, low, high)).1 in
          let few = ids_within J legal.0 u in
          omega (arith, le, few, big));
      listed = kept.listed;
    }

    -- the ids of another root have no rows still
    others_free : (q : ℕ) (y : Node) (b : Asked) → q ≢ pid.0 → node_of J q ≡ Some y → asked_of y.args ≡ Some b → done_with (last_answer J q) ≡ None → (u : TableName) (i : ℕ) → InRange b u i → serial (entry_is.Step pid pick out ∷ J) (region_key u i) ≡ None
    others_free q y b differs qy qb undone u i at =
        let not_its : TableName → ℕ → Type 0 = (λ t j. InRange b t j → ⊥) in
        let rows : SeenDrawn (λ t j. InRange b t j → ⊥) (serial J) = seen_free in
        let all = deed_drawn (λ t j. InRange b t j → ⊥) (serial J) (keys_of J) rows is.0.request is.0.first (λ t own j low high its. kept.apart pid.0 q step.node y is.0 b (λ e. differs (sym e)) step.node_is qy is.1 qb t j (own, low, high) its) done is.5 in
        none_from (serial (entry_is.Step pid pick out ∷ J) (region_key u i)) (λ some. edited_drawn (λ t j. InRange b t j → ⊥) done (region_key u i) (serial J (region_key u i)) all (rows (region_key u i)) some at)
      where
        seen_free : SeenDrawn (λ t j. InRange b t j → ⊥) (serial J)
        seen_free (key_is.Region r) = λ some its. some (kept.free q y b qy qb undone r.table r.id its)
        seen_free key = tt

    deed_done : IsWhole n (entry_is.Step pid pick out ∷ J)
    unfolding step grown
    deed_done = record {
      whole = deed_stays n (serial J) (keys_of J) kept.whole is.0.request is.0.first may done is.5;
      sound = λ p x a at asked. kept.sound p x a (step_old p x a at asked) asked;
      apart = λ p q x y a b differs px qy pa qb. kept.apart p q x y a b differs (step_old p x a px pa) (step_old q y b qy qb) pa qb;
      free = λ p x a at asked undone u i among. elim (cases_eq p pid.0) [
        | inl same ↦ absurd (none-some is.2 (sym (ap (λ q. done_with (last_answer (entry_is.Step pid pick out ∷ J) q)) (sym same) ∙ undone) ∙ ap done_with (answer_now pid pick out J ∙ ap Some is.3)))
        | inr differs ↦ others_free p x a differs (step_old p x a at asked) asked (ap done_with (sym (other_answer pid pick out J p differs)) ∙ undone) u i among
      ];
      listed = λ key some. elim (cases_Bool (covers (root_of_node J grown pid.0 step.node step.node_is).0.args key)) [
        | inl on ↦ has_key (entry_is.Step pid pick out ∷ J) key (λ none. some (sym (over_now pid pick out J legal (stands_all J legal.0) ends_it key on) ∙ none))
        | inr off ↦ in_with_keys key out.edits (keys_of J) (kept.listed key (λ none. some (serials_now pid pick out J legal (stands_all J legal.0) key off ∙ none)))
      ];
      rows = λ key. edited_drawn (DrawnIn J) done key (serial J key) (deed_drawn (DrawnIn J) (serial J) (keys_of J) kept.rows is.0.request is.0.first (λ u own i low high. asked_ids (DrawnIn J) step.node.args is.0 ((drawn_all J legal.0).args pid.0 step.node step.node_is) is.1 u i (own, low, high)) done is.5) (kept.rows key);
    }

  step_whole : IsWhole n (entry_is.Step pid pick out ∷ J)
  step_whole = elim deed_cases [ inl none ↦ none_done none | inr is ↦ deed_done is ]

-- an undo's procedures are none that were asked for
assigns_unasked : (list : List Batch) → AllMade (λ args. asked_of args ≡ None) (map (λ batch. child_is.Transits batch.table batch.ids goal_is.Assign) list)
assigns_unasked [] = tt
assigns_unasked (batch ∷ more) = ((λ id. refl), assigns_unasked more)

followers_unasked : (undo : Back) (args : Args) (root : Pid) → AllMade (λ own. asked_of own ≡ None) (undo_followers undo args root)
followers_unasked back_is.Sweep args root = (refl, tt)
followers_unasked back_is.Reopen args root = assigns_unasked (batches (in_name_order (closed_by args)))
followers_unasked undo args root = tt

undo_old : (pid : Pid) (row : ℕ) (out : StepOut) (J : Past) → IsLegal (entry_is.Undo pid row out ∷ J) → (p : ℕ) (x : Node) (a : Asked) → node_of (entry_is.Undo pid row out ∷ J) p ≡ Some x → asked_of x.args ≡ Some a → node_of J p ≡ Some x
undo_old pid row out J legal p x a is asked = elim (le_or_lt p (made J)) [
  | inl le ↦ sym (cond-false (nat_lt (made J) p) (option_map (λ args. root_node p args 1) (slice_get (args_in out.followers) (p - made J - 1))) (node_of J p) (le-ltb (made J) p le)) ∙ is
  | inr lt ↦ by (slice_get (args_in out.followers) (p - made J - 1)) refl (sym (cond-true (nat_lt (made J) p) (option_map (λ args. root_node p args 1) (slice_get (args_in out.followers) (p - made J - 1))) (node_of J p) (lt-ltb (made J) p lt)) ∙ is)
]
  where
    none_asked : AllMade (λ own. asked_of own ≡ None) out.followers
    none_asked =
        let u = undo_of pid row out J legal in
        subst (λ (o : StepOut). AllMade (λ own. asked_of own ≡ None) o.followers) (sym u.out_is) (followers_unasked u.undo u.args u.root)

    by : (o : Option Args) → slice_get (args_in out.followers) (p - made J - 1) ≡ o → option_map (λ args. root_node p args 1) o ≡ Some x → node_of J p ≡ Some x
    by None e m = absurd (none-some x m)
    by (Some args) e m = absurd (none-some a (sym (made_at (λ own. asked_of own ≡ None) out.followers none_asked (p - made J - 1) args e) ∙ ap (λ (y : Node). asked_of y.args) (same_Some (root_node p args 1) x m) ∙ asked))

down_old : (server : Server) (J : Past) (p : ℕ) (x : Node) (a : Asked) → node_of (entry_is.Down server ∷ J) p ≡ Some x → asked_of x.args ≡ Some a → node_of J p ≡ Some x
down_old server J p x a is asked = elim (cases_eq p (made J + 1)) [
  | inl same ↦ absurd (none-some a (ap (λ (y : Node). asked_of y.args) (same_Some (root_node p (args_are.Crash server) 1) x (sym (cond-true (p == made J + 1) (Some (root_node p (args_are.Crash server) 1)) (node_of J p) (eq-eqb p (made J + 1) same)) ∙ is)) ∙ asked))
  | inr differs ↦ sym (cond-false (p == made J + 1) (Some (root_node p (args_are.Crash server) 1)) (node_of J p) (ne_eqb p (made J + 1) differs)) ∙ is
]

start_none : (id : ℕ) (t : TableName) → at_start (region_key t id) ≡ None
start_none id t = refl

start_listed : (key : CatKey) → serial [] key ≢ None → IsIn key (keys_of [])
start_listed key some = has_key [] key some

nothing_whole : (n : ℕ) → IsWhole n []
nothing_whole n = record {
  whole = λ t. whole_none n (serial []) t refl (λ id. refl);
  sound = λ p x a is. absurd (none-some x is);
  apart = λ p q x y a b differs is. absurd (none-some x is);
  free = λ p x a is. absurd (none-some x is);
  listed = start_listed;
  rows = (drawn_all [] tt).rows;
}

pub whole_all : (n : ℕ) → 4096 < n → (J : Past) → IsLegal J → HasNoHalfBase J → IsWhole n J
whole_all n big [] legal begun = nothing_whole n
whole_all n big (entry_is.Start sheets ∷ J) legal begun = calm_whole n J (entry_is.Start sheets ∷ J) (subst (IsWhole n) (sym legal.1.0.0) (nothing_whole n)) (λ key. refl) (λ p x a is asked. is) (λ p. refl) (λ key at. at) (λ t. refl)
whole_all n big (entry_is.Submit nonce request ∷ J) legal begun = submit_whole n nonce request J legal (whole_all n big J legal.0 (no_half J legal.1.0))
whole_all n big (entry_is.Step pid pick out ∷ J) legal begun = step_whole n big pid pick out J legal (whole_all n big J legal.0 (no_half J legal.1.0))
whole_all n big (entry_is.Undo pid row out ∷ J) legal begun = calm_whole n J (entry_is.Undo pid row out ∷ J) (whole_all n big J legal.0 (no_half J legal.1.0)) (λ key. refl) (undo_old pid row out J legal) (λ p. refl) (λ key at. in_with_keys key out.edits (keys_of J) at) (λ t. refl)
whole_all n big (entry_is.Down server ∷ J) legal begun = calm_whole n J (entry_is.Down server ∷ J) (whole_all n big J legal.0 (no_half J legal.1.0)) (λ key. refl) (down_old server J) (λ p. refl) (λ key at. at) (λ t. refl)
whole_all n big (entry_is.Base part ∷ J) legal begun = record {
  whole = λ t. whole_same n (cat (entry_is.Base part ∷ J)) (serial (entry_is.Base part ∷ J)) t (λ id. sym (same (region_key t id))) (ap is_some (sym (same (key_is.Table t)))) (base_whole n big (entry_is.Base part ∷ J) legal (all_parts (entry_is.Base part ∷ J) legal refl) begun t);
  sound = λ p x a is. absurd (none-some x is);
  apart = λ p q x y a b differs is. absurd (none-some x is);
  free = λ p x a is. absurd (none-some x is);
  listed = λ key some. has_key (entry_is.Base part ∷ J) key (λ none. some (sym (same key) ∙ none));
  rows = λ key. subst (IsDrawnAt (DrawnIn (entry_is.Base part ∷ J)) key) (same key) ((drawn_all (entry_is.Base part ∷ J) legal).rows key);
}
  where
    same : (key : CatKey) → cat (entry_is.Base part ∷ J) key ≡ serial (entry_is.Base part ∷ J) key
    same key = catalog_is (entry_is.Base part ∷ J) legal key (λ busy. none-some busy.1 busy.2)
whole_all n big (entry ∷ J) legal begun = calm_whole n J (entry ∷ J) (whole_all n big J legal.0 (no_half J legal.1.0)) (λ key. refl) (λ p x a is asked. is) (λ p. refl) (λ key at. at) (λ t. refl)

-- where no root holds, the catalog has whole tables too
pub rest_whole : (n : ℕ) → 4096 < n → (J : Past) → IsLegal J → HasNoHalfBase J → ((r : ℕ) (x : Node) → TopHolds J r x → ⊥) → (t : TableName) → Whole n (cat J) t
rest_whole n big J legal begun none t =
    let free : (key : CatKey) → IsBusy J key → ⊥ = (λ key busy. let top = holds_root J (grown_all J legal) busy.0 busy.1 busy.2 busy.3 in none busy.1.root top.0 top.1) in
    whole_same n (serial J) (cat J) t (λ id. catalog_is J legal (region_key t id) (free (region_key t id))) (ap is_some (catalog_is J legal (key_is.Table t) (free (key_is.Table t)))) ((whole_all n big J legal begun).whole t)

-- so the live regions of the deeds' catalog never overlap, cover every key, and a table that isn't there has none
pub deeds_keep : DeedsKeepRanges
deeds_keep J legal begun table = at 4097 (omega arith)
  where
    at : (n : ℕ) → 4096 < n → NoneOverlap (serial J) table × (serial J (key_is.Table table) ≢ None → IsCovered (serial J) table) × (serial J (key_is.Table table) ≡ None → IsBare (serial J) table)
    at n big =
        let whole = (whole_all n big J legal begun).whole table in
        (none_overlap n (serial J) table whole, covered n (serial J) table whole, bare_at n (serial J) table whole)
