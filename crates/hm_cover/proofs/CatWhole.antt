-- In every legal journal the catalog has a whole table where no root asks for it alone: the deeds of the roots that go on,
-- where they are done, come on top of those of the roots that ended.
use Rattle.hm_model.specs.Base.{HasNoHalfBase}
use Rattle.std.proofs.Common.{◌≡◌, ◌≢◌, ℕ, zero, suc, ◌+◌, ◌<◌, ◌≤◌, [], ◌∷◌, true, false, is_some, Option, Some, None, refl, ap, sym, ◌∙◌, subst, inl, inr, ◌⊎◌, arith}
use Rattle.std.proofs.lemmas.Bool.{cases_Bool, cases_eq, true≢false}
use Rattle.std.proofs.lemmas.Option.{none-some, same_Some}
use Rattle.hm_names.specs.declared.table.TableName.{TableName}
use Rattle.hm_data.specs.declared.act.Act.TheVariants as act_is
use Rattle.hm_data.specs.declared.args.Args.{Args}
use Rattle.hm_data.specs.declared.args.Args.TheVariants as args_are
use Rattle.hm_data.specs.declared.call.Told.TheVariants as told_is
use Rattle.hm_data.specs.declared.catalog.CatKey.{CatKey}
use Rattle.hm_data.specs.declared.catalog.CatKey.TheVariants as key_is
use Rattle.hm_data.specs.declared.request.Request.{Request}
use Rattle.hm_data.specs.declared.step.StepIn.{StepIn}
use Rattle.hm_model.specs.Acts.{act_answer}
use Rattle.hm_model.specs.Answers.{is_stopped, last_answer, no_row}
use Rattle.hm_model.specs.Catalog.{Catalog, cat, edited, keys_of, was}
use Rattle.hm_model.specs.Changes.{region_key}
use Rattle.hm_model.specs.Deeds.{deed_of}
use Rattle.hm_model.specs.Inputs.{step_input}
use Rattle.hm_model.specs.Journal.{Past}
use Rattle.hm_model.specs.Kinds.{kind_of, table_of_request}
use Rattle.hm_model.specs.Lists.{exact_rows, late}
use Rattle.hm_model.specs.Locks.{IsIn}
use Rattle.hm_model.specs.Phase.{cause}
use Rattle.hm_model.specs.Reads.{covers, guards}
use Rattle.hm_model.specs.Rules.{IsLegal}
use Rattle.hm_model.specs.Serial.{serial}
use Rattle.hm_model.specs.Tree.{Node, made, node_of}
use Rattle.hm_model.specs.Undo.{stack}
use Rattle.hm_model.specs.declared.lock.Resource.TheVariants as resource_is
use Rattle.hm_model.proofs.Grown.{ids_within}
use Rattle.hm_model.proofs.Rows.{has_key}
use Rattle.hm_model.proofs.Trees.{grown_all, is_there}
use Rattle.hm_kinds.proofs.Clause.{Deeds, Sight}
use Rattle.hm_kinds.proofs.Covering.{covers_from}
use Rattle.hm_kinds.proofs.Roots.{Stage, serves}
use Rattle.hm_kinds.proofs.Within.{within_others}
use Rattle.hm_serial.proofs.Apart.{Aside, aside_from}
use Rattle.hm_serial.proofs.FallAll.{falls_all}
use Rattle.hm_serial.proofs.Frame.{cover_guards}
use Rattle.hm_model.proofs.Tops.{TopHolds}
use Rattle.hm_model.proofs.Answered.{running_undone}
use Rattle.hm_model.proofs.KeyTests.{same_table-refl}
use Rattle.hm_serial.proofs.StandAll.{stands_all}
use Rattle.hm_serial.proofs.Stands.{At, Pending}
use Rattle.hm_serial.proofs.StandStep.{touches_rows}
use Rattle.hm_cover.proofs.Deeds.{MayDo, deed_stays}
use Rattle.hm_ids.proofs.DrawnAll.{DrawnIn, drawn_all}
use Rattle.hm_cover.proofs.Going.{goes_all}
use Rattle.hm_cover.proofs.Holding.{holds_or}
use Rattle.hm_cover.proofs.Local.{asks_regions, covers_new, local_free, stage_ready}
use Rattle.hm_cover.proofs.SerialWhole.{asked_ids, whole_all}
use Rattle.hm_cover.proofs.Spared.{is_local, spared, spared_all, wide_covers}
use Rattle.hm_cover.proofs.Whole.{Whole, whole_same}

-- a root that asks for no regions alone covers a region's row with the table's
pub wide_rows : (args : Args) → asks_regions args ≡ false → (t : TableName) (id : ℕ) → covers args (region_key t id) ≡ covers args (key_is.Table t)
wide_rows (args_are.Root request first) h t id = wide_covers request first h t id
wide_rows args h t id = absurd (true≢false h)

module _ (n : ℕ) (big : 4096 < n) (J : Past) (legal : IsLegal J) (begun : HasNoHalfBase J) where
  -- a root that holds, and asks for regions alone
  abbrev Acts : ℕ → Node → Type 0
  Acts r node = TopHolds J r node × (asks_regions node.args ≡ true)

  aside : (r : ℕ) (node : Node) → TopHolds J r node → Aside J r node
  aside r node h =
      let a = falls_all J legal in
      aside_from J r node (λ s x k differs clash. a.apart r s node x h k (λ e. differs (sym e)) clash) a.asked (λ q x top. a.falls.tops q x top) h.0

  -- a catalog to which a root's deed is added, where it is done
  record Adds (node : Node) (there : Catalog) : Type 0 where
    pub next : Catalog
    pub whole : (u : TableName) → Whole n next u
    pub on : (u : TableName) (id : ℕ) → covers node.args (region_key u id) ≡ true → next (region_key u id) ≡ cat J (region_key u id)
    pub off : (key : CatKey) → covers node.args key ≡ false → next key ≡ there key
    pub listed : (key : CatKey) → next key ≢ None → IsIn key (keys_of J)

  module _ (r : ℕ) (node : Node) (acts : Acts r node) (there : Catalog) (whole : (u : TableName) → Whole n there u) (agree : (key : CatKey) → guards node.args key ≡ true → there key ≡ serial J key) (listed : (key : CatKey) → there key ≢ None → IsIn key (keys_of J)) where
    tree : Rattle.hm_serial.proofs.Stands.Tree J r node
    tree = (stands_all J legal).tree r node acts.0

    seen : (key : CatKey) → guards node.args key ≡ true → there key ≡ was J r key
    seen key g = agree key g ∙ tree.base key g

    -- none of its descendants changes a row
    none_pending : (key : CatKey) → Pending J r key → ⊥
    none_pending key p =
        let t = touches_rows p.1.args key p.6 in
        let among = (falls_all J legal).falls.belongs p.0 p.1 p.2 t.0 t.1 node (ap (node_of J) p.3 ∙ acts.0.0.0) in
        true≢false (sym (covers_from node.args (resource_is.Table t.0) (key_is.Table t.0) among (same_table-refl t.0)) ∙ local_free node.args acts.1 t.0)

    -- it stands where it began
    stays : ((u : TableName) (id : ℕ) → covers node.args (region_key u id) ≡ true → cat J (region_key u id) ≡ was J r (region_key u id)) → Adds node there
    stays same = record {
      next = there;
      whole = whole;
      on = λ u id c. seen (region_key u id) (cover_guards node.args (region_key u id) c) ∙ sym (same u id c);
      off = λ key c. refl;
      listed = listed;
    }

    failed_stays : cause J r ≢ None → Adds node there
    failed_stays failed = stays (λ u id c.
        sym (spared node.args (stack J r) (spared_all J legal r node acts.0 (inr (inl failed))) u id (local_free node.args acts.1 u) (cat J (region_key u id)))
        ∙ ((falls_all J legal).falls.tree r node acts.0).0 (inr (inl failed)) (region_key u id) c)

    module _ (runs : is_stopped (last_answer J r) ≡ false) (at : At J r node) where
      now : (key : CatKey) → guards node.args key ≡ true → cat J key ≡ edited at.then key (was J r key)
      now key g = elim (at.now key g) [ inl is ↦ is | inr p ↦ absurd (none_pending key p) ]

      none_stays : at.then ≡ [] → Adds node there
      none_stays none = stays (λ u id c. now (region_key u id) (cover_guards node.args (region_key u id) c) ∙ ap (λ l. edited l (region_key u id) (was J r (region_key u id))) none)

      module _ (request : Request) (first : ℕ) (own : node.args ≡ args_are.Root request first) (local : is_local request ≡ true) (exact : exact_rows (kind_of node.args) ≡ []) (stage : Stage node.args (was J r) (late act_is.Finish ∷ []) at.then) where
        abbrev input : StepIn
        input = step_input J r node None

        sight : Sight node.args (was J r) (cat J) there (keys_of J) at.then (step_input J r node None)
        sight = record { own = refl; rows = refl; now = now; same = seen; listed = λ key some. has_key J key some; based = tree.based }

        does : Deeds node.args (was J r) there (keys_of J) at.then (act_answer act_is.Finish no_row (step_input J r node None))
        does = ((serves node.args exact ((falls_all J legal).falls.tops r node acts.0.0)).steps (was J r) (cat J) there (keys_of J) (late act_is.Finish) [] at.then (step_input J r node None) no_row stage sight refl).ends told_is.Nothing refl

        asked : Rattle.hm_model.specs.Views.asked_of node.args ≡ Some (record { request = request; first = first })
        asked = ap Rattle.hm_model.specs.Views.asked_of own

        covered_new : (u : TableName) → table_of_request request ≡ Some u → (i : ℕ) → first ≤ i → i < first + Rattle.hm_model.specs.Tree.new_ids request → covers node.args (region_key u i) ≡ true
        covered_new u is i low high = ap (λ a. covers a (region_key u i)) own ∙ covers_new request first local u is i low high

        may : MayDo n there (keys_of J) request first
        may = record {
          sound = (whole_all n big J legal begun).sound r node (record { request = request; first = first }) acts.0.0.0 asked;
          free = λ u is i low high. agree (region_key u i) (cover_guards node.args (region_key u i) (covered_new u is i low high)) ∙ (whole_all n big J legal begun).free r node (record { request = request; first = first }) acts.0.0.0 asked (running_undone (last_answer J r) runs) u i (is, low, high);
          low = λ u is i low high. (
              let le = (asked_ids (DrawnIn J) node.args (record { request = request; first = first }) ((drawn_all J legal).args r node acts.0.0.0) asked u i (is, low, high)).1 in
              let few = ids_within J legal u in
              omega (arith, le, few, big));
          listed = listed;
        }

        done : (key : CatKey) → covers node.args key ≡ true → edited does.edits key (there key) ≡ cat J key
        done key c = ap (edited does.edits key) (seen key (cover_guards node.args key c)) ∙ does.same key c ∙ sym (now key (cover_guards node.args key c))

        left : (key : CatKey) → covers node.args key ≡ false → edited does.edits key (there key) ≡ there key
        left key c = within_others node.args does.edits does.within key c (there key)

        ready_adds : Adds node there
        ready_adds = record {
          next = λ key. edited does.edits key (there key);
          whole = deed_stays n there (keys_of J) whole request first may does.edits (ap (λ a. deed_of a (keys_of J) there) (sym own) ∙ does.deed_is);
          on = λ u id c. done (region_key u id) c;
          off = left;
          listed = λ key some. elim (cases_Bool (covers node.args key)) [
            | inl c ↦ has_key J key (λ none. some (done key c ∙ none))
            | inr c ↦ listed key (λ none. some (left key c ∙ none))
          ];
        }

      at_adds : Adds node there
      at_adds = elim at.stands [
        | inr exact ↦ none_stays exact.1
        | inl list ↦ elim (stage_ready node.args acts.1 list.exact (was J r) list.lines at.then list.stage) [
          | inl none ↦ none_stays none
          | inr ready ↦ ready_adds ready.0 ready.1 ready.2 ready.3 ready.4 ready.5
        ]
      ]

    adds : Adds node there
    adds = elim (goes_all J legal r node acts.0) [
      | inr failed ↦ failed_stays failed
      | inl runs ↦ by (cause J r) refl runs
    ]
      where
        by : (o : Option Rattle.hm_data.specs.declared.answer.Cause.Cause) → cause J r ≡ o → is_stopped (last_answer J r) ≡ false → Adds node there
        by None none runs = at_adds runs (tree.stage none runs)
        by (Some c) is runs = failed_stays (λ none. none-some c (sym none ∙ is))

  -- no root among the first ones covers the row
  abbrev Unasked : ℕ → CatKey → Type 0
  Unasked k key = (r : ℕ) (node : Node) → r < k → Acts r node → covers node.args key ≡ false

  -- the deeds, with those of the first roots
  record Reached (k : ℕ) : Type 0 where
    pub there : Catalog
    pub whole : (u : TableName) → Whole n there u
    pub seen : (u : TableName) (id : ℕ) → (there (region_key u id) ≡ cat J (region_key u id)) ⊎ Unasked k (region_key u id)
    pub off : (key : CatKey) → Unasked k key → there key ≡ serial J key
    pub listed : (key : CatKey) → there key ≢ None → IsIn key (keys_of J)

  -- whether a root holds, and asks for regions alone
  acts_or : (r : ℕ) → ((node : Node) × Acts r node) ⊎ ((node : Node) → Acts r node → ⊥)
  acts_or r = elim (holds_or J r) [
    | inr none ↦ inr (λ node acts. none node acts.0)
    | inl is ↦ elim (cases_Bool (asks_regions is.0.args)) [
      | inl own ↦ inl (is.0, (is.1, own))
      | inr wide ↦ inr (λ node acts. true≢false (sym acts.1 ∙ ap (λ (y : Node). asks_regions y.args) (same_Some node is.0 (sym acts.0.0.0 ∙ is.1.0.0)) ∙ wide))
    ]
  ]

  -- with a root more that doesn't hold
  skip : (k : ℕ) → Reached k → ((node : Node) → Acts k node → ⊥) → Reached (suc k)
  skip k reached none = record {
    there = reached.there;
    whole = reached.whole;
    seen = λ u id. elim (reached.seen u id) [ inl is ↦ inl is | inr not_asked ↦ inr (λ r node le acts. elim (cases_eq r k) [ inl same ↦ absurd (none node (subst (λ j. Acts j node) same acts)) | inr differs ↦ not_asked r node (omega (arith, le, differs)) acts ]) ];
    off = λ key not_asked. reached.off key (λ r node le acts. not_asked r node (omega (arith, le)) acts);
    listed = reached.listed;
  }

  -- with one that does
  with_root : (k : ℕ) (reached : Reached k) (node : Node) → Acts k node → Reached (suc k)
  with_root k reached node acts = record {
    there = more.next;
    whole = more.whole;
    seen = λ u id. elim (cases_Bool (covers node.args (region_key u id))) [
      | inl c ↦ inl (more.on u id c)
      | inr c ↦ elim (reached.seen u id) [
        | inl is ↦ inl (more.off (region_key u id) c ∙ is)
        | inr not_asked ↦ inr (λ r x le other. elim (cases_eq r k) [
          | inl same ↦ ap (λ (y : Node). covers y.args (region_key u id)) (same_Some x node (sym other.0.0.0 ∙ ap (node_of J) same ∙ acts.0.0.0)) ∙ c
          | inr differs ↦ not_asked r x (omega (arith, le, differs)) other
        ])
      ]
    ];
    off = λ key not_asked. more.off key (not_asked k node (omega arith) acts) ∙ reached.off key (λ r x le other. not_asked r x (omega (arith, le)) other);
    listed = more.listed;
  }
    where
      agree : (key : CatKey) → guards node.args key ≡ true → reached.there key ≡ serial J key
      agree key g = reached.off key (λ r x le other. (aside k node acts.0 r x other.0 (λ e. omega (arith, le, e)) key).1 g)

      more : Adds node reached.there
      more = adds k node acts reached.there reached.whole agree reached.listed

  reach : (k : ℕ) → Reached k
  reach zero = record {
    there = serial J;
    whole = (whole_all n big J legal begun).whole;
    seen = λ u id. inr (none_first (region_key u id));
    off = λ key not_asked. refl;
    listed = (whole_all n big J legal begun).listed;
  }
    where
      none_first : (key : CatKey) → Unasked 0 key
      none_first key r node lt acts = absurd (omega (arith, lt))
  reach (suc k) = elim (acts_or k) [
    | inl is ↦ with_root k (reach k) is.0 is.1
    | inr none ↦ skip k (reach k) none
  ]

  -- the catalog of now has a whole table, where no root asks for the table alone
  pub cat_whole : (t : TableName) → ((r : ℕ) (node : Node) → TopHolds J r node → covers node.args (key_is.Table t) ≡ false) → Whole n (cat J) t
  cat_whole t free =
      let reached = reach (made J + 1) in
      whole_same n reached.there (cat J) t (λ id. row_is id) (ap is_some table_is) (reached.whole t)
    where
      row_free : (id : ℕ) → Unasked (made J + 1) (region_key t id) → (r : ℕ) (node : Node) → TopHolds J r node → covers node.args (region_key t id) ≡ false
      row_free id not_asked r node h = elim (cases_Bool (asks_regions node.args)) [
        | inl own ↦ not_asked r node (let le = is_there J (grown_all J legal) r node h.0.0 in omega (arith, le)) (h, own)
        | inr wide ↦ wide_rows node.args wide t id ∙ free r node h
      ]

      row_is : (id : ℕ) → cat J (region_key t id) ≡ (reach (made J + 1)).there (region_key t id)
      row_is id = elim ((reach (made J + 1)).seen t id) [
        | inl is ↦ sym is
        | inr not_asked ↦ (stands_all J legal).settled (region_key t id) (row_free id not_asked) ∙ sym ((reach (made J + 1)).off (region_key t id) not_asked)
      ]

      table_is : cat J (key_is.Table t) ≡ (reach (made J + 1)).there (key_is.Table t)
      table_is = (stands_all J legal).settled (key_is.Table t) free ∙ sym ((reach (made J + 1)).off (key_is.Table t) (λ r node le acts. free r node acts.0))
