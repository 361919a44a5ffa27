-- The rows that a transit reads stay as they are while it goes on.
use Rattle.hm_model.proofs.Parted.{no_node}
use Rattle.std.proofs.Common.{◌≡◌, ◌≢◌, ℕ, not, ◌&&◌, List, [], ◌∷◌, true, false, Option, Some, None, is_some, refl, ap, sym, ◌∙◌, subst, inl, inr, ◌⊎◌}
use Rattle.std.proofs.lemmas.Bool.{and_parts, cases_Bool, cases_eq, true≢false}
use Rattle.std.proofs.lemmas.Option.{none-some, same_Some}
use Rattle.hm_names.specs.Region.{Region}
use Rattle.hm_names.specs.Server.{Server}
use Rattle.hm_names.specs.declared.pid.Pid.{Pid}
use Rattle.hm_names.specs.declared.table.TableName.{TableName}
use Rattle.hm_data.specs.declared.answer.Answer.{Answer}
use Rattle.hm_data.specs.declared.args.Args.{Args}
use Rattle.hm_data.specs.declared.args.Args.TheVariants as args_are
use Rattle.hm_data.specs.declared.catalog.CatKey.{CatKey}
use Rattle.hm_data.specs.declared.catalog.CatKey.TheVariants as key_is
use Rattle.hm_data.specs.declared.entry.Entry.{Entry}
use Rattle.hm_data.specs.declared.entry.Entry.TheVariants as entry_is
use Rattle.hm_data.specs.declared.request.Request.{Request}
use Rattle.hm_data.specs.declared.step.StepOut.{StepOut}
use Rattle.hm_model.specs.Answers.{last_answer}
use Rattle.hm_model.specs.Catalog.{cat, edited}
use Rattle.hm_model.specs.Holding.{InConflict}
use Rattle.hm_model.specs.Journal.{Past}
use Rattle.hm_model.specs.Kinds.{request_kind}
use Rattle.hm_model.specs.Lists.{exact_rows}
use Rattle.hm_model.specs.Phase.{all_stopped, cause}
use Rattle.hm_model.specs.Reads.{covers, reads}
use Rattle.hm_model.specs.Rules.{IsLegal}
use Rattle.hm_model.specs.TransitActs.{may_open}
use Rattle.hm_model.specs.Tree.{Node, is_top, node_of, root_of}
use Rattle.hm_model.specs.Undo.{is_empty, stack}
use Rattle.hm_model.specs.Whereabouts.{moved_by}
use Rattle.hm_model.proofs.Free.{step_free}
use Rattle.hm_model.proofs.LegalSteps.{StepFacts, ready_stops}
use Rattle.hm_model.proofs.Running.{calm_stopped}
use Rattle.hm_model.proofs.Tops.{TopHolds, TopIs}
use Rattle.hm_model.proofs.Trees.{Grown, grown_all}
use Rattle.hm_model.proofs.Small.{cons_nil}
use Rattle.hm_kinds.proofs.Covering.{rows_table}
use Rattle.hm_serial.proofs.Apart.{Aside}
use Rattle.hm_serial.proofs.FallAll.{All, falls_all, step_aside, top as undone_top, u, undo_holds, undo_within}
use Rattle.hm_serial.proofs.Fallen.{MayFall, root_of_node, some_cons}
use Rattle.hm_serial.proofs.FallStep.{kid_or_root, other_last, own_begun, own_root, within_now}
use Rattle.hm_serial.proofs.Kinship.{may_fail}
use Rattle.hm_serial.proofs.Local.{within_others}
use Rattle.hm_serial.proofs.Standing.{quiet_tree, step_open}
use Rattle.hm_single.specs.Calls.{Moves}
use Rattle.hm_single.proofs.All.{kept_all}
use Rattle.hm_single.proofs.Kept.{IsGoing, IsMove}
use Rattle.hm_single.proofs.InWay.{held, in_way, left_alone}
use Rattle.hm_single.proofs.Kin.{going_runs}
use Rattle.hm_single.proofs.Lines.{fills, is_creating, is_deleting, rests}
use Rattle.hm_single.proofs.Live.{creating_fills, deleting_rests, top_asks}
use Rattle.hm_single.proofs.Own.{does, step}
use Rattle.hm_single.proofs.Placing.{reads_own}
use Rattle.hm_single.proofs.Tidies.{kid_editless, tidy_all}
use Rattle.hm_single.proofs.Tidy.{Tidy}

-- a step
module _ (pid : Pid) (pick : Option Server) (out : StepOut) (J : Past) (legal : IsLegal (entry_is.Step pid pick out ∷ J)) (q : ℕ) (region : Region) (m : Moves J q region) (going : IsGoing (last_answer J q)) where
  abbrev J' : Past
  J' = entry_is.Step pid pick out ∷ J

  abbrev its : StepFacts J pid.0 pick out
  its = step pid pick out J legal

  abbrev grown : Grown J
  grown = grown_all J legal.0

  abbrev all : All J
  all = falls_all J legal.0

  abbrev aside : Aside J its.node.root (root_of_node J grown pid.0 its.node its.node_is).0
  aside = step_aside pid pick out J legal all

  abbrev top : (y : Node) × TopIs J its.node.root y
  top = own_root pid pick out J grown all.falls its (does pid pick out J legal) aside

  -- that of another tree
  other_off : its.node.root ≢ m.0.root → (key : CatKey) → reads m.0.args key ≡ true → covers top.0.args key ≡ false
  other_off other key reading = elim (cases_Bool (covers top.0.args key)) [
    | inr off ↦ off
    | inl on ↦ by (last_answer J its.node.root) refl on
  ]
    where
      way : covers top.0.args key ≡ true → InConflict J its.node.root q
      way on = in_way J legal.0 q region m going its.node.root top.0 top.1 other key reading on

      by : (o : Option Answer) → last_answer J its.node.root ≡ o → covers top.0.args key ≡ true → covers top.0.args key ≡ false
      by (Some a) some on =
          let holds : TopHolds J its.node.root top.0 = (top.1, (λ none. none-some a (sym none ∙ some)), step_open pid pick out J grown its (does pid pick out J legal)) in
          left_alone J legal.0 q region m going its.node.root top.0 holds other key reading
      by None none on = elim (kid_or_root pid pick out J grown all.falls its (does pid pick out J legal) aside) [
        | inr kid ↦ absurd (own_begun pid pick out J grown all.falls its (does pid pick out J legal) aside (other_last pid pick out J grown all.falls its (does pid pick out J legal) aside kid ∙ none))
        | inl e ↦ absurd (step_free pid pick out J legal q (held J legal.0 q region m going) (subst (λ k. InConflict J k q) (grown.tops pid.0 its.node its.node_is e) (way on)))
      ]

  -- that of the same tree: where it lists rows nobody there moves a region
  module _ (mine : its.node.root ≡ m.0.root) (t : TableName) (rows : rows_table its.node.args ≡ Some t) (kid : its.node.above ≢ []) where
    lone : (request : Request) × (first : ℕ) × (top.0.args ≡ args_are.Root request first) × (exact_rows (request_kind request) ≡ [])
    lone = top_asks top.0.args t (all.falls.belongs pid.0 its.node its.node_is t rows top.0 top.1.0)

    tidy : Tidy J its.node.root top.0 lone.0
    tidy = tidy_all J legal.0 its.node.root top.0 lone.0 lone.1 top.1 lone.2 lone.3

    none_moves : (h : fills lone.0 ≡ true) → MayFall J its.node.root top.0 ⊎ (rests lone.0 ≡ true) → ⊥
    none_moves h falls = tidy.still h falls q m.0 region (m.1, sym mine, m.2)

    rows_none : (a : Args) → its.node.args ≡ a → ⊥
    rows_none (args_are.AddRegions table from bounds) e = none_moves (creating_fills lone.0 lone.1 (ap is_creating (sym lone.2) ∙ tidy.adds pid.0 its.node its.node_is refl table from bounds e))
        (inl (all.falls.safe pid.0 its.node its.node_is kid (ready_stops J pid.0 its.node (last_answer J pid.0) its.ready) (ap may_fail e) top.0 top.1.0))
    rows_none (args_are.DropRegions table ids) e = (let d = deleting_rests lone.0 lone.1 (ap is_deleting (sym lone.2) ∙ tidy.drops pid.0 its.node its.node_is refl table ids e) in none_moves d.0 (inr d.1))
    rows_none args e = none-some t (sym (ap rows_table e) ∙ rows)

  same_editless : its.node.root ≡ m.0.root → out.edits ≡ []
  same_editless mine = elim (kid_or_root pid pick out J grown all.falls its (does pid pick out J legal) aside) [
    | inr kid ↦ kid_by kid (rows_table its.node.args) refl
    | inl e ↦ root_by (grown.tops pid.0 its.node its.node_is e) m.0.above refl
  ]
    where
      kid_by : its.node.above ≢ [] → (o : Option TableName) → rows_table its.node.args ≡ o → out.edits ≡ []
      kid_by kid None none = kid_editless pid pick out J legal kid none
      kid_by kid (Some t) some = absurd (rows_none mine t some kid its.node.args refl)

      root_by : its.node.root ≡ pid.0 → (above : List ℕ) → m.0.above ≡ above → out.edits ≡ []
      root_by me [] e =
          let same : q ≡ pid.0 = sym (grown.tops q m.0 m.1 e) ∙ sym mine ∙ me in
          let one : m.0 ≡ its.node = same_Some m.0 its.node (sym m.1 ∙ ap (node_of J) same ∙ its.node_is) in
          (does pid pick out J legal).editless region (ap (λ (n : Node). moved_by n.args) (sym one) ∙ m.2)
      root_by me (up ∷ rest) e =
          absurd (true≢false (sym (quiet_tree J grown pid.0 its.node its.ready q m.0 m.1 (sym mine ∙ me) (λ nil. some_cons up rest (sym e ∙ nil))) ∙ going_runs J (grown_all J legal.0) (kept_all J legal.0) (last_answer J q) going))

  step_steady : (key : CatKey) → reads m.0.args key ≡ true → cat (entry_is.Step pid pick out ∷ J) key ≡ cat J key
  step_steady key reading = elim (cases_eq its.node.root m.0.root) [
    | inr other ↦ within_others top.0.args out.edits (within_now pid pick out J grown all.falls its (does pid pick out J legal) aside) key (other_off other key reading) (cat J key)
    | inl mine ↦ ap (λ l. edited l key (cat J key)) (same_editless mine)
  ]

-- an undo
module _ (pid : Pid) (row : ℕ) (out : StepOut) (J : Past) (legal : IsLegal (entry_is.Undo pid row out ∷ J)) (q : ℕ) (region : Region) (m : Moves J q region) (going : IsGoing (last_answer J q)) where
  abbrev its_grown : Grown J
  its_grown = grown_all J legal.0

  abbrev its_all : All J
  its_all = falls_all J legal.0

  abbrev root : Node
  root = undone_top pid row out J legal its_grown its_all.falls

  stopped_now : all_stopped J (root_of J pid.0) ≡ true
  stopped_now =
      let latest = legal.1.1.0 in
      let one = and_parts (is_top latest.0.above) (is_some (cause J (root_of J pid.0)) && (all_stopped J (root_of J pid.0) && not (is_empty (stack J (root_of J pid.0))))) latest.2 in
      let two = and_parts (is_some (cause J (root_of J pid.0))) (all_stopped J (root_of J pid.0) && not (is_empty (stack J (root_of J pid.0)))) one.1 in
      (and_parts (all_stopped J (root_of J pid.0)) (not (is_empty (stack J (root_of J pid.0)))) two.1).0

  -- of its own tree it goes on no more
  other_tree : root_of J pid.0 ≢ m.0.root
  other_tree mine = elim (cases_eq q (root_of J pid.0)) [
    | inr differs ↦ true≢false (sym (calm_stopped J legal.0 (root_of J pid.0) q m.0 m.1 (sym mine) differs stopped_now) ∙ going_runs J (grown_all J legal.0) (kept_all J legal.0) (last_answer J q) going)
    | inl same ↦
        let undone = u pid row out J legal its_grown its_all.falls in
        let one : m.0 ≡ root = same_Some m.0 root (sym m.1 ∙ ap (node_of J) same ∙ (undo_holds pid row out J legal its_grown its_all.falls).0.0) in
        let move : IsMove J q = record { node = m.0; node_is = m.1; region = region; moved = m.2; top = ap (λ (n : Node). n.above) one ∙ (undo_holds pid row out J legal its_grown its_all.falls).0.1 } in
        cons_nil undone.latest undone.below (sym undone.stack_is ∙ ap (stack J) (sym same) ∙ (kept_all J legal.0).stacks q move)
  ]

  undo_steady : (key : CatKey) → reads m.0.args key ≡ true → cat (entry_is.Undo pid row out ∷ J) key ≡ cat J key
  undo_steady key reading = within_others root.args out.edits (undo_within pid row out J legal its_grown its_all.falls) key
      (left_alone J legal.0 q region m going (root_of J pid.0) root (undo_holds pid row out J legal its_grown its_all.falls) other_tree key reading) (cat J key)

-- so it is after every entry
pub steady : (entry : Entry) (J : Past) → IsLegal (entry ∷ J) → (q : ℕ) (region : Region) (m : Moves J q region) → IsGoing (last_answer J q) → (key : CatKey) → reads m.0.args key ≡ true → cat (entry ∷ J) key ≡ cat J key
steady (entry_is.Step pid pick out) J legal q region m going key reading = step_steady pid pick out J legal q region m going key reading
steady (entry_is.Undo pid row out) J legal q region m going key reading = undo_steady pid row out J legal q region m going key reading
steady (entry_is.Base part) J legal q region m going key reading = absurd (none-some m.0 (sym (no_node part J legal.1.0 q) ∙ m.1))
steady entry J legal q region m going key reading = refl

-- so where its region may be opened, it may be still
pub may_stay : (entry : Entry) (J : Past) → IsLegal (entry ∷ J) → (q : ℕ) (region : Region) → Moves J q region → IsGoing (last_answer J q)
    → may_open (cat J (key_is.Table region.table)) (cat J (key_is.Region region)) ≡ true → may_open (cat (entry ∷ J) (key_is.Table region.table)) (cat (entry ∷ J) (key_is.Region region)) ≡ true
may_stay entry J legal q region m going may =
    let on = reads_own m.0.args region m.2 in
    ap (λ o. may_open o (cat (entry ∷ J) (key_is.Region region))) (steady entry J legal q region m going (key_is.Table region.table) on.0)
    ∙ ap (may_open (cat J (key_is.Table region.table))) (steady entry J legal q region m going (key_is.Region region) on.1) ∙ may
