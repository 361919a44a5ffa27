-- While a root that found its table without open regions goes on and opens none, none of the table's regions has a place.
use Rattle.std.proofs.Common.{◌≡◌, ℕ, ◌+◌, ◌==◌, ◌||◌, not, List, [], ◌∷◌, true, false, Option, Some, None, is_some, refl, ap, sym, ◌∙◌, subst, inl, inr, ◌⊎◌}
use Rattle.std.proofs.lemmas.Bool.{and_from, cases_Bool, cases_eq, false≢true, not_from_false, or_left, or_right, ne_eqb, true≢false}
use Rattle.std.proofs.lemmas.Option.{none-some, same_Some}
use Rattle.hm_names.specs.Region.{Region}
use Rattle.hm_names.specs.Server.{Server}
use Rattle.hm_names.specs.declared.pid.Pid.{Pid}
use Rattle.hm_names.specs.declared.table.TableName.{TableName}
use Rattle.hm_data.specs.declared.act.Act.{Act}
use Rattle.hm_data.specs.declared.act.Act.TheVariants as act_is
use Rattle.hm_data.specs.declared.act.Back.{Back}
use Rattle.hm_data.specs.declared.act.Back.TheVariants as back_is
use Rattle.hm_data.specs.declared.answer.Answer.{Answer}
use Rattle.hm_data.specs.declared.answer.Answer.TheVariants as answer_is
use Rattle.hm_data.specs.declared.answer.Cause.{Cause}
use Rattle.hm_data.specs.declared.answer.Cause.TheVariants as cause_is
use Rattle.hm_data.specs.declared.args.Args.TheVariants as args_are
use Rattle.hm_data.specs.declared.catalog.CatKey.TheVariants as key_is
use Rattle.hm_data.specs.declared.catalog.CatRow.{CatRow}
use Rattle.hm_data.specs.declared.catalog.Edit.{Edit}
use Rattle.hm_data.specs.declared.entry.Entry.TheVariants as entry_is
use Rattle.hm_data.specs.declared.request.Request.{Request}
use Rattle.hm_data.specs.declared.request.Request.TheVariants as request_is
use Rattle.hm_data.specs.declared.step.StepOut.{StepOut}
use Rattle.hm_model.specs.Acts.{act_answer}
use Rattle.hm_model.specs.Answers.{done_with, failing, is_stopped, last_answer}
use Rattle.hm_model.specs.Catalog.{cat, row_at}
use Rattle.hm_model.specs.Checks.{namespace_there, table_absent, table_disabled, table_free}
use Rattle.hm_model.specs.Inputs.{step_input}
use Rattle.hm_model.specs.Journal.{Past}
use Rattle.hm_model.specs.Keys.{same_table}
use Rattle.hm_model.specs.Kinds.{kind_of, request_kind}
use Rattle.hm_model.specs.Lists.{exact_rows, lines_of, Line}
use Rattle.hm_model.specs.NamespaceActs.{check_table_disabled, check_table_free}
use Rattle.hm_model.specs.Outs.{checked}
use Rattle.hm_model.specs.Phase.{cause, or_else, root_ended, root_over, rolled_back, all_stopped, stopped_in, in_tree}
use Rattle.hm_model.specs.Places.{place_of, placed_by, region_if}
use Rattle.hm_model.specs.Reads.{covers, reads}
use Rattle.hm_model.specs.Rules.{IsLegal}
use Rattle.hm_model.specs.TransitActs.{is_placed}
use Rattle.hm_model.specs.Tree.{Node, made, node_of, root_in}
use Rattle.hm_model.specs.Undo.{is_empty, pushed, row_if_there, stack}
use Rattle.hm_model.specs.Whereabouts.{moved_by}
use Rattle.hm_model.proofs.ExactRows.{begin_alike, first_act}
use Rattle.hm_model.proofs.KeyTests.{same_table-is, same_table-refl}
use Rattle.hm_model.proofs.Rows.{row_read}
use Rattle.hm_model.proofs.Trees.{Grown, IsWaiting, all_below_from, answer_now, grown_all}
use Rattle.hm_serial.proofs.Apart.{Aside, step_top}
use Rattle.hm_serial.proofs.FallAll.{All, falls_all, step_aside}
use Rattle.hm_serial.proofs.Fallen.{MayFall, may_on, root_of_node}
use Rattle.hm_serial.proofs.FallStep.{kid_or_root, other_last}
use Rattle.hm_model.proofs.Tops.{TopHolds, TopIs}
use Rattle.hm_model.proofs.Answered.{or_none}
use Rattle.hm_serial.proofs.Standing.{holds_left, live_child, step_left, step_open}
use Rattle.hm_cover.proofs.Spared.{cause_now}
use Rattle.hm_single.proofs.Lines.{disabled_off, fills, is_on, rests}
use Rattle.hm_single.proofs.Own.{cut_or, does, own, step}
use Rattle.hm_single.proofs.Tidies.{tidy_all}
use Rattle.hm_single.proofs.Tidy.{may_back, stack_now, stays}
use Rattle.hm_single.proofs.Unassigned.{held_stay}
use Rattle.hm_kinds.proofs.Exact.{unfailed}
use Rattle.std.proofs.Math.Bool.{or-false}

-- the table of each region with a place is there, and not disabled
abbrev pub AllOn : Past → Type 0
AllOn J = (region : Region) → is_placed (place_of J region) ≡ true → is_on (cat J (key_is.Table region.table)) ≡ true

-- no region has a place of a table whose root opens none
abbrev pub AllCalm : Past → Type 0
AllCalm J =
    (r : ℕ) (node : Node) (request : Request) (first : ℕ) → TopHolds J r node → node.args ≡ args_are.Root request first → fills request ≡ true → MayFall J r node ⊎ (rests request ≡ true)
    → (region : Region) → covers node.args (key_is.Table region.table) ≡ true → is_placed (place_of J region) ≡ false

pub fills_listed : (request : Request) → fills request ≡ true → exact_rows (request_kind request) ≡ []
fills_listed (request_is.CreateTable table keys) h = refl
fills_listed (request_is.DeleteTable table) h = refl
fills_listed (request_is.EnableTable table) h = refl
fills_listed (request_is.ModifyTable table version) h = refl
fills_listed request h = absurd (false≢true h)

pub fills_regions : (request : Request) (first : ℕ) → fills request ≡ true → (region : Region) → covers (args_are.Root request first) (key_is.Region region) ≡ covers (args_are.Root request first) (key_is.Table region.table)
fills_regions (request_is.CreateTable table keys) first h region = refl
fills_regions (request_is.DeleteTable table) first h region = refl
fills_regions (request_is.EnableTable table) first h region = refl
fills_regions (request_is.ModifyTable table version) first h region = refl
fills_regions request first h region = absurd (false≢true h)

absent_off : (row : Option CatRow) → table_absent row ≡ None → is_on row ≡ false
absent_off None e = refl
absent_off (Some row) e = absurd (none-some cause_is.TableExists (sym e))

no_push : (undo : Back) (p row : ℕ) (edits : List Edit) → pushed undo true p row edits [] ≡ []
no_push back_is.Nothing p row edits = refl
no_push undo p row edits = refl

failed_rests : (answer : Answer) (c : Cause) → failing answer ≡ Some c → IsWaiting (Some answer) → ⊥
failed_rests (answer_is.Wait n) c e w = none-some c e
failed_rests answer c e w = w

module _ (pid : Pid) (pick : Option Server) (out : StepOut) (J : Past) (legal : IsLegal (entry_is.Step pid pick out ∷ J)) where
  abbrev J' : Past
  J' = entry_is.Step pid pick out ∷ J

  abbrev its : Rattle.hm_model.proofs.LegalSteps.StepFacts J pid.0 pick out
  its = step pid pick out J legal

  abbrev grown : Grown J
  grown = grown_all J legal.0

  abbrev all : All J
  all = falls_all J legal.0

  abbrev aside : Aside J its.node.root (root_of_node J grown pid.0 its.node its.node_is).0
  aside = step_aside pid pick out J legal all

  -- who is no transit changes no place
  pub place_still : (region : Region) → moved_by its.node.args ≡ None → place_of J' region ≡ place_of J region
  place_still region none = ap (λ o. placed_by region (region_if (node_of J pid.0)) o (place_of J region)) ((does pid pick out J legal).unplaced none)

  -- a root whose first step fails has ended
  module _ (top : its.node.above ≡ []) (unbegun : last_answer J pid.0 ≡ None) (c : Cause) (fails_so : failing out.answer ≡ Some c) where
    me : its.node.root ≡ pid.0
    me = grown.tops pid.0 its.node its.node_is top

    cause_is_it : cause J' its.node.root ≡ Some c
    cause_is_it = cause_now pid pick out J grown all.falls its (does pid pick out J legal) aside
        ∙ ap (λ o. or_else o (failing out.answer)) (ap (cause J) me ∙ ((all.falls.fresh pid.0 its.node (its.node_is, top) unbegun).1)) ∙ ap (or_else None) fails_so

    stack_none : stack J' its.node.root ≡ []
    stack_none = stack_now pid pick out J legal
        ∙ ap (λ l. pushed its.row.undo (is_some (failing out.answer)) pid.0 (row_if_there J pid.0 (node_of J pid.0)) out.edits l) (ap (stack J) me ∙ (all.falls.fresh pid.0 its.node (its.node_is, top) unbegun).0)
        ∙ ap (λ b. pushed its.row.undo (is_some b) pid.0 (row_if_there J pid.0 (node_of J pid.0)) out.edits []) fails_so ∙ no_push its.row.undo pid.0 (row_if_there J pid.0 (node_of J pid.0)) out.edits

    stopped_all : all_stopped J' its.node.root ≡ true
    stopped_all = all_below_from (made J' + 1) (stopped_in J' its.node.root) (λ q lt. by q (node_of J' q) refl)
      where
        by : (q : ℕ) (o : Option Node) → node_of J' q ≡ o → stopped_in J' its.node.root q ≡ true
        by q None none = or_left (not (in_tree its.node.root (node_of J' q))) _ (not_from_false _ (ap (in_tree its.node.root) none))
        by q (Some x) is = elim (cases_eq x.root its.node.root) [
          | inr off ↦ or_left (not (in_tree its.node.root (node_of J' q))) _ (not_from_false _ (ap (in_tree its.node.root) is ∙ ne_eqb x.root its.node.root off))
          | inl of ↦ or_right (not (in_tree its.node.root (node_of J' q))) _ (elim (cases_Bool (is_stopped (last_answer J' q))) [
            | inl on ↦ or_right (q == its.node.root) _ on
            | inr runs ↦ by_above x.above refl of runs
          ])
        ]
          where
            by_above : (above : List ℕ) → x.above ≡ above → x.root ≡ its.node.root → is_stopped (last_answer J' q) ≡ false → ((q == its.node.root) || is_stopped (last_answer J' q)) ≡ true
            by_above [] e of runs = or_left (q == its.node.root) _ (Rattle.std.proofs.lemmas.Bool.eq-eqb q its.node.root (sym ((grown_all J' legal).tops q x is e) ∙ of))
            by_above (u ∷ rest) e of runs =
                let l = live_child J' (grown_all J' legal) x.above q x is refl (λ none. Rattle.hm_serial.proofs.Fallen.some_cons u rest (sym e ∙ none)) runs in
                absurd (failed_rests out.answer c fails_so (subst IsWaiting (ap (last_answer J') (of ∙ me) ∙ answer_now pid pick out J) l.5))

    pub first_fails : root_ended J' its.node.root ≡ true
    first_fails = ap (λ k. root_over k (rolled_back J' its.node.root) (done_with (last_answer J' its.node.root))) cause_is_it ∙ and_from (all_stopped J' its.node.root) (is_empty (stack J' its.node.root)) stopped_all (ap is_empty stack_none)

  -- a root's first step that goes on found the table without open regions
  module _ (top : its.node.above ≡ []) (unbegun : last_answer J pid.0 ≡ None) (request : Request) (first : ℕ) (args_is : its.node.args ≡ args_are.Root request first) (fine : failing out.answer ≡ None) where
    exact : fills request ≡ true → exact_rows (kind_of its.node.args) ≡ []
    exact h = ap (λ a. exact_rows (kind_of a)) args_is ∙ fills_listed request h

    acts : out ≡ act_answer its.row.act its.row.next (step_input J pid.0 its.node pick)
    acts = elim (cut_or pid pick out J legal) [ inr is ↦ is | inl cut ↦ absurd (none-some cause_is.Aborted (sym fine ∙ ap (λ (o : StepOut). failing o.answer) cut)) ]

    abbrev act_of : Act → List Line → Type 0
    act_of act [] = ⊥
    act_of act (line ∷ lines) = act ≡ line.act

    begins_with : (act : Act) (lines : List Line) → Some act ≡ first_act lines → act_of act lines
    begins_with act [] is = absurd (none-some act (sym is))
    begins_with act (line ∷ lines) is = same_Some act line.act is

    act_begins : (h : fills request ≡ true) → act_of its.row.act (lines_of (request_kind request))
    act_begins h =
        let mine = own pid pick out J legal top (exact h) in
        begins_with its.row.act (lines_of (request_kind request))
        (ap Some mine.act_is ∙ begin_alike (kind_of its.node.args) (mine.line ∷ mine.behind) (mine.fresh unbegun).1 ∙ ap (λ a. first_act (lines_of (kind_of a))) args_is)

    disabled : (u : TableName) → reads its.node.args (key_is.Table u) ≡ true → out ≡ checked its.row.next (table_disabled (row_at (step_input J pid.0 its.node pick).rows (key_is.Table u))) → is_on (cat J (key_is.Table u)) ≡ false
    disabled u reading is = disabled_off (cat J (key_is.Table u)) (ap table_disabled (sym (row_read J its.node.args (key_is.Table u) reading)) ∙ unfailed its.row.next _ (ap (λ (o : StepOut). failing o.answer) (sym is) ∙ fine))

    reads_it : (u : TableName) → reads (args_are.Root request first) (key_is.Table u) ≡ true → reads its.node.args (key_is.Table u) ≡ true
    reads_it u h = ap (λ a. reads a (key_is.Table u)) args_is ∙ h

    at_act : (act : Act) → its.row.act ≡ act → out ≡ act_answer act its.row.next (step_input J pid.0 its.node pick)
    at_act act e = acts ∙ ap (λ a. act_answer a its.row.next (step_input J pid.0 its.node pick)) e

    pub found_off : fills request ≡ true → (t : TableName) → covers its.node.args (key_is.Table t) ≡ true → is_on (cat J (key_is.Table t)) ≡ false
    found_off h t c = by request refl h
      where
        off : (u : TableName) → u ≡ t → is_on (cat J (key_is.Table u)) ≡ false → is_on (cat J (key_is.Table t)) ≡ false
        off u e is = ap (λ x. is_on (cat J (key_is.Table x))) (sym e) ∙ is

        covered : (q : Request) → request ≡ q → covers (args_are.Root q first) (key_is.Table t) ≡ true
        covered q e = ap (λ x. covers (args_are.Root x first) (key_is.Table t)) (sym e) ∙ ap (λ a. covers a (key_is.Table t)) (sym args_is) ∙ c

        own_args : (q : Request) → request ≡ q → its.node.args ≡ args_are.Root q first
        own_args q e = args_is ∙ ap (λ x. args_are.Root x first) e

        act_first : (q : Request) → request ≡ q → act_of its.row.act (lines_of (request_kind q))
        act_first q e = subst (λ x. act_of its.row.act (lines_of (request_kind x))) e (act_begins h)

        by : (q : Request) → request ≡ q → fills q ≡ true → is_on (cat J (key_is.Table t)) ≡ false
        by (request_is.CreateTable u keys) e hq =
            let args = own_args (request_is.CreateTable u keys) e in
            let is : out ≡ checked its.row.next (table_free (row_at (step_input J pid.0 its.node pick).rows (key_is.Ns u.ns)) (row_at (step_input J pid.0 its.node pick).rows (key_is.Table u))) =
            at_act act_is.CheckTableFree (act_first (request_is.CreateTable u keys) e) ∙ ap (λ a. check_table_free its.row.next a (step_input J pid.0 its.node pick).rows) args in
            let none = unfailed its.row.next _ (ap (λ (o : StepOut). failing o.answer) (sym is) ∙ fine) in
            let reading : reads its.node.args (key_is.Table u) ≡ true = ap (λ a. reads a (key_is.Table u)) args ∙ same_table-refl u in
            off u (same_table-is u t (sym (or-false (same_table u t)) ∙ covered (request_is.CreateTable u keys) e))
            (absent_off (cat J (key_is.Table u)) (ap table_absent (sym (row_read J its.node.args (key_is.Table u) reading)) ∙ (or_none (namespace_there (row_at (step_input J pid.0 its.node pick).rows (key_is.Ns u.ns))) (table_absent (row_at (step_input J pid.0 its.node pick).rows (key_is.Table u))) none).1))
        by (request_is.DeleteTable u) e hq =
            let args = own_args (request_is.DeleteTable u) e in
            off u (same_table-is u t (sym (or-false (same_table u t)) ∙ covered (request_is.DeleteTable u) e))
            (disabled u (ap (λ a. reads a (key_is.Table u)) args ∙ same_table-refl u) (at_act act_is.CheckTableDisabled (act_first (request_is.DeleteTable u) e) ∙ ap (λ a. check_table_disabled its.row.next a (step_input J pid.0 its.node pick).rows) args))
        by (request_is.EnableTable u) e hq =
            let args = own_args (request_is.EnableTable u) e in
            off u (same_table-is u t (sym (or-false (same_table u t)) ∙ covered (request_is.EnableTable u) e))
            (disabled u (ap (λ a. reads a (key_is.Table u)) args ∙ same_table-refl u) (at_act act_is.CheckTableDisabled (act_first (request_is.EnableTable u) e) ∙ ap (λ a. check_table_disabled its.row.next a (step_input J pid.0 its.node pick).rows) args))
        by (request_is.ModifyTable u version) e hq =
            let args = own_args (request_is.ModifyTable u version) e in
            off u (same_table-is u t (sym (or-false (same_table u t)) ∙ covered (request_is.ModifyTable u version) e))
            (disabled u (ap (λ a. reads a (key_is.Table u)) args ∙ same_table-refl u) (at_act act_is.CheckTableDisabled (act_first (request_is.ModifyTable u version) e) ∙ ap (λ a. check_table_disabled its.row.next a (step_input J pid.0 its.node pick).rows) args))
        by q e hq = absurd (false≢true hq)

  module _ (on : AllOn J) (before : AllCalm J) where
    -- the root of the stepping tree
    own_calm : (node : Node) (request : Request) (first : ℕ) → TopIs J its.node.root node → TopHolds J' its.node.root node → node.args ≡ args_are.Root request first → (h : fills request ≡ true) → MayFall J' its.node.root node ⊎ (rests request ≡ true)
        → (region : Region) → covers node.args (key_is.Table region.table) ≡ true → is_placed (place_of J' region) ≡ false
    own_calm node request first top holds own_args h falls region c = ap is_placed (place_still region unmoved) ∙ by (last_answer J its.node.root) refl
      where
        unmoved : moved_by its.node.args ≡ None
        unmoved = by_move (moved_by its.node.args) refl
          where
            by_move : (o : Option Region) → moved_by its.node.args ≡ o → moved_by its.node.args ≡ None
            by_move None e = e
            by_move (Some moved) e = absurd ((tidy_all J' legal its.node.root node request first holds.0 own_args (fills_listed request h)).still h falls pid.0 its.node moved (stays pid pick out J legal pid.0 its.node its.node_is, refl, e))

        first_step : last_answer J its.node.root ≡ None → is_placed (place_of J region) ≡ false
        first_step none = elim (kid_or_root pid pick out J grown all.falls its (does pid pick out J legal) aside) [
          | inr kid ↦ absurd (holds.1 (other_last pid pick out J grown all.falls its (does pid pick out J legal) aside kid ∙ none))
          | inl e ↦
              let me = grown.tops pid.0 its.node its.node_is e in
              let one : node ≡ its.node = same_Some node its.node (sym top.0 ∙ ap (node_of J) me ∙ its.node_is) in
              let unbegun : last_answer J pid.0 ≡ None = ap (last_answer J) (sym me) ∙ none in
              let args : its.node.args ≡ args_are.Root request first = ap (λ (n : Node). n.args) (sym one) ∙ own_args in
              at e unbegun args (ap (λ (n : Node). covers n.args (key_is.Table region.table)) (sym one) ∙ c) (failing out.answer) refl
        ]
          where
            at : (e : its.node.above ≡ []) → last_answer J pid.0 ≡ None → its.node.args ≡ args_are.Root request first → covers its.node.args (key_is.Table region.table) ≡ true → (o : Option Cause) → failing out.answer ≡ o → is_placed (place_of J region) ≡ false
            at e unbegun args cov (Some cause) f = absurd (true≢false (sym (first_fails e unbegun cause f) ∙ holds.2))
            at e unbegun args cov None f = elim (cases_Bool (is_placed (place_of J region))) [
              | inr off ↦ off
              | inl placed ↦ absurd (true≢false (sym (on region placed) ∙ found_off e unbegun request first args f h region.table cov))
            ]

        by : (o : Option Answer) → last_answer J its.node.root ≡ o → is_placed (place_of J region) ≡ false
        by None none = first_step none
        by (Some a) some = before its.node.root node request first (top, (λ none. none-some a (sym none ∙ some)), step_open pid pick out J grown its (does pid pick out J legal)) own_args h
            (elim falls [ inl may ↦ inl (may_back pid pick out J legal node top may) | inr rest ↦ inr rest ]) region c

    pub step_calm : AllCalm J'
    step_calm r node request first holds own_args h falls region c = elim (cases_eq r its.node.root) [
      | inl mine ↦ own_calm node request first (subst (λ k. TopIs J k node) mine old) (subst (λ k. TopHolds J' k node) mine holds) own_args h (elim falls [ inl may ↦ inl (subst (λ k. MayFall J' k node) mine may) | inr rest ↦ inr rest ]) region c
      | inr differs ↦
          let left = step_left pid pick out J grown its (does pid pick out J legal) r node old differs in
          let was = holds_left J J' r node left holds in
          let covered : covers node.args (key_is.Region region) ≡ true = ap (λ a. covers a (key_is.Region region)) own_args ∙ fills_regions request first h region ∙ ap (λ a. covers a (key_is.Table region.table)) (sym own_args) ∙ c in
          let unplaced = before r node request first was own_args h (elim falls [ inl may ↦ inl (may_on J' J r node (sym left.cause_is) (sym left.last) refl may) | inr rest ↦ inr rest ]) region c in
          elim (held_stay pid pick out J legal r node was.0.0 was.0.1 was.1 was.2 region covered) [
            | inl same ↦ absurd (differs (sym same ∙ ap root_in its.node_is))
            | inr stay ↦ ap is_placed stay ∙ unplaced
          ]
    ]
      where
        old : TopIs J r node
        old = step_top pid pick out J its r node holds.0
