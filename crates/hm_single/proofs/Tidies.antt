-- Every tree of a legal journal is so.
use Rattle.std.proofs.Common.{◌≡◌, ◌≢◌, ℕ, ◌-◌, ◌<◌, List, [], ◌∷◌, true, false, Option, Some, None, is_some, refl, ap, sym, ◌∙◌, subst, inl, inr, ◌⊎◌, slice_get, arith}
use Rattle.std.proofs.lemmas.Bool.{cases_eq, cond-false, false≢true, true≢false}
use Rattle.std.proofs.lemmas.Option.{none-some, same_Some}
use Rattle.hm_names.specs.Region.{Region}
use Rattle.hm_names.specs.Server.{Server}
use Rattle.hm_names.specs.declared.pid.Pid.{Pid}
use Rattle.hm_names.specs.declared.table.TableName.{TableName}
use Rattle.hm_data.specs.declared.act.Act.{Act}
use Rattle.hm_data.specs.declared.act.Act.TheVariants as act_is
use Rattle.hm_data.specs.declared.act.Back.TheVariants as back_is
use Rattle.hm_data.specs.declared.args.Args.{Args}
use Rattle.hm_data.specs.declared.args.Args.TheVariants as args_are
use Rattle.hm_data.specs.declared.entry.Entry.TheVariants as entry_is
use Rattle.hm_data.specs.declared.request.Request.{Request}
use Rattle.hm_data.specs.declared.request.Request.TheVariants as request_is
use Rattle.hm_data.specs.declared.step.StepOut.{StepOut}
use Rattle.hm_model.specs.Answers.{failing, last_answer}
use Rattle.hm_model.specs.Catalog.{was}
use Rattle.hm_model.specs.Journal.{Past}
use Rattle.hm_model.specs.Phase.{cause}
use Rattle.hm_model.specs.Kinds.{kind_of, request_kind}
use Rattle.hm_model.specs.Lists.{exact_rows}
use Rattle.hm_model.specs.Rules.{IsLegal}
use Rattle.hm_model.specs.Tree.{Node, args_in, made, node_of, root_of}
use Rattle.hm_model.specs.Undo.{Undoable, rest_of, row_if_there, stack}
use Rattle.hm_model.specs.Undoing.{undo_edits}
use Rattle.hm_model.specs.Whereabouts.{moved_by}
use Rattle.hm_model.proofs.ExactRows.{is_listed}
use Rattle.hm_model.proofs.PlainActs.{is_caller}
use Rattle.hm_model.proofs.StepDoes.{bears}
use Rattle.hm_model.proofs.Trees.{Grown, IsRooted, down_rooted, grown_all, is_there, old_or_new, root_within, start_none, submit_rooted, undo_rooted}
use Rattle.hm_kinds.proofs.Covering.{rows_table}
use Rattle.hm_serial.proofs.Apart.{Aside, step_top}
use Rattle.hm_serial.proofs.FallAll.{All, falls_all, step_aside}
use Rattle.hm_serial.proofs.Fallen.{may_on, root_of_node}
use Rattle.hm_serial.proofs.FallStep.{belongs_here, kid_or_root, led_here, own_args, own_root, other_last}
use Rattle.hm_serial.proofs.Kinship.{editless, is_kid, kid_rows}
use Rattle.hm_model.proofs.Tops.{TopIs}
use Rattle.hm_model.proofs.Small.{cons_nil}
use Rattle.hm_serial.proofs.Standing.{step_left}
use Rattle.hm_single.specs.Calls.{MovesIn}
use Rattle.hm_single.proofs.Lines.{is_creating, is_deleting}
use Rattle.hm_single.proofs.Makes.{GoalIs, makes}
use Rattle.hm_single.proofs.Own.{does, goals, led_now, own, step}
use Rattle.hm_model.specs.Whereabouts.{moved_by_request}
use Rattle.hm_serial.proofs.FallStep.{kid_not_root}
use Rattle.hm_single.proofs.Tidy.{AllTidy, Mild, MildOne, Tidy, is_quiet, may_back, members, own_tidy, push_mild, stack_now, stays, tidy_like}

caller_quiet : (args : Args) → is_caller args ≡ true → is_quiet args ≡ true
caller_quiet (args_are.AssignCall region server) h = refl
caller_quiet (args_are.CloseCall region server) h = refl
caller_quiet args h = absurd (false≢true h)

-- who changes rows of regions makes nobody
rows_quiet : (kind : ℕ) → ((act : Act) → is_listed kind act ≡ true → makes act ≡ None) → is_listed kind act_is.AddRegions ≡ false → is_listed kind act_is.DropRegions ≡ false → (act : Act) (args : Args) → is_listed kind act ≡ true → GoalIs act args → is_quiet args ≡ true
rows_quiet kind none adds drops act (args_are.Transit region goal to) h g = absurd (none-some goal (sym (none act h) ∙ g.0))
rows_quiet kind none adds drops act (args_are.AddRegions table first bounds) h g = absurd (true≢false (sym h ∙ ap (is_listed kind) g ∙ adds))
rows_quiet kind none adds drops act (args_are.DropRegions table ids) h g = absurd (true≢false (sym h ∙ ap (is_listed kind) g ∙ drops))
rows_quiet kind none adds drops act (args_are.Root request first) h g = absurd g
rows_quiet kind none adds drops act (args_are.Crash server) h g = absurd g
rows_quiet kind none adds drops act args h g = refl

adds_none : (act : Act) → is_listed 20 act ≡ true → makes act ≡ None
adds_none act_is.AddRegionRows h = refl
adds_none act h = absurd (false≢true h)

drops_none : (act : Act) → is_listed 21 act ≡ true → makes act ≡ None
drops_none act_is.DropRegionRows h = refl
drops_none act h = absurd (false≢true h)

pub lined_unmoved : (request : Request) → exact_rows (request_kind request) ≡ [] → moved_by_request request ≡ None
lined_unmoved (request_is.Move region to) e = absurd (cons_nil _ _ e)
lined_unmoved request e = refl

-- a step
module _ (pid : Pid) (pick : Option Server) (out : StepOut) (J : Past) (legal : IsLegal (entry_is.Step pid pick out ∷ J)) where
  abbrev J' : Past
  J' = entry_is.Step pid pick out ∷ J

  abbrev its : Rattle.hm_model.proofs.LegalSteps.StepFacts J pid.0 pick out
  its = step pid pick out J legal

  abbrev grown : Grown J
  grown = grown_all J legal.0

  abbrev all : All J
  all = falls_all J legal.0

  abbrev aside : Aside J its.node.root (root_of_node J grown pid.0 its.node its.node_is).0
  aside = step_aside pid pick out J legal all

  -- it lists its rows, or edits nothing
  pub edits_or : (exact_rows (kind_of its.node.args) ≡ []) ⊎ (out.edits ≡ [])
  edits_or = editless J pid.0 pick out its (does pid pick out J legal) (led_here pid pick out J grown all.falls its (does pid pick out J legal) aside) (own_root pid pick out J grown all.falls its (does pid pick out J legal) aside).0.args (own_args pid pick out J grown all.falls its (does pid pick out J legal) aside) (belongs_here pid pick out J grown all.falls its (does pid pick out J legal) aside)

  -- a descendant's
  module _ (kid : its.node.above ≢ []) where
    pub is_its_kid : is_kid its.node.args ≡ true
    is_its_kid = all.falls.kids pid.0 its.node its.node_is kid

    quiet_now : (i : ℕ) (made_it : Args) → slice_get (args_in out.children) i ≡ Some made_it → is_quiet made_it ≡ true
    quiet_now i made_it at = by its.node.args refl is_its_kid
      where
        borne : (a : Args) → its.node.args ≡ a → bears a made_it ≡ true
        borne a e = ap (λ x. bears x made_it) (sym e) ∙ (does pid pick out J legal).bearing i made_it at

        by : (a : Args) → its.node.args ≡ a → is_kid a ≡ true → is_quiet made_it ≡ true
        by (args_are.Transit region goal to) e h = caller_quiet made_it (borne (args_are.Transit region goal to) e)
        by (args_are.AddRegions table first bounds) e h =
            let exact : exact_rows (kind_of its.node.args) ≡ [] = ap (λ a. exact_rows (kind_of a)) e in
            rows_quiet 20 adds_none refl refl its.row.act made_it (ap (λ a. is_listed (kind_of a) its.row.act) (sym e) ∙ (led_now pid pick out J legal exact).listed) (goals pid pick out J legal exact i made_it at)
        by (args_are.DropRegions table ids) e h =
            let exact : exact_rows (kind_of its.node.args) ≡ [] = ap (λ a. exact_rows (kind_of a)) e in
            rows_quiet 21 drops_none refl refl its.row.act made_it (ap (λ a. is_listed (kind_of a) its.row.act) (sym e) ∙ (led_now pid pick out J legal exact).listed) (goals pid pick out J legal exact i made_it at)
        by (args_are.SweepLayout root) e h = absurd (false≢true h)
        by (args_are.Root request first) e h = absurd (false≢true h)
        by (args_are.Crash server) e h = absurd (false≢true h)
        by args e h = absurd (false≢true (borne args e))

    -- one that neither adds nor drops regions edits nothing
    pub kid_editless : rows_table its.node.args ≡ None → out.edits ≡ []
    kid_editless none = elim edits_or [
      | inr nothing ↦ nothing
      | inl exact ↦ absurd (kid_rows its.node.args is_its_kid exact none)
    ]

    kid_tidy : (node : Node) (request : Request) → TopIs J its.node.root node → ((table : TableName) → request ≡ request_is.DisableTable table → out.edits ≡ []) → Tidy J its.node.root node request → Tidy J' its.node.root node request
    kid_tidy node request top none t = tidy_like J J' its.node.root node request
        (other_last pid pick out J grown all.falls its (does pid pick out J legal) aside kid) refl
        (cond-false _ _ (was J its.node.root) (Rattle.std.proofs.lemmas.Bool.and_left _ _ (Rattle.std.proofs.lemmas.Bool.ne_eqb its.node.root pid.0 (kid_not_root pid pick out J grown all.falls its (does pid pick out J legal) aside kid))))
        (may_back pid pick out J legal node top)
        (λ q x is of. elim (members pid pick out J legal q x is) [ inl old ↦ inl old | inr new ↦ inr (ap (λ (n : Node). is_quiet n.args) new.2 ∙ quiet_now (q - made J - 1) new.0 new.1) ])
        (stays pid pick out J legal)
        (λ table e milds. subst (Mild table) (sym (stack_now pid pick out J legal))
        (push_mild table its.row.undo (is_some (failing out.answer)) pid.0 (row_if_there J pid.0 (node_of J pid.0)) out.edits (stack J its.node.root) (λ edits. subst (λ l. MildOne table (undo_edits back_is.Edits l)) (sym (none table e)) ((λ region row. refl), (λ row on. on))) milds)) t

  -- who changes rows of regions has a root that creates or deletes a table
  kid_none : (kid : its.node.above ≢ []) (node : Node) (request : Request) (first : ℕ) → node.args ≡ args_are.Root request first → Tidy J its.node.root node request → (table : TableName) → request ≡ request_is.DisableTable table → out.edits ≡ []
  kid_none kid node request first own t table e = kid_editless kid (by its.node.args refl)
    where
      args : node.args ≡ args_are.Root (request_is.DisableTable table) first
      args = own ∙ ap (λ q. args_are.Root q first) e

      by : (a : Args) → its.node.args ≡ a → rows_table a ≡ None
      by (args_are.AddRegions u from bounds) is = absurd (false≢true (sym (ap is_creating args) ∙ t.adds pid.0 its.node its.node_is refl u from bounds is))
      by (args_are.DropRegions u ids) is = absurd (false≢true (sym (ap is_deleting args) ∙ t.drops pid.0 its.node its.node_is refl u ids is))
      by args is = refl

  step_tidy : AllTidy J → AllTidy J'
  step_tidy before r node request first top own listed = elim (cases_eq r its.node.root) [
    | inl mine ↦ elim (kid_or_root pid pick out J grown all.falls its (does pid pick out J legal) aside) [
      | inl e ↦
          let same : r ≡ pid.0 = mine ∙ grown.tops pid.0 its.node its.node_is e in
          let one : its.node ≡ node = same_Some its.node node (sym its.node_is ∙ ap (node_of J) (sym same) ∙ old.0) in
          let args : its.node.args ≡ args_are.Root request first = ap (λ (n : Node). n.args) one ∙ own in
          subst (λ k. Tidy J' k node request) (sym same) (subst (λ (n : Node). Tidy J' pid.0 n request) one (own_tidy pid pick out J legal e request first args listed (before pid.0 its.node request first (its.node_is, e) args listed)))
      | inr kid ↦
          let top_here : TopIs J its.node.root node = subst (λ k. TopIs J k node) mine old in
          let t = before its.node.root node request first top_here own listed in
          subst (λ k. Tidy J' k node request) (sym mine) (kid_tidy kid node request top_here (kid_none kid node request first own t) t)
    ]
    | inr differs ↦
        let left = step_left pid pick out J grown its (does pid pick out J legal) r node old differs in
        tidy_like J J' r node request left.last refl left.was_is (λ may. may_on J' J r node (sym left.cause_is) (sym left.last) refl may)
        (λ q x is of. elim (members pid pick out J legal q x is) [ inl was_it ↦ inl was_it | inr new ↦ absurd (differs (sym of ∙ ap (λ (n : Node). n.root) new.2)) ])
        (stays pid pick out J legal) (λ table e milds. subst (Mild table) (sym left.stack_is) milds) (before r node request first old own listed)
  ]
    where
      old : TopIs J r node
      old = step_top pid pick out J its r node top

-- an entry that makes roots
module _ (J J' : Past) (rooted : IsRooted J J') (grown : Grown J) (was_is : (r : ℕ) → was J' r ≡ was J r) (causes : (r : ℕ) → cause J' r ≡ cause J r) (milds : (table : TableName) (r : ℕ) → Mild table (stack J r) → Mild table (stack J' r)) (gone : (r : ℕ) → node_of J r ≡ None → stack J r ≡ []) where
  rooted_tidy : AllTidy J → AllTidy J'
  rooted_tidy before r node request first top own listed = elim (old_or_new J J' rooted grown r node top.0) [
    | inl old ↦
        let sheets = rooted.sheets node.root (root_within J grown r node old) in
        tidy_like J J' r node request (rooted.last r) sheets (was_is r) (may_on J' J r node (sym (causes r)) (sym (rooted.last r)) (sym sheets))
        (λ q x is of. elim (old_or_new J J' rooted grown q x is) [
          | inl was_it ↦ inl was_it
          | inr new ↦
              let same : q ≡ r = sym (ap (λ (n : Node). n.root) new.2) ∙ of in
              let le = is_there J grown r node old in
              let lt = new.4 in
              absurd (omega (arith, same, le, lt))
        ])
        (λ q x is. rooted.old q (is_there J grown q x is) ∙ is) (λ table e m. milds table r m) (before r node request first (old, top.1) own listed)
    | inr new ↦ fresh new.3 new.4
  ]
    where
      fresh : last_answer J' r ≡ None → made J < r → Tidy J' r node request
      fresh none lt = record {
        unassigns = λ h act runs ne q x region m. absurd (unmoved q x region m);
        closed = λ h begun. absurd (begun none);
        still = λ h falls q x region m. unmoved q x region m;
        adds = λ q x is of table from bounds e. absurd (false≢true (sym (ap is_kid own) ∙ ap (λ (n : Node). is_kid n.args) (sym (alone q x is of)) ∙ ap is_kid e));
        drops = λ q x is of table ids e. absurd (false≢true (sym (ap is_kid own) ∙ ap (λ (n : Node). is_kid n.args) (sym (alone q x is of)) ∙ ap is_kid e));
        mild = λ table e. milds table r (subst (Mild table) (sym (gone r (grown.numbered r lt))) tt);
      }
        where
          alone : (q : ℕ) (x : Node) → node_of J' q ≡ Some x → x.root ≡ r → x ≡ node
          alone q x is of = elim (old_or_new J J' rooted grown q x is) [
            | inl old ↦
                let y = root_of_node J grown q x old in
                let le = is_there J grown x.root y.0 y.1.0 in
                absurd (omega (arith, le, lt, of))
            | inr new ↦
                let same : q ≡ r = sym (ap (λ (n : Node). n.root) new.2) ∙ of in
                same_Some x node (sym is ∙ ap (node_of J') same ∙ top.0)
          ]

          unmoved : (q : ℕ) (x : Node) (region : Region) → MovesIn J' r region q x → ⊥
          unmoved q x region m = none-some region (sym (ap moved_by own ∙ lined_unmoved request listed) ∙ ap (λ (n : Node). moved_by n.args) (sym (alone q x m.0 m.1)) ∙ m.2)

rest_mild : (table : TableName) (list : List Undoable) → Mild table list → Mild table (rest_of list)
rest_mild table [] m = tt
rest_mild table (latest ∷ below) m = m.1

-- in every legal journal
pub tidy_all : (J : Past) → IsLegal J → AllTidy J
tidy_all [] legal r node request first top args listed = absurd (none-some node top.0)
tidy_all (entry_is.Start sheets ∷ J) legal r node request first top args listed = absurd (none-some node (sym (start_none J legal.1.0.0 r) ∙ top.0))
tidy_all (entry_is.Submit nonce asked ∷ J) legal r node request first top args listed =
    let g = grown_all J legal.0 in
    rooted_tidy J (entry_is.Submit nonce asked ∷ J) (submit_rooted nonce asked J g) g (λ k. refl) (λ k. refl) (λ table k m. m) (λ k none. ((falls_all J legal.0).falls.gone k none).0) (tidy_all J legal.0) r node request first top args listed
tidy_all (entry_is.Step pid pick out ∷ J) legal r node request first top args listed = step_tidy pid pick out J legal (tidy_all J legal.0) r node request first top args listed
tidy_all (entry_is.Undo pid row out ∷ J) legal r node request first top args listed =
    let g = grown_all J legal.0 in
    rooted_tidy J (entry_is.Undo pid row out ∷ J) (undo_rooted pid row out J g) g (λ k. refl) (λ k. refl) (λ table k m. elim (cases_eq (root_of J pid.0) k) [
      | inl same ↦ subst (Mild table) (sym (Rattle.std.proofs.lemmas.Bool.cond-true _ (rest_of (stack J k)) (stack J k) (Rattle.std.proofs.lemmas.Bool.eq-eqb (root_of J pid.0) k same))) (rest_mild table (stack J k) m)
      | inr differs ↦ subst (Mild table) (sym (cond-false _ (rest_of (stack J k)) (stack J k) (Rattle.std.proofs.lemmas.Bool.ne_eqb (root_of J pid.0) k differs))) m
    ]) (λ k none. ((falls_all J legal.0).falls.gone k none).0) (tidy_all J legal.0) r node request first top args listed
tidy_all (entry_is.Down server ∷ J) legal r node request first top args listed =
    let g = grown_all J legal.0 in
    rooted_tidy J (entry_is.Down server ∷ J) (down_rooted server J g) g (λ k. refl) (λ k. refl) (λ table k m. m) (λ k none. ((falls_all J legal.0).falls.gone k none).0) (tidy_all J legal.0) r node request first top args listed
tidy_all (entry_is.Base part ∷ J) legal r node request first top args listed = absurd (none-some node top.0)
tidy_all (entry ∷ J) legal r node request first top args listed = let t = tidy_all J legal.0 r node request first top args listed in record { unassigns = t.unassigns; closed = t.closed; still = t.still; adds = t.adds; drops = t.drops; mild = t.mild }
