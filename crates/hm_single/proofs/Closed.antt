-- What the trees of disablings, splits and merges move: regions that they close, by Unassigns, and those that they make.
use Rattle.std.proofs.Common.{◌≡◌, ℕ, zero, suc, ◌+◌, ◌-◌, ◌<◌, ◌≤◌, List, [], ◌∷◌, map, cond, ◌&&◌, ◌==◌, Bool, true, false, Option, Some, None, refl, ap, sym, ◌∙◌, subst, inl, inr, ◌⊎◌, slice_get, arith}
use Rattle.std.proofs.lemmas.Bool.{and_parts, eqb-true, false≢true, true≢false}
use Rattle.std.proofs.lemmas.Option.{none-some, same_Some}
use Rattle.hm_names.specs.Region.{Region}
use Rattle.hm_names.specs.Server.{Server}
use Rattle.hm_names.specs.declared.pid.Pid.{Pid}
use Rattle.hm_names.specs.declared.table.TableName.{TableName}
use Rattle.hm_data.specs.declared.act.Act.{Act}
use Rattle.hm_data.specs.declared.args.Args.{Args}
use Rattle.hm_data.specs.declared.args.Args.TheVariants as args_are
use Rattle.hm_data.specs.declared.args.Child.{Child}
use Rattle.hm_data.specs.declared.args.Child.TheVariants as child_is
use Rattle.hm_data.specs.declared.catalog.CatKey.{CatKey}
use Rattle.hm_data.specs.declared.catalog.CatKey.TheVariants as key_is
use Rattle.hm_data.specs.declared.catalog.CatRow.{CatRow}
use Rattle.hm_data.specs.declared.entry.Entry.TheVariants as entry_is
use Rattle.hm_data.specs.declared.place.Goal.{Goal}
use Rattle.hm_data.specs.declared.place.Goal.TheVariants as goal_is
use Rattle.hm_data.specs.declared.request.Request.{Request}
use Rattle.hm_data.specs.declared.request.Request.TheVariants as request_is
use Rattle.hm_data.specs.declared.step.StepIn.{StepIn}
use Rattle.hm_data.specs.declared.step.StepOut.{StepOut}
use Rattle.hm_model.specs.declared.lock.Resource.TheVariants as resource_is
use Rattle.hm_model.specs.Acts.{act_answer}
use Rattle.hm_model.specs.Answers.{last_answer, row_of}
use Rattle.hm_model.specs.Inputs.{step_input}
use Rattle.hm_model.specs.Journal.{Past}
use Rattle.hm_model.specs.Keys.{same_table}
use Rattle.hm_model.specs.Kinds.{kind_of, request_kind}
use Rattle.hm_model.specs.Lists.{exact_rows, lines_of}
use Rattle.hm_model.specs.Locks.{IsIn, in_name_order}
use Rattle.hm_model.specs.Outs.{spawns}
use Rattle.hm_model.specs.Pieces.{Batch, batches, numbers_from, transits, with_batch}
use Rattle.hm_model.specs.Reads.{covers}
use Rattle.hm_model.specs.MadeOf.{AreMoved, IsMadeOf, Makes, Making, Which, making}
use Rattle.hm_model.specs.RegionActs.{regions_for}
use Rattle.hm_model.proofs.MadeOf.{made_of}
use Rattle.std.specs.List.{list_all}
use Rattle.hm_model.specs.RowsSaid.{Rows, keep_region, regions_among}
use Rattle.hm_model.specs.Rules.{IsLegal}
use Rattle.hm_model.specs.Tree.{Node, args_in, made, new_ids, node_of}
use Rattle.hm_model.specs.Undoing.{closed_by, closed_by_request}
use Rattle.hm_model.specs.Views.{bounds_of, first_id_of, regions_in, table_of}
use Rattle.hm_model.specs.Whereabouts.{moved_by}
use Rattle.hm_model.proofs.ExactRows.{is_listed, led_row, of_listed}
use Rattle.hm_model.proofs.Highs.{own_all}
use Rattle.hm_model.proofs.KeyTests.{same_table-is, same_table-refl}
use Rattle.hm_model.proofs.Kin.{makes_one}
use Rattle.hm_model.proofs.LegalSteps.{StepFacts, ready_stops}
use Rattle.hm_model.proofs.PlainActs.{is_plain}
use Rattle.hm_model.proofs.StepDoes.{row_by}
use Rattle.hm_model.proofs.Tops.{TopIs}
use Rattle.hm_model.proofs.Trees.{Grown, IsRooted, down_rooted, grown_all, is_there, le_or_lt, new_child, node_same, old_or_new, start_none, step_of, submit_rooted, undo_rooted}
use Rattle.hm_model.proofs.Small.{slice_in}
use Rattle.hm_model.proofs.Distinct.{out_ordered}
use Rattle.hm_kinds.proofs.Covering.{covers_from}
use Rattle.hm_kinds.proofs.Kids.{made_at}
use Rattle.hm_serial.proofs.Apart.{step_top}
use Rattle.hm_serial.proofs.Fallen.{root_of_node}
use Rattle.hm_single.specs.Calls.{MovesIn, closes_first}
use Rattle.hm_single.specs.Theorem.{ClosedAreUnplaced}
use Rattle.hm_single.proofs.Makes.{GoalIs, goal_made, kids_goal, makes}
use Rattle.hm_single.proofs.New.{IsNewOf, closed_covered, closes_made, closes_old, closing_lined, is_closing}
use Rattle.hm_single.proofs.Tidy.{moved_goal}
use Rattle.hm_single.proofs.Vacated.{unassigned}

-- transits are of the regions that they are made for
module _ (goal : Goal) where
  abbrev sends : List Batch → List Args
  sends list = args_in (map (λ batch. child_is.Transits batch.table batch.ids goal) list)

  from_batch : (it : Args) (region : Region) (list : List Batch) → IsIn it (sends (with_batch region list)) → (it ≡ args_are.Transit region goal None) ⊎ IsIn it (sends list)
  from_batch it region [] h = elim h [ inl here ↦ inl here | inr later ↦ elim later [ ] ]
  from_batch it region (batch ∷ more) h = by (same_table region.table batch.table) refl h
    where
      by : (b : Bool) → same_table region.table batch.table ≡ b → IsIn it (sends (cond b (record { table = batch.table; ids = region.id ∷ batch.ids } ∷ more) (record { table = region.table; ids = region.id ∷ [] } ∷ batch ∷ more))) → (it ≡ args_are.Transit region goal None) ⊎ IsIn it (sends (batch ∷ more))
      by false e k = elim k [ inl here ↦ inl here | inr later ↦ inr later ]
      by true e k = elim k [ inl here ↦ inl (here ∙ ap (λ t. args_are.Transit (record { table = t; id = region.id }) goal None) (sym (same_table-is region.table batch.table e))) | inr later ↦ inr later ]

  from_batches : (it : Args) (list : List Region) → IsIn it (sends (batches list)) → (region : Region) × (it ≡ args_are.Transit region goal None) × IsIn region list
  from_batches it [] h = elim h [ ]
  from_batches it (region ∷ more) h = elim (from_batch it region (batches more) h) [
    | inl here ↦ (region, here, inl refl)
    | inr later ↦ let on = from_batches it more later in (on.0, on.1, inr on.2)
  ]

  sent_for : (next : ℕ) (regions : List Region) (i : ℕ) (it : Args) → slice_get (args_in (spawns next (transits goal regions)).children) i ≡ Some it → (region : Region) → moved_by it ≡ Some region → (it ≡ args_are.Transit region goal None) × IsIn region regions
  sent_for next regions i it is region m =
      let s = from_batches it (in_name_order regions) (slice_in (args_in (transits goal regions)) i it (ap (λ c. slice_get (args_in c) i) (sym (spawned (transits goal regions))) ∙ is)) in
      let same : s.0 ≡ region = same_Some s.0 region (sym (ap moved_by s.1) ∙ m) in
      (s.1 ∙ ap (λ r. args_are.Transit r goal None) same, subst (λ r. IsIn r regions) same (out_ordered s.0 regions s.2))
    where
      spawned : (children : List Child) → (spawns next children).children ≡ children
      spawned [] = refl
      spawned (child ∷ more) = refl

-- live regions among rows are of the table
among_table : (table : TableName) (test : CatRow → Bool) (rows : Rows) (r : Region) → IsIn r (regions_among table test rows) → r.table ≡ table
among_table table test [] r h = elim h [ ]
among_table table test ((key, row) ∷ rows) r h = by (λ k. among_table table test rows r k) key h
  where
    by : (IsIn r (regions_among table test rows) → r.table ≡ table) → (k : CatKey) → IsIn r (keep_region table test k row (regions_among table test rows)) → r.table ≡ table
    by on (key_is.Region region) h = at (same_table table region.table && test row) refl h
      where
        at : (b : Bool) → (same_table table region.table && test row) ≡ b → IsIn r (cond b (region ∷ regions_among table test rows) (regions_among table test rows)) → r.table ≡ table
        at false e k = on k
        at true e k = elim k [
          | inl here ↦ ap (λ (x : Region). x.table) here ∙ sym (same_table-is table region.table (and_parts (same_table table region.table) (test row) e).0)
          | inr later ↦ on later
        ]
    by on key h = on h

in_numbers : (table : TableName) (r : Region) (first count : ℕ) → IsIn r (regions_in table (numbers_from first count)) → (first ≤ r.id) × (r.id < first + count)
in_numbers table r first zero h = elim h [ ]
in_numbers table r first (suc count) h = elim h [
  | inl here ↦ (let e = ap (λ (x : Region). x.id) here in (omega (arith, e), omega (arith, e)))
  | inr later ↦ (let on = in_numbers table r (first + 1) count later in let a = on.0 in let b = on.1 in (omega (arith, a), omega (arith, b)))
]

-- the root closes the region by an Unassign, and the region isn't new; or it has a new one assigned
abbrev Says : Request → ℕ → Region → Args → Type 0
Says request first region it =
    ((to : Option Server) × (it ≡ args_are.Transit region goal_is.Unassign to) × (covers (args_are.Root request first) (key_is.Region region) ≡ true) × (IsNewOf request first region → ⊥))
    ⊎ (IsNewOf request first region × (to : Option Server) × (it ≡ args_are.Transit region goal_is.Assign to))

-- where the act closes the regions that the request names, none of them is new
abbrev ClosesOld : Request → ℕ → Act → Type 0
ClosesOld request first act = is_closing act ≡ true → (region : Region) → IsIn region (closed_by_request request) → IsNewOf request first region → ⊥

abbrev is_disabling : Request → Bool
is_disabling (request_is.DisableTable table) = true
is_disabling request = false

-- what transits a root that closes regions makes: of those that it closes, of its table's, or of those that it drew
abbrev fits_close : Request → Making → Bool
fits_close request (Making.moves goal_is.Unassign Which.closed) = true
fits_close request (Making.moves goal_is.Unassign Which.own) = is_disabling request
fits_close request (Making.moves goal_is.Assign (Which.drawn count)) = count == new_ids request
fits_close request (Making.moves goal which) = false
fits_close request making = true

all_fit : (request : Request) → closes_first request ≡ true → list_all (λ line. fits_close request (making line.act)) (lines_of (request_kind request)) ≡ true
all_fit (request_is.DisableTable t) h = refl
all_fit (request_is.SplitRegion own key) h = refl
all_fit (request_is.MergeRegions regions) h = refl
all_fit request h = absurd (false≢true h)

says_table : (request : Request) (first : ℕ) → is_disabling request ≡ true → (table : TableName) → table_of (args_are.Root request first) ≡ Some table → (rows : Rows) (region : Region) → IsIn region (regions_for table first (bounds_of (args_are.Root request first)) rows)
    → (it : Args) → it ≡ args_are.Transit region goal_is.Unassign None → Says request first region it
says_table (request_is.DisableTable t) first d table own rows region among it sent =
    let its : region.table ≡ t = among_table table _ rows region among ∙ sym (same_Some t table own) in
    inl (None, sent, covers_from (args_are.Root (request_is.DisableTable t) first) (resource_is.Table t) (key_is.Region region) (inr (inl refl)) (ap (same_table t) its ∙ same_table-refl t), λ new. let low = new.0 in let high : region.id < first + 0 = new.1 in omega (arith, low, high))
says_table request first d table own rows region among it sent = absurd (false≢true d)

says_moved : (request : Request) (first : ℕ) → closes_first request ≡ true → (act : Act) → ClosesOld request first act → (at : StepIn) → at.args ≡ args_are.Root request first → (goal : Goal) (which : Which) → making act ≡ Making.moves goal which → fits_close request (Making.moves goal which) ≡ true
    → {regions : List Region} → AreMoved at which regions → (region : Region) → IsIn region regions → (it : Args) → it ≡ args_are.Transit region goal None → Says request first region it
says_moved request first h act old at e goal_is.Unassign which only fits (AreMoved.of_table table own) region among it sent =
    says_table request first fits table (ap table_of (sym e) ∙ own) at.rows region (subst (λ a. IsIn region (regions_for table (first_id_of a) (bounds_of a) at.rows)) e among) it sent
says_moved request first h act old at e goal_is.Unassign which only fits AreMoved.of_closed region among it sent =
    let own = subst (λ a. IsIn region (closed_by a)) e among in
    inl (None, sent, closed_covered request first h region own, old (ap closes_made only) region own)
says_moved request first h act old at e goal_is.Assign which only fits (AreMoved.of_drawn count table own) region among it sent =
    let new = in_numbers table region (first_id_of at.args) count among in
    let start : first_id_of at.args ≡ first = ap first_id_of e in
    let many = eqb-true count (new_ids request) fits in
    let low = new.0 in
    let high = new.1 in
    inr ((omega (arith, low, start), omega (arith, high, start, many)), None, sent)
says_moved request first h act old at e goal which only fits are region among it sent = absurd (false≢true fits)

says_makes : (request : Request) (first : ℕ) → closes_first request ≡ true → (act : Act) → is_plain act ≡ true → ClosesOld request first act → fits_close request (making act) ≡ true → (to : Goal) → makes act ≡ Some to → (next : ℕ) (at : StepIn) → at.args ≡ args_are.Root request first
    → {children : List Child} → Makes act at children → (i : ℕ) (it : Args) → slice_get (args_in (spawns next children).children) i ≡ Some it → (region : Region) → moved_by it ≡ Some region → Says request first region it
says_makes request first h act p old fits to moves next at e (Makes.sends goal sent which only regions are) i it is region m =
    let s = sent_for goal next regions i it is region m in
    says_moved request first h act old at e goal which only (subst (λ x. fits_close request x ≡ true) only fits) are region s.1 it s.0
says_makes request first h act p old fits to moves next at e (Makes.lays only) i it is region m = absurd (none-some to (sym (ap goal_made only) ∙ moves))
says_makes request first h act p old fits to moves next at e (Makes.fences only server own) i it is region m = absurd (none-some to (sym (ap goal_made only) ∙ moves))
says_makes request first h act p old fits to moves next at e (Makes.adds_all only table own bounds are) i it is region m = absurd (none-some to (sym (ap goal_made only) ∙ moves))
says_makes request first h act p old fits to moves next at e (Makes.drops_all only table own) i it is region m = absurd (none-some to (sym (ap goal_made only) ∙ moves))
says_makes request first h act p old fits to moves next at e (Makes.opens off own_region own server there) i it is region m = absurd (true≢false (sym p ∙ off))

says_made : (request : Request) (first : ℕ) → closes_first request ≡ true → (act : Act) → is_plain act ≡ true → ClosesOld request first act → fits_close request (making act) ≡ true → (to : Goal) → makes act ≡ Some to → (next : ℕ) (at : StepIn) → at.args ≡ args_are.Root request first
    → {out : StepOut} → IsMadeOf act next at out → (i : ℕ) (it : Args) → slice_get (args_in out.children) i ≡ Some it → (region : Region) → moved_by it ≡ Some region → Says request first region it
says_made request first h act p old fits to moves next at e (IsMadeOf.made children kids) i it is region m = says_makes request first h act p old fits to moves next at e kids i it is region m
says_made request first h act p old fits to moves next at e (IsMadeOf.shut off own_region own server there) i it is region m = absurd (true≢false (sym p ∙ off))
says_made request first h act p old fits to moves next at e other i it is region m = absurd (none-some it is)

act_says : (request : Request) (first : ℕ) (act : Act) → closes_first request ≡ true → is_listed (request_kind request) act ≡ true → is_plain act ≡ true → ClosesOld request first act → (next : ℕ) (at : StepIn) → at.args ≡ args_are.Root request first
    → (i : ℕ) (it : Args) → slice_get (args_in (act_answer act next at).children) i ≡ Some it → (region : Region) → moved_by it ≡ Some region → Says request first region it
act_says request first act h l p old next at e i it is region m =
    let goal = moved_goal act it region (made_at (GoalIs act) (act_answer act next at).children (kids_goal act p next at) i it is) m in
    let fits = of_listed (λ a. fits_close request (making a)) (request_kind request) act (all_fit request h) l in
    says_made request first h act p old fits goal.0 goal.3 next at e (made_of act next at) i it is region m

abbrev AllSaid : Past → Type 0
AllSaid J =
    (root : ℕ) (top : Node) (request : Request) (first : ℕ) → TopIs J root top → top.args ≡ args_are.Root request first → closes_first request ≡ true
    → (q : ℕ) (x : Node) (region : Region) → MovesIn J root region q x → Says request first region x.args

calm_said : (J J' : Past) → IsRooted J J' → Grown J → Grown J' → AllSaid J → AllSaid J'
calm_said J J' rooted grown later before root top request first at own h q x region m = elim (old_or_new J J' rooted grown q x m.0) [
  | inr new ↦
      let mine : q ≡ root = ap (λ (n : Node). n.root) (sym new.2) ∙ m.1 in
      let one : x ≡ top = same_Some x top (sym m.0 ∙ ap (node_of J') mine ∙ at.0) in
      absurd (none-some region (sym (closing_lined request first h).1 ∙ ap moved_by (sym own) ∙ ap (λ (n : Node). moved_by n.args) (sym one) ∙ m.2))
  | inl old ↦ elim (old_or_new J J' rooted grown root top at.0) [
    | inl was ↦ before root top request first (was, at.1) own h q x region (old, m.1, m.2)
    | inr new ↦ absurd (not_new old new.4)
  ]
]
  where
    not_new : node_of J q ≡ Some x → made J < root → ⊥
    not_new old lt =
        let r = root_of_node J grown q x old in
        let le = is_there J grown root r.0 (ap (node_of J) (sym m.1) ∙ r.1.0) in
        omega (arith, lt, le)

module _ (pid : Pid) (pick : Option Server) (out : StepOut) (J : Past) (legal : IsLegal (entry_is.Step pid pick out ∷ J)) (before : AllSaid J) where
  abbrev grown : Grown J
  grown = grown_all J legal.0

  abbrev step : StepFacts J pid.0 pick out
  step = step_of pid pick out J (grown_all J legal.0) legal

  -- what a root makes that closes regions
  made_says : step.node.above ≡ [] → (request : Request) (first : ℕ) → step.node.args ≡ args_are.Root request first → closes_first request ≡ true → (i : ℕ) (it : Args) → slice_get (args_in out.children) i ≡ Some it → (region : Region) → moved_by it ≡ Some region → Says request first region it
  made_says nil request first own h i it is region m =
      let exact : exact_rows (kind_of step.node.args) ≡ [] = ap (λ a. exact_rows (kind_of a)) own ∙ (closing_lined request first h).0 in
      let row = led_row (kind_of step.node.args) step.sheet step.valid (row_of J pid.0 step.node) (grown.led pid.0 step.node step.node_is exact step.sheet step.sheet_is (ready_stops J pid.0 step.node (last_answer J pid.0) step.ready)) step.row step.row_is in
      row_by (λ o. slice_get (args_in o.children) i ≡ Some it → Says request first region it) step.row (step_input J pid.0 step.node pick) (λ c k. absurd (none-some it k))
      (λ k. act_says request first step.row.act h (ap (λ a. is_listed (kind_of a) step.row.act) (sym own) ∙ row.listed) row.plain (λ closing. closes_old pid pick out J legal nil request first own h closing) step.row.next (step_input J pid.0 step.node pick) own i it k region m)
      (ap (λ (o : StepOut). slice_get (args_in o.children) i) (sym step.out_is) ∙ is)

  step_said : AllSaid (entry_is.Step pid pick out ∷ J)
  step_said root top request first at own h q x region m = elim (le_or_lt q (made J)) [
    | inl le ↦ before root top request first (step_top pid pick out J step root top at) own h q x region (sym (node_same pid pick out J q le) ∙ m.0, m.1, m.2)
    | inr lt ↦
        let new = new_child pid pick out J step.node step.node_is q lt x m.0 in
        let moved : moved_by new.0 ≡ Some region = ap (λ (n : Node). moved_by n.args) (sym new.2) ∙ m.2 in
        let nil = (own_all J legal.0 pid.0 step.node step.node_is).high ((makes_one pid pick out J legal).1 (q - made J - 1) new.0 region new.1 moved) in
        let mine : pid.0 ≡ root = sym (grown.tops pid.0 step.node step.node_is nil) ∙ ap (λ (n : Node). n.root) (sym new.2) ∙ m.1 in
        let one : step.node ≡ top = same_Some step.node top (sym step.node_is ∙ ap (node_of J) mine ∙ (step_top pid pick out J step root top at).0) in
        subst (λ (n : Node). Says request first region n.args) (sym new.2) (made_says nil request first (ap (λ (n : Node). n.args) one ∙ own) h (q - made J - 1) new.0 new.1 region moved)
  ]

said_all : (J : Past) → IsLegal J → AllSaid J
said_all [] legal = λ root top request first at. absurd (none-some top at.0)
said_all (entry_is.Start sheets ∷ J) legal = λ root top request first at. absurd (none-some top (sym (start_none J legal.1.0.0 root) ∙ at.0))
said_all (entry_is.Submit nonce asked ∷ J) legal = let g = grown_all J legal.0 in calm_said J (entry_is.Submit nonce asked ∷ J) (submit_rooted nonce asked J g) g (grown_all (entry_is.Submit nonce asked ∷ J) legal) (said_all J legal.0)
said_all (entry_is.Step pid pick out ∷ J) legal = step_said pid pick out J legal (said_all J legal.0)
said_all (entry_is.Undo pid row out ∷ J) legal = let g = grown_all J legal.0 in calm_said J (entry_is.Undo pid row out ∷ J) (undo_rooted pid row out J g) g (grown_all (entry_is.Undo pid row out ∷ J) legal) (said_all J legal.0)
said_all (entry_is.Down server ∷ J) legal = let g = grown_all J legal.0 in calm_said J (entry_is.Down server ∷ J) (down_rooted server J g) g (grown_all (entry_is.Down server ∷ J) legal) (said_all J legal.0)
said_all (entry_is.Base part ∷ J) legal = λ root top request first at. absurd (none-some top at.0)
said_all (entry ∷ J) legal = said_all J legal.0

-- a transit unassigns or assigns
goals_differ : (region : Region) (to other : Option Server) → args_are.Transit region goal_is.Unassign to ≡ args_are.Transit region goal_is.Assign other → ⊥
goals_differ region to other e = cc

pub closed_unplaced : ClosedAreUnplaced
closed_unplaced J legal root top request first is nil own h running p node region to moves unassign stopped =
    elim (said_all J legal root top request first (is, nil) own h p node region moves) [
      | inr new ↦ absurd (goals_differ region to new.1 (sym unassign ∙ new.2))
      | inl closed ↦ unassigned J legal root top is nil running region (ap (λ a. covers a (key_is.Region region)) own ∙ closed.2) (
        (p, node, moves, stopped),
        λ q x m. elim (said_all J legal root top request first (is, nil) own h q x region m) [ inl says ↦ (says.0, says.1) | inr new ↦ absurd (closed.3 new.0) ],
      )
    ]
