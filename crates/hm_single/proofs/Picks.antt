-- A server fits wherever one is needed and any is live.
use Rattle.std.proofs.Common.{◌≡◌, ◌≢◌, ℕ, ◌≤◌, ◌==◌, ◌&&◌, ◌||◌, not, List, [], ◌∷◌, Bool, true, false, Option, Some, None, is_some, refl, ap, sym, ◌∙◌, subst, inl, inr, slice_get, arith}
use Rattle.std.specs.List.{list_any}
use Rattle.std.proofs.lemmas.Bool.{not-true, and_from, and_left, and_parts, and_right, cases_Bool, eqb-true, false≢true, not_from_false, or_cases, or_left, or_right, true≢false}
use Rattle.std.proofs.lemmas.Option.{none-some, same_Some}
use Rattle.hm_names.specs.Region.{Region}
use Rattle.hm_names.specs.Server.{Server}
use Rattle.hm_data.specs.declared.answer.Answer.{Answer}
use Rattle.hm_data.specs.declared.answer.Answer.TheVariants as answer_is
use Rattle.hm_data.specs.declared.answer.Cause.{Cause}
use Rattle.hm_data.specs.declared.args.Args.{Args}
use Rattle.hm_data.specs.declared.args.Args.TheVariants as args_are
use Rattle.hm_data.specs.declared.place.Place.{Place}
use Rattle.hm_data.specs.declared.place.RegionState.TheVariants as place_is
use Rattle.hm_data.specs.declared.record.Phase.{Phase}
use Rattle.hm_data.specs.declared.record.Phase.TheVariants as phase_is
use Rattle.hm_data.specs.declared.request.Request.{Request}
use Rattle.hm_data.specs.declared.request.Request.TheVariants as request_is
use Rattle.hm_data.specs.declared.sheet.Sheet.{Sheet}
use Rattle.hm_data.specs.declared.step.StepIn.{StepIn}
use Rattle.hm_model.specs.Answers.{is_stopped, last_answer, row_after}
use Rattle.hm_model.specs.Evaluation.{picks_at, picks_by}
use Rattle.hm_model.specs.Fleet.{has_live, has_other_live, is_live, same_server, servers_of}
use Rattle.hm_model.specs.Inputs.{input, place_if, step_input, turn_input, undoes}
use Rattle.hm_model.specs.Journal.{Past}
use Rattle.hm_model.specs.Kinds.{first_row_of, kind_of}
use Rattle.hm_model.specs.Lists.{exact_rows}
use Rattle.hm_model.specs.Phase.{all_stopped, cause, children_ended, own_phase, phase, phase_table, rolled_back}
use Rattle.hm_model.specs.Picks.{fits_input, is_another, is_as_wanted, needs_server, pick_fits}
use Rattle.hm_model.specs.Places.{is_the_server, place_of, tries_of}
use Rattle.hm_model.specs.Procedures.{sheet_at, sheet_by, sheet_of}
use Rattle.hm_model.specs.Rest.{IsReady}
use Rattle.hm_model.specs.Rules.{IsLegal}
use Rattle.hm_model.specs.Sheets.{sheet_for, sheets_by}
use Rattle.hm_model.specs.TransitActs.{is_state, told_place}
use Rattle.hm_model.specs.Tree.{Node, is_top, node_of}
use Rattle.hm_model.specs.Undo.{is_empty, stack}
use Rattle.hm_model.specs.Wanted.{wanted_by_request, wanted_of}
use Rattle.hm_model.specs.Whereabouts.{moved_by}
use Rattle.hm_model.proofs.ExactRows.{exact_is, sheet_is, valid_by}
use Rattle.hm_model.proofs.NameTies.{same_server-is, same_server-refl}
use Rattle.hm_model.proofs.Trees.{grown_all}
use Rattle.hm_model.proofs.Small.{implied, top_is}
use Rattle.hm_single.specs.Picking.{PicksAreRight, PicksAreThere}
use Rattle.hm_single.proofs.Aimless.{NamesNone, aimless_all}
use Rattle.hm_single.proofs.All.{kept_all}
use Rattle.hm_single.proofs.Kept.{IsGoing, goes_from}
use Rattle.hm_single.proofs.Tried.{trying_all}

-- a phase in which a step may be made
abbrev is_running : Phase → Bool
is_running phase_is.Runnable = true
is_running phase_is.Awaiting = true
is_running phase = false

-- who may make a step may by its own last one, and is no failed root
table_runs : (c : Option Cause) (back top : Bool) (own : Phase) → is_running (phase_table c back top own) ≡ true → (is_running own ≡ true) × (top ≡ true → c ≡ None)
table_runs None back top own h = (h, λ t. refl)
table_runs (Some c) true top own h = absurd (false≢true h)
table_runs (Some c) false true own h = absurd (false≢true h)
table_runs (Some c) false false own h = (h, λ t. absurd (false≢true t))

-- that didn't end it
own_runs : (o : Option Answer) (b : Bool) → is_running (own_phase o b) ≡ true → is_stopped o ≡ false
own_runs None b h = refl
own_runs (Some (answer_is.More n)) b h = refl
own_runs (Some (answer_is.Wait n)) b h = refl
own_runs (Some (answer_is.Await n)) b h = refl
own_runs (Some (answer_is.Done told)) b h = absurd (false≢true h)
own_runs (Some (answer_is.Fail c)) b h = absurd (false≢true h)
own_runs (Some answer_is.Undone) b h = absurd (false≢true h)

-- one of a list passes a test
found_in : (test : Server → Bool) (list : List Server) → list_any test list ≡ true → (server : Server) × (test server ≡ true)
found_in test [] h = absurd (false≢true h)
found_in test (server ∷ more) h = elim (or_cases (test server) (list_any test more) h) [ inl here ↦ (server, here) | inr later ↦ found_in test more later ]

-- all three are true
abbrev AllThree : Bool → Bool → Bool → Type 0
AllThree a b c = (a ≡ true) × (b ≡ true) × (c ≡ true)

-- where a test of three fails
or_three : (a b c : Bool) → (not a || (not b || not c)) ≡ false → AllThree a b c
or_three true true true h = (refl, refl, refl)
or_three true true false h = absurd (true≢false h)
or_three true false c h = absurd (true≢false h)
or_three false b c h = absurd (true≢false h)

-- where a server is the place's, no other is
others_differ : (s o : Server) (there : Option Server) → is_the_server s there ≡ true → same_server s o ≡ false → is_the_server o there ≡ false
others_differ s o None at differs = refl
others_differ s o (Some own) at differs = elim (cases_Bool (same_server o own)) [
  | inr off ↦ off
  | inl same ↦ absurd (true≢false (sym (same_server-refl s) ∙ ap (same_server s) (same_server-is s own at ∙ sym (same_server-is o own same)) ∙ differs))
]

-- of the live servers one isn't that at which the region failed to open, where it matters
free_one : (J : Past) (place : Place) → has_live J ≡ true → (server : Server) × (is_live J server ≡ true) × (is_another J place server ≡ true)
free_one J place any = by (found_in (is_live J) (servers_of J) any)
  where
    other : (s : Server) → AllThree (is_state place_is.FailedOpen place) (is_the_server s place.server) (has_other_live J s) → (server : Server) × (is_live J server ≡ true) × (is_another J place server ≡ true)
    other s all =
        let o = found_in (λ x. is_live J x && not (same_server s x)) (servers_of J) all.2 in
        let parts = and_parts (is_live J o.0) (not (same_server s o.0)) o.1 in
        let off = others_differ s o.0 place.server all.1 (not-true (same_server s o.0) parts.1) in (
          o.0,
          parts.0,
          or_right (not (is_state place_is.FailedOpen place)) _ (or_left (not (is_the_server o.0 place.server)) (not (has_other_live J o.0)) (not_from_false (is_the_server o.0 place.server) off)),
        )

    by : (s : Server) × (is_live J s ≡ true) → (server : Server) × (is_live J server ≡ true) × (is_another J place server ≡ true)
    by s = elim (cases_Bool (is_another J place s.0)) [
      | inl on ↦ (s.0, s.1, on)
      | inr off ↦ other s.0 (or_three (is_state place_is.FailedOpen place) (is_the_server s.0 place.server) (has_other_live J s.0) off)
    ]

module _ (J : Past) (legal : IsLegal J) (p : ℕ) (node : Node) (is : node_of J p ≡ Some node) (ready : IsReady J p node) where
  running : is_running (phase J p node) ≡ true
  running = elim ready [ inl runs ↦ ap is_running runs | inr waits ↦ ap is_running waits.0 ]

  runs_on : (is_running (own_phase (last_answer J p) (children_ended J p)) ≡ true) × (is_top node.above ≡ true → cause J node.root ≡ None)
  runs_on = table_runs (cause J node.root) (rolled_back J node.root) (is_top node.above) (own_phase (last_answer J p) (children_ended J p)) running

  undoes_not : undoes J p node ≡ false
  undoes_not = elim (cases_Bool (is_top node.above)) [
    | inr below ↦ and_left (is_top node.above) _ below
    | inl top ↦
        let root : node.root ≡ p = (grown_all J legal).tops p node is (top_is node.above top) in
        and_right (is_top node.above) _ (and_left (is_some (cause J p)) (all_stopped J p && not (is_empty (stack J p))) (ap is_some (ap (cause J) (sym root) ∙ runs_on.1 top)))
  ]

  sight : input J p node None ≡ step_input J p node None
  sight = ap (λ b. turn_input J b (stack J p) (step_input J p node None)) undoes_not

  sheet_there : sheet_by J p ≡ sheet_for (sheets_by J node.root) (kind_of node.args)
  sheet_there = ap (λ n. elim n as (λ x. Option Sheet) [ None ↦ None | Some x ↦ sheet_of J p x ]) is

  module _ (needs : needs_server J p node ≡ true) where
    needs_step : picks_by (sheet_for (sheets_by J node.root) (kind_of node.args)) (step_input J p node None) ≡ true
    needs_step = ap (λ s. picks_by s (step_input J p node None)) (sym sheet_there) ∙ ap (λ at. picks_by (sheet_at J at) at) (sym sight) ∙ needs

    -- a request to move has passed its first row
    begun : (region : Region) (to : Option Server) (first : ℕ) → node.args ≡ args_are.Root (request_is.Move region to) first → last_answer J p ≢ None
    begun region to first args none = by (sheet_for (sheets_by J node.root) (kind_of node.args)) refl needs_step
      where
        at : StepIn
        at = step_input J p node None

        row_five : row_after (first_row_of node.args) (last_answer J p) ≡ 5
        row_five = ap (row_after (first_row_of node.args)) none ∙ ap first_row_of args

        by : (o : Option Sheet) → sheet_for (sheets_by J node.root) (kind_of node.args) ≡ o → picks_by o (step_input J p node None) ≡ true → ⊥
        by None e h = false≢true h
        by (Some sheet) e h =
            let valid = sheet_is (sheets_by J node.root) (valid_by J legal node.root) (kind_of node.args) sheet e in
            let rows : sheet.rows ≡ exact_rows 10 = exact_is sheet valid.0 10 (valid.1 ∙ ap kind_of args) _ _ refl in
            false≢true (sym (ap (λ n. picks_at (slice_get sheet.rows n) (step_input J p node None)) row_five ∙ ap (λ l. picks_at (slice_get l 5) (step_input J p node None)) rows) ∙ h)

    -- where a transit that wants a server finds that its region failed to open, it was tried
    tried_before : (to : Server) → wanted_of node.args ≡ Some to → is_state place_is.FailedOpen (told_place (place_if J (moved_by node.args))) ≡ true → 1 ≤ tries_of J p
    tried_before to w fell = by node.args refl w
      where
        moving : (region : Region) (server : Option Server) (first : ℕ) → node.args ≡ args_are.Root (request_is.Move region server) first → 1 ≤ tries_of J p
        moving region server first e =
            let m : moved_by node.args ≡ Some region = ap moved_by e in
            let here : is_state place_is.FailedOpen (place_of J region) ≡ true = ap (λ o. is_state place_is.FailedOpen (told_place (place_if J o))) (sym m) ∙ fell in
            let t = trying_all J legal region (or_right (is_state place_is.Opening (place_of J region)) (is_state place_is.FailedOpen (place_of J region)) here) in
            let going : IsGoing (last_answer J p) = goes_from (last_answer J p) (own_runs (last_answer J p) (children_ended J p) runs_on.0) (begun region server first e) in
            let same : t.p ≡ p = same_Some t.p p (sym t.works ∙ (kept_all J legal).works p region (node, is, m) going) in
            subst (λ k. 1 ≤ tries_of J k) same (t.tried here).1

        asking : (request : Request) (first : ℕ) → node.args ≡ args_are.Root request first → wanted_by_request request ≡ Some to → 1 ≤ tries_of J p
        asking (request_is.Move region server) first e v = moving region server first e
        asking request first e v = absurd (none-some to v)

        by : (a : Args) → node.args ≡ a → wanted_of a ≡ Some to → 1 ≤ tries_of J p
        by (args_are.Root request first) e v = asking request first e v
        by (args_are.Transit region goal server) e v = absurd (none-some to (sym (subst NamesNone e (aimless_all J legal p node is)) ∙ v))
        by a e v = absurd (none-some to v)

    abbrev place : Place
    place = told_place (place_if J (moved_by node.args))

    fits_so : (server : Server) → is_live J server ≡ true → is_as_wanted J (wanted_of node.args) (tries_of J p) server ≡ true → is_another J place server ≡ true → pick_fits J p node server ≡ true
    fits_so server live wanted another =
        ap (λ at. fits_input J at server) sight
        ∙ and_from (is_live J server) (is_as_wanted J (wanted_of node.args) (tries_of J p) server && is_another J place server) live (and_from (is_as_wanted J (wanted_of node.args) (tries_of J p) server) (is_another J place server) wanted another)

    any_fits : has_live J ≡ true → ((server : Server) → is_as_wanted J (wanted_of node.args) (tries_of J p) server ≡ true) → (server : Server) × (pick_fits J p node server ≡ true)
    any_fits any wanted = let s = free_one J place any in (s.0, fits_so s.0 s.1 (wanted s.0) s.2)

    one_fits : has_live J ≡ true → (server : Server) × (pick_fits J p node server ≡ true)
    one_fits any = by (wanted_of node.args) refl
      where
        as_told : (o : Option Server) → wanted_of node.args ≡ o → ((server : Server) → is_as_wanted J o (tries_of J p) server ≡ true) → (server : Server) → is_as_wanted J (wanted_of node.args) (tries_of J p) server ≡ true
        as_told o e each server = ap (λ w. is_as_wanted J w (tries_of J p) server) e ∙ each server

        wanted_fits : (to : Server) → wanted_of node.args ≡ Some to → is_live J to ≡ true → (tries_of J p == 0) ≡ true → (server : Server) × (pick_fits J p node server ≡ true)
        wanted_fits to e live untried = (
          to,
          fits_so to live (ap (λ w. is_as_wanted J w (tries_of J p) to) e ∙ or_right (not (tries_of J p == 0)) _ (or_right (not (is_live J to)) (same_server to to) (same_server-refl to)))
              (or_left (not (is_state place_is.FailedOpen place)) _ (elim (cases_Bool (is_state place_is.FailedOpen place)) [
                | inr off ↦ not_from_false (is_state place_is.FailedOpen place) off
                | inl fell ↦
                    let some = tried_before to e fell in
                    let none : tries_of J p ≡ 0 = eqb-true (tries_of J p) 0 untried in
                    absurd (omega (arith, some, none))
              ])),
        )

        by : (o : Option Server) → wanted_of node.args ≡ o → (server : Server) × (pick_fits J p node server ≡ true)
        by None e = any_fits any (as_told None e (λ server. refl))
        by (Some to) e = elim (cases_Bool (tries_of J p == 0)) [
          | inr tried ↦ any_fits any (as_told (Some to) e (λ server. or_left (not (tries_of J p == 0)) _ (not_from_false (tries_of J p == 0) tried)))
          | inl untried ↦ elim (cases_Bool (is_live J to)) [
            | inl live ↦ wanted_fits to e live untried
            | inr dead ↦ any_fits any (as_told (Some to) e (λ server. or_right (not (tries_of J p == 0)) _ (or_left (not (is_live J to)) (same_server server to) (not_from_false (is_live J to) dead))))
          ]
        ]

-- a server fits where one is needed
pub picks_there : PicksAreThere
picks_there J legal p node is may needs =
    let one : may.0 ≡ node = same_Some may.0 node (sym may.1 ∙ is) in
    one_fits J legal p node is (subst (IsReady J p) one may.2) needs (implied (needs_server J p node) (has_live J) needs (ap (λ n. not (needs_server J p n) || has_live J) (sym one) ∙ may.3))

-- and so there is a pick that is right
pub picks_right : PicksAreRight
picks_right J legal p may = elim (cases_Bool (needs_server J p may.0)) [
  | inr none ↦ (None, (may.0, may.1, not_from_false (needs_server J p may.0) none))
  | inl needs ↦ let there = picks_there J legal p may.0 may.1 may needs in (Some there.0, (may.0, may.1, and_from (needs_server J p may.0) (pick_fits J p may.0 there.0) needs there.1))
]
