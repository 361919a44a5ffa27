-- A region that is neither open nor being opened stays so while no server is live.
use Rattle.std.proofs.Common.{◌≡◌, ◌≢◌, ℕ, zero, suc, ◌&&◌, not, List, [], ◌∷◌, Bool, true, false, cond, Option, Some, None, refl, ap, sym, ◌∙◌, subst, inl, inr, ◌⊎◌, slice_get, arith}
use Rattle.std.specs.List.{list_any}
use Rattle.std.proofs.lemmas.Bool.{and_from, and_parts, and_right, cases_Bool, cases_eq, cond-true, false≢true, or_cases, or_left, or_right, true≢false}
use Rattle.std.proofs.lemmas.Option.{none-some, same_Some}
use Rattle.hm_names.specs.Region.{Region}
use Rattle.hm_names.specs.Server.{Server}
use Rattle.hm_names.specs.declared.pid.Pid.{Pid}
use Rattle.hm_data.specs.declared.act.Act.TheVariants as act_is
use Rattle.hm_data.specs.declared.answer.Cause.{Cause}
use Rattle.hm_data.specs.declared.args.Args.{Args}
use Rattle.hm_data.specs.declared.args.Args.TheVariants as args_are
use Rattle.hm_data.specs.declared.args.Child.TheVariants as child_is
use Rattle.hm_data.specs.declared.call.Told.TheVariants as told_is
use Rattle.hm_data.specs.declared.catalog.CatKey.TheVariants as key_is
use Rattle.hm_data.specs.declared.entry.Entry.TheVariants as entry_is
use Rattle.hm_data.specs.declared.place.Place.{Place}
use Rattle.hm_data.specs.declared.place.RegionState.TheVariants as place_is
use Rattle.hm_data.specs.declared.sheet.Row.{Row}
use Rattle.hm_data.specs.declared.sheet.Sheet.{Sheet}
use Rattle.hm_data.specs.declared.step.StepIn.{StepIn}
use Rattle.hm_data.specs.declared.step.StepOut.{StepOut}
use Rattle.hm_model.specs.Acts.{act_answer}
use Rattle.hm_model.specs.Answers.{is_aborted, last_answer, row_after, row_of}
use Rattle.hm_model.specs.Catalog.{row_at}
use Rattle.hm_model.specs.Checks.{region_ready}
use Rattle.hm_model.specs.Evaluation.{is_picking, picks_at, wants_server}
use Rattle.hm_model.specs.Fleet.{has_live, is_live, same_server, servers_of}
use Rattle.hm_model.specs.Holding.{IsFree}
use Rattle.hm_model.specs.Inputs.{place_if, step_input}
use Rattle.hm_model.specs.Journal.{Past}
use Rattle.hm_model.specs.Kinds.{first_row_of, kind_of}
use Rattle.hm_model.specs.Lists.{exact_rows, fixed}
use Rattle.hm_model.specs.Outs.{checked, given, spawns}
use Rattle.hm_model.specs.Picks.{is_pick_right}
use Rattle.hm_model.specs.Places.{place_of, placed_by, region_if}
use Rattle.hm_model.specs.Reports.{is_the_region}
use Rattle.hm_model.specs.Rules.{IsLegal}
use Rattle.hm_model.specs.Sheets.{next_row, row_in, sheet_for, sheets_by}
use Rattle.hm_model.specs.TransitActs.{candidate, close_at, close_or_go, closed_or_lost, is_open, is_placed, is_state, is_told, lost_if, may_open_in, nowhere, opened_or_not, told_place}
use Rattle.hm_model.specs.Tree.{Node, node_of}
use Rattle.hm_model.specs.Views.{region_of}
use Rattle.hm_model.specs.Wanted.{goal_in}
use Rattle.hm_model.specs.Whereabouts.{moved_by}
use Rattle.hm_model.proofs.CameUp.{live_came}
use Rattle.hm_model.proofs.ExactRows.{exact_is, sheet_is, valid_by}
use Rattle.hm_model.proofs.KeyTests.{same_region-refl}
use Rattle.hm_model.proofs.LegalSteps.{StepFacts, ready_stops}
use Rattle.hm_model.proofs.NameTies.{same_server-is}
use Rattle.hm_model.proofs.Trees.{Grown, grown_all}
use Rattle.hm_single.specs.Calls.{NextIs}
use Rattle.hm_single.proofs.All.{kept_all, place_by_row}
use Rattle.hm_single.proofs.Kin.{goes_holds, transits_conflict}
use Rattle.hm_single.proofs.Own.{cut_or, does, step}
use Rattle.hm_single.proofs.Placing.{moved_kind, own_row}
use Rattle.hm_single.proofs.Rows.{first_free}
use Rattle.hm_single.proofs.Stage.{moved_region, the_region}
use Rattle.hm_single.proofs.Transit.{IsFreeRow}
use Rattle.hm_single.proofs.Unassigned.{place_same, shut_all}
use Rattle.hm_single.proofs.Kept.{goes_from}
use Rattle.hm_tied.specs.Tied.{is_opening}

-- one that is live is among those that came up
pub any_live : (J : Past) (server : Server) (list : List Server) → is_live J server ≡ true → list_any (λ other. same_server server other) list ≡ true → list_any (is_live J) list ≡ true
any_live J server [] live came = absurd (false≢true came)
any_live J server (other ∷ more) live came = elim (or_cases (same_server server other) (list_any (λ x. same_server server x) more) came) [
  | inl same ↦ or_left (is_live J other) (list_any (is_live J) more) (ap (is_live J) (sym (same_server-is server other same)) ∙ live)
  | inr later ↦ or_right (is_live J other) (list_any (is_live J) more) (any_live J server more live later)
]

-- a transit begins at a row at which it looks at its place
pub not_second : (n : ℕ) → IsFreeRow n → n ≡ 2 → ⊥
not_second n (inl e) two = omega (arith, e, two)
not_second n (inr (inl e)) two = omega (arith, e, two)
not_second n (inr (inr e)) two = omega (arith, e, two)

-- what a step says of places: a region comes to be open only where it was being opened, and to be being opened only while a
-- server is live
abbrev Says : Past → Region → Place → Type 0
Says J region here =
    (is_state place_is.Opened here ≡ true → is_state place_is.Opening (place_of J region) ≡ true)
    × (is_state place_is.Opening here ≡ true → has_live J ≡ true)

module _ (J : Past) (region : Region) (here : Place) where
  says_other : (place : Place) → Some place ≡ Some here → is_state place_is.Opened place ≡ false → is_state place_is.Opening place ≡ false → Says J region here
  says_other place e opened opening = (
    (λ h. absurd (true≢false (sym h ∙ ap (is_state place_is.Opened) (sym (same_Some place here e)) ∙ opened))),
    (λ h. absurd (true≢false (sym h ∙ ap (is_state place_is.Opening) (sym (same_Some place here e)) ∙ opening))),
  )

  says_lost : (b : Bool) → lost_if b ≡ Some here → Says J region here
  says_lost false e = absurd (none-some here e)
  says_lost true e = says_other (nowhere place_is.AbnormallyClosed) e refl refl

  says_candidate : (may opened : Bool) (place : Place) (fenced : Bool) (pick : Option Server) → is_open place fenced ≡ opened → (may ≡ true → opened ≡ false → has_live J ≡ true)
      → (candidate 1 may place fenced pick).place ≡ Some here → Says J region here
  says_candidate false opened place fenced pick is live e = says_lost (is_placed place && fenced) e
  says_candidate true opened place fenced pick is live e = by opened is (live refl)
    where
      opens : Place
      opens = record { state = place_is.Opening; server = pick }

      by : (b : Bool) → is_open place fenced ≡ b → (b ≡ false → has_live J ≡ true) → Says J region here
      by true on live = absurd (none-some here (sym (ap (λ b. cond b None (Some opens)) on) ∙ by_cond (is_open place fenced) e))
        where
          by_cond : (b : Bool) → (cond b (Rattle.hm_model.specs.Outs.ends_with told_is.Nothing) (Rattle.hm_model.specs.Outs.places (Rattle.hm_data.specs.declared.answer.Answer.TheVariants.More 1) (Some opens))).place ≡ Some here → cond b None (Some opens) ≡ Some here
          by_cond true h = h
          by_cond false h = h
      by false off live =
          let same : opens ≡ here = same_Some opens here (sym (ap (λ b. cond b None (Some opens)) off) ∙ by_cond (is_open place fenced) e) in (
            (λ h. absurd (false≢true (ap (is_state place_is.Opened) same ∙ h))),
            (λ h. live refl),
          )
        where
          by_cond : (b : Bool) → (cond b (Rattle.hm_model.specs.Outs.ends_with told_is.Nothing) (Rattle.hm_model.specs.Outs.places (Rattle.hm_data.specs.declared.answer.Answer.TheVariants.More 1) (Some opens))).place ≡ Some here → cond b None (Some opens) ≡ Some here
          by_cond true h = h
          by_cond false h = h

  says_confirm : (next : ℕ) (server : Option Server) (b : Bool) → is_state place_is.Opening (place_of J region) ≡ true → (opened_or_not next server b).place ≡ Some here → Says J region here
  says_confirm next server true was e = ((λ h. was), (λ h. absurd (false≢true (ap (is_state place_is.Opening) (same_Some (record { state = place_is.Opened; server = server }) here e) ∙ h))))
  says_confirm next server false was e = says_other (record { state = place_is.FailedOpen; server = server }) e refl refl

  says_close : (next : ℕ) (at : StepIn) (own : Region) (b : Bool) → (close_or_go next (goal_in at.args) own (told_place at.place) b).place ≡ Some here → Says J region here
  says_close next at own false e = says_lost (is_state place_is.Opened (told_place at.place)) e
  says_close next at own true e = by (told_place at.place).server e
    where
      by : (o : Option Server) → (given o next (close_at next own)).place ≡ Some here → Says J region here
      by None e = absurd (none-some here e)
      by (Some server) e = says_other (record { state = place_is.Closing; server = Some server }) e refl refl

  says_closed : (b : Bool) → Some (nowhere (closed_or_lost b)) ≡ Some here → Says J region here
  says_closed true e = says_other (nowhere place_is.Closed) e refl refl
  says_closed false e = says_other (nowhere place_is.AbnormallyClosed) e refl refl

  spawns_none : (own : Region) (o : Option Server) → (given o 2 (λ server. spawns 2 (child_is.One (args_are.AssignCall own server) ∷ []))).place ≡ Some here → ⊥
  spawns_none own None e = none-some here e
  spawns_none own (Some server) e = none-some here e

  check_none : (c : Option Cause) → (checked 3 c).place ≡ Some here → ⊥
  check_none None e = none-some here e
  check_none (Some cause) e = none-some here e

module _ (pid : Pid) (pick : Option Server) (out : StepOut) (J : Past) (legal : IsLegal (entry_is.Step pid pick out ∷ J)) where
  abbrev after : Past
  after = entry_is.Step pid pick out ∷ J

  abbrev its : StepFacts J pid.0 pick out
  its = step pid pick out J legal

  grown : Grown J
  grown = grown_all J legal.0

  abbrev at : StepIn
  at = step_input J pid.0 its.node pick

  abbrev bare : StepIn
  bare = step_input J pid.0 its.node None

  -- of the region that the step's transit moves
  module _ (region : Region) (m : moved_by its.node.args ≡ Some region) where
    own : region_of its.node.args ≡ Some region
    own = (moved_region its.node.args region m).0

    row_here : slice_get (exact_rows 10) (row_of J pid.0 its.node) ≡ Some its.row
    row_here = own_row pid pick out J grown (kept_all J legal.0) its (does pid pick out J legal) region m

    -- where a server was picked, it is live
    picked : its.row ≡ fixed act_is.GetAssignCandidate 1 true → may_open_in at.rows region ≡ true → is_open (told_place at.place) at.fenced ≡ false → has_live J ≡ true
    picked row may shut = by pick (subst (λ b. is_pick_right J pid.0 its.node pick b ≡ true) needed its.right)
      where
        needed : picks_at (Some its.row) bare ≡ true
        needed =
            ap (λ (r : Row). picks_at (Some r) bare) row
            ∙ ap (λ b. not b && wants_server (region_of its.node.args) bare) (and_right (is_aborted J pid.0) false refl)
            ∙ ap (λ o. wants_server o bare) own
            ∙ and_from (may_open_in at.rows region) (not (is_open (told_place at.place) at.fenced)) may (ap not shut)

        by : (o : Option Server) → is_pick_right J pid.0 its.node o true ≡ true → has_live J ≡ true
        by None h = absurd (false≢true h)
        by (Some server) h =
            let live = (and_parts (is_live J server) _ h).0 in
            any_live J server (servers_of J) live (live_came J server live)

    begun : row_of J pid.0 its.node ≡ 2 → last_answer J pid.0 ≢ None
    begun two none = not_second (first_row_of its.node.args) (first_free its.node.args region m) (sym (ap (row_after (first_row_of its.node.args)) none) ∙ two)

    was_opening : row_of J pid.0 its.node ≡ 2 → is_state place_is.Opening (place_of J region) ≡ true
    was_opening two = (place_by_row J legal.0 region).0.1 (inr (
      pid.0,
      its.node,
      its.node_is,
      m,
      goes_holds J grown (kept_all J legal.0) pid.0 region (its.node, its.node_is, m) (goes_from (last_answer J pid.0) (ready_stops J pid.0 its.node (last_answer J pid.0) its.ready) (begun two)),
      two,
    ))

    says_by : (here : Place) (n : ℕ) → row_of J pid.0 its.node ≡ n → slice_get (exact_rows 10) n ≡ Some its.row → (act_answer its.row.act its.row.next at).place ≡ Some here → Says J region here
    says_by here zero n is e =
        let row : its.row ≡ fixed act_is.GetAssignCandidate 1 true = sym (same_Some (fixed act_is.GetAssignCandidate 1 true) its.row is) in
        says_candidate J region here (may_open_in at.rows region) (is_open (told_place at.place) at.fenced) (told_place at.place) at.fenced at.pick refl (picked row)
        (sym (ap (λ o. (given o 1 (λ r. candidate 1 (may_open_in at.rows r) (told_place at.place) at.fenced at.pick)).place) own) ∙ sym (ap (λ (r : Row). (act_answer r.act r.next at).place) row) ∙ e)
    says_by here (suc zero) n is e =
        let row : its.row ≡ fixed act_is.Open 2 true = sym (same_Some (fixed act_is.Open 2 true) its.row is) in
        absurd (spawns_none J region here region (told_place at.place).server
        (sym (ap (λ o. (given o 2 (λ r. given (told_place at.place).server 2 (λ server. spawns 2 (child_is.One (args_are.AssignCall r server) ∷ [])))).place) own) ∙ sym (ap (λ (r : Row). (act_answer r.act r.next at).place) row) ∙ e))
    says_by here (suc (suc zero)) n is e =
        let row : its.row ≡ fixed act_is.ConfirmOpened 0 true = sym (same_Some (fixed act_is.ConfirmOpened 0 true) its.row is) in
        says_confirm J region here 0 (told_place at.place).server (is_told told_is.Opened at.ends) (was_opening n) (sym (ap (λ (r : Row). (act_answer r.act r.next at).place) row) ∙ e)
    says_by here (suc (suc (suc zero))) n is e =
        let row : its.row ≡ fixed act_is.Close 4 true = sym (same_Some (fixed act_is.Close 4 true) its.row is) in
        says_close J region here 4 at region (is_open (told_place at.place) at.fenced)
        (sym (ap (λ o. (given o 4 (λ r. close_or_go 4 (goal_in at.args) r (told_place at.place) (is_open (told_place at.place) at.fenced))).place) own) ∙ sym (ap (λ (r : Row). (act_answer r.act r.next at).place) row) ∙ e)
    says_by here (suc (suc (suc (suc zero)))) n is e =
        let row : its.row ≡ fixed act_is.ConfirmClosed 0 true = sym (same_Some (fixed act_is.ConfirmClosed 0 true) its.row is) in
        says_closed J region here (is_told told_is.Closed at.ends) (sym (ap (λ (r : Row). (act_answer r.act r.next at).place) row) ∙ e)
    says_by here (suc (suc (suc (suc (suc zero))))) n is e =
        let row : its.row ≡ fixed act_is.CheckMove 3 false = sym (same_Some (fixed act_is.CheckMove 3 false) its.row is) in
        absurd (check_none J region here (region_ready (row_at at.rows (key_is.Table region.table)) (row_at at.rows (key_is.Region region)))
        (sym (ap (λ o. (given o 3 (λ r. checked 3 (region_ready (row_at at.rows (key_is.Table r.table)) (row_at at.rows (key_is.Region r))))).place) own) ∙ sym (ap (λ (r : Row). (act_answer r.act r.next at).place) row) ∙ e))
    says_by here (suc (suc (suc (suc (suc (suc n)))))) at_row is e = absurd (none-some its.row is)

    says : (here : Place) → out.place ≡ Some here → Says J region here
    says here e = elim (cut_or pid pick out J legal) [
      | inl cut ↦ absurd (none-some here (ap (λ (o : StepOut). o.place) (sym cut) ∙ e))
      | inr acts ↦ says_by here (row_of J pid.0 its.node) refl row_here (ap (λ (o : StepOut). o.place) (sym acts) ∙ e)
    ]

    place_now : (here : Place) → out.place ≡ Some here → place_of after region ≡ here
    place_now here e =
        ap (λ n. placed_by region (region_if n) out.place (place_of J region)) its.node_is
        ∙ ap (λ o. placed_by region (region_of its.node.args) o (place_of J region)) e
        ∙ cond-true (is_the_region region (region_of its.node.args)) here (place_of J region) (ap (is_the_region region) own ∙ same_region-refl region)

  -- the place that a transit sees stays, or becomes one that isn't open
  abbrev Stays : Option Region → Type 0
  Stays o = ((place_if after o ≡ place_if J o) ⊎ (is_state place_is.Opened (told_place (place_if after o)) ≡ false)) × (is_state place_is.Opening (told_place (place_if after o)) ≡ false)

  stays_same : (region : Region) → is_state place_is.Opening (place_of J region) ≡ false → place_of after region ≡ place_of J region → Stays (Some region)
  stays_same region off same = (inl (ap (λ p. Some p) same), ap (is_state place_is.Opening) same ∙ off)

  stays_of : (o : Option Region) → is_state place_is.Opening (told_place (place_if J o)) ≡ false → has_live J ≡ false → Stays o
  stays_of None off dead = (inl refl, refl)
  stays_of (Some region) off dead = elim (the_region region (moved_by its.node.args)) [
    | inr away ↦ stays_same region off (place_same pid pick out J legal (shut_all J legal.0) region away)
    | inl m ↦ by m out.place refl
  ]
    where
      by : (m : moved_by its.node.args ≡ Some region) (o : Option Place) → out.place ≡ o → Stays (Some region)
      by m None e = stays_same region off (ap (λ given. placed_by region (region_if (node_of J pid.0)) given (place_of J region)) e)
      by m (Some here) e =
          let said = says region m here e in
          let now = place_now region m here e in (
            inr (ap (is_state place_is.Opened) now ∙ elim (cases_Bool (is_state place_is.Opened here)) [ inr shut ↦ shut | inl on ↦ absurd (true≢false (sym (said.0 on) ∙ off)) ]),
            ap (is_state place_is.Opening) now ∙ elim (cases_Bool (is_state place_is.Opening here)) [ inr shut ↦ shut | inl on ↦ absurd (true≢false (sym (said.1 on) ∙ dead)) ],
          )

  pub place_stays : (args : Args) → is_opening J args ≡ false → has_live J ≡ false → Stays (moved_by args)
  place_stays args = stays_of (moved_by args)

-- who conflicts with none that holds, and whose next step places its region, finds that it isn't being opened
pub unopening : (J : Past) → IsLegal J → (p : ℕ) (x : Node) → node_of J p ≡ Some x → IsFree J [] p → (row : Row) → next_row J p x ≡ Some row → is_picking row.act ≡ true → is_opening J x.args ≡ false
unopening J legal p x is free row next picks = by (moved_by x.args) refl
  where
    rows_of : (region : Region) → moved_by x.args ≡ Some region → slice_get (exact_rows 10) (row_of J p x) ≡ Some row
    rows_of region m = at_sheet (sheet_for (sheets_by J x.root) (kind_of x.args)) refl next
      where
        at_sheet : (o : Option Sheet) → sheet_for (sheets_by J x.root) (kind_of x.args) ≡ o → row_in o (row_of J p x) ≡ Some row → slice_get (exact_rows 10) (row_of J p x) ≡ Some row
        at_sheet None found here = absurd (none-some row here)
        at_sheet (Some sheet) found here =
            let valid = sheet_is (sheets_by J x.root) (valid_by J legal x.root) (kind_of x.args) sheet found in
            ap (λ l. slice_get l (row_of J p x)) (sym (exact_is sheet valid.0 10 (valid.1 ∙ moved_kind x.args region m) _ _ refl)) ∙ here

    off_row : (r : Row) → Some r ≡ Some row → is_picking r.act ≡ false → ⊥
    off_row r e off = true≢false (sym picks ∙ ap (λ (s : Row). is_picking s.act) (sym (same_Some r row e)) ∙ off)

    clash : (region : Region) → moved_by x.args ≡ Some region → (n : ℕ) → (fixed_row : Row) → slice_get (exact_rows 10) n ≡ Some fixed_row → is_picking fixed_row.act ≡ false → NextIs J region n → ⊥
    clash region m n fixed_row at off next_is = elim (cases_eq p next_is.0) [
      | inl same ↦
          let one : next_is.1 ≡ x = same_Some next_is.1 x (sym next_is.2 ∙ ap (node_of J) (sym same) ∙ is) in
          let here : row_of J p x ≡ n = ap (row_of J p) (sym one) ∙ ap (λ q. row_of J q next_is.1) same ∙ next_is.5 in
          off_row fixed_row (sym at ∙ ap (slice_get (exact_rows 10)) (sym here) ∙ rows_of region m) off
      | inr differs ↦ free next_is.0 next_is.4 (transits_conflict J (grown_all J legal) p next_is.0 region differs (x, is, m) (next_is.1, next_is.2, next_is.3))
    ]

    by : (o : Option Region) → moved_by x.args ≡ o → is_opening J x.args ≡ false
    by None e = ap (λ o. is_state place_is.Opening (told_place (place_if J o))) e
    by (Some region) e = ap (λ o. is_state place_is.Opening (told_place (place_if J o))) e ∙ elim (cases_Bool (is_state place_is.Opening (place_of J region))) [
      | inr off ↦ off
      | inl on ↦ absurd (elim ((place_by_row J legal region).0.0 on) [
        | inl one ↦ clash region e 1 (fixed act_is.Open 2 true) refl refl one
        | inr two ↦ clash region e 2 (fixed act_is.ConfirmOpened 0 true) refl refl two
      ])
    ]
