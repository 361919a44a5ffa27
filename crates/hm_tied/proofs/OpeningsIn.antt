-- A region that is neither open nor being opened stays so while no server is live.
use Rattle.std.proofs.Common.{◌≡◌, ◌≢◌, ℕ, zero, suc, ◌&&◌, ◌||◌, not, [], ◌∷◌, Bool, true, false, cond, Option, Some, None, refl, ap, sym, ◌∙◌, subst, inl, inr, ◌⊎◌, slice_get, arith}
use Rattle.std.proofs.lemmas.Bool.{and_from, and_parts, and_right, cases_Bool, cond-true, eqb-true, false≢true, or_cases, true≢false}
use Rattle.std.proofs.lemmas.Option.{none-some, same_Some}
use Rattle.hm_names.specs.Region.{Region}
use Rattle.hm_names.specs.Server.{Server}
use Rattle.hm_names.specs.declared.pid.Pid.{Pid}
use Rattle.hm_data.specs.declared.act.Act.TheVariants as act_is
use Rattle.hm_data.specs.declared.answer.Cause.{Cause}
use Rattle.hm_data.specs.declared.args.Args.{Args}
use Rattle.hm_data.specs.declared.args.Args.TheVariants as args_are
use Rattle.hm_data.specs.declared.args.Child.TheVariants as child_is
use Rattle.hm_data.specs.declared.call.Told.TheVariants as told_is
use Rattle.hm_data.specs.declared.catalog.CatKey.TheVariants as key_is
use Rattle.hm_data.specs.declared.entry.Entry.TheVariants as entry_is
use Rattle.hm_data.specs.declared.place.Place.{Place}
use Rattle.hm_data.specs.declared.place.RegionState.{RegionState}
use Rattle.hm_data.specs.declared.place.RegionState.TheVariants as place_is
use Rattle.hm_data.specs.Numbers.{region_state_number}
use Rattle.hm_data.specs.declared.sheet.Row.{Row}
use Rattle.hm_data.specs.declared.step.StepIn.{StepIn}
use Rattle.hm_data.specs.declared.step.StepOut.{StepOut}
use Rattle.hm_model.specs.Acts.{act_answer}
use Rattle.hm_model.specs.Answers.{is_aborted, last_answer, row_after, row_of}
use Rattle.hm_model.specs.Catalog.{row_at}
use Rattle.hm_model.specs.Checks.{region_ready}
use Rattle.hm_model.specs.Evaluation.{picks_at, wants_server}
use Rattle.hm_model.specs.Inputs.{place_if, step_input}
use Rattle.hm_model.specs.Journal.{Past}
use Rattle.hm_model.specs.Kinds.{first_row_of}
use Rattle.hm_model.specs.Lists.{exact_rows, fixed}
use Rattle.hm_model.specs.Outs.{checked, given, spawns}
use Rattle.hm_model.specs.Picks.{is_pick_right, pick_fits}
use Rattle.hm_model.specs.Places.{place_of, placed_by, region_if}
use Rattle.hm_model.specs.Reports.{is_the_region}
use Rattle.hm_model.specs.Rules.{IsLegal}
use Rattle.hm_model.specs.TransitActs.{candidate, close_at, close_or_go, closed_or_lost, is_open, is_placed, is_state, is_told, lost_if, may_open_in, nowhere, opened_or_not, told_place}
use Rattle.hm_model.specs.Tree.{node_of}
use Rattle.hm_model.specs.Views.{region_of}
use Rattle.hm_model.specs.Wanted.{goal_in}
use Rattle.hm_model.specs.Whereabouts.{moved_by}
use Rattle.hm_model.proofs.KeyTests.{same_region-refl}
use Rattle.hm_model.proofs.LegalSteps.{StepFacts, ready_stops}
use Rattle.hm_model.proofs.Trees.{Grown, grown_all}
use Rattle.hm_single.proofs.All.{kept_all, place_by_row}
use Rattle.hm_single.proofs.Kin.{goes_holds}
use Rattle.hm_single.proofs.Own.{cut_or, does, step}
use Rattle.hm_single.proofs.Placing.{own_row}
use Rattle.hm_single.proofs.Rows.{first_free}
use Rattle.hm_single.proofs.Stage.{moved_region, the_region}
use Rattle.hm_single.proofs.Transit.{IsFreeRow}
use Rattle.hm_single.proofs.Unassigned.{place_same, shut_all}
use Rattle.hm_single.proofs.Kept.{goes_from}
use Rattle.hm_tied.specs.Tied.{is_opening}
use Rattle.hm_tied.proofs.Openings.{not_second}

-- a place is in one state
one_state : (place : Place) (a b : RegionState) → region_state_number a ≢ region_state_number b → is_state a place ≡ true → is_state b place ≡ true → ⊥
one_state place a b differ on also =
    differ (sym (eqb-true (region_state_number place.state) (region_state_number a) on) ∙ eqb-true (region_state_number place.state) (region_state_number b) also)

not_fourth : (n : ℕ) → IsFreeRow n → n ≡ 4 → ⊥
not_fourth n (inl e) four = omega (arith, e, four)
not_fourth n (inr (inl e)) four = omega (arith, e, four)
not_fourth n (inr (inr e)) four = omega (arith, e, four)

-- what a step says of places: a region comes to be open only where it was being opened, and to be being opened only where a server
-- was picked; and where it failed to open it comes to nothing but to be being opened
abbrev Says : Past → Region → Place → Type 0 → Type 0
Says J region here Picked =
    (is_state place_is.Opened here ≡ true → is_state place_is.Opening (place_of J region) ≡ true)
    × (is_state place_is.Opening here ≡ true → Picked)
    × (is_state place_is.FailedOpen (place_of J region) ≡ true → is_state place_is.Opening here ≡ true)

module _ (J : Past) (region : Region) (here : Place) (Picked : Type 0) where
  says_other : (place : Place) → Some place ≡ Some here → is_state place_is.Opened place ≡ false → is_state place_is.Opening place ≡ false → (is_state place_is.FailedOpen (place_of J region) ≡ true → ⊥) → Says J region here Picked
  says_other place e opened opening unfailed = (
    (λ h. absurd (true≢false (sym h ∙ ap (is_state place_is.Opened) (sym (same_Some place here e)) ∙ opened))),
    (λ h. absurd (true≢false (sym h ∙ ap (is_state place_is.Opening) (sym (same_Some place here e)) ∙ opening))),
    (λ f. absurd (unfailed f)),
  )

  says_lost : (b : Bool) → (b ≡ true → is_state place_is.FailedOpen (place_of J region) ≡ true → ⊥) → lost_if b ≡ Some here → Says J region here Picked
  says_lost false unfailed e = absurd (none-some here e)
  says_lost true unfailed e = says_other (nowhere place_is.AbnormallyClosed) e refl refl (unfailed refl)

  -- a place that is lost was one
  placed_failed : (place : Place) (fenced : Bool) → place ≡ place_of J region → (is_placed place && fenced) ≡ true → is_state place_is.FailedOpen (place_of J region) ≡ true → ⊥
  placed_failed place fenced same on failed =
      let failed_here : is_state place_is.FailedOpen place ≡ true = ap (is_state place_is.FailedOpen) same ∙ failed in
      elim (or_cases (is_state place_is.Opening place) (is_state place_is.Opened place || is_state place_is.Closing place) (and_parts (is_placed place) fenced on).0) [
        | inl opening ↦ one_state place place_is.Opening place_is.FailedOpen (λ e. omega (arith, e)) opening failed_here
        | inr more ↦ elim (or_cases (is_state place_is.Opened place) (is_state place_is.Closing place) more) [
          | inl opened ↦ one_state place place_is.Opened place_is.FailedOpen (λ e. omega (arith, e)) opened failed_here
          | inr closing ↦ one_state place place_is.Closing place_is.FailedOpen (λ e. omega (arith, e)) closing failed_here
        ]
      ]

  says_candidate : (may opened : Bool) (place : Place) (fenced : Bool) (pick : Option Server) → place ≡ place_of J region → is_open place fenced ≡ opened → (may ≡ true → opened ≡ false → Picked)
      → (candidate 1 may place fenced pick).place ≡ Some here → Says J region here Picked
  says_candidate false opened place fenced pick same is live e = says_lost (is_placed place && fenced) (placed_failed place fenced same) e
  says_candidate true opened place fenced pick same is live e = by opened is (live refl)
    where
      opens : Place
      opens = record { state = place_is.Opening; server = pick }

      by : (b : Bool) → is_open place fenced ≡ b → (b ≡ false → Picked) → Says J region here Picked
      by true on live = absurd (none-some here (sym (ap (λ b. cond b None (Some opens)) on) ∙ by_cond (is_open place fenced) e))
        where
          by_cond : (b : Bool) → (cond b (Rattle.hm_model.specs.Outs.ends_with told_is.Nothing) (Rattle.hm_model.specs.Outs.places (Rattle.hm_data.specs.declared.answer.Answer.TheVariants.More 1) (Some opens))).place ≡ Some here → cond b None (Some opens) ≡ Some here
          by_cond true h = h
          by_cond false h = h
      by false off live =
          let same : opens ≡ here = same_Some opens here (sym (ap (λ b. cond b None (Some opens)) off) ∙ by_cond (is_open place fenced) e) in (
            (λ h. absurd (false≢true (ap (is_state place_is.Opened) same ∙ h))),
            (λ h. live refl),
            (λ f. ap (is_state place_is.Opening) (sym same)),
          )
        where
          by_cond : (b : Bool) → (cond b (Rattle.hm_model.specs.Outs.ends_with told_is.Nothing) (Rattle.hm_model.specs.Outs.places (Rattle.hm_data.specs.declared.answer.Answer.TheVariants.More 1) (Some opens))).place ≡ Some here → cond b None (Some opens) ≡ Some here
          by_cond true h = h
          by_cond false h = h

  says_confirm : (next : ℕ) (server : Option Server) (b : Bool) → is_state place_is.Opening (place_of J region) ≡ true → (opened_or_not next server b).place ≡ Some here → Says J region here Picked
  says_confirm next server true was e = (
    (λ h. was),
    (λ h. absurd (false≢true (ap (is_state place_is.Opening) (same_Some (record { state = place_is.Opened; server = server }) here e) ∙ h))),
    (λ f. absurd (one_state (place_of J region) place_is.Opening place_is.FailedOpen (λ n. omega (arith, n)) was f)),
  )
  says_confirm next server false was e = says_other (record { state = place_is.FailedOpen; server = server }) e refl refl (one_state (place_of J region) place_is.Opening place_is.FailedOpen (λ n. omega (arith, n)) was)

  opened_failed : (place : Place) → place ≡ place_of J region → is_state place_is.Opened place ≡ true → is_state place_is.FailedOpen (place_of J region) ≡ true → ⊥
  opened_failed place same on = one_state (place_of J region) place_is.Opened place_is.FailedOpen (λ n. omega (arith, n)) (ap (is_state place_is.Opened) (sym same) ∙ on)

  says_close : (next : ℕ) (at : StepIn) (own : Region) → told_place at.place ≡ place_of J region → (b : Bool) → (b ≡ true → is_state place_is.FailedOpen (place_of J region) ≡ true → ⊥)
      → (close_or_go next (goal_in at.args) own (told_place at.place) b).place ≡ Some here → Says J region here Picked
  says_close next at own same false unfailed e = says_lost (is_state place_is.Opened (told_place at.place)) (opened_failed (told_place at.place) same) e
  says_close next at own same true unfailed e = by (told_place at.place).server e
    where
      by : (o : Option Server) → (given o next (close_at next own)).place ≡ Some here → Says J region here Picked
      by None e = absurd (none-some here e)
      by (Some server) e = says_other (record { state = place_is.Closing; server = Some server }) e refl refl (unfailed refl)

  says_closed : (b : Bool) → is_state place_is.Closing (place_of J region) ≡ true → Some (nowhere (closed_or_lost b)) ≡ Some here → Says J region here Picked
  says_closed true was e = says_other (nowhere place_is.Closed) e refl refl (one_state (place_of J region) place_is.Closing place_is.FailedOpen (λ n. omega (arith, n)) was)
  says_closed false was e = says_other (nowhere place_is.AbnormallyClosed) e refl refl (one_state (place_of J region) place_is.Closing place_is.FailedOpen (λ n. omega (arith, n)) was)

  spawns_none : (own : Region) (o : Option Server) → (given o 2 (λ server. spawns 2 (child_is.One (args_are.AssignCall own server) ∷ []))).place ≡ Some here → ⊥
  spawns_none own None e = none-some here e
  spawns_none own (Some server) e = none-some here e

  check_none : (c : Option Cause) → (checked 3 c).place ≡ Some here → ⊥
  check_none None e = none-some here e
  check_none (Some cause) e = none-some here e

module _ (pid : Pid) (pick : Option Server) (out : StepOut) (J : Past) (legal : IsLegal (entry_is.Step pid pick out ∷ J)) where
  abbrev after : Past
  after = entry_is.Step pid pick out ∷ J

  abbrev its : StepFacts J pid.0 pick out
  its = step pid pick out J legal

  grown : Grown J
  grown = grown_all J legal.0

  abbrev at : StepIn
  at = step_input J pid.0 its.node pick

  abbrev bare : StepIn
  bare = step_input J pid.0 its.node None

  -- a server was picked that fits
  abbrev pub IsPicked : Type 0
  IsPicked = (server : Server) × (pick ≡ Some server) × (pick_fits J pid.0 its.node server ≡ true)

  -- of the region that the step's transit moves
  module _ (region : Region) (m : moved_by its.node.args ≡ Some region) where
    own : region_of its.node.args ≡ Some region
    own = (moved_region its.node.args region m).0

    row_here : slice_get (exact_rows 10) (row_of J pid.0 its.node) ≡ Some its.row
    row_here = own_row pid pick out J grown (kept_all J legal.0) its (does pid pick out J legal) region m

    -- the place that it sees
    place_seen : told_place at.place ≡ place_of J region
    place_seen = ap (λ o. told_place (place_if J o)) m

    -- where a server was picked, it fits
    picked : its.row ≡ fixed act_is.GetAssignCandidate 1 true → may_open_in at.rows region ≡ true → is_open (told_place at.place) at.fenced ≡ false → IsPicked
    picked row may shut = by pick refl (subst (λ b. is_pick_right J pid.0 its.node pick b ≡ true) needed its.right)
      where
        needed : picks_at (Some its.row) bare ≡ true
        needed =
            ap (λ (r : Row). picks_at (Some r) bare) row
            ∙ ap (λ b. not b && wants_server (region_of its.node.args) bare) (and_right (is_aborted J pid.0) false refl)
            ∙ ap (λ o. wants_server o bare) own
            ∙ and_from (may_open_in at.rows region) (not (is_open (told_place at.place) at.fenced)) may (ap not shut)

        by : (o : Option Server) → pick ≡ o → is_pick_right J pid.0 its.node o true ≡ true → IsPicked
        by None e h = absurd (false≢true h)
        by (Some server) e h = (server, e, h)

    begun : row_of J pid.0 its.node ≡ 2 → last_answer J pid.0 ≢ None
    begun two none = not_second (first_row_of its.node.args) (first_free its.node.args region m) (sym (ap (row_after (first_row_of its.node.args)) none) ∙ two)

    was_opening : row_of J pid.0 its.node ≡ 2 → is_state place_is.Opening (place_of J region) ≡ true
    was_opening two = (place_by_row J legal.0 region).0.1 (inr (
      pid.0,
      its.node,
      its.node_is,
      m,
      goes_holds J grown (kept_all J legal.0) pid.0 region (its.node, its.node_is, m) (goes_from (last_answer J pid.0) (ready_stops J pid.0 its.node (last_answer J pid.0) its.ready) (begun two)),
      two,
    ))

    begun_four : row_of J pid.0 its.node ≡ 4 → last_answer J pid.0 ≢ None
    begun_four four none = not_fourth (first_row_of its.node.args) (first_free its.node.args region m) (sym (ap (row_after (first_row_of its.node.args)) none) ∙ four)

    was_closing : row_of J pid.0 its.node ≡ 4 → is_state place_is.Closing (place_of J region) ≡ true
    was_closing four = (place_by_row J legal.0 region).1.1 (
      pid.0,
      its.node,
      its.node_is,
      m,
      goes_holds J grown (kept_all J legal.0) pid.0 region (its.node, its.node_is, m) (goes_from (last_answer J pid.0) (ready_stops J pid.0 its.node (last_answer J pid.0) its.ready) (begun_four four)),
      four,
    )

    says_by : (here : Place) (n : ℕ) → row_of J pid.0 its.node ≡ n → slice_get (exact_rows 10) n ≡ Some its.row → (act_answer its.row.act its.row.next at).place ≡ Some here → Says J region here IsPicked
    says_by here zero n is e =
        let row : its.row ≡ fixed act_is.GetAssignCandidate 1 true = sym (same_Some (fixed act_is.GetAssignCandidate 1 true) its.row is) in
        says_candidate J region here IsPicked (may_open_in at.rows region) (is_open (told_place at.place) at.fenced) (told_place at.place) at.fenced at.pick place_seen refl (picked row)
        (sym (ap (λ o. (given o 1 (λ r. candidate 1 (may_open_in at.rows r) (told_place at.place) at.fenced at.pick)).place) own) ∙ sym (ap (λ (r : Row). (act_answer r.act r.next at).place) row) ∙ e)
    says_by here (suc zero) n is e =
        let row : its.row ≡ fixed act_is.Open 2 true = sym (same_Some (fixed act_is.Open 2 true) its.row is) in
        absurd (spawns_none J region here IsPicked region (told_place at.place).server
        (sym (ap (λ o. (given o 2 (λ r. given (told_place at.place).server 2 (λ server. spawns 2 (child_is.One (args_are.AssignCall r server) ∷ [])))).place) own) ∙ sym (ap (λ (r : Row). (act_answer r.act r.next at).place) row) ∙ e))
    says_by here (suc (suc zero)) n is e =
        let row : its.row ≡ fixed act_is.ConfirmOpened 0 true = sym (same_Some (fixed act_is.ConfirmOpened 0 true) its.row is) in
        says_confirm J region here IsPicked 0 (told_place at.place).server (is_told told_is.Opened at.ends) (was_opening n) (sym (ap (λ (r : Row). (act_answer r.act r.next at).place) row) ∙ e)
    says_by here (suc (suc (suc zero))) n is e =
        let row : its.row ≡ fixed act_is.Close 4 true = sym (same_Some (fixed act_is.Close 4 true) its.row is) in
        says_close J region here IsPicked 4 at region place_seen (is_open (told_place at.place) at.fenced) (λ on. opened_failed J region here IsPicked (told_place at.place) place_seen (and_parts (is_state place_is.Opened (told_place at.place)) (not at.fenced) on).0)
        (sym (ap (λ o. (given o 4 (λ r. close_or_go 4 (goal_in at.args) r (told_place at.place) (is_open (told_place at.place) at.fenced))).place) own) ∙ sym (ap (λ (r : Row). (act_answer r.act r.next at).place) row) ∙ e)
    says_by here (suc (suc (suc (suc zero)))) n is e =
        let row : its.row ≡ fixed act_is.ConfirmClosed 0 true = sym (same_Some (fixed act_is.ConfirmClosed 0 true) its.row is) in
        says_closed J region here IsPicked (is_told told_is.Closed at.ends) (was_closing n) (sym (ap (λ (r : Row). (act_answer r.act r.next at).place) row) ∙ e)
    says_by here (suc (suc (suc (suc (suc zero))))) n is e =
        let row : its.row ≡ fixed act_is.CheckMove 3 false = sym (same_Some (fixed act_is.CheckMove 3 false) its.row is) in
        absurd (check_none J region here IsPicked (region_ready (row_at at.rows (key_is.Table region.table)) (row_at at.rows (key_is.Region region)))
        (sym (ap (λ o. (given o 3 (λ r. checked 3 (region_ready (row_at at.rows (key_is.Table r.table)) (row_at at.rows (key_is.Region r))))).place) own) ∙ sym (ap (λ (r : Row). (act_answer r.act r.next at).place) row) ∙ e))
    says_by here (suc (suc (suc (suc (suc (suc n)))))) at_row is e = absurd (none-some its.row is)

    says : (here : Place) → out.place ≡ Some here → Says J region here IsPicked
    says here e = elim (cut_or pid pick out J legal) [
      | inl cut ↦ absurd (none-some here (ap (λ (o : StepOut). o.place) (sym cut) ∙ e))
      | inr acts ↦ says_by here (row_of J pid.0 its.node) refl row_here (ap (λ (o : StepOut). o.place) (sym acts) ∙ e)
    ]

    place_now : (here : Place) → out.place ≡ Some here → place_of after region ≡ here
    place_now here e =
        ap (λ n. placed_by region (region_if n) out.place (place_of J region)) its.node_is
        ∙ ap (λ o. placed_by region (region_of its.node.args) o (place_of J region)) e
        ∙ cond-true (is_the_region region (region_of its.node.args)) here (place_of J region) (ap (is_the_region region) own ∙ same_region-refl region)

  -- the place that a transit sees stays, or is one that didn't fail to open and becomes one that isn't open
  abbrev pub Stays : Option Region → Type 0
  Stays o =
      ((place_if after o ≡ place_if J o) ⊎ ((is_state place_is.Opened (told_place (place_if after o)) ≡ false) × (is_state place_is.FailedOpen (told_place (place_if J o)) ≡ false)))
      × (is_state place_is.Opening (told_place (place_if after o)) ≡ false)

  stays_same : (region : Region) → is_state place_is.Opening (place_of J region) ≡ false → place_of after region ≡ place_of J region → Stays (Some region)
  stays_same region off same = (inl (ap (λ p. Some p) same), ap (is_state place_is.Opening) same ∙ off)

  stays_of : (o : Option Region) → is_state place_is.Opening (told_place (place_if J o)) ≡ false → ((region : Region) → o ≡ Some region → moved_by its.node.args ≡ Some region → IsPicked → ⊥) → Stays o
  stays_of None off dead = (inl refl, refl)
  stays_of (Some region) off dead = elim (the_region region (moved_by its.node.args)) [
    | inr away ↦ stays_same region off (place_same pid pick out J legal (shut_all J legal.0) region away)
    | inl m ↦ by m out.place refl
  ]
    where
      by : (m : moved_by its.node.args ≡ Some region) (o : Option Place) → out.place ≡ o → Stays (Some region)
      by m None e = stays_same region off (ap (λ given. placed_by region (region_if (node_of J pid.0)) given (place_of J region)) e)
      by m (Some here) e =
          let said = says region m here e in
          let now = place_now region m here e in (
            inr (
              ap (is_state place_is.Opened) now ∙ elim (cases_Bool (is_state place_is.Opened here)) [ inr shut ↦ shut | inl on ↦ absurd (true≢false (sym (said.0 on) ∙ off)) ],
              elim (cases_Bool (is_state place_is.FailedOpen (place_of J region))) [ inr not_failed ↦ not_failed | inl failed ↦ absurd (dead region refl m (said.1 (said.2 failed))) ],
            ),
            ap (is_state place_is.Opening) now ∙ elim (cases_Bool (is_state place_is.Opening here)) [ inr shut ↦ shut | inl on ↦ absurd (dead region refl m (said.1 on)) ],
          )

  pub place_stays : (args : Args) → is_opening J args ≡ false → ((region : Region) → moved_by args ≡ Some region → moved_by its.node.args ≡ Some region → IsPicked → ⊥) → Stays (moved_by args)
  place_stays args = stays_of (moved_by args)
