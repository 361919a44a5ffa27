-- The first server of the lowest load, as servers are met, and what is picked.
use Rattle.std.proofs.Common.{◌≡◌, ◌≤◌, ℕ, nat_lt, List, [], ◌∷◌, map, Option, Some, None, Bool, true, false, not, ◌&&◌, ◌||◌, ◌==◌, cond, refl, arith, ap, sym, ◌∙◌, ◌⊎◌, inl, inr}
use Rattle.std.proofs.lemmas.Bool.{and_from, and_parts, cond-false, cond-true, false≢true, true≢false, or_cases}
use Rattle.std.proofs.lemmas.Bool.Decides.{nat_tests}
use Rattle.std.proofs.lemmas.Option.{none-some, same_Some}
use Rattle.std.specs.List.{filter, list_any}
use Rattle.hm_names.specs.Server.{Server}
use Rattle.hm_data.specs.declared.place.Place.{Place}
use Rattle.hm_data.specs.declared.place.RegionState.TheVariants as place_is
use Rattle.hm_data.specs.declared.step.StepIn.{StepIn}
use Rattle.hm_model.specs.Choice.{lower, lowest}
use Rattle.hm_model.specs.Fleet.{is_live, same_server, servers_of}
use Rattle.hm_model.specs.Journal.{Past}
use Rattle.hm_model.specs.Loads.{load_in, places_of}
use Rattle.hm_model.specs.Locks.{IsIn}
use Rattle.hm_model.specs.Picks.{is_another, is_as_wanted}
use Rattle.hm_model.specs.Places.{is_the_server}
use Rattle.hm_model.specs.Standings.{live_servers, standing_of, standings_of}
use Rattle.hm_model.specs.TransitActs.{is_state, told_place}
use Rattle.hm_model.specs.Wanted.{wanted_of}
use Rattle.hm_model.specs.Whereabouts.{moved_by}
use Rattle.hm_model.specs.declared.standing.Standing.{Standing}
use Rattle.hm_model.proofs.CameUp.{live_came}
use Rattle.hm_model.proofs.NameTies.{same_server-is}
use Rattle.hm_places.specs.Laws.{AllStandingsTell, PlacesTell, StandingsTell}
use Rattle.hm_groups.specs.Groups.{GroupsView}
use Rattle.hm_groups.specs.Picking.{MayTake, PicksFit, allows, fits_among, is_another as another_among, is_as_wanted as wanted_among, passes}
use Rattle.hm_groups.specs.declared.picking.Loaded.{Loaded}

-- the best so far with the best of those that are left
abbrev pub with_best : (Server → ℕ) → Option Server → Option Server → Option Server
with_best load None rest = rest
with_best load (Some best) rest = Some (lower load best rest)

abbrev pub server_of : Option Loaded → Option Server
server_of None = None
server_of (Some best) = Some best.server.now

abbrev pub IsLoaded : (Server → ℕ) → Option Loaded → Type 0
IsLoaded load None = Unit {0}
IsLoaded load (Some best) = best.load ≡ load best.server.now

-- the one of the lowest load is one of them
lowest_in : (load : Server → ℕ) (list : List Server) (s : Server) → lowest load list ≡ Some s → IsIn s list
lowest_in load [] s e = absurd (none-some s e)
lowest_in load (x ∷ more) s e = by (lowest_in load more s) (lowest load more) refl (same_Some (lower load x (lowest load more)) s e)
  where
    by : (lowest load more ≡ Some s → IsIn s more) → (o : Option Server) → lowest load more ≡ o → lower load x (lowest load more) ≡ s → IsIn s (x ∷ more)
    by deeper None is same = inl (sym (sym (ap (lower load x) is) ∙ same))
    by deeper (Some y) is same = pick (nat_lt (load y) (load x)) refl (sym (ap (lower load x) is) ∙ same)
      where
        pick : (b : Bool) → nat_lt (load y) (load x) ≡ b → cond (nat_lt (load y) (load x)) y x ≡ s → IsIn s (x ∷ more)
        pick true on here = inr (deeper (is ∙ ap (λ z. Some z) (sym (cond-true (nat_lt (load y) (load x)) y x on) ∙ here)))
        pick false off here = inl (sym (sym (cond-false (nat_lt (load y) (load x)) y x off) ∙ here))

-- where there is none, nobody is there
lowest_none : (load : Server → ℕ) (list : List Server) → lowest load list ≡ None → (s : Server) → IsIn s list → ⊥
lowest_none load [] e s here = here
lowest_none load (x ∷ more) e s here = none-some (lower load x (lowest load more)) (sym e)

-- and none of them has a lower load
lowest_least : (load : Server → ℕ) (list : List Server) (s : Server) → lowest load list ≡ Some s → (x : Server) → IsIn x list → load s ≤ load x
lowest_least load [] s e x here = absurd here
lowest_least load (y ∷ more) s e x here = by (lowest_least load more) (lowest load more) refl (same_Some (lower load y (lowest load more)) s e) here
  where
    by : ((z : Server) → lowest load more ≡ Some z → (x : Server) → IsIn x more → load z ≤ load x) → (o : Option Server) → lowest load more ≡ o → lower load y (lowest load more) ≡ s → IsIn x (y ∷ more) → load s ≤ load x
    by least None is same (inl one) =
        let first = ap load (sym (ap (lower load y) is) ∙ same) in
        let own = ap load one in omega (arith, first, own)
    by least None is same (inr later) = absurd (lowest_none load more is x later)
    by least (Some z) is same here = pick (nat_lt (load z) (load y)) refl (sym (ap (lower load y) is) ∙ same) here
      where
        pick : (b : Bool) → nat_lt (load z) (load y) ≡ b → cond (nat_lt (load z) (load y)) z y ≡ s → IsIn x (y ∷ more) → load s ≤ load x
        pick true on chosen (inl one) =
            let own = ap load one in
            let it = ap load (sym (cond-true (nat_lt (load z) (load y)) z y on) ∙ chosen) in grind (arith, nat_tests)
        pick true on chosen (inr later) =
            let it = ap load (sym (cond-true (nat_lt (load z) (load y)) z y on) ∙ chosen) in
            let low = least z is x later in omega (arith, it, low)
        pick false off chosen (inl one) =
            let own = ap load one in
            let it = ap load (sym (cond-false (nat_lt (load z) (load y)) z y off) ∙ chosen) in omega (arith, own, it)
        pick false off chosen (inr later) =
            let it = ap load (sym (cond-false (nat_lt (load z) (load y)) z y off) ∙ chosen) in
            let low = least z is x later in grind (arith, nat_tests)

-- one of those that pass a test
filter_in : (test : Server → Bool) (list : List Server) (s : Server) → IsIn s (filter test list) → (test s ≡ true) × IsIn s list
filter_in test [] s here = absurd here
filter_in test (x ∷ more) s here = by (filter_in test more s) (test x) refl here
  where
    by : (IsIn s (filter test more) → (test s ≡ true) × IsIn s more) → (b : Bool) → test x ≡ b → IsIn s (cond b (x ∷ filter test more) (filter test more)) → (test s ≡ true) × IsIn s (x ∷ more)
    by deeper true on (inl same) = (ap test same ∙ on, inl same)
    by deeper true on (inr later) = let found = deeper later in (found.0, inr found.1)
    by deeper false off later = let found = deeper later in (found.0, inr found.1)

in_filter : (test : Server → Bool) (list : List Server) (s : Server) → test s ≡ true → IsIn s list → IsIn s (filter test list)
in_filter test [] s on here = here
in_filter test (x ∷ more) s on here = by (in_filter test more s on) (test x) refl here
  where
    by : (IsIn s more → IsIn s (filter test more)) → (b : Bool) → test x ≡ b → IsIn s (x ∷ more) → IsIn s (cond b (x ∷ filter test more) (filter test more))
    by deeper true is (inl same) = inl same
    by deeper true is (inr later) = inr (deeper later)
    by deeper false is (inl same) = absurd (true≢false (sym on ∙ ap test same ∙ is))
    by deeper false is (inr later) = deeper later

-- the live servers of a journal that pass
abbrev passing : Past → GroupsView → StepIn → List Server
passing J view at = filter (passes view (standings_of J) at.args at.tries at.place) (live_servers (standings_of J))

-- the live servers of a journal
module _ (J : Past) where
  live_from : (list : List Server) (s : Server) → IsIn s (live_servers (map (λ server. (server, standing_of J server)) list)) → is_live J s ≡ true
  live_from [] s here = absurd here
  live_from (x ∷ more) s here = by (live_from more s) (is_live J x) refl here
    where
      by : (IsIn s (live_servers (map (λ server. (server, standing_of J server)) more)) → is_live J s ≡ true) → (b : Bool) → is_live J x ≡ b → IsIn s (map (λ (row : Server × Standing). row.0) (cond b ((x, standing_of J x) ∷ filter (λ (row : Server × Standing). row.1.live) (map (λ server. (server, standing_of J server)) more)) (filter (λ (row : Server × Standing). row.1.live) (map (λ server. (server, standing_of J server)) more)))) → is_live J s ≡ true
      by deeper true on (inl same) = ap (is_live J) same ∙ on
      by deeper true on (inr later) = deeper later
      by deeper false off later = deeper later

  live_to : (list : List Server) (s : Server) → is_live J s ≡ true → list_any (λ other. same_server s other) list ≡ true → IsIn s (live_servers (map (λ server. (server, standing_of J server)) list))
  live_to [] s live came = absurd (false≢true came)
  live_to (x ∷ more) s live came = by (live_to more s live) (is_live J x) refl (or_cases (same_server s x) (list_any (λ other. same_server s other) more) came)
    where
      by : (list_any (λ other. same_server s other) more ≡ true → IsIn s (live_servers (map (λ server. (server, standing_of J server)) more))) → (b : Bool) → is_live J x ≡ b → (same_server s x ≡ true) ⊎ (list_any (λ other. same_server s other) more ≡ true)
          → IsIn s (map (λ (row : Server × Standing). row.0) (cond b ((x, standing_of J x) ∷ filter (λ (row : Server × Standing). row.1.live) (map (λ server. (server, standing_of J server)) more)) (filter (λ (row : Server × Standing). row.1.live) (map (λ server. (server, standing_of J server)) more))))
      by deeper true on (inl same) = inl (same_server-is s x same)
      by deeper true on (inr later) = inr (deeper later)
      by deeper false off (inl same) = absurd (true≢false (sym live ∙ ap (is_live J) (same_server-is s x same) ∙ off))
      by deeper false off (inr later) = deeper later

  module _ (tell : StandingsTell J) where
    wanted_is : (o : Option Server) (tries : ℕ) (s : Server) → wanted_among (standings_of J) o tries s ≡ is_as_wanted J o tries s
    wanted_is None tries s = refl
    wanted_is (Some wanted) tries s = ap (λ b. not (tries == 0) || (not b || same_server s wanted)) (tell.live wanted)

    another_is : (place : Place) (s : Server) → another_among (standings_of J) place s ≡ is_another J place s
    another_is place s = ap (λ b. not (is_state place_is.FailedOpen place) || (not (is_the_server s place.server) || not b)) (tell.others s)

    fits_is : (at : StepIn) (s : Server) → fits_among (standings_of J) at.args at.tries at.place s ≡ (is_as_wanted J (wanted_of at.args) at.tries s && is_another J (told_place at.place) s)
    fits_is at s =
        ap (λ b. b && another_among (standings_of J) (told_place at.place) s) (wanted_is (wanted_of at.args) at.tries s)
        ∙ ap (λ b. is_as_wanted J (wanted_of at.args) at.tries s && b) (another_is (told_place at.place) s)

    -- those are the servers that may be taken
    module _ (view : GroupsView) (at : StepIn) where
      taken : (s : Server) → IsIn s (passing J view at) → MayTake view J at s
      taken s here =
          let found = filter_in (passes view (standings_of J) at.args at.tries at.place) (live_servers (standings_of J)) s here in
          let parts = and_parts (allows view (moved_by at.args) s) (fits_among (standings_of J) at.args at.tries at.place s) found.0 in
          (parts.0, and_from (is_live J s) (is_as_wanted J (wanted_of at.args) at.tries s && is_another J (told_place at.place) s) (live_from (servers_of J) s found.1) (sym (fits_is at s) ∙ parts.1))

      passed : (s : Server) → MayTake view J at s → IsIn s (passing J view at)
      passed s may =
          let parts = and_parts (is_live J s) (is_as_wanted J (wanted_of at.args) at.tries s && is_another J (told_place at.place) s) may.1 in
          in_filter (passes view (standings_of J) at.args at.tries at.place) (live_servers (standings_of J)) s
          (and_from (allows view (moved_by at.args) s) (fits_among (standings_of J) at.args at.tries at.place s) may.0 (fits_is at s ∙ parts.1))
          (live_to (servers_of J) s parts.0 (live_came J s parts.0))

pub picks_fit : PlacesTell → AllStandingsTell → PicksFit
picks_fit places tells view J at legal = (
  (λ s e. (
    taken J (tells J legal) view at s (lowest_in (load_in (places_of J)) (passing J view at) s e),
    (λ other may. (
        let least = lowest_least (load_in (places_of J)) (passing J view at) s e other (passed J (tells J legal) view at other may) in
        let own = (places J).2 s in
        let its = (places J).2 other in
        omega (arith, least, own, its))),
  )),
  (λ e s may. lowest_none (load_in (places_of J)) (passing J view at) e s (passed J (tells J legal) view at s may)),
)
