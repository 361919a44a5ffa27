-- The server that is picked for a procedure's next step is there where one is needed, and fits.
use Rattle.std.proofs.Common.{◌≡◌, ◌==◌, ℕ, List, [], ◌∷◌, map, Bool, true, false, not, ◌&&◌, ◌||◌, if◌then◌else◌, nat_lt, is_some, Option, Some, None, refl, inl, inr, ap, sym, ◌∙◌, subst}
use Rattle.std.specs.List.{AllByRecursion, list_any}
use Rattle.std.specs.Option.{option_or}
use Rattle.std.proofs.lemmas.Bool.{cases_Bool, true≢false, false≢true}
use Rattle.std.proofs.lemmas.Option.{none-some, same_Some}
use Rattle.hm_names.specs.Server.{Server}
use Rattle.hm_data.specs.declared.place.Place.{Place}
use Rattle.hm_data.specs.declared.place.RegionState.TheVariants as place_is
use Rattle.hm_model.specs.Fleet.{has_live, has_other_live, is_live, same_server, servers_of}
use Rattle.hm_model.specs.Inputs.{step_input, turn_input, undoes}
use Rattle.hm_model.specs.Journal.{Past}
use Rattle.hm_model.specs.Loads.{load_in, places_of}
use Rattle.hm_model.specs.Picks.{fits_input, has_pick, is_another, is_as_wanted, is_pick_right, needs_server, pick_fits}
use Rattle.hm_model.specs.Places.{is_the_server, tries_of}
use Rattle.hm_model.specs.Rules.{IsLegal}
use Rattle.hm_model.specs.Standings.{live_servers, standing_of}
use Rattle.hm_model.specs.TransitActs.{is_state}
use Rattle.hm_model.specs.Tree.{Node}
use Rattle.hm_model.specs.Undo.{stack}
use Rattle.hm_model.specs.Wanted.{wanted_of}
use Rattle.hm_model.proofs.NameTies.{same_server-is, same_server-refl}
use Rattle.hm_model.specs.Choice.{avoids, chosen, failed_at, least_loaded, live_of, lower, lowest, or_else, place_told, wanted_first, without}
use Rattle.hm_judge.specs.Laws.{CandidatesAreThere, CandidatesFit}
use Rattle.hm_judge.proofs.Living.{some_live}
use Rattle.hm_judge.proofs.Picking.{needs_none}

-- the lowest of some is one of them
lowest_among : (P : Server → Type 0) (load : Server → ℕ) (servers : List Server) → AllByRecursion P servers → (server : Server) → lowest load servers ≡ Some server → P server
lowest_among P load [] all server is = absurd (none-some server is)
lowest_among P load (first ∷ more) all server is = by (lowest load more) (lowest_among P load more all.1) (same_Some (lower load first (lowest load more)) server is)
  where
    either : (other : Server) (b : Bool) → P other → (if b then other else first) ≡ server → P server
    either other true rest e = subst P e rest
    either other false rest e = subst P e all.0

    by : (o : Option Server) → ((s : Server) → o ≡ Some s → P s) → lower load first o ≡ server → P server
    by None rest e = subst P e all.0
    by (Some other) rest e = either other (nat_lt (load other) (load first)) (rest other refl) e

-- the live ones among some
abbrev live_among : Past → List Server → List Server
live_among J servers = live_servers (map (λ server. (server, standing_of J server)) servers)

-- the first of some is one of them where it is live
live_first : (J : Past) (first : Server) (more : List Server) (b : Bool) → is_live J first ≡ b → live_among J (first ∷ more) ≡ (if b then first ∷ live_among J more else live_among J more)
live_first J first more true e = rw e refl
live_first J first more false e = rw e refl

-- each of them is live
live_all : (J : Past) (servers : List Server) → AllByRecursion (λ s. is_live J s ≡ true) (live_among J servers)
live_all J [] = tt
live_all J (first ∷ more) = subst (AllByRecursion (λ s. is_live J s ≡ true)) (sym (live_first J first more (is_live J first) refl)) (by (is_live J first) refl (live_all J more))
  where
    by : (b : Bool) → is_live J first ≡ b → AllByRecursion (λ s. is_live J s ≡ true) (live_among J more) → AllByRecursion (λ s. is_live J s ≡ true) (if b then first ∷ live_among J more else live_among J more)
    by true e rest = (e, rest)
    by false e rest = rest

-- those that are left are of the others, and none of them is to be avoided
left_all : (P : Server → Type 0) (avoid : Option Server) (servers : List Server) → AllByRecursion P servers → AllByRecursion (λ s. P s × (avoids avoid s ≡ false)) (without avoid servers)
left_all P avoid [] all = tt
left_all P avoid (first ∷ more) all = by (avoids avoid first) refl (left_all P avoid more all.1)
  where
    by : (b : Bool) → avoids avoid first ≡ b → AllByRecursion (λ s. P s × (avoids avoid s ≡ false)) (without avoid more)
        → AllByRecursion (λ s. P s × (avoids avoid s ≡ false)) (if not (avoids avoid first) then first ∷ without avoid more else without avoid more)
    by true e rest = rw e rest
    by false e rest = rw e ((all.0, e), rest)

-- where each live one is to be avoided, no other one is live
none_other : (J : Past) (failed : Server) (servers : List Server) → without (Some failed) (live_among J servers) ≡ [] → list_any (λ other. is_live J other && not (same_server failed other)) servers ≡ false
none_other J failed [] none = refl
none_other J failed (first ∷ more) none =
    by (is_live J first) (same_server failed first) refl (ap (without (Some failed)) (sym (live_first J first more (is_live J first) refl)) ∙ none) (none_other J failed more)
  where
    by : (b c : Bool) → same_server failed first ≡ c → without (Some failed) (if b then first ∷ live_among J more else live_among J more) ≡ []
        → (without (Some failed) (live_among J more) ≡ [] → list_any (λ other. is_live J other && not (same_server failed other)) more ≡ false)
        → ((b && not c) || list_any (λ other. is_live J other && not (same_server failed other)) more) ≡ false
    by false c e left rest = rest left
    by true true e left rest = rest (sym (ap (λ x. if not x then first ∷ without (Some failed) (live_among J more) else without (Some failed) (live_among J more)) e) ∙ left)
    by true false e left rest =
        let some : first ∷ without (Some failed) (live_among J more) ≡ [] = sym (ap (λ x. if not x then first ∷ without (Some failed) (live_among J more) else without (Some failed) (live_among J more)) e) ∙ left in cc

-- the least loaded is live
least_live : (J : Past) (avoid : Option Server) (server : Server) → least_loaded J avoid ≡ Some server → is_live J server ≡ true
least_live J avoid server is = by (without avoid (live_of J)) (left_all (λ s. is_live J s ≡ true) avoid (live_of J) (live_all J (servers_of J))) is
  where
    by : (left : List Server) → AllByRecursion (λ s. (is_live J s ≡ true) × (avoids avoid s ≡ false)) left → lowest (load_in (places_of J)) (or_else left (live_of J)) ≡ Some server → is_live J server ≡ true
    by [] all e = lowest_among (λ s. is_live J s ≡ true) (load_in (places_of J)) (live_of J) (live_all J (servers_of J)) server e
    by (first ∷ more) all e = (lowest_among (λ s. (is_live J s ≡ true) × (avoids avoid s ≡ false)) (load_in (places_of J)) (first ∷ more) all server e).0

-- it isn't the one to be avoided, where another one is live
least_other : (J : Past) (failed server : Server) → least_loaded J (Some failed) ≡ Some server → (not (same_server server failed) || not (has_other_live J server)) ≡ true
least_other J failed server is = elim (cases_Bool (same_server server failed)) [
  | inr differs ↦ ap (λ b. not b || not (has_other_live J server)) differs
  | inl same ↦ by (same_server-is server failed same) (without (Some failed) (live_of J)) refl (left_all (λ s. is_live J s ≡ true) (Some failed) (live_of J) (live_all J (servers_of J))) is
]
  where
    or_not : (a b : Bool) → b ≡ false → (a || not b) ≡ true
    or_not true b e = refl
    or_not false b e = ap not e

    by : server ≡ failed → (left : List Server) → without (Some failed) (live_of J) ≡ left → AllByRecursion (λ s. (is_live J s ≡ true) × (avoids (Some failed) s ≡ false)) left
        → lowest (load_in (places_of J)) (or_else left (live_of J)) ≡ Some server → (not (same_server server failed) || not (has_other_live J server)) ≡ true
    by one [] none all e = or_not (not (same_server server failed)) (has_other_live J server) (ap (has_other_live J) one ∙ none_other J failed (servers_of J) none)
    by one (first ∷ more) left all e =
        let kept = (lowest_among (λ s. (is_live J s ≡ true) × (avoids (Some failed) s ≡ false)) (load_in (places_of J)) (first ∷ more) all server e).1 in
        absurd (true≢false (sym (ap (same_server failed) one ∙ same_server-refl failed) ∙ kept))

-- it isn't the one at which the region just failed to open, where another one is live
least_another : (J : Past) (place : Place) (server : Server) → least_loaded J (failed_at place) ≡ Some server → is_another J place server ≡ true
least_another J place server is = by (is_state place_is.FailedOpen place) place.server is
  where
    by : (b : Bool) (at : Option Server) → least_loaded J (if b then at else None) ≡ Some server → (not b || (not (is_the_server server at) || not (has_other_live J server))) ≡ true
    by false at e = refl
    by true None e = refl
    by true (Some failed) e = least_other J failed server e

-- one of three tests holds where the last does
or_last : (a b c : Bool) → c ≡ true → (a || (b || c)) ≡ true
or_last true b c e = refl
or_last false true c e = refl
or_last false false c e = e

module _ (J : Past) (tries : ℕ) (server : Server) where
  -- the wanted one on the first try is live, and as wanted
  first_fits : (o : Option Server) → wanted_first J o tries ≡ Some server → (is_live J server ≡ true) × (is_as_wanted J o tries server ≡ true)
  first_fits None is = absurd (none-some server is)
  first_fits (Some wanted) is = by (tries == 0) (is_live J wanted) refl is
    where
      by : (b live : Bool) → is_live J wanted ≡ live → (if b && live then Some wanted else None) ≡ Some server → (is_live J server ≡ true) × (is_as_wanted J (Some wanted) tries server ≡ true)
      by true true e one =
          let same : wanted ≡ server = same_Some wanted server one in (
            subst (λ s. is_live J s ≡ true) same e,
            or_last (not (tries == 0)) (not (is_live J wanted)) (same_server server wanted) (ap (same_server server) same ∙ same_server-refl server),
          )
      by true false e one = absurd (none-some server one)
      by false live e one = absurd (none-some server one)

  -- where there is no such one, each is as wanted
  any_wanted : (o : Option Server) → wanted_first J o tries ≡ None → is_as_wanted J o tries server ≡ true
  any_wanted None none = refl
  any_wanted (Some wanted) none = by (tries == 0) (is_live J wanted) none
    where
      by : (b live : Bool) → (if b && live then Some wanted else None) ≡ None → (not b || (not live || same_server server wanted)) ≡ true
      by true true e = absurd (none-some wanted (sym e))
      by true false e = refl
      by false live e = refl

-- three tests hold where each does
all_three : (a b c : Bool) → a ≡ true → b ≡ true → c ≡ true → (a && (b && c)) ≡ true
all_three a b c one two three = rw (one, two, three) refl

-- what a pick of a procedure's own step has to fit
fits_step : (J : Past) → IsLegal J → (p : ℕ) (node : Node) → needs_server J p node ≡ true → (server : Server)
    → pick_fits J p node server ≡ (is_live J server && (is_as_wanted J (wanted_of node.args) (tries_of J p) server && is_another J (place_told J node.args) server))
fits_step J legal p node needed server =
    let off : undoes J p node ≡ false = elim (cases_Bool (undoes J p node)) [
      | inl undoing ↦ absurd (true≢false (sym needed ∙ needs_none J legal p node undoing))
      | inr not_so ↦ not_so
    ] in
    ap (λ b. fits_input J (turn_input J b (stack J p) (step_input J p node None)) server) off

-- the one that is chosen fits, where the wanted one isn't the one that failed
chosen_fits : (J : Past) (node : Node) (tries : ℕ)
    → ((wanted : Server) → wanted_first J (wanted_of node.args) tries ≡ Some wanted → is_another J (place_told J node.args) wanted ≡ true)
    → (server : Server) → chosen J node tries ≡ Some server
    → (is_live J server && (is_as_wanted J (wanted_of node.args) tries server && is_another J (place_told J node.args) server)) ≡ true
chosen_fits J node tries apart server is = by (wanted_first J (wanted_of node.args) tries) refl is
  where
    by : (o : Option Server) → wanted_first J (wanted_of node.args) tries ≡ o → option_or o (least_loaded J (failed_at (place_told J node.args))) ≡ Some server
        → (is_live J server && (is_as_wanted J (wanted_of node.args) tries server && is_another J (place_told J node.args) server)) ≡ true
    by None none e =
        all_three (is_live J server) (is_as_wanted J (wanted_of node.args) tries server) (is_another J (place_told J node.args) server)
        (least_live J (failed_at (place_told J node.args)) server e) (any_wanted J tries server (wanted_of node.args) none) (least_another J (place_told J node.args) server e)
    by (Some wanted) some e =
        let one = some ∙ e in
        let both = first_fits J tries server (wanted_of node.args) one in
        all_three (is_live J server) (is_as_wanted J (wanted_of node.args) tries server) (is_another J (place_told J node.args) server) both.0 both.1 (apart server one)

-- one is chosen where some server is live
chosen_there : (J : Past) (node : Node) (tries : ℕ) → has_live J ≡ true → is_some (chosen J node tries) ≡ true
chosen_there J node tries live = by (wanted_first J (wanted_of node.args) tries)
  where
    by : (o : Option Server) → is_some (option_or o (least_loaded J (failed_at (place_told J node.args)))) ≡ true
    by None = some_live J (load_in (places_of J)) (failed_at (place_told J node.args)) ∙ live
    by (Some wanted) = refl

-- where a server is needed and a pick is there, one is live
needs_live : (J : Past) (p : ℕ) (node : Node) → has_pick J p node ≡ true → needs_server J p node ≡ true → has_live J ≡ true
needs_live J p node has needed = sym (ap (λ b. not b || has_live J) needed) ∙ has

-- what is picked fits
pub candidates_fit : CandidatesFit
candidates_fit J p node legal is has apart = (node, is, right (needs_server J p node) refl)
  where
    by : (o : Option Server) → chosen J node (tries_of J p) ≡ o → needs_server J p node ≡ true → is_pick_right J p node o true ≡ true
    by None none needed = absurd (false≢true (sym (ap is_some none) ∙ chosen_there J node (tries_of J p) (needs_live J p node has needed)))
    by (Some server) some needed = fits_step J legal p node needed server ∙ chosen_fits J node (tries_of J p) apart server some

    right : (b : Bool) → needs_server J p node ≡ b → is_pick_right J p node (if b then chosen J node (tries_of J p) else None) b ≡ true
    right true needed = by (chosen J node (tries_of J p)) refl needed
    right false off = refl

-- a server is picked where one is needed and one is live
pub candidates_there : CandidatesAreThere
candidates_there J p node has needed =
    ap (λ b. is_some (if b then chosen J node (tries_of J p) else None)) needed ∙ chosen_there J node (tries_of J p) (needs_live J p node has needed)
