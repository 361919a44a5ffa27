-- Each server that a procedure or a place of a legal journal names came up.
use Rattle.std.proofs.lemmas.Bool.{and_parts, false≢true, or_cases, or_left, or_right}
use Rattle.hm_model.specs.Base.{IsBegun, IsWhole, MayStand, PartFits}
use Rattle.hm_data.specs.declared.part.Part.{Part}
use Rattle.hm_data.specs.declared.part.Part.TheVariants as part_is
use Rattle.hm_model.specs.Parts.{part_server}
use Rattle.hm_model.proofs.Parted.{by_parts}
use Rattle.hm_model.proofs.Grown.{ends_parted}
use Rattle.hm_model.specs.Keys.{same_region}
use Rattle.hm_model.specs.TransitActs.{is_placed, is_state}
use Rattle.hm_data.specs.declared.place.Place.{Place}
use Rattle.hm_data.specs.declared.place.RegionState.TheVariants as place_is
use Rattle.std.proofs.Common.{◌≡◌, ℕ, ◌+◌, ◌-◌, List, [], ◌∷◌, ◌++◌, Bool, true, false, not, ◌&&◌, ◌||◌, ◌==◌, if◌then◌else◌, Option, Some, None, slice_get, refl, ap, sym, ◌∙◌, subst, inl, inr, zero, suc}
use Rattle.std.specs.List.{list_any}
use Rattle.std.specs.declared.cmp.Ordering.{Ordering}
use Rattle.std.specs.declared.cmp.Ordering.TheVariants.{Less, Equal, Greater}
use Rattle.std.proofs.lemmas.Bool.{cases_eq, true≢false}
use Rattle.std.proofs.lemmas.Option.{none-some, same_Some}
use Rattle.hm_names.specs.Order.{server_cmp}
use Rattle.hm_names.specs.Region.{Region}
use Rattle.hm_names.specs.Server.{Server}
use Rattle.hm_names.specs.declared.pid.Pid.{Pid}
use Rattle.hm_data.specs.Numbers.{told_number}
use Rattle.hm_data.specs.declared.args.Args.{Args}
use Rattle.hm_data.specs.declared.args.Args.TheVariants as args_are
use Rattle.hm_data.specs.declared.args.Child.{Child}
use Rattle.hm_data.specs.declared.args.Child.TheVariants as child_is
use Rattle.hm_data.specs.declared.call.Told.TheVariants as told_is
use Rattle.hm_data.specs.declared.entry.Entry.{Entry}
use Rattle.hm_data.specs.declared.entry.Entry.TheVariants as entry_is
use Rattle.hm_data.specs.declared.place.Goal.{Goal}
use Rattle.hm_data.specs.declared.place.Place.{Place}
use Rattle.hm_data.specs.declared.step.StepOut.{StepOut}
use Rattle.hm_model.specs.Fleet.{came_up, fences_by, fences_if, is_fenced, is_live, same_server, servers_of, with_server, with_server_at}
use Rattle.hm_model.specs.Inputs.{place_if, step_input}
use Rattle.hm_model.specs.Journal.{Past}
use Rattle.hm_model.specs.Picks.{is_pick_right, pick_fits}
use Rattle.hm_model.specs.Places.{place_of, placed_by, region_if, part_place}
use Rattle.hm_model.specs.Reports.{is_the_region}
use Rattle.hm_model.specs.Rules.{IsLegal}
use Rattle.hm_model.specs.TransitActs.{told_place}
use Rattle.hm_model.specs.Tree.{Node, args_in, child_args, made, node_of, root_node}
use Rattle.hm_model.specs.Wanted.{server_of}
use Rattle.hm_model.specs.Whereabouts.{moved_by}
use Rattle.hm_model.proofs.Grown.{down_new, down_old, submit_new, submit_old}
use Rattle.hm_model.proofs.LegalSteps.{StepFacts}
use Rattle.hm_model.proofs.Named.{AreOfNamed, IsNamed, IsPlacedAt, OfOption, SeesNamed, row_named, undo_named}
use Rattle.hm_model.proofs.NameTies.{same_server-is, same_server-refl, server_cmp-is}
use Rattle.hm_model.proofs.Trees.{grown_all, le_or_lt, new_child, node_same, step_of, undo_rooted}
use Rattle.hm_model.proofs.UndoMakes.{undo_of}

-- one server more among some
swapped : (a b c : Bool) → (a || (b || c)) ≡ (b || (a || c))
swapped true true c = refl
swapped true false c = refl
swapped false true c = refl
swapped false false c = refl

doubled : (a b : Bool) → (a || b) ≡ (a || (a || b))
doubled true b = refl
doubled false b = refl

pub any_with : (f : Server → Bool) (server : Server) (servers : List Server) → list_any f (with_server server servers) ≡ (f server || list_any f servers)
any_with f server [] = refl
any_with f server (first ∷ more) = by (server_cmp server first) refl (any_with f server more)
  where
    by : (o : Ordering) → server_cmp server first ≡ o → list_any f (with_server server more) ≡ (f server || list_any f more)
        → list_any f (with_server_at o server first more (with_server server more)) ≡ (f server || (f first || list_any f more))
    by Less e rest = refl
    by Equal e rest =
        ap (λ s. f s || list_any f more) (sym (server_cmp-is server first e)) ∙ doubled (f server) (list_any f more)
        ∙ ap (λ s. f server || (f s || list_any f more)) (server_cmp-is server first e)
    by Greater e rest = ap (λ b. f first || b) rest ∙ swapped (f first) (f server) (list_any f more)

-- who came up is so later too
pub came_on : (J : Past) (other s : Server) → came_up J s ≡ true → came_up (entry_is.Up other ∷ J) s ≡ true
came_on J other s came = any_with (λ o. same_server s o) other (servers_of J) ∙ or_right (same_server s other) (came_up J s) came

pub came_now : (J : Past) (s : Server) → came_up (entry_is.Up s ∷ J) s ≡ true
came_now J s = any_with (λ o. same_server s o) s (servers_of J) ∙ or_left (same_server s s) (came_up J s) (same_server-refl s)

-- who is fenced stays so
pub fenced_stays : (entry : Entry) (J : Past) (server : Server) → is_fenced J server ≡ true → is_fenced (entry ∷ J) server ≡ true
fenced_stays (entry_is.Report call told) J server fenced = or_right _ (is_fenced J server) fenced
fenced_stays (entry_is.Base part) J server fenced = by (part_server part)
  where
    by : (o : Option (Server × Bool)) → elim o as (λ s. Bool) [ None ↦ is_fenced J server | Some both ↦ (same_server server both.0 && both.1) || is_fenced J server ] ≡ true
    by None = fenced
    by (Some both) = or_right (same_server server both.0 && both.1) (is_fenced J server) fenced
fenced_stays entry J server fenced = fenced

-- what a part says of a server is of one that came up
part_came : (o : Option (Server × Bool)) (J : Past) (s : Server) {was : Bool} → (was ≡ true → came_up J s ≡ true) → (test : Server × Bool → Bool) → ((both : Server × Bool) → test both ≡ true → same_server s both.0 ≡ true) → elim o as (λ x. Bool) [ None ↦ was | Some both ↦ test both || was ] ≡ true
    → list_any (λ other. same_server s other) (elim o as (λ x. List Server) [ None ↦ servers_of J | Some both ↦ with_server both.0 (servers_of J) ]) ≡ true
part_came None J s came test own on = came on
part_came (Some both) J s {was} came test own on = elim (or_cases (test both) was on) [
  | inl now ↦ any_with (λ o. same_server s o) both.0 (servers_of J) ∙ or_left (same_server s both.0) (came_up J s) (own both now)
  | inr old ↦ any_with (λ o. same_server s o) both.0 (servers_of J) ∙ or_right (same_server s both.0) (came_up J s) (came old)
]

-- who is live came up
pub live_came : (J : Past) (s : Server) → is_live J s ≡ true → came_up J s ≡ true
live_came [] s live = absurd (true≢false (sym live))
live_came (entry_is.Up other ∷ J) s live = elim (or_cases (same_server s other) (is_live J s) live) [
  | inl same ↦ any_with (λ o. same_server s o) other (servers_of J) ∙ or_left (same_server s other) (came_up J s) same
  | inr was ↦ came_on J other s (live_came J s was)
]
live_came (entry_is.Down other ∷ J) s live = live_came J s (and_parts (not (same_server s other)) (is_live J s) live).1
live_came (entry_is.Base part ∷ J) s live = part_came (part_server part) J s (live_came J s) (λ both. same_server s both.0 && not both.1) (λ both on. (and_parts (same_server s both.0) (not both.1) on).0) live
live_came (entry ∷ J) s live = live_came J s live

-- the args of children
module _ (P : Server → Type 0) where
  of_batch : (table : Rattle.hm_names.specs.declared.table.TableName.TableName) (ids : List ℕ) (goal : Goal) (rest : List Args) (i : ℕ) (made : Args)
      → ((j : ℕ) → slice_get rest j ≡ Some made → OfOption P (server_of made)) → slice_get (child_args (child_is.Transits table ids goal) ++ rest) i ≡ Some made → OfOption P (server_of made)
  of_batch table [] goal rest i made later at = later i at
  of_batch table (id ∷ ids) goal rest zero made later at = λ s e. absurd (none-some s (ap server_of (same_Some _ made at) ∙ e))
  of_batch table (id ∷ ids) goal rest (suc i) made later at = of_batch table ids goal rest i made later at

  of_args : (children : List Child) → AreOfNamed P children → (i : ℕ) (made : Args) → slice_get (args_in children) i ≡ Some made → OfOption P (server_of made)
  of_args [] are i made at = absurd (none-some made at)
  of_args (child_is.Transits table ids goal ∷ more) are i made at = of_batch table ids goal (args_in more) i made (λ j is. of_args more are.1 j made is) at
  of_args (child_is.One args ∷ more) are zero made at = subst (λ a. OfOption P (server_of a)) (same_Some args made at) are.0
  of_args (child_is.One args ∷ more) are (suc i) made at = of_args more are.1 i made at

-- each server that is named came up
pub record NamedCame (J : Past) : Type 0 where
  pub args : (p : ℕ) (node : Node) → node_of J p ≡ Some node → (s : Server) → server_of node.args ≡ Some s → came_up J s ≡ true
  pub places : IsBegun J → (region : Region) (s : Server) → (let place = place_of J region in place.server) ≡ Some s → came_up J s ≡ true

abbrev Came : Past → Server → Type 0
Came J s = came_up J s ≡ true

module _ (J : Past) (legal : IsLegal J) (begun : IsBegun J) (was : NamedCame J) where
  module _ (pid : Pid) (pick : Option Server) (out : StepOut) (legal_now : IsLegal (entry_is.Step pid pick out ∷ J)) where
    facts : StepFacts J pid.0 pick out
    facts = step_of pid pick out J (grown_all J legal) legal_now

    place_came : (own : Option Region) → OfOption (Came J) (let place = told_place (place_if J own) in place.server)
    place_came None s e = absurd (none-some s e)
    place_came (Some region) s e = was.places begun region s e

    pick_came : (o : Option Server) (needed : Bool) → is_pick_right J pid.0 facts.node o needed ≡ true → OfOption (Came J) o
    pick_came None needed right s e = absurd (none-some s e)
    pick_came (Some server) needed right s e =
        let fits = (and_parts needed (pick_fits J pid.0 facts.node server) right).1 in
        subst (Came J) (same_Some server s e) (live_came J server (and_parts (is_live J server) _ fits).0)

    sees : SeesNamed (Came J) (step_input J pid.0 facts.node pick)
    sees = record {
      own = λ s e. was.args pid.0 facts.node facts.node_is s e;
      place = place_came (moved_by facts.node.args);
      pick = pick_came pick _ facts.right;
    }

    named : IsNamed (Came J) out
    named = subst (IsNamed (Came J)) (sym facts.out_is) (row_named (Came J) facts.row (step_input J pid.0 facts.node pick) sees)

    args_step : (p : ℕ) (node : Node) → node_of (entry_is.Step pid pick out ∷ J) p ≡ Some node → (s : Server) → server_of node.args ≡ Some s → came_up J s ≡ true
    args_step p node is s e = elim (le_or_lt p (made J)) [
      | inl le ↦ was.args p node (sym (node_same pid pick out J p le) ∙ is) s e
      | inr lt ↦
          let child = new_child pid pick out J facts.node facts.node_is p lt node is in
          of_args (Came J) out.children named.children (p - made J - 1) child.0 child.1 s (sym (ap (λ (n : Node). server_of n.args) child.2) ∙ e)
    ]

    place_step : (own given : Option Region) (place : Option Place) (region : Region) → IsPlacedAt (Came J) place → OfOption (Came J) (let p = placed_by region own place (place_of J region) in p.server)
    place_step own given None region at s e = was.places begun region s e
    place_step own given (Some place) region at s e = by (is_the_region region own) e
      where
        by : (b : Bool) → (let p = if b then place else place_of J region in p.server) ≡ Some s → came_up J s ≡ true
        by true h = at s h
        by false h = was.places begun region s h

    pub named_step : NamedCame (entry_is.Step pid pick out ∷ J)
    named_step = record { args = args_step; places = λ now region s e. place_step (region_if (node_of J pid.0)) None out.place region named.place s e }

  pub named_submit : (nonce : Rattle.hm_names.specs.declared.nonce.Nonce.Nonce) (request : Rattle.hm_data.specs.declared.request.Request.Request) → NamedCame (entry_is.Submit nonce request ∷ J)
  named_submit nonce request = record {
    args = λ p node is s e. elim (cases_eq p (made J + 1)) [
      | inl same ↦ absurd (none-some s (ap (λ (n : Node). server_of n.args) (same_Some _ node (sym (submit_new nonce request J p same) ∙ is)) ∙ e))
      | inr differs ↦ was.args p node (sym (submit_old nonce request J p differs) ∙ is) s e
    ];
    places = λ now. was.places begun;
  }

  pub named_undo : (pid : Pid) (row : ℕ) (out : StepOut) → IsLegal (entry_is.Undo pid row out ∷ J) → NamedCame (entry_is.Undo pid row out ∷ J)
  named_undo pid row out legal_now =
      let u = undo_of pid row out J legal_now in
      let of : AreOfNamed (Came J) out.followers = subst (AreOfNamed (Came J)) (sym (ap (λ (o : StepOut). o.followers) u.out_is)) (undo_named (Came J) u.undo u.args u.root) in
      record {
        args = λ p node is s e. elim (le_or_lt p (made J)) [
          | inl le ↦ was.args p node (sym ((undo_rooted pid row out J (grown_all J legal)).old p le) ∙ is) s e
          | inr lt ↦ by p node (slice_get (args_in out.followers) (p - made J - 1)) refl (sym (Rattle.hm_model.proofs.Grown.undo_new pid row out J p lt) ∙ is) of s e
        ];
        places = λ now. was.places begun;
      }
    where
      by : (p : ℕ) (node : Node) (o : Option Args) → slice_get (args_in out.followers) (p - made J - 1) ≡ o → Rattle.std.specs.Option.option_map (λ args. root_node p args 1) o ≡ Some node → AreOfNamed (Came J) out.followers → (s : Server) → server_of node.args ≡ Some s → came_up J s ≡ true
      by p node None at is of s e = absurd (none-some node is)
      by p node (Some args) at is of s e = of_args (Came J) out.followers of (p - made J - 1) args at s (ap (λ (n : Node). server_of n.args) (same_Some (root_node p args 1) node is) ∙ e)

  pub named_up : (other : Server) → NamedCame (entry_is.Up other ∷ J)
  named_up other = record { args = λ p node is s e. came_on J other s (was.args p node is s e); places = λ now region s e. came_on J other s (was.places begun region s e) }

  pub named_down : (other : Server) → is_live J other ≡ true → NamedCame (entry_is.Down other ∷ J)
  named_down other live = record {
    args = λ p node is s e. elim (cases_eq p (made J + 1)) [
      | inl same ↦ subst (Came J) (same_Some other s (ap (λ (n : Node). server_of n.args) (same_Some (root_node p (args_are.Crash other) 1) node (sym (down_new other J p same) ∙ is)) ∙ e)) (live_came J other live)
      | inr differs ↦ was.args p node (sym (down_old other J p differs) ∙ is) s e
    ];
    places = λ now. was.places begun;
  }

opened_placed : (place : Place) → is_state place_is.Opened place ≡ true → is_placed place ≡ false → ⊥
opened_placed place on off = by place.state on off
  where
    by : (state : Rattle.hm_data.specs.declared.place.RegionState.RegionState) → is_state place_is.Opened (record place { state = state }) ≡ true → is_placed (record place { state = state }) ≡ false → ⊥
    by place_is.Opened a b = true≢false b
    by state a b = false≢true a

-- in a base a region that isn't placed names no server
part_bare : (part : Part) (J : Past) → PartFits part J → (region : Region) → (is_placed (place_of J region) ≡ false → (let place = place_of J region in place.server) ≡ None) → is_placed (part_place part region (place_of J region)) ≡ false → (let place = part_place part region (place_of J region) in place.server) ≡ None
part_bare (part_is.Region own range status parents given) J fits region was off = by (same_region region own) off fits.4.3
  where
    by : (b : Bool) → is_placed (if b then given else place_of J region) ≡ false → MayStand given status fits.4.0 → (let place = if b then given else place_of J region in place.server) ≡ None
    by false off may = was off
    by true off (inl none) = none.2
    by true off (inr up) = absurd (opened_placed given up.0 off)
part_bare part J fits region was off = was off

bare_parts : (J : Past) → IsLegal J → ends_parted J ≡ true → (region : Region) → is_placed (place_of J region) ≡ false → (let place = place_of J region in place.server) ≡ None
bare_parts [] legal is region off = refl
bare_parts (entry_is.Base part ∷ J) legal is region off = part_bare part J legal.1.0 region (bare_parts J legal.0 (by_parts (λ j. ends_parted j ≡ true) refl (λ own older. refl) part J legal.1.0) region) off
bare_parts (entry ∷ J) legal is region off = absurd (false≢true is)

pub named_came : (J : Past) → IsLegal J → NamedCame J
named_came [] legal = record { args = λ p node is s e. absurd (none-some node is); places = λ now region s e. absurd now }
named_came (entry_is.Start sheets ∷ J) legal = let was = named_came J legal.0 in record { args = was.args; places = λ now region s e. absurd (none-some s (sym (ap (λ j. let place = place_of j region in place.server) legal.1.0.0) ∙ e)) }
named_came (entry_is.Submit nonce request ∷ J) legal = named_submit J legal.0 legal.1.0 (named_came J legal.0) nonce request
named_came (entry_is.Step pid pick out ∷ J) legal = named_step J legal.0 legal.1.0 (named_came J legal.0) pid pick out legal
named_came (entry_is.Undo pid row out ∷ J) legal = named_undo J legal.0 legal.1.0 (named_came J legal.0) pid row out legal
named_came (entry_is.Up other ∷ J) legal = named_up J legal.0 legal.1.0 (named_came J legal.0) other
named_came (entry_is.Down other ∷ J) legal = named_down J legal.0 legal.1.0 (named_came J legal.0) other legal.1.1.0
named_came (entry_is.Base part ∷ J) legal = record {
  args = λ p node is s e. absurd (none-some node is);
  places = λ whole region s e. by whole region s e (is_placed (place_of (entry_is.Base part ∷ J) region)) refl;
}
  where
    by : (whole : IsWhole (entry_is.Base part ∷ J)) (region : Region) (s : Server) → (let place = place_of (entry_is.Base part ∷ J) region in place.server) ≡ Some s → (b : Bool) → is_placed (place_of (entry_is.Base part ∷ J) region) ≡ b → came_up (entry_is.Base part ∷ J) s ≡ true
    by whole region s e true on =
        let at = whole.opened region on in
        let same : at.0 ≡ s = same_Some at.0 s (sym (ap (λ (p : Place). p.server) at.1) ∙ e) in
        subst (Came (entry_is.Base part ∷ J)) same (live_came (entry_is.Base part ∷ J) at.0 at.2)
    by whole region s e false off = absurd (none-some s (sym (bare_parts (entry_is.Base part ∷ J) legal refl region off) ∙ e))
named_came (entry ∷ J) legal = let was = named_came J legal.0 in record { args = was.args; places = λ now. was.places legal.1.0 }

-- who is fenced came up
fenced_server : (args : Args) (s : Server) → fences_by args s ≡ true → server_of args ≡ Some s
fenced_server (args_are.FenceCall server) s e = ap Some (sym (same_server-is s server e))
fenced_server args s e = absurd (true≢false (sym e))

pub fence_names : (J : Past) → NamedCame J → (p : ℕ) (o : Option Node) → node_of J p ≡ o → (s : Server) → fences_if o s ≡ true → came_up J s ≡ true
fence_names J came p None is s e = absurd (true≢false (sym e))
fence_names J came p (Some node) is s e = came.args p node is s (fenced_server node.args s e)

pub fenced_came : (J : Past) → IsLegal J → (s : Server) → is_fenced J s ≡ true → came_up J s ≡ true
fenced_came [] legal s e = absurd (true≢false (sym e))
fenced_came (entry_is.Report call told ∷ J) legal s e = elim (or_cases ((told_number told == told_number told_is.Fenced) && fences_if (node_of J call.0) s) (is_fenced J s) e) [
  | inl now ↦ fence_names J (named_came J legal.0) call.0 (node_of J call.0) refl s (and_parts (told_number told == told_number told_is.Fenced) (fences_if (node_of J call.0) s) now).1
  | inr was ↦ fenced_came J legal.0 s was
]
fenced_came (entry_is.Up other ∷ J) legal s e = came_on J other s (fenced_came J legal.0 s e)
fenced_came (entry_is.Base part ∷ J) legal s e = part_came (part_server part) J s (fenced_came J legal.0 s) (λ both. same_server s both.0 && both.1) (λ both on. (and_parts (same_server s both.0) both.1 on).0) e
fenced_came (entry ∷ J) legal s e = fenced_came J legal.0 s e
