-- What servers hold that run and aren't fenced, and what is found of it.
use Rattle.std.proofs.Common.{◌≡◌, ℕ, ◌+◌, ◌<◌, drop, get_or, length, append_assoc, List, [], ◌∷◌, ◌++◌, map, Option, Some, None, Bool, true, false, not, if◌then◌else◌, is_none, refl, inl, inr, ap, sym, ◌∙◌, subst}
use Rattle.std.specs.List.{AllByRecursion, IsDistinct, flat_map}
use Rattle.std.proofs.lemmas.Bool.{false≢true}
use Rattle.std.proofs.lemmas.List.{drop_more}
use Rattle.hm_names.specs.Region.{Region}
use Rattle.hm_names.specs.Server.{Server}
use Rattle.hm_names.specs.declared.range.KeyRange.{KeyRange}
use Rattle.hm_data.specs.declared.catalog.CatKey.TheVariants as key_is
use Rattle.hm_data.specs.declared.catalog.CatRow.{CatRow}
use Rattle.hm_data.specs.declared.place.Place.{Place}
use Rattle.hm_model.specs.Actors.{Actor, holds}
use Rattle.hm_model.specs.Catalog.{cat, row_at}
use Rattle.hm_model.specs.Findings.{IsHolder, Stray as said_stray, NoRow as said_no_row, IsSo}
use Rattle.hm_model.specs.Fleet.{is_fenced, same_server}
use Rattle.hm_model.specs.Journal.{Past}
use Rattle.hm_model.specs.Locks.{IsIn}
use Rattle.hm_model.specs.Places.{is_at, place_of}
use Rattle.hm_model.specs.Ranges.{IsLiveWith}
use Rattle.hm_model.specs.RowsSaid.{Rows}
use Rattle.hm_model.proofs.NameTies.{same_server-is, same_server-refl}
use Rattle.hm_server.specs.Actors.{ActorView, AreHeldBy, actor_of, held_in}
use Rattle.hm_ranges.specs.Live.{live_in}
use Rattle.hm_ranges.proofs.Lists.{in_either, in_front, in_map, in_rest}
use Rattle.hm_ranges.proofs.LiveRows.{live_is}
use Rattle.hm_hbck.specs.Findings.{NamesDiffer, running, said}
use Rattle.hm_hbck.specs.Found.{AllAreHeld, Hold, all_held, held_at, held_by, of_hold, only_if}
use Rattle.hm_hbck.specs.Pairs.{RowsAgree}
use Rattle.hm_hbck.specs.declared.finding.Finding.{Finding}
use Rattle.hm_hbck.specs.declared.finding.Finding.TheVariants as finding_is
use Rattle.hm_hbck.proofs.Lists.{flat_map_in, in_flat_map, in_one, map_in, one_in}
use Rattle.hm_hbck.proofs.Placed.{not_true}

-- a region at a server, with its row
abbrev pub held : Rows → Region → Server → Hold
held rows region server = record { region = region; server = server; row = row_at rows (key_is.Region region) }

-- one of what is held by a server that isn't fenced
abbrev IsOf : Rows → (Server → Bool) → ActorView → Hold → Type 0
IsOf rows fenced actor hold = (region : Region) × (fenced actor.name ≡ false) × IsIn region (held_in actor.duties) × (hold ≡ held rows region actor.name)

of_actor : (rows : Rows) (fenced : Server → Bool) (actor : ActorView) (hold : Hold) → IsIn hold (held_at rows fenced actor) → IsOf rows fenced actor hold
of_actor rows fenced actor hold there = by (fenced actor.name) refl there
  where
    by : (b : Bool) → fenced actor.name ≡ b → IsIn hold (if b then [] else held_by rows actor.name (held_in actor.duties)) → IsOf rows fenced actor hold
    by true on there = absurd there
    by false off there = let at = in_map (λ (region : Region). held rows region actor.name) hold (held_in actor.duties) there in (at.0, off, at.1, at.2)

pub hold_row : (rows : Rows) (fenced : Server → Bool) (actors : List ActorView) (hold : Hold) → IsIn hold (all_held rows fenced actors) → hold.row ≡ row_at rows (key_is.Region hold.region)
hold_row rows fenced actors hold there =
    let at = in_flat_map (held_at rows fenced) hold actors there in
    let is = of_actor rows fenced at.0 hold at.2 in
    subst (λ (h : Hold). h.row ≡ row_at rows (key_is.Region h.region)) (sym is.3) refl

pub rows_agree : (rows : Rows) (fenced : Server → Bool) (actors : List ActorView) → RowsAgree (all_held rows fenced actors)
rows_agree rows fenced actors = λ one other there too same.
    hold_row rows fenced actors one there ∙ ap (λ (r : Region). row_at rows (key_is.Region r)) same ∙ sym (hold_row rows fenced actors other too)

-- a loop's step: what one more of some servers holds
pub held_step : (rows : Rows) (fenced : Server → Bool) (actors : List ActorView) (i : ℕ) (d actor : ActorView) → i < length actors → actor ≡ get_or actors i d → (old new all : List Hold)
    → new ≡ old ++ held_at rows fenced actor → old ++ all_held rows fenced (drop i actors) ≡ all → new ++ all_held rows fenced (drop (i + 1) actors) ≡ all
held_step rows fenced actors i d actor within is old new all added so_far =
    ap (λ (l : List Hold). l ++ all_held rows fenced (drop (i + 1) actors)) added
    ∙ append_assoc old (held_at rows fenced actor) (all_held rows fenced (drop (i + 1) actors))
    ∙ ap (λ (l : List ActorView). old ++ all_held rows fenced l) (ap (λ (a : ActorView). a ∷ drop (i + 1) actors) is ∙ sym (drop_more actors i d within))
    ∙ so_far

pub all_step : (fenced : Server → Bool) (actors : List ActorView) (i : ℕ) (d actor : ActorView) → i < length actors → actor ≡ get_or actors i d
    → (fenced actor.name ≡ false → AreHeldBy (actor_of actor) (held_in actor.duties)) → AllAreHeld fenced (drop (i + 1) actors) → AllAreHeld fenced (drop i actors)
all_step fenced actors i d actor within is one rest =
    subst (AllAreHeld fenced) (ap (λ (a : ActorView). a ∷ drop (i + 1) actors) is ∙ sym (drop_more actors i d within)) (one, rest)

-- a server of some that holds a region
abbrev Runs : (Server → Bool) → List ActorView → Region → Server → Type 0
Runs fenced actors region server = (actor : Actor) × (running actors server ≡ Some actor) × (fenced server ≡ false) × (holds actor region ≡ true)

-- a name that is further on isn't the first one's
further_name : (first : ActorView) (more : List ActorView) (actor : ActorView) → AllByRecursion (λ name. same_server first.name name ≡ false) (map (λ other. other.name) more) → IsIn actor more → same_server first.name actor.name ≡ false
further_name first [] actor apart there = absurd there
further_name first (other ∷ more) actor apart (inl same) = ap (λ (a : ActorView). same_server first.name a.name) same ∙ apart.0
further_name first (other ∷ more) actor apart (inr there) = further_name first more actor apart.1 there

runs_own : (actors : List ActorView) (actor : ActorView) → NamesDiffer actors → IsIn actor actors → running actors actor.name ≡ Some (actor_of actor)
unfolding IsDistinct
runs_own [] actor differ there = absurd there
runs_own (first ∷ more) actor differ (inl same) =
    subst (λ (a : ActorView). (if same_server first.name a.name then Some (actor_of first) else running more a.name) ≡ Some (actor_of a)) (sym same) (rw (same_server-refl first.name) refl)
runs_own (first ∷ more) actor differ (inr there) = rw (further_name first more actor differ.0 there) (runs_own more actor differ.1 there)

its_held : (fenced : Server → Bool) (actors : List ActorView) (actor : ActorView) → AllAreHeld fenced actors → IsIn actor actors → fenced actor.name ≡ false → AreHeldBy (actor_of actor) (held_in actor.duties)
its_held fenced [] actor all there = absurd there
its_held fenced (first ∷ more) actor all (inl same) = subst (λ (a : ActorView). fenced a.name ≡ false → AreHeldBy (actor_of a) (held_in a.duties)) (sym same) all.0
its_held fenced (first ∷ more) actor all (inr there) = its_held fenced more actor all.1 there

-- what is held is held by a server that runs
pub hold_runs : (rows : Rows) (fenced : Server → Bool) (actors : List ActorView) (hold : Hold) → NamesDiffer actors → AllAreHeld fenced actors → IsIn hold (all_held rows fenced actors) → Runs fenced actors hold.region hold.server
hold_runs rows fenced actors hold differ all there =
    let at = in_flat_map (held_at rows fenced) hold actors there in
    let is = of_actor rows fenced at.0 hold at.2 in
    let list = its_held fenced actors at.0 all at.1 is.1 in
    subst (λ (h : Hold). Runs fenced actors h.region h.server) (sym is.3) (actor_of at.0, runs_own actors at.0 differ at.1, is.1, (list.1 is.0).0 is.2)

runs_some : (actors : List ActorView) (server : Server) (actor : Actor) → running actors server ≡ Some actor → (view : ActorView) × IsIn view actors × (view.name ≡ server) × (actor_of view ≡ actor)
runs_some [] server actor e = cc
runs_some (first ∷ more) server actor e = by (λ further. runs_some more server actor further) (same_server first.name server) refl e
  where
    apart : (a b : Actor) → Some a ≡ Some b → a ≡ b
    apart a b e = cc

    by : (running more server ≡ Some actor → (view : ActorView) × IsIn view more × (view.name ≡ server) × (actor_of view ≡ actor)) → (b : Bool) → same_server first.name server ≡ b → (if b then Some (actor_of first) else running more server) ≡ Some actor → (view : ActorView) × IsIn view (first ∷ more) × (view.name ≡ server) × (actor_of view ≡ actor)
    by rest true one e = (first, inl refl, same_server-is first.name server one, apart (actor_of first) actor e)
    by rest false other e = let is = rest e in (is.0, inr is.1, is.2, is.3)

-- what a server holds that runs is held
pub runs_held : (rows : Rows) (fenced : Server → Bool) (actors : List ActorView) (region : Region) (server : Server) → AllAreHeld fenced actors → Runs fenced actors region server → IsIn (held rows region server) (all_held rows fenced actors)
runs_held rows fenced actors region server all (actor, is, off, holding) =
    let at = runs_some actors server actor is in
    let unfenced : fenced (at.0).name ≡ false = ap fenced at.2 ∙ off in
    let list = its_held fenced actors at.0 all at.1 unfenced in
    let there : IsIn region (held_in (at.0).duties) = (list.1 region).1 (ap (λ (a : Actor). holds a region) at.3 ∙ holding) in
    subst (λ (s : Server). IsIn (held rows region s) (all_held rows fenced actors)) at.2
    (flat_map_in (held_at rows fenced) (held rows region (at.0).name) at.0 actors at.1
    (rw unfenced (map_in (λ (r : Region). held rows r (at.0).name) region (held_in (at.0).duties) there)))

module _ (J : Past) (rows : Rows) (fenced : Server → Bool) (actors : List ActorView) (place : Region → Place)
    (rows_are : row_at rows ≡ cat J) (fenced_are : (server : Server) → fenced server ≡ is_fenced J server) (places_are : (region : Region) → place region ≡ place_of J region)
    (differ : NamesDiffer actors) (all : AllAreHeld fenced actors) where
  pub holder : (region : Region) (server : Server) → Runs fenced actors region server → IsHolder J (running actors) region server
  holder region server (actor, is, off, holding) = (actor, is, sym (fenced_are server) ∙ off, holding)

  pub runner : (region : Region) (server : Server) → IsHolder J (running actors) region server → Runs fenced actors region server
  runner region server (actor, is, off, holding) = (actor, is, fenced_are server ∙ off, holding)

  row_is_of : (region : Region) → row_at rows (key_is.Region region) ≡ cat J (key_is.Region region)
  row_is_of region = ap (λ (f : _). f (key_is.Region region)) rows_are

  none_live : (region : Region) → is_none (live_in (cat J (key_is.Region region))) ≡ true → (range : KeyRange) → IsLiveWith (cat J) region range → ⊥
  none_live region none range live = false≢true (sym (ap (λ (row : Option CatRow). is_none (live_in row)) live.1) ∙ none)

  live_none : (region : Region) → ((range : KeyRange) → IsLiveWith (cat J) region range → ⊥) → is_none (live_in (cat J (key_is.Region region))) ≡ true
  live_none region none = by (live_in (cat J (key_is.Region region))) refl
    where
      by : (o : Option KeyRange) → live_in (cat J (key_is.Region region)) ≡ o → is_none o ≡ true
      by None e = refl
      by (Some range) e = absurd (none range (live_is (cat J (key_is.Region region)) range e))

  hold_so : (hold : Hold) (finding : Finding) → IsIn hold (all_held rows fenced actors) → IsIn finding (of_hold place hold) → IsSo J (running actors) (said finding)
  hold_so hold finding there found = elim (in_either finding (only_if (not (is_at hold.server (place hold.region))) (finding_is.Stray hold.region hold.server)) (only_if (is_none (live_in hold.row)) (finding_is.NoRow hold.region hold.server)) found) [
    | inl stray ↦
        let is = in_one finding (finding_is.Stray hold.region hold.server) (not (is_at hold.server (place hold.region))) stray in
        subst (λ (f : Finding). IsSo J (running actors) (said f)) (sym is.1)
        (held_there, ap (is_at hold.server) (sym (places_are hold.region)) ∙ not_true (is_at hold.server (place hold.region)) is.0)
    | inr gone ↦
        let is = in_one finding (finding_is.NoRow hold.region hold.server) (is_none (live_in hold.row)) gone in
        subst (λ (f : Finding). IsSo J (running actors) (said f)) (sym is.1)
        (held_there, none_live hold.region (ap (λ (row : Option CatRow). is_none (live_in row)) (sym (hold_row rows fenced actors hold there ∙ row_is_of hold.region)) ∙ is.0))
  ]
    where
      held_there : IsHolder J (running actors) hold.region hold.server
      held_there = holder hold.region hold.server (hold_runs rows fenced actors hold differ all there)

  pub holds_so : (finding : Finding) → IsIn finding (flat_map (of_hold place) (all_held rows fenced actors)) → IsSo J (running actors) (said finding)
  holds_so finding found =
      let at = in_flat_map (of_hold place) finding (all_held rows fenced actors) found in
      hold_so at.0 finding at.1 at.2

  pub so_stray : (region : Region) (server : Server) → IsSo J (running actors) (said_stray region server) → IsIn (finding_is.Stray region server) (flat_map (of_hold place) (all_held rows fenced actors))
  so_stray region server (is, off) =
      let hold = held rows region server in
      flat_map_in (of_hold place) (finding_is.Stray region server) hold (all_held rows fenced actors) (runs_held rows fenced actors region server all (runner region server is))
      (in_front (finding_is.Stray region server) (only_if (not (is_at server (place region))) (finding_is.Stray region server)) (only_if (is_none (live_in hold.row)) (finding_is.NoRow region server))
      (one_in (finding_is.Stray region server) (not (is_at server (place region))) (ap not (ap (is_at server) (places_are region) ∙ off))))

  pub so_no_row : (region : Region) (server : Server) → IsSo J (running actors) (said_no_row region server) → IsIn (finding_is.NoRow region server) (flat_map (of_hold place) (all_held rows fenced actors))
  so_no_row region server (is, none) =
      let hold = held rows region server in
      flat_map_in (of_hold place) (finding_is.NoRow region server) hold (all_held rows fenced actors) (runs_held rows fenced actors region server all (runner region server is))
      (in_rest (finding_is.NoRow region server) (only_if (not (is_at server (place region))) (finding_is.Stray region server)) (only_if (is_none (live_in hold.row)) (finding_is.NoRow region server))
      (one_in (finding_is.NoRow region server) (is_none (live_in hold.row)) (ap (λ (row : Option CatRow). is_none (live_in row)) (row_is_of region) ∙ live_none region none)))
