use Rattle.std.proofs.Common.{◌++◌, List, refl, ap, subst, sym, ◌∙◌}
use Rattle.std.specs.List.{flat_map}
use Rattle.std.proofs.lemmas.Bool.{false≢true}
use Rattle.hm_names.specs.Region.{Region}
use Rattle.hm_names.specs.Server.{Server}
use Rattle.hm_data.specs.declared.place.Place.{Place}
use Rattle.hm_model.specs.Standings.{is_live_in}
use Rattle.hm_model.specs.declared.standing.Standing.{Standing}
use Rattle.hm_places.specs.Places.{place_in}
use Rattle.hm_places.specs.Servers.{is_fenced_in}
use Rattle.hm_hbck.specs.Found.{holds_of, of_hold, running_in}
use Rattle.hm_hbck.specs.Pairs.{RowsAgree}
use Rattle.hm_hbck.proofs.Gathered.{AreRead, gathered_by}
use Rattle.hm_hbck.proofs.Holders.{rows_agree}
use Rattle.hm_hbck.proofs.listed.gather.Goals as goal

pub add_pairs-requires : goal.add_pairs-requires
add_pairs-requires c =
    subst RowsAgree (sym c.in_ok-held.ensures.list)
    (rows_agree c.catalog-catalog.result.now.rows (is_fenced_in c.servers-servers.result.now.servers) c.args.actors.now)

pub returns : goal.returns
returns c =
    let J = c.args.state.now.past in
    let standings = c.servers-servers.result.now.servers in
    let places = c.places-places.result.now.places in
    let crew = c.in_ok-crew.crew.pairs in
    let stands = c.servers_follow.ensures.tell J c.journal.ensures.legal in
    let tells = (c.places_follow.ensures.tell J).0 in
    let read : AreRead J (is_fenced_in standings) (is_live_in standings) c.args.actors.now (running_in (λ actor. actor.now) crew) (place_in places) = record {
      rows = c.rows_tell.ensures.rows J;
      unfenced = λ server. ap (λ (l : List (Server × Standing)). is_fenced_in l server) c.servers-servers.ensures ∙ stands.are_fenced server;
      live = λ server. ap (λ (l : List (Server × Standing)). is_live_in l server) c.servers-servers.ensures ∙ stands.live server;
      run = c.in_ok-crew.ensures;
      placed = λ region. ap (λ (l : List (Region × Place)). place_in l region) c.places-places.ensures ∙ tells region;
      tell = tells;
      differ = c.requires;
      held = c.in_ok-held.ensures.held;
      apart = λ a b so. false≢true (sym (c.live_regions_never_overlap.ensures J c.journal.ensures.legal b.table a b (so.3).0 (so.3).1 so.1 refl so.2 (so.3).2 (so.3).3) ∙ (so.3).4);
    } in
    gathered_by J (is_fenced_in standings) (is_live_in standings) c.args.actors.now (running_in (λ actor. actor.now) crew) (place_in places) read
    c.catalog-catalog.result.now.rows places _ _ _ _ _ _
    c.catalog-catalog.ensures c.places-places.ensures c.in_ok-held.ensures.list c.new-found.ensures.items
    c.in_ok-add_holes.ensures c.in_ok-add_places.ensures
    (c.in_ok-add_holdings.ensures ∙ ap (λ list. c.add_places.new.found.items ++ flat_map (of_hold (place_in places)) (holds_of list)) c.deref.ensures.value)
    c.in_ok-add_pairs.ensures
