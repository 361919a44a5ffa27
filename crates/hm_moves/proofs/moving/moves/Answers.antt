use Rattle.std.proofs.Common.{◌≡◌, List, map, ap, ◌∙◌, sym, subst, arith}
use Rattle.hm_names.specs.Order.{server_cmp}
use Rattle.hm_names.specs.Region.{Region}
use Rattle.hm_names.specs.Server.{Server}
use Rattle.hm_index.specs.Index.{IsRising}
use Rattle.hm_balance.specs.Loads.{AreAmong, Loads, NamesDiffer}
use Rattle.hm_balance.specs.Plan.{IsPlan}
use Rattle.hm_data.specs.declared.place.Place.{Place}
use Rattle.hm_model.specs.Standings.{live_servers}
use Rattle.hm_model.specs.declared.standing.Standing.{Standing}
use Rattle.hm_moves.specs.Opened.{AreOpened, opened_at}
use Rattle.hm_moves.proofs.Choosing.{names_differ, names_rise, opened_by}
use Rattle.hm_moves.proofs.moving.moves.Goals as goal

pub plan-requires : goal.plan-requires
plan-requires c =
    subst NamesDiffer (sym c.deref.ensures.value)
    (names_differ c.in_ok-held.held.loads.items
    (names_rise _ c.servers-servers.result.now.servers c.in_ok-held.held.loads.items _ (subst (IsRising server_cmp) c.all.ensures c.len-rising.ensures.rising) c.in_ok-held.ensures.opened))

pub choose-requires-clause-rise : goal.choose-requires-clause-rise
choose-requires-clause-rise c =
    names_rise _ c.servers-servers.result.now.servers c.in_ok-held.held.loads.items _ (subst (IsRising server_cmp) c.all.ensures c.len-rising.ensures.rising) c.in_ok-held.ensures.opened

pub returns : goal.returns
returns c =
    let J = c.args.state.now.past in
    let loads = c.in_ok-held.held.loads.items in
    let are = opened_by c.places_follow.ensures.tell J c.places.result.now.places c.servers-servers.result.now.servers loads _ c.places.ensures c.servers-servers.ensures c.in_ok-held.ensures.opened in
    record {
      shifts = c.in_ok-shifts.shifts.items;
      plan = subst (λ (l : Loads). IsPlan l c.in_ok-shifts.shifts.items) (c.deref.ensures.value ∙ are.loaded) c.in_ok-shifts.ensures.plan;
      counted = (let long = c.in_ok-shifts.shifts.ok.0 in let count = c.len-count.ensures in omega (arith, long, count));
      chosen_by = c.in_ok-choose.ensures _ _ are;
    }
