use Rattle.std.proofs.Common.{ap, sym, arith}
use Rattle.hm_names.specs.Order.{server_cmp}
use Rattle.hm_names.specs.Server.{Server}
use Rattle.hm_index.specs.Index.{pairs_from}
use Rattle.hm_model.specs.Standings.{greatest_start}
use Rattle.hm_places.proofs.Addresses.{from_all, from_rising, rising_tail, further, all_met}
use Rattle.hm_places.proofs.up.greatest_from.Goals as goal

pub loop-other-init : goal.loop-other-init
loop-other-init c =
    rw (c.into_iter-other-iterator.ensures.into_iter_gives, c.iter_from-other-items.ensures)
    (record { total = omega arith; rising = from_rising c.args.server.now c.args.rows.now.pairs c.requires; from = from_all c.args.server.now c.args.rows.now.pairs c.requires })

pub loop-other-preserved : goal.loop-other-preserved
loop-other-preserved c =
    let step = c.in-Some.ensures.steps in
    let total = rw step at c.loop-other.invariant.total in
    let rising = rw step at c.loop-other.invariant.rising in
    let from = rw step at c.loop-other.invariant.from in
    record {
      total = rw (c.max-greatest.ensures, ap (λ (s : Server). s.start) c.other.view_is) (further c.args.server.now c.in-Some.field-0.now c.next.new.self (greatest_start (pairs_from server_cmp c.args.rows.now.pairs c.args.server.now) c.args.server.now) c.loop-other.greatest total (sym c.if-not-at_address.ensures));
      rising = rising_tail c.in-Some.field-0.now c.next.new.self rising;
      from = from.1;
    }

pub returns-then-not-at_address : goal.returns-then-not-at_address
returns-then-not-at_address c =
    let step = c.in-Some.ensures.steps in
    let total = rw step at c.loop-other.invariant.total in
    let rising = rw step at c.loop-other.invariant.rising in
    let from = rw step at c.loop-other.invariant.from in
    all_met c.args.server.now c.in-Some.field-0.now c.next.new.self (greatest_start (pairs_from server_cmp c.args.rows.now.pairs c.args.server.now) c.args.server.now) c.loop-other.greatest total rising from (sym c.if-not-at_address.ensures)
