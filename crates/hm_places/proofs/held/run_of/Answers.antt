use Rattle.hm_places.specs.Places.{key_of, side}
use Rattle.hm_places.proofs.Runs.{ordered, run_is}
use Rattle.hm_places.proofs.AtServers.{run_names, run_count}
use Rattle.hm_places.proofs.held.run_of.Goals as goal

pub part-requires-clause-order : goal.part-requires-clause-order
part-requires-clause-order c =
    ordered (λ n. side c.args.server.now (key_of c.args.rows.now.came n)) c.args.held.now c.bounds-from.result.0 c.bounds-from.result.1 c.bounds-from.ensures.limit.0 c.bounds-from.ensures.limit.1 c.bounds-from.ensures.splits

pub returns-clause-names : goal.returns-clause-names
returns-clause-names c =
    rw (c.part.ensures, run_is (λ n. side c.args.server.now (key_of c.args.rows.now.came n)) c.args.held.now c.bounds-from.result.0 c.bounds-from.result.1 c.bounds-from.ensures.limit.0 c.bounds-from.ensures.limit.1 c.bounds-from.ensures.splits)
    (run_names c.args.rows.now.came c.args.rows.now.pairs c.args.held.now c.args.server.now c.requires.held c.requires.rising)

pub returns-clause-count : goal.returns-clause-count
returns-clause-count c =
    rw (c.part.ensures, run_is (λ n. side c.args.server.now (key_of c.args.rows.now.came n)) c.args.held.now c.bounds-from.result.0 c.bounds-from.result.1 c.bounds-from.ensures.limit.0 c.bounds-from.ensures.limit.1 c.bounds-from.ensures.splits)
    (run_count c.args.rows.now.came c.args.held.now c.args.server.now)
