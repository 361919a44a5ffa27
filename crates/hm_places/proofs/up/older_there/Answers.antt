use Rattle.std.proofs.Common.{ap, sym}
use Rattle.hm_names.specs.Server.{Server}
use Rattle.hm_places.proofs.Fleets.{none_older}
use Rattle.hm_places.proofs.Newer.{older_first}
use Rattle.hm_places.proofs.up.older_there.Goals as goal

pub returns-in-Some : goal.returns-in-Some
returns-in-Some c =
    rw (ap (λ (s : Server). s.start) c.other.view_is, ap (λ (s : Server). s.start) c.server.view_is)
    (older_first c.args.rows.now.came c.args.rows.now.pairs c.args.live.now c.requires c.args.server.now c.in-Some.other.now (sym c.in-Some.ensures))

pub returns-in-None : goal.returns-in-None
returns-in-None c = sym (none_older c.args.rows.now.came c.args.rows.now.pairs c.args.live.now c.requires c.args.server.now (sym c.in-None.ensures))
