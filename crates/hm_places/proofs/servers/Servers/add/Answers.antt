use Rattle.hm_places.proofs.Fleets.{newest_of}
use Rattle.hm_places.proofs.servers.Servers.add.Goals as goal

pub tell-requires-clause-newest : goal.tell-requires-clause-newest
tell-requires-clause-newest c = newest_of c.args.self.now.servers c.args.server c.requires.may.newest
