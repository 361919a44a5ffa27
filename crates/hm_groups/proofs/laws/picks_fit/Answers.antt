use Rattle.hm_groups.proofs.Picked.{picks_fit}
use Rattle.hm_groups.proofs.laws.picks_fit.Goals as goal

pub returns : goal.returns
returns c = picks_fit c.places_follow.ensures.tell c.servers_follow.ensures.tell
