use Rattle.hm_places.proofs.Fleet.{entries_stand, fenced_came_up, standings_tell}
use Rattle.hm_places.proofs.laws.servers_follow.Goals as goal

pub returns : goal.returns
returns c = record { entries = entries_stand; tell = standings_tell; came = fenced_came_up }
