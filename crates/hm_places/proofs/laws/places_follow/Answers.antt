use Rattle.hm_places.proofs.Follows.{entries_place, places_tell}
use Rattle.hm_places.proofs.laws.places_follow.Goals as goal

pub returns : goal.returns
returns c = record { entries = entries_place; tell = places_tell }
