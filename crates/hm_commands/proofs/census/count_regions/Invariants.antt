use Rattle.hm_places.specs.Places.{place_in}
use Rattle.hm_commands.proofs.Counting.{AreCounted}
use Rattle.hm_commands.proofs.census.count_regions.Given as goal

abbrev pub invariant-loop-key : goal.invariant-loop-key
invariant-loop-key l = AreCounted (place_in l.places.places) l.key-iterator l.catalog.rows l.regions l.opened
