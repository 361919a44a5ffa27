use Rattle.std.proofs.Common.{ap, ◌∙◌}
use Rattle.hm_places.specs.Places.{place_in}
use Rattle.hm_judge.proofs.seen.place_of.Goals as goal

pub returns : goal.returns
returns c = c.of.ensures ∙ ap (λ l. place_in l c.args.region.now) c.places.ensures ∙ (c.places_follow.ensures.tell c.args.records.now.past).0 c.args.region.now
