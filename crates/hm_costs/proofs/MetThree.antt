-- A journal of a table of three regions, which are merged.
use Rattle.std.proofs.Common.{[], ◌∷◌, ◌++◌, List, refl}
use Rattle.hm_data.specs.declared.call.Told.TheVariants as told_is
use Rattle.hm_data.specs.declared.request.Request.TheVariants as request_is
use Rattle.hm_model.specs.Journal.{Past}
use Rattle.hm_model.proofs.ByHand.{one, region}
use Rattle.hm_model.proofs.Played.{IsPlayed}
use Rattle.hm_costs.proofs.MetOne.{begun, begun_played, listing}
use Rattle.hm_costs.proofs.Scripted.{Turn, asks, calls, closes, opens, play, played_on, times}

abbrev creates : List Turn
creates = listing ((1 ∷ []) ∷ (2 ∷ []) ∷ []) ++ opens 4 one 7 ++ opens 5 one 8 ++ opens 6 one 9 ++ times 1 1

abbrev created : Past
created = play begun creates

created_played : IsPlayed created
created_played = played_on creates begun begun_played refl

abbrev merges : List Turn
merges =
    asks 2 (request_is.MergeRegions (region 1 ∷ region 2 ∷ region 3 ∷ [])) ∷ times 2 10 ++ closes 11 14 ++ closes 12 15 ++ closes 13 16 ++ times 1 10
    ++ calls 17 told_is.LaidOut ++ times 2 10 ++ opens 18 one 19 ++ times 1 10

abbrev pub merged : Past
merged = play created merges

pub merged_played : IsPlayed merged
merged_played = played_on merges created created_played refl
