-- Journals of a table of two regions.
use Rattle.std.proofs.Common.{[], ◌∷◌, ◌++◌, List, refl}
use Rattle.hm_data.specs.declared.call.Told.TheVariants as told_is
use Rattle.hm_data.specs.declared.request.Request.TheVariants as request_is
use Rattle.hm_model.specs.Journal.{Past}
use Rattle.hm_model.proofs.ByHand.{one, table, two}
use Rattle.hm_model.proofs.Played.{IsPlayed}
use Rattle.hm_costs.proofs.MetOne.{begun, begun_played, listing}
use Rattle.hm_costs.proofs.Scripted.{Turn, asks, calls, closes, comes, falls, opens, play, played_on, times}

abbrev creates : List Turn
creates = listing ((1 ∷ []) ∷ []) ++ opens 4 one 6 ++ opens 5 one 7 ++ times 1 1

abbrev pub created : Past
created = play begun creates

pub created_played : IsPlayed created
created_played = played_on creates begun begun_played refl

-- it is disabled, and enabled again
abbrev disables : List Turn
disables =
    asks 2 (request_is.DisableTable table) ∷ times 3 8 ++ closes 9 11 ++ closes 10 12 ++ times 1 8
    ++ asks 3 (request_is.EnableTable table) ∷ times 3 13 ++ opens 14 one 16 ++ opens 15 one 17 ++ times 1 13

abbrev pub enabled : Past
enabled = play created disables

pub enabled_played : IsPlayed enabled
enabled_played = played_on disables created created_played refl

-- its server goes down
abbrev crashes : List Turn
crashes = comes two ∷ falls one ∷ times 1 8 ++ calls 9 told_is.Fenced ++ times 1 8 ++ opens 10 two 12 ++ opens 11 two 13 ++ times 1 8

abbrev pub crashed : Past
crashed = play created crashes

pub crashed_played : IsPlayed crashed
crashed_played = played_on crashes created created_played refl
