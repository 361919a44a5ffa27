-- Journals of a table of one region.
use Rattle.std.proofs.Common.{[], ◌∷◌, ◌++◌, codes, List, ℕ, Some, refl}
use Rattle.hm_data.specs.declared.call.Told.TheVariants as told_is
use Rattle.hm_data.specs.declared.entry.Entry.TheVariants as entry_is
use Rattle.hm_data.specs.declared.request.Request.TheVariants as request_is
use Rattle.hm_model.specs.Journal.{Past}
use Rattle.hm_model.proofs.AllSheets.{sheets, sheets_valid}
use Rattle.hm_model.proofs.ByHand.{one, region, table, two}
use Rattle.hm_model.proofs.Played.{IsPlayed}
use Rattle.hm_costs.proofs.Scripted.{Turn, asks, calls, closes, comes, falls, goes_back, opens, play, played_on, times}

-- a master begins, with its sheets
abbrev pub begun : Past
begun = entry_is.Start sheets ∷ []

pub begun_played : IsPlayed begun
begun_played = (refl, refl, sheets_valid)

-- a table split at these keys is asked for, and its regions are listed
abbrev pub listing : List (List ℕ) → List Turn
listing keys = comes one ∷ asks 1 (request_is.CreateTable table keys) ∷ times 3 1 ++ calls 2 told_is.LaidOut ++ times 1 1 ++ times 1 3 ++ times 2 1

abbrev creates : List Turn
creates = listing [] ++ opens 4 one 5 ++ times 1 1

abbrev pub created : Past
created = play begun creates

pub created_played : IsPlayed created
created_played = played_on creates begun begun_played refl

abbrev disables : List Turn
disables = asks 2 (request_is.DisableTable table) ∷ times 3 6 ++ closes 7 8 ++ times 1 6

abbrev pub disabled : Past
disabled = play created disables

pub disabled_played : IsPlayed disabled
disabled_played = played_on disables created created_played refl

-- it is enabled again, and its region moved
abbrev moves : List Turn
moves =
    asks 3 (request_is.EnableTable table) ∷ times 3 9 ++ opens 10 one 11 ++ times 1 9
    ++ comes two ∷ asks 4 (request_is.Move (region 1) (Some two)) ∷ times 1 12 ++ closes 12 13 ++ opens 12 two 14

abbrev pub moved : Past
moved = play disabled moves

pub moved_played : IsPlayed moved
moved_played = played_on moves disabled disabled_played refl

-- it is modified and deleted, and a namespace created and dropped
abbrev deletes : List Turn
deletes =
    asks 3 (request_is.ModifyTable table 7) ∷ times 2 9 ++ asks 4 (request_is.DeleteTable table) ∷ times 2 10 ++ times 1 11 ++ times 1 10
    ++ asks 5 (request_is.CreateNamespace (codes "shop")) ∷ times 2 12 ++ asks 6 (request_is.DropNamespace (codes "shop")) ∷ times 2 13

abbrev pub deleted : Past
deleted = play disabled deletes

pub deleted_played : IsPlayed deleted
deleted_played = played_on deletes disabled disabled_played refl

-- a split closes its region, and calls for its layout
abbrev splits : List Turn
splits = asks 2 (request_is.SplitRegion (region 1) (codes "k")) ∷ times 2 6 ++ closes 7 8 ++ times 1 6

abbrev split : Past
split = play created splits

split_played : IsPlayed split
split_played = played_on splits created created_played refl

-- its daughters are opened, and merged
abbrev merges : List Turn
merges =
    calls 9 told_is.LaidOut ++ times 2 6 ++ opens 10 one 12 ++ opens 11 one 13 ++ times 1 6
    ++ asks 3 (request_is.MergeRegions (region 2 ∷ region 3 ∷ [])) ∷ times 2 14 ++ closes 15 17 ++ closes 16 18 ++ times 1 14
    ++ calls 19 told_is.LaidOut ++ times 2 14 ++ opens 20 one 21 ++ times 1 14

abbrev pub merged : Past
merged = play split merges

pub merged_played : IsPlayed merged
merged_played = played_on merges split split_played refl

-- or its layout is refused, so it is undone: the layout is swept, and the region opened again
abbrev undoes : List Turn
undoes = calls 9 told_is.Refused ++ goes_back 6 ∷ goes_back 6 ∷ calls 10 told_is.Swept ++ opens 11 one 12

abbrev pub undone : Past
undone = play split undoes

pub undone_played : IsPlayed undone
undone_played = played_on undoes split split_played refl

-- the server goes down, and the region is opened at another
abbrev crashes : List Turn
crashes = comes two ∷ falls one ∷ times 1 6 ++ calls 7 told_is.Fenced ++ times 1 6 ++ opens 8 two 9 ++ times 1 6

abbrev pub crashed : Past
crashed = play created crashes

pub crashed_played : IsPlayed crashed
crashed_played = played_on crashes created created_played refl
