-- What servers hold, against where the journal places regions.
use Rattle.std.specs.Prelude.{◌≡◌, Some, true}
use Rattle.hm_names.specs.Region.{Region}
use Rattle.hm_names.specs.Server.{Server}
use Rattle.hm_data.specs.declared.place.RegionState.TheVariants as place_is
use Rattle.hm_model.specs.Actors.{Actor, holds}
use Rattle.hm_model.specs.Base.{HasNoHalfBase}
use Rattle.hm_model.specs.Journal.{Past}
use Rattle.hm_model.specs.Places.{place_of}
use Rattle.hm_model.specs.TransitActs.{is_state}
use Rattle.hm_world_model.specs.Outside.{Outside}
use Rattle.hm_world_model.specs.Safe.{Safe}

-- a region that is open at a server which runs is held there, whatever is unfinished
abbrev pub OpenedAreHeld : Type 0
OpenedAreHeld =
    (J : Past) (o : Outside) → Safe J o → HasNoHalfBase J → (region : Region) (server : Server) (actor : Actor)
    → is_state place_is.Opened (place_of J region) ≡ true → (place_of J region).server ≡ Some server → o.actors server ≡ Some actor
    → holds actor region ≡ true
