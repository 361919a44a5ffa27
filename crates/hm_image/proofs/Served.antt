-- The parts of the servers, as they stand.
use Rattle.std.proofs.Common.{◌≡◌, List, [], ◌∷◌, map, refl, ap}
use Rattle.hm_names.specs.Server.{Server}
use Rattle.hm_model.specs.Image.{server_part}
use Rattle.hm_model.specs.Journal.{Past}
use Rattle.hm_model.specs.Standings.{standing_of}
use Rattle.hm_image.specs.Image.{server_told}

-- those of a journal are told as they stand in it
pub servers_told : (J : Past) (servers : List Server) → map server_told (map (λ server. (server, standing_of J server)) servers) ≡ map (server_part J) servers
servers_told J [] = refl
servers_told J (server ∷ more) = ap (λ l. server_part J server ∷ l) (servers_told J more)
