-- Whether some server is live.
use Rattle.std.proofs.Common.{◌≡◌, List, [], ◌∷◌, map, Bool, true, false, is_some, Option, ℕ, refl, ◌∙◌}
use Rattle.std.specs.List.{list_any}
use Rattle.hm_names.specs.Server.{Server}
use Rattle.hm_model.specs.Fleet.{has_live, is_live, servers_of}
use Rattle.hm_model.specs.Journal.{Past}
use Rattle.hm_model.specs.Standings.{live_servers, standing_of, standings_of}
use Rattle.hm_model.specs.Choice.{lowest, or_else, without}

-- there is one
abbrev pub is_there : List Server → Bool
is_there [] = false
is_there (server ∷ more) = true

-- one is picked exactly where there is one
picked : (load : Server → ℕ) (avoid : Option Server) (servers : List Server) → is_some (lowest load (or_else (without avoid servers) servers)) ≡ is_there servers
picked load avoid [] = refl
picked load avoid (server ∷ more) = by (without avoid (server ∷ more))
  where
    by : (left : List Server) → is_some (lowest load (or_else left (server ∷ more))) ≡ true
    by [] = refl
    by (first ∷ rest) = refl

-- the live ones among these
one_more : (J : Past) (server : Server) (more : List Server) (b : Bool) → is_live J server ≡ b → is_there (live_servers (map (λ s. (s, standing_of J s)) more)) ≡ list_any (is_live J) more
    → is_there (live_servers (map (λ s. (s, standing_of J s)) (server ∷ more))) ≡ list_any (is_live J) (server ∷ more)
one_more J server more true e rest = rw e refl
one_more J server more false e rest = rw e rest

live_there : (J : Past) (servers : List Server) → is_there (live_servers (map (λ server. (server, standing_of J server)) servers)) ≡ list_any (is_live J) servers
live_there J [] = refl
live_there J (server ∷ more) = one_more J server more (is_live J server) refl (live_there J more)

pub some_live : (J : Past) (load : Server → ℕ) (avoid : Option Server) → is_some (lowest load (or_else (without avoid (live_servers (standings_of J))) (live_servers (standings_of J)))) ≡ has_live J
some_live J load avoid = picked load avoid (live_servers (standings_of J)) ∙ live_there J (servers_of J)
