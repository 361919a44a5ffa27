-- The script that makes a cluster of so many regions, by numbers that a seed gives.
use Rattle.std.specs.Prelude.{ℕ, zero, suc, ◌+◌, ◌-◌, ◌*◌, ◌/◌, ◌%◌, ◌^◌, min, None, List, [], ◌∷◌, ◌++◌, map, codes}
use Rattle.std.specs.Fmt.{decimal}
use Rattle.std.specs.Int.{div_ceil}
use Rattle.hm_names.specs.Region.{Region}
use Rattle.hm_names.specs.Server.{Server}
use Rattle.hm_names.specs.declared.nonce.Nonce.{Nonce}
use Rattle.hm_names.specs.declared.table.TableName.{TableName}
use Rattle.hm_script.specs.declared.command.Command.{Command}
use Rattle.hm_script.specs.declared.command.Command.TheVariants as C

-- so many numbers from one on, rising
abbrev pub numbers_from : ℕ → ℕ → List ℕ
numbers_from first zero = []
numbers_from first (suc count) = first ∷ numbers_from (first + 1) count

-- the server with a number from 1: `h` and the number, at one port, never started before
abbrev pub server : ℕ → Server
server number = record { host = codes "h" ++ decimal number; port = 16020; start = 1 }

-- four servers come up
abbrev pub servers : List Command
servers = map (λ number. C.Server (server number)) (numbers_from 1 4)

-- requests have no nonce
abbrev pub no_nonce : Nonce
no_nonce = record { group = 0; number = 0 }

-- the table with a number from 0: `g` and the number, in the namespace `default`
abbrev pub table : ℕ → TableName
table number = record { ns = codes "default"; qualifier = codes "g" ++ decimal number }

-- the split key with a number from 1: `k` and the number's two digits
abbrev pub split_key : ℕ → List ℕ
split_key number = codes "k" ++ (48 + number / 10) ∷ (48 + number % 10) ∷ []

-- the keys that split a table into so many regions
abbrev pub split_keys : ℕ → List (List ℕ)
split_keys regions = map split_key (numbers_from 1 (regions - 1))

-- the request for a table: of `count` regions it has the 64 after those of the tables before, or as many as are left
abbrev pub create : ℕ → ℕ → Command
create count number = C.Create no_nonce (table number) (split_keys (min 64 (count - 64 * number)))

-- the requests for as many tables as it takes to have so many regions
abbrev pub creates : ℕ → List Command
creates count = map (create count) (numbers_from 0 (div_ceil count 64))

-- the number that the generator draws after another
abbrev pub next_draw : ℕ → ℕ
next_draw x = (x * 6364136223846793005 + 1442695040888963407) % 2 ^ 64

-- so many numbers that the generator draws after a seed
abbrev pub draws : ℕ → ℕ → List ℕ
draws seed zero = []
draws seed (suc count) = next_draw seed ∷ draws (next_draw seed) count

-- the region at a place from 0, where each table has 64
abbrev pub region : ℕ → Region
region place = record { table = table (place / 64); id = place % 64 + 1 }

-- the request that moves one of `count` regions to any server: the drawn number's upper bits choose it
abbrev pub move : ℕ → ℕ → Command
move count drawn = C.Move no_nonce (region (drawn / 2 ^ 33 % count)) None

-- a move for every eight regions
abbrev pub moves : ℕ → ℕ → List Command
moves seed count = map (move count) (draws seed (count / 8))

-- the first server dies, which is noticed, and loads are balanced
abbrev pub ending : List Command
ending = C.Die (server 1) ∷ C.Expire (server 1) ∷ C.Settle ∷ C.Balance ∷ C.Settle ∷ []

-- the script for a seed and so many regions
unfoldable pub generated : ℕ → ℕ → List Command
generated seed count = servers ++ creates count ++ C.Settle ∷ moves seed count ++ C.Settle ∷ ending

-- a command of a sort that the script has
abbrev pub IsGenerated : Command → Type 0
IsGenerated (C.Server server) = Unit {0}
IsGenerated (C.Create nonce table keys) = Unit {0}
IsGenerated C.Settle = Unit {0}
IsGenerated (C.Move nonce region to) = Unit {0}
IsGenerated (C.Die server) = Unit {0}
IsGenerated (C.Expire server) = Unit {0}
IsGenerated C.Balance = Unit {0}
IsGenerated command = ⊥
