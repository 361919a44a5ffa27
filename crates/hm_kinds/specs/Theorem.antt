-- What the kinds ask for keeps from others.
use Rattle.std.specs.Prelude.{◌≡◌, ℕ, None, true}
use Rattle.hm_data.specs.declared.args.Args.TheVariants as args_are
use Rattle.hm_data.specs.declared.catalog.CatKey.{CatKey}
use Rattle.hm_data.specs.declared.request.Request.{Request}
use Rattle.hm_model.specs.Locks.{Clash, asks}
use Rattle.hm_model.specs.Reads.{covers, guards}
use Rattle.hm_model.specs.Requests.{wrong_in}

-- a request that covers a row asks for what clashes with the asks of each request that covers the row or reads it
abbrev pub CoversClash : Type 0
CoversClash =
    (one other : Request) (first second : ℕ) → wrong_in one ≡ None → wrong_in other ≡ None
    → (key : CatKey) → covers (args_are.Root one first) key ≡ true → guards (args_are.Root other second) key ≡ true
    → Clash (asks (args_are.Root one first)) (asks (args_are.Root other second))
