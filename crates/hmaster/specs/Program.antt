-- How the program's status goes with its words.
use Rattle.std.specs.Prelude.{◌≡◌, ℕ, Option, Some, None}
use Rattle.hm_top.specs.declared.status.RunStatus.{RunStatus}
use Rattle.hm_top.specs.declared.status.RunStatus.TheVariants.{Usage, Memory}

-- a usage fault names the misfit, and every other end but want of memory comes of words that fit
abbrev pub Fits : Option ℕ → RunStatus → Type 0
Fits misfit (Usage word) = misfit ≡ Some word
Fits misfit Memory = Unit {0}
Fits misfit _ = misfit ≡ None
