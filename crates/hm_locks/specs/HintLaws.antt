-- Hints of resources, which don't fall in their order.
use Rattle.std.proofs.Common.{◌≡◌, ℕ, ◌<◌, refl, arith}
use Rattle.std.specs.declared.cmp.Ordering.TheVariants.{Less}
use Rattle.hm_names.specs.Hints.{front}
use Rattle.hm_names.specs.HintLaws.{servers_rise}
use Rattle.hm_data.specs.Keys.{key_hint}
use Rattle.hm_data.specs.HintLaws.{keys_below, keys_rise}
use Rattle.hm_locks.specs.declared.key.Key.{Key}
use Rattle.hm_locks.specs.declared.key.Key.TheVariants.{Row, Server}
use Rattle.hm_locks.specs.Keys.{lock_cmp}

-- that of a row, and above all of these the first bytes of a server's host
abbrev pub lock_hint : Key → ℕ
lock_hint (Row a) = key_hint a
lock_hint (Server a) = front 7 3 a.host

-- a resource with a lesser hint is lesser
pub locks_rise : (a b : Key) → lock_hint a < lock_hint b → lock_cmp a b ≡ Less
locks_rise (Row a) (Row b) lt = keys_rise a b lt
locks_rise (Row a) (Server b) lt = refl
locks_rise (Server a) (Row b) lt = absurd (omega (arith, lt, keys_below b 3 a.host (omega arith)))
locks_rise (Server a) (Server b) lt = servers_rise 7 3 a b lt
