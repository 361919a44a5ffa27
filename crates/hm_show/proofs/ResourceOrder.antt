-- What is locked is in a total order.
use Rattle.std.proofs.Common.{◌≡◌, refl}
use Rattle.std.specs.Cmp.{IsTotalOrder}
use Rattle.std.specs.Ordering.{ordering_reverse}
use Rattle.std.specs.declared.cmp.Ordering.TheVariants.{Less, Equal}
use Rattle.std.proofs.lemmas.Cmp.{on_total}
use Rattle.hm_data.proofs.KeyOrder.{keys_total}
use Rattle.hm_model.proofs.NameTies.{servers_total}
use Rattle.hm_locks.specs.declared.key.Key.{Key}
use Rattle.hm_locks.specs.declared.key.Key.TheVariants.{Row, Server}
use Rattle.hm_locks.specs.Keys.{key_of, lock_cmp}
use Rattle.hm_show.specs.Locks.{resource_cmp}

antisymm : (x y : Key) → lock_cmp x y ≡ ordering_reverse (lock_cmp y x)
antisymm (Row a) (Row b) = keys_total.antisymm a b
antisymm (Row a) (Server b) = refl
antisymm (Server a) (Row b) = refl
antisymm (Server a) (Server b) = servers_total.antisymm a b

trans : (x y z : Key) → lock_cmp x y ≡ Less → lock_cmp y z ≡ Less → lock_cmp x z ≡ Less
trans (Row a) (Row b) (Row c) p q = keys_total.trans a b c p q
trans (Row a) (Row b) (Server c) p q = refl
trans (Row a) (Server b) (Row c) p q = cc
trans (Row a) (Server b) (Server c) p q = refl
trans (Server a) (Row b) (Row c) p q = cc
trans (Server a) (Row b) (Server c) p q = cc
trans (Server a) (Server b) (Row c) p q = cc
trans (Server a) (Server b) (Server c) p q = servers_total.trans a b c p q

congr : (x y z : Key) → lock_cmp x y ≡ Equal → lock_cmp x z ≡ lock_cmp y z
congr (Row a) (Row b) (Row c) p = keys_total.congr a b c p
congr (Row a) (Row b) (Server c) p = refl
congr (Row a) (Server b) z p = cc
congr (Server a) (Row b) z p = cc
congr (Server a) (Server b) (Row c) p = refl
congr (Server a) (Server b) (Server c) p = servers_total.congr a b c p

keyed : IsTotalOrder lock_cmp
keyed = record { antisymm = antisymm; trans = trans; congr = congr }

pub resources_total : IsTotalOrder resource_cmp
resources_total = on_total key_of keyed
