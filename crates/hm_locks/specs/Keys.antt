-- Resources as they are looked up, and their order.
use Rattle.std.specs.declared.cmp.Ordering.{Ordering}
use Rattle.std.specs.declared.cmp.Ordering.TheVariants.{Less, Greater}
use Rattle.hm_names.specs.Order.{server_cmp}
use Rattle.hm_data.specs.Keys.{key_cmp}
use Rattle.hm_data.specs.declared.catalog.CatKey.TheVariants as key_is
use Rattle.hm_model.specs.declared.lock.Resource.{Resource}
use Rattle.hm_model.specs.declared.lock.Resource.TheVariants as resource_is
use Rattle.hm_locks.specs.declared.key.Key.{Key}
use Rattle.hm_locks.specs.declared.key.Key.TheVariants as lock_is

-- a resource as it is looked up
abbrev pub key_of : Resource → Key
key_of (resource_is.Ns ns) = lock_is.Row (key_is.Ns ns)
key_of (resource_is.Table table) = lock_is.Row (key_is.Table table)
key_of (resource_is.Region region) = lock_is.Row (key_is.Region region)
key_of (resource_is.Server server) = lock_is.Server server

-- by kind, then by name
abbrev pub lock_cmp : Key → Key → Ordering
lock_cmp (lock_is.Row a) (lock_is.Row b) = key_cmp a b
lock_cmp (lock_is.Row a) (lock_is.Server b) = Less
lock_cmp (lock_is.Server a) (lock_is.Row b) = Greater
lock_cmp (lock_is.Server a) (lock_is.Server b) = server_cmp a b
