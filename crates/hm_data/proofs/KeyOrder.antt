-- The keys of the catalog are in a total order.
use Rattle.std.proofs.Common.{◌≡◌, refl, rules}
use Rattle.std.specs.Cmp.{IsTotalOrder}
use Rattle.std.specs.Cmp.Rules.{comparing}
use Rattle.std.specs.Ordering.{ordering_reverse}
use Rattle.std.specs.declared.cmp.Ordering.TheVariants.{Less, Equal}
use Rattle.std.proofs.lemmas.Cmp.{nat_list_cmp_total}
use Rattle.hm_names.specs.Order.{table_cmp, region_cmp}
use Rattle.hm_data.specs.declared.catalog.CatKey.{CatKey}
use Rattle.hm_data.specs.declared.catalog.CatKey.TheVariants.{Ns, Table, Region}
use Rattle.hm_data.specs.Keys.{key_cmp}

tables_total : IsTotalOrder table_cmp
tables_total = search (comparing, rules) depth 9

regions_total : IsTotalOrder region_cmp
regions_total = search (comparing, rules) depth 9

antisymm : (x y : CatKey) → key_cmp x y ≡ ordering_reverse (key_cmp y x)
antisymm (Ns a) (Ns b) = nat_list_cmp_total.antisymm a b
antisymm (Ns a) (Table b) = refl
antisymm (Ns a) (Region b) = refl
antisymm (Table a) (Ns b) = refl
antisymm (Table a) (Table b) = tables_total.antisymm a b
antisymm (Table a) (Region b) = refl
antisymm (Region a) (Ns b) = refl
antisymm (Region a) (Table b) = refl
antisymm (Region a) (Region b) = regions_total.antisymm a b

trans : (x y z : CatKey) → key_cmp x y ≡ Less → key_cmp y z ≡ Less → key_cmp x z ≡ Less
trans (Ns a) (Ns b) (Ns c) p q = nat_list_cmp_total.trans a b c p q
trans (Ns a) (Ns b) (Table c) p q = refl
trans (Ns a) (Ns b) (Region c) p q = refl
trans (Ns a) (Table b) (Ns c) p q = cc
trans (Ns a) (Table b) (Table c) p q = refl
trans (Ns a) (Table b) (Region c) p q = refl
trans (Ns a) (Region b) (Ns c) p q = cc
trans (Ns a) (Region b) (Table c) p q = cc
trans (Ns a) (Region b) (Region c) p q = refl
trans (Table a) (Ns b) (Ns c) p q = cc
trans (Table a) (Ns b) (Table c) p q = cc
trans (Table a) (Ns b) (Region c) p q = cc
trans (Table a) (Table b) (Ns c) p q = cc
trans (Table a) (Table b) (Table c) p q = tables_total.trans a b c p q
trans (Table a) (Table b) (Region c) p q = refl
trans (Table a) (Region b) (Ns c) p q = cc
trans (Table a) (Region b) (Table c) p q = cc
trans (Table a) (Region b) (Region c) p q = refl
trans (Region a) (Ns b) (Ns c) p q = cc
trans (Region a) (Ns b) (Table c) p q = cc
trans (Region a) (Ns b) (Region c) p q = cc
trans (Region a) (Table b) (Ns c) p q = cc
trans (Region a) (Table b) (Table c) p q = cc
trans (Region a) (Table b) (Region c) p q = cc
trans (Region a) (Region b) (Ns c) p q = cc
trans (Region a) (Region b) (Table c) p q = cc
trans (Region a) (Region b) (Region c) p q = regions_total.trans a b c p q

congr : (x y z : CatKey) → key_cmp x y ≡ Equal → key_cmp x z ≡ key_cmp y z
congr (Ns a) (Ns b) (Ns c) p = nat_list_cmp_total.congr a b c p
congr (Ns a) (Ns b) (Table c) p = refl
congr (Ns a) (Ns b) (Region c) p = refl
congr (Ns a) (Table b) (Ns c) p = cc
congr (Ns a) (Table b) (Table c) p = cc
congr (Ns a) (Table b) (Region c) p = cc
congr (Ns a) (Region b) (Ns c) p = cc
congr (Ns a) (Region b) (Table c) p = cc
congr (Ns a) (Region b) (Region c) p = cc
congr (Table a) (Ns b) (Ns c) p = cc
congr (Table a) (Ns b) (Table c) p = cc
congr (Table a) (Ns b) (Region c) p = cc
congr (Table a) (Table b) (Ns c) p = refl
congr (Table a) (Table b) (Table c) p = tables_total.congr a b c p
congr (Table a) (Table b) (Region c) p = refl
congr (Table a) (Region b) (Ns c) p = cc
congr (Table a) (Region b) (Table c) p = cc
congr (Table a) (Region b) (Region c) p = cc
congr (Region a) (Ns b) (Ns c) p = cc
congr (Region a) (Ns b) (Table c) p = cc
congr (Region a) (Ns b) (Region c) p = cc
congr (Region a) (Table b) (Ns c) p = cc
congr (Region a) (Table b) (Table c) p = cc
congr (Region a) (Table b) (Region c) p = cc
congr (Region a) (Region b) (Ns c) p = refl
congr (Region a) (Region b) (Table c) p = refl
congr (Region a) (Region b) (Region c) p = regions_total.congr a b c p

pub keys_total : IsTotalOrder key_cmp
keys_total = record { antisymm = antisymm; trans = trans; congr = congr }
