-- How the keys of the catalog order, and hints of them.
use Rattle.std.specs.Prelude.{ℕ}
use Rattle.std.specs.declared.cmp.Ordering.{Ordering}
use Rattle.std.specs.declared.cmp.Ordering.TheVariants.{Less, Greater}
use Rattle.hm_names.specs.Hints.{front}
use Rattle.hm_names.specs.Order.{bytes_cmp, table_cmp, region_cmp}
use Rattle.hm_data.specs.declared.catalog.CatKey.{CatKey}
use Rattle.hm_data.specs.declared.catalog.CatKey.TheVariants.{Ns, Table, Region}

-- namespaces, then tables, then regions, each by name
abbrev pub key_cmp : CatKey → CatKey → Ordering
key_cmp (Ns a) (Ns b) = bytes_cmp a b
key_cmp (Ns a) (Table b) = Less
key_cmp (Ns a) (Region b) = Less
key_cmp (Table a) (Ns b) = Greater
key_cmp (Table a) (Table b) = table_cmp a b
key_cmp (Table a) (Region b) = Less
key_cmp (Region a) (Ns b) = Greater
key_cmp (Region a) (Table b) = Greater
key_cmp (Region a) (Region b) = region_cmp a b

-- the kind, and then the first bytes of the namespace
abbrev pub key_hint : CatKey → ℕ
key_hint (Ns a) = front 7 0 a
key_hint (Table a) = front 7 1 a.ns
key_hint (Region a) = front 7 2 a.table.ns
