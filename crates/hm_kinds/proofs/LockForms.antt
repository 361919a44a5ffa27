-- Who covers a row clashes with everybody who guards it: by the forms of what each kind asks for.
use Rattle.std.proofs.Common.{◌≡◌, ℕ, ◌+◌, List, [], ◌∷◌, ◌++◌, true, ◌&&◌, ◌||◌, map, None, refl, ap, sym, subst, inl, inr, ◌⊎◌}
use Rattle.std.specs.List.{list_any}
use Rattle.std.proofs.lemmas.Bool.{and_parts, false≢true, or_cases, or_right, true≢false}
use Rattle.std.proofs.lemmas.Option.{none-some}
use Rattle.hm_names.specs.Region.{Region}
use Rattle.hm_names.specs.Server.{Server}
use Rattle.hm_names.specs.declared.table.TableName.{TableName}
use Rattle.hm_data.specs.declared.args.Args.{Args}
use Rattle.hm_data.specs.declared.args.Args.TheVariants as args_are
use Rattle.hm_data.specs.declared.catalog.CatKey.{CatKey}
use Rattle.hm_data.specs.declared.catalog.CatKey.TheVariants as key_is
use Rattle.hm_data.specs.declared.request.Request.TheVariants as request_is
use Rattle.hm_model.specs.Locks.{Clash, IsIn, asks, exclusive, in_name_order, region_alone, request_asks, shared, table_alone, table_shared}
use Rattle.hm_model.specs.Reads.{covers, guards, is_over, is_ns, is_ns_or_table_in, is_region, is_table, reads}
use Rattle.hm_model.specs.Requests.{wrong_in}
use Rattle.hm_model.specs.declared.lock.Ask.{Ask}
use Rattle.hm_model.specs.declared.lock.Resource.{Resource}
use Rattle.hm_model.specs.declared.lock.Resource.TheVariants as resource_is
use Rattle.hm_model.proofs.KeyTests.{bytes_eq-is, same_region-is, same_table-is}
use Rattle.hm_model.proofs.Siblings.{merge_is, one_table}
use Rattle.hm_model.proofs.Distinct.{out_ordered}
use Rattle.hm_kinds.proofs.Covering.{rows_table}

-- a request that can be submitted; any other procedure
abbrev pub IsRight : Args → Type 0
IsRight (args_are.Root request first) = wrong_in request ≡ None
IsRight args = Unit {0}

-- it is asked for, with others or alone
abbrev pub Asks : List Ask → Resource → Type 0
Asks list resource = (ask : Ask) × IsIn ask list × (ask.resource ≡ resource)

-- what is above a resource is asked for too
abbrev pub Above : List Ask → Resource → Type 0
Above list (resource_is.Ns ns) = Unit {0}
Above list (resource_is.Table table) = Asks list (resource_is.Ns table.ns)
Above list (resource_is.Region region) = Asks list (resource_is.Table region.table) × Asks list (resource_is.Ns region.table.ns)
Above list (resource_is.Server server) = Unit {0}

abbrev pub Founded : List Ask → Type 0
Founded list = (resource : Resource) → IsIn (exclusive resource) list → Above list resource

-- what covers a row: the exclusive ask, and what is asked for above it
abbrev pub CoverForm : List Ask → CatKey → Type 0
CoverForm list (key_is.Ns ns) = IsIn (exclusive (resource_is.Ns ns)) list
CoverForm list (key_is.Table table) = IsIn (exclusive (resource_is.Table table)) list × Asks list (resource_is.Ns table.ns)
CoverForm list (key_is.Region region) =
    (IsIn (exclusive (resource_is.Table region.table)) list × Asks list (resource_is.Ns region.table.ns))
    ⊎ (IsIn (exclusive (resource_is.Region region)) list × Asks list (resource_is.Table region.table) × Asks list (resource_is.Ns region.table.ns))

-- what guards a row: it is asked for on each level down to it, or alone on one above
abbrev pub GuardForm : List Ask → CatKey → Type 0
GuardForm list (key_is.Ns ns) = Asks list (resource_is.Ns ns)
GuardForm list (key_is.Table table) = Asks list (resource_is.Table table) ⊎ IsIn (exclusive (resource_is.Ns table.ns)) list
GuardForm list (key_is.Region region) =
    IsIn (exclusive (resource_is.Ns region.table.ns)) list
    ⊎ (IsIn (exclusive (resource_is.Table region.table)) list
    ⊎ (Asks list (resource_is.Table region.table) × Asks list (resource_is.Region region)))

clash_left : (one other : List Ask) (resource : Resource) → IsIn (exclusive resource) one → Asks other resource → Clash one other
clash_left one other resource alone asked = (exclusive resource, asked.0, alone, asked.1, sym asked.2, refl)

clash_right : (one other : List Ask) (resource : Resource) → Asks one resource → IsIn (exclusive resource) other → Clash one other
clash_right one other resource asked alone = (asked.0, exclusive resource, asked.1, alone, asked.2, or_right asked.0.exclusive true refl)

asks_alone : (list : List Ask) (resource : Resource) → IsIn (exclusive resource) list → Asks list resource
asks_alone list resource alone = (exclusive resource, alone, refl)

join : (one other : List Ask) (key : CatKey) → CoverForm one key → GuardForm other key → Clash one other
join one other (key_is.Ns ns) c g = clash_left one other (resource_is.Ns ns) c g
join one other (key_is.Table table) c (inl g) = clash_left one other (resource_is.Table table) c.0 g
join one other (key_is.Table table) c (inr g) = clash_right one other (resource_is.Ns table.ns) c.1 g
join one other (key_is.Region region) (inl c) (inl g) = clash_right one other (resource_is.Ns region.table.ns) c.1 g
join one other (key_is.Region region) (inl c) (inr (inl g)) = clash_left one other (resource_is.Table region.table) c.0 (asks_alone other (resource_is.Table region.table) g)
join one other (key_is.Region region) (inl c) (inr (inr g)) = clash_left one other (resource_is.Table region.table) c.0 g.0
join one other (key_is.Region region) (inr c) (inl g) = clash_right one other (resource_is.Ns region.table.ns) c.2 g
join one other (key_is.Region region) (inr c) (inr (inl g)) = clash_right one other (resource_is.Table region.table) c.1 g
join one other (key_is.Region region) (inr c) (inr (inr g)) = clash_left one other (resource_is.Region region) c.0 g.1

-- the exclusive ask after what covers
found : (list : List Ask) (key : CatKey) → list_any (λ ask. ask.exclusive && is_over ask.resource key) list ≡ true → (resource : Resource) × IsIn (exclusive resource) list × (is_over resource key ≡ true)
found [] key h = absurd (false≢true h)
found (ask ∷ more) key h = elim (or_cases (ask.exclusive && is_over ask.resource key) _ h) [
  | inl here ↦
      let p = and_parts ask.exclusive (is_over ask.resource key) here in
      (ask.resource, inl (by ask p.0), p.1)
  | inr later ↦ let f = found more key later in (f.0, inr f.1, f.2)
]
  where
    by : (ask : Ask) → ask.exclusive ≡ true → exclusive ask.resource ≡ ask
    by ask e = ap (λ b. record { resource = ask.resource; exclusive = b }) (sym e)

cover_over : (list : List Ask) → Founded list → (resource : Resource) → IsIn (exclusive resource) list → (key : CatKey) → is_over resource key ≡ true → CoverForm list key
cover_over list founded (resource_is.Ns ns) alone (key_is.Ns other) over = subst (λ n. IsIn (exclusive (resource_is.Ns n)) list) (bytes_eq-is ns other over) alone
cover_over list founded (resource_is.Ns ns) alone (key_is.Table other) over = absurd (false≢true over)
cover_over list founded (resource_is.Ns ns) alone (key_is.Region other) over = absurd (false≢true over)
cover_over list founded (resource_is.Table table) alone (key_is.Ns other) over = absurd (false≢true over)
cover_over list founded (resource_is.Table table) alone (key_is.Table other) over =
    subst (λ (t : TableName). IsIn (exclusive (resource_is.Table t)) list × Asks list (resource_is.Ns t.ns)) (same_table-is table other over) (alone, founded (resource_is.Table table) alone)
cover_over list founded (resource_is.Table table) alone (key_is.Region other) over =
    inl (subst (λ (t : TableName). IsIn (exclusive (resource_is.Table t)) list × Asks list (resource_is.Ns t.ns)) (same_table-is table other.table over) (alone, founded (resource_is.Table table) alone))
cover_over list founded (resource_is.Region region) alone (key_is.Ns other) over = absurd (false≢true over)
cover_over list founded (resource_is.Region region) alone (key_is.Table other) over = absurd (false≢true over)
cover_over list founded (resource_is.Region region) alone (key_is.Region other) over =
    inr (subst (λ (r : Region). IsIn (exclusive (resource_is.Region r)) list × Asks list (resource_is.Table r.table) × Asks list (resource_is.Ns r.table.ns)) (same_region-is region other over) (let f = founded (resource_is.Region region) alone in (alone, f.0, f.1)))
cover_over list founded (resource_is.Server server) alone key over = absurd (false≢true over)

-- a shared ask is no exclusive one
unshared : (resource other : Resource) → exclusive resource ≡ shared other → ⊥
unshared resource other e = true≢false (ap (λ (a : Ask). a.exclusive) e)

same_resource : (resource other : Resource) → exclusive resource ≡ exclusive other → other ≡ resource
same_resource resource other e = sym (ap (λ (a : Ask). a.resource) e)

table_founded : (table : TableName) → Founded (table_alone table)
table_founded table resource (inl e) = absurd (unshared resource (resource_is.Ns table.ns) e)
table_founded table resource (inr (inl e)) = subst (Above (table_alone table)) (same_resource resource (resource_is.Table table) e) (shared (resource_is.Ns table.ns), inl refl, refl)
table_founded table resource (inr (inr never)) = absurd never

ns_founded : (ns : List ℕ) → Founded (exclusive (resource_is.Ns ns) ∷ [])
ns_founded ns resource (inl e) = subst (Above (exclusive (resource_is.Ns ns) ∷ [])) (same_resource resource (resource_is.Ns ns) e) tt
ns_founded ns resource (inr never) = absurd never

-- regions of one table, alone
abbrev AllOf : TableName → List Ask → Type 0
AllOf table list = (resource : Resource) → IsIn (exclusive resource) list → (region : Region) × (region.table ≡ table) × (resource ≡ resource_is.Region region)

regions_founded : (table : TableName) (list : List Ask) → AllOf table list → Founded (table_shared table ++ list)
regions_founded table list all resource (inl e) = absurd (unshared resource (resource_is.Ns table.ns) e)
regions_founded table list all resource (inr (inl e)) = absurd (unshared resource (resource_is.Table table) e)
regions_founded table list all resource (inr (inr among)) =
    let r = all resource among in
    subst (Above (table_shared table ++ list)) (sym r.2)
    (subst (λ t. Asks (table_shared table ++ list) (resource_is.Table t) × Asks (table_shared table ++ list) (resource_is.Ns t.ns)) (sym r.1)
    ((shared (resource_is.Table table), inr (inl refl), refl), (shared (resource_is.Ns table.ns), inl refl, refl)))

all_cons : (table : TableName) (region : Region) (more : List Ask) → region.table ≡ table → AllOf table more → AllOf table (exclusive (resource_is.Region region) ∷ more)
all_cons table region more same all resource (inl e) = (region, same, ap (λ (a : Ask). a.resource) e)
all_cons table region more same all resource (inr among) = all resource among

all_none : (table : TableName) → AllOf table []
all_none table resource never = absurd never

all_map : (table : TableName) (regions : List Region) (more : List Ask) → ((r : Region) → IsIn r regions → r.table ≡ table) → AllOf table more → AllOf table (map (λ r. exclusive (resource_is.Region r)) regions ++ more)
all_map table [] more each all = all
all_map table (region ∷ regions) more each all = all_cons table region (map (λ r. exclusive (resource_is.Region r)) regions ++ more) (each region (inl refl)) (all_map table regions more (λ r among. each r (inr among)) all)

merge_founded : (regions : List Region) (first : ℕ) → wrong_in (request_is.MergeRegions regions) ≡ None → Founded (request_asks (request_is.MergeRegions regions) first)
merge_founded [] first sound = λ resource never. absurd never
merge_founded (region ∷ more) first sound =
    regions_founded region.table (map (λ r. exclusive (resource_is.Region r)) (in_name_order (region ∷ more)) ++ region_alone region.table first ∷ [])
    (all_map region.table (in_name_order (region ∷ more)) (region_alone region.table first ∷ [])
    (λ r among. sym (one_table region more (merge_is (region ∷ more) sound).siblings r (out_ordered r (region ∷ more) among)))
    (all_cons region.table (record { table = region.table; id = first }) [] refl (all_none region.table)))

server_founded : (server : Server) → Founded (exclusive (resource_is.Server server) ∷ [])
server_founded server resource (inl e) = subst (Above (exclusive (resource_is.Server server) ∷ [])) (same_resource resource (resource_is.Server server) e) tt
server_founded server resource (inr never) = absurd never

founded : (args : Args) → IsRight args → Founded (asks args)
founded (args_are.Root (request_is.CreateNamespace ns) first) sound = ns_founded ns
founded (args_are.Root (request_is.DropNamespace ns) first) sound = ns_founded ns
founded (args_are.Root (request_is.CreateTable table keys) first) sound = table_founded table
founded (args_are.Root (request_is.DeleteTable table) first) sound = table_founded table
founded (args_are.Root (request_is.EnableTable table) first) sound = table_founded table
founded (args_are.Root (request_is.DisableTable table) first) sound = table_founded table
founded (args_are.Root (request_is.ModifyTable table version) first) sound = table_founded table
founded (args_are.Root (request_is.SplitRegion region key) first) sound =
    regions_founded region.table (exclusive (resource_is.Region region) ∷ region_alone region.table first ∷ region_alone region.table (first + 1) ∷ [])
    (all_cons region.table region (region_alone region.table first ∷ region_alone region.table (first + 1) ∷ []) refl
    (all_cons region.table (record { table = region.table; id = first }) (region_alone region.table (first + 1) ∷ []) refl
    (all_cons region.table (record { table = region.table; id = first + 1 }) [] refl (all_none region.table))))
founded (args_are.Root (request_is.MergeRegions regions) first) sound = merge_founded regions first sound
founded (args_are.Root (request_is.Move region to) first) sound = regions_founded region.table (exclusive (resource_is.Region region) ∷ []) (all_cons region.table region [] refl (all_none region.table))
founded (args_are.Transit region goal to) sound = regions_founded region.table (exclusive (resource_is.Region region) ∷ []) (all_cons region.table region [] refl (all_none region.table))
founded (args_are.Crash server) sound = server_founded server
founded args sound = λ resource never. absurd never

pub cover_form : (args : Args) → IsRight args → (key : CatKey) → covers args key ≡ true → CoverForm (asks args) key
cover_form args sound key c = let f = found (asks args) key c in cover_over (asks args) (founded args sound) f.0 f.1 key f.2

cover_guard : (list : List Ask) (key : CatKey) → CoverForm list key → GuardForm list key
cover_guard list (key_is.Ns ns) c = asks_alone list (resource_is.Ns ns) c
cover_guard list (key_is.Table table) c = inl (asks_alone list (resource_is.Table table) c.0)
cover_guard list (key_is.Region region) (inl c) = inr (inl c.0)
cover_guard list (key_is.Region region) (inr c) = inr (inr (c.1, asks_alone list (resource_is.Region region) c.0))

ns_guard : (list : List Ask) (ns : List ℕ) → Asks list (resource_is.Ns ns) → (key : CatKey) → is_ns ns key ≡ true → GuardForm list key
ns_guard list ns asked (key_is.Ns other) on = subst (λ n. Asks list (resource_is.Ns n)) (bytes_eq-is ns other on) asked
ns_guard list ns asked key on = absurd (false≢true on)

ns_tables_guard : (list : List Ask) (ns : List ℕ) → IsIn (exclusive (resource_is.Ns ns)) list → (key : CatKey) → is_ns_or_table_in ns key ≡ true → GuardForm list key
ns_tables_guard list ns alone (key_is.Ns other) on = subst (λ n. Asks list (resource_is.Ns n)) (bytes_eq-is ns other on) (asks_alone list (resource_is.Ns ns) alone)
ns_tables_guard list ns alone (key_is.Table other) on = inr (subst (λ n. IsIn (exclusive (resource_is.Ns n)) list) (bytes_eq-is ns other.ns on) alone)
ns_tables_guard list ns alone (key_is.Region other) on = absurd (false≢true on)

table_guard : (list : List Ask) (table : TableName) → Asks list (resource_is.Table table) → (key : CatKey) → is_table table key ≡ true → GuardForm list key
table_guard list table asked (key_is.Table other) on = inl (subst (λ t. Asks list (resource_is.Table t)) (same_table-is table other on) asked)
table_guard list table asked key on = absurd (false≢true on)

whole_guard : (list : List Ask) (table : TableName) → IsIn (exclusive (resource_is.Table table)) list → (key : CatKey) → is_over (resource_is.Table table) key ≡ true → GuardForm list key
whole_guard list table alone (key_is.Ns other) on = absurd (false≢true on)
whole_guard list table alone (key_is.Table other) on = inl (subst (λ t. Asks list (resource_is.Table t)) (same_table-is table other on) (asks_alone list (resource_is.Table table) alone))
whole_guard list table alone (key_is.Region other) on = inr (inl (subst (λ t. IsIn (exclusive (resource_is.Table t)) list) (same_table-is table other.table on) alone))

region_guard : (list : List Ask) (region : Region) → Asks list (resource_is.Table region.table) → Asks list (resource_is.Region region) → (key : CatKey) → is_region region key ≡ true → GuardForm list key
region_guard list region asked own (key_is.Region other) on = inr (inr (subst (λ (r : Region). Asks list (resource_is.Table r.table) × Asks list (resource_is.Region r)) (same_region-is region other on) (asked, own)))
region_guard list region asked own key on = absurd (false≢true on)

moved_guard : (list : List Ask) (region : Region) → Asks list (resource_is.Table region.table) → Asks list (resource_is.Region region) → (key : CatKey) → (is_table region.table key || is_region region key) ≡ true → GuardForm list key
moved_guard list region asked own key on = elim (or_cases (is_table region.table key) (is_region region key) on) [
  | inl table ↦ table_guard list region.table asked key table
  | inr here ↦ region_guard list region asked own key here
]

merge_guard : (list : List Ask) (regions : List Region) → ((r : Region) → IsIn r regions → Asks list (resource_is.Table r.table) × Asks list (resource_is.Region r)) → (key : CatKey) → list_any (λ region. is_table region.table key || is_region region key) regions ≡ true → GuardForm list key
merge_guard list [] each key on = absurd (false≢true on)
merge_guard list (region ∷ more) each key on = elim (or_cases (is_table region.table key || is_region region key) _ on) [
  | inl here ↦ let a = each region (inl refl) in moved_guard list region a.0 a.1 key here
  | inr later ↦ merge_guard list more (λ r among. each r (inr among)) key later
]

table_asked : (table : TableName) (rest : List Ask) → Asks (table_shared table ++ rest) (resource_is.Table table)
table_asked table rest = (shared (resource_is.Table table), inr (inl refl), refl)

read_form : (args : Args) → rows_table args ≡ None → IsRight args → (key : CatKey) → reads args key ≡ true → GuardForm (asks args) key
read_form (args_are.Root (request_is.CreateNamespace ns) first) none sound key on = ns_guard (exclusive (resource_is.Ns ns) ∷ []) ns (exclusive (resource_is.Ns ns), inl refl, refl) key on
read_form (args_are.Root (request_is.DropNamespace ns) first) none sound key on = ns_tables_guard (exclusive (resource_is.Ns ns) ∷ []) ns (inl refl) key on
read_form (args_are.Root (request_is.CreateTable table keys) first) none sound key on = elim (or_cases (is_ns table.ns key) (is_table table key) on) [
  | inl ns ↦ ns_guard (table_alone table) table.ns (shared (resource_is.Ns table.ns), inl refl, refl) key ns
  | inr own ↦ table_guard (table_alone table) table (exclusive (resource_is.Table table), inr (inl refl), refl) key own
]
read_form (args_are.Root (request_is.DeleteTable table) first) none sound key on = whole_guard (table_alone table) table (inr (inl refl)) key on
read_form (args_are.Root (request_is.EnableTable table) first) none sound key on = whole_guard (table_alone table) table (inr (inl refl)) key on
read_form (args_are.Root (request_is.DisableTable table) first) none sound key on = whole_guard (table_alone table) table (inr (inl refl)) key on
read_form (args_are.Root (request_is.ModifyTable table version) first) none sound key on = table_guard (table_alone table) table (exclusive (resource_is.Table table), inr (inl refl), refl) key on
read_form (args_are.Root (request_is.SplitRegion region cut) first) none sound key on = moved_guard (request_asks (request_is.SplitRegion region cut) first) region (table_asked region.table (exclusive (resource_is.Region region) ∷ region_alone region.table first ∷ region_alone region.table (first + 1) ∷ [])) (exclusive (resource_is.Region region), inr (inr (inl refl)), refl) key on
read_form (args_are.Root (request_is.MergeRegions regions) first) none sound key on = merge_guard (request_asks (request_is.MergeRegions regions) first) regions (each regions refl) key on
  where
    each : (list : List Region) → regions ≡ list → (r : Region) → IsIn r regions → Asks (request_asks (request_is.MergeRegions regions) first) (resource_is.Table r.table) × Asks (request_asks (request_is.MergeRegions regions) first) (resource_is.Region r)
    each [] e r among = absurd (subst (IsIn r) e among)
    each (region ∷ more) e r among =
        let siblings = (merge_is (region ∷ more) (subst (λ l. wrong_in (request_is.MergeRegions l) ≡ None) e sound)).siblings in
        let same : region.table ≡ r.table = one_table region more siblings r (subst (IsIn r) e among) in (
          subst (λ l. Asks (request_asks (request_is.MergeRegions l) first) (resource_is.Table r.table)) (sym e) (subst (λ t. Asks (request_asks (request_is.MergeRegions (region ∷ more)) first) (resource_is.Table t)) same (table_asked region.table (map (λ x. exclusive (resource_is.Region x)) (in_name_order (region ∷ more)) ++ region_alone region.table first ∷ []))),
          asks_alone (request_asks (request_is.MergeRegions regions) first) (resource_is.Region r) (Rattle.hm_kinds.proofs.Covering.merge_own regions first r among),
        )
read_form (args_are.Root (request_is.Move region to) first) none sound key on = moved_guard (request_asks (request_is.Move region to) first) region (table_asked region.table (exclusive (resource_is.Region region) ∷ [])) (exclusive (resource_is.Region region), inr (inr (inl refl)), refl) key on
read_form (args_are.Transit region goal to) none sound key on = moved_guard (asks (args_are.Transit region goal to)) region (table_asked region.table (exclusive (resource_is.Region region) ∷ [])) (exclusive (resource_is.Region region), inr (inr (inl refl)), refl) key on
read_form (args_are.AddRegions table first bounds) none sound key on = absurd (none-some table (sym none))
read_form (args_are.DropRegions table ids) none sound key on = absurd (none-some table (sym none))
read_form args none sound key on = absurd (false≢true on)

guard_form : (args : Args) → rows_table args ≡ None → IsRight args → (key : CatKey) → guards args key ≡ true → GuardForm (asks args) key
guard_form args none sound key on = elim (or_cases (covers args key) (reads args key) on) [
  | inl c ↦ cover_guard (asks args) key (cover_form args sound key c)
  | inr r ↦ read_form args none sound key r
]

-- who covers a row asks for what clashes with the asks of each root that guards it
pub lock_law : (one other : Args) → IsRight one → IsRight other → rows_table other ≡ None → (key : CatKey) → covers one key ≡ true → guards other key ≡ true → Clash (asks one) (asks other)
lock_law one other sound sound' none key c g = join (asks one) (asks other) key (cover_form one sound key c) (guard_form other none sound' key g)
