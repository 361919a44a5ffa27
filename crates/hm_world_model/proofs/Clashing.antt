-- Whose asks clash with whose.
use Rattle.std.proofs.Common.{◌≡◌, ℕ, List, [], ◌∷◌, ◌++◌, map, Option, Some, refl, ap, sym, ◌∙◌, subst, inl, inr}
use Rattle.hm_names.specs.Region.{Region}
use Rattle.hm_names.specs.Server.{Server}
use Rattle.hm_names.specs.declared.table.TableName.{TableName}
use Rattle.hm_data.specs.declared.args.Args.{Args}
use Rattle.hm_data.specs.declared.args.Args.TheVariants as args_are
use Rattle.hm_data.specs.declared.place.Goal.{Goal}
use Rattle.hm_data.specs.declared.request.Request.{Request}
use Rattle.hm_data.specs.declared.request.Request.TheVariants as request_is
use Rattle.hm_model.specs.Locks.{Clash, IsIn, asks, exclusive, in_name_order, merge_asks, region_alone, request_asks, shared, table_alone, table_shared}
use Rattle.hm_model.specs.Whereabouts.{moved_by}
use Rattle.hm_model.specs.declared.lock.Ask.{Ask}
use Rattle.hm_model.specs.declared.lock.Resource.{Resource}
use Rattle.hm_model.specs.declared.lock.Resource.TheVariants as resource_is
use Rattle.hm_model.proofs.Siblings.{merge_is, one_table}
use Rattle.hm_kinds.proofs.LockForms.{IsRight}
use Rattle.hm_world_model.proofs.Births.{AllOf, Over, each_of, ordered_all}

-- how a procedure takes part in locks
pub data Locker (args : Args) : Type 0 where
  moving : (r : Region) → moved_by args ≡ Some r → Locker args
  requesting : (request : Request) (first : ℕ) → args ≡ args_are.Root request first → Locker args
  crashing : (s : Server) → args ≡ args_are.Crash s → Locker args
  askless : asks args ≡ [] → Locker args

pub locker : (args : Args) → Locker args
locker (args_are.Root (request_is.Move region to) first) = moving region refl
locker (args_are.Root request first) = requesting request first refl
locker (args_are.Transit region goal to) = moving region refl
locker (args_are.Crash server) = crashing server refl
locker args = askless refl

-- where it is a region, it is of the table
abbrev RegionOf : TableName → Resource → Type 0
RegionOf table (resource_is.Ns ns) = Unit {0}
RegionOf table (resource_is.Table own) = Unit {0}
RegionOf table (resource_is.Region own) = table ≡ own.table
RegionOf table (resource_is.Server server) = Unit {0}

abbrev OfTable : TableName → List Ask → Type 0
OfTable table [] = Unit {0}
OfTable table (own ∷ list) = RegionOf table own.resource × OfTable table list

of_table : (table : TableName) (list : List Ask) → OfTable table list → (b : Ask) → IsIn b list → RegionOf table b.resource
of_table table [] all b h = absurd h
of_table table (own ∷ list) all b (inl same) = subst (λ (a : Ask). RegionOf table a.resource) (sym same) all.0
of_table table (own ∷ list) all b (inr more) = of_table table list all.1 b more

of_regions : (table : TableName) (regions : List Region) (list : List Ask) → AllOf (λ region. table ≡ region.table) regions → OfTable table list → OfTable table (map (λ r. exclusive (resource_is.Region r)) regions ++ list)
of_regions table [] list all rest = rest
of_regions table (own ∷ more) list all rest = (all.0, of_regions table more list all.1 rest)

-- who asks for a region asks for its table
abbrev AsksTable : List Ask → Region → Type 0
AsksTable list region = (c : Ask) × IsIn c list × (resource_is.Table region.table ≡ c.resource)

asks_of : (table : TableName) (list : List Ask) (c : Ask) → IsIn c list → resource_is.Table table ≡ c.resource → OfTable table list → (b : Ask) → IsIn b list → (region : Region) → b.resource ≡ resource_is.Region region → AsksTable list region
asks_of table list c there own of b among region e =
    let same : table ≡ region.table = subst (RegionOf table) e (of_table table list of b among) in
    (c, there, ap (λ t. resource_is.Table t) (sym same) ∙ own)

alone_table : (table : TableName) (b : Ask) → IsIn b (table_alone table) → (region : Region) → b.resource ≡ resource_is.Region region → AsksTable (table_alone table) region
alone_table table b among region e = asks_of table (table_alone table) (exclusive (resource_is.Table table)) (inr (inl refl)) refl (tt, (tt, tt)) b among region e

moved_table : (own : Region) (b : Ask) → IsIn b (table_shared own.table ++ exclusive (resource_is.Region own) ∷ []) → (region : Region) → b.resource ≡ resource_is.Region region → AsksTable (table_shared own.table ++ exclusive (resource_is.Region own) ∷ []) region
moved_table own b among region e = asks_of own.table (table_shared own.table ++ exclusive (resource_is.Region own) ∷ []) (shared (resource_is.Table own.table)) (inr (inl refl)) refl (tt, (tt, (refl, tt))) b among region e

region_table : (args : Args) → IsRight args → (b : Ask) → IsIn b (asks args) → (region : Region) → b.resource ≡ resource_is.Region region → AsksTable (asks args) region
region_table (args_are.Root (request_is.CreateNamespace ns) first) sound b (inl same) region e = absurd (never (sym (ap (λ (a : Ask). a.resource) same) ∙ e))
  where
    never : resource_is.Ns ns ≡ resource_is.Region region → ⊥
    never e = cc
region_table (args_are.Root (request_is.CreateNamespace ns) first) sound b (inr more) region e = absurd more
region_table (args_are.Root (request_is.DropNamespace ns) first) sound b (inl same) region e = absurd (never (sym (ap (λ (a : Ask). a.resource) same) ∙ e))
  where
    never : resource_is.Ns ns ≡ resource_is.Region region → ⊥
    never e = cc
region_table (args_are.Root (request_is.DropNamespace ns) first) sound b (inr more) region e = absurd more
region_table (args_are.Root (request_is.CreateTable table keys) first) sound b among region e = alone_table table b among region e
region_table (args_are.Root (request_is.DeleteTable table) first) sound b among region e = alone_table table b among region e
region_table (args_are.Root (request_is.EnableTable table) first) sound b among region e = alone_table table b among region e
region_table (args_are.Root (request_is.DisableTable table) first) sound b among region e = alone_table table b among region e
region_table (args_are.Root (request_is.ModifyTable table version) first) sound b among region e = alone_table table b among region e
region_table (args_are.Root (request_is.SplitRegion own key) first) sound b among region e =
    asks_of own.table (asks (args_are.Root (request_is.SplitRegion own key) first)) (shared (resource_is.Table own.table)) (inr (inl refl)) refl (tt, (tt, (refl, (refl, (refl, tt))))) b among region e
region_table (args_are.Root (request_is.MergeRegions []) first) sound b among region e = absurd among
region_table (args_are.Root (request_is.MergeRegions (one ∷ more)) first) sound b among region e =
    asks_of one.table (merge_asks (one ∷ more) first) (shared (resource_is.Table one.table)) (inr (inl refl)) refl (
      tt,
      (
        tt,
        of_regions one.table (in_name_order (one ∷ more)) (region_alone one.table first ∷ [])
            (ordered_all (λ r. one.table ≡ r.table) (one ∷ more) (each_of (λ r. one.table ≡ r.table) (one ∷ more) (one_table one more (merge_is (one ∷ more) sound).siblings))) (refl, tt),
      ),
    ) b among region e
region_table (args_are.Root (request_is.Move own to) first) sound b among region e = moved_table own b among region e
region_table (args_are.Transit own goal to) sound b among region e = moved_table own b among region e
region_table (args_are.Crash server) sound b (inl same) region e = absurd (never (sym (ap (λ (a : Ask). a.resource) same) ∙ e))
  where
    never : resource_is.Server server ≡ resource_is.Region region → ⊥
    never e = cc
region_table (args_are.Crash server) sound b (inr more) region e = absurd more
region_table args sound b among region e = absurd among

-- who is over a region clashes with whom a transit of it clashes with
pub over_clash : (list : List Ask) (region : Region) (goal : Goal) (to : Option Server) (args : Args) → Over list region → IsRight args → Clash (asks (args_are.Transit region goal to)) (asks args) → Clash list (asks args)
over_clash list region goal to args over sound c = by c.2
  where
    same_ask : IsIn c.0 list → Clash list (asks args)
    same_ask among = (c.0, c.1, among, c.3, c.4, c.5)

    table_alone_ask : IsIn (exclusive (resource_is.Table region.table)) list → c.0 ≡ shared (resource_is.Table region.table) → Clash list (asks args)
    table_alone_ask alone same = (exclusive (resource_is.Table region.table), c.1, alone, c.3, sym (ap (λ (a : Ask). a.resource) same) ∙ c.4, refl)

    region_ask : IsIn (exclusive (resource_is.Table region.table)) list → c.0 ≡ exclusive (resource_is.Region region) → Clash list (asks args)
    region_ask alone same =
        let t = region_table args sound c.1 c.3 region (sym (sym (ap (λ (a : Ask). a.resource) same) ∙ c.4)) in
        (exclusive (resource_is.Table region.table), t.0, alone, t.1, t.2, refl)

    by : IsIn c.0 (asks (args_are.Transit region goal to)) → Clash list (asks args)
    by (inl same) = same_ask (subst (λ a. IsIn a list) (sym same) over.0)
    by (inr (inl same)) = elim over.1 [ inl alone ↦ table_alone_ask alone same | inr both ↦ same_ask (subst (λ a. IsIn a list) (sym same) both.0) ]
    by (inr (inr (inl same))) = elim over.1 [ inl alone ↦ region_ask alone same | inr both ↦ same_ask (subst (λ a. IsIn a list) (sym same) both.1) ]
    by (inr (inr (inr never))) = absurd never

-- only crashes ask for servers
abbrev NotServer : Resource → Type 0
NotServer (resource_is.Ns ns) = Unit {0}
NotServer (resource_is.Table own) = Unit {0}
NotServer (resource_is.Region own) = Unit {0}
NotServer (resource_is.Server server) = ⊥

abbrev NoServer : List Ask → Type 0
NoServer [] = Unit {0}
NoServer (own ∷ list) = NotServer own.resource × NoServer list

no_server : (list : List Ask) → NoServer list → (b : Ask) → IsIn b list → (s : Server) → b.resource ≡ resource_is.Server s → ⊥
no_server [] all b h s e = h
no_server (own ∷ list) all b (inl same) s e = subst NotServer (sym (ap (λ (a : Ask). a.resource) same) ∙ e) all.0
no_server (own ∷ list) all b (inr more) s e = no_server list all.1 b more s e

no_regions : (regions : List Region) (list : List Ask) → NoServer list → NoServer (map (λ r. exclusive (resource_is.Region r)) regions ++ list)
no_regions [] list rest = rest
no_regions (own ∷ more) list rest = (tt, no_regions more list rest)

request_server : (request : Request) (first : ℕ) → NoServer (request_asks request first)
request_server (request_is.CreateNamespace ns) first = (tt, tt)
request_server (request_is.DropNamespace ns) first = (tt, tt)
request_server (request_is.SplitRegion own key) first = (tt, (tt, (tt, (tt, (tt, tt)))))
request_server (request_is.MergeRegions []) first = tt
request_server (request_is.MergeRegions (one ∷ more)) first = (tt, (tt, no_regions (in_name_order (one ∷ more)) (region_alone one.table first ∷ []) (tt, tt)))
request_server (request_is.Move own to) first = (tt, (tt, (tt, tt)))
request_server request first = (tt, (tt, tt))

pub server_asked : (args : Args) (s : Server) (b : Ask) → IsIn b (asks args) → b.resource ≡ resource_is.Server s → args ≡ args_are.Crash s
server_asked (args_are.Root request first) s b among e = absurd (no_server (request_asks request first) (request_server request first) b among s e)
server_asked (args_are.Transit own goal to) s b among e = absurd (no_server (asks (args_are.Transit own goal to)) (tt, (tt, (tt, tt))) b among s e)
server_asked (args_are.Crash server) s b (inl same) e = ap (λ x. args_are.Crash x) (one (sym (ap (λ (a : Ask). a.resource) same) ∙ e))
  where
    one : resource_is.Server server ≡ resource_is.Server s → server ≡ s
    one e = cc
server_asked (args_are.Crash server) s b (inr more) e = absurd more
server_asked args s b among e = absurd among

-- who clashes with a crash is one of its server
pub crash_clash : (s : Server) (args : Args) → Clash (asks (args_are.Crash s)) (asks args) → args ≡ args_are.Crash s
crash_clash s args c = elim c.2 [
  | inl same ↦ server_asked args s c.1 c.3 (sym c.4 ∙ ap (λ (a : Ask). a.resource) same)
  | inr never ↦ absurd never
]

-- and no transit clashes with one
pub moved_crash : (region : Region) (goal : Goal) (to : Option Server) (s : Server) → Clash (asks (args_are.Transit region goal to)) (asks (args_are.Crash s)) → ⊥
moved_crash region goal to s c = elim c.3 [
  | inl same ↦ no_server (asks (args_are.Transit region goal to)) (tt, (tt, (tt, tt))) c.0 c.2 s (c.4 ∙ ap (λ (a : Ask). a.resource) same)
  | inr never ↦ never
]
