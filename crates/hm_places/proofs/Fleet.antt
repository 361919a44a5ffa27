-- The servers of a journal, and those of a longer journal.
use Rattle.std.proofs.Common.{◌≡◌, ℕ, List, [], ◌∷◌, Bool, true, false, not, ◌&&◌, ◌||◌, ◌==◌, if◌then◌else◌, is_some, Option, Some, None, nat_lt, subst, arith, refl, ap, sym, ◌∙◌, inl, inr}
use Rattle.std.proofs.lemmas.Bool.{cases_Bool, le-ltb, true≢false}
use Rattle.std.proofs.lemmas.Option.{none-some, same_Some}
use Rattle.std.specs.List.{list_any}
use Rattle.std.specs.Ordering.{is_eq}
use Rattle.hm_names.specs.Order.{server_cmp}
use Rattle.hm_names.specs.Server.{Server}
use Rattle.hm_data.specs.Numbers.{told_number}
use Rattle.hm_data.specs.declared.args.Args.{Args}
use Rattle.hm_data.specs.declared.args.Args.TheVariants as args_are
use Rattle.hm_data.specs.declared.call.Told.{Told}
use Rattle.hm_data.specs.declared.call.Told.TheVariants as told_is
use Rattle.hm_data.specs.declared.entry.Entry.TheVariants as entry_is
use Rattle.hm_data.specs.declared.part.Part.{Part}
use Rattle.hm_data.specs.declared.part.Part.TheVariants as part_is
use Rattle.hm_index.specs.Index.{changed, find}
use Rattle.hm_model.specs.Fleet.{came_up, fences_by, fences_if, has_live, has_newer, has_older_live, has_other_live, is_fenced, is_live, part_servers, same_address, same_server, servers_of, with_server, with_server_at}
use Rattle.hm_model.specs.Journal.{Past}
use Rattle.hm_model.specs.Parts.{part_server}
use Rattle.hm_model.specs.Rules.{IsLegal}
use Rattle.hm_model.specs.Standings.{is_live_in, live_if, live_servers, standing_of, standings_of}
use Rattle.hm_model.specs.Tree.{Node, node_of}
use Rattle.hm_model.proofs.CameUp.{fence_names, fenced_came, live_came, named_came}
use Rattle.hm_model.proofs.NameTies.{same_server-is, same_server-refl, server_cmp-is, servers_total}
use Rattle.hm_model.specs.declared.standing.Standing.{Standing}
use Rattle.hm_places.specs.Chosen.{Rises, has}
use Rattle.hm_places.specs.Laws.{AllStandingsTell, EntriesStand, FencedCameUp, fence_of, shown_fenced, with_fence, with_told}
use Rattle.hm_places.specs.Servers.{as_told, has_live_in, has_newer_in, has_older_in, has_other_live_in, fenced_if, fresh}
use Rattle.hm_places.proofs.ByKey.{IsSetAt, Joins, changed_by, find_by, placed_by, rises_join, rows_by}
use Rattle.hm_places.proofs.NameOrder.{server_ties_back}

joins : Joins server_cmp with_server
joins = record {
  alone = λ key. refl;
  less = λ key first more e. ap (λ o. with_server_at o key first more (with_server key more)) e;
  equal = λ key first more e. ap (λ o. with_server_at o key first more (with_server key more)) e;
  greater = λ key first more e. ap (λ o. with_server_at o key first more (with_server key more)) e;
}

rises_part : (part : Part) (servers : List Server) → Rises server_cmp servers → Rises server_cmp (part_servers part servers)
rises_part part servers rises = by (part_server part)
  where
    by : (both : Option (Server × Bool)) → Rises server_cmp (elim both as (λ s. List Server) [ None ↦ servers | Some own ↦ with_server own.0 servers ])
    by None = rises
    by (Some own) = rises_join server_cmp servers_total with_server joins own.0 servers rises

servers_rise : (J : Past) → Rises server_cmp (servers_of J)
servers_rise [] = tt
servers_rise (entry_is.Up server ∷ J) = rises_join server_cmp servers_total with_server joins server (servers_of J) (servers_rise J)
servers_rise (entry_is.Base part ∷ J) = rises_part part (servers_of J) (servers_rise J)
servers_rise (entry ∷ J) = servers_rise J

-- who came up is among them
came_has : (server : Server) (servers : List Server) → has server_cmp servers server ≡ list_any (λ other. same_server server other) servers
came_has server [] = refl
came_has server (first ∷ more) = ap (λ b. b || has server_cmp more server) (server_ties_back first server) ∙ ap (λ b. same_server server first || b) (came_has server more)

has_came : (J : Past) (server : Server) → has server_cmp (servers_of J) server ≡ came_up J server
has_came J server = came_has server (servers_of J)

found : (J : Past) (server : Server) → find server_cmp (standings_of J) server ≡ (if came_up J server then Some (standing_of J server) else None)
found J server = find_by server_cmp servers_total server_cmp-is (standing_of J) (servers_of J) server ∙ ap (λ b. if b then Some (standing_of J server) else None) (has_came J server)

not_came : (came is : Bool) → (is ≡ true → came ≡ true) → came ≡ false → is ≡ false
not_came came true so off = absurd (true≢false (sym (so refl) ∙ off))
not_came came false so off = refl

live_told : (J : Past) (server : Server) → is_live_in (standings_of J) server ≡ is_live J server
live_told J server = ap live_if (found J server) ∙ by (came_up J server) refl
  where
    by : (b : Bool) → came_up J server ≡ b → live_if (if b then Some (standing_of J server) else None) ≡ is_live J server
    by true e = refl
    by false e = sym (not_came (came_up J server) (is_live J server) (live_came J server) e)

fenced_told : (J : Past) → IsLegal J → (server : Server) → fenced_if (find server_cmp (standings_of J) server) ≡ is_fenced J server
fenced_told J legal server = ap fenced_if (found J server) ∙ by (came_up J server) refl
  where
    by : (b : Bool) → came_up J server ≡ b → fenced_if (if b then Some (standing_of J server) else None) ≡ is_fenced J server
    by true e = refl
    by false e = sym (not_came (came_up J server) (is_fenced J server) (fenced_came J legal server) e)

came_told : (J : Past) (server : Server) → is_some (find server_cmp (standings_of J) server) ≡ came_up J server
came_told J server = ap is_some (found J server) ∙ by (came_up J server)
  where
    by : (b : Bool) → is_some (if b then Some (standing_of J server) else None) ≡ b
    by true = refl
    by false = refl

-- tests of all servers, and of those that are live
module _ (f : Server → Standing) where
  any_rows : (test : Server → Bool) (servers : List Server) → list_any (λ (row : Server × Standing). test row.0) (rows_by f servers) ≡ list_any test servers
  any_rows test [] = refl
  any_rows test (server ∷ servers) = ap (λ b. test server || b) (any_rows test servers)

  any_live : (test other : Server → Bool) (servers : List Server) → ((s : Server) → (let standing = f s in standing.live) ≡ true → test s ≡ other s) → ((s : Server) → (let standing = f s in standing.live) ≡ false → other s ≡ false)
      → list_any test (live_servers (rows_by f servers)) ≡ list_any other servers
  any_live test other [] on off = refl
  any_live test other (server ∷ servers) on off = elim (cases_Bool (let standing = f server in standing.live)) [
    | inl live ↦ rw live (ap (λ b. b || list_any test (live_servers (rows_by f servers))) (on server live) ∙ ap (λ b. other server || b) (any_live test other servers on off))
    | inr down ↦ rw (down, off server down) (any_live test other servers on off)
  ]

and_true : (a b : Bool) → (a && b) ≡ (a && (b && true))
and_true true true = refl
and_true true false = refl
and_true false b = refl

and_never : (a b : Bool) → (a && (b && false)) ≡ false
and_never true true = refl
and_never true false = refl
and_never false b = refl

newer_told : (J : Past) (server : Server) → has_newer_in (standings_of J) server ≡ has_newer J server
newer_told J server = any_rows (standing_of J) (λ other. same_address server other && not (nat_lt other.start server.start)) (servers_of J)

older_told : (J : Past) (server : Server) → has_older_in (standings_of J) server ≡ has_older_live J server
older_told J server =
    any_live (standing_of J) (λ other. same_address server other && nat_lt other.start server.start) (λ other. same_address server other && (nat_lt other.start server.start && is_live J other)) (servers_of J)
    (λ s on. and_true (same_address server s) (nat_lt s.start server.start) ∙ ap (λ b. same_address server s && (nat_lt s.start server.start && b)) (sym on))
    (λ s off. ap (λ b. same_address server s && (nat_lt s.start server.start && b)) off ∙ and_never (same_address server s) (nat_lt s.start server.start))

others_told : (J : Past) (server : Server) → has_other_live_in (standings_of J) server ≡ has_other_live J server
others_told J server =
    any_live (standing_of J) (λ other. not (same_server server other)) (λ other. is_live J other && not (same_server server other)) (servers_of J)
    (λ s on. ap (λ b. b && not (same_server server s)) (sym on))
    (λ s off. ap (λ b. b && not (same_server server s)) off)

any_told : (J : Past) → has_live_in (standings_of J) ≡ has_live J
any_told J = by (servers_of J)
  where
    by : (servers : List Server) → has_live_in (rows_by (standing_of J) servers) ≡ list_any (is_live J) servers
    by [] = refl
    by (server ∷ servers) = ap (λ b. is_live J server || b) (by servers)

pub standings_tell : AllStandingsTell
standings_tell J legal = record {
  came = came_told J;
  live = live_told J;
  are_fenced = fenced_told J legal;
  newer = newer_told J;
  older = older_told J;
  others = others_told J;
  any = any_told J;
}

-- a standing that is set for one server
abbrev stands : Bool → Bool → Standing
stands live fence = record { live = live; fenced = fence }

same_tie : (key other : Server) → is_eq (server_cmp key other) ≡ same_server other key
same_tie key other = server_ties_back key other

-- one that comes up is live, and not fenced
newer_not_came : (J : Past) (server : Server) → has_newer J server ≡ false → came_up J server ≡ false
newer_not_came J server = by (servers_of J)
  where
    itself : (other : Server) → same_server server other ≡ true → (same_address server other && not (nat_lt other.start server.start)) ≡ true
    itself other same = subst (λ o. (same_address server o && not (nat_lt o.start server.start)) ≡ true) (same_server-is server other same) own
      where
        own : (same_address server server && not (nat_lt server.start server.start)) ≡ true
        own = ap (λ b. b && not (nat_lt server.start server.start)) (left (same_address server server) (server.start == server.start) (same_server-refl server)) ∙ ap not (le-ltb server.start server.start (omega arith))
          where
            left : (a b : Bool) → (a && b) ≡ true → a ≡ true
            left true b e = refl
            left false b e = absurd (true≢false (sym e))

    or_false : (a b : Bool) → (a || b) ≡ false → (a ≡ false) × (b ≡ false)
    or_false true b e = cc
    or_false false b e = (refl, e)

    by : (servers : List Server) → list_any (λ other. same_address server other && not (nat_lt other.start server.start)) servers ≡ false → list_any (λ other. same_server server other) servers ≡ false
    by [] none = refl
    by (first ∷ more) none =
        let parts = or_false (same_address server first && not (nat_lt first.start server.start)) _ none in
        elim (cases_Bool (same_server server first)) [
          | inl same ↦ absurd (true≢false (sym (itself first same) ∙ parts.0))
          | inr differs ↦ rw differs (by more parts.1)
        ]

up_set : (J : Past) (server : Server) → is_fenced J server ≡ false → IsSetAt server_cmp (standing_of J) (standing_of (entry_is.Up server ∷ J)) server fresh
up_set J server unfenced other = elim (cases_Bool (same_server other server)) [
  | inl same ↦ rw (same_tie server other, same) (ap (λ s. stands true (is_fenced J s)) (same_server-is other server same) ∙ ap (stands true) unfenced)
  | inr differs ↦ rw (same_tie server other, differs) refl
]

down_set : (J : Past) (server : Server) → IsSetAt server_cmp (standing_of J) (standing_of (entry_is.Down server ∷ J)) server (stands false (is_fenced J server))
down_set J server other = elim (cases_Bool (same_server other server)) [
  | inl same ↦ rw (same_tie server other, same) (ap (λ s. stands false (is_fenced J s)) (same_server-is other server same))
  | inr differs ↦ rw (same_tie server other, differs) refl
]

-- one that a part tells
or_never : (a b : Bool) → b ≡ false → (a || b) ≡ a
or_never true b off = refl
or_never false b off = off

told_set : (J : Past) (server : Server) (fence : Bool) → is_live J server ≡ false → is_fenced J server ≡ false
    → IsSetAt server_cmp (standing_of J) (standing_of (entry_is.Base (part_is.Server server fence) ∷ J)) server (as_told fence)
told_set J server fence off unfenced other = elim (cases_Bool (same_server other server)) [
  | inl same ↦ rw (same_tie server other, same)
      (ap (λ s. stands (not fence || is_live J s) (fence || is_fenced J s)) (same_server-is other server same)
      ∙ ap (λ b. stands b (fence || is_fenced J server)) (or_never (not fence) (is_live J server) off)
      ∙ ap (stands (not fence)) (or_never fence (is_fenced J server) unfenced))
  | inr differs ↦ rw (same_tie server other, differs) refl
]

-- a report that shows a server fenced, and any other
fence_is : (args : Args) (server : Server) → fence_of args ≡ Some server → (s : Server) → fences_by args s ≡ same_server s server
fence_is (args_are.FenceCall other) server e s = ap (same_server s) (same_Some other server e)
fence_is args server e s = absurd (none-some server e)

fence_none : (args : Args) → fence_of args ≡ None → (s : Server) → fences_by args s ≡ false
fence_none (args_are.FenceCall other) e s = absurd (none-some other (sym e))
fence_none args e s = refl

-- what a report says of each server
shows : (o : Option Node) (told : Told) (server s : Server) → shown_fenced o told ≡ Some server → ((told_number told == told_number told_is.Fenced) && fences_if o s) ≡ same_server s server
shows None told server s e = absurd (none-some server e)
shows (Some node) told server s e = by (told_number told == told_number told_is.Fenced) e
  where
    by : (b : Bool) → (if b then fence_of node.args else None) ≡ Some server → (b && fences_by node.args s) ≡ same_server s server
    by true h = fence_is node.args server h s
    by false h = absurd (none-some server h)

shows_none : (o : Option Node) (told : Told) (s : Server) → shown_fenced o told ≡ None → ((told_number told == told_number told_is.Fenced) && fences_if o s) ≡ false
shows_none None told s e = and_false (told_number told == told_number told_is.Fenced)
  where
    and_false : (b : Bool) → (b && false) ≡ false
    and_false true = refl
    and_false false = refl
shows_none (Some node) told s e = by (told_number told == told_number told_is.Fenced) e
  where
    by : (b : Bool) → (if b then fence_of node.args else None) ≡ None → (b && fences_by node.args s) ≡ false
    by true h = fence_none node.args h s
    by false h = refl

fence_set : (J : Past) (server : Server) (shown : Server → Bool) → ((s : Server) → shown s ≡ same_server s server)
    → IsSetAt server_cmp (standing_of J) (λ s. stands (is_live J s) (shown s || is_fenced J s)) server (stands (is_live J server) true)
fence_set J server shown each other = elim (cases_Bool (same_server other server)) [
  | inl same ↦ rw (each other, same_tie server other, same) (ap (λ s. stands (is_live J s) true) (same_server-is other server same))
  | inr differs ↦ rw (each other, same_tie server other, differs) refl
]

rows_alike : {V : Type 0} (f g : Server → V) (servers : List Server) → ((s : Server) → f s ≡ g s) → rows_by f servers ≡ rows_by g servers
rows_alike f g [] each = refl
rows_alike f g (first ∷ more) each = ap (λ v. (first, v) ∷ rows_by f more) (each first) ∙ ap (λ l. (first, g first) ∷ l) (rows_alike f g more each)

reported : (J : Past) (p : ℕ) (told : Told) (o : Option Server) → shown_fenced (node_of J p) told ≡ o
    → with_fence (standings_of J) o ≡ rows_by (λ s. stands (is_live J s) (((told_number told == told_number told_is.Fenced) && fences_if (node_of J p) s) || is_fenced J s)) (servers_of J)
reported J p told None is = rows_alike (standing_of J) _ (servers_of J) (λ s. ap (λ b. stands (is_live J s) (b || is_fenced J s)) (sym (shows_none (node_of J p) told s is)))
reported J p told (Some server) is =
    ap (λ b. changed server_cmp (standings_of J) server (stands b true)) (live_told J server)
    ∙ changed_by server_cmp servers_total server_cmp-is (standing_of J) _ server (stands (is_live J server) true) (servers_of J) (fence_set J server _ (λ s. shows (node_of J p) told server s is)) (servers_rise J)

parts_stand : (J : Past) (part : Part) → IsLegal (entry_is.Base part ∷ J) → with_told (standings_of J) (part_server part) ≡ standings_of (entry_is.Base part ∷ J)
parts_stand J (part_is.Server server fence) legal =
    let none : came_up J server ≡ false = newer_not_came J server legal.1.0.1 in
    placed_by server_cmp servers_total server_cmp-is with_server joins (standing_of J) (standing_of (entry_is.Base (part_is.Server server fence) ∷ J)) server (as_told fence) (servers_of J)
    (told_set J server fence (not_came (came_up J server) (is_live J server) (live_came J server) none) (not_came (came_up J server) (is_fenced J server) (fenced_came J legal.0 server) none))
    (servers_rise J)
parts_stand J part legal = refl

pub entries_stand : EntriesStand
entries_stand (entry_is.Report call told) J legal = reported J call.0 told (shown_fenced (node_of J call.0) told) refl
entries_stand (entry_is.Up server) J legal =
    let none : came_up J server ≡ false = newer_not_came J server legal.1.1.0 in
    placed_by server_cmp servers_total server_cmp-is with_server joins (standing_of J) (standing_of (entry_is.Up server ∷ J)) server fresh (servers_of J)
    (up_set J server (not_came (came_up J server) (is_fenced J server) (fenced_came J legal.0 server) none)) (servers_rise J)
entries_stand (entry_is.Down server) J legal =
    ap (λ f. changed server_cmp (standings_of J) server (stands false f)) (fenced_told J legal.0 server)
    ∙ changed_by server_cmp servers_total server_cmp-is (standing_of J) (standing_of (entry_is.Down server ∷ J)) server (stands false (is_fenced J server)) (servers_of J) (down_set J server) (servers_rise J)
entries_stand (entry_is.Base part) J legal = parts_stand J part legal
entries_stand entry J legal = refl

pub fenced_came_up : FencedCameUp
fenced_came_up J legal p told server is = fence_names J (named_came J legal) p (node_of J p) refl server (by (node_of J p) is)
  where
    by : (o : Option Node) → shown_fenced o told ≡ Some server → fences_if o server ≡ true
    by None e = absurd (none-some server e)
    by (Some node) e = at (told_number told == told_number told_is.Fenced) e
      where
        at : (b : Bool) → (if b then fence_of node.args else None) ≡ Some server → fences_by node.args server ≡ true
        at true h = fence_is node.args server h server ∙ same_server-refl server
        at false h = absurd (none-some server h)
