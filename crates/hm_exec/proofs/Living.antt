-- At one address no two servers are live; so where one goes down, none is, and a newer one may come up.
use Rattle.std.proofs.Common.{◌≡◌, ◌<◌, List, [], ◌∷◌, Bool, true, false, not, ◌&&◌, ◌||◌, ◌==◌, ◌⊎◌, if◌then◌else◌, nat_lt, max, Option, None, Some, Result, Ok, Err, refl, inl, inr, ap, sym, subst, ◌∙◌, arith}
use Rattle.std.specs.List.{list_any}
use Rattle.std.specs.Option.{IfNone, IfSome}
use Rattle.std.specs.Result.{IfOk}
use Rattle.std.specs.Str.{bytes_eq}
use Rattle.std.proofs.lemmas.Bool.{and_parts, false_from_ne_true, lt-ltb, or_cases, or_right, true≢false}
use Rattle.std.proofs.lemmas.Bool.Decides.{nat_tests}
use Rattle.std.proofs.lemmas.Option.{none-some, same_Some}
use Rattle.hm_names.specs.Server.{Server}
use Rattle.hm_data.specs.declared.entry.Entry.TheVariants as entry_is
use Rattle.hm_data.specs.declared.part.Part.{Part}
use Rattle.hm_data.specs.declared.part.Part.TheVariants as part_is
use Rattle.hm_model.specs.Base.{PartFits}
use Rattle.hm_model.specs.Fleet.{came_up, has_newer, has_older_live, is_live, part_live, same_address, same_server, servers_of}
use Rattle.hm_model.specs.Journal.{Past}
use Rattle.hm_model.specs.Rules.{Allowed, IsLegal}
use Rattle.hm_model.specs.Standings.{MayComeUp, greatest_start, is_live_in, live_servers, standings_of}
use Rattle.hm_model.proofs.CameUp.{live_came}
use Rattle.hm_model.proofs.KeyTests.{bytes_eq-is}
use Rattle.hm_model.proofs.NameTies.{same_server-is, same_server-refl}
use Rattle.hm_places.specs.Laws.{StandingsTell}
use Rattle.hm_places.specs.Servers.{first_there, has_newer_in}
use Rattle.hm_model.specs.declared.standing.Standing.{Standing}
use Rattle.hm_exec.specs.Fleet.{IsOlder}

-- a server that is among some, and passes a test
any_by : (test : Server → Bool) (servers : List Server) (one : Server) → list_any (λ other. same_server one other) servers ≡ true → test one ≡ true → list_any test servers ≡ true
any_by test [] one there passes = there
any_by test (first ∷ more) one there passes = by (same_server one first) refl there (λ rest. any_by test more one rest passes)
  where
    by : (b : Bool) → same_server one first ≡ b → (b || list_any (λ other. same_server one other) more) ≡ true → (list_any (λ other. same_server one other) more ≡ true → list_any test more ≡ true) → (test first || list_any test more) ≡ true
    by true e on rest = ap (λ b. b || list_any test more) (ap test (sym (same_server-is one first e)) ∙ passes)
    by false e on rest = or_right (test first) (list_any test more) (rest on)

-- one of some passes a test
some_one : (test : Server → Bool) (servers : List Server) → list_any test servers ≡ true → (one : Server) × (test one ≡ true)
some_one test [] any = absurd (true≢false (sym any))
some_one test (first ∷ more) any = by (test first) refl any (some_one test more)
  where
    by : (b : Bool) → test first ≡ b → (b || list_any test more) ≡ true → (list_any test more ≡ true → (one : Server) × (test one ≡ true)) → (one : Server) × (test one ≡ true)
    by true e on rest = (first, e)
    by false e on rest = rest on

-- an address, by its parts
pub address_is : (a b : Server) → same_address a b ≡ true → (a.host ≡ b.host) × (a.port ≡ b.port)
address_is a b same =
    let parts = and_parts (bytes_eq a.host b.host) (a.port == b.port) same in
    (bytes_eq-is a.host b.host parts.0, grind (arith, nat_tests, parts.1))

address_of : (a b : Server) → a.host ≡ b.host → a.port ≡ b.port → same_address a b ≡ true
address_of a b host port =
    ap (λ h. bytes_eq h b.host && (a.port == b.port)) host ∙ ap (λ p. bytes_eq b.host b.host && (p == b.port)) port
    ∙ (and_parts (same_address b b) (b.start == b.start) (same_server-refl b)).0

address_back : (a b : Server) → same_address a b ≡ true → same_address b a ≡ true
address_back a b same = let parts = address_is a b same in address_of b a (sym parts.0) (sym parts.1)

address_on : (one a b : Server) → same_address one a ≡ true → same_address one b ≡ true → same_address a b ≡ true
address_on one a b at there =
    let here = address_is one a at in
    let beside = address_is one b there in
    address_of a b (sym here.0 ∙ beside.0) (sym here.1 ∙ beside.1)

-- an older live one of the address, and a newer one that came up
older_met : (J : Past) (server one : Server) → is_live J one ≡ true → same_address server one ≡ true → nat_lt one.start server.start ≡ true → has_older_live J server ≡ true
older_met J server one live there older =
    any_by (λ other. same_address server other && (nat_lt other.start server.start && is_live J other)) (servers_of J) one (live_came J one live) (rw (there, older, live) refl)

newer_met : (J : Past) (server one : Server) → came_up J one ≡ true → same_address server one ≡ true → nat_lt one.start server.start ≡ false → has_newer J server ≡ true
newer_met J server one came there newer =
    any_by (λ other. same_address server other && not (nat_lt other.start server.start)) (servers_of J) one came (rw (there, newer) refl)

-- where no newer one of an address came up, and no older one is live, none is live there
none_beside : (J : Past) (server one : Server) → has_newer J server ≡ false → has_older_live J server ≡ false → is_live J one ≡ true → same_address server one ≡ true → ⊥
none_beside J server one newest oldest live there = by (nat_lt one.start server.start) refl
  where
    by : (b : Bool) → nat_lt one.start server.start ≡ b → ⊥
    by true e = true≢false (sym (older_met J server one live there e) ∙ oldest)
    by false e = true≢false (sym (newer_met J server one (live_came J one live) there e) ∙ newest)

-- so with one more there no two are live
one_more : (J : Past) (server : Server) → has_newer J server ≡ false → has_older_live J server ≡ false → (a b : Server)
    → (same_server a server ≡ true) ⊎ (is_live J a ≡ true) → (same_server b server ≡ true) ⊎ (is_live J b ≡ true) → same_address a b ≡ true
    → (is_live J a ≡ true → is_live J b ≡ true → same_address a b ≡ true → a ≡ b) → a ≡ b
one_more J server newest oldest a b (inl one) (inl other) same before = same_server-is a server one ∙ sym (same_server-is b server other)
one_more J server newest oldest a b (inl one) (inr was) same before =
    absurd (none_beside J server b newest oldest was (subst (λ s. same_address s b ≡ true) (same_server-is a server one) same))
one_more J server newest oldest a b (inr was) (inl other) same before =
    absurd (none_beside J server a newest oldest was (subst (λ s. same_address s a ≡ true) (same_server-is b server other) (address_back a b same)))
one_more J server newest oldest a b (inr was) (inr were) same before = before was were same

-- one that a part of a base tells as live is its server, or was live
told_live : (a server : Server) (fenced before : Bool) → ((same_server a server && not fenced) || before) ≡ true → (same_server a server ≡ true) ⊎ (before ≡ true)
told_live a server fenced before on = elim (or_cases (same_server a server && not fenced) before on) [
  | inl one ↦ inl (and_parts (same_server a server) (not fenced) one).0
  | inr was ↦ inr was
]

-- at one address no two are live
pub alone : (J : Past) → IsLegal J → (a b : Server) → is_live J a ≡ true → is_live J b ≡ true → same_address a b ≡ true → a ≡ b
alone [] legal a b on there same = absurd (true≢false (sym on))
alone (entry_is.Up server ∷ J) legal a b on there same =
    one_more J server legal.1.1.0 legal.1.1.1.0 a b (or_cases (same_server a server) (is_live J a) on) (or_cases (same_server b server) (is_live J b) there) same (alone J legal.0 a b)
alone (entry_is.Down server ∷ J) legal a b on there same =
    alone J legal.0 a b (and_parts (not (same_server a server)) (is_live J a) on).1 (and_parts (not (same_server b server)) (is_live J b) there).1 same
alone (entry_is.Base part ∷ J) legal a b on there same = by part legal.1.0 on there (alone J legal.0 a b)
  where
    by : (part : Part) → PartFits part J → part_live part a (is_live J a) ≡ true → part_live part b (is_live J b) ≡ true
        → (is_live J a ≡ true → is_live J b ≡ true → same_address a b ≡ true → a ≡ b) → a ≡ b
    by (part_is.Server server fenced) fits on there before =
        one_more J server fits.1 fits.2 a b (told_live a server fenced (is_live J a) on) (told_live b server fenced (is_live J b) there) same before
    by part fits on there before = before on there same
alone (entry ∷ J) legal a b on there same = alone J legal.0 a b on there same

-- after the end of the one that was live at its address a newer server may come up
pub up_behind : (J : Past) → IsLegal J → (server older : Server) → IsOlder J server older → has_newer J server ≡ false → Allowed (entry_is.Down older ∷ J) (entry_is.Up server)
up_behind J legal server older is newest =
    let none : has_older_live (entry_is.Down older ∷ J) server ≡ false = false_from_ne_true (has_older_live (entry_is.Down older ∷ J) server) (λ any.
    let found = some_one (λ other. same_address server other && (nat_lt other.start server.start && (not (same_server other older) && is_live J other))) (servers_of J) any in
    let other = found.0 in
    let at = and_parts (same_address server other) (nat_lt other.start server.start && (not (same_server other older) && is_live J other)) found.1 in
    let more = and_parts (nat_lt other.start server.start) (not (same_server other older) && is_live J other) at.1 in
    let lives = and_parts (not (same_server other older)) (is_live J other) more.1 in
    let one : other ≡ older = alone J legal other older lives.1 is.0 (address_on server other older at.0 is.1) in
    let self : same_server other older ≡ true = ap (λ s. same_server s older) one ∙ same_server-refl older in
    true≢false (sym lives.0 ∙ ap not self)) in
    (tt, (newest, (none, tt)))

-- an older one that is live
pub older_there : (J : Past) (server : Server) → has_older_live J server ≡ true → (older : Server) × IsOlder J server older
older_there J server any =
    let found = some_one (λ other. same_address server other && (nat_lt other.start server.start && is_live J other)) (servers_of J) any in
    let other = found.0 in
    let at = and_parts (same_address server other) (nat_lt other.start server.start && is_live J other) found.1 in
    (other, ((and_parts (nat_lt other.start server.start) (is_live J other) at.1).1, at.0))

-- no newer one than a server that may come up did
not_newer : (server : Server) (rows : List (Server × Standing)) → greatest_start rows server < server.start → has_newer_in rows server ≡ false
not_newer server [] few = refl
not_newer server (row ∷ more) few = by (same_address server row.0) few (not_newer server more)
  where
    by : (b : Bool) → (if b then max row.0.start (greatest_start more server) else greatest_start more server) < server.start → (greatest_start more server < server.start → has_newer_in more server ≡ false)
        → ((b && not (nat_lt row.0.start server.start)) || has_newer_in more server) ≡ false
    by true less rest =
        let lower : row.0.start < server.start = omega (arith, less) in
        let others : greatest_start more server < server.start = omega (arith, less) in
        rw (lt-ltb row.0.start server.start lower) (rest others)
    by false less rest = rest less

pub newest : (J : Past) (server : Server) → StandingsTell J → MayComeUp (standings_of J) server → has_newer J server ≡ false
newest J server tell may = sym (tell.newer server) ∙ not_newer server (standings_of J) may.newest

-- the first that is live at an address is there
first_at : (servers : List Server) (server first : Server) → first_there servers server ≡ Some first → same_address server first ≡ true
first_at [] server first is = absurd (none-some first is)
first_at (other ∷ more) server first is = by (same_address server other) refl is (first_at more server first)
  where
    by : (b : Bool) → same_address server other ≡ b → (if b then Some other else first_there more server) ≡ Some first → (first_there more server ≡ Some first → same_address server first ≡ true) → same_address server first ≡ true
    by true e found rest = ap (same_address server) (sym (same_Some other first found)) ∙ e
    by false e found rest = rest found

pub older_is : (J : Past) (server first : Server) → first_there (live_servers (standings_of J)) server ≡ Some first → is_live J first ≡ true → IsOlder J server first
older_is J server first is live = (live, first_at (live_servers (standings_of J)) server first is)

-- where none is there, none is older
none_at : (test : Server → Bool) (servers : List Server) (server : Server) → first_there servers server ≡ None → list_any (λ other. same_address server other && test other) servers ≡ false
none_at test [] server none = refl
none_at test (other ∷ more) server none = by (same_address server other) none (none_at test more server)
  where
    by : (b : Bool) → (if b then Some other else first_there more server) ≡ None → (first_there more server ≡ None → list_any (λ s. same_address server s && test s) more ≡ false) → ((b && test other) || list_any (λ s. same_address server s && test s) more) ≡ false
    by true found rest = absurd (none-some other (sym found))
    by false found rest = rest found

pub none_older : (J : Past) (server : Server) → StandingsTell J → first_there (live_servers (standings_of J)) server ≡ None → has_older_live J server ≡ false
none_older J server tell none = sym (tell.older server) ∙ none_at (λ other. nat_lt other.start server.start) (live_servers (standings_of J)) server none

-- the same of what may be there
module _ {E : Type 0} (J : Past) (server : Server) (servers : List (Server × Standing)) (tell : StandingsTell J) (are : servers ≡ standings_of J) where
  pub none_by : (r : Result (Option Server) E) → IfOk r (λ o. o ≡ first_there (live_servers servers) server) → IfOk r (λ o. IfNone o (has_older_live J server ≡ false))
  none_by (Err e) is = tt
  none_by (Ok None) is = none_older J server tell (ap (λ l. first_there (live_servers l) server) (sym are) ∙ sym is)
  none_by (Ok (Some older)) is = tt

  pub some_by : (r : Result (Option Server) E) → IfOk r (λ o. o ≡ first_there (live_servers servers) server) → IfOk r (λ o. IfSome o (λ name. is_live_in servers name ≡ true)) → IfOk r (λ o. IfSome o (IsOlder J server))
  some_by (Err e) is live = tt
  some_by (Ok None) is live = tt
  some_by (Ok (Some older)) is live =
      older_is J server older (ap (λ l. first_there (live_servers l) server) (sym are) ∙ sym is) (sym (tell.live older) ∙ subst (λ l. is_live_in l older ≡ true) are live)
