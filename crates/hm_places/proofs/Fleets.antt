-- What a change of a server's standing and a server more do to those that are live.
use Rattle.std.proofs.Common.{◌≡◌, ℕ, ◌<◌, List, [], ◌∷◌, map, max, Option, Some, None, IfSome, Bool, true, false, not, ◌&&◌, ◌||◌, ◌==◌, ◌⊎◌, if◌then◌else◌, nat_lt, slice_get, refl, inl, inr, arith, ap, sym, ◌∙◌}
use Rattle.std.specs.List.{insert, list_any}
use Rattle.std.specs.Ordering.{is_eq}
use Rattle.std.specs.declared.cmp.Ordering.TheVariants.{Equal}
use Rattle.std.proofs.lemmas.Bool.{cases_Bool, lt-ltb, ltb-true}
use Rattle.std.proofs.lemmas.Cmp.{tied_itself, tied_back}
use Rattle.hm_names.specs.Order.{server_cmp}
use Rattle.hm_names.specs.Server.{Server}
use Rattle.hm_index.specs.Index.{IsRising, find, changed, key_if, PutAt}
use Rattle.hm_model.specs.Fleet.{same_address}
use Rattle.hm_model.specs.Standings.{MayComeUp, greatest_start, is_live_in, live_if, live_servers}
use Rattle.hm_places.specs.Chosen.{cmp_if, AreChosen, HasGap, has}
use Rattle.hm_places.specs.Servers.{address_cmp, has_newer_in, has_older_in, first_there, name_of, is_live_key, is_live_but, AreLiveBut, AreServers}
use Rattle.hm_model.specs.declared.standing.Standing.{Standing}
use Rattle.hm_places.proofs.Addresses.{addresses_total, address_ties}
use Rattle.hm_places.proofs.Choice.{rewanted, rekeyed, added}
use Rattle.hm_places.proofs.Kept.{kept_has}
use Rattle.hm_places.proofs.Live.{test_live}
use Rattle.hm_model.proofs.NameTies.{servers_total, server_cmp-is}
use Rattle.hm_model.specs.Choice.{lowest, or_else, without}
use Rattle.hm_places.proofs.Sorted.{is_equal}

map_alike : {X : Type 0} (f g : ℕ → X) (ns : List ℕ) → ((n : ℕ) → f n ≡ g n) → map f ns ≡ map g ns
map_alike f g [] same = refl
map_alike f g (n ∷ ns) same = rw (same n, map_alike f g ns same) refl

-- the same numbers, where the names are the same and what is wanted of them
pub same_names : (came after : List (Server × Standing)) (one other : Option Server → Bool) (numbers : List ℕ) → ((n : ℕ) → key_if (slice_get after n) ≡ key_if (slice_get came n)) → ((key : Option Server) → one key ≡ other key)
    → AreChosen server_cmp (name_of came) one numbers → AreChosen server_cmp (name_of after) other numbers
same_names came after one other numbers keys wanted chosen =
    let same = map_alike (name_of after) (name_of came) numbers keys in
    record { rises = rw same chosen.rises; are = λ key. rw same (chosen.are key ∙ wanted key) }

module _ (servers after : List (Server × Standing)) (server : Server) (standing : Standing)
    (finds : (other : Server) → find server_cmp after other ≡ (if is_eq (server_cmp server other) then Some standing else find server_cmp servers other)) where
  -- as live as before
  same_live : standing.live ≡ is_live_in servers server → (other : Server) → is_live_in servers other ≡ is_live_in after other
  same_live live other = elim (cases_Bool (is_eq (server_cmp server other))) [
    | inl on ↦ rw (finds other, on) (ap (is_live_in servers) (sym (server_cmp-is server other (is_equal (server_cmp server other) on))) ∙ sym live)
    | inr off ↦ rw (finds other, off) refl
  ]

  pub fence_keeps : (came came' : List (Server × Standing)) (numbers : List ℕ) → standing.live ≡ is_live_in servers server → ((n : ℕ) → key_if (slice_get came' n) ≡ key_if (slice_get came n))
      → IsRising server_cmp after → AreServers came servers numbers → AreServers came' after numbers
  fence_keeps came came' numbers live keys rising are = record {
    rising = rising;
    live = same_names came came' (is_live_key servers) (is_live_key after) numbers keys wanted are.live;
    alone = λ a b on on'. are.alone a b (same_live live a ∙ on) (same_live live b ∙ on');
  }
    where
      wanted : (key : Option Server) → is_live_key servers key ≡ is_live_key after key
      wanted None = refl
      wanted (Some other) = same_live live other

  -- not live any more
  less_live : standing.live ≡ false → (other : Server) → is_live_in after other ≡ true → (is_eq (server_cmp server other) ≡ false) × (is_live_in servers other ≡ true)
  less_live down other on = elim (cases_Bool (is_eq (server_cmp server other))) [
    | inl ties ↦ (let off : is_live_in after other ≡ false = ap live_if (finds other) ∙ ap (λ b. live_if (if b then Some standing else find server_cmp servers other)) ties ∙ down in
        let e : true ≡ false = sym on ∙ off in cc)
    | inr off ↦ (off, ap live_if (sym (finds other ∙ ap (λ b. if b then Some standing else find server_cmp servers other) off)) ∙ on)
  ]

  pub down_keeps : (came came' : List (Server × Standing)) (numbers : List ℕ) → standing.live ≡ false → ((n : ℕ) → key_if (slice_get came' n) ≡ key_if (slice_get came n))
      → IsRising server_cmp after → AreLiveBut server came servers numbers
      → ((a b : Server) → is_live_in servers a ≡ true → is_live_in servers b ≡ true → same_address a b ≡ true → a ≡ b) → AreServers came' after numbers
  down_keeps came came' numbers down keys rising live alone = record {
    rising = rising;
    live = same_names came came' (is_live_but server servers) (is_live_key after) numbers keys wanted live;
    alone = λ a b on on'. alone a b (less_live down a on).1 (less_live down b on').1;
  }
    where
      wanted : (key : Option Server) → is_live_but server servers key ≡ is_live_key after key
      wanted None = refl
      wanted (Some other) = elim (cases_Bool (is_eq (server_cmp server other))) [
        | inl on ↦ rw (finds other, on) (sym down)
        | inr off ↦ rw (finds other, off) refl
      ]

or_there : (a b : Bool) → b ≡ true → (a || b) ≡ true
or_there true b on = refl
or_there false b on = on

-- one that passes a test is among them
some_one : (test : Server → Bool) (servers : List Server) → list_any test servers ≡ true → record { one : Server; passes : test one ≡ true; there : has server_cmp servers one ≡ true }
some_one test [] any = cc
some_one test (server ∷ servers) any = elim (cases_Bool (test server)) [
  | inl on ↦ record { one = server; passes = on; there = rw (tied_itself servers_total server) refl }
  | inr off ↦ (let rest = some_one test servers (skip (test server) (list_any test servers) off any) in
      record { one = rest.one; passes = rest.passes; there = or_there (is_eq (server_cmp server rest.one)) (has server_cmp servers rest.one) rest.there })
]
  where
    skip : (a b : Bool) → a ≡ false → (a || b) ≡ true → b ≡ true
    skip true b off e = cc
    skip false b off e = e

and_left : (a b : Bool) → (a && b) ≡ true → a ≡ true
and_left true b e = refl
and_left false b e = cc

-- who is live, by the rows in order
live_there_is : (servers : List (Server × Standing)) → IsRising server_cmp servers → (server : Server) → has server_cmp (live_servers servers) server ≡ is_live_in servers server
live_there_is servers rising server = kept_has server_cmp servers_total (λ (s : Standing). s.live) servers rising server ∙ sym (test_live (find server_cmp servers server))

pub older_is : (servers : List (Server × Standing)) → IsRising server_cmp servers → (server : Server) → has_older_in servers server ≡ true → record { one : Server; live : is_live_in servers one ≡ true; there : same_address server one ≡ true }
older_is servers rising server any =
    let found = some_one (λ other. same_address server other && nat_lt other.start server.start) (live_servers servers) any in
    record { one = found.one; live = sym (live_there_is servers rising found.one) ∙ found.there; there = and_left (same_address server found.one) (nat_lt found.one.start server.start) found.passes }

-- the first at an address is there, and at it
pub first_is : (servers : List Server) (server first : Server) → first_there servers server ≡ Some first → (has server_cmp servers first ≡ true) × (same_address server first ≡ true)
first_is [] server first is = cc
first_is (other ∷ servers) server first is = elim (cases_Bool (same_address server other)) [
  | inl on ↦ (let same : other ≡ first = here on is in (rw (same, tied_itself servers_total first) refl, ap (same_address server) (sym same) ∙ on))
  | inr off ↦ (let rest = first_is servers server first (skip off is) in (or_there (is_eq (server_cmp other first)) (has server_cmp servers first) rest.0, rest.1))
]
  where
    here : same_address server other ≡ true → first_there (other ∷ servers) server ≡ Some first → other ≡ first
    here on is = let e = rw on at is in cc

    skip : same_address server other ≡ false → first_there (other ∷ servers) server ≡ Some first → first_there servers server ≡ Some first
    skip off is = rw off at is

pub first_live : (servers : List (Server × Standing)) → IsRising server_cmp servers → (server first : Server) → first_there (live_servers servers) server ≡ Some first → is_live_in servers first ≡ true
first_live servers rising server first is = sym (live_there_is servers rising first) ∙ (first_is (live_servers servers) server first is).0

-- where none is first, none is there
pub none_first : (servers : List Server) (server other : Server) → first_there servers server ≡ None → has server_cmp servers other ≡ true → same_address server other ≡ true → ⊥
none_first [] server other none there on = cc
none_first (first ∷ servers) server other none there on = elim (cases_Bool (same_address server first)) [
  | inl here ↦ found here none
  | inr off ↦ none_first servers server other (skip off none) (rest off) on
]
  where
    found : same_address server first ≡ true → first_there (first ∷ servers) server ≡ None → ⊥
    found here none = let e = rw here at none in cc

    skip : same_address server first ≡ false → first_there (first ∷ servers) server ≡ None → first_there servers server ≡ None
    skip off none = rw off at none

    rest : same_address server first ≡ false → has server_cmp servers other ≡ true
    rest off = elim (cases_Bool (is_eq (server_cmp first other))) [
      | inl ties ↦ (let same : first ≡ other = server_cmp-is first other (is_equal (server_cmp first other) ties) in
          let e : true ≡ false = sym on ∙ ap (same_address server) (sym same) ∙ off in cc)
      | inr apart ↦ drop_first (is_eq (server_cmp first other)) (has server_cmp servers other) apart there
    ]
      where
        drop_first : (a b : Bool) → a ≡ false → (a || b) ≡ true → b ≡ true
        drop_first true b off e = cc
        drop_first false b off e = e

-- the greatest start codes, by names alone
pub greatest_changed : (servers : List (Server × Standing)) (server other : Server) (standing : Standing) → greatest_start (changed server_cmp servers server standing) other ≡ greatest_start servers other
greatest_changed [] server other standing = refl
greatest_changed (row ∷ servers) server other standing = elim (cases_Bool (is_eq (server_cmp row.0 server))) [
  | inl on ↦ rw on refl
  | inr off ↦ rw off (ap (λ n. if same_address other row.0 then max row.0.start n else n) (greatest_changed servers server other standing))
]

address_same : (one a b : Server) → same_address one a ≡ true → same_address one b ≡ true → same_address a b ≡ true
address_same one a b on on' =
    let tie = is_equal (address_cmp one a) (sym (address_ties one a) ∙ on) in
    let tie' = is_equal (address_cmp one b) (sym (address_ties one b) ∙ on') in
    address_ties a b ∙ ap is_eq (sym (addresses_total.congr one a b tie) ∙ tie')

address_back : (a b : Server) → same_address a b ≡ true → same_address b a ≡ true
address_back a b on = address_ties b a ∙ ap is_eq (tied_back addresses_total a b (is_equal (address_cmp a b) (sym (address_ties a b) ∙ on)))

not_true : (b : Bool) → (b ≡ true → ⊥) → b ≡ false
not_true true never = absurd (never refl)
not_true false never = refl

-- where none is live at an address, no older one is
pub none_older : (came servers : List (Server × Standing)) (numbers : List ℕ) → AreServers came servers numbers → (other : Server) → first_there (live_servers servers) other ≡ None → has_older_in servers other ≡ false
none_older came servers numbers are other none = not_true (has_older_in servers other) (λ any.
    let found = older_is servers are.rising other any in
    none_first (live_servers servers) other found.one none (live_there_is servers are.rising found.one ∙ found.live) found.there)

-- an older one that is live is the first of its address
pub older_one : (came servers : List (Server × Standing)) (numbers : List ℕ) → AreServers came servers numbers → (server first : Server) → first_there (live_servers servers) server ≡ Some first
    → has_older_in servers server ≡ true → nat_lt first.start server.start ≡ true
older_one came servers numbers are server first is any =
    let found = some_one (λ other. same_address server other && nat_lt other.start server.start) (live_servers servers) any in
    let one_live : is_live_in servers found.one ≡ true = sym (live_there_is servers are.rising found.one) ∙ found.there in
    let there = first_is (live_servers servers) server first is in
    let first_live_is : is_live_in servers first ≡ true = sym (live_there_is servers are.rising first) ∙ there.0 in
    let same : found.one ≡ first = are.alone found.one first one_live first_live_is (address_same server found.one first (and_left (same_address server found.one) (nat_lt found.one.start server.start) found.passes) there.1) in
    ap (λ s. nat_lt s.start server.start) (sym same) ∙ and_right_of (same_address server found.one) (nat_lt found.one.start server.start) found.passes
  where
    and_right_of : (a b : Bool) → (a && b) ≡ true → b ≡ true
    and_right_of true b e = e
    and_right_of false b e = cc

module _ (came servers after : List (Server × Standing)) (numbers : List ℕ) (server : Server) (standing : Standing) (down : standing.live ≡ false)
    (finds : (other : Server) → find server_cmp after other ≡ (if is_eq (server_cmp server other) then Some standing else find server_cmp servers other)) (are : AreServers came servers numbers) where
  -- where the live one of an address went down, no older one is live
  pub gone_older : IsRising server_cmp after → is_live_in servers server ≡ true → (other : Server) → first_there (live_servers servers) other ≡ Some server → has_older_in after other ≡ false
  gone_older rising live other first = not_true (has_older_in after other) (λ any.
      let found = older_is after rising other any in
      let was = less_live servers after server standing finds down found.one found.live in
      let there = (first_is (live_servers servers) other server first).1 in
      let same : server ≡ found.one = are.alone server found.one live was.1 (address_same other server found.one there found.there) in
      let e : true ≡ false = sym (ap is_eq (tied_itself servers_total server)) ∙ ap (λ s. is_eq (server_cmp server s)) same ∙ was.0 in
      cc)

  pub may_still : after ≡ changed server_cmp servers server standing → (other : Server) → MayComeUp servers other → MayComeUp after other
  may_still is other may = record {
    unknown = not_true (is_live_in after other) (λ on. let e : true ≡ false = sym (less_live servers after server standing finds down other on).1 ∙ may.unknown in cc);
    newest = rw (is, greatest_changed servers server other standing) may.newest;
  }

or_false : (a b : Bool) → (a || b) ≡ false → (a ≡ false) × (b ≡ false)
or_false true b e = cc
or_false false b e = (refl, e)

-- a live one of the address has a lesser start code, where none is newer
start_lt : (servers : List (Server × Standing)) (server other : Server) → has_newer_in servers server ≡ false → is_live_in servers other ≡ true → same_address server other ≡ true → other.start < server.start
start_lt [] server other none live there = cc
start_lt (row ∷ servers) server other none live there = elim (cases_Bool (is_eq (server_cmp row.0 other))) [
  | inl on ↦ (let same : row.0 ≡ other = server_cmp-is row.0 other (is_equal (server_cmp row.0 other) on) in
      here (nat_lt other.start server.start) refl (ap (λ b. b && not (nat_lt other.start server.start)) (sym there) ∙ ap (λ (s : Server). same_address server s && not (nat_lt s.start server.start)) (sym same) ∙ parts.0))
  | inr off ↦ start_lt servers server other parts.1 (skip off) there
]
  where
    parts : ((same_address server row.0 && not (nat_lt row.0.start server.start)) ≡ false) × (has_newer_in servers server ≡ false)
    parts = or_false (same_address server row.0 && not (nat_lt row.0.start server.start)) (has_newer_in servers server) none

    skip : is_eq (server_cmp row.0 other) ≡ false → is_live_in servers other ≡ true
    skip off = rw off at live

    here : (b : Bool) → nat_lt other.start server.start ≡ b → not (nat_lt other.start server.start) ≡ false → other.start < server.start
    here true e off = ltb-true other.start server.start e
    here false e off = let on : true ≡ false = ap not (sym e) ∙ off in cc

-- and so the server itself isn't live
pub newest_unknown : (servers : List (Server × Standing)) (server : Server) → has_newer_in servers server ≡ false → is_live_in servers server ≡ false
newest_unknown servers server none = not_true (is_live_in servers server) (λ live.
    let itself : same_address server server ≡ true = address_ties server server ∙ ap is_eq (tied_itself addresses_total server) in
    let lower = start_lt servers server server none live itself in
    omega (arith, lower))

-- none is newer than one that may come up
pub newest_of : (servers : List (Server × Standing)) (server : Server) → greatest_start servers server < server.start → has_newer_in servers server ≡ false
newest_of [] server most = refl
newest_of (row ∷ servers) server most = elim (cases_Bool (same_address server row.0)) [
  | inl on ↦ (let above : max row.0.start (greatest_start servers server) < server.start = rw on at most in
      let low : row.0.start < server.start = omega (arith, above) in
      rw (on, lt-ltb row.0.start server.start low) (newest_of servers server (omega (arith, above))))
  | inr off ↦ rw off (newest_of servers server (rw off at most))
]

module _ (came servers came' after : List (Server × Standing)) (numbers : List ℕ) (server : Server) (standing : Standing) (number : ℕ) (newest : has_newer_in servers server ≡ false) (are : AreServers came servers numbers)
    (put : PutAt number (server, standing) came came') (tied : IfSome (slice_get came number) (λ row. server_cmp row.0 server ≡ Equal))
    (finds : (other : Server) → find server_cmp after other ≡ (if is_eq (server_cmp server other) then Some standing else find server_cmp servers other)) (rising : IsRising server_cmp after) where
  gone_by : (row : Option (Server × Standing)) → IfSome row (λ r. server_cmp r.0 server ≡ Equal) → is_live_key servers (key_if row) ≡ false
  gone_by None ties = refl
  gone_by (Some row) ties = ap (is_live_in servers) (server_cmp-is row.0 server ties) ∙ newest_unknown servers server newest

  keyed : (m : ℕ) → name_of came' m ≡ (if m == number then Some server else name_of came m)
  keyed m = ap key_if (put m) ∙ by (m == number)
    where
      by : (b : Bool) → key_if (if b then Some (server, standing) else slice_get came m) ≡ (if b then Some server else name_of came m)
      by true = refl
      by false = refl

  -- one that is told to be down leaves the live ones as they are
  pub told_down : standing.live ≡ false → AreServers came' after numbers
  told_down down = record {
    rising = rising;
    live = rewanted server_cmp servers_total (name_of came') (is_live_key servers) (is_live_key after) numbers
        (rekeyed server_cmp servers_total (name_of came) (is_live_key servers) numbers (name_of came') number (Some server) are.live (gone_by (slice_get came number) tied) keyed) wanted_still;
    alone = λ a b on on'. are.alone a b (less_live servers after server standing finds down a on).1 (less_live servers after server standing finds down b on').1;
  }
    where
      wanted_still : (key : Option Server) → is_live_key servers key ≡ is_live_key after key
      wanted_still None = refl
      wanted_still (Some other) = elim (cases_Bool (is_eq (server_cmp server other))) [
        | inl on ↦ rw (finds other, on) (ap (is_live_in servers) (sym (server_cmp-is server other (is_equal (server_cmp server other) on))) ∙ newest_unknown servers server newest ∙ sym down)
        | inr off ↦ rw (finds other, off) refl
      ]

  wanted : standing.live ≡ true → (key : Option Server) → (is_eq (cmp_if server_cmp (Some server) key) || is_live_key servers key) ≡ is_live_key after key
  wanted live None = refl
  wanted live (Some other) = elim (cases_Bool (is_eq (server_cmp server other))) [ inl on ↦ rw (finds other, on) (sym live) | inr off ↦ rw (finds other, off) refl ]

  -- a live one is the new one, or was live before and isn't at its address
  live_one : has_older_in servers server ≡ false → (a : Server) → is_live_in after a ≡ true → (server ≡ a) ⊎ ((is_live_in servers a ≡ true) × (same_address server a ≡ false))
  live_one alone a on = elim (cases_Bool (is_eq (server_cmp server a))) [
    | inl ties ↦ inl (server_cmp-is server a (is_equal (server_cmp server a) ties))
    | inr off ↦ (let live : is_live_in servers a ≡ true = ap live_if (sym (finds a ∙ ap (λ b. if b then Some standing else find server_cmp servers a) off)) ∙ on in
        inr (
          live,
          not_true (same_address server a) (λ there.
              let low : a.start < server.start = start_lt servers server a newest live there in
              let any : has_older_in servers server ≡ true = passes (live_servers servers) a (live_there_is servers are.rising a ∙ live) (rw (there, lt-ltb a.start server.start low) refl) in
              let e : true ≡ false = sym any ∙ alone in
              cc),
        ))
  ]
    where
      later : (a b : Bool) → a ≡ false → (a || b) ≡ true → b ≡ true
      later true b off e = cc
      later false b off e = e

      passes : (names : List Server) (one : Server) → has server_cmp names one ≡ true → (same_address server one && nat_lt one.start server.start) ≡ true → list_any (λ other. same_address server other && nat_lt other.start server.start) names ≡ true
      passes [] one there on = cc
      passes (name ∷ names) one there on = elim (cases_Bool (is_eq (server_cmp name one))) [
        | inl ties ↦ (let same : name ≡ one = server_cmp-is name one (is_equal (server_cmp name one) ties) in
            rw (ap (λ (s : Server). same_address server s && nat_lt s.start server.start) same ∙ on) refl)
        | inr off ↦ or_there (same_address server name && nat_lt name.start server.start) (list_any (λ other. same_address server other && nat_lt other.start server.start) names) (passes names one (later (is_eq (server_cmp name one)) (has server_cmp names one) off there) on)
      ]

  -- one that is live goes among them at its gap
  pub told_live : (at : ℕ) → standing.live ≡ true → has_older_in servers server ≡ false → HasGap (cmp_if server_cmp) (map (name_of came) numbers) (Some server) at → AreServers came' after (insert numbers at number)
  told_live at live alone gap = record {
    rising = rising;
    live = rewanted server_cmp servers_total (name_of came') (λ other. is_eq (cmp_if server_cmp (Some server) other) || is_live_key servers other) (is_live_key after) (insert numbers at number)
        (added server_cmp servers_total (name_of came) (is_live_key servers) numbers (name_of came') number server at are.live (gone_by (slice_get came number) tied) keyed gap) (wanted live);
    alone = λ a b on on' there. both a b there (live_one alone a on) (live_one alone b on');
  }
    where
      both : (a b : Server) → same_address a b ≡ true → (server ≡ a) ⊎ ((is_live_in servers a ≡ true) × (same_address server a ≡ false)) → (server ≡ b) ⊎ ((is_live_in servers b ≡ true) × (same_address server b ≡ false)) → a ≡ b
      both a b there (inl one) (inl other) = sym one ∙ other
      both a b there (inl one) (inr other) = let e : true ≡ false = sym there ∙ ap (λ s. same_address s b) (sym one) ∙ other.1 in cc
      both a b there (inr one) (inl other) = let e : true ≡ false = sym (address_back a b there) ∙ ap (λ s. same_address s a) (sym other) ∙ one.1 in cc
      both a b there (inr one) (inr other) = are.alone a b one.0 other.0 there

-- what is picked where the first list has nothing
pub none_lowest : (load : Server → ℕ) (some others : List Server) → None ≡ lowest load some → or_else some others ≡ others
none_lowest load [] others none = refl
none_lowest load (server ∷ some) others none = cc

pub without_none : (servers : List Server) → without None servers ≡ servers
without_none [] = refl
without_none (server ∷ servers) = ap (λ l. server ∷ l) (without_none servers)
