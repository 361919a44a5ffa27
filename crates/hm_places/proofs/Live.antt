-- The numbers of the live servers.
use Rattle.std.proofs.Common.{◌≡◌, ℕ, arith, length, List, [], ◌∷◌, map, Option, Some, None, true, false, not, ◌&&◌, ◌||◌, ◌==◌, slice_get, refl, inl, inr, ap, sym, ◌∙◌}
use Rattle.std.specs.List.{remove, filter_map, cons_option}
use Rattle.std.specs.Ordering.{is_eq}
use Rattle.std.specs.declared.cmp.Ordering.TheVariants.{Less}
use Rattle.std.proofs.lemmas.Bool.{cases_Bool, eq-eqb, ne_eqb}
use Rattle.hm_names.specs.Order.{server_cmp}
use Rattle.hm_names.specs.Server.{Server}
use Rattle.hm_index.specs.Index.{IsRising, find, key_if}
use Rattle.hm_places.specs.Chosen.{cmp_if, IsBelow, Rises, has, HasGap, HasAt}
use Rattle.hm_places.specs.Servers.{has_live_in, name_of, is_live_key, is_live_but, AreLive, AreLiveBut}
use Rattle.hm_model.specs.declared.standing.Standing.{Standing}
use Rattle.hm_model.proofs.NameTies.{servers_total, server_cmp-is}
use Rattle.hm_model.specs.Standings.{is_live_in, live_if, live_servers}
use Rattle.hm_places.proofs.NameOrder.{total_if}
use Rattle.hm_places.proofs.Sorted.{is_equal, gap-has, unique}
use Rattle.hm_places.proofs.Kept.{test_if, kept_rise, kept_has}
use Rattle.hm_places.proofs.Choice.{rewanted, taken}

-- the servers with some numbers
abbrev pub live_names : List (Server × Standing) → List ℕ → List Server
live_names came numbers = filter_map (λ number. key_if (slice_get came number)) numbers

named_below : (f : ℕ → Option Server) (server : Server) (ns : List ℕ) → IsBelow (cmp_if server_cmp) (Some server) (map f ns) → IsBelow server_cmp server (filter_map f ns)
named_below f server [] all = tt
named_below f server (n ∷ ns) all = by (f n) all.0 (named_below f server ns all.1)
  where
    by : (key : Option Server) → cmp_if server_cmp (Some server) key ≡ Less → IsBelow server_cmp server (filter_map f ns) → IsBelow server_cmp server (cons_option key (filter_map f ns))
    by None e more = more
    by (Some other) e more = (e, more)

named_rise : (f : ℕ → Option Server) (ns : List ℕ) → Rises (cmp_if server_cmp) (map f ns) → Rises server_cmp (filter_map f ns)
named_rise f [] rise = tt
named_rise f (n ∷ ns) rise = by (f n) rise.0 (named_rise f ns rise.1)
  where
    by : (key : Option Server) → IsBelow (cmp_if server_cmp) key (map f ns) → Rises server_cmp (filter_map f ns) → Rises server_cmp (cons_option key (filter_map f ns))
    by None all more = more
    by (Some server) all more = (named_below f server ns all, more)

named_has : (f : ℕ → Option Server) (ns : List ℕ) (server : Server) → has server_cmp (filter_map f ns) server ≡ has (cmp_if server_cmp) (map f ns) (Some server)
named_has f [] server = refl
named_has f (n ∷ ns) server = by (f n) (named_has f ns server)
  where
    by : (key : Option Server) → has server_cmp (filter_map f ns) server ≡ has (cmp_if server_cmp) (map f ns) (Some server)
        → has server_cmp (cons_option key (filter_map f ns)) server ≡ (is_eq (cmp_if server_cmp key (Some server)) || has (cmp_if server_cmp) (map f ns) (Some server))
    by None more = more
    by (Some other) more = ap (λ b. is_eq (server_cmp other server) || b) more

pub test_live : (standing : Option Standing) → live_if standing ≡ test_if (λ (s : Standing). s.live) standing
test_live None = refl
test_live (Some standing) = refl

-- the servers with the numbers that are kept are the live ones
pub live_are : (came servers : List (Server × Standing)) (numbers : List ℕ) → AreLive came servers numbers → IsRising server_cmp servers → live_names came numbers ≡ live_servers servers
live_are came servers numbers live rising =
    unique server_cmp servers_total server_cmp-is (live_names came numbers) (live_servers servers) (named_rise (name_of came) numbers live.rises) (kept_rise server_cmp servers_total (λ (s : Standing). s.live) servers rising)
    (λ server. named_has (name_of came) numbers server ∙ live.are (Some server) ∙ test_live (find server_cmp servers server) ∙ sym (kept_has server_cmp servers_total (λ (s : Standing). s.live) servers rising server))

-- a number is of a server, so that where there is a number one is live
named_one : (f : ℕ → Option Server) (n : ℕ) (ns : List ℕ) → has (cmp_if server_cmp) (map f (n ∷ ns)) None ≡ false → filter_map f (n ∷ ns) ≡ [] → ⊥
named_one f n ns none = by (f n) none
  where
    by : (name : Option Server) → (is_eq (cmp_if server_cmp name None) || has (cmp_if server_cmp) (map f ns) None) ≡ false → cons_option name (filter_map f ns) ≡ [] → ⊥
    by None none empty = cc
    by (Some server) none empty = cc

some_kept : (servers : List (Server × Standing)) → (live_servers servers ≡ [] → ⊥) → has_live_in servers ≡ true
some_kept [] there = absurd (there refl)
some_kept (row ∷ servers) there = elim (cases_Bool (let standing = row.1 in standing.live)) [
  | inl on ↦ rw on refl
  | inr off ↦ rw off (some_kept servers (rw off at there))
]

none_kept : (servers : List (Server × Standing)) → live_servers servers ≡ [] → has_live_in servers ≡ false
none_kept [] empty = refl
none_kept (row ∷ servers) empty = elim (cases_Bool (let standing = row.1 in standing.live)) [
  | inl on ↦ (let e = rw on at empty in cc)
  | inr off ↦ rw off (none_kept servers (rw off at empty))
]

-- one is live where there is a number
pub any_number : (came servers : List (Server × Standing)) (numbers : List ℕ) → AreLive came servers numbers → IsRising server_cmp servers → (count : ℕ) → count ≡ length numbers → not (count == 0) ≡ has_live_in servers
any_number came servers numbers live rising count counted = by numbers refl
  where
    are : live_names came numbers ≡ live_servers servers
    are = live_are came servers numbers live rising

    by : (ns : List ℕ) → numbers ≡ ns → not (count == 0) ≡ has_live_in servers
    by [] is = ap not (eq-eqb count 0 (counted ∙ ap length is)) ∙ sym (none_kept servers (sym are ∙ ap (live_names came) is))
    by (n ∷ ns) is =
        let more : length numbers ≡ length (n ∷ ns) = ap length is in
        ap not (ne_eqb count 0 (λ none. let e = counted ∙ more in omega (arith, none, e)))
        ∙ sym (some_kept servers (λ gone. named_one (name_of came) n ns (ap (λ l. has (cmp_if server_cmp) (map (name_of came) l) None) (sym is) ∙ live.are None) (ap (live_names came) (sym is) ∙ are ∙ gone)))

module _ (came servers : List (Server × Standing)) (numbers : List ℕ) (live : AreLive came servers numbers) where
  -- a server taken out
  pub let_go-found : (server : Server) (at : ℕ) → HasAt (cmp_if server_cmp) (map (name_of came) numbers) (Some server) at → AreLiveBut server came servers (remove numbers at)
  let_go-found server at there =
      rewanted server_cmp servers_total (name_of came) (λ other. not (is_eq (cmp_if server_cmp (Some server) other)) && is_live_key servers other) (is_live_but server servers) (remove numbers at)
      (taken server_cmp servers_total (name_of came) (is_live_key servers) numbers server at live there) same
    where
      same : (key : Option Server) → (not (is_eq (cmp_if server_cmp (Some server) key)) && is_live_key servers key) ≡ is_live_but server servers key
      same None = refl
      same (Some other) = refl

  -- a server that wasn't there
  pub let_go-absent : (server : Server) (at : ℕ) → HasGap (cmp_if server_cmp) (map (name_of came) numbers) (Some server) at → AreLiveBut server came servers numbers
  let_go-absent server at gap = rewanted server_cmp servers_total (name_of came) (is_live_key servers) (is_live_but server servers) numbers live same
    where
      gone : is_live_in servers server ≡ false
      gone = sym (live.are (Some server)) ∙ gap-has (cmp_if server_cmp) (total_if server_cmp servers_total) (Some server) (map (name_of came) numbers) at gap

      same : (key : Option Server) → is_live_key servers key ≡ is_live_but server servers key
      same None = refl
      same (Some other) = elim (cases_Bool (is_eq (server_cmp server other))) [
        | inl on ↦ rw on (ap (is_live_in servers) (sym (server_cmp-is server other (is_equal (server_cmp server other) on))) ∙ gone)
        | inr off ↦ rw off refl
      ]
