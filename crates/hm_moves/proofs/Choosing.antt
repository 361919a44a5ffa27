-- Servers with loads, and the moves that are chosen for shifts.
use Rattle.std.proofs.Common.{◌≡◌, ◌<◌, ◌≤◌, ◌+◌, ℕ, zero, suc, List, [], ◌∷◌, ◌++◌, length, map, get_or, set, slice_get, Option, Some, None, Result, Ok, Err, Bool, true, false, refl, sym, ap, ◌∙◌, subst, inl, inr, append_assoc, length-append, slice_index_or, arith}
use Rattle.std.specs.List.{filter}
use Rattle.std.specs.List.Sorted.{IsBinarySearchResult, IsNonDecreasingBy}
use Rattle.std.specs.Ordering.{ordering_index}
use Rattle.std.specs.declared.cmp.Ordering.{Ordering}
use Rattle.std.specs.declared.cmp.Ordering.TheVariants.{Less, Equal, Greater}
use Rattle.std.proofs.lemmas.Bool.{cases_Bool, cases_lt}
use Rattle.std.proofs.lemmas.Cmp.{alike_right, tied_itself}
use Rattle.std.proofs.lemmas.Option.{none-some}
use Rattle.hm_names.specs.Order.{server_cmp}
use Rattle.hm_names.specs.Region.{Region}
use Rattle.hm_names.specs.Server.{Server}
use Rattle.hm_balance.specs.Loads.{AreAmong, IsNamed, Loads, NamesDiffer, given, one_if, same_name, sum_over}
use Rattle.hm_balance.specs.declared.shift.Shift.{Shift}
use Rattle.hm_balance.proofs.Sums.{name_is, self_name, sum_over-append}
use Rattle.hm_model.proofs.NameTies.{server_cmp-is, servers_total}
use Rattle.hm_places.specs.Chosen.{IsBelow, Rises}
use Rattle.hm_places.specs.Laws.{PlacesTell}
use Rattle.hm_model.specs.declared.standing.Standing.{Standing}
use Rattle.hm_data.specs.declared.place.Place.{Place}
use Rattle.hm_data.specs.declared.place.RegionState.TheVariants as place_is
use Rattle.hm_index.specs.Index.{IsRising}
use Rattle.hm_model.specs.Fleet.{is_live, servers_of}
use Rattle.hm_model.specs.Journal.{Past}
use Rattle.hm_model.specs.Loads.{places_of}
use Rattle.hm_model.specs.Places.{at_server, place_of}
use Rattle.hm_model.specs.Standings.{live_servers, standing_of, standings_of}
use Rattle.hm_model.specs.TransitActs.{is_state}
use Rattle.hm_moves.specs.Planned.{chosen, loads_of, move_if, opened_on}
use Rattle.hm_moves.specs.Opened.{AreOpened, opened_at, region_in}
use Rattle.hm_moves.specs.declared.moving.Move.{Move}

abbrev pub names : Loads → List Server
names loads = map (λ load. load.0) loads

-- a server that is named stands somewhere
named_at : (server : Server) (loads : Loads) → IsNamed server loads → (k : ℕ) × (k < length loads) × ((d : Server × ℕ) → (get_or loads k d).0 ≡ server)
named_at server [] named = absurd named
named_at server (load ∷ loads) (inl same) = (0, omega arith, λ d. sym same)
named_at server (load ∷ loads) (inr more) = let rest = named_at server loads more in let within = rest.1 in (suc rest.0, omega (arith, within), rest.2)

below_get : (a : Server) (loads : Loads) (j : ℕ) (d : Server × ℕ) → IsBelow server_cmp a (names loads) → j < length loads → server_cmp a (get_or loads j d).0 ≡ Less
below_get a [] j d all lt = absurd (omega arith)
below_get a (load ∷ loads) zero d all lt = all.0
below_get a (load ∷ loads) (suc j) d all lt = below_get a loads j d all.1 (omega arith)

-- the lesser of two servers stands no higher against any third
lowers : (a b key : Server) → server_cmp a b ≡ Less → ordering_index (server_cmp a key) ≤ ordering_index (server_cmp b key)
lowers a b key less = by (server_cmp b key) refl
  where
    high : (o : Ordering) → ordering_index o ≤ 2
    high Less = omega arith
    high Equal = omega arith
    high Greater = omega arith

    by : (o : Ordering) → server_cmp b key ≡ o → ordering_index (server_cmp a key) ≤ ordering_index o
    by Less e = rw (servers_total.trans a b key less e) (omega arith)
    by Equal e = rw (sym (alike_right servers_total b key a e) ∙ less) (omega arith)
    by Greater e = high (server_cmp a key)

-- servers whose names rise don't fall against any
not_falling : (server : Server) (loads : Loads) → Rises server_cmp (names loads) → IsNonDecreasingBy (λ load. ordering_index (server_cmp load.0 server)) loads
not_falling server [] rise i j d le lt = absurd (omega arith)
not_falling server (load ∷ loads) rise zero zero d le lt = omega arith
not_falling server (load ∷ loads) rise zero (suc j) d le lt = lowers load.0 (get_or loads j d).0 server (below_get load.0 loads j d rise.0 (omega arith))
not_falling server (load ∷ loads) rise (suc i) zero d le lt = absurd (omega arith)
not_falling server (load ∷ loads) rise (suc i) (suc j) d le lt = not_falling server loads rise.1 i j d (omega arith) (omega arith)

-- so a search finds one that is named
pub no_gap : (server : Server) (loads : Loads) (at : ℕ) → Rises server_cmp (names loads) → IsNamed server loads → IsBinarySearchResult (λ load. server_cmp load.0 server) loads (Err at) → ⊥
no_gap server loads at rise named split =
    let there = named_at server loads named in
    let parts = split (not_falling server loads rise) in
    let d : Server × ℕ = (server, 0) in
    let within = there.1 in
    let ties : server_cmp (get_or loads there.0 d).0 server ≡ Equal = ap (λ s. server_cmp s server) (there.2 d) ∙ tied_itself servers_total server in
    elim (cases_lt there.0 at) [
      | inl lt ↦ (let less : server_cmp (get_or loads there.0 d).0 server ≡ Less = parts.0 there.0 d (omega arith) lt in cc)
      | inr ge ↦ (let greater : server_cmp (get_or loads there.0 d).0 server ≡ Greater = parts.1 there.0 d ge within in cc)
    ]

pub found_at : (server : Server) (loads : Loads) (at : ℕ) → at < length loads → ((d : Server × ℕ) → server_cmp (get_or loads at d).0 server ≡ Equal) → slice_get (names loads) at ≡ Some server
found_at server [] at lt ties = absurd (omega arith)
found_at server (load ∷ loads) zero lt ties = ap Some (server_cmp-is load.0 server (ties load))
found_at server (load ∷ loads) (suc at) lt ties = found_at server loads at (omega arith) ties

-- the names of live servers rise
live_below : (key : Server) (rows : List (Server × Standing)) → ((j : ℕ) (b : Server × Standing) → slice_get rows j ≡ Some b → server_cmp key b.0 ≡ Less) → IsBelow server_cmp key (live_servers rows)
live_below key [] each = tt
live_below key (row ∷ rows) each = elim (cases_Bool row.1.live) [
  | inl on ↦ rw on (each zero row refl, live_below key rows (λ j b there. each (suc j) b there))
  | inr off ↦ rw off (live_below key rows (λ j b there. each (suc j) b there))
]

pub live_rise : (rows : List (Server × Standing)) → IsRising server_cmp rows → Rises server_cmp (live_servers rows)
live_rise [] rising = tt
live_rise (row ∷ rows) rising =
    let more = live_rise rows (λ i j a b lt one two. rising (suc i) (suc j) a b (omega arith) one two) in
    let first = live_below row.0 rows (λ j b there. rising zero (suc j) row b (omega arith) refl there) in
    elim (cases_Bool row.1.live) [ inl on ↦ rw on (first, more) | inr off ↦ rw off more ]

-- and those that rise differ
not_below : (a : Server) (loads : Loads) → IsBelow server_cmp a (names loads) → IsNamed a loads → ⊥
not_below a [] all named = absurd named
not_below a (load ∷ loads) all (inl same) = let ties : server_cmp a load.0 ≡ Equal = ap (λ s. server_cmp a s) (sym same) ∙ tied_itself servers_total a in let less = all.0 in cc
not_below a (load ∷ loads) all (inr more) = not_below a loads all.1 more

pub names_differ : (loads : Loads) → Rises server_cmp (names loads) → NamesDiffer loads
names_differ [] rise = tt
names_differ (load ∷ loads) rise = (not_below load.0 loads rise.0, names_differ loads rise.1)

pub names_are : (opened : Server → List Region) (servers : List Server) → names (loads_of opened servers) ≡ servers
names_are opened [] = refl
names_are opened (server ∷ servers) = ap (λ l. server ∷ l) (names_are opened servers)

-- a server that is below another isn't it
apart : (a b : Server) → server_cmp a b ≡ Less → same_name a b ≡ false
apart a b less = elim (cases_Bool (same_name a b)) [
  | inl on ↦ (let ties : server_cmp a b ≡ Equal = ap (λ s. server_cmp s b) (name_is a b on) ∙ tied_itself servers_total b in cc)
  | inr off ↦ off
]

apart_back : (a b : Server) → server_cmp a b ≡ Less → same_name b a ≡ false
apart_back a b less = elim (cases_Bool (same_name b a)) [
  | inl on ↦ (let ties : server_cmp a b ≡ Equal = ap (λ s. server_cmp a s) (name_is b a on) ∙ tied_itself servers_total a in cc)
  | inr off ↦ off
]

below_at : (a : Server) (servers : List Server) (at : ℕ) (server : Server) → IsBelow server_cmp a servers → slice_get servers at ≡ Some server → server_cmp a server ≡ Less
below_at a [] at server all there = absurd (none-some server there)
below_at a (first ∷ servers) zero server all there = let same : first ≡ server = cc in subst (λ s. server_cmp a s ≡ Less) same all.0
below_at a (first ∷ servers) (suc at) server all there = below_at a servers at server all.1 there

-- a count for each server, with one more for one of them
module _ (from : Server) (f g : Server → ℕ) (more : (s : Server) → g s ≡ f s + one_if (same_name s from)) where
  same_count : (s : Server) → same_name s from ≡ false → f s ≡ g s
  same_count s off = let e : one_if (same_name s from) ≡ 0 = ap one_if off in let m = more s in omega (arith, e, m)

  others : (servers : List Server) → IsBelow server_cmp from servers → map f servers ≡ map g servers
  others [] all = refl
  others (s ∷ servers) all = ap (λ n. n ∷ map f servers) (same_count s (apart_back from s all.0)) ∙ ap (λ l. g s ∷ l) (others servers all.1)

  pub counts_more : (servers : List Server) (at : ℕ) → Rises server_cmp servers → slice_get servers at ≡ Some from → set (map f servers) at (f from + 1) ≡ map g servers
  counts_more [] at rise there = absurd (none-some from there)
  counts_more (s ∷ servers) zero rise there =
      let same : s ≡ from = cc in
      let here : f from + 1 ≡ g s = (let one : one_if (same_name s from) ≡ 1 = ap (λ x. one_if (same_name s x)) (sym same) ∙ ap one_if (self_name s) in let m = more s in let e : f s ≡ f from = ap f same in omega (arith, one, m, e)) in
      ap (λ n. n ∷ map f servers) here ∙ ap (λ l. g s ∷ l) (others servers (subst (λ x. IsBelow server_cmp x servers) same rise.0))
  counts_more (s ∷ servers) (suc at) rise there =
      ap (λ n. n ∷ set (map f servers) at (f from + 1)) (same_count s (apart s from (below_at s servers at from rise.0 there))) ∙ ap (λ l. g s ∷ l) (counts_more servers at rise.1 there)

-- the count of a server
pub count_at : (f : Server → ℕ) (servers : List Server) (at d : ℕ) (server : Server) → slice_get servers at ≡ Some server → get_or (map f servers) at d ≡ f server
count_at f [] at d server there = absurd (none-some server there)
count_at f (s ∷ servers) zero d server there = let same : s ≡ server = cc in ap f same
count_at f (s ∷ servers) (suc at) d server there = count_at f servers at d server there

-- one shift more from a server
pub given_more : (server : Server) (earlier : List Shift) (shift : Shift) → given server (earlier ++ shift ∷ []) ≡ given server earlier + one_if (same_name server shift.from)
given_more server earlier shift = let all = sum_over-append (λ (s : Shift). one_if (same_name server s.from)) earlier (shift ∷ []) in omega (arith, all)

one_at_most : (b : Bool) → one_if b ≤ 1
one_at_most true = omega arith
one_at_most false = omega arith

pub given_small : (server : Server) (shifts : List Shift) → given server shifts ≤ length shifts
given_small server [] = omega arith
given_small server (shift ∷ shifts) = let rest = given_small server shifts in let here = one_at_most (same_name server shift.from) in omega (arith, rest, here)

pub among_named : (loads : Loads) (earlier : List Shift) (shift : Shift) (later : List Shift) → AreAmong loads (earlier ++ shift ∷ later) → IsNamed shift.from loads
among_named loads [] shift later among = among.0
among_named loads (first ∷ earlier) shift later among = among_named loads earlier shift later among.2

-- the regions of a server by its place
opened_there : (opened : Server → List Region) (servers : List Server) (at : ℕ) (server : Server) → slice_get servers at ≡ Some server → slice_index_or (map opened servers) at [] ≡ opened server
opened_there opened [] at server there = absurd (none-some server there)
opened_there opened (s ∷ servers) zero server there = let same : s ≡ server = cc in ap opened same
opened_there opened (s ∷ servers) (suc at) server there = opened_there opened servers at server there

module _ (opened : Server → List Region) (servers : List Server) (loads : Loads) (regions : List (List Region)) (are : AreOpened opened servers loads regions) where
  pub named : names loads ≡ servers
  named = ap names are.loaded ∙ names_are opened servers

  -- the region that a shift moves
  pub region_is : (at number : ℕ) (server : Server) → slice_get (names loads) at ≡ Some server → region_in regions at number ≡ slice_get (opened server) number
  region_is at number server there =
      ap (λ l. slice_get (slice_index_or l at []) number) are.listed
      ∙ ap (λ l. slice_get l number) (opened_there opened servers at server (ap (λ l. slice_get l at) (sym named) ∙ there))

-- one move more, if there is one
pub chosen_more : (opened : Server → List Region) (earlier : List Shift) (shift : Shift) (rest : List Shift) (moves : List Move) (region : Option Region) → region ≡ slice_get (opened shift.from) (given shift.from earlier)
    → (moves ++ move_if region shift) ++ chosen opened (earlier ++ shift ∷ []) rest ≡ moves ++ chosen opened earlier (shift ∷ rest)
chosen_more opened earlier shift rest moves region is =
    append_assoc moves (move_if region shift) (chosen opened (earlier ++ shift ∷ []) rest) ∙ ap (λ r. moves ++ (move_if r shift ++ chosen opened (earlier ++ shift ∷ []) rest)) is

-- regions that pass tests which agree
filter_alike : (p q : Region → Bool) → ((region : Region) → p region ≡ q region) → (regions : List Region) → filter p regions ≡ filter q regions
filter_alike p q same [] = refl
filter_alike p q same (region ∷ regions) = elim (cases_Bool (p region)) [
  | inl on ↦ rw (on, sym (same region) ∙ on) (ap (λ l. region ∷ l) (filter_alike p q same regions))
  | inr off ↦ rw (off, sym (same region) ∙ off) (filter_alike p q same regions)
]

pub opened_is : PlacesTell → (J : Past) (server : Server) → opened_at (places_of J) server ≡ opened_on J server
opened_is tell J server =
    filter_alike _ _ (λ region. ap (is_state place_is.Opened) ((tell J).0 region)) _ ∙ ap (λ l. filter (λ region. is_state place_is.Opened (place_of J region)) l) ((tell J).1 server)

pub live_is : (J : Past) (servers : List Server) → live_servers (map (λ server. (server, standing_of J server)) servers) ≡ filter (is_live J) servers
live_is J [] = refl
live_is J (server ∷ servers) = elim (cases_Bool (is_live J server)) [
  | inl on ↦ rw on (ap (λ l. server ∷ l) (live_is J servers))
  | inr off ↦ rw off (live_is J servers)
]

loads_alike : (f g : Server → List Region) → ((server : Server) → f server ≡ g server) → (servers : List Server) → loads_of f servers ≡ loads_of g servers
loads_alike f g same [] = refl
loads_alike f g same (server ∷ servers) = ap (λ n. (server, length n) ∷ loads_of f servers) (same server) ∙ ap (λ l. (server, length (g server)) ∷ l) (loads_alike f g same servers)

map_alike : (f g : Server → List Region) → ((server : Server) → f server ≡ g server) → (servers : List Server) → map f servers ≡ map g servers
map_alike f g same [] = refl
map_alike f g same (server ∷ servers) = ap (λ n. n ∷ map f servers) (same server) ∙ ap (λ l. g server ∷ l) (map_alike f g same servers)

-- what is open by the places and servers of a journal
opened_in : PlacesTell → (J : Past) (loads : Loads) (regions : List (List Region)) → AreOpened (opened_at (places_of J)) (live_servers (standings_of J)) loads regions
    → AreOpened (opened_on J) (filter (is_live J) (servers_of J)) loads regions
opened_in tell J loads regions are =
    let live = live_is J (servers_of J) in
    record {
      loaded = are.loaded ∙ ap (loads_of (opened_at (places_of J))) live ∙ loads_alike _ _ (opened_is tell J) _;
      listed = are.listed ∙ ap (map (opened_at (places_of J))) live ∙ map_alike _ _ (opened_is tell J) _;
    }

pub opened_by : PlacesTell → (J : Past) (places : List (Region × Place)) (servers : List (Server × Standing)) (loads : Loads) (regions : List (List Region)) → places ≡ places_of J → servers ≡ standings_of J
    → AreOpened (opened_at places) (live_servers servers) loads regions → AreOpened (opened_on J) (filter (is_live J) (servers_of J)) loads regions
opened_by tell J places servers loads regions place stand are =
    opened_in tell J loads regions
    (subst (λ (s : List (Server × Standing)). AreOpened (opened_at (places_of J)) (live_servers s) loads regions) stand
    (subst (λ (p : List (Region × Place)). AreOpened (opened_at p) (live_servers servers) loads regions) place are))

-- the names of those with loads rise
pub names_rise : (opened : Server → List Region) (rows : List (Server × Standing)) (loads : Loads) (regions : List (List Region)) → IsRising server_cmp rows → AreOpened opened (live_servers rows) loads regions → Rises server_cmp (names loads)
names_rise opened rows loads regions rising are = subst (Rises server_cmp) (sym (named opened (live_servers rows) loads regions are)) (live_rise rows rising)

-- nothing was shifted at first
pub no_counts : (loads : Loads) → map (λ load. 0) loads ≡ map (λ server. given server []) (names loads)
no_counts [] = refl
no_counts (load ∷ loads) = ap (λ l. 0 ∷ l) (no_counts loads)

module _ (loads : Loads) (earlier : List Shift) (next : List ℕ) (at number : ℕ) (counts : next ≡ map (λ server. given server earlier) (names loads)) where
  -- how many regions of a server were shifted
  pub count_read : (from : Server) → slice_get (names loads) at ≡ Some from → number ≡ get_or next at number → number ≡ given from earlier
  count_read from found read = read ∙ ap (λ l. get_or l at number) counts ∙ count_at (λ server. given server earlier) (names loads) at number from found

  pub counts_next : (shift : Shift) → Rises server_cmp (names loads) → slice_get (names loads) at ≡ Some shift.from → number ≡ given shift.from earlier
      → set next at (number + 1) ≡ map (λ server. given server (earlier ++ shift ∷ [])) (names loads)
  counts_next shift rise found is =
      ap (λ n. set next at (n + 1)) is ∙ ap (λ l. set l at (given shift.from earlier + 1)) counts
      ∙ counts_more shift.from (λ server. given server earlier) (λ server. given server (earlier ++ shift ∷ [])) (λ server. given_more server earlier shift) (names loads) at rise found

  -- it fits its number
  pub count_small : (from : Server) (shift : Shift) (rest shifts : List Shift) → number ≡ given from earlier → earlier ++ shift ∷ rest ≡ shifts → number + 1 ≤ length shifts
  count_small from shift rest shifts is parts =
      let small = given_small from earlier in
      let all = ap length parts in
      let long = length-append earlier (shift ∷ rest) in
      omega (arith, small, all, long, is)

-- the moves after one shift more
pub moves_more : (opened : Server → List Region) (servers : List Server) (loads : Loads) (regions : List (List Region)) → AreOpened opened servers loads regions
    → (earlier : List Shift) (shift : Shift) (rest : List Shift) (moves new all : List Move) (at number : ℕ) (region : Option Region)
    → slice_get (names loads) at ≡ Some shift.from → number ≡ given shift.from earlier → region ≡ region_in regions at number → new ≡ moves ++ move_if region shift
    → moves ++ chosen opened earlier (shift ∷ rest) ≡ all → new ++ chosen opened (earlier ++ shift ∷ []) rest ≡ all
moves_more opened servers loads regions are earlier shift rest moves new all at number region found is read pushed so_far =
    ap (λ l. l ++ chosen opened (earlier ++ shift ∷ []) rest) pushed
    ∙ chosen_more opened earlier shift rest moves region (read ∙ region_is opened servers loads regions are at number shift.from found ∙ ap (λ n. slice_get (opened shift.from) n) is)
    ∙ so_far
