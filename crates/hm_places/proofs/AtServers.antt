-- The numbers of the regions at servers.
use Rattle.std.proofs.Common.{◌≡◌, ℕ, zero, suc, ◌-◌, ◌≤◌, List, [], ◌∷◌, map, length, take, drop, min, Option, Some, None, IfSome, Bool, true, false, not, ◌&&◌, ◌||◌, ◌==◌, if◌then◌else◌, slice_get, refl, inl, inr, arith, ap, sym, ◌∙◌}
use Rattle.std.specs.List.{insert, remove, filter, cons_option}
use Rattle.std.specs.Ordering.{is_eq, ordering_then}
use Rattle.std.specs.declared.cmp.Ordering.{Ordering}
use Rattle.std.specs.declared.cmp.Ordering.TheVariants.{Less, Equal, Greater}
use Rattle.std.proofs.lemmas.Bool.{cases_Bool}
use Rattle.std.proofs.lemmas.Cmp.{tied_itself, tied_back}
use Rattle.hm_names.specs.Order.{region_cmp, server_cmp}
use Rattle.hm_names.specs.Region.{Region}
use Rattle.hm_names.specs.Server.{Server}
use Rattle.hm_data.specs.declared.place.Place.{Place}
use Rattle.hm_index.specs.Index.{IsRising, find, key_if, PutAt}
use Rattle.hm_model.specs.Fleet.{same_server}
use Rattle.hm_model.specs.Loads.{regions_at}
use Rattle.hm_model.specs.Places.{is_at, is_the_server}
use Rattle.hm_model.specs.TransitActs.{is_placed}
use Rattle.hm_model.proofs.KeyTests.{region_cmp-is}
use Rattle.hm_places.specs.Chosen.{cmp_if, HasGap, HasAt, with_spot}
use Rattle.hm_places.specs.Places.{held_cmp, held_at, held_by, key_of, holder, is_at_if, is_held, is_held_but, names_of, HaveNames, side, AreHeld, AreHeldBut, IsSpotFor}
use Rattle.hm_model.proofs.NameTies.{regions_total, servers_total}
use Rattle.hm_places.proofs.NameOrder.{held_total, server_ties_back, total_if}
use Rattle.hm_places.proofs.Sorted.{is_equal, at-has, gap-has, unique}
use Rattle.hm_places.proofs.Kept.{test_if, kept_rise, kept_has}
use Rattle.hm_places.proofs.Runs.{names_rise, names_has, names_count}
use Rattle.hm_places.proofs.Choice.{rewanted, taken, rekeyed, added}

-- a place that is at no server
pub held_nowhere : (place : Place) → holder place ≡ None → (server : Server) → is_at server place ≡ false
held_nowhere place none server = by (is_placed place) place.server none
  where
    by : (placed : Bool) (there : Option Server) → (if placed then there else None) ≡ None → (placed && is_the_server server there) ≡ false
    by true None e = refl
    by true (Some other) e = cc
    by false there e = refl

-- one that is at a server
pub held_there : (place : Place) (at : Server) → holder place ≡ Some at → (server : Server) → is_at server place ≡ same_server server at
held_there place at is server = by (is_placed place) place.server is
  where
    by : (placed : Bool) (there : Option Server) → (if placed then there else None) ≡ Some at → (placed && is_the_server server there) ≡ same_server server at
    by true None e = cc
    by true (Some other) e = let same : other ≡ at = cc in ap (same_server server) same
    by false there e = cc

pub held_server : (place : Place) (at : Server) → holder place ≡ Some at → place.server ≡ Some at
held_server place at is = by (is_placed place) place.server is
  where
    by : (placed : Bool) (there : Option Server) → (if placed then there else None) ≡ Some at → there ≡ Some at
    by true there e = e
    by false there e = cc

-- a tie of the second parts decides where that of the first is not known
then_apart : (o p : Ordering) → is_eq p ≡ false → is_eq (ordering_then o p) ≡ false
then_apart Less p off = refl
then_apart Equal p off = off
then_apart Greater p off = refl

then_tied : (o p : Ordering) → p ≡ Equal → is_eq (ordering_then o p) ≡ is_eq o
then_tied Less p on = refl
then_tied Equal p on = ap is_eq on
then_tied Greater p on = refl

not_twice : (b : Bool) → (not b && b) ≡ false
not_twice true = refl
not_twice false = refl

or_false : (b : Bool) → (b || false) ≡ b
or_false true = refl
or_false false = refl

module _ (came places : List (Region × Place)) (numbers : List ℕ) where
  -- a region that was held nowhere
  pub let_go-none : (region : Region) → AreHeld came places numbers → ((server : Server) → is_at_if server (find region_cmp places region) ≡ false) → AreHeldBut region came places numbers
  let_go-none region held none = rewanted held_cmp held_total (key_of came) (is_held places) (is_held_but region places) numbers held same
    where
      same : (key : Option (Server × Region)) → is_held places key ≡ is_held_but region places key
      same None = refl
      same (Some other) = elim (cases_Bool (is_eq (region_cmp region other.1))) [
        | inl on ↦ rw on (ap (λ r. is_at_if other.0 (find region_cmp places r)) (sym (region_cmp-is region other.1 (is_equal (region_cmp region other.1) on))) ∙ none other.0)
        | inr off ↦ rw off refl
      ]

  -- a region that was held at a server
  pub let_go-held : (region : Region) (place : Place) (server : Server) (at : ℕ) → AreHeld came places numbers → find region_cmp places region ≡ Some place → holder place ≡ Some server
      → HasAt (cmp_if held_cmp) (map (key_of came) numbers) (Some (server, region)) at → AreHeldBut region came places (remove numbers at)
  let_go-held region place server at held is there found =
      rewanted held_cmp held_total (key_of came) (λ other. not (is_eq (cmp_if held_cmp (Some (server, region)) other)) && is_held places other) (is_held_but region places) (remove numbers at)
      (taken held_cmp held_total (key_of came) (is_held places) numbers (server, region) at held found) same
    where
      same : (key : Option (Server × Region)) → (not (is_eq (cmp_if held_cmp (Some (server, region)) key)) && is_held places key) ≡ is_held_but region places key
      same None = refl
      same (Some other) = elim (cases_Bool (is_eq (region_cmp region other.1))) [
        | inl on ↦ (let ties = is_equal (region_cmp region other.1) on in
            let place_is : is_at_if other.0 (find region_cmp places other.1) ≡ same_server other.0 server = ap (λ r. is_at_if other.0 (find region_cmp places r)) (sym (region_cmp-is region other.1 ties)) ∙ ap (is_at_if other.0) is ∙ held_there place server there other.0 in
            rw (then_tied (server_cmp server other.0) (region_cmp region other.1) ties, server_ties_back server other.0, place_is, on) (not_twice (same_server other.0 server)))
        | inr off ↦ rw (then_apart (server_cmp server other.0) (region_cmp region other.1) off, off) refl
      ]

  -- a region that is at a server is among those held
  pub must_stand : (region : Region) (place : Place) (server : Server) (at : ℕ) → AreHeld came places numbers → find region_cmp places region ≡ Some place → holder place ≡ Some server
      → HasGap (cmp_if held_cmp) (map (key_of came) numbers) (Some (server, region)) at → ⊥
  must_stand region place server at held is there gap =
      let off : is_held places (Some (server, region)) ≡ false = sym (held.are (Some (server, region))) ∙ gap-has (cmp_if held_cmp) (total_if held_cmp held_total) (Some (server, region)) (map (key_of came) numbers) at gap in
      let on : is_held places (Some (server, region)) ≡ true = ap (is_at_if server) is ∙ held_there place server there server ∙ sym (server_ties_back server server) ∙ ap is_eq (tied_itself servers_total server) in
      let e : true ≡ false = sym on ∙ off in
      cc

  -- and one that was let go isn't
  pub must_not_stand : (region : Region) (server : Server) (at : ℕ) → AreHeldBut region came places numbers → HasAt (cmp_if held_cmp) (map (key_of came) numbers) (Some (server, region)) at → ⊥
  must_not_stand region server at held there =
      let on : is_held_but region places (Some (server, region)) ≡ true = sym (held.are (Some (server, region))) ∙ at-has (cmp_if held_cmp) (total_if held_cmp held_total) (Some (server, region)) (map (key_of came) numbers) at there in
      let off : is_held_but region places (Some (server, region)) ≡ false = rw (tied_itself regions_total region) refl in
      let e : true ≡ false = sym on ∙ off in
      cc

  module _ (region : Region) (place : Place) (number : ℕ) (after found : List (Region × Place)) (held : AreHeldBut region came places numbers) (put : PutAt number (region, place) came after)
      (tied : IfSome (slice_get came number) (λ pair. region_cmp pair.0 region ≡ Equal))
      (finds : (other : Region) → find region_cmp found other ≡ (if is_eq (region_cmp region other) then Some place else find region_cmp places other)) where
    gone_by : (row : Option (Region × Place)) → IfSome row (λ pair. region_cmp pair.0 region ≡ Equal) → is_held_but region places (held_by row) ≡ false
    gone_by None ties = refl
    gone_by (Some row) ties = by row.1.server
      where
        by : (there : Option Server) → is_held_but region places (held_at row.0 there) ≡ false
        by None = refl
        by (Some server) = rw (tied_back regions_total row.0 region ties) refl

    keyed : (m : ℕ) → key_of after m ≡ (if m == number then held_at region place.server else key_of came m)
    keyed m = ap held_by (put m) ∙ by (m == number)
      where
        by : (b : Bool) → held_by (if b then Some (region, place) else slice_get came m) ≡ (if b then held_at region place.server else key_of came m)
        by true = refl
        by false = refl

    -- the region is not at a server
    set-none : holder place ≡ None → AreHeld after found numbers
    set-none none =
        rewanted held_cmp held_total (key_of after) (is_held_but region places) (is_held found) numbers
        (rekeyed held_cmp held_total (key_of came) (is_held_but region places) numbers (key_of after) number (held_at region place.server) held (gone_by (slice_get came number) tied) keyed) same
      where
        same : (key : Option (Server × Region)) → is_held_but region places key ≡ is_held found key
        same None = refl
        same (Some other) = elim (cases_Bool (is_eq (region_cmp region other.1))) [
          | inl on ↦ rw (finds other.1, on) (sym (held_nowhere place none other.0))
          | inr off ↦ rw (finds other.1, off) refl
        ]

    -- it is at a server
    set-some : (server : Server) (at : ℕ) → holder place ≡ Some server → HasGap (cmp_if held_cmp) (map (key_of came) numbers) (Some (server, region)) at → AreHeld after found (insert numbers at number)
    set-some server at there gap =
        rewanted held_cmp held_total (key_of after) (λ other. is_eq (cmp_if held_cmp (Some (server, region)) other) || is_held_but region places other) (is_held found) (insert numbers at number)
        (added held_cmp held_total (key_of came) (is_held_but region places) numbers (key_of after) number (server, region) at held (gone_by (slice_get came number) tied) (λ m. keyed m ∙ ap (λ s. if m == number then held_at region s else key_of came m) (held_server place server there)) gap) same
      where
        same : (key : Option (Server × Region)) → (is_eq (cmp_if held_cmp (Some (server, region)) key) || is_held_but region places key) ≡ is_held found key
        same None = refl
        same (Some other) = elim (cases_Bool (is_eq (region_cmp region other.1))) [
          | inl on ↦ rw (then_tied (server_cmp server other.0) (region_cmp region other.1) (is_equal (region_cmp region other.1) on), server_ties_back server other.0, finds other.1, on)
              (or_false (same_server other.0 server) ∙ sym (held_there place server there other.0))
          | inr off ↦ rw (then_apart (server_cmp server other.0) (region_cmp region other.1) off, finds other.1, off) refl
        ]

    pub set_held : (spot : Option ℕ) → IsSpotFor came numbers (held_at region (holder place)) spot → AreHeld after found (with_spot numbers spot number)
    set_held spot is = by (holder place) refl spot is
      where
        by : (at : Option Server) → holder place ≡ at → (spot : Option ℕ) → IsSpotFor came numbers (held_at region at) spot → AreHeld after found (with_spot numbers spot number)
        by None none None is = set-none none
        by None none (Some at) is = cc
        by (Some server) there None is = absurd is
        by (Some server) there (Some at) is = set-some server at there is

-- a row that is held has its region's name
held_name : (row : Option (Region × Place)) (held : Server × Region) → held_by row ≡ Some held → key_if row ≡ Some held.1
held_name None held is = cc
held_name (Some row) held is = by row.1.server is
  where
    by : (there : Option Server) → held_at row.0 there ≡ Some held → Some row.0 ≡ Some held.1
    by None e = cc
    by (Some server) e = let same : (server, row.0) ≡ held = cc in ap (λ (h : Server × Region). Some h.1) same

named : (came : List (Region × Place)) (n : ℕ) (held : Server × Region) → key_of came n ≡ Some held → key_if (slice_get came n) ≡ Some held.1
named came n held is = held_name (slice_get came n) held is

test_at : (server : Server) (place : Option Place) → is_at_if server place ≡ test_if (is_at server) place
test_at server None = refl
test_at server (Some place) = refl

module _ (came places : List (Region × Place)) (numbers : List ℕ) (server : Server) (held : AreHeld came places numbers) (rising : IsRising region_cmp places) where
  -- the regions at a server, as they are held and as they stand in the order of all
  pub run_names : names_of came (filter (λ n. is_eq (side server (key_of came n))) numbers) ≡ regions_at places server
  run_names =
      unique region_cmp regions_total region_cmp-is (names_of came (filter (λ n. is_eq (side server (key_of came n))) numbers)) (regions_at places server)
      (names_rise (key_of came) (λ n. key_if (slice_get came n)) (named came) server numbers held.rises)
      (kept_rise region_cmp regions_total (is_at server) places rising)
      (λ region. names_has (key_of came) (λ n. key_if (slice_get came n)) (named came) server numbers region ∙ held.are (Some (server, region)) ∙ test_at server (find region_cmp places region)
      ∙ sym (kept_has region_cmp regions_total (is_at server) places rising region))

pub run_count : (came : List (Region × Place)) (numbers : List ℕ) (server : Server)
    → length (filter (λ n. is_eq (side server (key_of came n))) numbers) ≡ length (names_of came (filter (λ n. is_eq (side server (key_of came n))) numbers))
run_count came numbers server = sym (names_count (key_of came) (λ n. key_if (slice_get came n)) (named came) server numbers)

-- no more than there are
take_min : {X : Type 0} (xs : List X) (count most : ℕ) → count ≡ min (length xs) most → take count xs ≡ take most xs
take_min [] zero zero is = refl
take_min [] zero (suc most) is = refl
take_min [] (suc count) most is = absurd (omega (arith, is))
take_min (x ∷ xs) zero zero is = refl
take_min (x ∷ xs) zero (suc most) is = absurd (omega (arith, is))
take_min (x ∷ xs) (suc count) zero is = absurd (omega (arith, is))
take_min (x ∷ xs) (suc count) (suc most) is = ap (λ l. x ∷ l) (take_min xs count most (omega (arith, is)))

module _ (came : List (Region × Place)) where
  names_le : (numbers : List ℕ) → length (names_of came numbers) ≤ length numbers
  names_le [] = omega arith
  names_le (n ∷ numbers) = by (key_if (slice_get came n)) (names_le numbers)
    where
      by : (name : Option Region) → length (names_of came numbers) ≤ length numbers → length (cons_option name (names_of came numbers)) ≤ length (n ∷ numbers)
      by None le = omega arith
      by (Some region) le = omega arith

  -- the first of numbers that have names
  pub first_name : (n : ℕ) (numbers : List ℕ) → HaveNames came (n ∷ numbers) → record { region : Region; is : key_if (slice_get came n) ≡ Some region; rest : HaveNames came numbers }
  first_name n numbers have = by (key_if (slice_get came n)) refl have
    where
      by : (name : Option Region) → key_if (slice_get came n) ≡ name → length (n ∷ numbers) ≡ length (cons_option name (names_of came numbers)) → record { region : Region; is : key_if (slice_get came n) ≡ Some region; rest : HaveNames came numbers }
      by None is have = absurd (omega (arith, names_le numbers, have))
      by (Some region) is have = record { region = region; is = is; rest = omega (arith, have) }

  pub names_take : (most : ℕ) (numbers : List ℕ) → HaveNames came numbers → record { names : names_of came (take most numbers) ≡ take most (names_of came numbers); have : HaveNames came (take most numbers) }
  names_take zero numbers have = record { names = refl; have = refl }
  names_take (suc most) [] have = record { names = refl; have = refl }
  names_take (suc most) (n ∷ numbers) have =
      let first = first_name n numbers have in
      let more = names_take most numbers first.rest in
      record { names = rw first.is (ap (λ l. first.region ∷ l) more.names); have = rw first.is (omega (arith, more.have)) }

  pub names_min : (count most : ℕ) (numbers : List ℕ) → count ≡ min (length numbers) most → HaveNames came numbers
      → record { names : names_of came (take (count - 0) (drop 0 numbers)) ≡ take most (names_of came numbers); have : HaveNames came (take (count - 0) (drop 0 numbers)) }
  names_min count most numbers is have =
      let first = names_take count numbers have in
      let e : count - 0 ≡ count = omega arith in
      record { names = rw e (first.names ∙ take_min (names_of came numbers) count most (omega (arith, is, have))); have = rw e first.have }
