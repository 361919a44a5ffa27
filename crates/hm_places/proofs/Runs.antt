-- The run of those that are held at one server.
use Rattle.std.proofs.Common.{◌≡◌, ℕ, zero, suc, ◌-◌, ◌<◌, ◌≤◌, List, [], ◌∷◌, map, length, take, drop, get_or, Option, Some, None, Bool, true, false, ◌||◌, cond, subst, refl, arith, ap, sym, ◌∙◌}
use Rattle.std.specs.List.{filter, filter_map}
use Rattle.std.specs.List.Sorted.{IsNonDecreasingBy, IsPartitionedBy}
use Rattle.std.specs.Ordering.{is_eq, is_lt, is_le, ordering_then, ordering_index}
use Rattle.std.specs.declared.cmp.Ordering.{Ordering}
use Rattle.std.specs.declared.cmp.Ordering.TheVariants.{Less, Equal, Greater}
use Rattle.std.proofs.lemmas.Cmp.{tied_back}
use Rattle.hm_names.specs.Order.{region_cmp, server_cmp}
use Rattle.hm_names.specs.Region.{Region}
use Rattle.hm_names.specs.Server.{Server}
use Rattle.hm_places.specs.Chosen.{cmp_if, IsBelow, Rises, Splits, has}
use Rattle.hm_places.specs.Places.{held_cmp, side}
use Rattle.hm_model.proofs.NameTies.{servers_total}
use Rattle.hm_places.proofs.Sorted.{lowers}

-- where ranks don't fall, the lower ones come first
lt_down : (a b : Ordering) → ordering_index a ≤ ordering_index b → is_lt b ≡ true → is_lt a ≡ true
lt_down Less b le e = refl
lt_down Equal Less le e = absurd (omega (arith, le))
lt_down Greater Less le e = absurd (omega (arith, le))
lt_down Equal Equal le e = e
lt_down Greater Equal le e = e
lt_down Equal Greater le e = e
lt_down Greater Greater le e = e

le_down : (a b : Ordering) → ordering_index a ≤ ordering_index b → is_le b ≡ true → is_le a ≡ true
le_down Less b le e = refl
le_down Equal b le e = refl
le_down Greater Less le e = absurd (omega (arith, le))
le_down Greater Equal le e = absurd (omega (arith, le))
le_down Greater Greater le e = e

module _ (rank : ℕ → Ordering) where
  pub lower_first : (ns : List ℕ) → IsNonDecreasingBy (λ n. ordering_index (rank n)) ns → IsPartitionedBy (λ n. is_lt (rank n)) ns
  lower_first ns rise i j d le lt on = lt_down (rank (get_or ns i d)) (rank (get_or ns j d)) (rise i j d le lt) on

  pub upper_last : (ns : List ℕ) → IsNonDecreasingBy (λ n. ordering_index (rank n)) ns → IsPartitionedBy (λ n. is_le (rank n)) ns
  upper_last ns rise i j d le lt on = le_down (rank (get_or ns i d)) (rank (get_or ns j d)) (rise i j d le lt) on

  abbrev pub level : List ℕ → List ℕ
  level ns = filter (λ n. is_eq (rank n)) ns

  is_level : (o : Ordering) → is_lt o ≡ false → is_le o ≡ true → is_eq o ≡ true
  is_level Less e f = cc
  is_level Equal e f = refl
  is_level Greater e f = cc

  not_when_low : (o : Ordering) → is_lt o ≡ true → is_eq o ≡ false
  not_when_low Less e = refl
  not_when_low Equal e = cc
  not_when_low Greater e = cc

  not_when_high : (o : Ordering) → is_le o ≡ false → is_eq o ≡ false
  not_when_high Less e = cc
  not_when_high Equal e = cc
  not_when_high Greater e = refl

  never : (o : Ordering) → is_lt o ≡ true → is_le o ≡ false → ⊥
  never Less e f = cc
  never Equal e f = cc
  never Greater e f = cc

  tails : (n : ℕ) (ns : List ℕ) (from to : ℕ) → Splits rank (n ∷ ns) (suc from) (suc to) → Splits rank ns from to
  tails n ns from to splits = record {
    low = λ k d le lt. splits.low (suc k) d (omega arith) (omega arith);
    not_low = λ k d le lt. splits.not_low (suc k) d (omega arith) (omega arith);
    not_high = λ k d le lt. splits.not_high (suc k) d (omega arith) (omega arith);
    high = λ k d le lt. splits.high (suc k) d (omega arith) (omega arith);
  }

  none_left : (ns : List ℕ) → ((k d : ℕ) → k < length ns → is_le (rank (get_or ns k d)) ≡ false) → level ns ≡ []
  none_left [] high = refl
  none_left (n ∷ ns) high = rw (not_when_high (rank n) (high zero n (omega arith))) (none_left ns (λ k d lt. high (suc k) d (omega arith)))

  pub ordered : (ns : List ℕ) (from to : ℕ) → from ≤ length ns → to ≤ length ns → Splits rank ns from to → from ≤ to
  ordered ns zero to le le' splits = omega arith
  ordered [] (suc from) to le le' splits = absurd (omega arith)
  ordered (n ∷ ns) (suc from) zero le le' splits = absurd (never (rank n) (splits.low zero n (omega arith) (omega arith)) (splits.high zero n (omega arith) (omega arith)))
  ordered (n ∷ ns) (suc from) (suc to) le le' splits = omega (arith, ordered ns from to (omega arith) (omega arith) (tails n ns from to splits))

  -- from the start, all up to `to` are level
  level_first : (ns : List ℕ) (to : ℕ) → to ≤ length ns → Splits rank ns 0 to → take to ns ≡ level ns
  level_first ns zero le splits = sym (none_left ns (λ k d lt. splits.high k d (omega arith) lt))
  level_first [] (suc to) le splits = refl
  level_first (n ∷ ns) (suc to) le splits =
      rw (is_level (rank n) (splits.not_low zero n (omega arith) (omega arith)) (splits.not_high zero n (omega arith) (omega arith)))
      (ap (λ l. n ∷ l) (level_first ns to (omega arith) (record {
        low = λ k d le lt. absurd (omega arith);
        not_low = λ k d le lt. splits.not_low (suc k) d (omega arith) (omega arith);
        not_high = λ k d le lt. splits.not_high (suc k) d (omega arith) (omega arith);
        high = λ k d le lt. splits.high (suc k) d (omega arith) (omega arith);
      })))

  pub run_is : (ns : List ℕ) (from to : ℕ) → from ≤ length ns → to ≤ length ns → Splits rank ns from to → take (to - from) (drop from ns) ≡ level ns
  run_is ns zero to le le' splits = let e : to - 0 ≡ to = omega arith in rw e (level_first ns to le' splits)
  run_is [] (suc from) to le le' splits = absurd (omega arith)
  run_is (n ∷ ns) (suc from) zero le le' splits = absurd (never (rank n) (splits.low zero n (omega arith) (omega arith)) (splits.high zero n (omega arith) (omega arith)))
  run_is (n ∷ ns) (suc from) (suc to) le le' splits =
      let e : suc to - suc from ≡ to - from = omega arith in
      rw (e, not_when_low (rank n) (splits.low zero n (omega arith) (omega arith))) (run_is ns from to (omega arith) (omega arith) (tails n ns from to splits))

-- keys that rise don't fall by their servers
pub sides_rise : (server : Server) (a b : Option (Server × Region)) → cmp_if held_cmp a b ≡ Less → ordering_index (side server a) ≤ ordering_index (side server b)
sides_rise server None b less = omega arith
sides_rise server (Some a) None less = cc
sides_rise server (Some a) (Some b) less = by (server_cmp a.0 b.0) refl less
  where
    by : (o : Ordering) → server_cmp a.0 b.0 ≡ o → ordering_then o (region_cmp a.1 b.1) ≡ Less → ordering_index (server_cmp a.0 server) ≤ ordering_index (server_cmp b.0 server)
    by Less e less = lowers server_cmp servers_total a.0 b.0 server e
    by Equal e less = rw (servers_total.congr a.0 b.0 server e) (omega arith)
    by Greater e less = cc

module _ (f : ℕ → Option (Server × Region)) (g : ℕ → Option Region) (named : (n : ℕ) (held : Server × Region) → f n ≡ Some held → g n ≡ Some held.1) (server : Server) where
  abbrev pub rank_of : ℕ → Ordering
  rank_of n = side server (f n)

  abbrev pub names : List ℕ → List Region
  names ns = filter_map g ns

  abbrev pub there : List ℕ → List ℕ
  there ns = filter (λ n. is_eq (side server (f n))) ns

  -- the first is there, with this region, or isn't
  step : (n : ℕ) (ns : List ℕ) (P : Bool → Option Region → Type 0) → ((held : Server × Region) → f n ≡ Some held → server_cmp held.0 server ≡ Equal → P true (Some held.1))
      → ((o : Ordering) → side server (f n) ≡ o → is_eq o ≡ false → (region : Option Region) → P false region) → P (is_eq (side server (f n))) (g n)
  step n ns P on off = by (f n) refl
    where
      by : (key : Option (Server × Region)) → f n ≡ key → P (is_eq (side server (f n))) (g n)
      by None e = rw e (off Less (ap (side server) e) refl (g n))
      by (Some held) e = by_side (server_cmp held.0 server) refl
        where
          by_side : (o : Ordering) → server_cmp held.0 server ≡ o → P (is_eq (side server (f n))) (g n)
          by_side Less s = rw (e, s) (off Less (ap (side server) e ∙ s) refl (g n))
          by_side Greater s = rw (e, s) (off Greater (ap (side server) e ∙ s) refl (g n))
          by_side Equal s = rw (e, s, named n held e) (on held e s)

  abbrev joined : Bool → Option Region → List Region → List Region
  joined true None regions = regions
  joined true (Some region) regions = region ∷ regions
  joined false region regions = regions

  unfolds : (n : ℕ) (ns : List ℕ) → names (there (n ∷ ns)) ≡ joined (is_eq (side server (f n))) (g n) (names (there ns))
  unfolds n ns =
      step n ns (λ b region. names (cond b (n ∷ there ns) (there ns)) ≡ joined b region (names (there ns))) (λ held e s. rw (named n held e) refl) (λ o s off region. refl)

  names_below : (held : Server × Region) (ns : List ℕ) → IsBelow (cmp_if held_cmp) (Some held) (map f ns) → server_cmp held.0 server ≡ Equal → IsBelow region_cmp held.1 (names (there ns))
  names_below held [] all ties = tt
  names_below held (n ∷ ns) all ties =
      let more = names_below held ns all.1 ties in
      rw (unfolds n ns) (step n ns (λ b region. IsBelow region_cmp held.1 (joined b region (names (there ns))))
      (λ other e s. (less other (ap (cmp_if held_cmp (Some held)) (sym e) ∙ all.0) s, more)) (λ o s off region. more))
    where
      less : (other : Server × Region) → held_cmp held other ≡ Less → server_cmp other.0 server ≡ Equal → region_cmp held.1 other.1 ≡ Less
      less other low s =
          let one : server_cmp held.0 other.0 ≡ Equal = servers_total.congr held.0 server other.0 ties ∙ tied_back servers_total other.0 server s in
          ap (λ o. ordering_then o (region_cmp held.1 other.1)) (sym one) ∙ low

  pub names_rise : (ns : List ℕ) → Rises (cmp_if held_cmp) (map f ns) → Rises region_cmp (names (there ns))
  names_rise [] rise = tt
  names_rise (n ∷ ns) rise =
      let more = names_rise ns rise.1 in
      rw (unfolds n ns) (step n ns (λ b region. Rises region_cmp (joined b region (names (there ns))))
      (λ held e s. (names_below held ns (subst (λ k. IsBelow (cmp_if held_cmp) k (map f ns)) e rise.0) s, more)) (λ o s off region. more))

  not_there : (key : Option (Server × Region)) (region : Region) (o : Ordering) → side server key ≡ o → is_eq o ≡ false → is_eq (cmp_if held_cmp key (Some (server, region))) ≡ false
  not_there None region o s off = refl
  not_there (Some held) region Less s off = rw s refl
  not_there (Some held) region Equal s off = cc
  not_there (Some held) region Greater s off = rw s refl

  pub names_has : (ns : List ℕ) (region : Region) → has region_cmp (names (there ns)) region ≡ has (cmp_if held_cmp) (map f ns) (Some (server, region))
  names_has [] region = refl
  names_has (n ∷ ns) region =
      let more = names_has ns region in
      rw (unfolds n ns) (step n ns (λ b here. has region_cmp (joined b here (names (there ns))) region ≡ (is_eq (cmp_if held_cmp (f n) (Some (server, region))) || has (cmp_if held_cmp) (map f ns) (Some (server, region))))
      (λ held e s. rw (e, s) (ap (λ b. is_eq (region_cmp held.1 region) || b) more)) (λ o s off here. rw (not_there (f n) region o s off) more))

  pub names_count : (ns : List ℕ) → length (names (there ns)) ≡ length (there ns)
  names_count [] = refl
  names_count (n ∷ ns) =
      let more = names_count ns in
      rw (unfolds n ns) (step n ns (λ b region. length (joined b region (names (there ns))) ≡ length (cond b (n ∷ there ns) (there ns))) (λ held e s. omega (arith, more)) (λ o s off region. more))
