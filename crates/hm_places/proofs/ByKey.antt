-- Rows that a function gives to keys that rise.
use Rattle.std.proofs.Common.{◌≡◌, List, [], ◌∷◌, map, Bool, true, false, ◌||◌, if◌then◌else◌, Some, None, refl, ap, sym, ◌∙◌, subst}
use Rattle.std.specs.Cmp.{IsTotalOrder}
use Rattle.std.specs.Ordering.{is_eq, ordering_reverse}
use Rattle.std.specs.declared.cmp.Ordering.{Ordering}
use Rattle.std.specs.declared.cmp.Ordering.TheVariants.{Less, Equal, Greater}
use Rattle.std.proofs.lemmas.Cmp.{tied_itself}
use Rattle.hm_index.specs.Index.{changed, find, placed}
use Rattle.hm_places.specs.Chosen.{IsBelow, Rises, has}

-- how one more key joins others, by how it compares with the first of them
pub record Joins {K : Type 0} (cmp : K → K → Ordering) (join : K → List K → List K) : Type 0 where
  pub alone : (key : K) → join key [] ≡ key ∷ []
  pub less : (key first : K) (more : List K) → cmp key first ≡ Less → join key (first ∷ more) ≡ key ∷ first ∷ more
  pub equal : (key first : K) (more : List K) → cmp key first ≡ Equal → join key (first ∷ more) ≡ first ∷ more
  pub greater : (key first : K) (more : List K) → cmp key first ≡ Greater → join key (first ∷ more) ≡ first ∷ join key more

abbrev pub with_value : {K V : Type 0} → (K → V) → K → K × V
with_value f key = (key, f key)

-- the rows that a function gives to keys
abbrev pub rows_by : {K V : Type 0} → (K → V) → List K → List (K × V)
rows_by f keys = map (with_value f) keys

-- the values with another one for a key
abbrev pub IsSetAt : {K V : Type 0} → (K → K → Ordering) → (K → V) → (K → V) → K → V → Type 0
IsSetAt {K} cmp f g key value = (other : K) → g other ≡ (if is_eq (cmp key other) then value else f other)

swapped : (a b c : Bool) → (a || (b || c)) ≡ (b || (a || c))
swapped true true c = refl
swapped true false c = refl
swapped false true c = refl
swapped false false c = refl

doubled : (a b : Bool) → (a || (a || b)) ≡ (a || b)
doubled true b = refl
doubled false b = refl

module _ {K : Type 0} (cmp : K → K → Ordering) (total : IsTotalOrder cmp) where
  turned : (a b : K) → cmp a b ≡ Less → cmp b a ≡ Greater
  turned a b less = total.antisymm b a ∙ ap ordering_reverse less

  turned_back : (a b : K) → cmp a b ≡ Greater → cmp b a ≡ Less
  turned_back a b greater = total.antisymm b a ∙ ap ordering_reverse greater

  turned_same : (a b : K) → cmp a b ≡ Equal → cmp b a ≡ Equal
  turned_same a b ties = total.antisymm b a ∙ ap ordering_reverse ties

  below_further : (a b : K) (keys : List K) → cmp a b ≡ Less → IsBelow cmp b keys → IsBelow cmp a keys
  below_further a b [] less all = tt
  below_further a b (key ∷ keys) less all = (total.trans a b key less all.0, below_further a b keys less all.1)

  -- one more among others
  below_join : (join : K → List K → List K) → Joins cmp join → (a key : K) (keys : List K) → cmp a key ≡ Less → IsBelow cmp a keys → IsBelow cmp a (join key keys)
  below_join join joins a key [] less all = rw (joins.alone key) (less, tt)
  below_join join joins a key (first ∷ more) less all = by (below_join join joins a key more less all.1) (cmp key first) refl
    where
      by : IsBelow cmp a (join key more) → (o : Ordering) → cmp key first ≡ o → IsBelow cmp a (join key (first ∷ more))
      by rest Less e = rw (joins.less key first more e) (less, all)
      by rest Equal e = rw (joins.equal key first more e) all
      by rest Greater e = rw (joins.greater key first more e) (all.0, rest)

  pub rises_join : (join : K → List K → List K) → Joins cmp join → (key : K) (keys : List K) → Rises cmp keys → Rises cmp (join key keys)
  rises_join join joins key [] rises = rw (joins.alone key) (tt, tt)
  rises_join join joins key (first ∷ more) rises = by (rises_join join joins key more rises.1) (cmp key first) refl
    where
      by : Rises cmp (join key more) → (o : Ordering) → cmp key first ≡ o → Rises cmp (join key (first ∷ more))
      by rest Less e = rw (joins.less key first more e) ((e, below_further key first more e rises.0), rises)
      by rest Equal e = rw (joins.equal key first more e) rises
      by rest Greater e = rw (joins.greater key first more e) (below_join join joins first key more (turned_back key first e) rises.0, rest)

module _ {K : Type 0} (cmp : K → K → Ordering) (is : (a b : K) → cmp a b ≡ Equal → a ≡ b) where
  pub has_join : (join : K → List K → List K) → Joins cmp join → (key other : K) (keys : List K) → has cmp (join key keys) other ≡ (is_eq (cmp key other) || has cmp keys other)
  has_join join joins key other [] = rw (joins.alone key) refl
  has_join join joins key other (first ∷ more) = by (has_join join joins key other more) (cmp key first) refl
    where
      by : has cmp (join key more) other ≡ (is_eq (cmp key other) || has cmp more other) → (o : Ordering) → cmp key first ≡ o
          → has cmp (join key (first ∷ more)) other ≡ (is_eq (cmp key other) || has cmp (first ∷ more) other)
      by rest Less e = rw (joins.less key first more e) refl
      by rest Equal e =
          rw (joins.equal key first more e)
          (ap (λ k. is_eq (cmp k other) || has cmp more other) (sym (is key first e))
          ∙ sym (doubled (is_eq (cmp key other)) (has cmp more other))
          ∙ ap (λ k. is_eq (cmp key other) || (is_eq (cmp k other) || has cmp more other)) (is key first e))
      by rest Greater e =
          rw (joins.greater key first more e)
          (ap (λ b. is_eq (cmp first other) || b) rest ∙ swapped (is_eq (cmp first other)) (is_eq (cmp key other)) (has cmp more other))

module _ {K V : Type 0} (cmp : K → K → Ordering) (total : IsTotalOrder cmp) (is : (a b : K) → cmp a b ≡ Equal → a ≡ b) where
  -- where no key is the one that is set, the rows stay
  rows_stay : (f g : K → V) (key : K) (value : V) (keys : List K) → IsSetAt cmp f g key value → IsBelow cmp key keys → rows_by g keys ≡ rows_by f keys
  rows_stay f g key value [] set below = refl
  rows_stay f g key value (first ∷ keys) set below =
      ap (λ v. (first, v) ∷ rows_by g keys) (set first ∙ rw below.0 refl)
      ∙ ap (λ l. (first, f first) ∷ l) (rows_stay f g key value keys set below.1)

  here : (f g : K → V) (key : K) (value : V) → IsSetAt cmp f g key value → g key ≡ value
  here f g key value set = set key ∙ rw (tied_itself total key) refl

  pub placed_by : (join : K → List K → List K) → Joins cmp join → (f g : K → V) (key : K) (value : V) (keys : List K) → IsSetAt cmp f g key value → Rises cmp keys
      → placed cmp (rows_by f keys) key value ≡ rows_by g (join key keys)
  placed_by join joins f g key value [] set rises = ap (λ v. (key, v) ∷ []) (sym (here f g key value set)) ∙ sym (ap (rows_by g) (joins.alone key))
  placed_by join joins f g key value (first ∷ more) set rises = by (placed_by join joins f g key value more set rises.1) (cmp key first) refl
    where
      by : placed cmp (rows_by f more) key value ≡ rows_by g (join key more) → (o : Ordering) → cmp key first ≡ o → placed cmp (rows_by f (first ∷ more)) key value ≡ rows_by g (join key (first ∷ more))
      by rest Less e =
          rw (turned cmp total key first e)
          (ap (λ v. (key, v) ∷ rows_by f (first ∷ more)) (sym (here f g key value set))
          ∙ ap (λ l. (key, g key) ∷ l) (sym (rows_stay f g key value (first ∷ more) set (e, below_further cmp total key first more e rises.0)))
          ∙ sym (ap (rows_by g) (joins.less key first more e)))
      by rest Equal e =
          let same : key ≡ first = is key first e in
          rw (turned_same cmp total key first e)
          (ap (λ k. (k, value) ∷ rows_by f more) same
          ∙ ap (λ v. (first, v) ∷ rows_by f more) (sym (set first ∙ rw e refl))
          ∙ ap (λ l. (first, g first) ∷ l) (sym (rows_stay f g key value more set (subst (λ k. IsBelow cmp k more) (sym same) rises.0)))
          ∙ sym (ap (rows_by g) (joins.equal key first more e)))
      by rest Greater e =
          rw (turned_back cmp total key first e)
          (ap (λ l. (first, f first) ∷ l) rest
          ∙ ap (λ v. (first, v) ∷ rows_by g (join key more)) (sym (set first ∙ rw e refl))
          ∙ sym (ap (rows_by g) (joins.greater key first more e)))

  pub changed_by : (f g : K → V) (key : K) (value : V) (keys : List K) → IsSetAt cmp f g key value → Rises cmp keys → changed cmp (rows_by f keys) key value ≡ rows_by g keys
  changed_by f g key value [] set rises = refl
  changed_by f g key value (first ∷ more) set rises = by (changed_by f g key value more set rises.1) (cmp first key) refl
    where
      by : changed cmp (rows_by f more) key value ≡ rows_by g more → (o : Ordering) → cmp first key ≡ o → changed cmp (rows_by f (first ∷ more)) key value ≡ rows_by g (first ∷ more)
      by rest Less e =
          rw e
          (ap (λ l. (first, f first) ∷ l) rest ∙ ap (λ v. (first, v) ∷ rows_by g more) (sym (set first ∙ rw (turned cmp total first key e) refl)))
      by rest Greater e =
          rw e
          (ap (λ l. (first, f first) ∷ l) rest ∙ ap (λ v. (first, v) ∷ rows_by g more) (sym (set first ∙ rw (turned_back cmp total first key e) refl)))
      by rest Equal e =
          let same : first ≡ key = is first key e in
          rw e
          (ap (λ v. (first, v) ∷ rows_by f more) (sym (set first ∙ rw (turned_same cmp total first key e) refl))
          ∙ ap (λ l. (first, g first) ∷ l) (sym (rows_stay f g key value more set (subst (λ k. IsBelow cmp k more) same rises.0))))

  -- the value of a key among the rows
  pub find_by : (f : K → V) (keys : List K) (key : K) → find cmp (rows_by f keys) key ≡ (if has cmp keys key then Some (f key) else None)
  find_by f [] key = refl
  find_by f (first ∷ more) key = by (find_by f more key) (cmp first key) refl
    where
      by : find cmp (rows_by f more) key ≡ (if has cmp more key then Some (f key) else None) → (o : Ordering) → cmp first key ≡ o
          → find cmp (rows_by f (first ∷ more)) key ≡ (if has cmp (first ∷ more) key then Some (f key) else None)
      by rest Less e = rw e rest
      by rest Greater e = rw e rest
      by rest Equal e = rw e (ap (λ k. Some (f k)) (is first key e))
