-- The lowest of the nodes that are looked at is the lowest procedure that blocks.
use Rattle.std.proofs.Common.{◌≡◌, ◌≢◌, ℕ, zero, suc, ◌+◌, ◌-◌, Bool, true, false, not, ◌&&◌, ◌||◌, ◌==◌, List, [], ◌∷◌, length, Option, Some, None, slice_get, cond, refl, sym, ap, ◌∙◌, subst, inl, inr, ◌⊎◌, arith}
use Rattle.std.proofs.lemmas.Bool.{cases_eq, and_parts, and_from, eq-eqb, ne_eqb, eqb-true, false≢true}
use Rattle.std.proofs.lemmas.Option.{same_Some, none-some}
use Rattle.std.specs.Option.{option_and_then, option_map}
use Rattle.std.specs.Ordering.{nat_cmp}
use Rattle.std.specs.Prelude.{MatchOption}
use Rattle.hm_index.specs.Index.{find}
use Rattle.hm_model.specs.declared.lock.Ask.{Ask}
use Rattle.hm_model.specs.declared.lock.Resource.{Resource}
use Rattle.hm_model.specs.Locks.{IsIn}
use Rattle.hm_locks.specs.declared.entry.Entry.{Entry}
use Rattle.hm_locks.specs.declared.entry.Want.{Want}
use Rattle.hm_locks.specs.declared.key.Key.{Key}
use Rattle.hm_locks.specs.Book.{Row, row_of, Blocks, IsBlockedBy, IsFirst, IsFree, RowsClash}
use Rattle.hm_locks.specs.Kept.{desk_of, entry_at, entry_of, lane, row_for, rows_in, HoldsNode, IsFound, IsKept}
use Rattle.hm_locks.specs.Lowest.{apart_pid, has, holder_at, is_apart, lowest_of}
use Rattle.hm_locks.proofs.Found.{row_is, entry_is}
use Rattle.hm_locks.proofs.Keeping.{sitting, sits_of, wanted}
use Rattle.hm_locks.proofs.Lowest.{Gives, GivesFor, GivesOf, IsLowest, lowest_same, lowest_wants}
use Rattle.hm_locks.proofs.Places.{got, get_within}

in_got : {A : Type 0} (xs : List A) (k : ℕ) (x : A) → slice_get xs k ≡ Some x → IsIn x xs
in_got [] k x e = absurd (none-some x e)
in_got (y ∷ xs) zero x e = inl (sym (same_Some y x e))
in_got (y ∷ xs) (suc k) x e = inr (in_got xs k x e)

at_in : {A : Type 0} (xs : List A) (x : A) → IsIn x xs → (k : ℕ) × (slice_get xs k ≡ Some x)
at_in [] x is = absurd is
at_in (y ∷ xs) x (inl e) = (0, ap Some (sym e))
at_in (y ∷ xs) x (inr more) = let k = at_in xs x more in (suc k.0, k.1)

-- the test of a list of numbers
has_is : (xs : List ℕ) (x : ℕ) → has xs x ≡ true → IsIn x xs
has_is [] x e = absurd (false≢true e)
has_is (y ∷ xs) x e = elim (cases_eq y x) [
  | inl same ↦ inl (sym same)
  | inr differs ↦ inr (has_is xs x (sym (ap (λ b. b || has xs x) (ne_eqb y x differs)) ∙ e))
]

is_has : (xs : List ℕ) (x : ℕ) → IsIn x xs → has xs x ≡ true
is_has [] x is = absurd is
is_has (y ∷ xs) x (inl e) = ap (λ b. b || has xs x) (eq-eqb y x (sym e))
is_has (y ∷ xs) x (inr more) = elim (cases_eq y x) [
  | inl same ↦ ap (λ b. b || has xs x) (eq-eqb y x same)
  | inr differs ↦ ap (λ b. b || has xs x) (ne_eqb y x differs) ∙ is_has xs x more
]

off : (b : Bool) → not b ≡ true → b ≢ true
off true e f = false≢true e
off false e f = false≢true f

out : (b : Bool) → b ≢ true → not b ≡ true
out true e = absurd (e refl)
out false e = refl

-- the test of two entries
apart_is : (own other : Entry) → is_apart own other ≡ true → (own.pid ≢ other.pid) × (IsIn own.pid other.above → ⊥) × (IsIn other.pid own.above → ⊥)
apart_is own other e =
    let one = and_parts (not (own.pid == other.pid)) (not (has own.above other.pid) && not (has other.above own.pid)) e in
    let two = and_parts (not (has own.above other.pid)) (not (has other.above own.pid)) one.1 in (
      λ same. off (own.pid == other.pid) one.0 (eq-eqb own.pid other.pid same),
      λ is. off (has other.above own.pid) two.1 (is_has other.above own.pid is),
      λ is. off (has own.above other.pid) two.0 (is_has own.above other.pid is),
    )

is_apart_from : (own other : Entry) → own.pid ≢ other.pid → (IsIn own.pid other.above → ⊥) → (IsIn other.pid own.above → ⊥) → is_apart own other ≡ true
is_apart_from own other differs below above =
    and_from (not (own.pid == other.pid)) (not (has own.above other.pid) && not (has other.above own.pid)) (out (own.pid == other.pid) (λ e. differs (eqb-true own.pid other.pid e)))
    (and_from (not (has own.above other.pid)) (not (has other.above own.pid)) (out (has own.above other.pid) (λ e. above (has_is own.above other.pid e))) (out (has other.above own.pid) (λ e. below (has_is other.above own.pid e))))

apart_gives : (own other : Entry) (q : ℕ) → apart_pid own other ≡ Some q → (is_apart own other ≡ true) × (other.pid ≡ q)
apart_gives own other q e = by (is_apart own other) refl e
  where
    by : (b : Bool) → is_apart own other ≡ b → cond b (Some other.pid) None ≡ Some q → (is_apart own other ≡ true) × (other.pid ≡ q)
    by true is f = (is, same_Some other.pid q f)
    by false is f = absurd (none-some q f)

-- a list tells its resource's number and how it is held
lane_apart : (a b : ℕ) (x y : Bool) → lane a x ≡ lane b y → (a ≡ b) × (x ≡ y)
lane_apart a b true true e = (omega (arith, e), refl)
lane_apart a b true false e = absurd (omega (arith, e))
lane_apart a b false true e = absurd (omega (arith, e))
lane_apart a b false false e = (omega (arith, e), refl)

either_from : (a b : Bool) → (a ≡ true) ⊎ (b ≡ true) → (a || b) ≡ true
either_from true b e = refl
either_from false b (inl e) = absurd (false≢true e)
either_from false b (inr e) = e

either_is : (a b : Bool) → (a || b) ≡ true → (a ≡ true) ⊎ (b ≡ true)
either_is true b e = inl refl
either_is false b e = inr e

module _ (places : List (ℕ × ℕ)) (es : List (Option Entry)) (wants : List Want) (numbers : List (Key × ℕ)) (lists : List (List ℕ)) (spare : ℕ)
    (kept : IsKept places es wants numbers lists spare)
    (apart : (a b : Resource) (d : ℕ) → desk_of numbers a ≡ Some d → desk_of numbers b ≡ Some d → a ≡ b)
    (p i : ℕ) (own : Entry) (own_is : entry_at es i ≡ Some own) (own_pid : own.pid ≡ p) where
  abbrev pub gives : ℕ → Option ℕ
  gives = holder_at own es wants

  own_row : row_of (rows_in es) p ≡ Some (row_for own)
  own_row = ap (row_of (rows_in es)) (sym own_pid) ∙ row_is places es kept.index own.pid ∙ ap (option_map row_for) (entry_is places es kept.index own.pid i own (kept.index.found i own own_is) own_is)

  other_row : (j : ℕ) (e : Entry) (q : ℕ) → entry_at es j ≡ Some e → e.pid ≡ q → row_of (rows_in es) q ≡ Some (row_for e)
  other_row j e q is same = ap (row_of (rows_in es)) (sym same) ∙ row_is places es kept.index e.pid ∙ ap (option_map row_for) (entry_is places es kept.index e.pid j e (kept.index.found j e is) is)

  holder : (n : ℕ) (w : Want) (e : Entry) → slice_get wants n ≡ Some w → entry_at es w.place ≡ Some e → gives n ≡ apart_pid own e
  holder n w e is at = ap (option_and_then (λ (want : Want). option_and_then (apart_pid own) (entry_at es want.place))) is ∙ ap (option_and_then (apart_pid own)) at

  -- the ask of a node that an entry holds
  ask_of : (w : Want) (e : Entry) (n : ℕ) → slice_get wants n ≡ Some w → entry_at es w.place ≡ Some e → HoldsNode (Some e) n
      → (b : Ask) × IsIn b e.asked × (w.exclusive ≡ b.exclusive) × (desk_of numbers b.resource ≡ Some w.desk)
  ask_of w e n is at holds =
      let low = holds.1 in
      let high = holds.2 in
      let here : e.first + (n - e.first) ≡ n = omega (arith, low) in
      let b = got e.asked (n - e.first) (omega (arith, low, high)) in
      let found = wanted numbers w.place b.0 (slice_get wants (e.first + (n - e.first))) (kept.asks w.place e (n - e.first) b.0 at b.1) in
      let same : found.0 ≡ w = same_Some found.0 w (sym found.1 ∙ ap (slice_get wants) here ∙ is) in
      (b.0, in_got e.asked (n - e.first) b.0 b.1, ap (λ (x : Want). x.exclusive) (sym same) ∙ found.3, found.4 ∙ ap (λ (x : Want). Some x.desk) same)

  blocked_by : (q : ℕ) (e : Entry) (j : ℕ) → entry_at es j ≡ Some e → e.pid ≡ q → e.holds ≡ true → RowsClash (row_for own) (row_for e) → IsBlockedBy (rows_in es) p q
  blocked_by q e j is same holds clash = subst (λ o. Blocks o (row_of (rows_in es) q)) (sym own_row) (subst (Blocks (Some (row_for own))) (sym (other_row j e q is same)) (holds, clash))

  -- what a node gives blocks
  given_blocks : (q : ℕ) → GivesOf gives lists wants own.first (length own.asked) q → IsBlockedBy (rows_in es) p q
  given_blocks q there =
      let k = there.0 in
      let a = got own.asked there.0 there.1 in
      let w = wanted numbers i a.0 (slice_get wants (own.first + there.0)) (kept.asks i own there.0 a.0 own_is a.1) in
      let g : Gives gives lists w.0.desk w.0.exclusive q = subst (λ o. GivesFor gives lists o q) w.1 there.2 in
      let n = g.2.0 in
      let s = sitting es wants (lane w.0.desk g.0) g.2.0 (kept.listed (lane w.0.desk g.0) g.2.0 g.2.1) in
      let lanes = lane_apart s.0.desk w.0.desk s.0.exclusive g.0 s.2 in
      let gave = apart_gives own s.3.0 q (sym (holder g.2.0 s.0 s.3.0 s.1 s.3.1) ∙ g.2.2) in
      let b = ask_of s.0 s.3.0 g.2.0 s.1 s.3.1 s.3.2 in
      let far = apart_is own s.3.0 gave.0 in
      blocked_by q s.3.0 s.0.place s.3.1 gave.1 s.3.2.0 (
        far.0,
        far.1,
        far.2,
        (
          a.0,
          b.0,
          in_got own.asked there.0 a.0 a.1,
          b.1,
          apart a.0.resource b.0.resource w.0.desk w.4 (b.3 ∙ ap Some lanes.0),
          either_from a.0.exclusive b.0.exclusive (elim g.1 [ inl e ↦ inl (sym w.3 ∙ e) | inr e ↦ inr (sym b.2 ∙ lanes.1 ∙ e) ]),
        ),
      )

  -- what blocks is given by a node
  blocks_given_by : (q j : ℕ) (e : Entry) → entry_at es j ≡ Some e → e.pid ≡ q → e.holds ≡ true → RowsClash (row_for own) (row_for e) → GivesOf gives lists wants own.first (length own.asked) q
  blocks_given_by q j e is same holds clash =
      let shared = clash.3 in
      let k = at_in own.asked shared.0 shared.2 in
      let m = at_in e.asked shared.1 shared.3 in
      let w = wanted numbers i shared.0 (slice_get wants (own.first + k.0)) (kept.asks i own k.0 shared.0 own_is k.1) in
      let v = wanted numbers j shared.1 (slice_get wants (e.first + m.0)) (kept.asks j e m.0 shared.1 is m.1) in
      let desk : v.0.desk ≡ w.0.desk = same_Some v.0.desk w.0.desk (sym v.4 ∙ ap (desk_of numbers) (sym shared.4) ∙ w.4) in
      let at : entry_at es v.0.place ≡ Some e = ap (entry_at es) v.2 ∙ is in
      let lt = get_within e.asked m.0 shared.1 m.1 in
      let node : HoldsNode (Some e) (e.first + m.0) = (holds, omega arith, omega (arith, lt)) in
      let here = kept.sits (lane w.0.desk v.0.exclusive) (e.first + m.0) (sits_of es wants (lane w.0.desk v.0.exclusive) (e.first + m.0) v.0 e v.1 (ap (λ d. lane d v.0.exclusive) desk) at node) in
      let gave : gives (e.first + m.0) ≡ Some q =
      holder (e.first + m.0) v.0 e v.1 at ∙ ap (λ b. cond b (Some e.pid) None) (is_apart_from own e clash.0 clash.1 clash.2) ∙ ap Some same in (
        k.0,
        get_within own.asked k.0 shared.0 k.1,
        subst (λ o. GivesFor gives lists o q) (sym w.1) (
          v.0.exclusive,
          elim (either_is shared.0.exclusive shared.1.exclusive shared.5) [ inl f ↦ inl (w.3 ∙ f) | inr f ↦ inr (v.3 ∙ f) ],
          (e.first + m.0, here, gave),
        ),
      )

  blocks_given : (q : ℕ) → IsBlockedBy (rows_in es) p q → GivesOf gives lists wants own.first (length own.asked) q
  blocks_given q blocks = by (find nat_cmp places q) refl (subst (λ o. Blocks o (row_of (rows_in es) q)) own_row blocks)
    where
      there : (j : ℕ) → find nat_cmp places q ≡ Some j → (o : Option Entry) → entry_at es j ≡ o → Blocks (Some (row_for own)) (option_map row_for o) → GivesOf gives lists wants own.first (length own.asked) q
      there j at None is b = absurd b
      there j at (Some e) is b = blocks_given_by q j e is (kept.index.mine q j e at is) b.0 b.1

      by : (f : Option ℕ) → find nat_cmp places q ≡ f → Blocks (Some (row_for own)) (row_of (rows_in es) q) → GivesOf gives lists wants own.first (length own.asked) q
      by None at b = absurd (subst (Blocks (Some (row_for own))) (row_is places es kept.index q ∙ ap (λ f. option_map row_for (option_and_then (entry_at es) f)) at) b)
      by (Some j) at b = there j at (entry_at es j) refl (subst (Blocks (Some (row_for own))) (row_is places es kept.index q ∙ ap (λ f. option_map row_for (option_and_then (entry_at es) f)) at) b)

  first_by : (o : Option ℕ) → IsLowest (IsBlockedBy (rows_in es) p) o → MatchOption o (IsFree (rows_in es) p) (λ h. IsFirst (rows_in es) p h)
  first_by None is = is
  first_by (Some h) is = is

  -- the lowest that is found is the first
  pub first_is : (o : Option ℕ) → o ≡ lowest_of gives lists wants own.first (length own.asked) → MatchOption o (IsFree (rows_in es) p) (λ h. IsFirst (rows_in es) p h)
  first_is o e = first_by o (
      lowest_same (GivesOf gives lists wants own.first (length own.asked)) (IsBlockedBy (rows_in es) p) given_blocks blocks_given o
      (subst (IsLowest (GivesOf gives lists wants own.first (length own.asked))) (sym e) (lowest_wants gives lists wants own.first (length own.asked))))

-- one that isn't enlisted is free
pub free_is : (rows : List Row) (p : ℕ) → row_of rows p ≡ None → IsFree rows p
free_is rows p none q blocks = absurd (subst (λ o. Blocks o (row_of rows q)) none blocks)

-- the place of an entry that was found
pub placed : (places : List (ℕ × ℕ)) (es : List (Option Entry)) (index : IsFound places es) (p : ℕ) (own : Entry) → entry_of places es p ≡ Some own → (i : ℕ) × (entry_at es i ≡ Some own) × (own.pid ≡ p)
placed places es index p own is = by (find nat_cmp places p) refl is
  where
    by : (f : Option ℕ) → find nat_cmp places p ≡ f → option_and_then (entry_at es) f ≡ Some own → (i : ℕ) × (entry_at es i ≡ Some own) × (own.pid ≡ p)
    by None at e = absurd (none-some own e)
    by (Some i) at e = (i, e, index.mine p i own at e)
