-- Resources are found by their keys alone.
use Rattle.std.proofs.Common.{◌≡◌, ◌≢◌, ℕ, ◌+◌, ◌<◌, List, [], ◌∷◌, true, false, if◌then◌else◌, Some, None, refl, ap, sym, ◌∙◌, inl, inr, ◌⊎◌, arith}
use Rattle.std.proofs.lemmas.Option.{same_Some, none-some}
use Rattle.std.proofs.lemmas.Cmp.{ranked, tied_itself, nat_cmp_total, nat_list_cmp_total}
use Rattle.std.proofs.lemmas.Slice.Eq.{bytes_eq-Decides}
use Rattle.std.specs.Cmp.Lexicographic.{texts_ties}
use Rattle.std.specs.Ordering.{is_eq, nat_cmp, ordering_then}
use Rattle.std.specs.declared.cmp.Ordering.{Ordering}
use Rattle.std.specs.declared.cmp.Ordering.TheVariants.{Less, Equal, Greater}
use Rattle.hm_names.specs.Order.{bytes_cmp, server_cmp}
use Rattle.hm_names.specs.Server.{Server}
use Rattle.hm_index.specs.Index.{find}
use Rattle.hm_model.specs.declared.lock.Resource.{Resource}
use Rattle.hm_model.specs.declared.lock.Resource.TheVariants as resource_is
use Rattle.hm_model.proofs.KeyTests.{key_cmp-is, key_cmp-refl}
use Rattle.hm_locks.specs.declared.key.Key.{Key}
use Rattle.hm_locks.specs.declared.key.Key.TheVariants as lock_is
use Rattle.hm_locks.specs.Kept.{AreDesks}
use Rattle.hm_locks.specs.Keys.{key_of, lock_cmp}

both_equal : (o p : Ordering) → ordering_then o p ≡ Equal → (o ≡ Equal) × (p ≡ Equal)
both_equal Less p h = cc
both_equal Equal p h = (refl, h)
both_equal Greater p h = cc

both_refl : (o p : Ordering) → o ≡ Equal → p ≡ Equal → ordering_then o p ≡ Equal
both_refl o p e f = ap (λ x. ordering_then x p) e ∙ f

nat_cmp-is : (a b : ℕ) → nat_cmp a b ≡ Equal → a ≡ b
nat_cmp-is a b h = ranked a b Equal (sym h)

server_cmp-is : (a b : Server) → server_cmp a b ≡ Equal → a ≡ b
server_cmp-is a b h =
    let one = both_equal (bytes_cmp a.host b.host) (ordering_then (nat_cmp a.port b.port) (nat_cmp a.start b.start)) h in
    let two = both_equal (nat_cmp a.port b.port) (nat_cmp a.start b.start) one.1 in
    let host : a.host ≡ b.host = (bytes_eq-Decides a.host b.host).0 (texts_ties a.host b.host ∙ ap is_eq one.0) in
    ap (λ x. let s : Server = record { host = x; port = a.port; start = a.start } in s) host
    ∙ ap (λ x. let s : Server = record { host = b.host; port = x; start = a.start } in s) (nat_cmp-is a.port b.port two.0)
    ∙ ap (λ x. let s : Server = record { host = b.host; port = b.port; start = x } in s) (nat_cmp-is a.start b.start two.1)

nat_cmp-refl : (a : ℕ) → nat_cmp a a ≡ Equal
nat_cmp-refl a = tied_itself nat_cmp_total a

server_cmp-refl : (a : Server) → server_cmp a a ≡ Equal
server_cmp-refl a =
    both_refl (bytes_cmp a.host a.host) (ordering_then (nat_cmp a.port a.port) (nat_cmp a.start a.start)) (tied_itself nat_list_cmp_total a.host)
    (both_refl (nat_cmp a.port a.port) (nat_cmp a.start a.start) (nat_cmp-refl a.port) (nat_cmp-refl a.start))

lock_cmp-is : (a b : Key) → lock_cmp a b ≡ Equal → a ≡ b
lock_cmp-is (lock_is.Row a) (lock_is.Row b) h = ap lock_is.Row (key_cmp-is a b h)
lock_cmp-is (lock_is.Row a) (lock_is.Server b) h = cc
lock_cmp-is (lock_is.Server a) (lock_is.Row b) h = cc
lock_cmp-is (lock_is.Server a) (lock_is.Server b) h = ap lock_is.Server (server_cmp-is a b h)

lock_cmp-refl : (a : Key) → lock_cmp a a ≡ Equal
lock_cmp-refl (lock_is.Row a) = key_cmp-refl a
lock_cmp-refl (lock_is.Server a) = server_cmp-refl a

pub key_of-same : (a b : Resource) → key_of a ≡ key_of b → a ≡ b
key_of-same (resource_is.Ns a) (resource_is.Ns b) h = let e : a ≡ b = cc in ap resource_is.Ns e
key_of-same (resource_is.Ns a) (resource_is.Table b) h = cc
key_of-same (resource_is.Ns a) (resource_is.Region b) h = cc
key_of-same (resource_is.Ns a) (resource_is.Server b) h = cc
key_of-same (resource_is.Table a) (resource_is.Ns b) h = cc
key_of-same (resource_is.Table a) (resource_is.Table b) h = let e : a ≡ b = cc in ap resource_is.Table e
key_of-same (resource_is.Table a) (resource_is.Region b) h = cc
key_of-same (resource_is.Table a) (resource_is.Server b) h = cc
key_of-same (resource_is.Region a) (resource_is.Ns b) h = cc
key_of-same (resource_is.Region a) (resource_is.Table b) h = cc
key_of-same (resource_is.Region a) (resource_is.Region b) h = let e : a ≡ b = cc in ap resource_is.Region e
key_of-same (resource_is.Region a) (resource_is.Server b) h = cc
key_of-same (resource_is.Server a) (resource_is.Ns b) h = cc
key_of-same (resource_is.Server a) (resource_is.Table b) h = cc
key_of-same (resource_is.Server a) (resource_is.Region b) h = cc
key_of-same (resource_is.Server a) (resource_is.Server b) h = let e : a ≡ b = cc in ap resource_is.Server e

-- the test of a key: it is the other, or it isn't
ties : (key other : Key) → ((is_eq (lock_cmp key other) ≡ true) × (key ≡ other)) ⊎ ((is_eq (lock_cmp key other) ≡ false) × (key ≢ other))
ties key other = by (lock_cmp key other) refl
  where
    apart : (o : Ordering) → lock_cmp key other ≡ o → o ≢ Equal → key ≢ other
    apart o e differs same = differs (sym e ∙ ap (λ k. lock_cmp k other) same ∙ lock_cmp-refl other)

    by : (o : Ordering) → lock_cmp key other ≡ o → ((is_eq o ≡ true) × (key ≡ other)) ⊎ ((is_eq o ≡ false) × (key ≢ other))
    by Less e = inr (refl, apart Less e (λ f. cc))
    by Equal e = inl (refl, lock_cmp-is key other e)
    by Greater e = inr (refl, apart Greater e (λ f. cc))

-- two orders that compare alike find the same
find_alike : {K V : Type 0} (one other : K → K → Ordering) → ((a b : K) → one a b ≡ other a b) → (pairs : List (K × V)) (key : K) → find one pairs key ≡ find other pairs key
find_alike one other alike [] key = refl
find_alike one other alike (pair ∷ pairs) key =
    ap (λ o. if is_eq o then Some pair.1 else find one pairs key) (alike pair.0 key)
    ∙ ap (λ f. if is_eq (other pair.0 key) then Some pair.1 else f) (find_alike one other alike pairs key)

module _ (cmp : Key → Key → Ordering) (alike : (a b : Key) → cmp a b ≡ lock_cmp a b) where
  pub found : (pairs : List (Key × ℕ)) (key : Key) → find cmp pairs key ≡ find lock_cmp pairs key
  found pairs key = find_alike cmp lock_cmp alike pairs key

  -- the numbers with one for a key that had none
  module _ (old new : List (Key × ℕ)) (key : Key) (count limit : ℕ)
      (none : find cmp old key ≡ None) (desks : AreDesks old count limit)
      (each : (other : Key) → find cmp new other ≡ (if is_eq (cmp key other) then Some count else find cmp old other)) where
    after : (other : Key) → find lock_cmp new other ≡ (if is_eq (lock_cmp key other) then Some count else find lock_cmp old other)
    after other =
        sym (found new other) ∙ each other
        ∙ ap (λ o. if is_eq o then Some count else find cmp old other) (alike key other)
        ∙ ap (λ f. if is_eq (lock_cmp key other) then Some count else f) (found old other)

    -- it is the new one with its number, or one that had a number
    which : (other : Key) → ((key ≡ other) × (find lock_cmp new other ≡ Some count)) ⊎ ((key ≢ other) × (find lock_cmp new other ≡ find lock_cmp old other))
    which other = elim (ties key other) [
      | inl same ↦ inl (same.1, after other ∙ ap (λ b. if b then Some count else find lock_cmp old other) same.0)
      | inr differs ↦ inr (differs.1, after other ∙ ap (λ b. if b then Some count else find lock_cmp old other) differs.0)
    ]

    pub numbered : find lock_cmp new key ≡ Some count
    numbered = elim (which key) [ inl here ↦ here.1 | inr there ↦ absurd (there.0 refl) ]

    pub kept : (other : Key) (d : ℕ) → find lock_cmp old other ≡ Some d → find lock_cmp new other ≡ Some d
    kept other d e = elim (which other) [
      | inl here ↦ absurd (none-some d (sym none ∙ found old key ∙ ap (find lock_cmp old) here.0 ∙ e))
      | inr there ↦ there.1 ∙ e
    ]

    pub desks_after : count < limit → AreDesks new (count + 1) limit
    desks_after below = record {
      most = omega (arith, below);
      few = desks.few;
      within = λ a d e. elim (which a) [
        | inl here ↦ (let same = same_Some count d (sym here.1 ∙ e) in omega (arith, same))
        | inr there ↦ (let lt = desks.within a d (sym there.1 ∙ e) in omega (arith, lt))
      ];
      apart = λ a b d e f. elim (which a) [
        | inl one ↦ elim (which b) [
          | inl other ↦ sym one.0 ∙ other.0
          | inr other ↦ absurd (let same = same_Some count d (sym one.1 ∙ e) in let lt = desks.within b d (sym other.1 ∙ f) in omega (arith, same, lt))
        ]
        | inr one ↦ elim (which b) [
          | inl other ↦ absurd (let same = same_Some count d (sym other.1 ∙ f) in let lt = desks.within a d (sym one.1 ∙ e) in omega (arith, same, lt))
          | inr other ↦ desks.apart a b d (sym one.1 ∙ e) (sym other.1 ∙ f)
        ]
      ];
    }
