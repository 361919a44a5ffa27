-- Wants that are added, one after another.
use Rattle.std.proofs.Common.{◌≡◌, ℕ, zero, suc, ◌++◌, List, [], ◌∷◌, length, map, cond, Option, Some, None, slice_get, refl, sym, ap, ◌∙◌, subst, inl, inr, arith, length-append, append_assoc, append-nil}
use Rattle.std.proofs.lemmas.Bool.{cases_eq, eq-eqb, ne_eqb}
use Rattle.std.proofs.lemmas.Option.{none-some, same_Some}
use Rattle.hm_index.specs.Index.{find}
use Rattle.hm_model.specs.declared.lock.Ask.{Ask}
use Rattle.hm_locks.specs.declared.draft.Claim.{Claim}
use Rattle.hm_locks.specs.declared.entry.Want.{Want}
use Rattle.hm_locks.specs.declared.key.Key.{Key}
use Rattle.hm_locks.specs.Kept.{AreAdded, IsClaimed, IsWanted, claim_of}
use Rattle.hm_locks.specs.Keys.{lock_cmp}
use Rattle.hm_locks.proofs.Places.{slice_get-push}

-- a want is that of its claim, also where more numbers are given
claimed_still : (numbers numbers' : List (Key × ℕ)) → ((key : Key) (d : ℕ) → find lock_cmp numbers key ≡ Some d → find lock_cmp numbers' key ≡ Some d)
    → (place : ℕ) (claim : Claim) (o : Option Want) → IsClaimed numbers place claim o → IsClaimed numbers' place claim o
claimed_still numbers numbers' still place claim None is = absurd is
claimed_still numbers numbers' still place claim (Some want) is = (is.0, is.1, still claim.key want.desk is.2)

-- none is added
pub added_none : (numbers : List (Key × ℕ)) (place : ℕ) (wants : List Want) → AreAdded numbers place [] wants wants
added_none numbers place wants = record {
  more = [];
  items = sym (append-nil wants);
  count = refl;
  wants = λ k claim is. absurd (none-some claim is);
}

-- one more is added
pub added_next : (numbers numbers' : List (Key × ℕ)) (place : ℕ) (claims : List Claim) (claim : Claim) (old now new : List Want)
    → AreAdded numbers place claims old now
    → ((key : Key) (d : ℕ) → find lock_cmp numbers key ≡ Some d → find lock_cmp numbers' key ≡ Some d)
    → (want : Want) × (new ≡ now ++ want ∷ []) × IsClaimed numbers' place claim (Some want)
    → AreAdded numbers' place (claims ++ claim ∷ []) old new
added_next numbers numbers' place claims claim old now new was still one = record {
  more = was.more ++ one.0 ∷ [];
  items = one.1 ∙ ap (λ l. l ++ one.0 ∷ []) was.items ∙ append_assoc old was.more (one.0 ∷ []);
  count = (let long = length-append was.more (one.0 ∷ []) in let all = length-append claims (claim ∷ []) in let count = was.count in omega (arith, long, all, count));
  wants = λ k other is. elim (cases_eq (length claims) k) [
    | inl here ↦
        let last : claim ≡ other = same_Some claim other (sym (slice_get-push claims claim k ∙ ap (λ b. cond b (Some claim) (slice_get claims k)) (eq-eqb (length claims) k here)) ∙ is) in
        let at : slice_get (was.more ++ one.0 ∷ []) k ≡ Some one.0 = slice_get-push was.more one.0 k ∙ ap (λ b. cond b (Some one.0) (slice_get was.more k)) (eq-eqb (length was.more) k (was.count ∙ here)) in
        subst (λ (x : Claim). IsClaimed numbers' place x (slice_get (was.more ++ one.0 ∷ []) k)) last (subst (IsClaimed numbers' place claim) (sym at) one.2)
    | inr there ↦
        let before : slice_get claims k ≡ Some other = sym (slice_get-push claims claim k ∙ ap (λ b. cond b (Some claim) (slice_get claims k)) (ne_eqb (length claims) k there)) ∙ is in
        let at : slice_get (was.more ++ one.0 ∷ []) k ≡ slice_get was.more k = slice_get-push was.more one.0 k ∙ ap (λ b. cond b (Some one.0) (slice_get was.more k)) (ne_eqb (length was.more) k (λ e. there (sym was.count ∙ e))) in
        subst (IsClaimed numbers' place other) (sym at) (claimed_still numbers numbers' still place other (slice_get was.more k) (was.wants k other before))
  ];
}

get_claim : (asked : List Ask) (k : ℕ) (a : Ask) → slice_get asked k ≡ Some a → slice_get (map claim_of asked) k ≡ Some (claim_of a)
get_claim [] k a is = absurd (none-some a is)
get_claim (b ∷ asked) zero a is = ap (λ x. Some (claim_of x)) (same_Some b a is)
get_claim (b ∷ asked) (suc k) a is = get_claim asked k a is

count_claims : (asked : List Ask) → length (map claim_of asked) ≡ length asked
count_claims [] = refl
count_claims (a ∷ asked) = ap suc (count_claims asked)

-- the wants of all claims are those of the asks
pub wants_asked : (numbers : List (Key × ℕ)) (place : ℕ) (asked : List Ask) (claims : List Claim) (old new : List Want) → claims ≡ map claim_of asked
    → (added : AreAdded numbers place claims old new)
    → (length added.more ≡ length asked) × ((k : ℕ) (a : Ask) → slice_get asked k ≡ Some a → IsWanted numbers place a (slice_get added.more k))
wants_asked numbers place asked claims old new is added = (
  added.count ∙ ap length is ∙ count_claims asked,
  (λ k a at. added.wants k (claim_of a) (ap (λ l. slice_get l k) is ∙ get_claim asked k a at)),
)
