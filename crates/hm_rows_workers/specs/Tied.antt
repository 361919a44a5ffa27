-- What is seen of the hall is what the gate sees.
use Rattle.std.proofs.Common.{◌≡◌, ◌≢◌, ◌⊎◌, inl, inr, ⊎_elim, ℕ, zero, suc, ◌+◌, ◌*◌, ◌^◌, ◌<◌, List, [], ◌∷◌, ◌++◌, length, Option, Some, None, false, refl, ap, sym, subst, arith}
use Rattle.std.specs.Prelude.{slice_get}
use Rattle.std.proofs.lemmas.Option.{none-some, same_Some, slice_get_within}
use Rattle.hm_data.specs.declared.entry.Entry.{Entry}
use Rattle.hm_gate.specs.Total.{times, same}
use Rattle.hm_gate.proofs.Totals.{same-cases, times-append}
use Rattle.hm_lend.specs.Hall.{Editions}
use Rattle.hm_lend.specs.Ties.{Ties}
use Rattle.hm_model.specs.Locks.{IsIn}
use Rattle.hm_rows_workers.specs.declared.stage.Stage.{Stage}
use Rattle.hm_rows_workers.specs.declared.stage.Stage.TheVariants as stage_is
use Rattle.hm_rows_workers.specs.Tasks.{as_list, log_number, outs_from}

-- the number stands once in a list where it is one of it, and else not
abbrev pub Stands : ℕ → List ℕ → Type 0 → Type 0
Stands n xs Is = ((times n xs ≡ 1) × Is) ⊎ ((times n xs ≡ 0) × (Is → ⊥))

-- the numbers that are out begin with the first of the list
pub below : (k n : ℕ) (l : List Stage) → n < k → IsIn n (outs_from k l) → ⊥
below k n [] low is = is
below k n (stage_is.Out ∷ l) low is = ⊎_elim (λ (e : n ≡ k). omega arith) (λ r. below (suc k) n l (omega arith) r) is
below k n (stage_is.Waits ∷ l) low is = below (suc k) n l (omega arith) is
below k n (stage_is.Done ∷ l) low is = below (suc k) n l (omega arith) is

-- a task whose stage says so is out
pub out_at : (k i n : ℕ) (l : List Stage) → n ≡ k + i → slice_get l i ≡ Some stage_is.Out → IsIn n (outs_from k l)
out_at k i n [] e is = absurd (none-some stage_is.Out is)
out_at k zero n (stage_is.Out ∷ l) e is = inl (omega arith)
out_at k zero n (stage_is.Waits ∷ l) e is = absurd cc
out_at k zero n (stage_is.Done ∷ l) e is = absurd cc
out_at k (suc i) n (stage_is.Out ∷ l) e is = inr (out_at (suc k) i n l (omega arith) is)
out_at k (suc i) n (stage_is.Waits ∷ l) e is = out_at (suc k) i n l (omega arith) is
out_at k (suc i) n (stage_is.Done ∷ l) e is = out_at (suc k) i n l (omega arith) is

-- one that is out has such a stage
pub in_at : (k n : ℕ) (l : List Stage) → IsIn n (outs_from k l) → (i : ℕ) × (n ≡ k + i) × (slice_get l i ≡ Some stage_is.Out)
in_at k n [] is = absurd is
in_at k n (stage_is.Out ∷ l) is = ⊎_elim (λ (e : n ≡ k). (zero, omega arith, refl)) (λ r. let t = in_at (suc k) n l r in (suc t.0, (let e = t.1 in omega arith), t.2)) is
in_at k n (stage_is.Waits ∷ l) is = let t = in_at (suc k) n l is in (suc t.0, (let e = t.1 in omega arith), t.2)
in_at k n (stage_is.Done ∷ l) is = let t = in_at (suc k) n l is in (suc t.0, (let e = t.1 in omega arith), t.2)

-- none is out twice
pub stands : (k n : ℕ) (l : List Stage) → Stands n (outs_from k l) (IsIn n (outs_from k l))
stands k n [] = inr (refl, λ is. is)
stands k n (stage_is.Waits ∷ l) = stands (suc k) n l
stands k n (stage_is.Done ∷ l) = stands (suc k) n l
stands k n (stage_is.Out ∷ l) = ⊎_elim
    (λ (e : (n ≡ k) × (same n k ≡ 1)). ⊎_elim
    (λ here. absurd (below (suc k) n l (let q = e.0 in omega arith) here.1))
    (λ none. inl ((let a = e.1 in let b = none.0 in omega arith), inl e.0))
    (stands (suc k) n l))
    (λ (e : (n ≢ k) × (same n k ≡ 0)). ⊎_elim
    (λ here. inl ((let a = e.1 in let b = here.0 in omega arith), inr here.1))
    (λ none. inr ((let a = e.1 in let b = none.0 in omega arith), λ is. ⊎_elim (λ q. e.0 q) none.1 is))
    (stands (suc k) n l))
    (same-cases n k)

-- nor with the log
pub with_log : (n : ℕ) (xs : List ℕ) (log : Option ℕ) → Stands n xs (IsIn n xs) → ((m : ℕ) → log ≡ Some m → IsIn m xs → ⊥) → Stands n (xs ++ as_list log) (IsIn n xs ⊎ (log ≡ Some n))
with_log n xs None s apart = let a = times-append n xs [] in ⊎_elim
    (λ here. inl ((let b = here.0 in omega arith), inl here.1))
    (λ none. inr ((let b = none.0 in omega arith), λ is. ⊎_elim none.1 (λ e. none-some n e) is))
    s
with_log n xs (Some m) s apart = let a = times-append n xs (m ∷ []) in ⊎_elim
    (λ (e : (n ≡ m) × (same n m ≡ 1)). ⊎_elim
    (λ here. absurd (apart m refl (subst (λ (q : ℕ). IsIn q xs) e.0 here.1)))
    (λ none. inl ((let b = none.0 in let c = e.1 in omega arith), inr (ap (λ (q : ℕ). Some q) (sym e.0))))
    s)
    (λ (e : (n ≢ m) × (same n m ≡ 0)). ⊎_elim
    (λ here. inl ((let b = here.0 in let c = e.1 in omega arith), inl here.1))
    (λ none. inr ((let b = none.0 in let c = e.1 in omega arith), λ is. ⊎_elim none.1 (λ q. e.0 (sym (same_Some m n q))) is))
    s)
    (same-cases n m)

-- the log's number is greater than that of each task
pub log_apart : (durable : ℕ) (lent : Option ℕ) (l : List Stage) → length l < 2 ^ 64 → (m : ℕ) → log_number durable lent ≡ Some m → IsIn m (outs_from 0 l) → ⊥
log_apart durable None l few m e is = none-some m e
log_apart durable (Some count) l few m e is =
    let t = in_at 0 m l is in let a = t.1 in let b = slice_get_within l t.0 stage_is.Out t.2 in
    let c : 2 ^ 64 * (durable + 1) + count ≡ m = same_Some (2 ^ 64 * (durable + 1) + count) m e in omega arith

-- what is seen of the hall is what the gate sees
pub tied : {T : Type 0} (editions_in : T → Editions) (terms : T) (items : List Entry) (durable : ℕ) (lent : Option ℕ) (l : List Stage) → length l < 2 ^ 64
    → Ties editions_in (record { items = items; outs = outs_from 0 l ++ as_list (log_number durable lent); stopped = false; terms = terms })
    (record { items = items; durable = durable; claimed = outs_from 0 l; lent = log_number durable lent; stopped = None; editions = editions_in terms })
tied editions_in terms items durable lent l few = record {
  items = refl;
  outs = λ n. with_log n (outs_from 0 l) (log_number durable lent) (stands 0 n l) (log_apart durable lent l few);
  stopped = refl;
  editions = refl;
}
