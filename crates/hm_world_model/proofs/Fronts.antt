-- The first entries of a journal.
use Rattle.std.proofs.Common.{◌≡◌, ℕ, zero, suc, ◌+◌, ◌-◌, ◌≤◌, [], ◌∷◌, length, drop, length-drop, Option, Some, None, refl, ap, sym, ◌∙◌, arith}
use Rattle.hm_data.specs.declared.entry.Entry.{Entry}
use Rattle.hm_model.specs.Journal.{Past}
use Rattle.hm_world_model.specs.World.{first, with_tail}

drop_nothing : (n : ℕ) → drop {A = Entry} n [] ≡ []
drop_nothing zero = refl
drop_nothing (suc n) = refl

pub drop_again : (m n : ℕ) (past : Past) → drop m (drop n past) ≡ drop (n + m) past
drop_again m zero past = let e : 0 + m ≡ m = omega arith in rw e refl
drop_again m (suc n) [] = let e : suc n + m ≡ suc (n + m) = omega arith in rw e (drop_nothing m)
drop_again m (suc n) (x ∷ past) = let e : suc n + m ≡ suc (n + m) = omega arith in rw e (drop_again m n past)

pub first_length : (k : ℕ) (past : Past) → k ≤ length past → length (first k past) ≡ k
first_length k past h = omega (arith, h, length-drop (length past - k) past)

-- what is durable is a front of the journal with its tail
pub durable_whole : (tail : Option Entry) (past : Past) (d : ℕ) → d ≤ length past → first d past ≡ first d (with_tail tail past)
durable_whole None past d within = refl
durable_whole (Some entry) past d within = ap (λ n. drop n (entry ∷ past)) (sym longer_by)
  where
    longer_by : length (entry ∷ past) - d ≡ suc (length past - d)
    longer_by = omega (arith, within)

pub one_more : (entry : Entry) (past : Past) (d : ℕ) → d ≤ length past → first d past ≡ first d (entry ∷ past)
one_more entry past d within = durable_whole (Some entry) past d within

-- a shorter front of a front
pub shorter : (past : Past) (d k : ℕ) → d ≤ k → k ≤ length past → first d past ≡ drop (k - d) (first k past)
shorter past d k low high = sym (drop_again (k - d) (length past - k) past ∙ ap (λ n. drop n past) same)
  where
    same : (length past - k) + (k - d) ≡ length past - d
    same = omega (arith, low, high)

-- a front of so many is all of it
pub whole_front : (past : Past) (k : ℕ) → k ≤ length past → first k (first k past) ≡ first k past
whole_front past k high = ap (λ n. drop n (first k past)) same
  where
    same : length (first k past) - k ≡ 0
    same = omega (arith, high, length-drop (length past - k) past)

pub all_front : (past : Past) (k : ℕ) → k ≡ length past → first k past ≡ past
all_front past k all = (let none : length past - k ≡ 0 = omega (arith, all) in ap (λ n. drop n past) none)
