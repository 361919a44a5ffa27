-- How runs of disk calls are put together: what a stop at any moment leaves.
use Rattle.std.proofs.Common.{inl, inr, ⊎_elim, ℕ, List, arith}
use Rattle.hm_disk.specs.Disk.{Elapses, LeavesOnly, LeavesThen}

module _ {D : Type 0} (moment : D → ℕ) (left_since : D → ℕ → List ℕ → Type 0) where
  -- before the first call
  pub started : (old : D) (P : List ℕ → Type 0) → ((c : List ℕ) → left_since old (moment old) c → P c) → LeavesOnly moment left_since old old P
  started old P here = record { later = omega arith; each = here; before = λ t c le left. inl left }

  -- one call, whose images have P
  pub one_call : (old new : D) (P image : List ℕ → Type 0) → Elapses (moment old) (moment new) (left_since old) (left_since new) image
      → ((c : List ℕ) → left_since old (moment old) c → P c) → ((c : List ℕ) → image c → P c) → LeavesOnly moment left_since old new P
  one_call old new P image time was here = record {
    later = time.later;
    each = λ c left. ⊎_elim (was c) (here c) (time.nothing_else (moment old) c (omega arith) left);
    before = λ t c le left. ⊎_elim (λ past. inl past) (λ now. inr (here c now)) (time.nothing_else t c le left);
  }

  -- one run after another
  pub joined : (old mid new : D) (P : List ℕ → Type 0) → LeavesOnly moment left_since old mid P → LeavesOnly moment left_since mid new P → LeavesOnly moment left_since old new P
  joined old mid new P first second = record {
    later = omega (arith, first.later, second.later);
    each = λ c left. ⊎_elim (first.each c) (λ p. p) (second.before (moment old) c first.later left);
    before = λ t c le left. ⊎_elim (first.before t c le) (λ p. inr p) (second.before t c (omega (arith, le, first.later)) left);
  }

  -- what has P has Q
  pub weaker : (old new : D) (P Q : List ℕ → Type 0) → ((c : List ℕ) → P c → Q c) → LeavesOnly moment left_since old new P → LeavesOnly moment left_since old new Q
  weaker old new P Q so run = record {
    later = run.later;
    each = λ c left. so c (run.each c left);
    before = λ t c le left. ⊎_elim (λ past. inl past) (λ p. inr (so c p)) (run.before t c le left);
  }

  -- the moment of the turn is now
  pub then_now : (old new : D) (Q P : List ℕ → Type 0) → LeavesOnly moment left_since old new Q → ((c : List ℕ) → left_since new (moment new) c → P c) → LeavesThen moment left_since old new Q P
  then_now old new Q P run now = record {
    at = moment new;
    from = run.later;
    to = omega arith;
    since = now;
    earlier = λ t c le left. ⊎_elim (λ past. inl past) (λ q. inr (inl q)) (run.before t c le left);
  }

  -- what comes after has P too
  pub then_stays : (old mid new : D) (Q P : List ℕ → Type 0) → LeavesThen moment left_since old mid Q P → LeavesOnly moment left_since mid new P → LeavesThen moment left_since old new Q P
  then_stays old mid new Q P so_far run = record {
    at = so_far.at;
    from = so_far.from;
    to = omega (arith, so_far.to, run.later);
    since = λ c left. ⊎_elim (so_far.since c) (λ p. p) (run.before so_far.at c so_far.to left);
    earlier = λ t c le left. ⊎_elim (so_far.earlier t c le) (λ p. inr (inr p)) (run.before t c (omega (arith, le, so_far.from, so_far.to)) left);
  }

  -- what has P has R
  pub then_weaker : (old new : D) (Q P R : List ℕ → Type 0) → ((c : List ℕ) → P c → R c) → LeavesThen moment left_since old new Q P → LeavesThen moment left_since old new Q R
  then_weaker old new Q P R so run = record {
    at = run.at;
    from = run.from;
    to = run.to;
    since = λ c left. so c (run.since c left);
    earlier = λ t c le left. ⊎_elim (λ past. inl past) (⊎_elim (λ q. inr (inl q)) (λ p. inr (inr (so c p)))) (run.earlier t c le left);
  }

  -- what had Q had R
  pub earlier_weaker : (old new : D) (Q P R : List ℕ → Type 0) → ((c : List ℕ) → Q c → R c) → LeavesThen moment left_since old new Q P → LeavesThen moment left_since old new R P
  earlier_weaker old new Q P R so run = record {
    at = run.at;
    from = run.from;
    to = run.to;
    since = run.since;
    earlier = λ t c le left. ⊎_elim (λ past. inl past) (⊎_elim (λ q. inr (inl (so c q))) (λ p. inr (inr p))) (run.earlier t c le left);
  }
