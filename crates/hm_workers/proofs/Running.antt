-- What a worker added, and its runs, over several stays and tasks.
use Rattle.std.proofs.Common.{◌≡◌, ◌⊎◌, inl, inr, ⊎_elim, ℕ, ◌+◌, ◌-◌, ◌^◌, ◌≤◌, List, [], ◌∷◌, ◌++◌, sym, ap, subst, ◌∙◌, arith, append-nil, append_assoc}
use Rattle.std.specs.Prelude.{true, Result, Ok, Err, OnOk}
use Rattle.std.proofs.lemmas.Option.{same_Some}
use Rattle.hm_data.specs.declared.entry.Entry.{Entry}
use Rattle.hm_gate.specs.Weights.{weigh_pairs}
use Rattle.hm_gate.specs.declared.view.View.{View}
use Rattle.hm_hall.specs.declared.fault.HallFault.{HallFault}
use Rattle.hm_hall.specs.declared.fault.HallFault.TheVariants as fault_is
use Rattle.hm_lend.specs.Hall.{Editions}
use Rattle.hm_lend.specs.Stays.{one_step}
use Rattle.hm_sheet.specs.Words.{risen}
use Rattle.hm_workers.specs.Ends.{EndIs, IsSamePart, Knows, StopsBy, end_for}
use Rattle.hm_workers.specs.Ran.{Adds, GainsBy, OwnItems, RanFor, RanOnce}

own_both : (editions : Editions) (a b : List (ℕ × Entry)) → OwnItems editions a → OwnItems editions b → OwnItems editions (a ++ b)
own_both editions [] b p q = q
own_both editions (x ∷ a) b p q = (p.0, own_both editions a b p.1 q)

weigh_both : (a b : List (ℕ × Entry)) → weigh_pairs one_step (a ++ b) ≡ weigh_pairs one_step a + weigh_pairs one_step b
weigh_both [] b = omega arith
weigh_both (x ∷ a) b = let r = weigh_both a b in omega arith

-- a seat that stays the same part knows the same
pub knows_on : {T : Type 0} (editions_in : T → Editions) (v w : View Entry T) (editions : Editions) → IsSamePart v w → Knows editions_in v editions → Knows editions_in w editions
knows_on editions_in v w editions part knows terms is = knows terms (sym part.terms ∙ is)

module _ (editions : Editions) where
  pub gains_none : (a : List (ℕ × Entry)) → GainsBy editions 0 a a
  gains_none a = record { more = []; mine_is = sym (append-nil a); own = tt; few = omega arith }

  pub gains_then : (m n : ℕ) (a b c : List (ℕ × Entry)) → GainsBy editions m a b → GainsBy editions n b c → GainsBy editions (m + n) a c
  gains_then m n a b c f g = record {
    more = f.more ++ g.more;
    mine_is = g.mine_is ∙ ap (λ (l : List (ℕ × Entry)). l ++ g.more) f.mine_is ∙ append_assoc a f.more g.more;
    own = own_both editions f.more g.more f.own g.own;
    few = let s = weigh_both f.more g.more in let p = f.few in let q = g.few in omega arith;
  }

  -- what was added by the terms that a seat knows
  pub known : {T : Type 0} (editions_in : T → Editions) (most : ℕ) (v w : View Entry T) → Knows editions_in v editions → Adds editions_in most v w → GainsBy editions most v.mine w.mine
  known editions_in most v w knows adds = subst (λ (e : Editions). GainsBy e most v.mine w.mine) (knows adds.0 adds.1) adds.2

  pub ran_first : (a : List (ℕ × Entry)) (r : ℕ) → RanFor editions a a r r
  ran_first a r = record { more = []; mine_is = sym (append-nil a); own = tt; ran = inl (omega arith) }

  -- a run is seen, or the runs stand at their end
  risen_is : (s : ℕ) → (risen s ≡ s + 1) ⊎ (2 ^ 64 - 1 ≤ risen s)
  risen_is s = ⊎_elim (λ (a : s + 1 ≤ 2 ^ 64 - 1). inl (omega arith)) (λ (b : 2 ^ 64 - 1 ≤ s + 1). inr (omega arith)) (either_way (s + 1) (2 ^ 64 - 1))
    where
      either_way : (a b : ℕ) → (a ≤ b) ⊎ (b ≤ a)
      either_way a b = grind arith

  joined : (n : ℕ) (a b c : List (ℕ × Entry)) (r s t : ℕ) (f : RanFor editions a b r s) (g : GainsBy editions n b c) → ((weigh_pairs one_step f.more + n + r ≤ t) ⊎ (2 ^ 64 - 1 ≤ t)) → RanFor editions a c r t
  joined n a b c r s t f g runs = record {
    more = f.more ++ g.more;
    mine_is = g.mine_is ∙ ap (λ (l : List (ℕ × Entry)). l ++ g.more) f.mine_is ∙ append_assoc a f.more g.more;
    own = own_both editions f.more g.more f.own g.own;
    ran = ⊎_elim
        (λ (h : weigh_pairs one_step f.more + n + r ≤ t). inl (let e = weigh_both f.more g.more in let q = g.few in omega arith))
        (λ (h : 2 ^ 64 - 1 ≤ t). inr h)
        runs;
  }

  pub ran_then : (a b c : List (ℕ × Entry)) (r s t : ℕ) → RanFor editions a b r s → RanOnce editions b c s t → RanFor editions a c r t
  ran_then a b c r s t f (inl g) = joined 0 a b c r s t f g.0 (⊎_elim
      (λ (h : weigh_pairs one_step f.more + r ≤ s). inl (let e = g.1 in omega arith))
      (λ (h : 2 ^ 64 - 1 ≤ s). inr (subst (λ (n : ℕ). 2 ^ 64 - 1 ≤ n) (sym g.1) h))
      f.ran)
  ran_then a b c r s t f (inr g) = joined 1 a b c r s t f g.0 (⊎_elim
      (λ (h : weigh_pairs one_step f.more + r ≤ s). ⊎_elim
      (λ (k : risen s ≡ s + 1). inl (let e = g.1 ∙ k in omega arith))
      (λ (k : 2 ^ 64 - 1 ≤ risen s). inr (subst (λ (n : ℕ). 2 ^ 64 - 1 ≤ n) (sym g.1) k))
      (risen_is s))
      (λ (h : 2 ^ 64 - 1 ≤ s). inr (subst (λ (n : ℕ). 2 ^ 64 - 1 ≤ n) (sym g.1) (at_end s h)))
      f.ran)
    where
      at_end : (s : ℕ) → 2 ^ 64 - 1 ≤ s → 2 ^ 64 - 1 ≤ risen s
      at_end s h = omega arith

-- how a worker ends by a fault
pub ends_by : {T : Type 0} (rests : T → List Entry → Type 0) (v : View Entry T) (fault : HallFault) → StopsBy v fault → EndIs rests v (end_for fault)
ends_by rests v fault_is.Memory by = tt
ends_by rests v fault_is.LogFault by = by
ends_by rests v (fault_is.JournalFull bytes) by = by
ends_by rests v (fault_is.Halted why) by = by

-- a stop goes on through another stay
pub stops_on : {T : Type 0} (v w : View Entry T) (fault : HallFault) → (v.stopped ≡ true → w.stopped ≡ true) → StopsBy v fault → StopsBy w fault
stops_on v w fault_is.Memory on by = tt
stops_on v w fault_is.LogFault on by = on by
stops_on v w (fault_is.JournalFull bytes) on by = on by
stops_on v w (fault_is.Halted why) on by = on by

-- a stay that adds no step, after one that added so many
pub adds_more : {T : Type 0} (editions_in : T → Editions) (most : ℕ) (u v w : View Entry T) → IsSamePart u v → Adds editions_in most u v → Adds editions_in 0 v w → Adds editions_in most u w
adds_more editions_in most u v w part a b =
    let same_terms = same_Some b.0 a.0 (sym b.1 ∙ part.terms ∙ a.1) in
    let g : GainsBy (editions_in a.0) 0 v.mine w.mine = subst (λ t. GainsBy (editions_in t) 0 v.mine w.mine) same_terms b.2 in
    let both = gains_then (editions_in a.0) most 0 u.mine v.mine w.mine a.2 g in
    (a.0, a.1, record { more = both.more; mine_is = both.mine_is; own = both.own; few = let f = both.few in omega arith })

module _ (editions : Editions) where
  -- a stay that adds no step, and one task after it
  pub once_then : (a b c : List (ℕ × Entry)) (r s : ℕ) → GainsBy editions 0 a b → RanOnce editions b c r s → RanOnce editions a c r s
  once_then a b c r s f (inl g) = inl (gains_then editions 0 0 a b c f g.0, g.1)
  once_then a b c r s f (inr g) = inr (gains_then editions 0 1 a b c f g.0, g.1)

  -- many tasks and one more, by what serves with the same sheets
  pub ran_on : (same_editions : Editions) (a b c : List (ℕ × Entry)) (r s t : ℕ) → same_editions ≡ editions → RanFor editions a b r s → RanOnce same_editions b c s t → RanFor editions a c r t
  ran_on same_editions a b c r s t is f g = ran_then editions a b c r s t f (subst (λ (e : Editions). RanOnce e b c s t) is g)

-- a seat that stays the same part knows the same, of what serves with the same sheets
pub knows_still : {T : Type 0} (editions_in : T → Editions) (v w : View Entry T) (editions same_editions : Editions) → same_editions ≡ editions → IsSamePart v w → Knows editions_in v editions → Knows editions_in w same_editions
knows_still editions_in v w editions same_editions is part knows terms has = knows terms (sym part.terms ∙ has) ∙ sym is

-- the same part through two stays
pub part_on : {I T : Type 0} (u v w : View I T) → IsSamePart u v → IsSamePart v w → IsSamePart u w
part_on u v w a b = record { parts = b.parts ∙ a.parts; seats = b.seats ∙ a.seats; opening = b.opening ∙ a.opening; terms = b.terms ∙ a.terms }

-- what holds anyhow holds of an answer
pub anyhow : {A B P : Type 0} (r : Result A B) → P → OnOk r P
anyhow (Ok a) p = p
anyhow (Err b) p = tt
