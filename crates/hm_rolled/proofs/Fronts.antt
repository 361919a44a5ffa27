-- The fronts of the master's own journal are those of the history, rebased.
use Rattle.std.proofs.Common.{◌≡◌, ℕ, zero, suc, ◌+◌, ◌-◌, ◌≤◌, [], ◌∷◌, length, drop, Some, refl, ap, sym, ◌∙◌, subst, arith}
use Rattle.hm_model.specs.Journal.{Past}
use Rattle.hm_world_model.specs.Runs.{IsRolledIn}
use Rattle.hm_world_model.specs.Safe.{IsKept, IsPlainBehind}
use Rattle.hm_world_model.specs.World.{World, rebased_by, whole}
use Rattle.hm_world_model.proofs.Rolling.{rolled_on}
use Rattle.hm_rolled.specs.Own.{FrontsAreOwn}
use Rattle.hm_rolled.proofs.Rebasing.{rolled_at}
use Rattle.hm_rolled.proofs.Recorded.{own_more}

module _ (w : World) (kept : IsKept w) where
  -- entries that are no parts stay in front of what was rolled
  fronts : (n d : ℕ) (J : Past) → n + d ≤ length J → IsPlainBehind d J → ((r : ℕ) → w.rolled ≡ Some r → IsRolledIn (drop n J) r) → rebased_by w.rolled (drop n J) ≡ drop n (rebased_by w.rolled J)
  fronts zero d J within plain was = refl
  fronts (suc n) d [] within plain was = absurd (none_behind within)
    where
      none_behind : suc n + d ≤ 0 → ⊥
      none_behind le = omega (arith, le)
  fronts (suc n) d (entry ∷ J) within plain was =
      let less : n + d ≤ length J = omega (arith, within) in
      let behind : IsPlainBehind d J = λ m e before is low. plain (suc m) e before is low in
      let other = plain 0 entry J refl (omega (arith, less)) in
      fronts n d J less behind was
      ∙ ap (λ K. drop (suc n) K) (sym (own_more w kept entry J other (λ r is. let on = rolled_on n d r J less behind (was r is) in on.within)))

  -- what was rolled is so in each front that a stop may leave
  rolled_front : (n : ℕ) → n + w.durable ≤ length (whole w) → (r : ℕ) → w.rolled ≡ Some r → IsRolledIn (drop n (whole w)) r
  rolled_front n within r is =
      subst (λ m. IsRolledIn (drop m (whole w)) r) same (rolled_at w kept (length (whole w) - n) (omega (arith, within)) (omega arith) r is)
    where
      same : length (whole w) - (length (whole w) - n) ≡ n
      same = omega (arith, within)

pub fronts_are_own : FrontsAreOwn
fronts_are_own w kept n within = fronts w kept n w.durable (whole w) within kept.plain (rolled_front w kept n within)
