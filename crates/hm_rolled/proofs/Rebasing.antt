-- The master's own journal is legal, and reads as the history.
use Rattle.std.proofs.Common.{◌≡◌, ℕ, ◌≤◌, length, Option, Some, None, refl, sym, subst, arith}
use Rattle.hm_model.specs.Base.{IsBegun}
use Rattle.hm_model.specs.Journal.{Past}
use Rattle.hm_model.specs.Rules.{IsLegal}
use Rattle.hm_rebase.specs.Alike.{Alike}
use Rattle.hm_rebase.proofs.Rebased.{rebased_is_alike}
use Rattle.hm_world_model.specs.Runs.{IsRolledIn}
use Rattle.hm_world_model.specs.Safe.{IsKept}
use Rattle.hm_world_model.specs.World.{World, first, rebased_by, whole}
use Rattle.hm_world_model.proofs.Fronts.{all_front, durable_whole}
use Rattle.hm_world_model.proofs.Points.{safe_first}
use Rattle.hm_world_model.proofs.Rolling.{plain_within, rolled_first}
use Rattle.hm_rolled.specs.Own.{OwnIsAlike}
use Rattle.hm_rolled.proofs.Itself.{alike_itself}

-- rolled or not, it reads as the history
pub rebased_alike : (J : Past) → IsLegal J → (rolled : Option ℕ) → ((r : ℕ) → rolled ≡ Some r → IsRolledIn J r) → IsLegal (rebased_by rolled J) × Alike J (rebased_by rolled J)
rebased_alike J legal None was = (legal, alike_itself J legal)
rebased_alike J legal (Some r) was =
    let own = was r refl in
    let rebased = rebased_is_alike J r legal own.front own.may in
    (rebased.0, rebased.2)

module _ (w : World) (kept : IsKept w) where
  -- what was rolled is so within each length that a stop may leave
  pub rolled_at : (k : ℕ) → w.durable ≤ k → k ≤ length (whole w) → (r : ℕ) → w.rolled ≡ Some r → IsRolledIn (first k (whole w)) r
  rolled_at k low high r is =
      rolled_first (whole w) w.durable k r low high kept.plain (subst (λ J. IsRolledIn J r) (durable_whole w.tail w.past w.durable kept.within) (kept.rolls r is))

  -- and within the history without its tail
  pub rolled_past : (r : ℕ) → w.rolled ≡ Some r → IsRolledIn w.past r
  rolled_past r is =
      subst (λ J. IsRolledIn J r) (all_front w.past (length w.past) refl)
      (rolled_first w.past w.durable (length w.past) r kept.within (omega arith) (plain_within w.tail w.past w.durable kept.plain) (kept.rolls r is))

-- the same of a journal by the number that it was rolled at
abbrev IsOwn : Past → Past → Type 0
IsOwn J K = IsLegal K × IsBegun K × Alike J K

pub own_alike : OwnIsAlike
own_alike w kept k low high r is =
    let J = first k (whole w) in
    let was = rolled_at w kept k low high r is in
    subst (λ rolled. IsOwn J (rebased_by rolled J)) (sym is) (rebased_is_alike J r (safe_first w kept k low high).legal was.front was.may)
