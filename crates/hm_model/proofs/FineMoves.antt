-- A transit fails only at its check.
use Rattle.std.proofs.Common.{◌≡◌, ◌∙◌, ◌≢◌, ℕ, zero, suc, true, false, Some, refl, ap, sym, slice_get, arith}
use Rattle.std.proofs.lemmas.Bool.{false≢true}
use Rattle.std.proofs.lemmas.Option.{none-some, same_Some}
use Rattle.hm_data.specs.declared.act.Act.{Act}
use Rattle.hm_data.specs.declared.act.Act.TheVariants as act_is
use Rattle.hm_data.specs.declared.sheet.Row.{Row}
use Rattle.hm_data.specs.declared.step.StepIn.{StepIn}
use Rattle.hm_model.specs.Acts.{act_answer}
use Rattle.hm_model.specs.Lists.{exact_rows}
use Rattle.hm_model.specs.ActSorts.{is_check}
use Rattle.hm_model.proofs.StepDoes.{is_moving}
use Rattle.hm_model.proofs.PlainActs.{IsFine, fine_able}
use Rattle.hm_model.specs.MadeOf.{can_fail}

-- rows of a transit at which it doesn't check
pub late_move : (n : ℕ) (row : Row) → slice_get (exact_rows 10) n ≡ Some row → n ≢ 5 → (row.after ≡ true) × (is_check row.act ≡ false)
late_move zero row is ne = (ap (λ (r : Row). r.after) (sym (same_Some _ row is)), ap (λ (r : Row). is_check r.act) (sym (same_Some _ row is)))
late_move (suc zero) row is ne = (ap (λ (r : Row). r.after) (sym (same_Some _ row is)), ap (λ (r : Row). is_check r.act) (sym (same_Some _ row is)))
late_move (suc (suc zero)) row is ne = (ap (λ (r : Row). r.after) (sym (same_Some _ row is)), ap (λ (r : Row). is_check r.act) (sym (same_Some _ row is)))
late_move (suc (suc (suc zero))) row is ne = (ap (λ (r : Row). r.after) (sym (same_Some _ row is)), ap (λ (r : Row). is_check r.act) (sym (same_Some _ row is)))
late_move (suc (suc (suc (suc zero)))) row is ne = (ap (λ (r : Row). r.after) (sym (same_Some _ row is)), ap (λ (r : Row). is_check r.act) (sym (same_Some _ row is)))
late_move (suc (suc (suc (suc (suc zero))))) row is ne = absurd (ne (omega arith))
late_move (suc (suc (suc (suc (suc (suc n)))))) row is ne = absurd (none-some row is)

moves_checked : (act : Act) → is_moving act ≡ true → can_fail act ≡ is_check act
moves_checked act_is.SettleLayout h = absurd (false≢true h)
moves_checked act h = refl

-- an act of a transit fails only where it checks
pub fine_move : (act : Act) → is_moving act ≡ true → is_check act ≡ false → (next : ℕ) (at : StepIn) → IsFine (act_answer act next at)
fine_move act h c next at = fine_able act (moves_checked act h ∙ c) next at
