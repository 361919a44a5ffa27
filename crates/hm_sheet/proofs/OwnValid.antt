-- The own sheets of the kinds are valid.
use Rattle.std.proofs.Common.{◌≡◌, ℕ, zero, suc, List, [], ◌∷◌, ◌++◌, refl, sym, ◌∙◌, subst, true, ◌==◌, inl, inr}
use Rattle.std.specs.List.{AllByRecursion, list_any}
use Rattle.std.proofs.lemmas.Bool.{eqb-true, false≢true, or_cases}
use Rattle.std.proofs.lemmas.Option.{none-some}
use Rattle.hm_data.specs.declared.sheet.Row.{Row}
use Rattle.hm_model.specs.Lists.{exact_rows, lines_of}
use Rattle.hm_model.specs.Validity.{IsFirstFault, IsValid}
use Rattle.hm_model.specs.Kinds.{all_kinds}
use Rattle.hm_sheet.specs.Own.{in_turn, is_kind, own_sheet}

valid_1 : IsValid (own_sheet 1)
valid_1 zero = refl
valid_1 (suc zero) = refl
valid_1 (suc (suc place)) = refl

valid_2 : IsValid (own_sheet 2)
valid_2 zero = refl
valid_2 (suc zero) = refl
valid_2 (suc (suc place)) = refl

valid_3 : IsValid (own_sheet 3)
valid_3 zero = refl
valid_3 (suc zero) = refl
valid_3 (suc (suc zero)) = refl
valid_3 (suc (suc (suc zero))) = refl
valid_3 (suc (suc (suc (suc zero)))) = refl
valid_3 (suc (suc (suc (suc (suc zero))))) = refl
valid_3 (suc (suc (suc (suc (suc (suc zero)))))) = refl
valid_3 (suc (suc (suc (suc (suc (suc (suc place))))))) = refl

valid_4 : IsValid (own_sheet 4)
valid_4 zero = refl
valid_4 (suc zero) = refl
valid_4 (suc (suc zero)) = refl
valid_4 (suc (suc (suc place))) = refl

valid_5 : IsValid (own_sheet 5)
valid_5 zero = refl
valid_5 (suc zero) = refl
valid_5 (suc (suc zero)) = refl
valid_5 (suc (suc (suc zero))) = refl
valid_5 (suc (suc (suc (suc place)))) = refl

valid_6 : IsValid (own_sheet 6)
valid_6 zero = refl
valid_6 (suc zero) = refl
valid_6 (suc (suc zero)) = refl
valid_6 (suc (suc (suc zero))) = refl
valid_6 (suc (suc (suc (suc place)))) = refl

valid_7 : IsValid (own_sheet 7)
valid_7 zero = refl
valid_7 (suc zero) = refl
valid_7 (suc (suc place)) = refl

valid_8 : IsValid (own_sheet 8)
valid_8 zero = refl
valid_8 (suc zero) = refl
valid_8 (suc (suc zero)) = refl
valid_8 (suc (suc (suc zero))) = refl
valid_8 (suc (suc (suc (suc zero)))) = refl
valid_8 (suc (suc (suc (suc (suc zero))))) = refl
valid_8 (suc (suc (suc (suc (suc (suc place)))))) = refl

valid_9 : IsValid (own_sheet 9)
valid_9 zero = refl
valid_9 (suc zero) = refl
valid_9 (suc (suc zero)) = refl
valid_9 (suc (suc (suc zero))) = refl
valid_9 (suc (suc (suc (suc zero)))) = refl
valid_9 (suc (suc (suc (suc (suc zero))))) = refl
valid_9 (suc (suc (suc (suc (suc (suc place)))))) = refl

valid_10 : IsValid (own_sheet 10)
valid_10 zero = refl
valid_10 (suc zero) = refl
valid_10 (suc (suc zero)) = refl
valid_10 (suc (suc (suc zero))) = refl
valid_10 (suc (suc (suc (suc zero)))) = refl
valid_10 (suc (suc (suc (suc (suc zero))))) = refl
valid_10 (suc (suc (suc (suc (suc (suc place)))))) = refl

valid_11 : IsValid (own_sheet 11)
valid_11 zero = refl
valid_11 (suc zero) = refl
valid_11 (suc (suc place)) = refl

valid_20 : IsValid (own_sheet 20)
valid_20 zero = refl
valid_20 (suc place) = refl

valid_21 : IsValid (own_sheet 21)
valid_21 zero = refl
valid_21 (suc place) = refl

valid_23 : IsValid (own_sheet 23)
valid_23 zero = refl
valid_23 (suc zero) = refl
valid_23 (suc (suc place)) = refl

valid_24 : IsValid (own_sheet 24)
valid_24 zero = refl
valid_24 (suc zero) = refl
valid_24 (suc (suc place)) = refl

valid_25 : IsValid (own_sheet 25)
valid_25 zero = refl
valid_25 (suc zero) = refl
valid_25 (suc (suc place)) = refl

valid_26 : IsValid (own_sheet 26)
valid_26 zero = refl
valid_26 (suc zero) = refl
valid_26 (suc (suc place)) = refl

valid_27 : IsValid (own_sheet 27)
valid_27 zero = refl
valid_27 (suc zero) = refl
valid_27 (suc (suc place)) = refl

-- what holds of some numbers holds of each among them
pub among_all : (P : ℕ → Type 0) (numbers : List ℕ) → AllByRecursion P numbers → (number : ℕ) → list_any (λ n. n == number) numbers ≡ true → P number
among_all P [] all number among = absurd (false≢true among)
among_all P (first ∷ numbers) all number among = elim (or_cases (first == number) (list_any (λ n. n == number) numbers) among) [
  | inl same ↦ subst P (eqb-true first number same) all.0
  | inr more ↦ among_all P numbers all.1 number more
]

-- the own sheet of each kind is valid
pub own_valid : (kind : ℕ) → is_kind kind ≡ true → IsValid (own_sheet kind)
own_valid kind is = among_all (λ k. IsValid (own_sheet k)) all_kinds (valid_1, (valid_2, (valid_3, (valid_4, (valid_5, (valid_6, (valid_7, (valid_8, (valid_9, (valid_10, (valid_11, (valid_20, (valid_21, (valid_23, (valid_24, (valid_25, (valid_26, (valid_27, tt)))))))))))))))))) kind is

-- so no fault is found in it
pub no_fault : (kind : ℕ) → is_kind kind ≡ true → (rows : List Row) → rows ≡ exact_rows kind ++ in_turn 1 (lines_of kind) → (place rule : ℕ) → IsFirstFault (record { kind = kind; rows = rows }) place rule → ⊥
no_fault kind is rows same place rule fault =
    let valid : IsValid (record { kind = kind; rows = rows }) = subst (λ rs. IsValid (record { kind = kind; rows = rs })) (sym same) (own_valid kind is) in
    none-some rule (sym (valid place) ∙ fault.0)
