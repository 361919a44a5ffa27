-- A base of parts stands for as many entries as its head says.
use Rattle.std.proofs.Common.{◌≡◌, ℕ, ◌^◌, ◌≤◌, List, [], ◌∷◌, ◌++◌, true, Option, Some, None, map, slice_get, refl, ap, sym, ◌∙◌, subst, arith}
use Rattle.std.proofs.lemmas.Bool.{false≢true}
use Rattle.std.proofs.lemmas.List.{reverse-append}
use Rattle.hm_data.specs.declared.entry.Entry.{Entry}
use Rattle.hm_data.specs.declared.entry.Entry.TheVariants as entry_is
use Rattle.hm_data.specs.declared.part.Part.{Part}
use Rattle.hm_data.specs.declared.part.Part.TheVariants as part_is
use Rattle.hm_model.specs.Base.{IsBegun, PartFits}
use Rattle.hm_model.specs.Image.{counted, part_counted}
use Rattle.hm_model.specs.Journal.{Past}
use Rattle.hm_model.specs.Laws.{are_parts}
use Rattle.hm_model.specs.Rebase.{based}
use Rattle.hm_model.specs.Rules.{IsLegal}
use Rattle.hm_model.proofs.Prefixes.{legal_before}
use Rattle.hm_state.specs.State.{IsState}

-- the first part stands behind the others
abbrev first_last : Part → List Part → Past
first_last part parts = based parts ++ entry_is.Base part ∷ []

based_first : (part : Part) (parts : List Part) → based (part ∷ parts) ≡ first_last part parts
based_first part parts = reverse-append (entry_is.Base part ∷ []) (map (λ p. entry_is.Base p) parts)

-- parts with one more are parts
more_parts : (J : Past) (part : Part) → are_parts J ≡ true → are_parts (J ++ entry_is.Base part ∷ []) ≡ true
more_parts [] part are = refl
more_parts (entry_is.Base own ∷ J) part are = more_parts J part are
more_parts (entry ∷ J) part are = absurd (false≢true are)

all_parts : (parts : List Part) → are_parts (based parts) ≡ true
all_parts [] = refl
all_parts (part ∷ parts) = ap are_parts (based_first part parts) ∙ more_parts (based parts) part (all_parts parts)

some_there : (J : Past) (entry : Entry) → J ++ entry ∷ [] ≡ [] → ⊥
some_there [] entry none = cc
some_there (other ∷ J) entry none = cc

-- the head alone says how many
by_first : (J : Past) (part : Part) → IsLegal (J ++ entry_is.Base part ∷ []) → are_parts J ≡ true → counted (J ++ entry_is.Base part ∷ []) ≡ part_counted part 0
by_first [] part legal are = refl
by_first (entry_is.Base own ∷ J) part legal are = by own legal.1.0 (by_first J part legal.0 are)
  where
    by : (other : Part) → PartFits other (J ++ entry_is.Base part ∷ []) → counted (J ++ entry_is.Base part ∷ []) ≡ part_counted part 0 → part_counted other (counted (J ++ entry_is.Base part ∷ [])) ≡ part_counted part 0
    by (part_is.Head entries last parts sheets) fits is = absurd (some_there J (entry_is.Base part) fits.0)
    by other fits is = is
by_first (entry ∷ J) part legal are = absurd (false≢true are)

few_in : (part : Part) → PartFits part [] → part_counted part 0 ≤ 2 ^ 48
few_in (part_is.Head entries last parts sheets) fits = fits.3
few_in part fits = omega arith

-- what the first of parts says, if there is one
abbrev pub said : Option Part → ℕ
said None = 0
said (Some part) = part_counted part 0

pub said_is : (parts : List Part) → IsLegal (based parts) → (said (slice_get parts 0) ≡ counted (based parts)) × (said (slice_get parts 0) ≤ 2 ^ 48)
said_is [] legal = (refl, omega arith)
said_is (part ∷ parts) legal =
    let whole = subst IsLegal (based_first part parts) legal in (
      sym (ap counted (based_first part parts) ∙ by_first (based parts) part whole (all_parts parts)),
      few_in part ((legal_before (based parts) (entry_is.Base part ∷ []) whole).1.0),
    )

-- a whole base
pub state_based : (past base : Past) (count : ℕ) → past ≡ base → IsLegal base → IsBegun base → count ≡ counted base → count ≤ 2 ^ 48 → IsState past count
state_based past base count is legal begun count_is few = subst (λ (l : Past). IsState l count) (sym is) (record {
  legal = legal;
  begun = begun;
  count_is = count_is;
  small = omega (arith, few);
})
