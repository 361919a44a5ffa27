-- What each front of a journal keeps, up to a number: it is legal, and no base stands unfinished in it.
use Rattle.std.proofs.Common.{◌≡◌, ℕ, [], ◌∷◌, Bool, true, false, cond, nat_lt, refl, ap, sym, ◌∙◌, subst}
use Rattle.std.proofs.lemmas.Bool.{cond-true, false≢true}
use Rattle.hm_data.specs.declared.entry.Entry.{Entry}
use Rattle.hm_data.specs.declared.entry.Entry.TheVariants as entry_is
use Rattle.hm_data.specs.declared.part.Part.{Part}
use Rattle.hm_data.specs.declared.part.Part.TheVariants as part_is
use Rattle.hm_model.specs.Base.{HasNoHalfBase, PartFits}
use Rattle.hm_model.specs.Image.{counted}
use Rattle.hm_model.specs.Journal.{Past}
use Rattle.hm_model.specs.Rebase.{up_to}
use Rattle.hm_model.specs.Rules.{IsLegal}
use Rattle.hm_model.proofs.Grown.{ends_parted}
use Rattle.hm_model.proofs.Parted.{by_parts, no_half}

-- a front of a legal journal is legal
pub legal_up_to : (J : Past) (r : ℕ) → IsLegal J → IsLegal (up_to J r)
legal_up_to [] r legal = legal
legal_up_to (entry ∷ before) r legal = by (nat_lt r (counted (entry ∷ before))) (legal_up_to before r legal.0)
  where
    by : (b : Bool) → IsLegal (up_to before r) → IsLegal (cond b (up_to before r) (entry ∷ before))
    by true older = older
    by false older = legal

-- a head stands first; other parts count nothing
cut_part : (part : Part) (J : Past) (r : ℕ) → PartFits part J → (nat_lt r (counted J) ≡ true → up_to J r ≡ []) → nat_lt r (counted (entry_is.Base part ∷ J)) ≡ true → up_to J r ≡ []
cut_part (part_is.Head entries last parts sheets) J r fits on low = ap (λ (X : Past). up_to X r) fits.0
cut_part part J r fits on low = on low

-- where a base is cut into, nothing is left of it
uncut : (J : Past) (r : ℕ) → IsLegal J → ends_parted J ≡ true → nat_lt r (counted J) ≡ true → up_to J r ≡ []
uncut [] r legal parted low = refl
uncut (entry_is.Base part ∷ J) r legal parted low =
    cond-true (nat_lt r (counted (entry_is.Base part ∷ J))) (up_to J r) (entry_is.Base part ∷ J) low
    ∙ cut_part part J r legal.1.0 (uncut J r legal.0 (by_parts (λ j. ends_parted j ≡ true) refl (λ o older. refl) part J legal.1.0)) low
uncut (entry ∷ J) r legal parted low = absurd (false≢true parted)

-- what stands before an entry of a legal journal with no unfinished base has none, unless the entry is a part
before_whole : (entry : Entry) (J : Past) (r : ℕ) → IsLegal (entry ∷ J) → nat_lt r (counted (entry ∷ J)) ≡ true → (HasNoHalfBase J → HasNoHalfBase (up_to J r)) → HasNoHalfBase (up_to J r)
before_whole (entry_is.Start sheets) J r legal low on = subst (λ (X : Past). HasNoHalfBase (up_to X r)) (sym legal.1.0.0) tt
before_whole (entry_is.Base part) J r legal low on =
    let parted = by_parts (λ j. ends_parted j ≡ true) refl (λ o older. refl) part J legal.1.0 in
    subst HasNoHalfBase (sym (cut_part part J r legal.1.0 (uncut J r legal.0 parted) low)) tt
before_whole entry J r legal low on = on (no_half J legal.1.0)

-- no base stands unfinished in a front of a journal in which none does
pub whole_up_to : (J : Past) (r : ℕ) → IsLegal J → HasNoHalfBase J → HasNoHalfBase (up_to J r)
whole_up_to [] r legal whole = whole
whole_up_to (entry ∷ before) r legal whole = by (nat_lt r (counted (entry ∷ before))) refl (whole_up_to before r legal.0)
  where
    by : (b : Bool) → nat_lt r (counted (entry ∷ before)) ≡ b → (HasNoHalfBase before → HasNoHalfBase (up_to before r)) → HasNoHalfBase (cond b (up_to before r) (entry ∷ before))
    by true low on = before_whole entry before r legal low on
    by false low on = whole
