-- What the ranges of a table's live regions tell.
use Rattle.std.proofs.Common.{◌≡◌, ℕ, List, [], ◌∷◌, Some, None, Bool, true, false, refl, inl, inr, ◌⊎◌, ap, sym, ◌∙◌}
use Rattle.std.proofs.lemmas.Bool.{false≢true}
use Rattle.hm_names.specs.Ranges.{holds}
use Rattle.hm_names.specs.declared.range.KeyRange.{KeyRange}
use Rattle.hm_names.specs.declared.table.TableName.{TableName}
use Rattle.hm_model.specs.Catalog.{Catalog}
use Rattle.hm_model.specs.Locks.{IsIn}
use Rattle.hm_model.specs.Ranges.{IsCovered}
use Rattle.hm_ranges.specs.Holes.{IsLeast, IsOut}
use Rattle.hm_ranges.specs.Laws.{AreLiveOf, TellCover, TellFit}

-- a range has the key, or none has it
held_or_out : (ranges : List KeyRange) (key : List ℕ) → ((range : KeyRange) × IsIn range ranges × (holds range key ≡ true)) ⊎ IsOut ranges key
held_or_out [] key = inr (λ range there. absurd there)
held_or_out (first ∷ more) key = by (held_or_out more key) (holds first key) refl
  where
    by : ((range : KeyRange) × IsIn range more × (holds range key ≡ true)) ⊎ IsOut more key → (b : Bool) → holds first key ≡ b
        → ((range : KeyRange) × IsIn range (first ∷ more) × (holds range key ≡ true)) ⊎ IsOut (first ∷ more) key
    by rest true e = inl (first, inl refl, e)
    by (inl there) false e = inl (there.0, inr there.1, there.2)
    by (inr out) false e = inr none
      where
        none : IsOut (first ∷ more) key
        none range (inl same) = ap (λ (r : KeyRange). holds r key) same ∙ e
        none range (inr there) = out range there

none_out : (there : Catalog) (table : TableName) (ranges : List KeyRange) → AreLiveOf there table ranges → IsCovered there table → (key : List ℕ) → IsOut ranges key → ⊥
none_out there table ranges are covered key out =
    let at = covered key in
    false≢true (sym (out at.1 ((are at.1).1 (at.0, at.2, at.3))) ∙ at.4)

all_covered : (there : Catalog) (table : TableName) (ranges : List KeyRange) → AreLiveOf there table ranges → IsLeast ranges None → IsCovered there table
all_covered there table ranges are none key = elim (held_or_out ranges key) [
  | inl held ↦ (let live = (are held.0).0 held.1 in (live.0, held.0, live.1, live.2, held.2))
  | inr out ↦ absurd (none key out)
]

pub tells_cover : TellCover
tells_cover there table ranges are None least = (λ none. all_covered there table ranges are least, λ covered. refl)
tells_cover there table ranges are (Some key) least = (λ none. absurd (clash none), λ covered. absurd (none_out there table ranges are covered key least.0))
  where
    clash : Some key ≡ None → ⊥
    clash e = cc

pub tells_fit : TellFit
tells_fit before region ranges are range status = (
  λ fits live. ((fits live).0, λ own there. let at = (are own).0 there in (fits live).1 at.0 own at.1 at.2),
  λ fits live. ((fits live).0, λ other own of is. (fits live).1 own ((are own).1 (other, of, is))),
)
