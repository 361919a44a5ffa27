-- The hole of a table, and findings that are added.
use Rattle.std.proofs.Common.{◌≡◌, ℕ, nat_lt, List, [], ◌∷◌, ◌++◌, length, Some, None, Ok, Err, Bool, true, false, if◌then◌else◌, refl, inl, inr, ◌⊎◌, ap, ◌∙◌}
use Rattle.std.specs.Ordering.{is_eq, ordering_reverse}
use Rattle.std.specs.Cmp.Lexicographic.{texts_ties}
use Rattle.std.specs.declared.cmp.Ordering.{Ordering}
use Rattle.std.specs.declared.cmp.Ordering.TheVariants.{Less, Equal, Greater}
use Rattle.std.proofs.lemmas.Cmp.{nat_list_cmp_total}
use Rattle.hm_names.specs.Keys.{limited}
use Rattle.hm_names.specs.Order.{bytes_cmp}
use Rattle.hm_names.specs.declared.fault.NameFault.TheVariants.{TooLong}
use Rattle.hm_names.specs.declared.range.KeyRange.{KeyRange}
use Rattle.hm_names.specs.declared.table.TableName.{TableName}
use Rattle.hm_model.specs.RowsSaid.{Rows}
use Rattle.hm_model.proofs.KeyTests.{bytes_eq-is}
use Rattle.hm_ranges.specs.Holes.{IsLeast}
use Rattle.hm_ranges.specs.Live.{ranges_in}
use Rattle.hm_ranges.proofs.Lists.{in_either, in_front, in_rest}
use Rattle.hm_hbck.specs.Found.{Adds}
use Rattle.hm_hbck.specs.Holes.{IsHoleOf}
use Rattle.hm_hbck.specs.declared.finding.Finding.{Finding}
use Rattle.hm_hbck.specs.declared.finding.Finding.TheVariants as finding_is

-- there is one least key
one_least : (ranges : List KeyRange) (a b : List ℕ) → IsLeast ranges (Some a) → IsLeast ranges (Some b) → a ≡ b
one_least ranges a b one other = by (bytes_cmp a b) refl
  where
    by : (o : Ordering) → bytes_cmp a b ≡ o → a ≡ b
    by Less e = absurd (other.1 a e one.0)
    by Equal e = bytes_eq-is a b (texts_ties a b ∙ ap is_eq e)
    by Greater e = absurd (one.1 b (nat_list_cmp_total.antisymm b a ∙ ap ordering_reverse e) other.0)

-- where no key is left out there is no hole
pub no_hole : (rows : Rows) (table : TableName) (old : List Finding) → IsLeast (ranges_in rows table) None → Adds (IsHoleOf rows table) old old
no_hole rows table old none = λ finding. (λ there. inl there, λ either. elim either [ inl there ↦ there | inr hole ↦ absurd (none hole.0 (hole.2).0) ])

-- the least key that is left out is the hole
pub hole_added : (rows : Rows) (table : TableName) (key : List ℕ) (old : List Finding) → IsLeast (ranges_in rows table) (Some key) → Adds (IsHoleOf rows table) old (old ++ finding_is.Hole table key ∷ [])
hole_added rows table key old least = λ finding. (
  λ there. elim (in_either finding old (finding_is.Hole table key ∷ []) there) [
    | inl before ↦ inl before
    | inr new ↦ elim new [ inl same ↦ inr (key, same, least) | inr none ↦ absurd none ]
  ],
  λ either. elim either [
    | inl before ↦ in_front finding old (finding_is.Hole table key ∷ []) before
    | inr hole ↦ in_rest finding old (finding_is.Hole table key ∷ []) (inl (hole.1 ∙ ap (finding_is.Hole table) (one_least (ranges_in rows table) hole.0 key hole.2 least)))
  ],
)

-- a key that is short enough is taken as it is
pub limited_is : (key taken : List ℕ) → limited key ≡ Ok taken → taken ≡ key
limited_is key taken e = by (nat_lt 128 (length key)) e
  where
    by : (b : Bool) → (if b then Err (TooLong (length key)) else Ok key) ≡ Ok taken → taken ≡ key
    by true e = absurd cc
    by false e = cc

-- what is added after other findings is added with them
pub adds_both : (New Rest : Finding → Type 0) (old between new : List Finding) → Adds New old between → Adds Rest between new → Adds (λ finding. New finding ⊎ Rest finding) old new
adds_both New Rest old between new one other = λ finding. (
  λ there. elim ((other finding).0 there) [
    | inl before ↦ elim ((one finding).0 before) [ inl first ↦ inl first | inr is ↦ inr (inl is) ]
    | inr is ↦ inr (inr is)
  ],
  λ either. elim either [
    | inl first ↦ (other finding).1 (inl ((one finding).1 (inl first)))
    | inr is ↦ elim is [ inl is ↦ (other finding).1 (inl ((one finding).1 (inr is))) | inr is ↦ (other finding).1 (inr is) ]
  ],
)
