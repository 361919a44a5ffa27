-- What a merge that can be submitted asks for: two to ten different regions of one table.
use Rattle.std.proofs.Common.{◌≡◌, ℕ, ◌≤◌, List, [], ◌∷◌, length, nat_le, Bool, true, false, not, ◌&&◌, ◌==◌, cond, Option, Some, None, refl, ap, sym, ◌∙◌, inl, inr}
use Rattle.std.specs.List.{list_all}
use Rattle.std.proofs.lemmas.Bool.{and_parts, eq-eqb, leb-true, not-true, true≢false}
use Rattle.std.proofs.lemmas.Option.{none-some}
use Rattle.hm_names.specs.Region.{Region}
use Rattle.hm_data.specs.declared.request.Request.TheVariants as request_is
use Rattle.hm_model.specs.Keys.{same_table}
use Rattle.hm_model.specs.Locks.{IsIn}
use Rattle.hm_model.specs.Requests.{are_apart, are_siblings, may_merge, wrong_in}
use Rattle.hm_model.proofs.KeyTests.{same_table-is}

-- what each of a list passes, one of them passes
pub all_in : {A : Type 0} (test : A → Bool) (list : List A) (x : A) → list_all test list ≡ true → IsIn x list → test x ≡ true
all_in test [] x all h = elim h [ ]
all_in test (first ∷ more) x all h =
    let parts = and_parts (test first) (list_all test more) all in
    elim h [ inl here ↦ ap test here ∙ parts.0 | inr later ↦ all_in test more x parts.1 later ]

-- siblings are of the table of the first
pub one_table : (region : Region) (more : List Region) → are_siblings (region ∷ more) ≡ true → (other : Region) → IsIn other (region ∷ more) → region.table ≡ other.table
one_table region more siblings other (inl here) = ap (λ (r : Region). r.table) (sym here)
one_table region more siblings other (inr later) =
    let apart = all_in (are_apart region) more other (and_parts (list_all (are_apart region) more) (are_siblings more) siblings).0 later in
    same_table-is region.table other.table (and_parts (same_table region.table other.table) (not (region.id == other.id)) apart).0

-- and none of them stands among the others
pub not_among : (region : Region) (more : List Region) → are_siblings (region ∷ more) ≡ true → IsIn region more → ⊥
not_among region more siblings among =
    let apart = all_in (are_apart region) more region (and_parts (list_all (are_apart region) more) (are_siblings more) siblings).0 among in
    true≢false (sym (eq-eqb region.id region.id refl) ∙ not-true (region.id == region.id) (and_parts (same_table region.table region.table) (not (region.id == region.id)) apart).1)

-- what a merge that can be submitted asks for
pub record IsMerge (regions : List Region) : Type 0 where
  pub many : 2 ≤ length regions
  pub few : length regions ≤ 10
  pub siblings : are_siblings regions ≡ true

pub merge_is : (regions : List Region) → wrong_in (request_is.MergeRegions regions) ≡ None → IsMerge regions
merge_is regions fine = by (may_merge regions) refl fine
  where
    by : (b : Bool) → may_merge regions ≡ b → cond {A = Option ℕ} b None (Some 4) ≡ None → IsMerge regions
    by false is h = absurd (none-some {A = ℕ} 4 (sym h))
    by true is h =
        let many = and_parts (nat_le 2 (length regions)) (nat_le (length regions) 10 && are_siblings regions) is in
        let few = and_parts (nat_le (length regions) 10) (are_siblings regions) many.1 in
        record { many = leb-true 2 (length regions) many.0; few = leb-true (length regions) 10 few.0; siblings = few.1 }
