-- That nobody stands in a procedure's way, by a test.
use Rattle.std.proofs.Common.{◌≡◌, ◌≢◌, ℕ, ◌+◌, List, [], ◌∷◌, Bool, true, false, not, ◌&&◌, ◌||◌, ◌==◌, Option, Some, None, is_some, bytes_eq, refl, ap, sym, ◌∙◌, inl, inr, arith}
use Rattle.std.specs.List.{list_any}
use Rattle.std.proofs.lemmas.Bool.{and_from, cases_Bool, eqb-true, false≢true, ne_eqb, true≢false}
use Rattle.hm_model.specs.declared.lock.Ask.{Ask}
use Rattle.hm_model.specs.declared.lock.Resource.{Resource}
use Rattle.hm_model.specs.declared.lock.Resource.TheVariants as resource_is
use Rattle.hm_model.specs.Answers.{last_answer}
use Rattle.hm_model.specs.Fleet.{same_server}
use Rattle.hm_model.specs.Holding.{IsFree}
use Rattle.hm_model.specs.Journal.{Past}
use Rattle.hm_model.specs.Keys.{same_region, same_table}
use Rattle.hm_model.specs.Locks.{AsksClash, Clash, IsAbove, IsIn, asks}
use Rattle.hm_model.specs.Phase.{all_below, ended}
use Rattle.hm_model.specs.Rules.{IsLegal}
use Rattle.hm_model.specs.Tree.{Node, made, node_of}
use Rattle.hm_model.proofs.KeyTests.{bytes_eq-refl, same_region-refl, same_table-refl}
use Rattle.hm_model.proofs.NameTies.{same_server-refl}
use Rattle.hm_model.proofs.Trees.{all_below_at, grown_all, is_there, some_of}
use Rattle.hm_model.proofs.Small.{has_some}

abbrev same_resource : Resource → Resource → Bool
same_resource (resource_is.Ns a) (resource_is.Ns b) = bytes_eq a b
same_resource (resource_is.Table a) (resource_is.Table b) = same_table a b
same_resource (resource_is.Region a) (resource_is.Region b) = same_region a b
same_resource (resource_is.Server a) (resource_is.Server b) = same_server a b
same_resource a b = false

resource_itself : (a : Resource) → same_resource a a ≡ true
resource_itself (resource_is.Ns a) = bytes_eq-refl a
resource_itself (resource_is.Table a) = same_table-refl a
resource_itself (resource_is.Region a) = same_region-refl a
resource_itself (resource_is.Server a) = same_server-refl a

-- asks clash, as a test
abbrev clash_two : Ask → Ask → Bool
clash_two a b = same_resource a.resource b.resource && (a.exclusive || b.exclusive)

abbrev may_clash : List Ask → List Ask → Bool
may_clash one other = list_any (λ a. list_any (clash_two a) other) one

any_in : {A : Type 0} (test : A → Bool) (list : List A) (x : A) → IsIn x list → test x ≡ true → list_any test list ≡ true
any_in test [] x at is = absurd at
any_in test (y ∷ list) x at is = elim at [
  | inl same ↦ ap (λ b. b || list_any test list) (ap test (sym same) ∙ is)
  | inr later ↦ by (test y) (any_in test list x later is)
]
  where
    by : (b : Bool) → list_any test list ≡ true → (b || list_any test list) ≡ true
    by true e = refl
    by false e = e

clash_told : (one other : List Ask) → Clash one other → may_clash one other ≡ true
clash_told one other clash =
    let a = clash.0 in
    let b = clash.1 in
    any_in (λ a. list_any (clash_two a) other) one a clash.2
    (any_in (clash_two a) other b clash.3 (and_from (same_resource a.resource b.resource) (a.exclusive || b.exclusive) (ap (same_resource a.resource) (sym clash.4) ∙ resource_itself a.resource) clash.5))

abbrev is_above : ℕ → Option Node → Bool
is_above p None = false
is_above p (Some node) = list_any (λ up. up == p) node.above

above_told : (p : ℕ) (node : Option Node) → is_above p node ≡ true → IsAbove p node
above_told p None is = absurd (false≢true is)
above_told p (Some node) is = by node.above is
  where
    by : (above : List ℕ) → list_any (λ up. up == p) above ≡ true → IsIn p above
    by [] e = absurd (false≢true e)
    by (up ∷ above) e = elim (cases_Bool (up == p)) [
      | inl same ↦ inl (sym (eqb-true up p same))
      | inr other ↦ inr (by above (sym (ap (λ b. b || list_any (λ up. up == p) above) other) ∙ e))
    ]

abbrev asks_may_clash : Option Node → Option Node → Bool
asks_may_clash None other = false
asks_may_clash (Some one) None = false
asks_may_clash (Some one) (Some other) = may_clash (asks one.args) (asks other.args)

asks_told : (one other : Option Node) → AsksClash one other → asks_may_clash one other ≡ true
asks_told None other clash = absurd clash
asks_told (Some one) None clash = absurd clash
asks_told (Some one) (Some other) clash = clash_told (asks one.args) (asks other.args) clash

-- q holds, and conflicts with p
abbrev is_in_way : Past → ℕ → ℕ → Bool
is_in_way J p q =
    not (q == p) && ((not (ended J q) && is_some (last_answer J q)) && (asks_may_clash (node_of J p) (node_of J q) && (not (is_above p (node_of J q)) && not (is_above q (node_of J p)))))

-- nobody stands in the way of p
abbrev pub is_freed : Past → ℕ → Bool
is_freed J p = all_below (made J + 1) (λ q. not (is_in_way J p q))

pub freed : (J : Past) → IsLegal J → (p : ℕ) → is_freed J p ≡ true → IsFree J [] p
freed J legal p free q holds conflict =
    let there = some_of (node_of J q) holds.0 in
    let le = is_there J (grown_all J legal) q there.0 there.1 in
    let not_in_way = all_below_at (made J + 1) (λ q. not (is_in_way J p q)) q free (omega (arith, le)) in
    true≢false (sym not_in_way ∙ ap not (in_way stepped))
  where
    stepped : last_answer J q ≢ None
    stepped = elim holds.2 [ inl has ↦ has | inr taken ↦ absurd taken ]

    apart : (a b : ℕ) → (IsAbove a (node_of J b) → ⊥) → not (is_above a (node_of J b)) ≡ true
    apart a b far = elim (cases_Bool (is_above a (node_of J b))) [
      | inl above ↦ absurd (far (above_told a (node_of J b) above))
      | inr off ↦ ap not off
    ]

    in_way : last_answer J q ≢ None → is_in_way J p q ≡ true
    in_way has =
        and_from (not (q == p)) _ (ap not (ne_eqb q p (λ same. conflict.0 (sym same))))
        (and_from (not (ended J q) && is_some (last_answer J q)) _ (and_from (not (ended J q)) (is_some (last_answer J q)) (ap not holds.1) (has_some (last_answer J q) has))
        (and_from (asks_may_clash (node_of J p) (node_of J q)) _ (asks_told (node_of J p) (node_of J q) conflict.1.2)
        (and_from (not (is_above p (node_of J q))) (not (is_above q (node_of J p))) (apart p q conflict.1.0) (apart q p conflict.1.1))))
