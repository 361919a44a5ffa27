-- Rows of which one changes.
use Rattle.std.proofs.Common.{Bool, List, None, Option, Some, ap, cond, eqb, false, inl, inr, refl, subst, sym, true, ℕ, ◌∙◌, ◌≡◌, ◌≢◌}
use Rattle.std.specs.Prelude.{IsSome}
use Rattle.std.specs.Option.{option_map}
use Rattle.std.proofs.lemmas.Bool.{cases_eq, eq-eqb, false≢true, ne_eqb}
use Rattle.std.proofs.lemmas.Option.{none-some, same_Some}
use Rattle.hm_locks.specs.Book.{AreChanged, Blocks, IsBlockedBy, IsEnlisted, Row, holding, is_holding, row_of}
use Rattle.hm_locks.specs.Laws.{IsRowOf}
use Rattle.hm_model.specs.Journal.{Past}

pub some_enlisted : (o : Option Row) (row : Row) → o ≡ Some row → IsSome o
some_enlisted o row e = subst (λ (x : Option Row). IsSome x) (sym e) refl

pub enlisted_some : (o : Option Row) → IsSome o → (row : Row) × (o ≡ Some row)
enlisted_some None e = absurd (false≢true e)
enlisted_some (Some row) e = (row, refl)

-- who blocks is enlisted, and so is who is blocked
pub blocks_enlisted : (a b : Option Row) → Blocks a b → IsSome a × IsSome b
blocks_enlisted None b e = absurd e
blocks_enlisted (Some x) None e = absurd e
blocks_enlisted (Some x) (Some y) e = (refl, refl)

pub held_enlisted : (o : Option Row) → is_holding o ≡ true → IsSome o
held_enlisted None e = absurd (false≢true e)
held_enlisted (Some row) e = refl

module _ (old new : List Row) (p : ℕ) (o : Option Row) (changed : AreChanged old p o new) where
  pub row_here : (q : ℕ) → p ≡ q → row_of new q ≡ o
  row_here q same = changed q ∙ ap (λ b. cond b o (row_of old q)) (eq-eqb p q same)

  pub row_there : (q : ℕ) → p ≢ q → row_of new q ≡ row_of old q
  row_there q differs = changed q ∙ ap (λ b. cond b o (row_of old q)) (ne_eqb p q differs)

-- one that holds from now on, or no longer
module _ (old new : List Row) (p : ℕ) (does : Bool) (changed : AreChanged old p (option_map (holding does) (row_of old p)) new) where
  pub own_row : row_of new p ≡ option_map (holding does) (row_of old p)
  own_row = row_here old new p (option_map (holding does) (row_of old p)) changed p refl

  pub other_row : (q : ℕ) → p ≢ q → row_of new q ≡ row_of old q
  other_row = row_there old new p (option_map (holding does) (row_of old p)) changed

  row_is : (q : ℕ) → row_of new q ≡ cond (eqb p q) (option_map (holding does) (row_of old q)) (row_of old q)
  row_is q = elim (cases_eq p q) [
    | inl same ↦ subst (λ n. row_of new n ≡ option_map (holding does) (row_of old n)) same own_row ∙ ap (λ b. cond b (option_map (holding does) (row_of old q)) (row_of old q)) (sym (eq-eqb p q same))
    | inr differs ↦ other_row q differs ∙ ap (λ b. cond b (option_map (holding does) (row_of old q)) (row_of old q)) (sym (ne_eqb p q differs))
  ]

  -- who blocks goes on blocking, unless it is the one that holds no longer
  pub blocks_on : (q h : ℕ) → (p ≡ h → does ≡ true) → IsBlockedBy old q h → IsBlockedBy new q h
  blocks_on q h raises blocks =
      subst (λ a. Blocks a (row_of new h)) (sym (row_is q)) (subst (Blocks (cond (eqb p q) (option_map (holding does) (row_of old q)) (row_of old q))) (sym (row_is h))
      (by (eqb p q) (eqb p h) (row_of old q) (row_of old h) (λ e. elim (cases_eq p h) [ inl same ↦ raises same | inr differs ↦ absurd (false≢true (sym (ne_eqb p h differs) ∙ e)) ]) blocks))
    where
      by : (a b : Bool) (x y : Option Row) → (b ≡ true → does ≡ true) → Blocks x y → Blocks (cond a (option_map (holding does) x) x) (cond b (option_map (holding does) y) y)
      by a b None y r e = absurd e
      by a b (Some x) None r e = absurd e
      by true true (Some x) (Some y) r e = (r refl, e.1)
      by true false (Some x) (Some y) r e = (e.0, e.1)
      by false true (Some x) (Some y) r e = (r refl, e.1)
      by false false (Some x) (Some y) r e = e

  -- each row says what it said
  pub says_on : (J : Past) → ((q : ℕ) (row : Row) → row_of old q ≡ Some row → IsRowOf J row) → (q : ℕ) (row : Row) → row_of new q ≡ Some row → IsRowOf J row
  says_on J says q row e = by (eqb p q) (row_of old q) refl (sym (row_is q) ∙ e)
    where
      by : (b : Bool) (o : Option Row) → row_of old q ≡ o → cond b (option_map (holding does) o) o ≡ Some row → IsRowOf J row
      by true None is f = absurd (none-some row f)
      by false None is f = absurd (none-some row f)
      by true (Some x) is f = subst (IsRowOf J) (same_Some (holding does x) row f) (says q x is)
      by false (Some x) is f = subst (IsRowOf J) (same_Some x row f) (says q x is)

  -- the same are enlisted
  pub enlisted_on : (q : ℕ) → IsEnlisted old q → IsEnlisted new q
  enlisted_on q e = subst (λ (o : Option Row). IsSome o) (sym (row_is q)) (by (eqb p q) (row_of old q) e)
    where
      by : (b : Bool) (o : Option Row) → IsSome o → IsSome (cond b (option_map (holding does) o) o)
      by true (Some x) e = refl
      by false (Some x) e = refl
      by b None e = absurd (false≢true e)

  pub enlisted_back : (q : ℕ) → IsEnlisted new q → IsEnlisted old q
  enlisted_back q e = by (eqb p q) (row_of old q) (subst (λ (o : Option Row). IsSome o) (row_is q) e)
    where
      by : (b : Bool) (o : Option Row) → IsSome (cond b (option_map (holding does) o) o) → IsSome o
      by b (Some x) e = refl
      by true None e = absurd (false≢true e)
      by false None e = absurd (false≢true e)

  pub own_holds : IsEnlisted old p → is_holding (row_of new p) ≡ does
  own_holds there = ap is_holding own_row ∙ by (row_of old p) there
    where
      by : (o : Option Row) → IsSome o → is_holding (option_map (holding does) o) ≡ does
      by None e = absurd (false≢true e)
      by (Some x) e = refl
