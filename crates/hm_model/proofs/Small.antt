-- Small facts of lists, tests and options that the laws use.
use Rattle.std.proofs.Common.{◌≡◌, ◌≢◌, ℕ, zero, suc, List, [], ◌∷◌, ◌++◌, map, slice_get, Bool, true, false, not, ◌||◌, Option, Some, None, is_none, is_some, refl, ap, sym, inl, inr}
use Rattle.std.proofs.lemmas.Bool.{false≢true, true≢false}
use Rattle.std.proofs.lemmas.Option.{none-some, same_Some}
use Rattle.hm_model.specs.Counts.{one_if}
use Rattle.hm_model.specs.Locks.{IsIn}
use Rattle.hm_model.specs.Tree.{is_top}

-- lists
pub cons_nil : {A : Type 0} (x : A) (xs : List A) → x ∷ xs ≡ [] → ⊥
cons_nil x xs e = cc

pub nil_cons : {A : Type 0} (x : A) (xs : List A) → [] ≡ x ∷ xs → ⊥
nil_cons x xs e = cc

pub same_head : {A : Type 0} (x y : A) (xs ys : List A) → x ∷ xs ≡ y ∷ ys → x ≡ y
same_head x y xs ys e = cc

pub in_left : {A : Type 0} (x : A) (xs ys : List A) → IsIn x xs → IsIn x (xs ++ ys)
in_left x [] ys h = absurd h
in_left x (z ∷ zs) ys (inl same) = inl same
in_left x (z ∷ zs) ys (inr among) = inr (in_left x zs ys among)

pub in_right : {A : Type 0} (x : A) (xs ys : List A) → IsIn x ys → IsIn x (xs ++ ys)
in_right x [] ys h = h
in_right x (z ∷ zs) ys h = inr (in_right x zs ys h)

pub in_map : {A B : Type 0} (f : A → B) (x : A) (xs : List A) → IsIn x xs → IsIn (f x) (map f xs)
in_map f x [] h = absurd h
in_map f x (z ∷ zs) (inl same) = inl (ap f same)
in_map f x (z ∷ zs) (inr among) = inr (in_map f x zs among)

-- what stands at a place is listed
pub slice_in : {A : Type 0} (xs : List A) (i : ℕ) (x : A) → slice_get xs i ≡ Some x → IsIn x xs
slice_in [] i x h = absurd (none-some x h)
slice_in (y ∷ ys) zero x h = inl (sym (same_Some y x h))
slice_in (y ∷ ys) (suc i) x h = inr (slice_in ys i x h)

-- who has nobody above is at the top
pub top_is : (above : List ℕ) → is_top above ≡ true → above ≡ []
top_is [] e = refl
top_is (up ∷ above) e = absurd (false≢true e)

pub top_not : (above : List ℕ) → above ≢ [] → is_top above ≡ false
top_not [] below = absurd (below refl)
top_not (up ∷ above) below = refl

-- tests: what an implication gives, and one whose conclusion has a first case that doesn't hold
pub from_test : (a b c : Bool) → a ≡ true → b ≡ false → (not a || (b || c)) ≡ true → c ≡ true
from_test true false c ea eb h = h
from_test true true c ea eb h = absurd (true≢false eb)
from_test false b c ea eb h = absurd (false≢true ea)

pub implied : (a b : Bool) → a ≡ true → (not a || b) ≡ true → b ≡ true
implied true b e h = h
implied false b e h = absurd (false≢true e)

-- options
pub none_from : {A : Type 0} (o : Option A) → (o ≢ None → ⊥) → o ≡ None
none_from None h = refl
none_from (Some x) h = absurd (h (λ e. none-some x (sym e)))

pub has_some : {A : Type 0} (o : Option A) → o ≢ None → is_some o ≡ true
has_some None some = absurd (some refl)
has_some (Some x) some = refl

pub some_not : {A : Type 0} (o : Option A) → o ≢ None → is_none o ≡ false
some_not None some = absurd (some refl)
some_not (Some x) some = refl

pub none_told : {A : Type 0} (o : Option A) → is_some o ≡ false → o ≡ None
none_told None h = refl
none_told (Some x) h = absurd (true≢false h)

pub some_one : {A : Type 0} (o : Option A) → o ≢ None → one_if (is_some o) ≡ 1
some_one None some = absurd (some refl)
some_one (Some x) some = refl
