-- The walk over ranges in the order in which they start, and the least key that none of them has.
use Rattle.std.proofs.Common.{◌≡◌, ℕ, ◌+◌, ◌<◌, List, [], ◌∷◌, map, length, get_or, drop, Some, None, Bool, true, false, not, ◌&&◌, ◌==◌, if◌then◌else◌, refl, inl, inr, ap, sym, ◌∙◌, subst}
use Rattle.std.specs.List.{AllByRecursion}
use Rattle.std.specs.Ordering.{is_lt}
use Rattle.std.specs.declared.cmp.Ordering.TheVariants.{Less}
use Rattle.std.proofs.lemmas.Bool.{false≢true}
use Rattle.std.proofs.lemmas.List.{drop_more}
use Rattle.hm_names.specs.Order.{bytes_cmp}
use Rattle.hm_names.specs.Ranges.{ends_behind, holds}
use Rattle.hm_names.specs.declared.range.KeyRange.{KeyRange}
use Rattle.hm_names.proofs.Orders.{below, below_upto, upto, upto_below, upto_not, upto_weaker}
use Rattle.hm_model.specs.Locks.{IsIn}
use Rattle.hm_ranges.specs.Holes.{IsLeast, IsOut, StartsRise}

-- the ranges that were looked at have each key below one and none from it on
pub record IsWalked (ranges rest : List KeyRange) (least : List ℕ) : Type 0 where
  pub covered : (lesser : List ℕ) → below lesser least ≡ true → (range : KeyRange) × IsIn range ranges × (holds range lesser ≡ true)
  pub within : (range : KeyRange) → IsIn range rest → IsIn range ranges
  pub left : (range : KeyRange) (key : List ℕ) → IsIn range ranges → below key least ≡ false → holds range key ≡ true → IsIn range rest
  pub rise : StartsRise rest

none_below : (key : List ℕ) → below key [] ≡ true → ⊥
none_below [] e = false≢true e
none_below (byte ∷ key) e = false≢true e

pub walk_begins : (ranges : List KeyRange) → StartsRise ranges → IsWalked ranges ranges []
walk_begins ranges rise = record {
  covered = λ lesser low. absurd (none_below lesser low);
  within = λ range there. there;
  left = λ range key there high is. there;
  rise = rise;
}

-- a key that starts no later than a range does isn't in it
starts_later : (range : KeyRange) (key : List ℕ) → below key range.start ≡ true → holds range key ≡ false
starts_later range key low = rw (upto_not range.start key ∙ ap not low) refl

-- what starts no earlier than what starts after a key starts after it
later_too : (range other : KeyRange) (key : List ℕ) → below key range.start ≡ true → is_lt (bytes_cmp other.start range.start) ≡ false → below key other.start ≡ true
later_too range other key low order = below_upto key range.start other.start low (upto_not range.start other.start ∙ ap not order)

out_of_rest : (range other : KeyRange) (key : List ℕ) (more : List KeyRange) → below key range.start ≡ true → AllByRecursion (λ one. is_lt (bytes_cmp one.start range.start) ≡ false) more → IsIn other more → holds other key ≡ false
out_of_rest range other key [] low order there = absurd there
out_of_rest range other key (first ∷ more) low order (inl same) = ap (λ (r : KeyRange). holds r key) same ∙ starts_later first key (later_too range first key low order.0)
out_of_rest range other key (first ∷ more) low order (inr there) = out_of_rest range other key more low order.1 there

-- a key that no range has up to it is out
out_by : (ranges rest : List KeyRange) (least key : List ℕ) → IsWalked ranges rest least → below key least ≡ false → ((range : KeyRange) → IsIn range rest → holds range key ≡ false) → IsOut ranges key
out_by ranges rest least key walked high none range there = by (holds range key) refl
  where
    by : (b : Bool) → holds range key ≡ b → holds range key ≡ false
    by true e = absurd (false≢true (sym (none range (walked.left range key there high e)) ∙ e))
    by false e = e

below_itself : (key : List ℕ) → below key key ≡ false
below_itself key = by (below key key) refl
  where
    by : (b : Bool) → below key key ≡ b → below key key ≡ false
    by true e = absurd (false≢true (sym (sym (upto_weaker key key e) ∙ upto_not key key ∙ ap not e)))
    by false e = e

none_lesser : (ranges rest : List KeyRange) (least : List ℕ) → IsWalked ranges rest least → (lesser : List ℕ) → bytes_cmp lesser least ≡ Less → IsOut ranges lesser → ⊥
none_lesser ranges rest least walked lesser less out =
    let at = walked.covered lesser (ap is_lt less) in
    false≢true (sym (out at.0 at.1) ∙ at.2)

-- a range starts after all that was looked at
pub gap_found : (ranges more : List KeyRange) (range : KeyRange) (least : List ℕ) → IsWalked ranges (range ∷ more) least → below least range.start ≡ true → IsLeast ranges (Some least)
gap_found ranges more range least walked low =
    (out_by ranges (range ∷ more) least least walked (below_itself least) none, none_lesser ranges (range ∷ more) least walked)
  where
    none : (other : KeyRange) → IsIn other (range ∷ more) → holds other least ≡ false
    none other (inl same) = ap (λ (r : KeyRange). holds r least) same ∙ starts_later range least low
    none other (inr there) = out_of_rest range other least more low walked.rise.0 there

-- nothing is left
pub end_found : (ranges : List KeyRange) (least : List ℕ) → IsWalked ranges [] least → IsLeast ranges (Some least)
end_found ranges least walked =
    (out_by ranges [] least least walked (below_itself least) (λ range there. absurd there), none_lesser ranges [] least walked)

-- what starts no later than a key and ends after another that isn't below it has that
held_from : (range : KeyRange) (least key : List ℕ) → below least range.start ≡ false → below key least ≡ false → ends_behind range key ≡ true → holds range key ≡ true
held_from range least key low high ends = rw (starts, ends) refl
  where
    starts : upto range.start key ≡ true
    starts = by (below key range.start) refl
      where
        by : (b : Bool) → below key range.start ≡ b → upto range.start key ≡ true
        by true e = absurd (false≢true (sym low ∙ upto_below least key range.start (upto_not least key ∙ ap not high) e))
        by false e = upto_not range.start key ∙ ap not e

-- a range without an end has all that is left
pub open_found : (ranges more : List KeyRange) (range : KeyRange) (least : List ℕ) → IsWalked ranges (range ∷ more) least → below least range.start ≡ false → (length range.end == 0) ≡ true → IsLeast ranges None
open_found ranges more range least walked low ended key out = by (below key least) refl
  where
    ends : ends_behind range key ≡ true
    ends = rw ended refl

    by : (b : Bool) → below key least ≡ b → ⊥
    by true e = let at = walked.covered key e in false≢true (sym (out at.0 at.1) ∙ at.2)
    by false e = false≢true (sym (out range (walked.within range (inl refl))) ∙ held_from range least key low e ends)

-- each key below the next is in a range, and what isn't below it isn't below the last one nor in the range that is passed
record Passes (ranges : List KeyRange) (range : KeyRange) (least next : List ℕ) : Type 0 where
  covered : (lesser : List ℕ) → below lesser next ≡ true → (other : KeyRange) × IsIn other ranges × (holds other lesser ≡ true)
  high : (key : List ℕ) → below key next ≡ false → below key least ≡ false
  gone : (key : List ℕ) → below key next ≡ false → holds range key ≡ false

-- a range that ends is passed, with the greater of what was reached and its end
pub walk_goes_on : (ranges more : List KeyRange) (range : KeyRange) (least : List ℕ) → IsWalked ranges (range ∷ more) least → below least range.start ≡ false → (length range.end == 0) ≡ false → IsWalked ranges more (if below least range.end then range.end else least)
walk_goes_on ranges more range least walked low closed = by (below least range.end) refl
  where
    passed : (next : List ℕ) → Passes ranges range least next → IsWalked ranges more next
    passed next passes = record {
      covered = passes.covered;
      within = λ other there. walked.within other (inr there);
      left = λ other key there high is. elim (walked.left other key there (passes.high key high) is) [
        | inl same ↦ absurd (false≢true (sym (passes.gone key high) ∙ ap (λ (r : KeyRange). holds r key) (sym same) ∙ is))
        | inr further ↦ further
      ];
      rise = walked.rise.1;
    }

    -- a key that isn't below where the range ends isn't in it
    after_end : (key : List ℕ) → below key range.end ≡ false → holds range key ≡ false
    after_end key e = rw (closed, e) (nothing (upto range.start key))
      where
        nothing : (b : Bool) → (b && false) ≡ false
        nothing true = refl
        nothing false = refl

    by : (b : Bool) → below least range.end ≡ b → IsWalked ranges more (if b then range.end else least)
    by true e = passed range.end (record {
      covered = λ lesser less. covers lesser less (below lesser least) refl;
      high = λ key high. higher key high (below key least) refl;
      gone = after_end;
    })
      where
        covers : (lesser : List ℕ) → below lesser range.end ≡ true → (b : Bool) → below lesser least ≡ b → (other : KeyRange) × IsIn other ranges × (holds other lesser ≡ true)
        covers lesser less true f = walked.covered lesser f
        covers lesser less false f = (range, walked.within range (inl refl), held_from range least lesser low f (rw (closed, less) refl))

        higher : (key : List ℕ) → below key range.end ≡ false → (b : Bool) → below key least ≡ b → below key least ≡ false
        higher key high true f = absurd (false≢true (sym high ∙ below_upto key least range.end f (upto_weaker least range.end e)))
        higher key high false f = f
    by false e = passed least (record {
      covered = walked.covered;
      high = λ key high. high;
      gone = λ key high. after_end key (still key high (below key range.end) refl);
    })
      where
        still : (key : List ℕ) → below key least ≡ false → (b : Bool) → below key range.end ≡ b → below key range.end ≡ false
        still key high true f = absurd (false≢true (sym high ∙ below_upto key range.end least f (upto_not range.end least ∙ ap not e)))
        still key high false f = f

-- a loop's step: the next range is the first of those that are left
pub next_range : {A : Type 0} (view : A → KeyRange) (ranges : List KeyRange) (list : List A) (least : List ℕ) (i : ℕ) (d item : A) (range : KeyRange) → i < length list → item ≡ get_or list i d → range ≡ view item
    → IsWalked ranges (map view (drop i list)) least → IsWalked ranges (range ∷ map view (drop (i + 1) list)) least
next_range {A} view ranges list least i d item range within is seen walked =
    subst (λ (r : KeyRange). IsWalked ranges (r ∷ map view (drop (i + 1) list)) least) (sym seen)
    (subst (λ (l : List A). IsWalked ranges (map view l) least) (drop_more list i d within ∙ ap (λ (a : A). a ∷ drop (i + 1) list) (sym is)) walked)
