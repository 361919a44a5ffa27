-- What was rolled of a journal stays so in each longer one, where what stands behind it is no part of a base.
use Rattle.std.proofs.Common.{◌≡◌, ℕ, zero, suc, ◌+◌, ◌-◌, ◌≤◌, [], ◌∷◌, nat_lt, length, length-drop, drop, Option, Some, None, true, false, refl, ap, sym, ◌∙◌, subst, arith}
use Rattle.std.proofs.lemmas.Bool.{cond-false, cond-true, lt-ltb, true≢false}
use Rattle.std.proofs.lemmas.Bool.Decides.{nat_tests}
use Rattle.hm_data.specs.declared.entry.Entry.{Entry}
use Rattle.hm_data.specs.declared.entry.Entry.TheVariants as entry_is
use Rattle.hm_model.specs.Base.{IsBegun}
use Rattle.hm_model.specs.Image.{counted}
use Rattle.hm_model.specs.Journal.{Past}
use Rattle.hm_model.specs.Laws.{is_part}
use Rattle.hm_model.specs.Rebase.{MayRoll, up_to}
use Rattle.hm_world_model.specs.Outside.{Outside}
use Rattle.hm_world_model.specs.Runs.{IsRolledIn, IsTrueReport}
use Rattle.hm_world_model.specs.Safe.{IsPlainBehind}
use Rattle.hm_world_model.specs.World.{first, with_tail}
use Rattle.hm_world_model.proofs.Fronts.{drop_again, first_length, shorter}

-- an entry that is no part counts, and stands behind what had begun
pub count_more : (entry : Entry) (J : Past) → is_part entry ≡ false → counted (entry ∷ J) ≡ counted J + 1
count_more (entry_is.Base part) J other = absurd (true≢false other)
count_more entry J other = refl

begun_more : (entry : Entry) (J : Past) → is_part entry ≡ false → IsBegun (entry ∷ J)
begun_more (entry_is.Base part) J other = absurd (true≢false other)
begun_more entry J other = tt

-- a true report is no part
pub true_plain : (entry : Entry) (o : Outside) → IsTrueReport o entry → is_part entry ≡ false
true_plain (entry_is.Base part) o true_report = absurd true_report
true_plain entry o true_report = refl

pub below_more : (entry : Entry) (J : Past) (r : ℕ) → is_part entry ≡ false → r ≤ counted J → nat_lt r (counted (entry ∷ J)) ≡ true
below_more entry J r other within = lt-ltb r (counted (entry ∷ J)) (let more = count_more entry J other in omega (arith, within, more))

pub up_to_more : (entry : Entry) (J : Past) (r : ℕ) → is_part entry ≡ false → r ≤ counted J → up_to (entry ∷ J) r ≡ up_to J r
up_to_more entry J r other within = cond-true (nat_lt r (counted (entry ∷ J))) (up_to J r) (entry ∷ J) (below_more entry J r other within)

pub not_below : (n : ℕ) → nat_lt n n ≡ false
not_below n = grind (arith, nat_tests)

pub up_to_all : (J : Past) → up_to J (counted J) ≡ J
up_to_all [] = refl
up_to_all (entry ∷ J) = cond-false (nat_lt (counted (entry ∷ J)) (counted (entry ∷ J))) (up_to J (counted (entry ∷ J))) (entry ∷ J) (not_below (counted (entry ∷ J)))

rolled_more : (entry : Entry) (J : Past) (r : ℕ) → is_part entry ≡ false → IsRolledIn J r → IsRolledIn (entry ∷ J) r
rolled_more entry J r other was = record {
  begun = begun_more entry J other;
  within = (let more = count_more entry J other in let few = was.within in omega (arith, more, few));
  front = subst IsBegun (sym (up_to_more entry J r other was.within)) was.front;
  may = subst MayRoll (sym (up_to_more entry J r other was.within)) was.may;
}

pub rolled_on : (n d r : ℕ) (J : Past) → n + d ≤ length J → IsPlainBehind d J → IsRolledIn (drop n J) r → IsRolledIn J r
rolled_on zero d r J within plain was = was
rolled_on (suc n) d r [] within plain was = was
rolled_on (suc n) d r (entry ∷ J) within plain was =
    rolled_more entry J r (plain 0 entry J refl (omega (arith, within))) (rolled_on n d r J (omega (arith, within)) (λ m e before is low. plain (suc m) e before is low) was)

-- all of a journal may be rolled
pub rolled_all : (J : Past) → IsBegun J → MayRoll J → IsRolledIn J (counted J)
rolled_all J begun may = record {
  begun = begun;
  within = omega arith;
  front = subst IsBegun (sym (up_to_all J)) begun;
  may = subst MayRoll (sym (up_to_all J)) may;
}

-- entries that are no parts
pub plain_pushed : (entry : Entry) (J : Past) (d : ℕ) → is_part entry ≡ false → IsPlainBehind d J → IsPlainBehind d (entry ∷ J)
plain_pushed entry J d other plain zero e before is low = subst (λ x. is_part x ≡ false) (same is) other
  where
    same : entry ∷ J ≡ e ∷ before → entry ≡ e
    same is = cc
plain_pushed entry J d other plain (suc n) e before is low = plain n e before is low

pub plain_later : (J : Past) (d k : ℕ) → d ≤ k → IsPlainBehind d J → IsPlainBehind k J
plain_later J d k more plain n e before is low = plain n e before is (omega (arith, more, low))

pub plain_dropped : (m d : ℕ) (J : Past) → IsPlainBehind d J → IsPlainBehind d (drop m J)
plain_dropped m d J plain n e before is low = plain (m + n) e before (sym (drop_again n m J) ∙ is) low

pub plain_within : (tail : Option Entry) (past : Past) (d : ℕ) → IsPlainBehind d (with_tail tail past) → IsPlainBehind d past
plain_within None past d plain = plain
plain_within (Some entry) past d plain = λ n e before is low. plain (suc n) e before is low

pub plain_opened : (J : Past) → IsPlainBehind (length J) J
plain_opened J n e before is low = absurd (longer (ap length is))
  where
    longer : length (drop n J) ≡ length (e ∷ before) → ⊥
    longer same = omega (arith, same, low, length-drop n J)

-- what was rolled of fewer entries is so of more
pub rolled_first : (J : Past) (d k r : ℕ) → d ≤ k → k ≤ length J → IsPlainBehind d J → IsRolledIn (first d J) r → IsRolledIn (first k J) r
rolled_first J d k r low high plain was =
    rolled_on (k - d) d r (first k J) (let size = first_length k J high in omega (arith, size, low)) (plain_dropped (length J - k) d J plain) (subst (λ X. IsRolledIn X r) (shorter J d k low high) was)
