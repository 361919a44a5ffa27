-- Procedures that are looked at one after another.
use Rattle.std.proofs.Common.{◌≡◌, ◌≢◌, ℕ, ◌+◌, Option, Bool, true, not, ◌==◌, ◌||◌, nat_lt, nat_le, refl, inl, inr, sym, ◌∙◌, arith}
use Rattle.std.proofs.lemmas.Bool.{and_from, and_parts, cases_lt, eq-eqb, le-leb, leb-true, lt-ltb, not-true, or_cases, or_left, or_right, true≢false}
use Rattle.hm_names.specs.Server.{Server}
use Rattle.hm_model.specs.Journal.{Past}
use Rattle.hm_tied.specs.Calls.{without}
use Rattle.hm_tied.specs.Tied.{Debts, IsTiedBut, Roster}
use Rattle.hm_tied.proofs.Uses.{debts_rise}
use Rattle.hm_roster.specs.Roster.{IsSameBut, outside, paid, paid_from}
use Rattle.hm_roster.specs.declared.desk.Desk.{Desk}

-- nobody is from one number on to below itself
outside_all : (test : ℕ → Bool) (low q : ℕ) → test q ≡ true → outside test low low q ≡ true
outside_all test low q on = and_from (test q) (nat_lt q low || nat_le low q) on (elim (cases_lt q low) [
  | inl below ↦ or_left (nat_lt q low) (nat_le low q) (lt-ltb q low below)
  | inr over ↦ or_right (nat_lt q low) (nat_le low q) (le-leb low q over)
])

outside_next : (test : ℕ → Bool) (low k q : ℕ) → without (outside test low k) k q ≡ true → outside test low (k + 1) q ≡ true
outside_next test low k q on =
    let a = and_parts (outside test low k q) (not (q == k)) on in
    let b = and_parts (test q) (nat_lt q low || nat_le k q) a.0 in
    let differs : q ≢ k = λ same. true≢false (sym (eq-eqb q k same) ∙ not-true (q == k) a.1) in
    and_from (test q) (nat_lt q low || nat_le (k + 1) q) b.0 (elim (or_cases (nat_lt q low) (nat_le k q) b.1) [
      | inl below ↦ or_left (nat_lt q low) (nat_le (k + 1) q) below
      | inr over ↦ or_right (nat_lt q low) (nat_le (k + 1) q) (le-leb (k + 1) q (let l = leb-true k q over in omega (arith, l, differs)))
    ])

pub begins : (J : Past) (n : Option Server → ℕ) (roster : Roster) (debts : Debts) (low : ℕ) → IsTiedBut J n roster debts → IsTiedBut J n roster (paid_from debts low low)
begins J n roster debts low tied = debts_rise J n roster debts (paid_from debts low low) tied (record {
  owed = λ q e. outside_all debts.owed low q e;
  slack = λ q e. outside_all debts.slack low q e;
  over = λ q. refl;
  late = λ e. e;
})

pub goes_on : (J : Past) (n : Option Server → ℕ) (roster : Roster) (debts : Debts) (low k : ℕ) → IsTiedBut J n roster (paid (paid_from debts low k) k) → IsTiedBut J n roster (paid_from debts low (k + 1))
goes_on J n roster debts low k tied = debts_rise J n roster (paid (paid_from debts low k) k) (paid_from debts low (k + 1)) tied (record {
  owed = λ q e. outside_next debts.owed low k q e;
  slack = λ q e. outside_next debts.slack low k q e;
  over = λ q. refl;
  late = λ e. e;
})

pub same_on : (a b c : Desk) → IsSameBut a b → IsSameBut b c → IsSameBut a c
same_on a b c one two = record {
  claimed = two.claimed ∙ one.claimed;
  numbers = two.numbers ∙ one.numbers;
  pids = two.pids ∙ one.pids;
  servers = two.servers ∙ one.servers;
}
