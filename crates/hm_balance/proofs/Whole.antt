-- What the plan is, for any servers, also for none.
use Rattle.std.proofs.Common.{◌≡◌, ◌≤◌, ◌==◌, true, false, List, [], ◌∷◌, length, refl, sym, ap, ◌∙◌, subst, arith}
use Rattle.std.proofs.lemmas.Bool.Decides.{nat_tests}
use Rattle.std.proofs.lemmas.List.Sorted.{IsPermutation-refl}
use Rattle.hm_names.specs.Server.{Server}
use Rattle.hm_balance.specs.declared.shift.Shift.{Shift}
use Rattle.hm_balance.specs.declared.share.Share.{Share}
use Rattle.hm_balance.specs.Loads.{Loads, NamesDiffer, Balance, IsFewest}
use Rattle.hm_balance.specs.Plan.{AreShares, IsPlan, givers, takers, paired}
use Rattle.hm_balance.proofs.Targets.{plan_length, plan_balances}
use Rattle.hm_balance.proofs.Fewest.{plan_fewest}

some_loads : (loads : Loads) → (length loads == 0) ≡ false → 1 ≤ length loads
some_loads loads e = grind (arith, nat_tests)

-- the plan's clauses, for servers with their shares
pub plan_is : (loads : Loads) (shares : List Share) (shifts : List Shift) → AreShares loads shares → NamesDiffer loads → (length loads == 0) ≡ false → shifts ≡ paired (givers shares) (takers shares) → IsPlan loads shifts
plan_is loads shares shifts are differ some e = record {
  shares = shares;
  are_shares = are;
  gives = e;
  sum_above = ap length e ∙ plan_length loads shares are differ (some_loads loads some);
}

pub balances : (loads : Loads) (shares : List Share) (shifts : List Shift) → AreShares loads shares → NamesDiffer loads → (length loads == 0) ≡ false → shifts ≡ paired (givers shares) (takers shares) → Balance loads shifts
balances loads shares shifts are differ some e = subst (Balance loads) (sym e) (plan_balances loads shares are differ (some_loads loads some))

pub is_fewest : (loads : Loads) (shares : List Share) (shifts : List Shift) → AreShares loads shares → NamesDiffer loads → (length loads == 0) ≡ false → shifts ≡ paired (givers shares) (takers shares)
    → IsFewest loads shifts
is_fewest loads shares shifts are differ some e other even = subst (λ (x : List Shift). length x ≤ length other) (sym e) (plan_fewest loads shares are differ (some_loads loads some) other even)

no_loads : (loads : Loads) → (length loads == 0) ≡ true → loads ≡ []
no_loads [] e = refl
no_loads (server ∷ more) e = (let never : (length (server ∷ more) == 0) ≡ false = grind (arith, nat_tests) in absurd (cc))

-- and for none
pub plan_none : (loads : Loads) (shifts : List Shift) → (length loads == 0) ≡ true → shifts ≡ [] → IsPlan loads shifts
plan_none loads shifts none e = subst (λ l. IsPlan l shifts) (sym (no_loads loads none)) (record {
  shares = [];
  are_shares = record {
    falling = [];
    same = IsPermutation-refl [];
    falls = λ k d le lt. absurd (omega (arith, lt));
    targets = IsPermutation-refl [];
    by_name = λ k d le lt. absurd (omega (arith, lt));
  };
  gives = e;
  sum_above = ap length e;
})

pub none_balances : (loads : Loads) (shifts : List Shift) → (length loads == 0) ≡ true → shifts ≡ [] → Balance loads shifts
none_balances loads shifts none e = subst (λ l. Balance l shifts) (sym (no_loads loads none)) (subst (Balance []) (sym e) ([], tt, tt, tt))

pub none_fewest : (shifts : List Shift) → shifts ≡ [] → (other : List Shift) → length shifts ≤ length other
none_fewest shifts e other = let none = ap length e in omega (arith, none)

pub shifts_are : (shares one other : List Share) (froms tos : List Server) (shifts : List Shift) → one ≡ shares → other ≡ shares → froms ≡ givers one → tos ≡ takers other → shifts ≡ paired froms tos
    → shifts ≡ paired (givers shares) (takers shares)
shifts_are shares one other froms tos shifts a b f t e = rw (e, f, t, a, b) refl
