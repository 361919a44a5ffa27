use Rattle.std.proofs.Common.{sym}
use Rattle.std.proofs.lemmas.Result.{IfOk-weaker}
use Rattle.hm_balance.proofs.Whole.{plan_is, balances, is_fewest, plan_none, none_balances, none_fewest, shifts_are}
use Rattle.hm_balance.proofs.planning.plan.Goals as goal

pub returns-then-is_empty-clause-plan : goal.returns-then-is_empty-clause-plan
returns-then-is_empty-clause-plan c = plan_none c.args.loads.now _ (sym c.if-is_empty.ensures) c.new.ensures.items

pub returns-then-is_empty-clause-balanced : goal.returns-then-is_empty-clause-balanced
returns-then-is_empty-clause-balanced c = none_balances c.args.loads.now _ (sym c.if-is_empty.ensures) c.new.ensures.items

pub returns-then-is_empty-clause-fewest : goal.returns-then-is_empty-clause-fewest
returns-then-is_empty-clause-fewest c = λ other _. none_fewest _ c.new.ensures.items other

pub returns-clause-plan : goal.returns-clause-plan
returns-clause-plan c =
    IfOk-weaker c.pairs.result _ _ (λ v e. plan_is c.args.loads.now c.in_ok-shares.shares.items v.items c.in_ok-shares.ensures c.requires (sym c.if-is_empty.ensures) (shifts_are _ _ _ _ _ _ c.deref.ensures.value c.deref-2.ensures.value c.in_ok-givers.ensures c.in_ok-takers.ensures e)) c.pairs.ensures

pub returns-clause-balanced : goal.returns-clause-balanced
returns-clause-balanced c =
    IfOk-weaker c.pairs.result _ _ (λ v e. balances c.args.loads.now c.in_ok-shares.shares.items v.items c.in_ok-shares.ensures c.requires (sym c.if-is_empty.ensures) (shifts_are _ _ _ _ _ _ c.deref.ensures.value c.deref-2.ensures.value c.in_ok-givers.ensures c.in_ok-takers.ensures e)) c.pairs.ensures

pub returns-clause-fewest : goal.returns-clause-fewest
returns-clause-fewest c =
    IfOk-weaker c.pairs.result _ _ (λ v e. is_fewest c.args.loads.now c.in_ok-shares.shares.items v.items c.in_ok-shares.ensures c.requires (sym c.if-is_empty.ensures) (shifts_are _ _ _ _ _ _ c.deref.ensures.value c.deref-2.ensures.value c.in_ok-givers.ensures c.in_ok-takers.ensures e)) c.pairs.ensures
