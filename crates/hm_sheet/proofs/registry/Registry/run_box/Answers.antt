use Rattle.std.proofs.Common.{◌<◌, length, ap, arith}
use Rattle.hm_sheet.proofs.Places.{at_refusal, flat_map-set_same, counts_raised, counts_rise, counts_same, ran}
use Rattle.hm_sheet.proofs.registry.Registry.run_box.Goals as goal

pub returns-in_err-run_one-clause-sheets : goal.returns-in_err-run_one-clause-sheets
returns-in_err-run_one-clause-sheets g c =
    let lt : c.in-Some.place < length c.args.self.now.handlers.items = omega (arith, ap length c.deref.ensures.value, c.in-Some.ensures.within) in
    flat_map-set_same _ _ _ _ _ lt c.index_mut-handler.ensures.value c.in_err-run_one.ensures.sheets

pub returns-in_err-run_one-clause-idle_steps : goal.returns-in_err-run_one-clause-idle_steps
returns-in_err-run_one-clause-idle_steps g c =
    let lt : c.in-Some.place < length c.args.self.now.handlers.items = omega (arith, ap length c.deref.ensures.value, c.in-Some.ensures.within) in
    at_refusal _ _ (counts_same _ _ _ _ _ lt c.index_mut-handler.ensures.value c.in_err-run_one.ensures.idle.0)

pub returns-in_err-run_one-clause-idle_undos : goal.returns-in_err-run_one-clause-idle_undos
returns-in_err-run_one-clause-idle_undos g c =
    let lt : c.in-Some.place < length c.args.self.now.handlers.items = omega (arith, ap length c.deref.ensures.value, c.in-Some.ensures.within) in
    at_refusal _ _ (counts_same _ _ _ _ _ lt c.index_mut-handler.ensures.value c.in_err-run_one.ensures.idle.1)

pub returns-clause-out : goal.returns-clause-out
returns-clause-out g c =
    let lt : c.in-Some.place < length c.args.self.now.handlers.items = omega (arith, ap length c.deref.ensures.value, c.in-Some.ensures.within) in
    ran _ _ _ _ _ _ lt c.index_mut-handler.ensures.value (rw c.deref.ensures.value at c.in-Some.ensures.served) c.in_ok-run_one.ensures.out

pub returns-clause-sheets : goal.returns-clause-sheets
returns-clause-sheets g c =
    let lt : c.in-Some.place < length c.args.self.now.handlers.items = omega (arith, ap length c.deref.ensures.value, c.in-Some.ensures.within) in
    flat_map-set_same _ _ _ _ _ lt c.index_mut-handler.ensures.value c.in_ok-run_one.ensures.sheets

pub returns-clause-steps : goal.returns-clause-steps
returns-clause-steps g c =
    let lt : c.in-Some.place < length c.args.self.now.handlers.items = omega (arith, ap length c.deref.ensures.value, c.in-Some.ensures.within) in
    counts_raised _ _ _ _ _ _ _ lt c.index_mut-handler.ensures.value (rw c.deref.ensures.value at c.in-Some.ensures.first) c.in_ok-run_one.ensures.steps

pub returns-clause-undos : goal.returns-clause-undos
returns-clause-undos g c =
    let lt : c.in-Some.place < length c.args.self.now.handlers.items = omega (arith, ap length c.deref.ensures.value, c.in-Some.ensures.within) in
    counts_raised _ _ _ _ _ _ _ lt c.index_mut-handler.ensures.value (rw c.deref.ensures.value at c.in-Some.ensures.first) c.in_ok-run_one.ensures.undos

pub returns-clause-calls : goal.returns-clause-calls
returns-clause-calls g c =
    let lt : c.in-Some.place < length c.args.self.now.handlers.items = omega (arith, ap length c.deref.ensures.value, c.in-Some.ensures.within) in
    counts_rise _ _ _ _ _ lt c.index_mut-handler.ensures.value c.in_ok-run_one.ensures.calls
