use Rattle.std.proofs.Common.{◌≡◌, [], ◌++◌, drop, map, subst, arith}
use Rattle.std.proofs.lemmas.List.{drop_all, length-map}
use Rattle.hm_model.specs.OldRoots.{old_records}
use Rattle.hm_show.specs.Lines.{AreLines, AreLinesBut}
use Rattle.hm_show.specs.Procs.{proc_line}
use Rattle.hm_show.proofs.AllShown.{root_lines_are}
use Rattle.hm_show.proofs.Rest.{but_none, but_rest}
use Rattle.hm_show.proofs.Shown.{lines_of}
use Rattle.hm_show.proofs.proc_lines.root_lines.Goals as goal

pub loop-root-init : goal.loop-root-init
loop-root-init c =
    let past = c.args.procedures.now.past in
    let old = c.old_roots-old.result.now in
    let kept = c.loop-one.lines in
    let over = c.loop-one-test.false in
    let done : drop c.loop-one.one-index old ≡ [] = drop_all c.loop-one.one-index old (omega (arith, over)) in
    let are : AreLines (map proc_line (old_records past)) kept =
    subst (λ l. AreLines (map proc_line l) kept) c.old_roots-old.ensures
    (but_none (map proc_line old) kept (subst (λ l. AreLinesBut (map proc_line l) (map proc_line old) kept) done c.loop-one.invariant.rest)) in
    let many = are.count in
    let long = length-map (old_records past) proc_line in
    record {
      rest = but_rest (map proc_line (old_records past)) (lines_of past c.roots-roots.result.now) kept are;
      few = omega (arith, many, long);
    }

pub returns : goal.returns
returns c =
    let past = c.args.procedures.now.past in
    let roots = c.roots-roots.result.now in
    let all = map proc_line (old_records past) ++ lines_of past roots in
    let kept = c.loop-root.lines in
    let over = c.loop-root-test.false in
    let done : drop c.loop-root.root-index roots ≡ [] = drop_all c.loop-root.root-index roots (omega (arith, over)) in
    subst (λ l. AreLines l kept)
    (root_lines_are past c.last_pid-legal.ensures.legal roots c.roots-roots.ensures)
    (but_none all kept (subst (λ l. AreLinesBut (lines_of past l) all kept) done c.loop-root.invariant.rest))
