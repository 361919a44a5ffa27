use Rattle.hm_rows_exec.specs.Outs.{at_exec}
use Rattle.hm_rows_exec.proofs.Stays.{none_left, put_back_stays, some_left}
use Rattle.hm_rows_exec.proofs.run.Run.put_back.Goals as goal

pub invariant_of-self : goal.invariant_of-self
invariant_of-self c =
    none_left (at_exec c.self.inside.exec) c.self.inside.outs.items c.take_out.new.outs.items c.take_out.result c.in_default.is c.take_out.ensures c.self.invariant

pub put_back-requires : goal.put_back-requires
put_back-requires c =
    let left = some_left c.self.inside.outs.items c.take_out.new.outs.items c.take_out.result (c.in-Some.pid, c.in-Some.was, c.in-Some.out) c.in-Some.is c.take_out.ensures in
    (left.0 (at_exec c.self.inside.exec) c.self.invariant).0.0

pub invariant_of-self-2 : goal.invariant_of-self-2
invariant_of-self-2 c =
    let old = at_exec c.self.inside.exec in
    let new = at_exec c.put_back.new.self in
    let outs = c.take_out.new.outs.items in
    let left = some_left c.self.inside.outs.items outs c.take_out.result (c.in-Some.pid, c.in-Some.was, c.in-Some.out) c.in-Some.is c.take_out.ensures in
    put_back_stays old new (record { pid = c.in-Some.pid; was = c.in-Some.was }) outs c.put_back.ensures.back left.1 (left.0 old c.self.invariant).1
