use Rattle.hm_rows_exec.specs.Outs.{at_exec}
use Rattle.hm_rows_exec.proofs.Stays.{back_claimed, back_stays, given_stay, none_left, some_left}
use Rattle.hm_rows_exec.proofs.run.Run.commit.Goals as goal

pub invariant_of-self : goal.invariant_of-self
invariant_of-self c =
    none_left (at_exec c.self.inside.exec) c.self.inside.outs.items c.take_out.new.outs.items c.take_out.result c.in_default.is c.take_out.ensures c.self.invariant

pub commit-requires-clause-claimed : goal.commit-requires-clause-claimed
commit-requires-clause-claimed c =
    let left = some_left c.self.inside.outs.items c.take_out.new.outs.items c.take_out.result (c.in-Some.pid, c.in-Some.was, c.in-Some.out) c.in-Some.is c.take_out.ensures in
    (left.0 (at_exec c.self.inside.exec) c.self.invariant).0.0

pub commit-requires-clause-answer : goal.commit-requires-clause-answer
commit-requires-clause-answer c =
    let left = some_left c.self.inside.outs.items c.take_out.new.outs.items c.take_out.result (c.in-Some.pid, c.in-Some.was, c.in-Some.out) c.in-Some.is c.take_out.ensures in
    (left.0 (at_exec c.self.inside.exec) c.self.invariant).0.1

pub invariant_of-self-in-Ok : goal.invariant_of-self-in-Ok
invariant_of-self-in-Ok c =
    let old = at_exec c.self.inside.exec in
    let mid = at_exec c.commit.new.self in
    let left = some_left c.self.inside.outs.items c.take_out.new.outs.items c.take_out.result (c.in-Some.pid, c.in-Some.was, c.in-Some.out) c.in-Some.is c.take_out.ensures in
    given_stay old mid (record { pid = c.in-Some.pid; was = c.in-Some.was }) c.in-Some.out c.in-Ok.given c.take_out.new.outs.items c.in-Ok.ensures.answers left.1 (left.0 old c.self.invariant).1

pub put_back-requires : goal.put_back-requires
put_back-requires c =
    let old = at_exec c.self.inside.exec in
    let mid = at_exec c.commit.new.self in
    let left = some_left c.self.inside.outs.items c.take_out.new.outs.items c.take_out.result (c.in-Some.pid, c.in-Some.was, c.in-Some.out) c.in-Some.is c.take_out.ensures in
    back_claimed old mid (record { pid = c.in-Some.pid; was = c.in-Some.was }) c.in-Err.taken c.in-Some.out c.in-Err.fault c.in-Err.ensures.answers.0 c.in-Err.ensures.answers.1 (left.0 old c.self.invariant).0.0

pub invariant_of-self-in-Err : goal.invariant_of-self-in-Err
invariant_of-self-in-Err c =
    let old = at_exec c.self.inside.exec in
    let mid = at_exec c.commit.new.self in
    let left = some_left c.self.inside.outs.items c.take_out.new.outs.items c.take_out.result (c.in-Some.pid, c.in-Some.was, c.in-Some.out) c.in-Some.is c.take_out.ensures in
    back_stays old mid (at_exec c.put_back.new.self) (record { pid = c.in-Some.pid; was = c.in-Some.was }) c.in-Err.taken c.in-Some.out c.in-Err.fault c.take_out.new.outs.items
    c.in-Err.ensures.answers.0 c.in-Err.ensures.answers.1 c.put_back.ensures.back left.1 (left.0 old c.self.invariant).1
