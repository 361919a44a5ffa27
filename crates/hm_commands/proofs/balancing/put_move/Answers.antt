use Rattle.hm_commands.proofs.Moving.{move_said, when_ok}
use Rattle.hm_commands.proofs.balancing.put_move.Goals as goal

pub returns : goal.returns
returns c =
    when_ok c.append_all.result
    (move_said c.args.one.now c.args.pid c.args.text.now.items c.extend_from_slice.new.self.items c.write.new.out.items c.append_all.new.text.items c.in_ok-extend_from_slice.ensures.items c.in_ok-write.ensures.written)
    c.append_all.ensures
