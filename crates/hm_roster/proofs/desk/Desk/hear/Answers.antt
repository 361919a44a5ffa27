use Rattle.std.proofs.Common.{refl, sym, ◌∙◌}
use Rattle.hm_roster.proofs.Following.{called_known, heard_follows, tied_all, tied_one}
use Rattle.hm_roster.proofs.desk.Desk.hear.Goals as goal

pub wake-requires : goal.wake-requires
wake-requires g c = called_known c.args.records.now.past c.procedures-legal.ensures.legal c.args.call c.args.self.now c.requires

pub returns-in-Some-clause-follows : goal.returns-in-Some-clause-follows
returns-in-Some-clause-follows g c =
    heard_follows c.args.records.now.past c.procedures-legal.ensures.legal c.args.call c.args.self.now c.requires
    (record { claimed = c.args.self.now.claimed; sched = c.wake_all.new.self; book = c.args.self.now.book; numbers = c.args.self.now.numbers })
    (record { claimed = refl; numbers = refl; pids = c.wake_all.ensures.room.pids ∙ c.wake.ensures.room.pids; servers = c.wake_all.ensures.room.servers ∙ c.wake.ensures.room.servers })
    (tied_all c.args.records.now.past c.procedures-legal.ensures.legal c.args.call c.args.self.now c.requires c.wake.new.self.lists c.wake_all.new.self.lists c.in-Some.number c.wake.ensures.wakes c.wake_all.ensures.wakes
    (sym c.in-Some.is ∙ c.number_fenced.ensures.number))

pub returns-in_default-clause-follows : goal.returns-in_default-clause-follows
returns-in_default-clause-follows g c =
    heard_follows c.args.records.now.past c.procedures-legal.ensures.legal c.args.call c.args.self.now c.requires
    (record { claimed = c.args.self.now.claimed; sched = c.wake.new.self; book = c.args.self.now.book; numbers = c.args.self.now.numbers })
    (record { claimed = refl; numbers = refl; pids = c.wake.ensures.room.pids; servers = c.wake.ensures.room.servers })
    (tied_one c.args.records.now.past c.procedures-legal.ensures.legal c.args.call c.args.self.now c.requires c.wake.new.self.lists c.wake.ensures.wakes (sym c.in_default.is ∙ c.number_fenced.ensures.number))
