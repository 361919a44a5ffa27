use Rattle.hm_roster.proofs.Alike.{roomier_follows}
use Rattle.hm_roster.proofs.desk.Desk.reserve.Goals as goal

pub returns-clause-follows : goal.returns-clause-follows
returns-clause-follows c = roomier_follows c.args.records.now.past c.procedures.ensures.legal c.args.self.now c.make_room.new.self c.make_room.ensures.roomier c.make_room.ensures.numbers c.requires
