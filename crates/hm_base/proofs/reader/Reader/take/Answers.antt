use Rattle.std.proofs.Common.{◌+◌, sym, ◌∙◌}
use Rattle.hm_base.proofs.Reading.{among_by, announced_on, live_on, live_turned}
use Rattle.hm_base.proofs.reader.Reader.take.Goals as goal

pub suits-requires : goal.suits-requires
suits-requires c =
    live_turned c.args.last.now c.args.part.now c.args.self.now.records.past c.requires.older c.requires.past c.procedures-legal.ensures.legal (sym c.rises.ensures ∙ c.if-not-rises.false)
    c.args.self.now.ranges.ranges c.turn_to.new.ranges.ranges c.requires.live c.turn_to.ensures

pub add_part-requires : goal.add_part-requires
add_part-requires c =
    let live = live_turned c.args.last.now c.args.part.now c.args.self.now.records.past c.requires.older c.requires.past c.procedures-legal.ensures.legal (sym c.rises.ensures ∙ c.if-not-rises.false)
    c.args.self.now.ranges.ranges c.turn_to.new.ranges.ranges c.requires.live c.turn_to.ensures in
    among_by c.ranges_tell.ensures.fit c.args.self.now.records.past c.args.part.now c.turn_to.new.ranges.ranges live (c.suits.ensures.0 c.if-not-suits.false)

pub returns-clause-taken : goal.returns-clause-taken
returns-clause-taken c =
    let past = c.args.self.now.records.past in
    let up = sym c.rises.ensures ∙ c.if-not-rises.false in
    let suits = c.suits.ensures.0 c.if-not-suits.false in
    let live = live_turned c.args.last.now c.args.part.now past c.requires.older c.requires.past c.procedures-legal.ensures.legal up
    c.args.self.now.ranges.ranges c.turn_to.new.ranges.ranges c.requires.live c.turn_to.ensures in
    record {
      past = c.in_ok-enter.ensures;
      to = record {
        older = past;
        past = c.in_ok-enter.ensures;
        live = live_on c.args.last.now c.args.part.now past c.requires.older c.requires.past c.procedures-legal.ensures.legal up suits c.turn_to.new.ranges.ranges c.add_part.new.ranges.ranges live c.in_ok-add_part.ensures;
        announces = announced_on c.args.last.now c.args.part.now past c.requires.older c.requires.past c.procedures-legal.ensures.legal up suits (c.args.self.now.follow + 1) c.requires.announces;
      };
    }
