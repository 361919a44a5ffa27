use Rattle.std.proofs.Common.{ap, ◌∙◌, ◌++◌, ◌∷◌, []}
use Rattle.std.specs.Prelude.{Some}
use Rattle.hm_gate.proofs.Ends.{opens-at}
use Rattle.hm_gate.proofs.gate.Gate.new.Goals as goal

pub new-requires : goal.new-requires
new-requires g c = let k = g.V.Kept in
    opens-at k.shown c.args.value c.args.seats c.of.result.value c.push.new.self.items c.count-count.result c.of.ensures
    (c.in_default.ensures.items ∙ ap (λ l. l ++ Some c.args.value ∷ []) c.new-slots.ensures.items) c.count-count.ensures c.requires.outs c.ranges.seats.fits c.requires.seats
