use Rattle.std.proofs.Common.{◌≡◌, map, reverse, ap, ◌∙◌, arith}
use Rattle.std.proofs.lemmas.Grind.{common_steps}
use Rattle.hm_model.specs.Undoing.{turned}
use Rattle.hm_acts.proofs.Turns.{reversed}
use Rattle.hm_acts.proofs.undo.turned_round.Goals as goal

pub returns : goal.returns
returns c =
    let all : c.loop-edit.turned_edits.items ≡ map turned c.args.edits.now = grind (arith, common_steps) in
    c.reverse.ensures.items ∙ ap reverse all ∙ reversed c.args.edits.now
