use Rattle.std.proofs.Common.{◌∙◌}
use Rattle.hm_roll.proofs.Images.{not_all, one_list, only_memory, told_wrong}
use Rattle.hm_roll.proofs.reading.parts_of.Goals as goal

pub returns-in-Ok-clause-inverse : goal.returns-in-Ok-clause-inverse
returns-in-Ok-clause-inverse c parts spells = c.of.ensures ∙ one_list c.args.frames.now c.add_parts.new.parts.items parts c.in-Ok.ensures.parts spells

pub returns-in-Err-clause-inverse : goal.returns-in-Err-clause-inverse
returns-in-Err-clause-inverse c parts spells = only_memory c.args.frames.now parts c.in-Err.why spells c.in-Err.ensures.why

pub returns-in-Ok-clause-wrong : goal.returns-in-Ok-clause-wrong
returns-in-Ok-clause-wrong c number at wrong = not_all c.args.frames.now number at c.add_parts.new.parts.items wrong c.in-Ok.ensures.parts

pub returns-in-Err-clause-wrong : goal.returns-in-Err-clause-wrong
returns-in-Err-clause-wrong c number at wrong = told_wrong c.args.frames.now number at c.in-Err.why wrong c.in-Err.ensures.why
