use Rattle.hm_script.proofs.ScriptLemmas.{full_more}
use Rattle.hm_script.proofs.script.make_room.Goals as goal

pub returns-clause-made : goal.returns-clause-made
returns-clause-made c = full_more c.args.room c.more_room-more.result c.requires.made c.more_room-more.ensures
