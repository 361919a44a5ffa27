use Rattle.hm_world.proofs.Nearer.{carries_nearer}
use Rattle.hm_world.proofs.world.World.carry.Goals as goal

pub returns-then-waits-gt0-clause-nearer : goal.returns-then-waits-gt0-clause-nearer
returns-then-waits-gt0-clause-nearer g c moved = carries_nearer _ _ c.hear.result c.keeps.ensures.kept c.hear.ensures.carries moved

pub returns-then-on_wire-gt0-clause-nearer : goal.returns-then-on_wire-gt0-clause-nearer
returns-then-on_wire-gt0-clause-nearer g c moved = carries_nearer _ _ c.deliver.result c.keeps.ensures.kept c.deliver.ensures.carries moved

pub returns-clause-nearer : goal.returns-clause-nearer
returns-clause-nearer g c moved = carries_nearer _ _ _ c.keeps.ensures.kept c.in_ok-send.ensures.carries moved
