use Rattle.hm_base.proofs.cover.has_no_hole.Goals as goal

pub returns-in-Table : goal.returns-in-Table
returns-in-Table c = rw c.in-Table.is c.is_covered.ensures
