use Rattle.hm_sheet.proofs.registry.Registry.new.Goals as goal

pub returns-clause-once : goal.returns-clause-once
returns-clause-once g c kind small = rw (← c.deref.ensures.value) (c.in_default.ensures kind small)
