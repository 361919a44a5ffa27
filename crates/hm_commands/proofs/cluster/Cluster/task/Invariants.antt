use Rattle.hm_commands.proofs.cluster.Cluster.task.Given as goal

abbrev pub ghosts-take : goal.ghosts-take
ghosts-take g a = record { name = a.blank.name; parts = a.blank.parts }
