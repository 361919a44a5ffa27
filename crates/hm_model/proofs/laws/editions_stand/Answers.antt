use Rattle.std.proofs.Common.{refl}
use Rattle.hm_model.proofs.Editions.{edition_keeps, edition_within, editions_are, last_in_force, made_in_force, root_has, seen_edition}
use Rattle.hm_model.proofs.RootSheets.{stays}
use Rattle.hm_model.proofs.laws.editions_stand.Goals as goal

pub returns-clause-roots : goal.returns-clause-roots
returns-clause-roots c = λ J legal root is. let has = root_has J legal root is in (edition_within J root, has.0, has.1)

pub returns-clause-made : goal.returns-clause-made
returns-clause-made c = made_in_force

pub returns-clause-trees : goal.returns-clause-trees
returns-clause-trees c = λ J p node pick. (refl, seen_edition J p node pick)

pub returns-clause-stay : goal.returns-clause-stay
returns-clause-stay c = stays

pub returns-clause-sheets : goal.returns-clause-sheets
returns-clause-sheets c = editions_are

pub returns-clause-old : goal.returns-clause-old
returns-clause-old c = edition_keeps

pub returns-clause-last : goal.returns-clause-last
returns-clause-last c = last_in_force
