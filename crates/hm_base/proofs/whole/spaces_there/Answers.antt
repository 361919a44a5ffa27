use Rattle.std.proofs.Common.{◌↔◌, IfOk, IsTrue, ap, subst, ◌∙◌}
use Rattle.hm_model.specs.Catalog.{row_at}
use Rattle.hm_base.specs.Whole.{HasSpaces}
use Rattle.hm_base.proofs.whole.spaces_there.Goals as goal

pub returns : goal.returns
returns c = subst (λ there. IfOk c.has_spaces.result (λ so. IsTrue so ↔ HasSpaces there)) (ap row_at c.catalog.ensures ∙ c.rows_tell.ensures.rows c.args.records.now.past) c.has_spaces.ensures
