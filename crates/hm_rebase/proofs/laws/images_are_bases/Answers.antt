use Rattle.hm_rebase.proofs.Rebased.{image_is_base}
use Rattle.hm_rebase.proofs.laws.images_are_bases.Goals as goal

pub returns : goal.returns
returns c = image_is_base
