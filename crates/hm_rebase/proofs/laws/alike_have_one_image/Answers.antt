use Rattle.hm_rebase.proofs.Shown.{alike_images}
use Rattle.hm_rebase.proofs.laws.alike_have_one_image.Goals as goal

pub returns : goal.returns
returns c = alike_images
