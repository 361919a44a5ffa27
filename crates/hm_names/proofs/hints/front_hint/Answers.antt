use Rattle.std.proofs.Common.{◌∙◌, sym}
use Rattle.hm_names.proofs.hints.front_hint.Goals as goal

pub returns : goal.returns
returns c =
    sym (c.with_byte-hint.ensures.step 6 ∙ c.with_byte-hint-2.ensures.step 5 ∙ c.with_byte-hint-3.ensures.step 4 ∙ c.with_byte-hint-4.ensures.step 3
    ∙ c.with_byte-hint-5.ensures.step 2 ∙ c.with_byte-hint-6.ensures.step 1 ∙ c.with_byte.ensures.step 0)
