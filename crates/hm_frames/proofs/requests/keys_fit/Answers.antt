use Rattle.std.proofs.Common.{All, subst, sym}
use Rattle.std.proofs.lemmas.List.{take_all, take_more}
use Rattle.std.proofs.lemmas.List.Elements.{All-push}
use Rattle.hm_entry.specs.Fits.{KeyFits}
use Rattle.hm_frames.proofs.requests.keys_fit.Goals as goal

pub loop-key-preserved : goal.loop-key-preserved
loop-key-preserved c =
    subst (All KeyFits) (sym (take_more c.args.keys.now c.loop-key.key-index c.key-item.result c.loop-key-test.true))
    (All-push KeyFits _ _ c.loop-key.invariant (subst KeyFits c.key-item.is c.key_fits.ensures))

pub returns : goal.returns
returns c = subst (All KeyFits) (take_all c.loop-key.key-index c.args.keys.now c.loop-key-test.false) c.loop-key.invariant
