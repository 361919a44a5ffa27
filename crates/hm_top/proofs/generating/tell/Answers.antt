use Rattle.std.proofs.Common.{◌≡◌, ap, sym, ◌∙◌, subst}
use Rattle.hm_top.specs.Generating.{TellsAs, gen_text, text_at}
use Rattle.hm_top.specs.Ports.{sink_use}
use Rattle.hm_top.specs.Run.{before_line}
use Rattle.hm_top.specs.declared.status.RunStatus.TheVariants.{WriteFault}
use Rattle.hm_commands.specs.Answer.{answer_text}
use Rattle.hm_model.specs.Image.{counted}
use Rattle.hm_world.specs.Scene.{past_in}
use Rattle.hm_commands.specs.View.{scene_in}
use Rattle.hm_top.proofs.Lines.{one_short}
use Rattle.hm_top.proofs.generating.tell.Goals as goal

pub returns-in-Err-clause-tells : goal.returns-in-Err-clause-tells
returns-in-Err-clause-tells g c =
    let out = sink_use g.K.Sink c.args.out.now c.say.new.out in
    let at = scene_in c.args.cluster.now in
    let line = c.in-Ok.line in
    let text : answer_text line ≡ text_at c.args.seed c.args.count at =
    c.in-Ok.ensures ∙ ap (λ n. gen_text c.args.seed c.args.count n c.census.result) c.counted.ensures.count ∙ ap (gen_text c.args.seed c.args.count (counted (past_in at))) c.census.ensures in
    subst (λ h. TellsAs out (before_line out) c.args.seed c.args.count h at WriteFault) (sym (sym c.halted.ensures.halted ∙ c.in_default.is))
    (c.in-Err.ensures.cause.failed, (line, text, λ told. one_short out.before out.after line (c.in-Err.ensures.part told)))
