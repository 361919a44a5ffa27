use Rattle.std.proofs.Common.{Bool, List, ◌++◌, ◌∙◌, ap, subst}
use Rattle.std.proofs.lemmas.Result.{on_ok_weaker}
use Rattle.hm_names.specs.Order.{pid_cmp}
use Rattle.hm_names.specs.declared.pid.Pid.{Pid}
use Rattle.hm_index.specs.Index.{IsRising}
use Rattle.hm_image.proofs.Laid.{layouts_told}
use Rattle.hm_image.proofs.layouts.add_layouts.Goals as goal

pub returns : goal.returns
returns c =
    let rises = subst (λ (laid : List (Pid × Bool)). IsRising pid_cmp laid) c.view.ensures c.len-rising.ensures.rising in
    on_ok_weaker c.add_laid-added.result
    (λ is. is ∙ ap (λ l. c.args.parts.now.items ++ l) (layouts_told c.args.records.now.past c.procedures-legal.ensures.legal c.layouts_tell.ensures c.in_ok-laid.laid.pairs rises c.in_ok-laid.ensures))
    c.add_laid-added.ensures
