use Rattle.std.proofs.Common.{◌∙◌, ap, if◌then◌else◌, Some}
use Rattle.std.specs.Ordering.{is_eq}
use Rattle.hm_names.specs.Order.{pid_cmp}
use Rattle.hm_index.specs.Index.{find}
use Rattle.hm_server.proofs.Alike.{kept_layout}
use Rattle.hm_server.proofs.storage.set_layout.Goals as goal

pub returns-clause-laid : goal.returns-clause-laid
returns-clause-laid c =
    kept_layout c.args.laid.now.pairs c.set.new.self.pairs c.args.root c.args.there (λ other. c.set.ensures.pairs other ∙ ap (λ l. if is_eq (pid_cmp c.args.root other) then Some c.args.there else find pid_cmp l other) c.in_ok-reserve.ensures.pairs)
