use Rattle.std.proofs.Common.{◌∙◌, ap, if◌then◌else◌, Some}
use Rattle.std.specs.Ordering.{is_eq}
use Rattle.hm_names.specs.Order.{server_cmp}
use Rattle.hm_index.specs.Index.{find}
use Rattle.hm_server.proofs.Alike.{kept_fence}
use Rattle.hm_server.proofs.storage.add_fence.Goals as goal

pub returns-clause-fenced : goal.returns-clause-fenced
returns-clause-fenced c =
    let finds = rw c.in_ok-name.ensures at c.set.ensures.pairs in
    kept_fence c.args.fenced.now.pairs c.set.new.self.pairs c.args.server.now (λ other. finds other ∙ ap (λ l. if is_eq (server_cmp c.args.server.now other) then Some tt else find server_cmp l other) c.in_ok-reserve.ensures.pairs)
