use Rattle.std.proofs.Common.{ap, ◌∙◌}
use Rattle.hm_records.specs.Lists.{ListsView}
use Rattle.hm_records.proofs.RootNonces.{more_roots}
use Rattle.hm_records.proofs.lists.Lists.enter.Goals as goal

pub returns-clause-root_nonces : goal.returns-clause-root_nonces
returns-clause-root_nonces c =
    more_roots c.args.entry.now c.args.past.now.past c.requires.legal c.args.made c.requires.made c.self.inside.root_nonces.items c.add_root_nonces.new.nonces.items
    (ap (λ (v : ListsView). v.root_nonces) c.self.view_is ∙ c.requires.root_nonces) c.add_root_nonces.ensures.items
