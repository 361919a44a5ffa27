use Rattle.std.proofs.Common.{sym, ◌∙◌}
use Rattle.hm_records.proofs.RootNonces.{no_root_nonces}
use Rattle.hm_records.proofs.lists.Lists.begin.Goals as goal

pub returns-clause-root_nonces : goal.returns-clause-root_nonces
returns-clause-root_nonces c = c.new-2.ensures.items ∙ sym (no_root_nonces c.args.entry.now c.requires.legal)
