use Rattle.std.proofs.Common.{false, ◌∙◌}
use Rattle.hm_reads.proofs.Asked.{none_asked}
use Rattle.hm_reads.proofs.found.one.Goals as goal

pub returns : goal.returns
returns c = c.in_ok-add.ensures (λ key. false) (c.new-found.ensures.items ∙ none_asked c.args.catalog.now.rows)
