use Rattle.std.proofs.Common.{◌≡◌}
use Rattle.hm_model.specs.Base.{IsBegun}
use Rattle.hm_model.specs.Rebase.{based}
use Rattle.hm_model.specs.Rules.{IsLegal}
use Rattle.hm_base.proofs.Kept.{kept_by}
use Rattle.hm_base.proofs.base.read_base.Goals as goal

pub returns-clause-past : goal.returns-clause-past
returns-clause-past c =
    kept_by c.read_all-done.result c.unless_failed.result c.read_all-done.new.reader.records c.unless_failed.ensures.ok (λ records. records.past ≡ based c.args.parts.now) c.read_all-done.ensures.past

pub returns-clause-legal : goal.returns-clause-legal
returns-clause-legal c =
    kept_by c.read_all-done.result c.unless_failed.result c.read_all-done.new.reader.records c.unless_failed.ensures.ok (λ records. IsLegal (based c.args.parts.now)) c.read_all-done.ensures.legal

pub returns-clause-begun : goal.returns-clause-begun
returns-clause-begun c =
    kept_by c.read_all-done.result c.unless_failed.result c.read_all-done.new.reader.records c.unless_failed.ensures.ok (λ records. IsBegun (based c.args.parts.now)) c.read_all-done.ensures.begun
