use Rattle.std.proofs.Common.{◌≡◌, Some, subst}
use Rattle.std.specs.Option.{option_copied}
use Rattle.hm_model.specs.Journal.{Past}
use Rattle.hm_model.specs.Tree.{Node, node_of}
use Rattle.hm_model.specs.Choice.{candidate}
use Rattle.hm_exec.proofs.Handing.{handed}
use Rattle.hm_exec.proofs.claiming.hand_out.Goals as goal

pub returns-clause-handed : goal.returns-clause-handed
returns-clause-handed c =
    handed c.candidates_fit.ensures.fit c.picks_are_there.ensures.there _ c.journal-legal.ensures.legal c.args.pid _ c.in_ok-was.was' c.requires
    (subst (λ (J : Past). (node : Node) → node_of J c.args.pid.0 ≡ Some node → option_copied c.candidate.result ≡ candidate J c.args.pid.0 node) c.records.ensures c.candidate.ensures.pick)
    c.in_ok-was.ensures.input c.in_ok-was.ensures.edition c.in_ok-was.ensures.runs
