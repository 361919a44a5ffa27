use Rattle.hm_sheet.specs.Registry.{sheets_at}
use Rattle.hm_workers.proofs.Asked.{answered_there, asked_there}
use Rattle.hm_workers.proofs.registry.RegistryServes.serve.Goals as goal

pub run-requires : goal.run-requires
run-requires g c = asked_there (sheets_at c.args.self.now c.args.at.now.edition) c.args.at.now c.requires

pub returns-clause-out : goal.returns-clause-out
returns-clause-out g c = answered_there (sheets_at c.args.self.now c.args.at.now.edition) c.args.at.now c.run.new.out c.in_ok-run.ensures.out
