use Rattle.hm_script.proofs.PrintLemmas.{fit_group}
use Rattle.hm_script.proofs.printing.put_group.Goals as goal

pub returns-clause-fit : goal.returns-clause-fit
returns-clause-fit c some = (c.in_ok-put_ns.ensures.read_back, fit_group c.args.servers.now some c.in_ok-put_servers.ensures.read_back)
