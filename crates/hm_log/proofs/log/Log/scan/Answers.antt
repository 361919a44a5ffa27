use Rattle.std.proofs.Common.{arith}
use Rattle.std.proofs.lemmas.Grind.{common_steps}
use Rattle.std.specs.Prelude.{IsErrOf}
use Rattle.hm_log.specs.declared.why.OpenWhy.TheVariants.{Memory}
use Rattle.hm_log.proofs.Settling.{found_holds}
use Rattle.hm_log.proofs.log.Log.scan.Goals as goal

pub returns-in_err-fetch-clause-memory : goal.returns-in_err-fetch-clause-memory
returns-in_err-fetch-clause-memory g c tells place err =
    let fails : IsErrOf c.fetch.result Memory = grind (arith, common_steps) in
    c.fetch.ensures.memory tells place fails

pub returns-clause-reads : goal.returns-clause-reads
returns-clause-reads g c tells =
    let found = c.in_ok-fetch.field-0 in
    found_holds (g.D.Disk.seen c.args.disk.now) found.layout found.frames found.gate (c.in_ok-fetch.ensures.found tells)
