use Rattle.std.proofs.Common.{rules, length, arith, sym, ◌∙◌, ap}
use Rattle.std.proofs.lemmas.Grind.{common_steps}
use Rattle.std.specs.Prelude.{IsErrOf}
use Rattle.hm_log.specs.declared.why.OpenWhy.TheVariants.{Memory}
use Rattle.hm_log.proofs.Exact.{opens_once, refused_once}
use Rattle.hm_log.proofs.Stages.{whole_reads}
use Rattle.hm_log.proofs.Listed.{frames_of-reads, reads_as, whole_as}
use Rattle.hm_log.proofs.log.Log.open.Goals as goal

pub invariant_of-log : goal.invariant_of-log
invariant_of-log g c =
    let found = c.in-Ok.ensures in
    record {
      has_room = found.buffer;
      fits = omega (arith, found.small);
      fewer = omega (arith, c.count.ensures.count, found.small);
      reads = λ tells. reads_as _ _ (whole_reads _ _ _ (found.whole tells));
      only = λ _. found.durable;
      whole = λ tells _. whole_as _ _ _ (found.whole tells);
      counted = λ tells _. c.count.ensures.count ∙ ap length (sym (frames_of-reads _ _ (whole_reads _ _ _ (found.whole tells))));
    }

pub returns-in-Ok-clause-frames : goal.returns-in-Ok-clause-frames
returns-in-Ok-clause-frames g c tells = frames_of-reads _ _ (whole_reads _ _ _ (c.in-Ok.ensures.whole tells))

pub returns-in-Ok-clause-accepts : goal.returns-in-Ok-clause-accepts
returns-in-Ok-clause-accepts g c tells frames opens = opens_once (g.D.Disk.seen c.args.disk) frames c.in-Ok.field-0.frames opens (search rules)

pub returns-in-Err-clause-accepts : goal.returns-in-Err-clause-accepts
returns-in-Err-clause-accepts g c tells frames opens =
    refused_once c.in-Err.why (g.D.Disk.seen c.args.disk) frames opens (search rules) (search rules)

pub returns-in-Err-clause-memory : goal.returns-in-Err-clause-memory
returns-in-Err-clause-memory g c tells place is =
    let fails : IsErrOf c.prepare.result Memory = grind (arith, common_steps) in
    c.prepare.ensures.memory tells place fails
