use Rattle.hm_top.specs.Ports.{source_use}
use Rattle.hm_commands.proofs.Ran.{run_none}
use Rattle.hm_top.proofs.Runs.{script_read}
use Rattle.hm_top.proofs.ending.answer_script.Goals as goal

pub returns-in-Ok-clause-ends : goal.returns-in-Ok-clause-ends
returns-in-Ok-clause-ends g c words =
    let read = c.in-Ok.ensures in
    script_read
    (record {
      words = words;
      limits = _;
      script = source_use g.S.Source c.args.script.now c.read_script.new.script;
      out = _;
      disk = _;
      hands = _;
      marks = _;
    })
    c.in-Ok.commands.items _ read.ok read.end c.converse.ensures.outcome

pub returns-in-Err-Bad-clause-run_by : goal.returns-in-Err-Bad-clause-run_by
returns-in-Err-Bad-clause-run_by g c = run_none _ _

pub returns-in-Err-ReadFault-clause-run_by : goal.returns-in-Err-ReadFault-clause-run_by
returns-in-Err-ReadFault-clause-run_by g c = run_none _ _

pub returns-in-Err-Memory-clause-run_by : goal.returns-in-Err-Memory-clause-run_by
returns-in-Err-Memory-clause-run_by g c = run_none _ _
