use Rattle.hm_top.specs.Ports.{sink_use}
use Rattle.hm_top.proofs.Runs.{run_keeps}
use Rattle.hm_top.proofs.ending.run_within.Goals as goal

pub returns : goal.returns
returns g c =
    let answered = c.answer_words-status in
    run_keeps g.K.Sink c.args.out.now answered.new.out c.finish.new.out
    (record {
      words = _;
      limits = _;
      script = _;
      out = sink_use g.K.Sink c.args.out.now c.finish.new.out;
      disk = _;
      hands = _;
      marks = _;
    })
    answered.result.0 answered.ensures.later c.finish.ensures.later c.finish.ensures.line answered.ensures.ends answered.ensures.run_by answered.ensures.accepts
