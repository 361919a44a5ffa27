use Rattle.std.proofs.Common.{◌≡◌, Ok, ap, map, string_bytes, subst, sym, ◌∙◌}
use Rattle.hm_commands.proofs.Ran.{run_none}
use Rattle.hm_top.specs.declared.words.Form.TheVariants as form_is
use Rattle.hm_top.specs.Ports.{disk_use, sink_use, source_use}
use Rattle.hm_top.specs.Run.{before_line, taken_by}
use Rattle.hm_top.proofs.Outcomes.{ends_form}
use Rattle.hm_top.proofs.ending.answer_words.Goals as goal

pub returns-in-Ok-Run-clause-ends : goal.returns-in-Ok-Run-clause-ends
returns-in-Ok-Run-clause-ends g c =
    ends_form
    (record {
      words = map string_bytes c.args.words.now;
      limits = _;
      script = source_use g.S.Source c.args.script.now c.answer_script.new.script;
      out = sink_use g.K.Sink c.args.out.now c.answer_script.new.out;
      disk = disk_use g.D.Disk c.args.disk c.answer_script.result.1;
      hands = _;
      marks = _;
    })
    before_line form_is.Run c.answer_script.result.0 (sym c.form_of.ensures.form ∙ c.in-Ok-Run.is ∙ ap Ok c.in-Ok-Run.field-0-is) (c.answer_script.ensures.ends (map string_bytes c.args.words.now))

pub returns-in-Ok-Check-clause-accepts : goal.returns-in-Ok-Check-clause-accepts
returns-in-Ok-Check-clause-accepts g c form is told journal on taken why status = c.check-status.ensures.accepts told journal on tt why status

pub returns-in-Ok-Gen-clause-accepts : goal.returns-in-Ok-Gen-clause-accepts
returns-in-Ok-Gen-clause-accepts g c form is told journal on taken why status =
    let asked : Ok form ≡ Ok (form_is.Gen c.in-Ok-Gen.seed c.in-Ok-Gen.count) = sym is ∙ sym c.form_of.ensures.form ∙ c.in-Ok-Gen.is ∙ ap Ok c.in-Ok-Gen.field-0-is in
    let same : form ≡ form_is.Gen c.in-Ok-Gen.seed c.in-Ok-Gen.count = cc in
    c.generate_over.ensures.accepts told journal on (subst (λ f. taken_by f journal) same taken) why status

pub returns-in-Ok-Check-clause-run_by : goal.returns-in-Ok-Check-clause-run_by
returns-in-Ok-Check-clause-run_by g c = run_none _ _

pub returns-in-Err-clause-run_by : goal.returns-in-Err-clause-run_by
returns-in-Err-clause-run_by g c = run_none _ _
