use Rattle.std.proofs.Common.{◌∷◌, ◌∙◌, ap, refl, sym}
use Rattle.std.proofs.lemmas.Result.{err_from_is_err_and}
use Rattle.hm_world_model.specs.Outside.{delivered, with_report}
use Rattle.hm_fleet.specs.Fleet.{outside_by}
use Rattle.hm_fleet.proofs.Travelling.{first_of, none_of}
use Rattle.hm_fleet.proofs.fleet.Fleet.deliver.Goals as goal

pub returns-in_err-report-in-Some-clause-same : goal.returns-in_err-report-in-Some-clause-same
returns-in_err-report-in-Some-clause-same c =
    let f = c.self.inside in
    let p = err_from_is_err_and c.from_residual-in_err-report-in-Some.result c.from_residual-in_err-report-in-Some.ensures.1 in
    rw (p.1, ← c.self.view_is) (record {
      outside = c.in_err-report-in-Some.ensures.same f.calls.all c.reserve.new.self.all ∙ ap (outside_by f.crew f.storage f.calls.all) c.reserve.ensures.all;
      wire = refl;
      waiting = c.reserve.ensures.travels;
    })

pub returns-in_ok-report-in-Some-clause-delivers : goal.returns-in_ok-report-in-Some-clause-delivers
returns-in_ok-report-in-Some-clause-delivers c =
    let f = c.self.inside in
    let call = c.in-Some.call.now in
    let report = c.in_ok-report-in-Some.report in
    let told = c.in_ok-report-in-Some.ensures in
    rw (← c.self.view_is) (
      call,
      record {
        wire = first_of f.calls.travels call c.in-Some.ensures ∙ ap (λ l. call ∷ l) (sym c.arrive.ensures.travels);
        outside = ap (λ sent. outside_by c.serve.new.crew c.serve.new.storage sent c.add.new.reports.all) c.arrive.ensures.all
            ∙ ap (outside_by c.serve.new.crew c.serve.new.storage f.calls.all) c.add.ensures.all
            ∙ told.outside f.calls.all c.reserve.new.self.all
            ∙ ap (λ reports. delivered (outside_by f.crew f.storage f.calls.all reports) call) c.reserve.ensures.all;
        waiting = c.add.ensures.travels ∙ ap (λ l. with_report l report) c.reserve.ensures.travels ∙ ap (with_report f.reports.travels) (told.report f.calls.all f.reports.all);
      },
    )

pub returns-in-None-clause-delivers : goal.returns-in-None-clause-delivers
returns-in-None-clause-delivers c =
    let f = c.self.inside in
    rw (← c.self.view_is) (
      none_of f.calls.travels c.in-None.ensures,
      record {
        outside = ap (outside_by f.crew f.storage f.calls.all) c.reserve.ensures.all;
        wire = refl;
        waiting = c.reserve.ensures.travels;
      },
    )
