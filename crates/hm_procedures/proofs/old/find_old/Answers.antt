use Rattle.std.proofs.Common.{rules, length, refl}
use Rattle.std.specs.Ordering.{nat_cmp}
use Rattle.std.proofs.lemmas.Fn.{always_returns_same}
use Rattle.std.proofs.lemmas.Option.{slice_get_read}
use Rattle.hm_data.specs.declared.record.Record.{Record}
use Rattle.hm_procedures.proofs.Olds.{searched_err, searched_ok}
use Rattle.hm_procedures.proofs.old.find_old.Goals as goal

pub returns-in-Ok : goal.returns-in-Ok
returns-in-Ok c =
    let p = c.args.pid.0 in
    let at = slice_get_read c.args.shown.now (length c.args.shown.now) c.in-Ok.place c.index-shown-place.result refl c.in-Ok.ensures.bound c.index-shown-place.is in (
      searched_ok c.args.shown.now c.requires p c.in-Ok.place c.index-shown-place.result at (c.in-Ok.ensures.position (λ (one : Record). nat_cmp one.pid.0 p) (always_returns_same _ _ _ (λ a r h called. search rules))),
      c.in-Ok.place,
      at,
    )

pub returns-in-Err : goal.returns-in-Err
returns-in-Err c =
    let p = c.args.pid.0 in
    searched_err c.args.shown.now c.requires p c.in-Err.field-0 (c.in-Err.ensures.position (λ (one : Record). nat_cmp one.pid.0 p) (always_returns_same _ _ _ (λ a r h called. search rules)))
