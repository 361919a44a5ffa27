use Rattle.std.proofs.Common.{Vec, Global, ◌+◌, ◌++◌, map, ap, sym, ◌∙◌, subst}
use Rattle.serde_json.specs.declared.value.Value.{Value}
use Rattle.serde_json.specs.View.{view}
use Rattle.std.specs.Option.{option_copied}
use Rattle.hm_show.specs.Procs.{made_behind, proc_value}
use Rattle.hm_show.proofs.Values.{SoFar, none_more, one_more}
use Rattle.hm_show.proofs.json.add_made.Goals.{in-Some+in_ok-proc_value+in_ok-push, in_default}
use Rattle.hm_show.proofs.json.add_made.Goals as goal

pub loop-index-preserved : goal.loop-index-preserved
loop-index-preserved c =
    let past = c.args.procedures.now.past in
    let all = map view c.args.values.now.items ++ map proc_value (made_behind past) in
    let i = c.loop-index.index in
    let count = c.last_pid-count.result in
    elim c.match-find.branch [
      | in-Some+in_ok-proc_value+in_ok-push w ↦
          one_more past i count c.loop-index.values.items c.match-find.values.items all w.in_ok-proc_value.field-0 w.in-Some.one.now c.loop-index-test.true
          (sym c.find.ensures ∙ ap option_copied w.in-Some.is)
          w.in_ok-proc_value.ensures
          (ap (λ (v : Vec Value Global). v.items) w.values-is ∙ w.in_ok-push.ensures.items)
          c.loop-index.invariant
      | in_default w ↦
          subst (λ (v : Vec Value Global). SoFar past (i + 1) count v.items all) (sym w.values-is)
          (none_more past i count c.loop-index.values.items all c.loop-index-test.true (sym c.find.ensures ∙ ap option_copied w.in_default.is) c.loop-index.invariant)
    ]
