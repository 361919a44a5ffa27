use Rattle.std.proofs.Common.{map, ap}
use Rattle.serde_json.specs.View.{view}
use Rattle.hm_show.proofs.AllShown.{values_are}
use Rattle.hm_show.proofs.json.proc_values.Goals as goal

pub returns : goal.returns
returns c =
    values_are c.args.procedures.now.past c.last_pid-legal.ensures.legal (map view c.new-values.result.items) (map view c.add_old.new.values.items) (map view c.add_made.new.values.items)
    (ap (map view) c.new-values.ensures.items) c.in_ok-add_old.ensures c.in_ok-add_made.ensures
