use Rattle.std.proofs.Common.{refl, sym, subst}
use Rattle.hm_model.specs.Rules.{IsLegal}
use Rattle.hm_sheet.specs.Registry.{sheets_at, sheets_by, whole_of}
use Rattle.hm_world.specs.Scene.{past_in}
use Rattle.hm_commands.specs.View.{scene_in}
use Rattle.hm_commands.proofs.Claims.{none_claimed}
use Rattle.hm_commands.proofs.Clusters.{becomes_ran, becomes_runs}
use Rattle.hm_commands.proofs.Running.{answered_first, runs_first}
use Rattle.hm_commands.proofs.tasks.work.Goals as goal

pub run_once-requires-clause-runs : goal.run_once-requires-clause-runs
run_once-requires-clause-runs g c =
    let J = past_in (scene_in c.args.world.now) in
    let legal = subst IsLegal (sym c.state.ensures) c.journal.ensures.legal in
    let handed = c.requires.handed in
    let hands = c.requires.hands in
    runs_first (λ (r : _). sheets_by (goal.Handler-dyn g) r) (λ (r : _). whole_of r) (λ (r : _). sheets_at r) J legal hands.unadopted c.args.taken.was handed.edition handed.runs c.args.hands.now.items hands.agree hands.begins c.requires.each

pub record-requires-clause-answer : goal.record-requires-clause-answer
record-requires-clause-answer g c =
    let J = past_in (scene_in c.args.world.now) in
    let legal = subst IsLegal (sym c.state.ensures) c.journal.ensures.legal in
    let handed = c.requires.handed in
    let hands = c.requires.hands in
    answered_first (λ (r : _). sheets_by (goal.Handler-dyn g) r) (λ (r : _). whole_of r) (λ (r : _). sheets_at r) J legal hands.unadopted c.args.taken.was handed.edition handed.runs c.args.hands.now.items hands.agree hands.begins c.requires.each c.in-Ok.out c.in-Ok.ensures.out

pub put_back-requires : goal.put_back-requires
put_back-requires g c = (c.requires.claimed c.args.taken.pid.0).1 refl

pub returns-in-Ok-clause-runs : goal.returns-in-Ok-clause-runs
returns-in-Ok-clause-runs g c =
    let J = past_in (scene_in c.args.world.now) in
    let legal = subst IsLegal (sym c.state.ensures) c.journal.ensures.legal in
    let handed = c.requires.handed in
    let hands = c.requires.hands in
    let answered = answered_first (λ (r : _). sheets_by (goal.Handler-dyn g) r) (λ (r : _). whole_of r) (λ (r : _). sheets_at r) J legal hands.unadopted c.args.taken.was handed.edition handed.runs c.args.hands.now.items hands.agree hands.begins c.requires.each c.in-Ok.out c.in-Ok.ensures.out in
    becomes_runs (scene_in c.args.world.now) c.args.taken c.in-Ok.out (scene_in c.record.new.world) c.record.result answered c.record.ensures.becomes

pub returns-in-Ok-clause-ran : goal.returns-in-Ok-clause-ran
returns-in-Ok-clause-ran g c =
    becomes_ran (scene_in c.args.world.now) c.args.taken c.in-Ok.out _ (scene_in c.record.new.world) c.record.result c.in-Ok.ensures.runs c.record.ensures.becomes c.record.ensures.err

pub returns-in-Err-clause-claimed : goal.returns-in-Err-clause-claimed
returns-in-Err-clause-claimed g c = none_claimed c.args.taken.pid.0 c.args.world.now.claimed c.put_back.new.self.claimed c.requires.claimed c.put_back.ensures.returns.0.1
