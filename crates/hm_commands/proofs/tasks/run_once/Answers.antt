use Rattle.std.proofs.Common.{◌≤◌, ◌∙◌, List, Option, ap, arith, inl, rules, subst}
use Rattle.hm_data.specs.declared.sheet.Sheet.{Sheet}
use Rattle.hm_sheet.specs.Learnt.{CanRunIn, answer_in}
use Rattle.hm_sheet.specs.Registry.{sheets_at, sheets_by, whole_of}
use Rattle.hm_commands.proofs.Ran.{first_run, one_run}
use Rattle.hm_commands.proofs.Registries.{some_hands}
use Rattle.hm_commands.proofs.Running.{all_still, first_has}
use Rattle.hm_commands.proofs.tasks.run_once.Goals as goal

pub run-requires : goal.run-requires
run-requires g c =
    let f = λ (r : _). sheets_by (goal.Handler-dyn g) r in
    let first = first_has f (λ (r : _). whole_of r) (λ (r : _). sheets_at r) c.args.hands.now.items c.index_mut-hands.result.now c.requires.agree c.index_mut-hands.ensures.value c.args.at.now.edition in
    subst (λ (s : Option (List Sheet)). CanRunIn s c.args.at.now) first c.requires.runs

pub returns-in_err-run-clause-each : goal.returns-in_err-run-clause-each
returns-in_err-run-clause-each g c =
    let f = λ (r : _). sheets_by (goal.Handler-dyn g) r in
    all_still f (λ (r : _). whole_of r) (λ (r : _). sheets_at r) c.args.hands.now.items c.index_mut-hands.result.now c.run.new.self c.requires.agree c.index_mut-hands.ensures.value c.run.ensures.sheets c.run.ensures.whole c.run.ensures.learnt c.requires.each

pub returns-clause-out : goal.returns-clause-out
returns-clause-out g c =
    let f = λ (r : _). sheets_by (goal.Handler-dyn g) r in
    let first = first_has f (λ (r : _). whole_of r) (λ (r : _). sheets_at r) c.args.hands.now.items c.index_mut-hands.result.now c.requires.agree c.index_mut-hands.ensures.value c.args.at.now.edition in
    ap (λ (s : Option (List Sheet)). answer_in s c.args.at.now) first ∙ c.in_ok-run.ensures.out

pub returns-clause-each : goal.returns-clause-each
returns-clause-each g c =
    let f = λ (r : _). sheets_by (goal.Handler-dyn g) r in
    all_still f (λ (r : _). whole_of r) (λ (r : _). sheets_at r) c.args.hands.now.items c.index_mut-hands.result.now c.run.new.self c.requires.agree c.index_mut-hands.ensures.value c.run.ensures.sheets c.run.ensures.whole c.run.ensures.learnt c.requires.each

pub returns-in_err-run-clause-later : goal.returns-in_err-run-clause-later
returns-in_err-run-clause-later g c =
    let f = λ (r : _). sheets_by (goal.Handler-dyn g) r in
    let hands = c.args.hands.now.items in
    let one = c.index_mut-hands.result.now in
    let new = c.run.new.self in
    let idle = c.in_err-run.ensures.idle in
    first_run f (λ r. r.runs) hands one new 0 (some_hands f hands c.requires.agree) c.index_mut-hands.ensures.value c.run.ensures.sheets (omega arith) (inl (omega arith))

pub returns-clause-runs : goal.returns-clause-runs
returns-clause-runs g c =
    let f = λ (r : _). sheets_by (goal.Handler-dyn g) r in
    let hands = c.args.hands.now.items in
    let one = c.index_mut-hands.result.now in
    let new = c.run.new.self in
    let later : one.runs ≤ new.runs = search rules in
    first_run f (λ r. r.runs) hands one new 1 (some_hands f hands c.requires.agree) c.index_mut-hands.ensures.value c.run.ensures.sheets later (one_run one.runs new.runs c.in_ok-run.ensures.runs)

pub returns-clause-later : goal.returns-clause-later
returns-clause-later g c =
    let f = λ (r : _). sheets_by (goal.Handler-dyn g) r in
    let hands = c.args.hands.now.items in
    let one = c.index_mut-hands.result.now in
    let new = c.run.new.self in
    let later : one.runs ≤ new.runs = search rules in
    first_run f (λ r. r.runs) hands one new 0 (some_hands f hands c.requires.agree) c.index_mut-hands.ensures.value c.run.ensures.sheets later (inl (omega arith))
