use Rattle.std.proofs.Common.{◌≡◌, sym, ◌∙◌, subst, map}
use Rattle.hm_hall.specs.Recording.{past_in}
use Rattle.hm_model.specs.Sheets.{sheets_of as in_force}
use Rattle.hm_model.specs.Editions.{editions}
use Rattle.hm_sheet.specs.Registry.{sheets_at, sheets_by, whole_of}
use Rattle.hm_commands.specs.Hands.{AgreeOn, first_sheets}
use Rattle.hm_commands.proofs.Registries.{Lists, agree_own, all_first, first_is, used_are}
use Rattle.hm_top.specs.Talking.{IsOpened}
use Rattle.hm_top.specs.View.{StoreView}
use Rattle.hm_top.proofs.Openings.{ok_both, ok_so}
use Rattle.hm_top.proofs.Runs.{called_to_open, failed_to_open}
use Rattle.hm_top.proofs.talking.open_for.Goals as goal

pub returns-clause-opened : goal.returns-clause-opened
returns-clause-opened g c =
    let f = λ (r : _). sheets_by (goal.Handler-dyn g) r in
    let listed = used_are f (λ (r : _). whole_of r) (λ (r : _). sheets_at r) c.args.hands.now.items c.requires.agree c.requires.each c.index.result.now c.index.ensures c.as_slice.result.now (c.as_slice.ensures ∙ c.sheets-sheets.ensures) in
    ok_so c.open.result (λ (store : StoreView _) (found : IsOpened g.D.Disk c.as_slice.result.now c.args.limits c.args.disk store). subst (λ s. IsOpened g.D.Disk s c.args.limits c.args.disk store) (sym listed) found) c.open.ensures.journal

pub returns-clause-called : goal.returns-clause-called
returns-clause-called g c = called_to_open g.D.Disk c.args.disk c.open.result c.open.ensures.used c.open.ensures.few c.open.ensures.clean

pub returns-clause-serve : goal.returns-clause-serve
returns-clause-serve g c =
    let f = λ (r : _). sheets_by (goal.Handler-dyn g) r in
    let hands = c.args.hands.now.items in
    let one = c.index.result.now in
    let list = (all_first f hands c.requires.agree (Lists f (λ (r : _). whole_of r) (λ (r : _). sheets_at r)) one c.index.ensures c.requires.each).0 in
    let first : first_sheets (map f hands) ≡ f one = first_is f hands c.requires.agree one c.index.ensures in
    ok_both c.open.result
    (λ (store : StoreView _) (begins : in_force (past_in store.kept) ≡ c.as_slice.result.now) (none : editions (past_in store.kept) ≡ 0).
    record {
      agree = c.requires.agree;
      begins = subst (λ s. AgreeOn s (in_force (past_in store.kept))) (sym first) (subst (AgreeOn (f one)) (sym (begins ∙ c.as_slice.ensures ∙ c.sheets-sheets.ensures)) (agree_own (f one) (whole_of one) list));
      unadopted = none;
    }) c.open.ensures.sheets c.open.ensures.unadopted

pub returns-clause-failed : goal.returns-clause-failed
returns-clause-failed g c =
    let f = λ (r : _). sheets_by (goal.Handler-dyn g) r in
    let listed = used_are f (λ (r : _). whole_of r) (λ (r : _). sheets_at r) c.args.hands.now.items c.requires.agree c.requires.each c.index.result.now c.index.ensures c.as_slice.result.now (c.as_slice.ensures ∙ c.sheets-sheets.ensures) in
    let its = c.open.ensures in
    failed_to_open g.D.Disk c.args.disk _ c.as_slice.result.now listed c.open.result its.why its.accepts its.fault its.same its.spared its.any_moment its.used its.few
