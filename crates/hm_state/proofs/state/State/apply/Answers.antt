use Rattle.std.proofs.Common.{◌≡◌, ◌+◌, ◌-◌, ◌^◌, ◌≤◌, false, min, sym, subst}
use Rattle.hm_data.specs.declared.entry.Entry.{Entry}
use Rattle.hm_model.specs.Journal.{Past}
use Rattle.hm_model.specs.Laws.{is_part}
use Rattle.hm_model.specs.Rules.{Allowed}
use Rattle.hm_records.specs.Parts.{size_of}
use Rattle.hm_state.specs.Ready.{ReadyView}
use Rattle.hm_state.specs.State.{IsState, StateView}
use Rattle.hm_state.proofs.Entering.{one_more, state_on}
use Rattle.hm_state.proofs.state.State.apply.Goals as goal

pub invariant_of-self : goal.invariant_of-self
invariant_of-self c =
    let entry : Entry = c.ready.inside.entry in
    let past : Past = c.self.inside.records.past in
    let allowed : Allowed past entry =
    subst (λ (s : StateView). Allowed s.past entry) (sym c.self.view_is)
    (subst (λ (r : ReadyView). Allowed c.args.self.now.past r.entry) (sym c.ready.view_is) c.requires.allowed) in
    let other : is_part entry ≡ false = subst (λ (r : ReadyView). is_part r.entry ≡ false) (sym c.ready.view_is) c.requires.other in
    let fits : size_of entry ≤ min c.self.inside.records.spare (2 ^ 63 - 1 - c.self.inside.count) =
    subst (λ (s : StateView). size_of entry ≤ s.spare) (sym c.self.view_is)
    (subst (λ (r : ReadyView). size_of r.entry ≤ c.args.self.now.spare) (sym c.ready.view_is) c.requires.room) in
    subst (λ (l : Past). IsState l (c.self.inside.count + 1)) (sym c.enter.ensures.past)
    (state_on entry past c.self.inside.count allowed other (one_more entry c.self.inside.count c.self.inside.records.spare fits) c.self.invariant)
