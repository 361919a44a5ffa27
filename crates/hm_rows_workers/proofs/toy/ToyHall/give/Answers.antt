use Rattle.std.proofs.Common.{◌≡◌, List, [], ◌∷◌, ◌++◌, length, ℕ, ap, arith, subst, sym, ◌∙◌}
use Rattle.std.proofs.lemmas.Grind.{common_steps}
use Rattle.std.proofs.lemmas.Option.{slice_get_within}
use Rattle.hm_data.specs.declared.entry.Entry.{Entry}
use Rattle.hm_data.specs.declared.entry.Entry.TheVariants as entry_is
use Rattle.hm_gate.specs.Total.{same}
use Rattle.hm_sheet.specs.Own.{own_sheet as own}
use Rattle.hm_rows_workers.specs.declared.stage.Stage.TheVariants as stage_is
use Rattle.hm_rows_workers.specs.Tasks.{AreSo}
use Rattle.hm_rows_workers.proofs.Answering.{gives, is_at}
use Rattle.hm_rows_workers.proofs.Telling.{long_still, so_gives}
use Rattle.hm_rows_workers.proofs.toy.ToyHall.give.Goals as goal

pub index_mut-requires : goal.index_mut-requires
index_mut-requires c =
    let s = c.args.self.now in
    let is = is_at s.entries.items s.durable s.lent s.stages.items (own 26 ∷ []) c.number_of-place.result c.args.taken.pid.0 c.number_of-place.ensures c.number_of-place.type_inv c.requires.out in
    let w = slice_get_within s.stages.items c.number_of-place.result stage_is.Out is in grind (arith, common_steps, w)

pub invariant_of-self-2 : goal.invariant_of-self-2
invariant_of-self-2 c =
    let s = c.args.self.now in let p = c.number_of-place.result in
    let is = is_at s.entries.items s.durable s.lent s.stages.items (own 26 ∷ []) p c.args.taken.pid.0 c.number_of-place.ensures c.number_of-place.type_inv c.requires.out in
    let entry : Entry = entry_is.Step c.args.taken.pid c.pick_of-pick.result c.args.out in
    let items : s.entries.items ++ entry ∷ [] ≡ c.push_reserved.new.self.items = ap (λ (xs : List Entry). xs ++ entry ∷ []) (sym c.reserve.ensures.items) ∙ sym c.push_reserved.ensures.items in
    let l = long_still s.stages.items p stage_is.Done in record {
      so = subst (AreSo _) items (so_gives s.stages.items s.entries.items entry p is (λ q. ap (λ (i : ℕ). same q i) (sym c.number_of-place.ensures)) s.so);
      all = l ∙ s.all;
      few = (let f = s.few in omega arith);
    }

pub returns-clause-answers : goal.returns-clause-answers
returns-clause-answers c =
    let s = c.args.self.now in
    let entry : Entry = entry_is.Step c.args.taken.pid c.pick_of-pick.result c.args.out in
    gives s.entries.items s.durable s.lent s.stages.items (own 26 ∷ []) c.args.taken c.args.out c.number_of-place.result c.number_of-place.ensures c.number_of-place.type_inv c.requires.out
    c.pick_of-pick.result c.pick_of-pick.ensures c.len-number.result (c.len-number.ensures ∙ c.reserve.new.self.ok.0 ∙ ap (λ (xs : List Entry). length xs) c.reserve.ensures.items)
    c.push_reserved.new.self.items (c.push_reserved.ensures.items ∙ ap (λ (xs : List Entry). xs ++ entry ∷ []) c.reserve.ensures.items)
