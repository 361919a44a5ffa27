use Rattle.std.proofs.Common.{[], ◌∷◌, Vec, Global, ap, refl, sym, false, ◌∙◌}
use Rattle.hm_data.specs.declared.entry.Entry.{Entry}
use Rattle.hm_sheet.specs.Own.{own_sheet as own}
use Rattle.hm_rows_workers.proofs.Answering.{lends}
use Rattle.hm_rows_workers.proofs.toy.ToyHall.lend.Goals as goal

pub returns-clause-answers : goal.returns-clause-answers
returns-clause-answers c =
    let s = c.args.self.now in
    lends s.entries.items s.durable s.lent s.stages.items (own 26 ∷ []) s.few
    (record { list = c.of.result.value.items; durable = s.durable; terms = s.wanted; written = false }) c.len-count.result
    (ap (λ (v : Vec Entry Global). v.items) c.of.ensures) refl refl (c.len-count.ensures ∙ s.entries.ok.0) (sym c.is_some.ensures ∙ c.if-is_some.false) c.if-self-count.false
