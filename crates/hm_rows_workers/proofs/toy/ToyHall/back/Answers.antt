use Rattle.hm_sheet.specs.Own.{own_sheet as own}
use Rattle.std.proofs.Common.{[], ◌∷◌}
use Rattle.hm_rows_workers.proofs.Answering.{backs}
use Rattle.hm_rows_workers.proofs.toy.ToyHall.back.Goals as goal

pub returns-clause-answers : goal.returns-clause-answers
returns-clause-answers c =
    let s = c.args.self.now in let o = c.args.out in
    backs s.entries.items s.durable s.lent s.stages.items (own 26 ∷ []) s.few
    (record { list = o.entries.value.items; durable = o.durable; terms = o.wanted; written = o.written }) o.count o.counted c.requires.may.is_out
