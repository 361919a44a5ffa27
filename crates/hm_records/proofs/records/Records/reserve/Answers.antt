use Rattle.std.proofs.Common.{◌≤◌, ap, sym, arith}
use Rattle.hm_records.specs.Records.{RecordsView}
use Rattle.hm_records.proofs.Whole.{least_more}
use Rattle.hm_records.proofs.records.Records.reserve.Goals as goal

pub returns-clause-kept : goal.returns-clause-kept
returns-clause-kept c =
    let book = c.reserve-9.ensures.kept in
    let all = least_more _ _ _ _ (least_more _ _ _ _ c.reserve.ensures.kept c.reserve-2.ensures.kept) (least_more _ _ _ _ (least_more _ _ _ _ c.reserve-3.ensures.kept c.reserve-4.ensures.kept) (least_more _ _ _ _ (least_more _ _ _ _ c.reserve-5.ensures.kept (least_more _ _ _ _ c.reserve-6.ensures.kept c.reserve-7.ensures.kept)) (least_more _ _ _ _ c.reserve-8.ensures.kept (least_more _ _ _ _ book.0 book.1)))) in
    rw (sym (ap (λ (v : RecordsView). v.spare) c.self.view_is)) all

pub returns-in_err-reserve-8-clause-kept : goal.returns-in_err-reserve-8-clause-kept
returns-in_err-reserve-8-clause-kept c =
    let f = c.self.inside in
    let book : f.book.spare ≤ f.book.spare = omega arith in
    let more : f.book.spare_asks ≤ f.book.spare_asks = omega arith in
    let all = least_more _ _ _ _ (least_more _ _ _ _ c.reserve.ensures.kept c.reserve-2.ensures.kept) (least_more _ _ _ _ (least_more _ _ _ _ c.reserve-3.ensures.kept c.reserve-4.ensures.kept) (least_more _ _ _ _ (least_more _ _ _ _ c.reserve-5.ensures.kept (least_more _ _ _ _ c.reserve-6.ensures.kept c.reserve-7.ensures.kept)) (least_more _ _ _ _ c.reserve-8.ensures.kept (least_more _ _ _ _ book more)))) in
    rw (sym (ap (λ (v : RecordsView). v.spare) c.self.view_is)) all
