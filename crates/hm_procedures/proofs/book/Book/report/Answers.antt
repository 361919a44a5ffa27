use Rattle.std.proofs.Common.{◌≡◌, ℕ, ◌+◌, ◌==◌, ◌∷◌, slice_get, ap, refl, subst, ◌∙◌, arith}
use Rattle.std.specs.Option.{option_map}
use Rattle.hm_procedures.specs.Changes.{reported}
use Rattle.hm_procedures.proofs.Places.{written}
use Rattle.hm_model.specs.Journal.{Past}
use Rattle.hm_model.specs.Procedures.{offset}
use Rattle.hm_procedures.specs.declared.book.Book.{Book}
use Rattle.hm_procedures.proofs.Elders.{same_elders}
use Rattle.hm_procedures.proofs.Enters.{report_kept, same_length}
use Rattle.hm_procedures.proofs.Needs.{report_there, kept_here}
use Rattle.hm_data.specs.declared.entry.Entry.{Entry}
use Rattle.hm_data.specs.declared.entry.Entry.TheVariants as entry_is
use Rattle.hm_model.specs.Rules.{IsLegal}
use Rattle.hm_procedures.proofs.book.Book.report.Goals as goal

pub note_report-requires-clause-low : goal.note_report-requires-clause-low
note_report-requires-clause-low c =
    let legal : IsLegal (entry_is.Report c.in-Report.call c.in-Report.told ∷ c.args.past.now.entries) = subst (λ (e : Entry). IsLegal (e ∷ c.args.past.now.entries)) c.in-Report.is c.requires.legal in
    let J : Past = c.args.past.now.entries in
    let b : Book = c.args.self.now in
    let there = report_there c.in-Report.call c.in-Report.told J legal in
    rw c.requires.book.2.begin (kept_here J b.kept.items b.trees.roots b.unfinished c.requires.book.0 c.in-Report.call.0 there.0 there.1).0

pub note_report-requires-clause-high : goal.note_report-requires-clause-high
note_report-requires-clause-high c =
    let legal : IsLegal (entry_is.Report c.in-Report.call c.in-Report.told ∷ c.args.past.now.entries) = subst (λ (e : Entry). IsLegal (e ∷ c.args.past.now.entries)) c.in-Report.is c.requires.legal in
    let J : Past = c.args.past.now.entries in
    let b : Book = c.args.self.now in
    let there = report_there c.in-Report.call c.in-Report.told J legal in
    rw (c.requires.book.2.begin, c.deref_mut.ensures.value) (kept_here J b.kept.items b.trees.roots b.unfinished c.requires.book.0 c.in-Report.call.0 there.0 there.1).1

pub returns-clause-book : goal.returns-clause-book
returns-clause-book c =
    let legal : IsLegal (entry_is.Report c.in-Report.call c.in-Report.told ∷ c.args.past.now.entries) = subst (λ (e : Entry). IsLegal (e ∷ c.args.past.now.entries)) c.in-Report.is c.requires.legal in
    let J : Past = c.args.past.now.entries in
    let b : Book = c.args.self.now in
    let each : (q : ℕ) → slice_get c.note_report.new.kept q ≡ option_map (reported (offset J + q + 1 == c.in-Report.call.0) c.in-Report.told) (slice_get b.kept.items q) = λ q. rw c.requires.book.2.begin at c.note_report.ensures q ∙ ap (λ l. option_map (reported (offset J + q + 1 == c.in-Report.call.0) c.in-Report.told) (slice_get l q)) c.deref_mut.ensures.value in
    let ok = b.kept.ok.0 in
    let once = written b.kept.items c.note_report.new.kept b.kept.len (same_length (λ q. reported (offset J + q + 1 == c.in-Report.call.0) c.in-Report.told) c.note_report.new.kept b.kept.items each) (omega (arith, ok)) in
    λ is. (
      rw (c.in-Report.is, once) (report_kept J b.kept.items b.trees.roots b.unfinished c.requires.book.0 c.in-Report.call c.in-Report.told legal c.note_report.new.kept each),
      rw c.in-Report.is (same_elders J c.requires.book.0.legal b.siblings.roots c.requires.book.1 (entry_is.Report c.in-Report.call c.in-Report.told) legal refl (λ q lt. refl)),
      rw c.in-Report.is (record { begin = c.requires.book.2.begin; trees = c.requires.book.2.trees; siblings = c.requires.book.2.siblings; edition = c.requires.book.2.edition; shown = c.requires.book.2.shown }),
    )
