use Rattle.std.proofs.Common.{◌≡◌, ℕ, ◌+◌, ◌==◌, ◌∷◌, slice_get, ap, refl, subst, ◌∙◌, arith}
use Rattle.std.specs.Option.{option_map}
use Rattle.hm_procedures.specs.Changes.{aborted}
use Rattle.hm_procedures.proofs.Places.{written}
use Rattle.hm_model.specs.Journal.{Past}
use Rattle.hm_model.specs.Procedures.{offset}
use Rattle.hm_procedures.specs.declared.book.Book.{Book}
use Rattle.hm_procedures.proofs.Elders.{same_elders}
use Rattle.hm_procedures.proofs.Enters.{abort_kept, same_length}
use Rattle.hm_procedures.proofs.Needs.{abort_there, kept_here}
use Rattle.hm_data.specs.declared.entry.Entry.{Entry}
use Rattle.hm_data.specs.declared.entry.Entry.TheVariants as entry_is
use Rattle.hm_model.specs.Rules.{IsLegal}
use Rattle.hm_procedures.proofs.book.Book.abort.Goals as goal

pub note_abort-requires-clause-low : goal.note_abort-requires-clause-low
note_abort-requires-clause-low c =
    let legal : IsLegal (entry_is.Abort c.in-Abort.pid ∷ c.args.past.now.entries) = subst (λ (e : Entry). IsLegal (e ∷ c.args.past.now.entries)) c.in-Abort.is c.requires.legal in
    let J : Past = c.args.past.now.entries in
    let b : Book = c.args.self.now in
    let there = abort_there c.in-Abort.pid J legal in
    rw c.requires.book.2.begin (kept_here J b.kept.items b.trees.roots b.unfinished c.requires.book.0 c.in-Abort.pid.0 there.0 there.1).0

pub note_abort-requires-clause-high : goal.note_abort-requires-clause-high
note_abort-requires-clause-high c =
    let legal : IsLegal (entry_is.Abort c.in-Abort.pid ∷ c.args.past.now.entries) = subst (λ (e : Entry). IsLegal (e ∷ c.args.past.now.entries)) c.in-Abort.is c.requires.legal in
    let J : Past = c.args.past.now.entries in
    let b : Book = c.args.self.now in
    let there = abort_there c.in-Abort.pid J legal in
    rw (c.requires.book.2.begin, c.deref_mut.ensures.value) (kept_here J b.kept.items b.trees.roots b.unfinished c.requires.book.0 c.in-Abort.pid.0 there.0 there.1).1

pub returns-clause-book : goal.returns-clause-book
returns-clause-book c =
    let legal : IsLegal (entry_is.Abort c.in-Abort.pid ∷ c.args.past.now.entries) = subst (λ (e : Entry). IsLegal (e ∷ c.args.past.now.entries)) c.in-Abort.is c.requires.legal in
    let J : Past = c.args.past.now.entries in
    let b : Book = c.args.self.now in
    let each : (q : ℕ) → slice_get c.note_abort.new.kept q ≡ option_map (aborted (offset J + q + 1 == c.in-Abort.pid.0)) (slice_get b.kept.items q) = λ q. rw c.requires.book.2.begin at c.note_abort.ensures q ∙ ap (λ l. option_map (aborted (offset J + q + 1 == c.in-Abort.pid.0)) (slice_get l q)) c.deref_mut.ensures.value in
    let ok = b.kept.ok.0 in
    let once = written b.kept.items c.note_abort.new.kept b.kept.len (same_length (λ q. aborted (offset J + q + 1 == c.in-Abort.pid.0)) c.note_abort.new.kept b.kept.items each) (omega (arith, ok)) in
    λ is. (
      rw (c.in-Abort.is, once) (abort_kept J b.kept.items b.trees.roots b.unfinished c.requires.book.0 c.in-Abort.pid legal c.note_abort.new.kept each),
      rw c.in-Abort.is (same_elders J c.requires.book.0.legal b.siblings.roots c.requires.book.1 (entry_is.Abort c.in-Abort.pid) legal refl (λ q lt. refl)),
      rw c.in-Abort.is (record { begin = c.requires.book.2.begin; trees = c.requires.book.2.trees; siblings = c.requires.book.2.siblings; edition = c.requires.book.2.edition; shown = c.requires.book.2.shown }),
    )
