use Rattle.std.proofs.Common.{◌≡◌, ◌∷◌, inl, inr, refl, subst, sym}
use Rattle.hm_data.specs.declared.entry.Entry.{Entry}
use Rattle.hm_data.specs.declared.entry.Entry.TheVariants as entry_is
use Rattle.hm_model.specs.Journal.{Past}
use Rattle.hm_model.specs.Rules.{IsLegal}
use Rattle.hm_procedures.specs.Book.{IsBook}
use Rattle.hm_procedures.specs.declared.book.Book.{Book}
use Rattle.hm_procedures.proofs.Based.{still_based}
use Rattle.hm_procedures.proofs.Elders.{same_elders}
use Rattle.hm_procedures.proofs.Enters.{start_kept, up_kept}
use Rattle.hm_procedures.proofs.book.Book.enter.Goals as goal

pub returns-in-Start-clause-book : goal.returns-in-Start-clause-book
returns-in-Start-clause-book c =
    let J : Past = c.args.past.now.entries in
    let b : Book = c.args.self.now in
    elim c.in-Start.is [
      | inl start ↦
          let is : c.args.entry.now ≡ entry_is.Start start.0 = start.1 in
          let legal = subst (λ (e : Entry). IsLegal (e ∷ J)) is c.requires.legal in
          subst (λ (e : Entry). IsBook (e ∷ J) b) (sym is) (
            start_kept J b.kept.items b.trees.roots b.unfinished c.requires.book.0 start.0 legal,
            same_elders J c.requires.book.0.legal b.siblings.roots c.requires.book.1 (entry_is.Start start.0) legal refl (λ q lt. refl),
            still_based J (entry_is.Start start.0 ∷ J) b b refl refl refl c.requires.book.2 (refl, refl, refl, refl, refl),
          )
      | inr up ↦
          let is : c.args.entry.now ≡ entry_is.Up up.0 = up.1 in
          let legal = subst (λ (e : Entry). IsLegal (e ∷ J)) is c.requires.legal in
          subst (λ (e : Entry). IsBook (e ∷ J) b) (sym is) (
            up_kept J b.kept.items b.trees.roots b.unfinished c.requires.book.0 up.0 legal,
            same_elders J c.requires.book.0.legal b.siblings.roots c.requires.book.1 (entry_is.Up up.0) legal refl (λ q lt. refl),
            still_based J (entry_is.Up up.0 ∷ J) b b refl refl refl c.requires.book.2 (refl, refl, refl, refl, refl),
          )
    ]
