use Rattle.std.proofs.Common.{refl}
use Rattle.hm_model.specs.Journal.{Past}
use Rattle.hm_procedures.specs.declared.book.Book.{Book}
use Rattle.hm_procedures.proofs.Based.{adopt_based, adopts_elders, adopts_kept}
use Rattle.hm_procedures.proofs.book.Book.adopt.Goals as goal

pub returns-clause-book : goal.returns-clause-book
returns-clause-book c =
    let J : Past = c.args.past.now.entries in
    let b : Book = c.args.self.now in (
      adopts_kept J b.kept.items b.trees.roots b.unfinished c.requires.book.0 c.args.entry.now c.requires.adopts c.requires.legal,
      adopts_elders J b.siblings.roots c.requires.book.0.legal c.requires.book.1 c.args.entry.now c.requires.adopts c.requires.legal,
      adopt_based J b _ c.args.entry.now c.requires.adopts c.requires.book.2 refl refl refl refl refl,
    )
