use Rattle.std.proofs.Common.{◌≡◌, ◌+◌, length, sym, ◌∙◌, arith}
use Rattle.hm_model.specs.Journal.{Past}
use Rattle.hm_model.specs.Procedures.{offset}
use Rattle.hm_model.specs.Tree.{made}
use Rattle.hm_procedures.specs.Kept.{kept_at}
use Rattle.hm_procedures.specs.declared.book.Book.{Book}
use Rattle.hm_procedures.proofs.Elders.{elders_long, elders_root}
use Rattle.hm_procedures.proofs.Enters.{root_kept}
use Rattle.hm_procedures.proofs.Based.{rooting_based}
use Rattle.hm_procedures.proofs.Needs.{few_roots, offset_most, roots_long}
use Rattle.hm_procedures.proofs.book.Book.root.Goals as goal

pub add_all-requires-clause-count : goal.add_all-requires-clause-count
add_all-requires-clause-count c =
    let b : Book = c.args.self.now in
    roots_long c.args.past.now.entries b.kept.items b.trees.roots b.unfinished c.requires.book.0

pub add_all-requires-clause-siblings : goal.add_all-requires-clause-siblings
add_all-requires-clause-siblings c =
    let J : Past = c.args.past.now.entries in
    let b : Book = c.args.self.now in
    elders_long J c.requires.book.0.legal b.siblings.roots c.requires.book.1 (kept_at J) b.kept.items c.requires.book.0.kept_are

pub add_all-requires-clause-trees_from : goal.add_all-requires-clause-trees_from
add_all-requires-clause-trees_from c = c.requires.book.2.trees ∙ sym c.requires.book.2.begin

pub add_all-requires-clause-siblings_from : goal.add_all-requires-clause-siblings_from
add_all-requires-clause-siblings_from c = c.requires.book.2.siblings ∙ sym c.requires.book.2.begin

pub add_all-requires-clause-few : goal.add_all-requires-clause-few
add_all-requires-clause-few c = rw c.requires.book.2.begin (offset_most c.args.past.now.entries c.requires.book.0.legal)

pub returns-clause-book : goal.returns-clause-book
returns-clause-book c =
    let J : Past = c.args.past.now.entries in
    let b : Book = c.args.self.now in
    let on = c.requires.book.2 in
    let base = c.add_all.ensures.base in
    let same = elders_long J c.requires.book.0.legal b.siblings.roots c.requires.book.1 (kept_at J) b.kept.items c.requires.book.0.kept_are in
    let count = c.requires.book.0.count in
    let long : offset J + length b.siblings.roots ≡ made J = omega (arith, same, count) in (
      rw (c.add_all.ensures.kept, c.add_all.ensures.trees, c.add_all.ensures.unfinished, c.requires.made, on.begin, on.edition, count)
          (root_kept J b.kept.items b.trees.roots b.unfinished c.requires.book.0 c.args.entry.now c.requires.roots c.requires.legal),
      rw (c.add_all.ensures.siblings, c.requires.made, on.begin, count) (elders_root J c.requires.book.0.legal b.siblings.roots c.requires.book.1 long c.args.entry.now c.requires.roots c.requires.legal),
      rooting_based J b _ c.args.entry.now on base c.requires.roots,
    )

pub overflow_add-self : goal.overflow_add-self
overflow_add-self c =
    let J : Past = c.args.past.now.entries in
    let b : Book = c.args.self.now in
    let few = few_roots J b.kept.items b.trees.roots b.unfinished c.requires.book.0 in
    let least = offset_most J c.requires.book.0.legal in
    let same = c.add_all.ensures.unfinished in
    omega (arith, few, least, same, b.kept.ok.0, b.kept.small)
