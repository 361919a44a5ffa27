use Rattle.std.proofs.Common.{◌≡◌, ◌+◌, ◌∷◌, length, refl, sym, subst, ◌∙◌, arith}
use Rattle.hm_data.specs.declared.part.Part.{Part}
use Rattle.hm_data.specs.declared.part.Part.TheVariants as part_is
use Rattle.hm_data.specs.declared.entry.Entry.TheVariants as entry_is
use Rattle.hm_model.specs.Journal.{Past}
use Rattle.hm_model.specs.Procedures.{offset}
use Rattle.hm_model.specs.Rules.{IsLegal}
use Rattle.hm_model.specs.Tree.{made}
use Rattle.hm_procedures.specs.Kept.{kept_at}
use Rattle.hm_procedures.specs.declared.book.Book.{Book}
use Rattle.hm_procedures.proofs.Based.{none_in, other_based, part_based}
use Rattle.hm_procedures.proofs.Elders.{elders_long, elders_part}
use Rattle.hm_procedures.proofs.Enters.{part_kept, part_none}
use Rattle.hm_procedures.proofs.Needs.{roots_long}
use Rattle.hm_procedures.proofs.book.Book.base.Goals as goal

pub begin-requires-clause-none : goal.begin-requires-clause-none
begin-requires-clause-none c =
    let J : Past = c.args.past.now.entries in
    let b : Book = c.args.self.now in
    none_in b.trees.roots (roots_long J b.kept.items b.trees.roots b.unfinished c.requires.book.0 ∙ part_none J b.kept.items b.trees.roots b.unfinished c.requires.book.0 c.args.part.now c.requires.legal)

pub begin-requires-in-Head-clause-none : goal.begin-requires-in-Head-clause-none
begin-requires-in-Head-clause-none c =
    let J : Past = c.args.past.now.entries in
    let b : Book = c.args.self.now in
    none_in b.siblings.roots (elders_long J c.requires.book.0.legal b.siblings.roots c.requires.book.1 (kept_at J) b.kept.items c.requires.book.0.kept_are ∙ part_none J b.kept.items b.trees.roots b.unfinished c.requires.book.0 c.args.part.now c.requires.legal)

pub returns-in-Head-clause-book : goal.returns-in-Head-clause-book
returns-in-Head-clause-book c =
    let J : Past = c.args.past.now.entries in
    let b : Book = c.args.self.now in
    let on = c.requires.book.2 in
    let k = c.requires.book.0 in
    let none = part_none J b.kept.items b.trees.roots b.unfinished k c.args.part.now c.requires.legal in
    let roots = none_in b.trees.roots (roots_long J b.kept.items b.trees.roots b.unfinished k ∙ none) in
    let same_long = elders_long J k.legal b.siblings.roots c.requires.book.1 (kept_at J) b.kept.items k.kept_are in
    let siblings = none_in b.siblings.roots (same_long ∙ none) in
    let count = k.count in
    let long : offset J + length b.siblings.roots ≡ made J = omega (arith, same_long, count) in (
      rw (c.begin.ensures.roots ∙ sym roots) (part_kept J b.kept.items b.trees.roots b.unfinished k c.args.part.now c.requires.legal),
      rw (c.begin-in-Head.ensures.roots ∙ sym siblings) (elders_part J k.legal b.siblings.roots c.requires.book.1 long c.args.part.now c.requires.legal),
      rw c.in-Head.is (part_based J b _ (part_is.Head c.in-Head.entries c.in-Head.last c.in-Head.parts c.in-Head.sheets) (subst (λ (p : Part). IsLegal (entry_is.Base p ∷ J)) c.in-Head.is c.requires.legal) on refl c.begin.ensures.from c.begin-in-Head.ensures.from refl refl),
    )

pub returns-in_default : goal.returns-in_default
returns-in_default c =
    let J : Past = c.args.past.now.entries in
    let b : Book = c.args.self.now in
    let k = c.requires.book.0 in
    let same_long = elders_long J k.legal b.siblings.roots c.requires.book.1 (kept_at J) b.kept.items k.kept_are in
    let count = k.count in
    let long : offset J + length b.siblings.roots ≡ made J = omega (arith, same_long, count) in
    record {
      book = (
        part_kept J b.kept.items b.trees.roots b.unfinished k c.args.part.now c.requires.legal,
        elders_part J k.legal b.siblings.roots c.requires.book.1 long c.args.part.now c.requires.legal,
        other_based J b c.args.part.now (λ entries last parts sheets. c.in_default.not-Head entries last parts sheets) (λ pid nonce args cause. c.in_default.not-Root pid nonce args cause) c.requires.legal c.requires.book.2,
      );
      spare = omega arith;
      room = refl;
    }
