use Rattle.std.proofs.Common.{◌≡◌, ◌≤◌, ◌∷◌, length, ap, sym, subst, ◌∙◌, arith}
use Rattle.hm_data.specs.declared.entry.Entry.{Entry}
use Rattle.hm_model.specs.Counts.{one_if}
use Rattle.hm_model.specs.Journal.{Past}
use Rattle.hm_procedures.specs.Below.{open_below}
use Rattle.hm_procedures.specs.Book.{IsBook, spare_of}
use Rattle.hm_procedures.specs.Procedures.{ProceduresView}
use Rattle.hm_procedures.specs.declared.book.Book.{Book}
use Rattle.hm_procedures.proofs.Below.{below_change, below_few, below_most}
use Rattle.hm_procedures.proofs.Needs.{offset_most}
use Rattle.hm_procedures.proofs.procedures.Procedures.enter.Goals as goal

pub overflow_add-self-inside : goal.overflow_add-self-inside
overflow_add-self-inside c =
    let b : Book = c.self.inside.book in
    let room : length c.args.made ≤ spare_of c.self.inside.book = subst (λ (v : ProceduresView). length c.args.made ≤ v.spare) (sym c.self.view_is) c.requires.room in
    let few = below_few c.args.entry.now c.args.self.now.past in
    let made_is = ap length c.requires.made in
    let more = c.made_below-more.ensures in
    let below = c.self.invariant.1 in
    let most = below_most c.self.inside.past.entries in
    let count = c.self.invariant.0.0.count in
    let least = offset_most c.self.inside.past.entries c.self.invariant.0.0.legal in
    omega (arith, least, room, few, made_is, more, below, most, count, b.kept.ok.0, b.kept.small)

pub less_if-self-inside-requires : goal.less_if-self-inside-requires
less_if-self-inside-requires c =
    let law = below_change c.args.entry.now c.args.self.now.past c.requires.legal in
    let below = c.self.invariant.1 ∙ ap (λ (v : ProceduresView). open_below v.past) c.self.view_is in
    let more = c.made_below-more.ensures in
    let ends = ap one_if c.ends_descendant-ends.ensures in
    omega (arith, law, below, more, ends)

pub invariant_of-self : goal.invariant_of-self
invariant_of-self c =
    let entry : Entry = c.args.entry.now in
    let law = below_change entry c.args.self.now.past c.requires.legal in
    let below = c.self.invariant.1 ∙ ap (λ (v : ProceduresView). open_below v.past) c.self.view_is in
    let more = c.made_below-more.ensures in
    let ends = ap one_if c.ends_descendant-ends.ensures in
    let rest = c.less_if-self-inside.ensures in
    let now = c.then-self-inside.ensures in
    let past = now ∙ ap (λ (v : ProceduresView). entry ∷ v.past) c.self.view_is in
    let are : c.less_if-self-inside.result ≡ open_below (entry ∷ c.args.self.now.past) = omega (arith, law, below, more, ends, rest) in (
      subst (λ (J : Past). IsBook J c.enter.new.self) (sym now) c.enter.ensures.book,
      are ∙ sym (ap open_below past),
    )
