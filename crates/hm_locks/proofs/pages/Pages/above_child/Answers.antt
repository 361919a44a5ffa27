use Rattle.std.proofs.Common.{◌≡◌, ◌∷◌, ◌∙◌, sym, ap, subst, ℕ, List, Option}
use Rattle.std.specs.Option.{option_copied, option_map}
use Rattle.std.specs.Prelude.{IfOk}
use Rattle.hm_names.specs.declared.pid.Pid.{Pid}
use Rattle.hm_locks.specs.Book.{above_child, above_in}
use Rattle.hm_locks.specs.Entries.{rows_of}
use Rattle.hm_locks.specs.Kept.{row_for}
use Rattle.hm_locks.proofs.Found.{row_is}
use Rattle.hm_locks.proofs.pages.Pages.above_child.Goals as goal

pub returns-in-Some-entry_of : goal.returns-in-Some-entry_of
returns-in-Some-entry_of c =
    let p = c.args.self.now in
    let row = row_is p.places.pairs p.entries.items c.requires.index c.in-Some.field-0.0 ∙ ap (option_map row_for) (sym c.entry_of.ensures ∙ ap option_copied c.in-Some-entry_of.is) in
    let above = ap above_in row in
    subst (λ (o : Option Pid). IfOk c.with_front.result (λ xs. xs ≡ above_child (rows_of p) o)) (sym c.in-Some.is)
    (subst (λ (ys : List ℕ). IfOk c.with_front.result (λ xs. xs ≡ c.in-Some.field-0.0 ∷ ys)) (c.as_slice.ensures ∙ sym above) c.with_front.ensures)

pub returns-in-None : goal.returns-in-None
returns-in-None c =
    let p = c.args.self.now in
    let row = row_is p.places.pairs p.entries.items c.requires.index c.in-Some.field-0.0 ∙ ap (option_map row_for) (sym c.entry_of.ensures ∙ ap option_copied c.in-None.is) in
    let above = ap above_in row in
    subst (λ (o : Option Pid). IfOk c.with_front-in-None.result (λ xs. xs ≡ above_child (rows_of p) o)) (sym c.in-Some.is)
    (subst (λ (ys : List ℕ). IfOk c.with_front-in-None.result (λ xs. xs ≡ c.in-Some.field-0.0 ∷ ys)) (sym above) c.with_front-in-None.ensures)
