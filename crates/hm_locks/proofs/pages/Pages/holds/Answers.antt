use Rattle.std.proofs.Common.{◌∙◌, sym, ap}
use Rattle.std.specs.Option.{option_copied, option_map}
use Rattle.hm_locks.specs.Book.{is_holding}
use Rattle.hm_locks.specs.Kept.{row_for}
use Rattle.hm_locks.proofs.Found.{row_is}
use Rattle.hm_locks.proofs.pages.Pages.holds.Goals as goal

pub returns-in-Some : goal.returns-in-Some
returns-in-Some c =
    let p = c.args.self.now in
    sym (ap is_holding (row_is p.places.pairs p.entries.items c.requires.index c.args.pid ∙ ap (option_map row_for) (sym c.entry_of.ensures ∙ ap option_copied c.in-Some.is)))

pub returns-in-None : goal.returns-in-None
returns-in-None c =
    let p = c.args.self.now in
    sym (ap is_holding (row_is p.places.pairs p.entries.items c.requires.index c.args.pid ∙ ap (option_map row_for) (sym c.entry_of.ensures ∙ ap option_copied c.in-None.is)))
