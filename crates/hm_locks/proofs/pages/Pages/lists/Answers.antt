use Rattle.std.proofs.Common.{◌∙◌, sym, ap, is_some}
use Rattle.hm_locks.proofs.Found.{copied, row_is, row_there}
use Rattle.hm_locks.proofs.pages.Pages.lists.Goals as goal

pub returns : goal.returns
returns c =
    let p = c.args.self.now in
    c.is_some.ensures ∙ sym (copied c.entry_of.result) ∙ ap is_some c.entry_of.ensures
    ∙ sym (ap is_some (row_is p.places.pairs p.entries.items c.requires.index c.args.pid) ∙ row_there _)
