use Rattle.std.proofs.Common.{◌+◌, ap, ◌∙◌}
use Rattle.hm_procedures.specs.Procedures.{ProceduresView, roots}
use Rattle.hm_procedures.specs.Trees.{tops_from}
use Rattle.hm_procedures.proofs.Tops.{tops_are}
use Rattle.hm_procedures.proofs.procedures.Procedures.roots.Goals as goal

pub returns : goal.returns
returns c =
    c.tops.ensures
    ∙ ap (λ n. tops_from (n + 1) c.self.inside.book.trees.roots) c.self.invariant.0.2.trees
    ∙ tops_are c.self.inside.past.entries c.self.invariant.0.0.legal c.self.inside.book.kept.items c.self.inside.book.trees.roots c.self.inside.book.unfinished c.self.invariant.0.0
    ∙ ap (λ (v : ProceduresView). roots v.past) c.self.view_is
