use Rattle.std.proofs.Common.{◌≡◌, ℕ, ◌-◌, ◌<◌, Some, ap, sym, ◌∙◌, subst, slice_get, length, refl}
use Rattle.std.proofs.lemmas.Option.{slice_get_read}
use Rattle.hm_procedures.proofs.Members.{last_of, within_of}
use Rattle.hm_procedures.specs.Trees.{IsLast, TreesView, roots_of}
use Rattle.hm_procedures.proofs.trees.Trees.last.Goals as goal

pub returns : goal.returns
returns c =
    let f : ℕ = c.self.inside.from in
    let rooted : slice_get (roots_of c.self.inside.members.items) (c.args.root.0 - f - 1) ≡ Some c.args.root = ap (λ (v : TreesView). slice_get v.roots (c.args.root.0 - v.from - 1)) c.self.view_is ∙ c.requires.root in
    let low : f < c.args.root.0 = subst (λ (v : TreesView). v.from < c.args.root.0) (sym c.self.view_is) c.requires.low in
    subst (λ (v : TreesView). IsLast v.from v.roots c.args.root c.index.result.now.last) c.self.view_is
    (last_of f c.self.inside.members.items c.self.invariant.0 c.args.root c.index.result.now low rooted (slice_get_read c.self.inside.members.items (length c.self.inside.members.items) (c.args.root.0 - f - 1) c.index.result.now refl (within_of c.self.inside.members.items (c.args.root.0 - f - 1) c.args.root rooted) c.index.ensures))
