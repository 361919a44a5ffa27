use Rattle.std.proofs.Common.{◌∙◌, ap, length, subst}
use Rattle.std.specs.List.Sorted.{IsBinarySearchResult, IsSearchInRange}
use Rattle.hm_places.specs.Servers.{address_cmp}
use Rattle.hm_groups.specs.Groups.{has_address}
use Rattle.hm_groups.proofs.Member.{sought}
use Rattle.hm_groups.proofs.members.Members.has.Goals as goal

pub returns : goal.returns
returns c =
    let same = c.deref.ensures.value in
    let range = subst (λ servers. IsSearchInRange c.seek.result (length servers)) same c.seek.ensures.range in
    let position = subst (λ servers. IsBinarySearchResult (λ other. address_cmp other c.args.server.now) servers c.seek.result) same c.seek.ensures.position in
    c.is_ok.ensures.value ∙ sought c.self.inside.servers.items c.args.server.now c.seek.result c.self.invariant range position
    ∙ ap (λ servers. has_address servers c.args.server.now) c.self.view_is
