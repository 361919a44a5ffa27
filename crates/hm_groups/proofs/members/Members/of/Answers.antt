use Rattle.std.proofs.Common.{◌∙◌, ap, sym}
use Rattle.std.proofs.lemmas.List.Sorted.{list_any-IsPermutation}
use Rattle.hm_model.specs.Fleet.{same_address}
use Rattle.hm_groups.specs.Groups.{has_address}
use Rattle.hm_groups.proofs.members.Members.of.Goals as goal

pub returns : goal.returns
returns c = λ server.
    sym (list_any-IsPermutation (λ other. same_address other server) _ _ c.sort_unstable.ensures.permutation) ∙ ap (λ servers. has_address servers server) c.into_vec-servers.ensures
