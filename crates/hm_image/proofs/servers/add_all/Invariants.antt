use Rattle.std.proofs.Common.{◌≡◌, ◌++◌, map}
use Rattle.hm_image.specs.Image.{server_told}
use Rattle.hm_image.proofs.servers.add_all.Given as goal

abbrev pub invariant-loop-server : goal.invariant-loop-server
invariant-loop-server l =
    l.parts.items ++ map server_told l.server-iterator ≡ l.initial.parts.items ++ map server_told l.servers.servers
