use Rattle.std.proofs.Common.{◌≡◌, ◌∷◌, [], length, map, true}
use Rattle.hm_script.specs.Memory.{needs_kept}
use Rattle.hm_script.specs.Values.{server, of_server}
use Rattle.hm_script.specs.Shapes.{many, onto_all, read_needs, read_rest}
use Rattle.hm_script.proofs.words.Words.servers.Given as goal

abbrev pub invariant-loop-word : goal.invariant-loop-word
invariant-loop-word l = record {
  so_far : read_needs (server ∷ []) (many server) l.fn.self ≡ onto_all (map of_server l.servers.items) (read_rest (many server) l.self);
  kept : needs_kept (server ∷ []) (many server) l.fn.self ≡ true;
}

abbrev pub decreases-loop-word : goal.decreases-loop-word
decreases-loop-word l = length l.self
