use Rattle.std.proofs.Common.{◌≡◌, length, map, true}
use Rattle.hm_script.specs.Memory.{first_kept}
use Rattle.hm_script.specs.Values.{key, of_key}
use Rattle.hm_script.specs.Shapes.{many, onto_all, read_rest}
use Rattle.hm_script.proofs.words.Words.keys.Given as goal

abbrev pub invariant-loop-word : goal.invariant-loop-word
invariant-loop-word l = record {
  so_far : read_rest (many key) l.fn.self ≡ onto_all (map of_key l.keys.items) (read_rest (many key) l.self);
  kept : first_kept key l.fn.self ≡ true;
}

abbrev pub decreases-loop-word : goal.decreases-loop-word
decreases-loop-word l = length l.self
