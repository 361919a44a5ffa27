use Rattle.std.proofs.Common.{◌≡◌, ◌≤◌, ◌-◌, ◌∷◌, [], length, map, true, vec_len}
use Rattle.hm_script.specs.Memory.{needs_kept}
use Rattle.hm_script.specs.Values.{region, of_region}
use Rattle.hm_script.specs.Shapes.{upto, onto_all, read_needs, read_rest}
use Rattle.hm_script.proofs.words.Words.regions.Given as goal

abbrev pub invariant-loop-word : goal.invariant-loop-word
invariant-loop-word l = record {
  so_far : read_needs (region ∷ region ∷ []) (upto (l.most - 2) region) l.fn.self ≡ onto_all (map of_region l.regions.items) (read_rest (upto (l.most - vec_len l.regions) region) l.self);
  kept : needs_kept (region ∷ region ∷ []) (upto (l.most - 2) region) l.fn.self ≡ true;
  some : 2 ≤ vec_len l.regions;
}

abbrev pub decreases-loop-word : goal.decreases-loop-word
decreases-loop-word l = length l.self
