use Rattle.std.proofs.Common.{◌<◌, ◌+◌, ◌-◌, ◌∷◌, [], map, vec_len, sym, ap, ◌∙◌, arith}
use Rattle.std.proofs.lemmas.Grind.{common_steps}
use Rattle.std.proofs.lemmas.List.{map-append}
use Rattle.hm_script.specs.Shapes.{before, onto_all, read_rest, upto}
use Rattle.hm_script.specs.Values.{of_region, named, region}
use Rattle.hm_script.proofs.Answering.{onto_all-onto, upto_next}
use Rattle.hm_script.proofs.words.Words.regions.Goals as goal

pub returns-in_err-region : goal.returns-in_err-region
returns-in_err-region c =
    let count = vec_len c.loop-word.regions in
    let few : count < c.args.most = grind (arith, common_steps) in
    let whole = c.loop-word.invariant.so_far
    ∙ ap (λ ws. onto_all (map of_region c.loop-word.regions.items) (read_rest (upto (c.args.most - count) region) ws)) c.in-Some.ensures
    ∙ ap (onto_all (map of_region c.loop-word.regions.items)) (upto_next region c.args.most count c.in-Some.word.now c.next.new.self few) in
    grind (arith, common_steps)

pub loop-word-preserved : goal.loop-word-preserved
loop-word-preserved c =
    let most = c.args.most in
    let count = vec_len c.loop-word.regions in
    let few : count < most = grind (arith, common_steps) in
    let before_it = map of_region c.loop-word.regions.items in
    let rest = c.next.new.self in
    let one = c.in_ok-region.region in
    let added = c.in_ok-push.ensures.items in
    let more = c.in_ok-push.ensures.len in
    record {
      so_far = c.loop-word.invariant.so_far
          ∙ ap (λ ws. onto_all before_it (read_rest (upto (most - count) region) ws)) c.in-Some.ensures
          ∙ ap (onto_all before_it) (upto_next region most count c.in-Some.word.now rest few ∙ ap (λ r. before (named of_region r) (read_rest (upto (most - (count + 1)) region) rest)) c.in_ok-region.ensures)
          ∙ onto_all-onto before_it (of_region one) (read_rest (upto (most - (count + 1)) region) rest)
          ∙ ap (λ values. onto_all values (read_rest (upto (most - (count + 1)) region) rest)) (sym (ap (map of_region) added ∙ map-append of_region c.loop-word.regions.items (one ∷ [])))
          ∙ ap (λ n. onto_all (map of_region c.push.new.self.items) (read_rest (upto (most - n) region) rest)) (sym more);
      kept = c.loop-word.invariant.kept;
      some = let some = c.loop-word.invariant.some in omega (arith, some, more);
    }
