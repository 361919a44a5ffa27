use Rattle.std.proofs.Common.{◌≡◌, ◌-◌, ◌++◌, ◌∷◌, [], List, ℕ, length, take, drop, arith, length-drop, sym, ◌∙◌, ap, append_assoc}
use Rattle.std.proofs.Math.Seq.{drop-cons}
use Rattle.std.proofs.lemmas.List.{take_all}
use Rattle.std.proofs.lemmas.List.Elements.{All-push}
use Rattle.hm_log.specs.Format.{IsFrame}
use Rattle.hm_log.proofs.Further.{one_more}
use Rattle.hm_log.proofs.read.take_frames.Goals as goal

pub loop-rest-preserved : goal.loop-rest-preserved
loop-rest-preserved c =
    let found = c.in-Some.ensures.frame in
    let frame = c.in-Some.frame.now in
    let taken = c.loop-rest.invariant.taken in
    let rest = c.loop-rest.rest.now in
    let is_open : rest ≡ 43 ∷ drop 1 rest = drop-cons rest 0 0 c.loop-rest.invariant.some ∙ ap (λ (b : ℕ). b ∷ drop 1 rest) c.loop-rest-test.true in
    let whole : take (length rest - 1) (drop 1 rest) ≡ drop 1 rest = take_all _ _ (omega (arith, length-drop 1 rest)) in
    record {
      taken = (
        taken.0 ++ frame ∷ [],
        c.in_ok-push.ensures.added ∙ ap (λ (fs : List (List ℕ)). fs ++ frame ∷ []) taken.1 ∙ append_assoc _ taken.0 (frame ∷ []),
        one_more _ taken.0 rest (drop 1 rest) frame _ taken.2 is_open (sym whole ∙ found.0),
        All-push IsFrame taken.0 frame taken.3 found.1,
      );
      some = found.2;
    }
