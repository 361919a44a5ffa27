-- Nothing is told of a procedure that isn't made yet.
use Rattle.std.proofs.Common.{◌≡◌, ℕ, ◌<◌, [], ◌∷◌, false, ◌&&◌, ◌==◌, Option, Some, None, is_some, refl, ap, ◌∙◌, arith}
use Rattle.std.proofs.lemmas.Bool.{and_left, cond-false, ne_eqb}
use Rattle.hm_data.specs.declared.entry.Entry.TheVariants as entry_is
use Rattle.hm_model.specs.Answers.{failing}
use Rattle.hm_model.specs.Inputs.{made_at_step}
use Rattle.hm_model.specs.Journal.{Past}
use Rattle.hm_model.specs.Phase.{cause, or_else}
use Rattle.hm_model.specs.Places.{has_failed, one_more, tries_of}
use Rattle.hm_model.specs.Rules.{IsLegal}
use Rattle.hm_model.specs.Tree.{Node, made, node_of, root_in, root_of}
use Rattle.hm_model.specs.Undo.{pushed, rest_of, row_if_there, stack}
use Rattle.hm_model.specs.Sheets.{undo_of_next}
use Rattle.hm_model.proofs.Grown.{stepper_made}
use Rattle.hm_model.proofs.Trees.{grown_all, root_within}

pub record IsUntold (J : Past) (p : ℕ) : Type 0 where
  pub tries : tries_of J p ≡ 0
  pub stepped : made_at_step J p ≡ 0
  pub failure : cause J p ≡ None
  pub left : stack J p ≡ []

-- no root of a tree is above what was made
root_low : (J : Past) → IsLegal J → (q p : ℕ) → made J < p → (root_of J q == p) ≡ false
root_low J legal q p lt = by (node_of J q) refl
  where
    by : (o : Option Node) → node_of J q ≡ o → (root_of J q == p) ≡ false
    by None e = ne_eqb (root_of J q) p (λ same. (let none : root_of J q ≡ 0 = ap root_in e in omega (arith, same, none, lt)))
    by (Some x) e = ne_eqb (root_of J q) p (λ same. (let own : root_of J q ≡ x.root = ap root_in e in let within = root_within J (grown_all J legal) q x e in omega (arith, same, own, within, lt)))

pub untold : (J : Past) → IsLegal J → (p : ℕ) → made J < p → IsUntold J p
untold [] legal p lt = record { tries = refl; stepped = refl; failure = refl; left = refl }
untold (entry_is.Step pid pick out ∷ J) legal p lt =
    let low : made J < p = omega (arith, lt) in
    let u = untold J legal.0 p low in
    let within = (stepper_made pid pick out J legal).1 in
    let other : (p == pid.0) ≡ false = ne_eqb p pid.0 (λ same. omega (arith, same, within, low)) in
    let root = root_low J legal.0 pid.0 p low in
    record {
      tries = cond-false ((p == pid.0) && has_failed out.place) (one_more (tries_of J p)) (tries_of J p) (and_left (p == pid.0) (has_failed out.place) other) ∙ u.tries;
      stepped = cond-false (p == pid.0) (made J) (made_at_step J p) other ∙ u.stepped;
      failure = cond-false (root_of J pid.0 == p) (or_else (cause J p) (failing out.answer)) (cause J p) root ∙ u.failure;
      left = cond-false (root_of J pid.0 == p) (pushed (undo_of_next J pid.0 (node_of J pid.0)) (is_some (failing out.answer)) pid.0 (row_if_there J pid.0 (node_of J pid.0)) out.edits (stack J p)) (stack J p) root ∙ u.left;
    }
untold (entry_is.Undo pid row out ∷ J) legal p lt =
    let low : made J < p = omega (arith, lt) in
    let u = untold J legal.0 p low in
    record { tries = u.tries; stepped = u.stepped; failure = u.failure; left = cond-false (root_of J pid.0 == p) (rest_of (stack J p)) (stack J p) (root_low J legal.0 pid.0 p low) ∙ u.left }
untold (entry_is.Submit nonce request ∷ J) legal p lt = let u = untold J legal.0 p (omega (arith, lt)) in record { tries = u.tries; stepped = u.stepped; failure = u.failure; left = u.left }
untold (entry_is.Down server ∷ J) legal p lt = let u = untold J legal.0 p (omega (arith, lt)) in record { tries = u.tries; stepped = u.stepped; failure = u.failure; left = u.left }
untold (entry_is.Base part ∷ J) legal p lt = record { tries = refl; stepped = refl; failure = refl; left = refl }
untold (entry ∷ J) legal p lt = let u = untold J legal.0 p lt in record { tries = u.tries; stepped = u.stepped; failure = u.failure; left = u.left }
