-- The parent of a procedure that hasn't ended hasn't either.
use Rattle.std.proofs.Common.{◌≡◌, ℕ, ◌<◌, List, [], ◌∷◌, Some, false, inl, inr, ap, sym, ◌∙◌, arith}
use Rattle.std.proofs.lemmas.Bool.{cases_Bool, cond-false, cond-true, true≢false}
use Rattle.std.proofs.lemmas.Option.{none-some}
use Rattle.hm_model.specs.Answers.{is_stopped, last_answer}
use Rattle.hm_model.specs.Journal.{Past}
use Rattle.hm_model.specs.Phase.{ended, ended_node, root_ended}
use Rattle.hm_model.specs.Rules.{IsLegal}
use Rattle.hm_model.specs.Tree.{Node, is_top, node_of}
use Rattle.hm_model.proofs.Forest.{forest_all}
use Rattle.hm_model.proofs.RootTrees.{over_stopped}
use Rattle.hm_model.proofs.Trees.{grown_all}
use Rattle.hm_tied.specs.Tied.{IsOpen}

-- whether one with ancestors, or one without, has ended
ended_below : (J : Past) (p u : ℕ) (x : Node) (rest : List ℕ) → node_of J p ≡ Some x → x.above ≡ u ∷ rest → ended J p ≡ is_stopped (last_answer J p)
ended_below J p u x rest is above = ap (ended_node J p) is ∙ cond-false (is_top x.above) (root_ended J p) (is_stopped (last_answer J p)) (ap is_top above)

ended_root : (J : Past) (p : ℕ) (x : Node) → node_of J p ≡ Some x → x.above ≡ [] → ended J p ≡ root_ended J p
ended_root J p x is above = ap (ended_node J p) is ∙ cond-true (is_top x.above) (root_ended J p) (is_stopped (last_answer J p)) (ap is_top above)

-- the parent is there, was made before, and hasn't ended
pub parent_open : (J : Past) → IsLegal J → (p u : ℕ) (x : Node) (rest : List ℕ) → node_of J p ≡ Some x → x.above ≡ u ∷ rest → ended J p ≡ false
    → (up : Node) × (node_of J u ≡ Some up) × (up.above ≡ rest) × (u < p) × IsOpen J u
parent_open J legal p u x rest is above runs =
    let grown = grown_all J legal in
    let up = grown.ups p x is u rest above in
    let later = grown.later p x is u rest above in
    (up.0, up.1, up.2, later, ((λ none. none-some up.0 (sym none ∙ up.1)), by rest up.0 up.1 up.2 up.3 later))
  where
    going : is_stopped (last_answer J p) ≡ false
    going = sym (ended_below J p u x rest is above) ∙ runs

    waits : is_stopped (last_answer J u) ≡ false
    waits = ap is_stopped ((forest_all J legal).waits p x u rest is above going).1

    by : (over : List ℕ) (up : Node) → node_of J u ≡ Some up → up.above ≡ over → up.root ≡ x.root → u < p → ended J u ≡ false
    by (w ∷ more) up up_is e root later = ended_below J u w up more up_is e ∙ waits
    by [] up up_is e root later = ended_root J u up up_is e ∙ elim (cases_Bool (root_ended J u)) [
      | inr off ↦ off
      | inl on ↦
          let own : up.root ≡ u = (grown_all J legal).tops u up up_is e in
          absurd (true≢false (sym (over_stopped J legal u up up_is e on p x is (sym root ∙ own) (λ same. omega (arith, later, same))) ∙ going))
    ]
