-- What is kept of claims, and that the tree of one that goes on hasn't ended.
use Rattle.std.proofs.Common.{◌≡◌, ◌≢◌, ℕ, ◌+◌, List, [], ◌∷◌, ◌==◌, true, false, Option, Some, None, is_some, refl, ap, sym, ◌∙◌, inl, inr, arith}
use Rattle.std.proofs.lemmas.Bool.{and_left, cases_Bool, cond-false, eq-eqb, ne_eqb, true≢false}
use Rattle.std.proofs.lemmas.Option.{none-some, same_Some}
use Rattle.hm_data.specs.declared.answer.Cause.{Cause}
use Rattle.hm_data.specs.declared.entry.Entry.{Entry}
use Rattle.hm_model.specs.Answers.{done_with, is_stopped, last_answer}
use Rattle.hm_model.specs.Holding.{IsFree}
use Rattle.hm_model.specs.Journal.{Past}
use Rattle.hm_model.specs.Locks.{IsIn}
use Rattle.hm_model.specs.Phase.{all_stopped, cause, ended, ended_node, in_tree, rolled_back, root_ended, root_over, stopped_in}
use Rattle.hm_model.specs.Rules.{IsLegal}
use Rattle.hm_model.specs.Tree.{Node, is_top, made, node_of}
use Rattle.hm_model.specs.Undo.{is_empty, stack}
use Rattle.hm_model.proofs.Forest.{roots_wait, rooted_all}
use Rattle.hm_model.proofs.Grown.{nodes_stay}
use Rattle.hm_model.proofs.Trees.{all_below_at, grown_all, is_there}
use Rattle.hm_model.specs.Taking.{StepsFree}
use Rattle.hm_model.proofs.Taken.{after, clash_taken, clash_within, legal_apart, some_node}
use Rattle.hm_model.proofs.Small.{cons_nil, from_test}
use Rattle.hm_model.proofs.Answered.{running_undone}
use Rattle.hm_world_model.specs.Claims.{AreOnce, IsApart}

pub ended_below : (J : Past) (p : ℕ) (x : Node) → node_of J p ≡ Some x → x.above ≢ [] → ended J p ≡ is_stopped (last_answer J p)
ended_below J p x is below = by x.above refl
  where
    by : (above : List ℕ) → x.above ≡ above → ended J p ≡ is_stopped (last_answer J p)
    by [] e = absurd (below e)
    by (u ∷ rest) e = ap (ended_node J p) is ∙ cond-false (is_top x.above) (root_ended J p) (is_stopped (last_answer J p)) (ap is_top e)

-- a tree isn't rolled back while one below its root goes on
pub unrolled : (J : Past) → IsLegal J → (p : ℕ) (x : Node) → node_of J p ≡ Some x → x.above ≢ [] → is_stopped (last_answer J p) ≡ false → rolled_back J x.root ≡ false
unrolled J legal p x is below runs = and_left (all_stopped J x.root) (is_empty (stack J x.root)) (elim (cases_Bool (all_stopped J x.root)) [ inr off ↦ off | inl all ↦ absurd (true≢false (sym (here all) ∙ runs)) ])
  where
    differs : p ≢ x.root
    differs own = own_top x.above refl
      where
        own_top : (above : List ℕ) → x.above ≡ above → ⊥
        own_top [] e = below e
        own_top (u ∷ rest) e =
            let top = rooted_all J legal p x is in
            let same : top.root ≡ x = same_Some top.root x (sym top.there ∙ ap (node_of J) (sym own) ∙ is) in
            below (ap (λ (n : Node). n.above) (sym same) ∙ top.at_top)

    here : all_stopped J x.root ≡ true → is_stopped (last_answer J p) ≡ true
    here all =
        let le = is_there J (grown_all J legal) p x is in
        from_test (in_tree x.root (node_of J p)) (p == x.root) (is_stopped (last_answer J p)) (ap (in_tree x.root) is ∙ eq-eqb x.root x.root refl) (ne_eqb p x.root differs)
        (all_below_at (made J + 1) (stopped_in J x.root) p all (omega (arith, le)))

-- nor has it ended
pub root_open : (J : Past) → IsLegal J → (p : ℕ) (x : Node) → node_of J p ≡ Some x → is_stopped (last_answer J p) ≡ false → (x.above ≡ [] → cause J p ≡ None) → root_ended J x.root ≡ false
root_open J legal p x is runs uncaused = by x.above refl
  where
    by_cause : x.above ≢ [] → (c : Option Cause) → cause J x.root ≡ c → root_ended J x.root ≡ false
    by_cause below None e =
        let w = roots_wait J legal p x is below runs in
        ap (λ c. root_over c (rolled_back J x.root) (done_with (last_answer J x.root))) e ∙ ap (λ o. is_some (done_with o)) w.1
    by_cause below (Some c) e = ap (λ k. root_over k (rolled_back J x.root) (done_with (last_answer J x.root))) e ∙ unrolled J legal p x is below runs

    by : (above : List ℕ) → x.above ≡ above → root_ended J x.root ≡ false
    by [] e =
        let own = (grown_all J legal).tops p x is e in
        ap (root_ended J) own ∙ ap (λ c. root_over c (rolled_back J p) (done_with (last_answer J p))) (uncaused e) ∙ ap is_some (running_undone (last_answer J p) runs)
    by (u ∷ rest) e = by_cause (λ none. cons_nil u rest (sym e ∙ none)) (cause J x.root) refl

-- what is kept of claims
pub apart_opened : (J : Past) → IsLegal J → IsApart J [] []
apart_opened J legal = record { once = tt; among = λ p h. absurd h; there = λ p h. absurd h; none_clash = legal_apart J legal }

pub apart_on : (entry : Entry) (J : Past) → IsLegal (entry ∷ J) → (taken claimed : List ℕ) → IsApart J taken claimed → StepsFree J taken entry → IsApart (entry ∷ J) taken claimed
apart_on entry J legal taken claimed apart free = record {
  once = apart.once;
  among = apart.among;
  there = λ p h none. let x = some_node J p (apart.there p h) in none-some x.0 (sym none ∙ nodes_stay entry J legal p x.0 x.1);
  none_clash = after entry J legal taken apart.there apart.none_clash free;
}

pub apart_taken : (J : Past) (taken claimed : List ℕ) (p : ℕ) → IsApart J taken claimed → (IsIn p claimed → ⊥) → node_of J p ≢ None → IsFree J taken p → IsApart J (p ∷ taken) (p ∷ claimed)
apart_taken J taken claimed p apart new there free = record {
  once = (new, apart.once);
  among = λ q h. elim h [ inl same ↦ inl same | inr old ↦ inr (apart.among q old) ];
  there = λ q h. elim h [ inl same ↦ λ none. there (ap (node_of J) (sym same) ∙ none) | inr old ↦ apart.there q old ];
  none_clash = clash_taken J taken p apart.none_clash free;
}

pub apart_within : (J : Past) (taken claimed left still : List ℕ) → IsApart J taken claimed → ((p : ℕ) → IsIn p left → IsIn p taken) → ((p : ℕ) → IsIn p still → IsIn p left) → AreOnce still → IsApart J left still
apart_within J taken claimed left still apart within among once = record {
  once = once;
  among = among;
  there = λ p h. apart.there p (within p h);
  none_clash = clash_within J left taken within apart.none_clash;
}
