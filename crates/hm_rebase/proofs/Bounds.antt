-- Procedures stand above those that the base of their journal stands for, and so do their roots.
use Rattle.std.proofs.Common.{◌≡◌, ℕ, zero, suc, ◌+◌, ◌<◌, ◌≤◌, List, [], ◌∷◌, Bool, ◌==◌, ◌&&◌, Some, None, refl, ap, sym, ◌∙◌, subst, inl, inr, arith}
use Rattle.std.proofs.lemmas.Bool.{cond-false, le-ltb, ne_eqb}
use Rattle.std.proofs.lemmas.Option.{none-some}
use Rattle.hm_data.specs.declared.args.Args.TheVariants as args_are
use Rattle.hm_data.specs.declared.entry.Entry.TheVariants as entry_is
use Rattle.hm_model.specs.Forest.{IsForest, Stands}
use Rattle.hm_model.specs.Journal.{Past}
use Rattle.hm_model.specs.Phase.{all_below}
use Rattle.hm_model.specs.Procedures.{offset}
use Rattle.hm_model.specs.Rules.{IsLegal}
use Rattle.hm_model.specs.Tree.{Node, made, node_of, root_node, submitted}
use Rattle.hm_model.proofs.Forest.{forest_all, rooted_all}
use Rattle.hm_model.proofs.Grown.{grown_all}
use Rattle.hm_model.proofs.Trees.{le_or_lt}

-- no procedure has a number up to the base's last
pub none_below : (K : Past) → IsLegal K → (p : ℕ) → p ≤ offset K → node_of K p ≡ None
none_below [] legal p le = refl
none_below (entry_is.Submit nonce request ∷ K) legal p le =
    let low = (grown_all K legal.0).low in
    cond-false (p == made K + 1) (Some (submitted K request p)) (node_of K p) (ne_eqb p (made K + 1) (λ e. omega (arith, le, low, e))) ∙ none_below K legal.0 p le
none_below (entry_is.Step pid pick out ∷ K) legal p le =
    let low = (grown_all K legal.0).low in
    rw (le-ltb (made K) p (omega (arith, le, low))) (none_below K legal.0 p le)
none_below (entry_is.Undo pid row out ∷ K) legal p le =
    let low = (grown_all K legal.0).low in
    rw (le-ltb (made K) p (omega (arith, le, low))) (none_below K legal.0 p le)
none_below (entry_is.Down server ∷ K) legal p le =
    let low = (grown_all K legal.0).low in
    cond-false (p == made K + 1) (Some (root_node p (args_are.Crash server) 1)) (node_of K p) (ne_eqb p (made K + 1) (λ e. omega (arith, le, low, e))) ∙ none_below K legal.0 p le
none_below (entry_is.Base part ∷ K) legal p le = refl
none_below (entry ∷ K) legal p le = none_below K legal.0 p le

-- who is there stands above
pub above_base : (K : Past) → IsLegal K → (p : ℕ) (node : Node) → node_of K p ≡ Some node → offset K < p
above_base K legal p node is = elim (le_or_lt p (offset K)) [
  | inr lt ↦ lt
  | inl le ↦ absurd (none-some node (sym (none_below K legal p le) ∙ is))
]

-- so does the root
pub root_above : (K : Past) → IsLegal K → (p : ℕ) (node : Node) → node_of K p ≡ Some node → offset K < node.root
root_above K legal p node is = let h = rooted_all K legal p node is in above_base K legal node.root h.root h.there

-- a root comes first in its tree
root_first : (J : Past) → IsForest J → (above : List ℕ) (p : ℕ) (node : Node) → node_of J p ≡ Some node → node.above ≡ above → node.root ≤ p
root_first J forest [] p node is up = let s = subst (λ l. Stands J p l node.root) up (forest.stands p node is) in omega (arith, s)
root_first J forest (a ∷ above) p node is up =
    let s = subst (λ l. Stands J p l node.root) up (forest.stands p node is) in
    let first = root_first J forest above a s.0 s.1 s.2 in
    let one = s.3 in
    let before = s.4 in
    omega (arith, first, one, before)

pub root_before : (J : Past) → IsLegal J → (p : ℕ) (node : Node) → node_of J p ≡ Some node → node.root ≤ p
root_before J legal p node is = root_first J (forest_all J legal) node.above p node is refl

-- tests of all numbers below one
pub all_same : (n : ℕ) (one other : ℕ → Bool) → ((q : ℕ) → one q ≡ other q) → all_below n one ≡ all_below n other
all_same zero one other same = refl
all_same (suc n) one other same = ap (λ b. b && all_below n one) (same n) ∙ ap (λ b. other n && b) (all_same n one other same)
