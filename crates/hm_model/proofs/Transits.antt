-- What calls a region server has no children, and two transits of one region conflict.
use Rattle.std.proofs.Common.{◌≡◌, ◌≢◌, ℕ, List, [], ◌∷◌, true, false, Some, None, is_some, refl, ap, sym, ◌∙◌, subst, inl, inr}
use Rattle.std.proofs.lemmas.Bool.{false≢true}
use Rattle.std.proofs.lemmas.Option.{none-some, same_Some}
use Rattle.hm_names.specs.Region.{Region}
use Rattle.hm_data.specs.declared.args.Args.{Args}
use Rattle.hm_data.specs.declared.args.Args.TheVariants as args_are
use Rattle.hm_data.specs.declared.request.Request.TheVariants as request_is
use Rattle.hm_model.specs.Holding.{InConflict}
use Rattle.hm_model.specs.Journal.{Past}
use Rattle.hm_model.specs.Locks.{AsksClash, IsAbove, IsIn, asks, exclusive}
use Rattle.hm_model.specs.Tree.{Node, node_of}
use Rattle.hm_model.specs.Verbs.{verb_in}
use Rattle.hm_model.specs.Whereabouts.{moved_by}
use Rattle.hm_model.specs.declared.lock.Resource.TheVariants as resource_is
use Rattle.hm_model.proofs.PlainActs.{is_caller}
use Rattle.hm_model.proofs.StepDoes.{bears_by}
use Rattle.hm_model.proofs.Trees.{Grown}
use Rattle.hm_model.proofs.Small.{cons_nil}

pub caller_facts : (args : Args) → is_caller args ≡ true → (moved_by args ≡ None) × (is_some (verb_in args) ≡ true)
caller_facts (args_are.AssignCall region server) h = (refl, refl)
caller_facts (args_are.CloseCall region server) h = (refl, refl)
caller_facts args h = absurd (false≢true h)

pub asks_region : (args : Args) (r : Region) → moved_by args ≡ Some r → IsIn (exclusive (resource_is.Region r)) (asks args)
asks_region (args_are.Transit region goal to) r m = inr (inr (inl (ap (λ x. exclusive (resource_is.Region x)) (sym (same_Some region r m)))))
asks_region (args_are.Root (request_is.Move region to) first) r m = inr (inr (inl (ap (λ x. exclusive (resource_is.Region x)) (sym (same_Some region r m)))))
asks_region (args_are.Root request first) r m = absurd (none-some r m)
asks_region args r m = absurd (none-some r m)

module _ (J : Past) (grown : Grown J) where
  -- a transit is above only what calls a region server, and that is above nothing
  pub above_caller : (p : ℕ) (own : Node) (r : Region) → node_of J p ≡ Some own → moved_by own.args ≡ Some r → (above : List ℕ) (q : ℕ) (node : Node) → node_of J q ≡ Some node → node.above ≡ above → IsIn p above → is_caller node.args ≡ true
  above_caller p own r at m [] q node is e among = absurd among
  above_caller p own r at m (u ∷ rest) q node is e (inl same) =
      let up = grown.ups q node is u rest e in
      let one : own ≡ up.0 = same_Some own up.0 (sym at ∙ ap (node_of J) same ∙ up.1) in
      sym (ap (λ o. bears_by (is_some o) (is_some (verb_in up.0.args)) (is_caller node.args)) (ap (λ (n : Node). moved_by n.args) (sym one) ∙ m)) ∙ up.4
  above_caller p own r at m (u ∷ rest) q node is e (inr among) =
      let up = grown.ups q node is u rest e in
      let f = caller_facts up.0.args (above_caller p own r at m rest u up.0 up.1 up.2 among) in
      absurd (false≢true (sym (ap (λ o. bears_by (is_some o) (is_some (verb_in up.0.args)) (is_caller node.args)) f.0 ∙ ap (λ b. bears_by false b (is_caller node.args)) f.1) ∙ up.4))

  apart : (p q : ℕ) (own other : Node) (r : Region) → node_of J p ≡ Some own → moved_by own.args ≡ Some r → node_of J q ≡ Some other → moved_by other.args ≡ Some r → IsAbove p (node_of J q) → ⊥
  apart p q own other r at m there n among =
      let caller = above_caller p own r at m other.above q other there refl (subst (IsAbove p) there among) in
      none-some r (sym (caller_facts other.args caller).0 ∙ n)

  pub transits_conflict : (p q : ℕ) (own other : Node) (r : Region) → p ≢ q → node_of J p ≡ Some own → moved_by own.args ≡ Some r → node_of J q ≡ Some other → moved_by other.args ≡ Some r → InConflict J p q
  transits_conflict p q own other r differ at m there n =
      (differ, (apart p q own other r at m there n, apart q p other own r there n at m, subst (λ x. AsksClash x (node_of J q)) (sym at) (subst (AsksClash (Some own)) (sym there) (exclusive (resource_is.Region r), exclusive (resource_is.Region r), asks_region own.args r m, asks_region other.args r n, refl, refl))))

-- the root of a descendant is among its ancestors
pub root_above : (J : Past) → Grown J → (above : List ℕ) (q : ℕ) (x : Node) → node_of J q ≡ Some x → x.above ≡ above → above ≢ [] → IsIn x.root above
root_above J grown [] q x is e some = absurd (some refl)
root_above J grown (u ∷ []) q x is e some = let up = grown.ups q x is u [] e in inl (sym up.3 ∙ grown.tops u up.0 up.1 up.2)
root_above J grown (u ∷ v ∷ rest) q x is e some =
    let up = grown.ups q x is u (v ∷ rest) e in
    inr (subst (λ k. IsIn k (v ∷ rest)) up.3 (root_above J grown (v ∷ rest) u up.0 up.1 up.2 (λ h. cons_nil v rest h)))
