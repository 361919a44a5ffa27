-- A walk over the nodes of a list.
use Rattle.std.proofs.Common.{◌≡◌, ℕ, zero, suc, ◌+◌, ◌<◌, ◌≤◌, List, [], ◌∷◌, ◌++◌, length, get_or, Option, Some, None, refl, sym, ap, ◌∙◌, subst, inl, inr, ◌⊎◌, arith, length-append, append_assoc}
use Rattle.std.proofs.lemmas.Grind.{common_steps}
use Rattle.std.proofs.lemmas.List.Sums.{get_or-le-sum_by}
use Rattle.std.specs.Prelude.{sum_by, slice_get}
use Rattle.hm_lists.specs.Chains.{Chains, node_at, ends_at, next_in, prev_in, Joined, IsIn, list_at, IsLinked, walk, lists_of}
use Rattle.hm_lists.specs.Links.{rest_from, IsOnWay}
use Rattle.hm_lists.proofs.Held.{walk_none, walk_joined}
use Rattle.hm_lists.proofs.Linked.{in_right, node_there}
use Rattle.hm_lists.proofs.Rings.{joined_first, joined_split}

module _ (s : Chains) (linked : IsLinked s (lists_of s)) (l : ℕ) (there : l < length (lists_of s)) where
  short : (front rest : List ℕ) → list_at (lists_of s) l ≡ front ++ rest → length rest ≤ length s.nodes
  short front rest cut =
      let one = get_or-le-sum_by length (lists_of s) l [] there in
      let room = linked.room in
      let parts = ap length cut ∙ length-append front rest in omega (arith, one, room, parts)

  -- the walk from the first of what is left of a list is what is left
  pub rest_is : (front rest : List ℕ) → list_at (lists_of s) l ≡ front ++ rest → rest_from s (slice_get rest 0) ≡ rest
  rest_is front [] cut = walk_none (length s.nodes) s
  rest_is front (x ∷ rest) cut = by (length s.nodes) (short front (x ∷ rest) cut)
    where
      tail : Joined (next_in s l) (prev_in s l) (Some x) rest None
      tail = (joined_split (next_in s l) (prev_in s l) None front x rest None (subst (λ xs. Joined (next_in s l) (prev_in s l) None xs None) cut (linked.joined l there))).1

      by : (n : ℕ) → length (x ∷ rest) ≤ n → walk n s (Some x) ≡ x ∷ rest
      by zero le = absurd (grind (arith, common_steps))
      by (suc n) le = ap (λ ys. x ∷ ys) (walk_joined s l (Some x) rest n tail (grind (arith, common_steps)))

  -- the node after one
  pub next_is : (front : List ℕ) (x : ℕ) (rest : List ℕ) → list_at (lists_of s) l ≡ front ++ x ∷ rest → (node_at s x).next ≡ slice_get rest 0
  next_is front x rest cut = joined_first (next_in s l) (prev_in s l) (Some x) rest None (joined_split (next_in s l) (prev_in s l) None front x rest None (subst (λ xs. Joined (next_in s l) (prev_in s l) None xs None) cut (linked.joined l there))).1 ∙ by rest
    where
      by : (rest : List ℕ) → Rattle.hm_lists.proofs.Rings.head_of rest None ≡ slice_get rest 0
      by [] = refl
      by (x ∷ rest) = refl

  pub node_is : (front : List ℕ) (x : ℕ) (rest : List ℕ) → list_at (lists_of s) l ≡ front ++ x ∷ rest → x < length s.nodes
  node_is front x rest cut = node_there s l x (linked.owned l x (subst (IsIn x) (sym cut) (in_right x front (x ∷ rest) (inl refl))))

  pub begins : (rest : List ℕ) (node : Option ℕ) → list_at (lists_of s) l ≡ rest → node ≡ slice_get rest 0 → IsOnWay s node × (rest_from s node ≡ list_at (lists_of s) l)
  begins rest node cut first =
      let is : rest_from s node ≡ rest = ap (rest_from s) first ∙ rest_is [] rest cut in (
        record { linked = linked; list = l; front = []; within = there; cut = cut ∙ sym is; first = first ∙ ap (λ xs. slice_get xs 0) (sym is) },
        is ∙ sym cut,
      )

  goes_on_by : (x : ℕ) (front rest : List ℕ) → rest_from s (Some x) ≡ rest → Some x ≡ slice_get rest 0 → list_at (lists_of s) l ≡ front ++ rest
      → (x < length s.nodes) × IsOnWay s (node_at s x).next × (rest_from s (Some x) ≡ x ∷ rest_from s (node_at s x).next)
  goes_on_by x front [] is first cut = absurd (cc)
  goes_on_by x front (y ∷ rest) is first cut =
      let same : y ≡ x = cc in
      let at : list_at (lists_of s) l ≡ front ++ x ∷ rest = cut ∙ ap (λ z. front ++ z ∷ rest) same in
      let next = next_is front x rest at in
      let further : list_at (lists_of s) l ≡ (front ++ x ∷ []) ++ rest = at ∙ sym (append_assoc front (x ∷ []) rest) in
      let left : rest_from s (node_at s x).next ≡ rest = ap (rest_from s) next ∙ rest_is (front ++ x ∷ []) rest further in (
        node_is front x rest at,
        record { linked = linked; list = l; front = front ++ x ∷ []; within = there; cut = further ∙ ap (λ zs. (front ++ x ∷ []) ++ zs) (sym left); first = next ∙ ap (λ xs. slice_get xs 0) (sym left) },
        is ∙ ap (λ z. z ∷ rest) same ∙ ap (λ zs. x ∷ zs) (sym left),
      )

-- from one node to the next
pub goes_on : (s : Chains) (x : ℕ) → IsOnWay s (Some x) → (x < length s.nodes) × IsOnWay s (node_at s x).next × (rest_from s (Some x) ≡ x ∷ rest_from s (node_at s x).next)
goes_on s x way = goes_on_by s way.linked way.list way.within x way.front (rest_from s (Some x)) refl way.first way.cut

pub walk_is_over : (s : Chains) → IsOnWay s None → rest_from s None ≡ []
walk_is_over s way = walk_none (length s.nodes) s
