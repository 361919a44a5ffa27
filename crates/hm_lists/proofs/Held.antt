-- The lists that are walked from the ends are those that the chains link.
use Rattle.std.proofs.Common.{◌≡◌, ◌≢◌, ℕ, zero, suc, ◌+◌, ◌-◌, ◌<◌, ◌≤◌, Bool, true, false, not, ◌==◌, List, [], ◌∷◌, ◌++◌, length, map, get_or, set, take, drop, Option, Some, None, is_none, cond, refl, sym, ap, ◌∙◌, subst, inl, inr, ◌⊎◌, arith, get_or-set_other, get_or-set_same, length-append, append-nil}
use Rattle.std.proofs.lemmas.Bool.{cases_eq}
use Rattle.std.proofs.lemmas.Bool.Decides.{nat_tests}
use Rattle.std.proofs.lemmas.Grind.{common_steps}
use Rattle.std.proofs.lemmas.List.{ext_get_or}
use Rattle.std.specs.Prelude.{sum_by, count_by, replicate, slice_get, filter, MatchOption, if◌then◌else◌}
use Rattle.std.proofs.lemmas.List.Sums.{get_or-le-sum_by, sum_by-append}
use Rattle.hm_lists.specs.declared.node.Node.{Node}
use Rattle.hm_lists.specs.declared.node.Ends.{Ends}
use Rattle.hm_lists.specs.Chains.{Chains, free, no_ends, node_at, ends_at, next_in, prev_in, Joined, IsIn, Differ, list_at, is_free, IsLinked, walk, walks, lists_of, pushed, taken_out, IsThere}
use Rattle.hm_lists.specs.Map.{IsOut, IsHeld, without, AreApart}
use Rattle.hm_lists.proofs.Grown.{without_lists, more_nodes, more_lists, nothing}
use Rattle.hm_lists.proofs.Rings.{head_of, joined_first, joined_same}
use Rattle.hm_lists.proofs.Linked.{pushed_linked, last_there, taken_linked, x_there, p_there, n_there, node_there}

pub walk_none : (n : ℕ) (s : Chains) → walk n s None ≡ []
walk_none zero s = refl
walk_none (suc n) s = refl

pub walk_joined : (s : Chains) (l : ℕ) (a : Option ℕ) (xs : List ℕ) (n : ℕ) → Joined (next_in s l) (prev_in s l) a xs None → length xs ≤ n → walk n s (next_in s l a) ≡ xs
walk_joined s l a [] n j le = ap (walk n s) j.0 ∙ walk_none n s
walk_joined s l a (x ∷ xs) zero j le = absurd (grind (arith, common_steps))
walk_joined s l a (x ∷ xs) (suc n) j le =
    ap (walk (suc n) s) j.0 ∙ ap (λ ys. x ∷ ys) (walk_joined s l (Some x) xs n j.2 (grind (arith, common_steps)))

length-walks : (ends : List Ends) (s : Chains) → length (walks ends s) ≡ length ends
length-walks [] s = refl
length-walks (e ∷ ends) s = ap suc (length-walks ends s)

walk_at : (ends : List Ends) (s : Chains) (l : ℕ) → l < length ends → get_or (walks ends s) l [] ≡ walk (length s.nodes) s (get_or ends l no_ends).first
walk_at [] s l lt = absurd (grind (arith, common_steps))
walk_at (e ∷ ends) s zero lt = refl
walk_at (e ∷ ends) s (suc l) lt = walk_at ends s l (grind (arith, common_steps))

-- linked lists are those that are walked
pub linked_lists : (s : Chains) (lists : List (List ℕ)) → IsLinked s lists → lists_of s ≡ lists
linked_lists s lists linked =
    ext_get_or [] (walks s.ends s) lists (length-walks s.ends s ∙ sym linked.count) (λ l lt. (
    let in_ends : l < length s.ends = (let e = length-walks s.ends s in omega (arith, lt, e)) in
    let in_lists : l < length lists = (let e = linked.count in omega (arith, in_ends, e)) in
    let short = get_or-le-sum_by length lists l [] in_lists in
    let room = linked.room in
    walk_at s.ends s l in_ends ∙ walk_joined s l None (list_at lists l) (length s.nodes) (linked.joined l in_lists) (omega (arith, short, room))))

-- the chains after an operation link what it makes
relinked : (s : Chains) (lists : List (List ℕ)) → IsLinked s lists → IsLinked s (lists_of s) × (lists_of s ≡ lists)
relinked s lists linked = let e = linked_lists s lists linked in (subst (IsLinked s) (sym e) linked, e)

module _ (s : Chains) (linked : IsLinked s (lists_of s)) where
  out_free : (x : ℕ) → IsOut (lists_of s) x → (node_at s x).list ≡ None
  out_free x out = by_list (node_at s x).list refl
    where
      by_list : (o : Option ℕ) → (node_at s x).list ≡ o → o ≡ None
      by_list None e = refl
      by_list (Some l) e = absurd (out l (linked.found l x e))

  pub push_last : (l x : ℕ) → l < length (lists_of s) → x < length s.nodes → IsOut (lists_of s) x → IsThere s (ends_at s l).last
  push_last l x there node out = last_there s (lists_of s) linked l x there node (out_free x out)

  pub push_linked : (l x : ℕ) → l < length (lists_of s) → x < length s.nodes → IsOut (lists_of s) x → IsLinked (pushed s l x) (lists_of (pushed s l x))
  push_linked l x there node out = (relinked (pushed s l x) _ (pushed_linked s (lists_of s) linked l x there node (out_free x out))).0

  pub push_lists : (l x : ℕ) → l < length (lists_of s) → x < length s.nodes → IsOut (lists_of s) x → lists_of (pushed s l x) ≡ set (lists_of s) l (list_at (lists_of s) l ++ x ∷ [])
  push_lists l x there node out = (relinked (pushed s l x) _ (pushed_linked s (lists_of s) linked l x there node (out_free x out))).1

  first_is : (l : ℕ) → l < length (lists_of s) → (ends_at s l).first ≡ head_of (list_at (lists_of s) l) None
  first_is l there = joined_first (next_in s l) (prev_in s l) None (list_at (lists_of s) l) None (linked.joined l there)

  pub first_gives : (l : ℕ) → l < length (lists_of s) → (ends_at s l).first ≡ slice_get (list_at (lists_of s) l) 0
  first_gives l there = first_is l there ∙ by_list (list_at (lists_of s) l)
    where
      by_list : (xs : List ℕ) → head_of xs None ≡ slice_get xs 0
      by_list [] = refl
      by_list (x ∷ xs) = refl

  pub pop_cut : (l x : ℕ) → l < length (lists_of s) → (ends_at s l).first ≡ Some x → list_at (lists_of s) l ≡ x ∷ drop 1 (list_at (lists_of s) l)
  pop_cut l x there e = by_list (list_at (lists_of s) l) (sym (first_is l there) ∙ e)
    where
      by_list : (xs : List ℕ) → head_of xs None ≡ Some x → xs ≡ x ∷ drop 1 xs
      by_list [] h = absurd (cc)
      by_list (y ∷ xs) h = let same : y ≡ x = cc in ap (λ z. z ∷ xs) same

  module _ (l x : ℕ) (there : l < length (lists_of s)) (front behind : List ℕ) (is_at : list_at (lists_of s) l ≡ front ++ x ∷ behind) where
    pub out_there : x < length s.nodes
    out_there = x_there s (lists_of s) linked l x there front behind is_at

    pub out_prev : IsThere s (node_at s x).prev
    out_prev = p_there s (lists_of s) linked l x there front behind is_at

    pub out_next : IsThere s (node_at s x).next
    out_next = n_there s (lists_of s) linked l x there front behind is_at

    pub out_linked : IsLinked (taken_out s l x) (lists_of (taken_out s l x))
    out_linked = (relinked (taken_out s l x) _ (taken_linked s (lists_of s) linked l x there front behind is_at)).0

    pub out_lists : lists_of (taken_out s l x) ≡ set (lists_of s) l (front ++ behind)
    out_lists = (relinked (taken_out s l x) _ (taken_linked s (lists_of s) linked l x there front behind is_at)).1

  pub list_is : (x : ℕ) (o : Option ℕ) → (node_at s x).list ≡ o → MatchOption o (IsOut (lists_of s) x) (λ l. IsIn x (list_at (lists_of s) l))
  list_is x None e = λ l is. some_none l (linked.owned l x is) e
    where
      some_none : (l : ℕ) → (node_at s x).list ≡ Some l → (node_at s x).list ≡ None → ⊥
      some_none l a b = cc
  list_is x (Some l) e = linked.found l x e

  pub beyond : (x : ℕ) → length s.nodes ≤ x → IsOut (lists_of s) x
  beyond x le l is = let lt = node_there s l x (linked.owned l x is) in omega (arith, le, lt)

  pub apart : AreApart (lists_of s)
  apart = record {
    once = linked.differ;
    in_one = λ l m node one other. same_some l m (sym (linked.owned l node one) ∙ linked.owned m node other);
  }
    where
      same_some : (l m : ℕ) → Some l ≡ Some m → l ≡ m
      same_some l m e = cc

  pub held_list : (x : ℕ) → IsHeld (lists_of s) x → (node_at s x).list ≡ None → ⊥
  held_list x (l, is) e = some_none l (linked.owned l x is)
    where
      some_none : (l : ℕ) → (node_at s x).list ≡ Some l → ⊥
      some_none l a = cc

  pub held_there : (x : ℕ) → IsHeld (lists_of s) x → x < length s.nodes
  held_there x (l, is) = node_there s l x (linked.owned l x is)

  pub held_in : (x l : ℕ) → (node_at s x).list ≡ Some l → IsIn x (list_at (lists_of s) l)
  held_in x l e = linked.found l x e

-- a node of a list cuts it
pub front_of : ℕ → List ℕ → List ℕ
front_of x [] = []
front_of x (y ∷ ys) = if x == y then [] else (y ∷ front_of x ys)

pub behind_of : ℕ → List ℕ → List ℕ
behind_of x [] = []
behind_of x (y ∷ ys) = if x == y then ys else behind_of x ys

pub in_cut : (x : ℕ) (xs : List ℕ) → IsIn x xs → xs ≡ front_of x xs ++ x ∷ behind_of x xs
unfolding front_of behind_of
in_cut x [] is = absurd is
in_cut x (y ∷ ys) is = elim (cases_eq x y) [
  | inl same ↦ (let test : (x == y) ≡ true = grind (arith, nat_tests) in rw test (ap (λ z. z ∷ ys) (sym same)))
  | inr ne ↦ (
      let test : (x == y) ≡ false = grind (arith, nat_tests) in
      rw test (ap (λ zs. y ∷ zs) (in_cut x ys (elim is [ inl e ↦ absurd (ne e) | inr r ↦ r ]))))
]

pub in_range : (lists : List (List ℕ)) (l x : ℕ) → IsIn x (list_at lists l) → l < length lists
in_range [] l x is = absurd is
in_range (xs ∷ lists) zero x is = grind (arith, common_steps)
in_range (xs ∷ lists) (suc l) x is = let rest = in_range lists l x is in grind (arith, common_steps)

-- an element by an index is the one at any default
pub element_at : {A : Type 0} (xs : List A) (i : ℕ) (x d : A) → i < length xs → x ≡ get_or xs i x → get_or xs i d ≡ x
element_at [] i x d lt e = absurd (grind (arith, common_steps))
element_at (y ∷ xs) zero x d lt e = sym e
element_at (y ∷ xs) (suc i) x d lt e = element_at xs i x d (grind (arith, common_steps)) e

-- what taking out a node needs and makes
pub record TakesOut (s : Chains) (l x : ℕ) (ys : List ℕ) : Type 0 where
  pub there : l < length s.ends
  pub node : x < length s.nodes
  pub before : IsThere s (node_at s x).prev
  pub next : IsThere s (node_at s x).next
  pub linked : IsLinked (taken_out s l x) (lists_of (taken_out s l x))
  pub lists : lists_of (taken_out s l x) ≡ set (lists_of s) l ys

takes : (s : Chains) → IsLinked s (lists_of s) → (l x : ℕ) (front behind : List ℕ) → l < length (lists_of s) → list_at (lists_of s) l ≡ front ++ x ∷ behind → TakesOut s l x (front ++ behind)
takes s linked l x front behind there is_at = record {
  there = (let c = linked.count in omega (arith, there, c));
  node = out_there s linked l x there front behind is_at;
  before = out_prev s linked l x there front behind is_at;
  next = out_next s linked l x there front behind is_at;
  linked = out_linked s linked l x there front behind is_at;
  lists = out_lists s linked l x there front behind is_at;
}

-- the first of a list
pub popped : (s : Chains) → IsLinked s (lists_of s) → (l x : ℕ) → l < length (lists_of s) → (ends_at s l).first ≡ Some x
    → TakesOut s l x (drop 1 (list_at (lists_of s) l)) × (Some x ≡ slice_get (list_at (lists_of s) l) 0)
popped s linked l x there at =
    (takes s linked l x [] (drop 1 (list_at (lists_of s) l)) there (pop_cut s linked l x there at), sym at ∙ first_gives s linked l there)

pub popped_none : (s : Chains) → IsLinked s (lists_of s) → (l : ℕ) → l < length (lists_of s) → (ends_at s l).first ≡ None
    → (None ≡ slice_get (list_at (lists_of s) l) 0) × (lists_of s ≡ set (lists_of s) l (drop 1 (list_at (lists_of s) l)))
popped_none s linked l there at =
    let none : None ≡ slice_get (list_at (lists_of s) l) 0 = sym at ∙ first_gives s linked l there in
    (none, same_list (lists_of s) l (no_first (list_at (lists_of s) l) none))
  where
    no_first : (xs : List ℕ) → None ≡ slice_get xs 0 → drop 1 xs ≡ xs
    no_first [] h = refl
    no_first (x ∷ xs) h = absurd (cc)

    same_list : (lists : List (List ℕ)) (l : ℕ) → drop 1 (list_at lists l) ≡ list_at lists l → lists ≡ set lists l (drop 1 (list_at lists l))
    same_list [] l h = refl
    same_list (xs ∷ lists) zero h = ap (λ ys. ys ∷ lists) (sym h)
    same_list (xs ∷ lists) (suc l) h = ap (λ ls. xs ∷ ls) (same_list lists l h)

-- a node by the list that it says
pub unlinked : (s : Chains) → IsLinked s (lists_of s) → (l x : ℕ) (n : Node) → IsHeld (lists_of s) x → n ≡ get_or s.nodes x n → n.list ≡ Some l
    → TakesOut s l x (front_of x (list_at (lists_of s) l) ++ behind_of x (list_at (lists_of s) l)) × (lists_of (taken_out s l x) ≡ map (without x) (lists_of s))
unlinked s linked l x n held is list =
    let there = held_there s linked x held in
    let at : (node_at s x).list ≡ Some l = ap (λ (m : Node). m.list) (element_at s.nodes x n free there is) ∙ list in
    let in_it = linked.found l x at in
    let lt = in_range (lists_of s) l x in_it in
    let cut = in_cut x (list_at (lists_of s) l) in_it in
    let out = takes s linked l x (front_of x (list_at (lists_of s) l)) (behind_of x (list_at (lists_of s) l)) lt cut in
    (out, out.lists ∙ without_lists (lists_of s) l x (front_of x (list_at (lists_of s) l)) (behind_of x (list_at (lists_of s) l)) lt cut (linked.differ l) (λ m there. (apart s linked).in_one m l x there in_it))

pub not_unlinked : (s : Chains) → IsLinked s (lists_of s) → (x : ℕ) (n : Node) → IsHeld (lists_of s) x → n ≡ get_or s.nodes x n → n.list ≡ None → ⊥
not_unlinked s linked x n held is list =
    held_list s linked x held (ap (λ (m : Node). m.list) (element_at s.nodes x n free (held_there s linked x held) is) ∙ list)

pub list_by : (s : Chains) → IsLinked s (lists_of s) → (x : ℕ) (n : Node) → x < length s.nodes → n ≡ get_or s.nodes x n → MatchOption n.list (IsOut (lists_of s) x) (λ l. IsIn x (list_at (lists_of s) l))
list_by s linked x n lt is = list_is s linked x n.list (ap (λ (m : Node). m.list) (element_at s.nodes x n free lt is))

-- more room
pub with_nodes : (s t : Chains) (n size : ℕ) → IsLinked s (lists_of s) → size ≡ length s.nodes → size ≤ n → t.nodes ≡ take n s.nodes ++ replicate (n - size) free → t.ends ≡ s.ends
    → IsLinked t (lists_of t) × (lists_of t ≡ lists_of s)
with_nodes s t n size linked sized le nodes ends =
    let all : take n s.nodes ≡ s.nodes = grind (arith, common_steps) in
    let is : t ≡ record { nodes = s.nodes ++ replicate (n - length s.nodes) free; ends = s.ends } = (let k = nodes ∙ ap (λ x. x ++ replicate (n - size) free) all ∙ ap (λ m. s.nodes ++ replicate (n - m) free) sized in rw (k, ends) refl) in
    let P : Chains → Type 0 = λ u. IsLinked u (lists_of u) × (lists_of u ≡ lists_of s) in
    subst P (sym is) (relinked _ (lists_of s) (more_nodes s (lists_of s) linked (n - length s.nodes)))

pub with_lists : (s t : Chains) (n size : ℕ) → IsLinked s (lists_of s) → size ≡ length s.ends → size ≤ n → t.ends ≡ take n s.ends ++ replicate (n - size) no_ends → t.nodes ≡ s.nodes
    → IsLinked t (lists_of t) × (lists_of t ≡ lists_of s ++ replicate (n - length (lists_of s)) [])
with_lists s t n size linked sized le ends nodes =
    let all : take n s.ends ≡ s.ends = grind (arith, common_steps) in
    let m : ℕ = n - length s.ends in
    let is : t ≡ record { nodes = s.nodes; ends = s.ends ++ replicate (n - length s.ends) no_ends } = (let k = ends ∙ ap (λ x. x ++ replicate (n - size) no_ends) all ∙ ap (λ m. s.ends ++ replicate (n - m) no_ends) sized in rw (k, nodes) refl) in
    let P : Chains → Type 0 = λ u. IsLinked u (lists_of u) × (lists_of u ≡ lists_of s ++ replicate (n - length s.ends) []) in
    let both = subst P (sym is) (relinked _ (lists_of s ++ replicate (n - length s.ends) []) (more_lists s (lists_of s) linked (n - length s.ends))) in
    (both.0, both.1 ∙ ap (λ k. lists_of s ++ replicate (n - k) []) (sym linked.count))

pub from_nothing : (t : Chains) (n size : ℕ) (old : List Ends) → t.nodes ≡ [] → old ≡ [] → size ≡ 0 → t.ends ≡ take n old ++ replicate (n - size) no_ends → IsLinked t (lists_of t) × (lists_of t ≡ replicate n [])
from_nothing t n size old nodes none sized ends =
    let ends' = ends ∙ ap (λ x. take n x ++ replicate (n - size) no_ends) none in
    let both = with_lists (record { nodes = []; ends = [] }) t n size nothing sized (omega (arith, sized)) ends' nodes in
    (both.0, both.1 ∙ ap (λ k. replicate k []) (let e : n - 0 ≡ n = omega arith in e))
