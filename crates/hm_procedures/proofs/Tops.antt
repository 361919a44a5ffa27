-- The roots among procedures.
use Rattle.std.proofs.Common.{◌≡◌, ℕ, zero, suc, ◌+◌, ◌≤◌, ◌==◌, List, [], ◌∷◌, ◌++◌, Bool, true, false, if◌then◌else◌, Option, Some, None, filter, length, map, slice_get, refl, ap, sym, ◌∙◌, append-nil, inl, inr, arith}
use Rattle.std.specs.Option.{option_map}
use Rattle.std.proofs.lemmas.Bool.{cases_Bool, cond-false, cond-true, eq-eqb, false≢true, ne_eqb}
use Rattle.std.proofs.lemmas.List.Elements.{filter-append}
use Rattle.std.proofs.lemmas.Option.{none-some, same_Some}
use Rattle.hm_names.specs.declared.pid.Pid.{Pid}
use Rattle.hm_model.specs.Journal.{Past}
use Rattle.hm_model.specs.Pieces.{numbers_from}
use Rattle.hm_model.specs.Procedures.{offset}
use Rattle.hm_model.specs.Rules.{IsLegal}
use Rattle.hm_model.specs.Tree.{Node, is_root, is_root_in, is_top, node_of, pid_of}
use Rattle.hm_model.proofs.Forest.{forest_all, rooted_all, top_is_own}
use Rattle.hm_model.proofs.Small.{top_is}
use Rattle.hm_procedures.proofs.Enters.{same_length}
use Rattle.hm_procedures.proofs.Firsts.{none_low}
use Rattle.hm_procedures.specs.Kept.{IsKept, kept_at, kept_of, root_shown}
use Rattle.hm_procedures.specs.Procedures.{roots}
use Rattle.hm_procedures.specs.Trees.{tops_from}

onto_more : (b : Bool) (root : Pid) (xs ys zs : List Pid) → xs ≡ ys ++ zs → (if b then root ∷ xs else xs) ≡ (if b then root ∷ ys else ys) ++ zs
onto_more true root xs ys zs same = ap (λ l. root ∷ l) same
onto_more false root xs ys zs same = same

-- after one procedure more
tops_more : (p : ℕ) (are : List Pid) (root : Pid) → tops_from p (are ++ root ∷ []) ≡ tops_from p are ++ tops_from (p + length are) (root ∷ [])
tops_more p [] root = let e : p ≡ p + 0 = omega arith in ap (λ q. tops_from q (root ∷ [])) e
tops_more p (first ∷ are) root =
    let e : p + 1 + length are ≡ p + length (first ∷ are) = omega arith in
    onto_more (first.0 == p) first _ _ _ (tops_more (p + 1) are root ∙ ap (λ q. tops_from (p + 1) are ++ tops_from q (root ∷ [])) e)

-- which is a root
pub tops_root : (from : ℕ) (are : List Pid) (own : Pid) → own.0 ≡ from + length are + 1 → tops_from (from + 1) (are ++ own ∷ []) ≡ tops_from (from + 1) are ++ own ∷ []
tops_root from are own is =
    let e : own.0 ≡ from + 1 + length are = omega (arith, is) in
    tops_more (from + 1) are own ∙ ap (λ l. tops_from (from + 1) are ++ l) (cond-true (own.0 == from + 1 + length are) (own ∷ []) [] (eq-eqb own.0 (from + 1 + length are) e))

-- or isn't
pub tops_other : (from : ℕ) (are : List Pid) (root : Pid) → root.0 ≤ from + length are → tops_from (from + 1) (are ++ root ∷ []) ≡ tops_from (from + 1) are
tops_other from are root low =
    tops_more (from + 1) are root
    ∙ ap (λ l. tops_from (from + 1) are ++ l) (cond-false (root.0 == from + 1 + length are) (root ∷ []) [] (ne_eqb root.0 (from + 1 + length are) (λ e. omega (arith, low, e))))
    ∙ simp append-nil

module _ (J : Past) (legal : IsLegal J) where
  -- a procedure is its own root just where it is a root
  own_root : (p : ℕ) (node : Node) → node_of J p ≡ Some node → (node.root == p) ≡ is_top node.above
  own_root p node is = elim (cases_Bool (is_top node.above)) [
    | inl top ↦ eq-eqb node.root p (top_is_own J (forest_all J legal) p node is (top_is node.above top)) ∙ sym top
    | inr below ↦
        (let root = rooted_all J legal p node is in
        ne_eqb node.root p (λ own.
        let same : root.root ≡ node = same_Some root.root node (sym root.there ∙ ap (node_of J) own ∙ is) in
        false≢true (sym below ∙ ap (λ (n : Node). is_top n.above) (sym same) ∙ ap is_top root.at_top))
        ∙ sym below)
  ]

  pick : (b t : Bool) (p root : ℕ) (xs : List Pid) (ns : List ℕ) → b ≡ t → (t ≡ true → root ≡ p) → xs ≡ map pid_of ns
      → (if b then pid_of root ∷ xs else xs) ≡ map pid_of (if t then p ∷ ns else ns)
  pick b true p root xs ns is own same = cond-true b (pid_of root ∷ xs) xs is ∙ ap (λ r. pid_of r ∷ xs) (own refl) ∙ ap (λ l. pid_of p ∷ l) same
  pick b false p root xs ns is own same = cond-false b (pid_of root ∷ xs) xs is ∙ same

  top_at : (p : ℕ) (root : Pid) (xs : List Pid) (ns : List ℕ) → Some root ≡ option_map root_shown (kept_of J p) → xs ≡ map pid_of ns
      → (if root.0 == p then root ∷ xs else xs) ≡ map pid_of (if is_root J p then p ∷ ns else ns)
  top_at p root xs ns is rest = by (node_of J p) refl is
    where
      by : (o : Option Node) → node_of J p ≡ o → Some root ≡ option_map root_shown (option_map (kept_at J p) o)
          → (if root.0 == p then root ∷ xs else xs) ≡ map pid_of (if is_root J p then p ∷ ns else ns)
      by None e is = absurd (none-some root (sym is))
      by (Some node) e is =
          let own : root ≡ pid_of node.root = same_Some root (pid_of node.root) is in
          ap (λ r. if r.0 == p then r ∷ xs else xs) own
          ∙ pick (node.root == p) (is_root J p) p node.root xs ns (own_root p node e ∙ sym (ap is_root_in e)) (λ top. top_is_own J (forest_all J legal) p node e (top_is node.above (sym (ap is_root_in e) ∙ top))) rest

  tops_at : (p : ℕ) (are : List Pid) → ((i : ℕ) → slice_get are i ≡ option_map root_shown (kept_of J (p + i)))
      → tops_from p are ≡ map pid_of (filter (is_root J) (numbers_from p (length are)))
  tops_at p [] each = refl
  tops_at p (root ∷ are) each =
      let here : p + 0 ≡ p = omega arith in
      top_at p root _ _ (each 0 ∙ ap (λ q. option_map root_shown (kept_of J q)) here)
      (tops_at (p + 1) are (λ i. let next : p + suc i ≡ p + 1 + i = omega arith in each (suc i) ∙ ap (λ q. option_map root_shown (kept_of J q)) next))

  -- none has a number up to the offset
  none_up_to : (n first : ℕ) → first + n ≤ offset J + 1 → filter (is_root J) (numbers_from first n) ≡ []
  none_up_to zero first le = refl
  none_up_to (suc n) first le =
      cond-false (is_root J first) (first ∷ filter (is_root J) (numbers_from (first + 1) n)) (filter (is_root J) (numbers_from (first + 1) n)) (ap is_root_in (none_low J legal first (omega (arith, le))))
      ∙ none_up_to n (first + 1) (omega (arith, le))

  numbers_cut : (m n first : ℕ) → numbers_from first (m + n) ≡ numbers_from first m ++ numbers_from (first + m) n
  numbers_cut zero n first = let e : zero + n ≡ n = omega arith in let f : first ≡ first + zero = omega arith in ap (numbers_from first) e ∙ ap (λ k. numbers_from k n) f
  numbers_cut (suc m) n first =
      let e : suc m + n ≡ suc (m + n) = omega arith in
      let f : first + 1 + m ≡ first + suc m = omega arith in
      ap (numbers_from first) e ∙ ap (λ l. first ∷ l) (numbers_cut m n (first + 1) ∙ ap (λ k. numbers_from (first + 1) m ++ numbers_from k n) f)

  roots_behind : (n : ℕ) → filter (is_root J) (numbers_from 1 (offset J + n)) ≡ filter (is_root J) (numbers_from (offset J + 1) n)
  roots_behind n =
      let e : 1 + offset J ≡ offset J + 1 = omega arith in
      ap (filter (is_root J)) (numbers_cut (offset J) n 1)
      ∙ filter-append (is_root J) (numbers_from 1 (offset J)) (numbers_from (1 + offset J) n)
      ∙ ap (λ l. l ++ filter (is_root J) (numbers_from (1 + offset J) n)) (none_up_to (offset J) 1 (omega arith))
      ∙ ap (λ k. filter (is_root J) (numbers_from k n)) e

  pub tops_are : (kept : List _) (are : List Pid) (left : ℕ) → IsKept J kept are left → tops_from (offset J + 1) are ≡ roots J
  tops_are kept are left is =
      tops_at (offset J + 1) are (λ i. let e : offset J + i + 1 ≡ offset J + 1 + i = omega arith in is.roots_are i ∙ ap (option_map root_shown) (is.kept_are i ∙ ap (kept_of J) e))
      ∙ ap (map pid_of) (sym (roots_behind (length are)) ∙ ap (λ n. filter (is_root J) (numbers_from 1 n)) (ap (λ n. offset J + n) long ∙ is.count))
    where
      long : length are ≡ length kept
      long = same_length (λ i. root_shown) are kept is.roots_are
