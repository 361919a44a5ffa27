-- Those that hold, in the order of their numbers.
use Rattle.std.proofs.Common.{◌≡◌, ◌≢◌, ℕ, zero, suc, ◌+◌, ◌<◌, ◌≤◌, ◌==◌, List, [], ◌∷◌, Bool, true, false, not, ◌&&◌, cond, filter, get_or, is_lt, is_some, map, Option, Some, None, refl, ap, sym, ◌∙◌, subst, inl, inr, ◌⊎◌, arith}
use Rattle.std.specs.Prelude.{AllPairs, Contains, Decides}
use Rattle.std.specs.List.{AllByRecursion}
use Rattle.std.specs.List.Sorted.{IsPermutation, IsSorted, IsStrictlyIncreasing}
use Rattle.std.specs.declared.cmp.Ordering.{Ordering}
use Rattle.std.proofs.lemmas.Bool.{and_parts, cases_eq, eq-eqb, eqb-true, true≢false}
use Rattle.std.proofs.lemmas.List.{get_or-map, length-map}
use Rattle.std.proofs.lemmas.List.Elements.{recursion_from_All}
use Rattle.std.proofs.lemmas.List.Kept.{AllPairs-from_increasing}
use Rattle.std.proofs.lemmas.List.Sorted.{Contains-permutation, IsPermutation-sym}
use Rattle.std.proofs.lemmas.Map.Keys.{IsDistinct-IsPermutation, ge_from_not_lt}
use Rattle.std.proofs.lemmas.Map.Made.{AllPairs-from_IsDistinct, IsDistinct-from_AllPairs}
use Rattle.hm_names.specs.Order.{pid_cmp}
use Rattle.hm_names.specs.declared.pid.Pid.{Pid}
use Rattle.hm_data.specs.declared.answer.Answer.{Answer}
use Rattle.hm_locks.specs.Book.{AreHolders, Row, is_holding, row_of}
use Rattle.hm_locks.specs.Laws.{IsBookOf}
use Rattle.hm_model.specs.Answers.{last_answer}
use Rattle.hm_model.specs.Journal.{Past}
use Rattle.hm_model.specs.Locks.{IsIn}
use Rattle.hm_model.specs.Phase.{ended}
use Rattle.hm_model.specs.Pieces.{numbers_from}
use Rattle.hm_model.specs.Rules.{IsLegal}
use Rattle.hm_model.specs.Tree.{Node, made, node_of, pid_of}
use Rattle.hm_model.proofs.Grown.{grown_all, made_up_to}
use Rattle.hm_show.specs.Locks.{holds}
use Rattle.hm_show.specs.Procs.{pids}

-- each number is below those after it
abbrev Rise : List ℕ → Type 0
Rise [] = Unit {0}
Rise (n ∷ ns) = AllByRecursion (λ m. n < m) ns × Rise ns

below_in : (n : ℕ) (ns : List ℕ) → AllByRecursion (λ m. n < m) ns → (m : ℕ) → IsIn m ns → n < m
below_in n [] all m is = absurd is
below_in n (k ∷ ns) all m (inl e) = subst (λ x. n < x) (sym e) all.0
below_in n (k ∷ ns) all m (inr is) = below_in n ns all.1 m is

-- what one that rises has after its first, another has there too
behind_first : (n m : ℕ) (ns ms : List ℕ) → n ≡ m → AllByRecursion (λ k. n < k) ns → ((p : ℕ) → IsIn p (n ∷ ns) → IsIn p (m ∷ ms)) → (p : ℕ) → IsIn p ns → IsIn p ms
behind_first n m ns ms same all to p is = elim (to p (inr is)) [
  | inl e ↦ absurd (let lt = below_in n ns all p is in omega (arith, lt, e, same))
  | inr more ↦ more
]

first_one : (n m : ℕ) (ns ms : List ℕ) → AllByRecursion (λ k. n < k) ns → AllByRecursion (λ k. m < k) ms → IsIn n (m ∷ ms) → IsIn m (n ∷ ns) → n ≡ m
first_one n m ns ms a b (inl e) back = e
first_one n m ns ms a b (inr late) (inl e) = sym e
first_one n m ns ms a b (inr late) (inr early) = absurd (let up = below_in m ms b n late in let down = below_in n ns a m early in omega (arith, up, down))

-- two that rise and have the same are one
one_list : (ns ms : List ℕ) → Rise ns → Rise ms → ((p : ℕ) → IsIn p ns → IsIn p ms) → ((p : ℕ) → IsIn p ms → IsIn p ns) → ns ≡ ms
one_list [] [] a b to from = refl
one_list [] (m ∷ ms) a b to from = absurd (from m (inl refl))
one_list (n ∷ ns) [] a b to from = absurd (to n (inl refl))
one_list (n ∷ ns) (m ∷ ms) a b to from =
    let same : n ≡ m = first_one n m ns ms a.0 b.0 (to n (inl refl)) (from m (inl refl)) in
    ap (λ x. x ∷ ns) same ∙ ap (λ l. m ∷ l) (one_list ns ms a.1 b.1 (behind_first n m ns ms same a.0 to) (behind_first m n ms ns (sym same) b.0 from))

-- numbers from one on
in_numbers : (first count p : ℕ) → first ≤ p → p < first + count → IsIn p (numbers_from first count)
in_numbers first zero p low high = absurd (omega (arith, low, high))
in_numbers first (suc count) p low high = elim (cases_eq p first) [
  | inl e ↦ inl e
  | inr differs ↦ inr (in_numbers (first + 1) count p (omega (arith, low, differs)) (omega (arith, high)))
]

above : (n first count : ℕ) → n < first → AllByRecursion (λ m. n < m) (numbers_from first count)
above n first zero lt = tt
above n first (suc count) lt = (lt, above n (first + 1) count (omega (arith, lt)))

rise_numbers : (first count : ℕ) → Rise (numbers_from first count)
rise_numbers first zero = tt
rise_numbers first (suc count) = (above first (first + 1) count (omega arith), rise_numbers (first + 1) count)

-- those that pass
passes : (test : ℕ → Bool) (p : ℕ) (ns : List ℕ) → IsIn p (filter test ns) → test p ≡ true
passes test p [] is = absurd is
passes test p (n ∷ ns) is = by (test n) refl is (passes test p ns)
  where
    by : (b : Bool) → test n ≡ b → IsIn p (cond b (n ∷ filter test ns) (filter test ns)) → (IsIn p (filter test ns) → test p ≡ true) → test p ≡ true
    by true e at rest = elim at [ inl same ↦ ap test same ∙ e | inr more ↦ rest more ]
    by false e at rest = rest at

kept_in : (test : ℕ → Bool) (p : ℕ) (ns : List ℕ) → test p ≡ true → IsIn p ns → IsIn p (filter test ns)
kept_in test p [] e is = absurd is
kept_in test p (n ∷ ns) e is = by (test n) refl is (kept_in test p ns e)
  where
    by : (b : Bool) → test n ≡ b → (p ≡ n) ⊎ IsIn p ns → (IsIn p ns → IsIn p (filter test ns)) → IsIn p (cond b (n ∷ filter test ns) (filter test ns))
    by true f at rest = elim at [ inl same ↦ inl same | inr more ↦ inr (rest more) ]
    by false f at rest = elim at [ inl same ↦ absurd (true≢false (sym e ∙ ap test same ∙ f)) | inr more ↦ rest more ]

all_kept : (P : ℕ → Type 0) (test : ℕ → Bool) (ns : List ℕ) → AllByRecursion P ns → AllByRecursion P (filter test ns)
all_kept P test [] all = tt
all_kept P test (n ∷ ns) all = by (test n) (all_kept P test ns all.1)
  where
    by : (b : Bool) → AllByRecursion P (filter test ns) → AllByRecursion P (cond b (n ∷ filter test ns) (filter test ns))
    by true rest = (all.0, rest)
    by false rest = rest

rise_kept : (test : ℕ → Bool) (ns : List ℕ) → Rise ns → Rise (filter test ns)
rise_kept test [] up = tt
rise_kept test (n ∷ ns) up = by (test n) (rise_kept test ns up.1)
  where
    by : (b : Bool) → Rise (filter test ns) → Rise (cond b (n ∷ filter test ns) (filter test ns))
    by true rest = (all_kept (λ m. n < m) test ns up.0, rest)
    by false rest = rest

-- the numbers of procedures
abbrev pub number : Pid → ℕ
number pid = pid.0

in_pids : (p : ℕ) (ps : List Pid) → IsIn p (map number ps) → Contains ps (pid_of p)
in_pids p [] is = absurd is
in_pids p (q ∷ ps) (inl e) = (0, omega arith, ap pid_of (sym e))
in_pids p (q ∷ ps) (inr is) = let at = in_pids p ps is in let lt = at.1 in (suc at.0, omega (arith, lt), at.2)

pids_in : (p : ℕ) (ps : List Pid) → Contains ps (pid_of p) → IsIn p (map number ps)
pids_in p [] (k, lt, e) = absurd (omega (arith, lt))
pids_in p (q ∷ ps) (zero, lt, e) = inl (sym (ap number e))
pids_in p (q ∷ ps) (suc k, lt, e) = inr (pids_in p ps (k, omega (arith, lt), e))

rise_pairs : (ns : List ℕ) → AllPairs (λ n m. n < m) ns → Rise ns
rise_pairs [] up = tt
rise_pairs (n ∷ ns) up = (
  recursion_from_All (λ m. n < m) ns (λ k d lt. up 0 (suc k) d (omega arith) (omega (arith, lt))),
  rise_pairs ns (λ i j d lt few. up (suc i) (suc j) d (omega (arith, lt)) (omega (arith, few))),
)

-- procedures in their order, each once
module _ (cmp : Pid → Pid → Ordering) (law : (a b : Pid) → cmp a b ≡ pid_cmp a b) where
  increasing : (ps : List Pid) → IsSorted cmp ps → AllPairs (λ p q. p ≢ q) ps → IsStrictlyIncreasing (map number ps)
  increasing ps up apart k lt =
      let long = length-map ps number in
      let here = get_or-map number ps k (pid_of 0) 0 (omega (arith, lt, long)) in
      let next = get_or-map number ps (k + 1) (pid_of 0) 0 (omega (arith, lt, long)) in
      let p = get_or ps k (pid_of 0) in
      let q = get_or ps (k + 1) (pid_of 0) in
      let le = ge_from_not_lt q.0 p.0 (sym (ap is_lt (law q p)) ∙ up k (pid_of 0) (omega arith) (omega (arith, lt, long))) in
      let differ : p.0 ≢ q.0 = λ e. apart k (k + 1) (pid_of 0) (omega arith) (omega (arith, lt, long)) (ap pid_of e) in
      omega (arith, here, next, le, differ)

  rise_sorted : (ps : List Pid) → IsSorted cmp ps → AllPairs (λ p q. p ≢ q) ps → Rise (map number ps)
  rise_sorted ps up apart = rise_pairs (map number ps) (AllPairs-from_increasing (map number ps) (increasing ps up apart))

abbrev same_pid : Pid → Pid → Bool
same_pid p q = p.0 == q.0

pid_decides : (p q : Pid) → Decides (same_pid p q) (p ≡ q)
pid_decides p q = ((λ e. ap pid_of (eqb-true p.0 q.0 e)), (λ e. eq-eqb p.0 q.0 (ap number e)))

apart_still : (ps qs : List Pid) → IsPermutation ps qs → AllPairs (λ p q. p ≢ q) ps → AllPairs (λ p q. p ≢ q) qs
apart_still ps qs moved apart =
    AllPairs-from_IsDistinct pid_decides qs (IsDistinct-IsPermutation same_pid (λ x y. grind arith) ps qs moved (IsDistinct-from_AllPairs pid_decides ps apart))

module _ (past : Past) (legal : IsLegal past) (rows : List Row) (book : IsBookOf past [] rows) where
  stepped : (o : Option Answer) → is_some o ≡ true → o ≢ None
  stepped o e none = true≢false (sym e ∙ ap is_some none)

  -- who holds in the journal holds in the book
  holding : (p : ℕ) → holds past p ≡ true → is_holding (row_of rows p) ≡ true
  holding p is =
      let parts = and_parts (is_some (last_answer past p)) (not (ended past p)) is in
      let last = stepped (last_answer past p) parts.0 in
      book.held p ((λ none. last ((grown_all past legal).unmade p none)), goes (ended past p) parts.1, inl last)
    where
      goes : (b : Bool) → not b ≡ true → b ≡ false
      goes true e = sym e
      goes false e = refl

  -- and the other way round
  held_in : (p : ℕ) → is_holding (row_of rows p) ≡ true → IsIn p (filter (holds past) (pids past))
  held_in p is =
      let h = book.holds p is in
      let within = there (node_of past p) refl h.0 in
      kept_in (holds past) p (pids past) (ap (λ b. b && not (ended past p)) (elim h.2 [ inl last ↦ some (last_answer past p) last | inr never ↦ absurd never ]) ∙ ap not h.1)
      (in_numbers 1 (made past) p within.0 (let le = within.1 in omega (arith, le)))
    where
      some : (o : Option Answer) → o ≢ None → is_some o ≡ true
      some None e = absurd (e refl)
      some (Some answer) e = refl

      there : (o : Option Node) → node_of past p ≡ o → node_of past p ≢ None → (1 ≤ p) × (p ≤ made past)
      there None f some_is = absurd (some_is f)
      there (Some node) f some_is = made_up_to past (grown_all past legal) p node f

  -- the holders of the book, sorted, are those that hold in the journal
  pub holders_are : (cmp : Pid → Pid → Ordering) → ((a b : Pid) → cmp a b ≡ pid_cmp a b) → (old new : List Pid) → AreHolders rows old → IsPermutation old new → IsSorted cmp new
      → map number new ≡ filter (holds past) (pids past)
  holders_are cmp law old new are moved up =
      one_list (map number new) (filter (holds past) (pids past))
      (rise_sorted cmp law new up (apart_still old new moved are.once))
      (rise_kept (holds past) (pids past) (rise_numbers 1 (made past)))
      (λ p is. held_in p ((are.hold (pid_of p)).0 (Contains-permutation new old (pid_of p) (IsPermutation-sym old new moved) (in_pids p new is))))
      (λ p is. pids_in p new (Contains-permutation old new (pid_of p) moved ((are.hold (pid_of p)).1 (holding p (passes (holds past) p (pids past) is)))))
