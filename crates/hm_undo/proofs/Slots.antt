-- The slots of roots, where one is written over or comes after the others.
use Rattle.std.proofs.Common.{◌≡◌, ◌≢◌, ℕ, zero, suc, ◌+◌, ◌<◌, ◌≤◌, List, [], ◌∷◌, ◌++◌, length, get_or, set, Bool, true, false, ◌==◌, if◌then◌else◌, Option, Some, None, refl, arith, ap, sym, ◌∙◌}
use Rattle.std.specs.Option.{option_map}
use Rattle.std.specs.Ordering.{is_eq}
use Rattle.std.proofs.lemmas.Bool.{cond-true, cond-false, eqb-true, eq-eqb}
use Rattle.std.proofs.lemmas.Bool.Decides.{nat_tests}
use Rattle.std.proofs.lemmas.Option.{none-some, same_Some}
use Rattle.hm_names.specs.Order.{pid_cmp}
use Rattle.hm_names.specs.declared.pid.Pid.{Pid}
use Rattle.hm_index.specs.Index.{find}
use Rattle.hm_undo.specs.declared.slot.Slot.{Slot}
use Rattle.hm_undo.specs.declared.slot.Step.{Step}
use Rattle.hm_undo.specs.Stacks.{AreWith, held, steps_of}
use Rattle.hm_undo.specs.Kept.{AreFound, find_place, stacks_of}

one_less : (o : Option ℕ) (i : ℕ) → option_map suc o ≡ Some (suc i) → o ≡ Some i
one_less None i e = absurd (none-some (suc i) e)
one_less (Some j) i e = let same = same_Some (suc j) (suc i) e in ap Some (omega (arith, same))

no_less : (o : Option ℕ) → option_map suc o ≡ Some 0 → ⊥
no_less None e = none-some 0 e
no_less (Some j) e = let same = same_Some (suc j) 0 e in omega (arith, same)

here : (slot : Slot) (more : List Slot) (root : Pid) → find_place (stacks_of (slot ∷ more)) root ≡ Some 0 → (slot.root.0 == root.0) ≡ true
here slot more root e = by (slot.root.0 == root.0) refl e
  where
    by : (b : Bool) → (slot.root.0 == root.0) ≡ b → (if b then Some 0 else option_map suc (find_place (stacks_of more) root)) ≡ Some 0 → (slot.root.0 == root.0) ≡ true
    by true s h = s
    by false s h = absurd (no_less (find_place (stacks_of more) root) h)

behind : (slot : Slot) (more : List Slot) (root : Pid) (i : ℕ) → find_place (stacks_of (slot ∷ more)) root ≡ Some (suc i) → ((slot.root.0 == root.0) ≡ false) × (find_place (stacks_of more) root ≡ Some i)
behind slot more root i e = by (slot.root.0 == root.0) refl e
  where
    by : (b : Bool) → (slot.root.0 == root.0) ≡ b → (if b then Some 0 else option_map suc (find_place (stacks_of more) root)) ≡ Some (suc i) → ((slot.root.0 == root.0) ≡ false) × (find_place (stacks_of more) root ≡ Some i)
    by true s h = let same = same_Some 0 (suc i) h in absurd (omega (arith, same))
    by false s h = (s, one_less (find_place (stacks_of more) root) i h)

pub bound : (slots : List Slot) (root : Pid) (i : ℕ) → find_place (stacks_of slots) root ≡ Some i → i < length slots
bound [] root i e = absurd (none-some i e)
bound (slot ∷ more) root zero e = omega arith
bound (slot ∷ more) root (suc i) e = let below = bound more root i (behind slot more root i e).1 in omega (arith, below)

pub steps_at : (slots : List Slot) (root : Pid) (i : ℕ) (d : Slot) → find_place (stacks_of slots) root ≡ Some i → steps_of (stacks_of slots) root ≡ (get_or slots i d).steps
steps_at [] root i d e = absurd (none-some i e)
steps_at (slot ∷ more) root zero d e = cond-true (slot.root.0 == root.0) slot.steps (steps_of (stacks_of more) root) (here slot more root e)
steps_at (slot ∷ more) root (suc i) d e =
    let on = behind slot more root i e in
    cond-false (slot.root.0 == root.0) slot.steps (steps_of (stacks_of more) root) on.0 ∙ steps_at more root i d on.1

pub root_at : (slots : List Slot) (root : Pid) (i : ℕ) (d : Slot) → find_place (stacks_of slots) root ≡ Some i → (get_or slots i d).root.0 ≡ root.0
root_at [] root i d e = absurd (none-some i e)
root_at (slot ∷ more) root zero d e = eqb-true slot.root.0 root.0 (here slot more root e)
root_at (slot ∷ more) root (suc i) d e = root_at more root i d (behind slot more root i e).1

none_here : (slot : Slot) (more : List Slot) (root : Pid) → find_place (stacks_of (slot ∷ more)) root ≡ None → ((slot.root.0 == root.0) ≡ false) × (find_place (stacks_of more) root ≡ None)
none_here slot more root e = by (slot.root.0 == root.0) refl (find_place (stacks_of more) root) refl e
  where
    by : (b : Bool) → (slot.root.0 == root.0) ≡ b → (o : Option ℕ) → find_place (stacks_of more) root ≡ o → (if b then Some 0 else option_map suc o) ≡ None → ((slot.root.0 == root.0) ≡ false) × (find_place (stacks_of more) root ≡ None)
    by true s o f h = absurd (none-some 0 (sym h))
    by false s None f h = (s, f)
    by false s (Some j) f h = absurd (none-some (suc j) (sym h))

pub none_at : (slots : List Slot) (root : Pid) → find_place (stacks_of slots) root ≡ None → steps_of (stacks_of slots) root ≡ []
none_at [] root e = refl
none_at (slot ∷ more) root e =
    let off = none_here slot more root e in
    cond-false (slot.root.0 == root.0) slot.steps (steps_of (stacks_of more) root) off.0 ∙ none_at more root off.1

-- one slot of a root is written over
twice : {X : Type 0} (b : Bool) (x y z : X) → (if b then x else (if b then y else z)) ≡ (if b then x else z)
twice true x y z = refl
twice false x y z = refl

pub written : (slots : List Slot) (root : Pid) (i : ℕ) (x : Slot) → find_place (stacks_of slots) root ≡ Some i → x.root.0 ≡ root.0 → AreWith (stacks_of slots) root x.steps (stacks_of (set slots i x))
written [] root i x e r other = absurd (none-some i e)
written (slot ∷ more) root zero x e r other =
    ap (λ n. if n == other.0 then x.steps else steps_of (stacks_of more) other) r
    ∙ sym (twice (root.0 == other.0) x.steps slot.steps (steps_of (stacks_of more) other))
    ∙ ap (λ n. if root.0 == other.0 then x.steps else (if n == other.0 then slot.steps else steps_of (stacks_of more) other)) (sym (eqb-true slot.root.0 root.0 (here slot more root e)))
written (slot ∷ more) root (suc i) x e r other =
    let on = behind slot more root i e in
    ap (λ s. if slot.root.0 == other.0 then slot.steps else s) (written more root i x on.1 r other)
    ∙ by (slot.root.0 == other.0) refl (root.0 == other.0) refl
  where
    by : (a : Bool) → (slot.root.0 == other.0) ≡ a → (b : Bool) → (root.0 == other.0) ≡ b → (if a then slot.steps else (if b then x.steps else steps_of (stacks_of more) other)) ≡ (if b then x.steps else (if a then slot.steps else steps_of (stacks_of more) other))
    by true s true t = let on = behind slot more root i e in absurd (grind (arith, nat_tests))
    by true s false t = refl
    by false s b t = refl

pub placed_over : (slots : List Slot) (root : Pid) (i : ℕ) (x : Slot) → find_place (stacks_of slots) root ≡ Some i → x.root.0 ≡ root.0 → (other : Pid) → find_place (stacks_of (set slots i x)) other ≡ find_place (stacks_of slots) other
placed_over [] root i x e r other = refl
placed_over (slot ∷ more) root zero x e r other =
    ap (λ n. if n == other.0 then Some 0 else option_map suc (find_place (stacks_of more) other)) (r ∙ sym (eqb-true slot.root.0 root.0 (here slot more root e)))
placed_over (slot ∷ more) root (suc i) x e r other =
    ap (λ o. if slot.root.0 == other.0 then Some 0 else option_map suc o) (placed_over more root i x (behind slot more root i e).1 r other)

pub held_over : (slots : List Slot) (i : ℕ) (x d : Slot) → i < length slots → held (stacks_of (set slots i x)) + length (get_or slots i d).steps ≡ held (stacks_of slots) + length x.steps
held_over [] i x d lt = absurd (omega arith)
held_over (slot ∷ more) zero x d lt = omega arith
held_over (slot ∷ more) (suc i) x d lt = let rest = held_over more i x d (omega arith) in omega (arith, rest)

pub held_at : (slots : List Slot) (i : ℕ) (d : Slot) → i < length slots → length (get_or slots i d).steps ≤ held (stacks_of slots)
held_at [] i d lt = absurd (omega arith)
held_at (slot ∷ more) zero d lt = omega arith
held_at (slot ∷ more) (suc i) d lt = let rest = held_at more i d (omega arith) in omega (arith, rest)

-- a slot without steps comes after the others
pub steps_behind : (slots : List Slot) (slot : Slot) → slot.steps ≡ [] → (other : Pid) → steps_of (stacks_of (slots ++ slot ∷ [])) other ≡ steps_of (stacks_of slots) other
steps_behind [] slot none other = by (slot.root.0 == other.0)
  where
    by : (b : Bool) → (if b then slot.steps else []) ≡ []
    by true = none
    by false = refl
steps_behind (first ∷ more) slot none other = ap (λ s. if first.root.0 == other.0 then first.steps else s) (steps_behind more slot none other)

pub held_behind : (slots : List Slot) (slot : Slot) → slot.steps ≡ [] → held (stacks_of (slots ++ slot ∷ [])) ≡ held (stacks_of slots)
held_behind [] slot none = ap (λ s. length s + 0) none
held_behind (first ∷ more) slot none = ap (λ n. length first.steps + n) (held_behind more slot none)

pub place_behind : (slots : List Slot) (slot : Slot) (other : Pid) → find_place (stacks_of slots) slot.root ≡ None → find_place (stacks_of (slots ++ slot ∷ [])) other ≡ (if slot.root.0 == other.0 then Some (length slots) else find_place (stacks_of slots) other)
place_behind [] slot other none = refl
place_behind (first ∷ more) slot other none =
    let off = none_here first more slot.root none in
    ap (λ o. if first.root.0 == other.0 then Some 0 else option_map suc o) (place_behind more slot other off.1)
    ∙ at off.0 (first.root.0 == other.0) refl (slot.root.0 == other.0) refl
  where
    at : (first.root.0 == slot.root.0) ≡ false → (a : Bool) → (first.root.0 == other.0) ≡ a → (b : Bool) → (slot.root.0 == other.0) ≡ b
        → (if a then Some 0 else option_map suc (if b then Some (length more) else find_place (stacks_of more) other)) ≡ (if b then Some (suc (length more)) else (if a then Some 0 else option_map suc (find_place (stacks_of more) other)))
    at off true p true q = absurd (grind (arith, nat_tests))
    at off true p false q = refl
    at off false p true q = refl
    at off false p false q = refl

pid_ties : (a b : Pid) → is_eq (pid_cmp a b) ≡ (a.0 == b.0)
pid_ties a b = grind (arith, nat_tests)

pub found_behind : (places new : List (Pid × ℕ)) (slots : List Slot) (slot : Slot) → find_place (stacks_of slots) slot.root ≡ None → AreFound places (stacks_of slots)
    → ((other : Pid) → find pid_cmp new other ≡ (if is_eq (pid_cmp slot.root other) then Some (length slots) else find pid_cmp places other))
    → AreFound new (stacks_of (slots ++ slot ∷ []))
found_behind places new slots slot none found set_is other =
    set_is other
    ∙ ap (λ b. if b then Some (length slots) else find pid_cmp places other) (pid_ties slot.root other)
    ∙ ap (λ o. if slot.root.0 == other.0 then Some (length slots) else o) (found other)
    ∙ sym (place_behind slots slot other none)

pub placed_behind : (slots : List Slot) (slot : Slot) → find_place (stacks_of slots) slot.root ≡ None → find_place (stacks_of (slots ++ slot ∷ [])) slot.root ≡ Some (length slots)
placed_behind slots slot none =
    place_behind slots slot slot.root none
    ∙ cond-true (slot.root.0 == slot.root.0) (Some (length slots)) (find_place (stacks_of slots) slot.root) (eq-eqb slot.root.0 slot.root.0 refl)

pub some_length : {X : Type 0} (xs : List X) → xs ≢ [] → 0 < length xs
some_length [] some = absurd (some refl)
some_length (x ∷ xs) some = omega arith

-- the slot of a root with other steps
module _ (slots : List Slot) (root : Pid) (i : ℕ) (slot : Slot) (steps : List Step) (placed : find_place (stacks_of slots) root ≡ Some i) (slot_is : slot ≡ get_or slots i slot) where
  pub over : record {
    before : slot.steps ≡ steps_of (stacks_of slots) root;
    with_it : AreWith (stacks_of slots) root steps (stacks_of (set slots i (record { root = slot.root; steps = steps })));
    found : (other : Pid) → find_place (stacks_of (set slots i (record { root = slot.root; steps = steps }))) other ≡ find_place (stacks_of slots) other;
    total : held (stacks_of (set slots i (record { root = slot.root; steps = steps }))) + length slot.steps ≡ held (stacks_of slots) + length steps;
    most : length slot.steps ≤ held (stacks_of slots);
  }
  over =
      let x : Slot = record { root = slot.root; steps = steps } in
      let lt = bound slots root i placed in
      let same : slot.root.0 ≡ root.0 = ap (λ (s : Slot). s.root.0) slot_is ∙ root_at slots root i slot placed in
      let before : slot.steps ≡ (get_or slots i slot).steps = ap (λ (s : Slot). s.steps) slot_is in
      record {
        before = before ∙ sym (steps_at slots root i slot placed);
        with_it = written slots root i x placed same;
        found = placed_over slots root i x placed same;
        total = ap (λ (l : List Step). held (stacks_of (set slots i x)) + length l) before ∙ held_over slots i x slot lt;
        most = rw before (held_at slots i slot lt);
      }
