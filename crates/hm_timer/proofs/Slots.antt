-- Emptying one list.
use Rattle.std.proofs.Common.{◌≡◌, ℕ, zero, suc, ◌+◌, ◌<◌, ◌≤◌, List, [], ◌∷◌, ◌++◌, length, map, set, drop, Some, None, refl, sym, ap, ◌∙◌, arith, append_assoc, append-nil, get_or-set_same}
use Rattle.std.proofs.lemmas.Grind.{common_steps}
use Rattle.std.proofs.Math.ListN.{length-set}
use Rattle.std.specs.Prelude.{slice_get}
use Rattle.hm_lists.specs.Chains.{list_at}
use Rattle.hm_names.specs.declared.pid.Pid.{Pid}

abbrev pub to_pid : ℕ → Pid
to_pid node = record { 0 = node }

pub set_twice : (lists : List (List ℕ)) (l : ℕ) (xs ys : List ℕ) → set (set lists l xs) l ys ≡ set lists l ys
set_twice [] l xs ys = refl
set_twice (zs ∷ lists) zero xs ys = refl
set_twice (zs ∷ lists) (suc l) xs ys = ap (λ ls. zs ∷ ls) (set_twice lists l xs ys)

pub set_self : (lists : List (List ℕ)) (l : ℕ) → set lists l (list_at lists l) ≡ lists
set_self [] l = refl
set_self (xs ∷ lists) zero = refl
set_self (xs ∷ lists) (suc l) = ap (λ ls. xs ∷ ls) (set_self lists l)

-- how far the emptying of a list has come
pub record Wakes (l : ℕ) (lists0 : List (List ℕ)) (spare0 : ℕ) (woken0 : List Pid) (len0 cap0 steps0 : ℕ) (lists : List (List ℕ)) (spare : ℕ) (woken : List Pid) (len cap steps : ℕ) : Type 0 where
  pub there : l < length lists
  pub lists_are : lists ≡ set lists0 l (list_at lists l)
  pub spare_is : spare ≡ spare0
  pub woken_are : woken ++ map to_pid (list_at lists l) ≡ woken0 ++ map to_pid (list_at lists0 l)
  pub len_is : len + length (list_at lists l) ≡ len0 + length (list_at lists0 l)
  pub cap_is : cap ≡ cap0
  pub room : len + length (list_at lists l) ≤ cap
  pub steps_are : steps + length (list_at lists l) ≡ steps0 + length (list_at lists0 l)

pub wakes_first : (l : ℕ) (lists : List (List ℕ)) (spare : ℕ) (woken : List Pid) (len cap steps : ℕ) → l < length lists → len + length (list_at lists l) ≤ cap
    → Wakes l lists spare woken len cap steps lists spare woken len cap steps
wakes_first l lists spare woken len cap steps lt room = record {
  there = lt;
  lists_are = sym (set_self lists l);
  spare_is = refl;
  woken_are = refl;
  len_is = refl;
  cap_is = refl;
  room = room;
  steps_are = refl;
}

first_drop : (xs : List ℕ) (x : ℕ) → Some x ≡ slice_get xs 0 → xs ≡ x ∷ drop 1 xs
first_drop [] x e = absurd (cc)
first_drop (y ∷ xs) x e = let same : x ≡ y = cc in ap (λ z. z ∷ xs) (sym same)

none_first : (xs : List ℕ) → None ≡ slice_get xs 0 → xs ≡ []
none_first [] e = refl
none_first (x ∷ xs) e = absurd (cc)

module _ (l : ℕ) (lists0 : List (List ℕ)) (spare0 : ℕ) (woken0 : List Pid) (len0 cap0 steps0 : ℕ) (lists : List (List ℕ)) (spare : ℕ) (woken : List Pid) (len cap steps : ℕ)
    (at : Wakes l lists0 spare0 woken0 len0 cap0 steps0 lists spare woken len cap steps) where
  -- one more
  pub wakes_more : (x : ℕ) (lists' : List (List ℕ)) (spare' : ℕ) (woken' : List Pid) (len' cap' steps' : ℕ)
      → Some x ≡ slice_get (list_at lists l) 0 → lists' ≡ set lists l (drop 1 (list_at lists l)) → spare' ≡ spare → woken' ≡ woken ++ to_pid x ∷ [] → len' ≡ len + 1 → cap' ≡ cap → steps' ≡ steps + 1
      → Wakes l lists0 spare0 woken0 len0 cap0 steps0 lists' spare' woken' len' cap' steps' × (length (list_at lists' l) < length (list_at lists l))
  wakes_more x lists' spare' woken' len' cap' steps' first is same put longer wider ticked =
      let cut = first_drop (list_at lists l) x first in
      let rest : list_at lists' l ≡ drop 1 (list_at lists l) = ap (λ ls. list_at ls l) is ∙ get_or-set_same lists l (drop 1 (list_at lists l)) [] at.there in
      let one : length (list_at lists l) ≡ length (list_at lists' l) + 1 = ap length cut ∙ (let e = ap length rest in grind (arith, common_steps, e)) in
      let a = at.len_is in
      let b = at.room in
      let c = at.steps_are in
      let d = at.cap_is in (
        record {
          there = (let e = ap length is ∙ length-set lists l (drop 1 (list_at lists l)) in let t = at.there in omega (arith, e, t));
          lists_are = is ∙ ap (λ ls. set ls l (drop 1 (list_at lists l))) at.lists_are ∙ set_twice lists0 l (list_at lists l) (drop 1 (list_at lists l)) ∙ ap (set lists0 l) (sym rest);
          spare_is = same ∙ at.spare_is;
          woken_are = ap (λ ys. ys ++ map to_pid (list_at lists' l)) put ∙ append_assoc woken (to_pid x ∷ []) (map to_pid (list_at lists' l))
              ∙ ap (λ ys. woken ++ to_pid x ∷ map to_pid ys) rest ∙ sym (ap (λ ys. woken ++ map to_pid ys) cut) ∙ at.woken_are;
          len_is = omega (arith, a, one, longer);
          cap_is = omega (arith, d, wider);
          room = omega (arith, b, one, longer, wider);
          steps_are = omega (arith, c, one, ticked);
        },
        omega (arith, one),
      )

  -- at the end
  pub wakes_end : (lists' : List (List ℕ)) (spare' steps' : ℕ) → None ≡ slice_get (list_at lists l) 0 → lists' ≡ set lists l (drop 1 (list_at lists l)) → spare' ≡ spare → steps' ≡ steps + 1
      → (lists' ≡ set lists0 l []) × (spare' ≡ spare0) × (woken ≡ woken0 ++ map to_pid (list_at lists0 l)) × (len ≡ len0 + length (list_at lists0 l)) × (cap ≡ cap0) × (steps' ≡ steps0 + length (list_at lists0 l) + 1)
  wakes_end lists' spare' steps' none is same ticked =
      let empty = none_first (list_at lists l) none in
      let no = ap length empty in
      let a = at.len_is in
      let c = at.steps_are in (
        is ∙ ap (λ ls. set ls l (drop 1 (list_at lists l))) at.lists_are ∙ set_twice lists0 l (list_at lists l) (drop 1 (list_at lists l)) ∙ ap (λ xs. set lists0 l (drop 1 xs)) empty,
        same ∙ at.spare_is,
        sym (append-nil woken) ∙ ap (λ xs. woken ++ map to_pid xs) (sym empty) ∙ at.woken_are,
        omega (arith, a, no),
        at.cap_is,
        omega (arith, c, no, ticked),
      )
