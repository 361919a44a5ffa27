-- A wheel stays one when room is made, and when a pid is set or cancelled.
use Rattle.std.proofs.Common.{◌≡◌, ◌≢◌, ℕ, zero, suc, ◌+◌, ◌-◌, ◌%◌, ◌<◌, ◌≤◌, ◌^◌, Bool, true, false, not, ◌==◌, nat_le, List, [], ◌∷◌, ◌++◌, length, map, set, get_or, take, refl, sym, ap, ◌∙◌, subst, inl, inr, ◌⊎◌, arith, append_assoc, length-append, get_or-set_same, get_or-set_other}
use Rattle.std.proofs.lemmas.Bool.{cases_eq}
use Rattle.std.proofs.lemmas.Bool.Decides.{nat_tests}
use Rattle.std.proofs.lemmas.Grind.{common_steps}
use Rattle.std.proofs.lemmas.List.{length-replicate, get_or_append_left}
use Rattle.std.proofs.lemmas.List.Elements.{filter-append}
use Rattle.std.proofs.Math.ListN.{length-set, replicate}
use Rattle.std.specs.Prelude.{filter}
use Rattle.hm_lists.specs.Chains.{IsIn, list_at}
use Rattle.hm_lists.specs.Map.{Map, IsHeld, IsOut, without}
use Rattle.hm_timer.specs.Timers.{View, Timers, Has, put_in, at_due, dues_from, reach, timers, IsWheel}
use Rattle.hm_timer.proofs.Turning.{reach_is, from_dues, dues_same, from_slot, empty_dues, set_is, set_from}

none_at : (n l : ℕ) → list_at (replicate n []) l ≡ []
none_at zero l = refl
none_at (suc n) zero = refl
none_at (suc n) (suc l) = none_at n l

pub new_wheel : (m : Map) (n : ℕ) → n ≡ 512 → m.lists ≡ replicate n [] → IsWheel 0 [] m × (timers 0 m.lists ≡ [])
new_wheel m n is lists =
    let out : (l pid : ℕ) → IsIn pid (list_at m.lists l) → ⊥ = λ l pid here. subst (IsIn pid) (ap (λ ls. list_at ls l) lists ∙ none_at n l) here in (
      record {
        count = ap length lists ∙ length-replicate n [] ∙ is;
        room = omega arith;
        small = omega arith;
        known = λ l pid here. absurd (out l pid here);
        later = λ l pid here. absurd (out l pid here);
        near = λ l pid here. absurd (out l pid here);
        place = λ l pid here. absurd (out l pid here);
      },
      empty_dues reach (0 + 1) m.lists out,
    )

pub with_room : (now : ℕ) (dues : List ℕ) (m m' : Map) → IsWheel now dues m → m'.lists ≡ m.lists → m.spare ≤ m'.spare → IsWheel now dues m'
with_room now dues m m' w is le =
    let was : (l pid : ℕ) → IsIn pid (list_at m'.lists l) → IsIn pid (list_at m.lists l) = λ l pid here. subst (λ ls. IsIn pid (list_at ls l)) is here in record {
      count = ap length is ∙ w.count;
      room = (let r = w.room in omega (arith, r, le));
      small = w.small;
      known = λ l pid here. w.known l pid (was l pid here);
      later = λ l pid here. w.later l pid (was l pid here);
      near = λ l pid here. w.near l pid (was l pid here);
      place = λ l pid here. w.place l pid (was l pid here);
    }

pub with_dues : (now n size : ℕ) (dues dues' : List ℕ) (m : Map) → IsWheel now dues m → size ≡ length dues → size ≤ n → n < 2 ^ 32 → n ≤ m.spare → dues' ≡ take n dues ++ replicate (n - size) 0 → IsWheel now dues' m
with_dues now n size dues dues' m w sized le small room is =
    let all : take n dues ≡ dues = grind (arith, common_steps) in
    let more : dues' ≡ dues ++ replicate (n - size) 0 = is ∙ ap (λ xs. xs ++ replicate (n - size) 0) all in
    let same : (pid : ℕ) → pid < length dues → get_or dues' pid 0 ≡ get_or dues pid 0 = λ pid lt. ap (λ xs. get_or xs pid 0) more ∙ get_or_append_left dues (replicate (n - size) 0) 0 pid lt in
    let long : length dues' ≡ n = ap length more ∙ length-append dues (replicate (n - size) 0) ∙ (let r = length-replicate {A = ℕ} (n - size) 0 in omega (arith, r, sized, le)) in record {
      count = w.count;
      room = omega (arith, long, room);
      small = omega (arith, long, small);
      known = λ l pid here. (let k = w.known l pid here in omega (arith, k, long, sized, le));
      later = λ l pid here. (let k = w.later l pid here in let s = same pid (w.known l pid here) in omega (arith, k, s));
      near = λ l pid here. (let k = w.near l pid here in let s = same pid (w.known l pid here) in omega (arith, k, s));
      place = λ l pid here. ap (λ d. d % 512) (same pid (w.known l pid here)) ∙ w.place l pid here;
    }

-- a pid after those that are due no later
put_past : (pid due : ℕ) (xs ys : Timers) → ((p d : ℕ) → Has xs p d → d ≤ due) → put_in pid due (xs ++ ys) ≡ xs ++ put_in pid due ys
put_past pid due [] ys low = refl
put_past pid due (x ∷ xs) ys low =
    let le = low x.0 x.1 (inl (refl, refl)) in
    let test : nat_le x.1 due ≡ true = grind (arith, nat_tests) in
    rw test (ap (λ zs. x ∷ zs) (put_past pid due xs ys (λ p d h. low p d (inr h))))

put_front : (pid due : ℕ) (ys : Timers) → ((p d : ℕ) → Has ys p d → due < d) → put_in pid due ys ≡ (pid, due) ∷ ys
put_front pid due [] high = refl
put_front pid due (y ∷ ys) high =
    let lt = high y.0 y.1 (inl (refl, refl)) in
    let test : nat_le y.1 due ≡ false = grind (arith, nat_tests) in rw test refl

-- the pids of one due
abbrev slot : ℕ → List ℕ → Timers
slot due xs = map (λ p. (p, due)) xs

slot_push : (due pid : ℕ) (xs : List ℕ) → slot due (xs ++ pid ∷ []) ≡ slot due xs ++ (pid, due) ∷ []
slot_push due pid [] = refl
slot_push due pid (x ∷ xs) = ap (λ ys. (x, due) ∷ ys) (slot_push due pid xs)

put_dues : (count first pid due : ℕ) (lists : List (List ℕ)) → length lists ≡ 512 → first ≤ due → due < first + count → count < 512
    → dues_from count first (set lists (due % 512) (list_at lists (due % 512) ++ pid ∷ [])) ≡ put_in pid due (dues_from count first lists)
put_dues zero first pid due lists len le lt few = absurd (omega arith)
put_dues (suc count) first pid due lists len le lt few =
    elim (cases_eq first due) [
      | inl here ↦ (
          let own : list_at (set lists (due % 512) (list_at lists (due % 512) ++ pid ∷ [])) (due % 512) ≡ list_at lists (due % 512) ++ pid ∷ [] = get_or-set_same lists (due % 512) _ [] (omega (arith, len)) in
          let rest = dues_same count (due + 1) lists (set lists (due % 512) (list_at lists (due % 512) ++ pid ∷ [])) (λ d low high. get_or-set_other lists (due % 512) (d % 512) _ [] (λ e. omega (arith, e, low, high, few))) in
          let behind = put_front pid due (dues_from count (due + 1) lists) (λ p d h. (let from = from_dues count (due + 1) lists p d h in let a = from.0 in omega (arith, a))) in
          let past = put_past pid due (at_due lists due) (dues_from count (due + 1) lists) (λ p d h. (let at = from_slot due (list_at lists (due % 512)) p d h in let e = at.1 in omega (arith, e))) in
          rw here (
          ap (λ xs. slot due xs ++ dues_from count (due + 1) (set lists (due % 512) (list_at lists (due % 512) ++ pid ∷ []))) own
          ∙ ap (λ ys. slot due (list_at lists (due % 512) ++ pid ∷ []) ++ ys) rest
          ∙ ap (λ xs. xs ++ dues_from count (due + 1) lists) (slot_push due pid (list_at lists (due % 512)))
          ∙ append_assoc (at_due lists due) ((pid, due) ∷ []) (dues_from count (due + 1) lists)
          ∙ ap (λ ys. at_due lists due ++ ys) (sym behind)
          ∙ sym past))
      | inr later ↦ (
          let same : list_at (set lists (due % 512) (list_at lists (due % 512) ++ pid ∷ [])) (first % 512) ≡ list_at lists (first % 512) = get_or-set_other lists (due % 512) (first % 512) _ [] (λ e. omega (arith, e, le, lt, few, later)) in
          let rest = put_dues count (first + 1) pid due lists len (omega (arith, le, later)) (omega (arith, lt)) (omega (arith, few)) in
          let past = put_past pid due (at_due lists first) (dues_from count (first + 1) lists) (λ p d h. (let at = from_slot first (list_at lists (first % 512)) p d h in let e = at.1 in omega (arith, e, le))) in
          ap (λ xs. slot first xs ++ dues_from count (first + 1) (set lists (due % 512) (list_at lists (due % 512) ++ pid ∷ []))) same
          ∙ ap (λ ys. at_due lists first ++ ys) rest ∙ sym past)
    ]

pub out_of : (now : ℕ) (dues : List ℕ) (m : Map) → IsWheel now dues m → (pid : ℕ) → ((d : ℕ) → Has (timers now m.lists) pid d → ⊥) → IsOut m.lists pid
out_of now dues m w pid out l is = out (get_or dues pid 0) (set_is now dues m w l pid is)

in_push : (z pid : ℕ) (xs : List ℕ) → IsIn z (xs ++ pid ∷ []) → IsIn z xs ⊎ (z ≡ pid)
in_push z pid [] (inl e) = inr e
in_push z pid [] (inr never) = absurd never
in_push z pid (x ∷ xs) (inl e) = inl (inl e)
in_push z pid (x ∷ xs) (inr r) = elim (in_push z pid xs r) [ inl a ↦ inl (inr a) | inr b ↦ inr b ]

pub with_set : (now pid due : ℕ) (dues dues' : List ℕ) (m m' : Map) → IsWheel now dues m → pid < length dues → IsOut m.lists pid → now < due → due ≤ now + 511
    → m'.lists ≡ set m.lists (due % 512) (list_at m.lists (due % 512) ++ pid ∷ []) → m'.spare ≡ m.spare → dues' ≡ set dues pid due
    → IsWheel now dues' m' × (timers now m'.lists ≡ put_in pid due (timers now m.lists))
with_set now pid due dues dues' m m' w lt out later near is spare put =
    let long : length dues' ≡ length dues = ap length put ∙ length-set dues pid due in
    let own : get_or dues' pid 0 ≡ due = ap (λ xs. get_or xs pid 0) put ∙ get_or-set_same dues pid due 0 lt in
    let other : (p : ℕ) → p ≢ pid → get_or dues' p 0 ≡ get_or dues p 0 = λ p ne. ap (λ xs. get_or xs p 0) put ∙ get_or-set_other dues pid p due 0 ne in
    let was : (l p : ℕ) → IsIn p (list_at m'.lists l) → ((p ≢ pid) × IsIn p (list_at m.lists l)) ⊎ ((p ≡ pid) × (l ≡ due % 512)) = λ l p here. (
    elim (cases_eq l (due % 512)) [
      | inl e ↦ elim (in_push p pid (list_at m.lists (due % 512)) (subst (IsIn p) (ap (λ ls. list_at ls l) is ∙ ap (list_at (set m.lists (due % 512) (list_at m.lists (due % 512) ++ pid ∷ []))) e ∙ get_or-set_same m.lists (due % 512) _ [] (let c = w.count in omega (arith, c))) here)) [
        | inl old ↦ (let old_l = subst (λ k. IsIn p (list_at m.lists k)) (sym e) old in inl ((λ q. out l (subst (λ v. IsIn v (list_at m.lists l)) q old_l)), old_l))
        | inr new ↦ inr (new, e)
      ]
      | inr ne ↦ (let old = subst (IsIn p) (ap (λ ls. list_at ls l) is ∙ get_or-set_other m.lists (due % 512) l _ [] ne) here in inl ((λ q. out l (subst (λ v. IsIn v (list_at m.lists l)) q old)), old))
    ]) in
    let r = reach_is in (
      record {
        count = ap length is ∙ length-set m.lists (due % 512) _ ∙ w.count;
        room = (let k = w.room in omega (arith, k, long, spare));
        small = (let k = w.small in omega (arith, k, long));
        known = λ l p here. (elim (was l p here) [ inl old ↦ (let k = w.known l p old.1 in omega (arith, k, long)) | inr new ↦ (let e = new.0 in omega (arith, e, lt, long)) ]);
        later = λ l p here. (elim (was l p here) [ inl old ↦ (let k = w.later l p old.1 in let s = other p old.0 in omega (arith, k, s)) | inr new ↦ (let e = ap (λ v. get_or dues' v 0) new.0 in omega (arith, e, own, later)) ]);
        near = λ l p here. (elim (was l p here) [ inl old ↦ (let k = w.near l p old.1 in let s = other p old.0 in omega (arith, k, s)) | inr new ↦ (let e = ap (λ v. get_or dues' v 0) new.0 in omega (arith, e, own, near)) ]);
        place = λ l p here. (elim (was l p here) [ inl old ↦ ap (λ d. d % 512) (other p old.0) ∙ w.place l p old.1 | inr new ↦ ap (λ d. d % 512) (ap (λ v. get_or dues' v 0) new.0 ∙ own) ∙ sym new.1 ]);
      },
      ap (timers now) is ∙ put_dues reach (now + 1) pid due m.lists w.count (omega (arith, later)) (omega (arith, near, r)) (omega (arith, r)),
    )

-- without a pid
without_at : (pid : ℕ) (lists : List (List ℕ)) (l : ℕ) → list_at (map (without pid) lists) l ≡ without pid (list_at lists l)
without_at pid [] l = refl
without_at pid (xs ∷ lists) zero = refl
without_at pid (xs ∷ lists) (suc l) = without_at pid lists l

length_map : (f : List ℕ → List ℕ) (lists : List (List ℕ)) → length (map f lists) ≡ length lists
length_map f [] = refl
length_map f (xs ∷ lists) = ap suc (length_map f lists)

abbrev others : ℕ → Timers → Timers
others pid timers = filter (λ timer. not (timer.0 == pid)) timers

slot_without : (due pid : ℕ) (xs : List ℕ) → slot due (without pid xs) ≡ others pid (slot due xs)
slot_without due pid [] = refl
slot_without due pid (x ∷ xs) = by_test (slot_without due pid xs) (not (x == pid)) refl
  where
    by_test : slot due (without pid xs) ≡ others pid (slot due xs) → (b : Bool) → not (x == pid) ≡ b → slot due (without pid (x ∷ xs)) ≡ others pid (slot due (x ∷ xs))
    by_test rest true e = rw e (ap (λ ys. (x, due) ∷ ys) rest)
    by_test rest false e = rw e rest

dues_without : (count first pid : ℕ) (lists : List (List ℕ)) → dues_from count first (map (without pid) lists) ≡ filter (λ timer. not (timer.0 == pid)) (dues_from count first lists)
dues_without zero first pid lists = refl
dues_without (suc count) first pid lists =
    ap (λ xs. slot first xs ++ dues_from count (first + 1) (map (without pid) lists)) (without_at pid lists (first % 512))
    ∙ ap (λ ys. slot first (without pid (list_at lists (first % 512))) ++ ys) (dues_without count (first + 1) pid lists)
    ∙ ap (λ xs. xs ++ others pid (dues_from count (first + 1) lists)) (slot_without first pid (list_at lists (first % 512)))
    ∙ sym (filter-append (λ timer. not (timer.0 == pid)) (at_due lists first) (dues_from count (first + 1) lists))

in_without : (z pid : ℕ) (xs : List ℕ) → IsIn z (without pid xs) → IsIn z xs
in_without z pid [] is = is
in_without z pid (x ∷ xs) is = by_test (in_without z pid xs) (not (x == pid)) refl
  where
    by_test : (IsIn z (without pid xs) → IsIn z xs) → (b : Bool) → not (x == pid) ≡ b → IsIn z (x ∷ xs)
    by_test rest true e =
        let kept : without pid (x ∷ xs) ≡ x ∷ without pid xs = rw e refl in
        elim (subst (IsIn z) kept is) [ inl a ↦ inl a | inr r ↦ inr (rest r) ]
    by_test rest false e = let gone : without pid (x ∷ xs) ≡ without pid xs = rw e refl in inr (rest (subst (IsIn z) gone is))

pub with_cancel : (now pid : ℕ) (dues : List ℕ) (m m' : Map) → IsWheel now dues m → m'.lists ≡ map (without pid) m.lists → m'.spare ≡ m.spare
    → IsWheel now dues m' × (timers now m'.lists ≡ filter (λ timer. not (timer.0 == pid)) (timers now m.lists))
with_cancel now pid dues m m' w is spare =
    let was : (l p : ℕ) → IsIn p (list_at m'.lists l) → IsIn p (list_at m.lists l) = λ l p here. in_without p pid (list_at m.lists l) (subst (IsIn p) (ap (λ ls. list_at ls l) is ∙ without_at pid m.lists l) here) in (
      record {
        count = ap length is ∙ length_map (without pid) m.lists ∙ w.count;
        room = (let k = w.room in omega (arith, k, spare));
        small = w.small;
        known = λ l p here. w.known l p (was l p here);
        later = λ l p here. w.later l p (was l p here);
        near = λ l p here. w.near l p (was l p here);
        place = λ l p here. w.place l p (was l p here);
      },
      ap (timers now) is ∙ dues_without reach (now + 1) pid m.lists,
    )

pub held_of : (now : ℕ) (dues : List ℕ) (m : Map) → IsWheel now dues m → (pid : ℕ) → ((d : ℕ) × Has (timers now m.lists) pid d) → IsHeld m.lists pid × (pid < length dues) × (pid < 2 ^ 32)
held_of now dues m w pid (d, h) =
    let from = set_from now dues m w pid d h in
    let lt = w.known (d % 512) pid from.2 in
    let s = w.small in
    ((d % 512, from.2), lt, omega (arith, lt, s))

pub one_due : (now : ℕ) (dues : List ℕ) (m : Map) → IsWheel now dues m → (p d e : ℕ) → Has (timers now m.lists) p d → Has (timers now m.lists) p e → d ≡ e
one_due now dues m w p d e a b = (set_from now dues m w p d a).3 ∙ sym (set_from now dues m w p e b).3

pub not_set : (now : ℕ) (dues : List ℕ) (m : Map) → IsWheel now dues m → (pid : ℕ) → IsOut m.lists pid → (d : ℕ) → Has (timers now m.lists) pid d → ⊥
not_set now dues m w pid out d h = out (d % 512) (set_from now dues m w pid d h).2

pub unknown : (now : ℕ) (dues : List ℕ) (m : Map) → IsWheel now dues m → (pid : ℕ) → length dues ≤ pid → (d : ℕ) → Has (timers now m.lists) pid d → ⊥
unknown now dues m w pid le d h = let lt = w.known (d % 512) pid (set_from now dues m w pid d h).2 in omega (arith, le, lt)

-- a pid that is set on a wheel that callers see as v has a place there
pub place_known : (v : View) (now : ℕ) (dues : List ℕ) (memory : ℕ) (m : Map) → record { now = now; set = timers now m.lists; spare = length dues; room = memory } ≡ v → IsWheel now dues m
    → (pid due : ℕ) → Has v.set pid due → pid < v.spare
place_known v now dues memory m seen w pid due h =
    let same_spare = ap (λ (x : View). x.spare) seen in
    let held = held_of now dues m w pid (due, subst (λ ts. Has ts pid due) (sym (ap (λ (x : View). x.set) seen)) h) in
    let low = held.1 in
    omega (arith, same_spare, low)

element_at : (xs : List ℕ) (i x : ℕ) → i < length xs → x ≡ get_or xs i x → x ≡ get_or xs i 0
element_at [] i x lt e = absurd (grind (arith, common_steps))
element_at (y ∷ xs) zero x lt e = e
element_at (y ∷ xs) (suc i) x lt e = element_at xs i x (grind (arith, common_steps)) e

pub due_is : (now : ℕ) (dues : List ℕ) (m : Map) → IsWheel now dues m → (l pid due : ℕ) → IsIn pid (list_at m.lists l) → due ≡ get_or dues pid due → Has (timers now m.lists) pid due
due_is now dues m w l pid due is e = subst (Has (timers now m.lists) pid) (sym (element_at dues pid due (w.known l pid is) e)) (set_is now dues m w l pid is)

-- a pid is set on a wheel that callers see as v
pub sets : (v : View) (now pid due : ℕ) (dues : List ℕ) (memory : ℕ) (m m' : Map) → record { now = now; set = timers now m.lists; spare = length dues; room = memory } ≡ v → IsWheel now dues m
    → pid < v.spare → ((d : ℕ) → Has v.set pid d → ⊥) → v.now < due → due ≤ v.now + 511
    → m'.lists ≡ set m.lists (due % 512) (list_at m.lists (due % 512) ++ pid ∷ []) → m'.spare ≡ m.spare
    → IsWheel now (set dues pid due) m' × (timers now m'.lists ≡ put_in pid due v.set)
sets v now pid due dues memory m m' seen w room out later near is spare =
    let same_now = ap (λ (x : View). x.now) seen in
    let same_spare = ap (λ (x : View). x.spare) seen in
    let same_set = ap (λ (x : View). x.set) seen in
    let nowhere = out_of now dues m w pid (λ d h. out d (subst (λ ts. Has ts pid d) same_set h)) in
    let done = with_set now pid due dues (set dues pid due) m m' w (omega (arith, same_spare, room)) nowhere (omega (arith, same_now, later)) (omega (arith, same_now, near)) is spare refl in
    (done.0, done.1 ∙ ap (put_in pid due) same_set)
