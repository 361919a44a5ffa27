-- Timers of a wheel: what a tick, a setting and a cancelling do to them. No arrays but the dues here.
use Rattle.std.proofs.Common.{◌≡◌, ◌≢◌, ℕ, zero, suc, ◌+◌, ◌%◌, ◌<◌, ◌≤◌, true, false, nat_le, List, [], ◌∷◌, ◌++◌, length, map, set, get_or, refl, sym, ap, ◌∙◌, subst, inl, inr, ◌⊎◌, arith, append_assoc, append-nil, get_or-set_same, get_or-set_other}
use Rattle.std.proofs.lemmas.Bool.{cases_eq}
use Rattle.std.proofs.lemmas.Bool.Decides.{nat_tests}
use Rattle.std.proofs.lemmas.Grind.{common_steps}
use Rattle.std.proofs.Math.ListN.{length-set}
use Rattle.std.proofs.lemmas.List.Elements.{filter-append}
use Rattle.hm_lists.specs.Chains.{IsIn, list_at}
use Rattle.hm_lists.specs.Map.{Map}
use Rattle.hm_names.specs.declared.pid.Pid.{Pid}
use Rattle.hm_timer.specs.Timers.{Timers, Has, due_by, due_after, pid_of, at_due, dues_from, reach, timers, IsWheel}

pub reach_is : reach ≡ 511
unfolding reach
reach_is = refl

-- membership
pub has_left : (xs ys : Timers) (pid due : ℕ) → Has xs pid due → Has (xs ++ ys) pid due
has_left [] ys pid due h = absurd h
has_left (x ∷ xs) ys pid due (inl e) = inl e
has_left (x ∷ xs) ys pid due (inr r) = inr (has_left xs ys pid due r)

pub has_right : (xs ys : Timers) (pid due : ℕ) → Has ys pid due → Has (xs ++ ys) pid due
has_right [] ys pid due h = h
has_right (x ∷ xs) ys pid due h = inr (has_right xs ys pid due h)

pub has_parts : (xs ys : Timers) (pid due : ℕ) → Has (xs ++ ys) pid due → Has xs pid due ⊎ Has ys pid due
has_parts [] ys pid due h = inr h
has_parts (x ∷ xs) ys pid due (inl e) = inl (inl e)
has_parts (x ∷ xs) ys pid due (inr r) = elim (has_parts xs ys pid due r) [ inl a ↦ inl (inr a) | inr b ↦ inr b ]

has_slot : (due : ℕ) (xs : List ℕ) (pid : ℕ) → IsIn pid xs → Has (map (λ p. (p, due)) xs) pid due
has_slot due [] pid is = absurd is
has_slot due (x ∷ xs) pid (inl e) = inl (e, refl)
has_slot due (x ∷ xs) pid (inr r) = inr (has_slot due xs pid r)

pub from_slot : (due : ℕ) (xs : List ℕ) (pid d : ℕ) → Has (map (λ p. (p, due)) xs) pid d → IsIn pid xs × (d ≡ due)
from_slot due [] pid d h = absurd h
from_slot due (x ∷ xs) pid d (inl e) = (inl e.0, e.1)
from_slot due (x ∷ xs) pid d (inr r) = let rest = from_slot due xs pid d r in (inr rest.0, rest.1)

pub in_dues : (count first : ℕ) (lists : List (List ℕ)) (pid due : ℕ) → IsIn pid (list_at lists (due % 512)) → first ≤ due → due < first + count → Has (dues_from count first lists) pid due
in_dues zero first lists pid due is le lt = absurd (omega arith)
in_dues (suc count) first lists pid due is le lt = elim (cases_eq due first) [
  | inl e ↦ has_left (at_due lists first) _ pid due (subst (λ d. Has (at_due lists d) pid due) e (has_slot due (list_at lists (due % 512)) pid is))
  | inr ne ↦ has_right (at_due lists first) _ pid due (in_dues count (first + 1) lists pid due is (omega arith) (omega arith))
]

pub from_dues : (count first : ℕ) (lists : List (List ℕ)) (pid due : ℕ) → Has (dues_from count first lists) pid due → (first ≤ due) × (due < first + count) × IsIn pid (list_at lists (due % 512))
from_dues zero first lists pid due h = absurd h
from_dues (suc count) first lists pid due h = elim (has_parts (at_due lists first) _ pid due h) [
  | inl here ↦ (let at = from_slot first (list_at lists (first % 512)) pid due here in let e = at.1 in (omega (arith, e), omega (arith, e), subst (λ d. IsIn pid (list_at lists (d % 512))) (sym e) at.0))
  | inr later ↦ (let rest = from_dues count (first + 1) lists pid due later in let a = rest.0 in let b = rest.1 in (omega (arith, a), omega (arith, b), rest.2))
]

-- lists that are the same where it matters
pub dues_same : (count first : ℕ) (lists lists' : List (List ℕ)) → ((due : ℕ) → first ≤ due → due < first + count → list_at lists' (due % 512) ≡ list_at lists (due % 512)) → dues_from count first lists' ≡ dues_from count first lists
dues_same zero first lists lists' same = refl
dues_same (suc count) first lists lists' same =
    let here = same first (omega arith) (omega arith) in
    let rest = dues_same count (first + 1) lists lists' (λ due le lt. same due (omega arith) (omega arith)) in
    ap (λ xs. map (λ p. (p, first)) xs ++ dues_from count (first + 1) lists') here ∙ ap (λ ys. at_due lists first ++ ys) rest

dues_last : (count first : ℕ) (lists : List (List ℕ)) → dues_from (suc count) first lists ≡ dues_from count first lists ++ at_due lists (first + count)
dues_last zero first lists = append-nil (at_due lists first) ∙ ap (at_due lists) (let e : first ≡ first + 0 = omega arith in e)
dues_last (suc count) first lists =
    ap (λ ys. at_due lists first ++ ys) (dues_last count (first + 1) lists ∙ ap (λ d. dues_from count (first + 1) lists ++ at_due lists d) (let e : first + 1 + count ≡ first + suc count = omega arith in e))
    ∙ sym (append_assoc (at_due lists first) (dues_from count (first + 1) lists) (at_due lists (first + suc count)))

-- one tick
tick_by : (count now : ℕ) (lists : List (List ℕ)) → count ≡ 511 → length lists ≡ 512 → list_at lists (now % 512) ≡ []
    → dues_from count (now + 1) lists ≡ at_due lists (now + 1) ++ dues_from count (now + 1 + 1) (set lists ((now + 1) % 512) [])
tick_by zero now lists is len empty = absurd (omega (arith, is))
tick_by (suc count) now lists is len empty =
    let slot : ℕ = (now + 1) % 512 in
    let others : (due : ℕ) → now + 1 + 1 ≤ due → due < now + 1 + 1 + count → list_at (set lists slot []) (due % 512) ≡ list_at lists (due % 512) =
    λ due le lt. get_or-set_other lists slot (due % 512) [] [] (λ e. omega (arith, is, le, lt, e)) in
    let end : list_at (set lists slot []) ((now + 1 + 1 + count) % 512) ≡ [] =
    (let same : (now + 1 + 1 + count) % 512 ≡ now % 512 = omega (arith, is) in
    let ne : now % 512 ≢ (now + 1) % 512 = λ e. omega (arith, e) in
    ap (list_at (set lists slot [])) same ∙ get_or-set_other lists slot (now % 512) [] [] ne ∙ empty) in
    ap (λ ys. at_due lists (now + 1) ++ ys) (sym (dues_last count (now + 1 + 1) (set lists slot []) ∙ ap (λ xs. dues_from count (now + 1 + 1) (set lists slot []) ++ map (λ p. (p, now + 1 + 1 + count)) xs) end ∙ append-nil (dues_from count (now + 1 + 1) (set lists slot [])) ∙ dues_same count (now + 1 + 1) lists (set lists slot []) others))

pub tick : (now : ℕ) (lists : List (List ℕ)) → length lists ≡ 512 → list_at lists (now % 512) ≡ []
    → timers now lists ≡ at_due lists (now + 1) ++ timers (now + 1) (set lists ((now + 1) % 512) [])
tick now lists len empty = tick_by reach now lists reach_is len empty

pub no_member : (xs : List ℕ) → ((x : ℕ) → IsIn x xs → ⊥) → xs ≡ []
no_member [] none = refl
no_member (x ∷ xs) none = absurd (none x (inl refl))

-- nothing is set to the present tick
pub here_empty : (now : ℕ) (dues : List ℕ) (m : Map) → IsWheel now dues m → list_at m.lists (now % 512) ≡ []
here_empty now dues m w = no_member (list_at m.lists (now % 512)) (λ pid is. (
    let a = w.later (now % 512) pid is in
    let b = w.near (now % 512) pid is in
    let c = w.place (now % 512) pid is in
    omega (arith, a, b, c)))

in_range : (lists : List (List ℕ)) (l x : ℕ) → IsIn x (list_at lists l) → l < length lists
in_range [] l x is = absurd is
in_range (xs ∷ lists) zero x is = grind (arith, common_steps)
in_range (xs ∷ lists) (suc l) x is = let rest = in_range lists l x is in grind (arith, common_steps)

-- what a pid is set to is its due
pub set_is : (now : ℕ) (dues : List ℕ) (m : Map) → IsWheel now dues m → (l pid : ℕ) → IsIn pid (list_at m.lists l) → Has (timers now m.lists) pid (get_or dues pid 0)
set_is now dues m w l pid is =
    let a = w.later l pid is in
    let b = w.near l pid is in
    let c = w.place l pid is in
    let r = reach_is in
    in_dues reach (now + 1) m.lists pid (get_or dues pid 0) (subst (λ k. IsIn pid (list_at m.lists k)) (sym c) is) (omega (arith, a)) (omega (arith, b, r))

pub set_from : (now : ℕ) (dues : List ℕ) (m : Map) → IsWheel now dues m → (pid due : ℕ) → Has (timers now m.lists) pid due → (now < due) × (due ≤ now + 511) × IsIn pid (list_at m.lists (due % 512)) × (due ≡ get_or dues pid 0)
set_from now dues m w pid due h =
    let from = from_dues reach (now + 1) m.lists pid due h in
    let a = w.later (due % 512) pid from.2 in
    let b = w.near (due % 512) pid from.2 in
    let c = w.place (due % 512) pid from.2 in
    let r = reach_is in
    let x = from.0 in
    let y = from.1 in
    (omega (arith, x), omega (arith, y, r), from.2, omega (arith, a, b, c, x, y, r))

-- a wheel after a tick
pub ticked : (now : ℕ) (dues : List ℕ) (m m' : Map) → IsWheel now dues m → m'.lists ≡ set m.lists ((now + 1) % 512) [] → m'.spare ≡ m.spare → IsWheel (now + 1) dues m'
ticked now dues m m' w is same = record {
  count = ap length is ∙ length-set m.lists ((now + 1) % 512) [] ∙ w.count;
  room = (let r = w.room in omega (arith, r, same));
  small = w.small;
  known = λ l pid here. w.known l pid (was l pid here).1;
  later = λ l pid here. (
      let old = was l pid here in
      let a = w.later l pid old.1 in
      let b = w.near l pid old.1 in
      let c = w.place l pid old.1 in
      let ne = old.0 in
      after (get_or dues pid 0) l a b c ne);
  near = λ l pid here. (let b = w.near l pid (was l pid here).1 in omega (arith, b));
  place = λ l pid here. w.place l pid (was l pid here).1;
}
  where
    was : (l pid : ℕ) → IsIn pid (list_at m'.lists l) → (l ≢ (now + 1) % 512) × IsIn pid (list_at m.lists l)
    was l pid here = elim (cases_eq l ((now + 1) % 512)) [
      | inl e ↦ absurd (subst (IsIn pid) (ap (λ ls. list_at ls l) is ∙ ap (list_at (set m.lists ((now + 1) % 512) [])) e ∙ get_or-set_same m.lists ((now + 1) % 512) [] [] (let c = w.count in omega (arith, c))) here)
      | inr ne ↦ (ne, subst (IsIn pid) (ap (λ ls. list_at ls l) is ∙ get_or-set_other m.lists ((now + 1) % 512) l [] [] ne) here)
    ]

    after : (due l : ℕ) → now < due → due ≤ now + 511 → due % 512 ≡ l → l ≢ (now + 1) % 512 → now + 1 < due
    after due l a b c ne = elim (cases_eq due (now + 1)) [
      | inl e ↦ absurd (ne (sym c ∙ ap (λ d. d % 512) e))
      | inr differs ↦ omega (arith, a, differs)
    ]

-- a wheel where nothing is set may go on to any tick
empty_lists : (now : ℕ) (dues : List ℕ) (m : Map) → IsWheel now dues m → timers now m.lists ≡ [] → (l pid : ℕ) → IsIn pid (list_at m.lists l) → ⊥
empty_lists now dues m w none l pid is = subst (λ ts. Has ts pid (get_or dues pid 0)) none (set_is now dues m w l pid is)

pub empty_dues : (count first : ℕ) (lists : List (List ℕ)) → ((l pid : ℕ) → IsIn pid (list_at lists l) → ⊥) → dues_from count first lists ≡ []
empty_dues zero first lists none = refl
empty_dues (suc count) first lists none =
    ap (λ xs. map (λ p. (p, first)) xs ++ dues_from count (first + 1) lists) (no_member (list_at lists (first % 512)) (none (first % 512))) ∙ empty_dues count (first + 1) lists none

pub jump : (now to : ℕ) (dues : List ℕ) (m : Map) → IsWheel now dues m → timers now m.lists ≡ [] → IsWheel to dues m × (timers to m.lists ≡ [])
jump now to dues m w none =
    let out = empty_lists now dues m w none in (
      record {
        count = w.count;
        room = w.room;
        small = w.small;
        known = λ l pid is. absurd (out l pid is);
        later = λ l pid is. absurd (out l pid is);
        near = λ l pid is. absurd (out l pid is);
        place = λ l pid is. absurd (out l pid is);
      },
      empty_dues reach (to + 1) m.lists out,
    )

-- how far an advance has come: some of the timers are gone, all of them due by now
pub record Turns (now0 : ℕ) (set0 : Timers) (woken0 : List Pid) (now : ℕ) (lists : List (List ℕ)) (woken : List Pid) : Type 0 where
  pub gone : Timers
  pub split : set0 ≡ gone ++ timers now lists
  pub woken_are : woken ≡ woken0 ++ map pid_of gone
  pub past : (pid due : ℕ) → Has gone pid due → due ≤ now

slot_pids : (due : ℕ) (xs : List ℕ) → map pid_of (map (λ p. (p, due)) xs) ≡ map (λ node. record { 0 = node }) xs
slot_pids due [] = refl
slot_pids due (x ∷ xs) = ap (λ ys. record { 0 = x } ∷ ys) (slot_pids due xs)

map_append : (xs ys : Timers) → map pid_of (xs ++ ys) ≡ map pid_of xs ++ map pid_of ys
map_append [] ys = refl
map_append (x ∷ xs) ys = ap (λ zs. pid_of x ∷ zs) (map_append xs ys)

pub turned : (now0 : ℕ) (set0 : Timers) (woken0 : List Pid) (now : ℕ) (dues : List ℕ) (m : Map) (lists' : List (List ℕ)) (woken woken' : List Pid) → IsWheel now dues m → Turns now0 set0 woken0 now m.lists woken
    → lists' ≡ set m.lists ((now + 1) % 512) [] → woken' ≡ woken ++ map (λ node. record { 0 = node }) (list_at m.lists ((now + 1) % 512)) → Turns now0 set0 woken0 (now + 1) lists' woken'
turned now0 set0 woken0 now dues m lists' woken woken' w t is put = record {
  gone = t.gone ++ at_due m.lists (now + 1);
  split = t.split ∙ ap (λ ys. t.gone ++ ys) (tick now m.lists w.count (here_empty now dues m w) ∙ ap (λ ls. at_due m.lists (now + 1) ++ timers (now + 1) ls) (sym is))
      ∙ sym (append_assoc t.gone (at_due m.lists (now + 1)) (timers (now + 1) lists'));
  woken_are = put ∙ ap (λ ys. ys ++ map (λ node. record { 0 = node }) (list_at m.lists ((now + 1) % 512))) t.woken_are
      ∙ append_assoc woken0 (map pid_of t.gone) _ ∙ ap (λ ys. woken0 ++ ys) (ap (λ zs. map pid_of t.gone ++ zs) (sym (slot_pids (now + 1) (list_at m.lists ((now + 1) % 512)))) ∙ sym (map_append t.gone (at_due m.lists (now + 1))));
  past = λ pid due h. (elim (has_parts t.gone (at_due m.lists (now + 1)) pid due h) [
    | inl old ↦ (let le = t.past pid due old in omega (arith, le))
    | inr new ↦ (let at = from_slot (now + 1) (list_at m.lists ((now + 1) % 512)) pid due new in let e = at.1 in omega (arith, e))
  ]);
}

-- which are due
all_due : (to : ℕ) (xs : Timers) → ((pid due : ℕ) → Has xs pid due → due ≤ to) → (due_by to xs ≡ xs) × (due_after to xs ≡ [])
all_due to [] h = (refl, refl)
all_due to (x ∷ xs) h =
    let le = h x.0 x.1 (inl (refl, refl)) in
    let test : nat_le x.1 to ≡ true = grind (arith, nat_tests) in
    let rest = all_due to xs (λ pid due r. h pid due (inr r)) in
    (rw test (ap (λ ys. x ∷ ys) rest.0), rw test (rest.1))

none_due : (to : ℕ) (xs : Timers) → ((pid due : ℕ) → Has xs pid due → to < due) → (due_by to xs ≡ []) × (due_after to xs ≡ xs)
none_due to [] h = (refl, refl)
none_due to (x ∷ xs) h =
    let lt = h x.0 x.1 (inl (refl, refl)) in
    let test : nat_le x.1 to ≡ false = grind (arith, nat_tests) in
    let rest = none_due to xs (λ pid due r. h pid due (inr r)) in
    (rw test (rest.0), rw test (ap (λ ys. x ∷ ys) rest.1))

due_append : (to : ℕ) (xs ys : Timers) → (due_by to (xs ++ ys) ≡ due_by to xs ++ due_by to ys) × (due_after to (xs ++ ys) ≡ due_after to xs ++ due_after to ys)
due_append to xs ys = (filter-append _ xs ys, filter-append _ xs ys)

-- an advance, done
pub advanced : (now0 to : ℕ) (set0 : Timers) (woken0 : List Pid) (now : ℕ) (lists : List (List ℕ)) (woken : List Pid) → Turns now0 set0 woken0 now lists woken → now ≤ to → ((pid due : ℕ) → Has (timers now lists) pid due → to < due)
    → (woken ≡ woken0 ++ map pid_of (due_by to set0)) × (timers now lists ≡ due_after to set0)
advanced now0 to set0 woken0 now lists woken t le rest =
    let old = all_due to t.gone (λ pid due h. (let p = t.past pid due h in omega (arith, p, le))) in
    let new = none_due to (timers now lists) rest in
    let both = due_append to t.gone (timers now lists) in
    let by : due_by to set0 ≡ t.gone = ap (due_by to) t.split ∙ both.0 ∙ ap (λ xs. xs ++ due_by to (timers now lists)) old.0 ∙ ap (λ ys. t.gone ++ ys) new.0 ∙ append-nil t.gone in
    let after : due_after to set0 ≡ timers now lists = ap (due_after to) t.split ∙ both.1 ∙ ap (λ xs. xs ++ due_after to (timers now lists)) old.1 ∙ new.1 in
    (t.woken_are ∙ ap (λ xs. woken0 ++ map pid_of xs) (sym by), sym after)
