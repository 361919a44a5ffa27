-- What the stages of tasks tell of the numbers that are out.
use Rattle.std.proofs.Common.{◌≡◌, ◌≢◌, ◌⊎◌, inl, inr, ⊎_elim, ℕ, zero, suc, ◌+◌, ◌*◌, ◌^◌, ◌<◌, List, [], ◌∷◌, ◌++◌, length, set, Option, Some, None, refl, ap, sym, subst, ◌∙◌, arith}
use Rattle.std.specs.Prelude.{slice_get}
use Rattle.std.proofs.lemmas.Option.{none-some, same_Some, slice_get_within}
use Rattle.hm_data.specs.declared.entry.Entry.{Entry}
use Rattle.hm_gate.specs.Total.{same}
use Rattle.hm_gate.proofs.Totals.{same-cases}
use Rattle.hm_hall.specs.Hall.{ComesBack, GoesOut}
use Rattle.hm_model.specs.Locks.{IsIn}
use Rattle.hm_rows_workers.specs.declared.stage.Stage.{Stage}
use Rattle.hm_rows_workers.specs.declared.stage.Stage.TheVariants as stage_is
use Rattle.hm_rows_workers.specs.Tied.{in_at, out_at}
use Rattle.hm_rows_workers.specs.Tasks.{AllDone, AreSo, CanGo, answers_to, has_done, log_number, of_task, outs_from}

-- a list with one item written anew
pub get_same : {X : Type 0} (l : List X) (i : ℕ) (x y : X) → slice_get l i ≡ Some x → slice_get (set l i y) i ≡ Some y
get_same [] i x y is = absurd (none-some x is)
get_same (z ∷ l) zero x y is = refl
get_same (z ∷ l) (suc i) x y is = get_same l i x y is

-- it has the same length
pub long_still : {X : Type 0} (l : List X) (i : ℕ) (y : X) → length (set l i y) ≡ length l
long_still [] i y = refl
long_still (z ∷ l) zero y = refl
long_still (z ∷ l) (suc i) y = ap suc (long_still l i y)

get_other : {X : Type 0} (l : List X) (i j : ℕ) (y : X) → j ≢ i → slice_get (set l i y) j ≡ slice_get l j
get_other [] i j y apart = refl
get_other (z ∷ l) zero zero y apart = absurd (apart refl)
get_other (z ∷ l) zero (suc j) y apart = refl
get_other (z ∷ l) (suc i) zero y apart = refl
get_other (z ∷ l) (suc i) (suc j) y apart = get_other l i j y (λ e. apart (ap suc e))

alike : (a b : ℕ) → (a ≡ b) ⊎ (a ≢ b)
alike a b = ⊎_elim (λ e. inl e.0) (λ e. inr e.0) (same-cases a b)

get_some : {X : Type 0} (l : List X) (i : ℕ) → i < length l → (x : X) × (slice_get l i ≡ Some x)
get_some [] i lt = absurd (omega arith)
get_some (z ∷ l) zero lt = (z, refl)
get_some (z ∷ l) (suc i) lt = get_some l i (omega arith)

-- the stage of a task that is out
pub was_out : (p : ℕ) (l : List Stage) (durable : ℕ) (lent : Option ℕ) → p < 2 ^ 64 → IsIn p (outs_from 0 l) ⊎ (log_number durable lent ≡ Some p) → slice_get l p ≡ Some stage_is.Out
was_out p l durable lent few (inl is) = let t = in_at 0 p l is in subst (λ (i : ℕ). slice_get l i ≡ Some stage_is.Out) (let e = t.1 in omega arith) t.2
was_out p l durable None few (inr is) = absurd (none-some p is)
was_out p l durable (Some count) few (inr is) = absurd (let c : 2 ^ 64 * (durable + 1) + count ≡ p = same_Some (2 ^ 64 * (durable + 1) + count) p is in omega arith)

-- a task that has another stage isn't out
pub not_out : (p : ℕ) (l : List Stage) (durable : ℕ) (lent : Option ℕ) (x : Stage) → p < 2 ^ 64 → slice_get l p ≡ Some x → (Some x ≡ Some stage_is.Out → ⊥) → IsIn p (outs_from 0 l) ⊎ (log_number durable lent ≡ Some p) → ⊥
not_out p l durable lent x few is other out = other (sym is ∙ was_out p l durable lent few out)

-- a task that waits goes out
pub goes : (p : ℕ) (l : List Stage) → slice_get l p ≡ Some stage_is.Waits → GoesOut p (outs_from 0 l) (outs_from 0 (set l p stage_is.Out))
goes p l is q = (
  λ now. let t = in_at 0 q (set l p stage_is.Out) now in ⊎_elim
      (λ (e : t.0 ≡ p). inl (let a = t.1 in omega arith))
      (λ (e : t.0 ≢ p). inr (out_at 0 t.0 q l t.1 (sym (get_other l p t.0 stage_is.Out e) ∙ t.2)))
      (alike t.0 p),
  λ was. ⊎_elim
      (λ (e : q ≡ p). out_at 0 p q (set l p stage_is.Out) (omega arith) (get_same l p stage_is.Waits stage_is.Out is))
      (λ old. let t = in_at 0 q l old in
      out_at 0 t.0 q (set l p stage_is.Out) t.1 (get_other l p t.0 stage_is.Out (λ e. let w = sym (ap (λ (i : ℕ). slice_get l i) e ∙ is) ∙ t.2 in absurd cc) ∙ t.2))
      was,
)

-- a task that is out comes back
pub comes : (p : ℕ) (l : List Stage) (x : Stage) → (Some x ≡ Some stage_is.Out → ⊥) → slice_get l p ≡ Some stage_is.Out → ComesBack p (outs_from 0 l) (outs_from 0 (set l p x))
comes p l x other is q = (
  λ now. let t = in_at 0 q (set l p x) now in ⊎_elim
      (λ (e : t.0 ≡ p). absurd (other (sym (get_same l p stage_is.Out x is) ∙ ap (λ (i : ℕ). slice_get (set l p x) i) (sym e) ∙ t.2)))
      (λ (e : t.0 ≢ p). (out_at 0 t.0 q l t.1 (sym (get_other l p t.0 x e) ∙ t.2), λ (f : q ≡ p). e (let a = t.1 in omega arith)))
      (alike t.0 p),
  λ was. let t = in_at 0 q l was.0 in out_at 0 t.0 q (set l p x) t.1 (get_other l p t.0 x (λ e. was.1 (let a = t.1 in omega arith)) ∙ t.2),
)

-- no task waits that may go
pub none_can_go : (wanted : ℕ) (l : List Stage) (items : List Entry) → length l ≡ wanted → AreSo l items → ((p : ℕ) → slice_get l p ≢ Some stage_is.Waits) → (p : ℕ) → CanGo wanted items (outs_from 0 l) p → ⊥
none_can_go wanted l items all so none p can = by (get_some l p (let a = can.0 in omega arith))
  where
    by : (x : Stage) × (slice_get l p ≡ Some x) → ⊥
    by (stage_is.Waits, is) = none p is
    by (stage_is.Out, is) = can.1 (out_at 0 p p l (omega arith) is)
    by (stage_is.Done, is) = let s = so p in let h = ap has_done is in let n = can.2 in omega arith

-- a task that waits may go
pub can_go : (wanted p : ℕ) (l : List Stage) (items : List Entry) → length l ≡ wanted → AreSo l items → slice_get l p ≡ Some stage_is.Waits → CanGo wanted items (outs_from 0 l) p
can_go wanted p l items all so is = (
  (let a = slice_get_within l p stage_is.Waits is in omega arith),
  (λ out. let t = in_at 0 p l out in let e : t.0 ≡ p = (let a = t.1 in omega arith) in let w = sym is ∙ ap (λ (i : ℕ). slice_get l i) (sym e) ∙ t.2 in absurd cc),
  so p ∙ ap has_done is,
)

-- where no task waits and none is out, each is recorded
pub all_done : (wanted : ℕ) (l : List Stage) (items : List Entry) → length l ≡ wanted → AreSo l items → ((p : ℕ) → slice_get l p ≢ Some stage_is.Waits) → outs_from 0 l ≡ [] → AllDone wanted items
all_done wanted l items all so none nobody p lt = by (get_some l p (omega arith))
  where
    by : (x : Stage) × (slice_get l p ≡ Some x) → answers_to p items ≡ 1
    by (stage_is.Waits, is) = absurd (none p is)
    by (stage_is.Out, is) = absurd (subst (λ (xs : List ℕ). IsIn p xs) nobody (out_at 0 p p l (omega arith) is))
    by (stage_is.Done, is) = so p ∙ ap has_done is

-- a stage becomes another, and neither is Done
pub so_set : (l : List Stage) (items : List Entry) (p : ℕ) (x y : Stage) → slice_get l p ≡ Some x → has_done (Some x) ≡ 0 → has_done (Some y) ≡ 0 → AreSo l items → AreSo (set l p y) items
so_set l items p x y is old new so = λ q. ⊎_elim
    (λ (e : q ≡ p).
    let a : has_done (slice_get l q) ≡ 0 = ap (λ (i : ℕ). has_done (slice_get l i)) e ∙ ap has_done is ∙ old in
    let b : has_done (slice_get (set l p y) q) ≡ 0 = ap (λ (i : ℕ). has_done (slice_get (set l p y) i)) e ∙ ap has_done (get_same l p x y is) ∙ new in so q ∙ a ∙ sym b)
    (λ (e : q ≢ p). so q ∙ ap has_done (sym (get_other l p q y e)))
    (alike q p)

one_more_entry : (q : ℕ) (items : List Entry) (entry : Entry) → answers_to q (items ++ entry ∷ []) ≡ answers_to q items + of_task q entry
one_more_entry q [] entry = omega arith
one_more_entry q (x ∷ items) entry = let r = one_more_entry q items entry in omega arith

-- the answer of a task is recorded
pub so_gives : (l : List Stage) (items : List Entry) (entry : Entry) (p : ℕ) → slice_get l p ≡ Some stage_is.Out → ((q : ℕ) → of_task q entry ≡ same q p) → AreSo l items → AreSo (set l p stage_is.Done) (items ++ entry ∷ [])
so_gives l items entry p is its so = λ q. ⊎_elim
    (λ (e : (q ≡ p) × (same q p ≡ 1)).
    let a : has_done (slice_get l q) ≡ 0 = ap (λ (i : ℕ). has_done (slice_get l i)) e.0 ∙ ap has_done is in
    let b : has_done (slice_get (set l p stage_is.Done) q) ≡ 1 = ap (λ (i : ℕ). has_done (slice_get (set l p stage_is.Done) i)) e.0 ∙ ap has_done (get_same l p stage_is.Out stage_is.Done is) in
    let n = one_more_entry q items entry in let f = its q in let s = so q in let o = e.1 in omega arith)
    (λ (e : (q ≢ p) × (same q p ≡ 0)).
    let b : has_done (slice_get (set l p stage_is.Done) q) ≡ has_done (slice_get l q) = ap has_done (get_other l p q stage_is.Done e.0) in
    let n = one_more_entry q items entry in let f = its q in let s = so q in let o = e.1 in omega arith)
    (same-cases q p)

-- each task waits
abbrev pub AllWait : List Stage → Type 0
AllWait [] = Unit {0}
AllWait (x ∷ l) = (x ≡ stage_is.Waits) × AllWait l

pub one_more : (l : List Stage) → AllWait l → AllWait (l ++ stage_is.Waits ∷ [])
one_more [] all = (refl, tt)
one_more (x ∷ l) all = (all.0, one_more l all.1)

pub none_out : (k : ℕ) (l : List Stage) → AllWait l → outs_from k l ≡ []
none_out k [] all = refl
none_out k (stage_is.Waits ∷ l) all = none_out (suc k) l all.1
none_out k (stage_is.Out ∷ l) all = let e = all.0 in absurd cc
none_out k (stage_is.Done ∷ l) all = let e = all.0 in absurd cc

pub so_begins : (l : List Stage) → AllWait l → AreSo l []
so_begins [] all p = refl
so_begins (x ∷ l) all zero = ap (λ (s : Stage). has_done (Some s)) (sym all.0)
so_begins (x ∷ l) all (suc p) = so_begins l all.1 p

-- where no stage says so, none is out
pub nobody : (k : ℕ) (l : List Stage) → ((p : ℕ) → slice_get l p ≢ Some stage_is.Out) → outs_from k l ≡ []
nobody k [] none = refl
nobody k (stage_is.Out ∷ l) none = absurd (none zero refl)
nobody k (stage_is.Waits ∷ l) none = nobody (suc k) l (λ p. none (suc p))
nobody k (stage_is.Done ∷ l) none = nobody (suc k) l (λ p. none (suc p))

pub somebody : (p : ℕ) (l : List Stage) → slice_get l p ≡ Some stage_is.Out → outs_from 0 l ≢ []
somebody p l is e = subst (λ (xs : List ℕ). IsIn p xs) e (out_at 0 p p l (omega arith) is)
