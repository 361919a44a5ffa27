-- A look for the next procedure, on its way over the ready.
use Rattle.std.proofs.Common.{◌≡◌, ℕ, ◌+◌, ◌*◌, ◌≤◌, Bool, true, false, List, [], ◌∷◌, ◌++◌, length, cond, ◌==◌, Option, Some, None, refl, sym, ap, ◌∙◌, subst, inl, inr, arith, append_assoc}
use Rattle.std.specs.Prelude.{option_to_list}
use Rattle.std.specs.Option.{option_map}
use Rattle.std.proofs.lemmas.Bool.{cases_eq, cond-false, cond-true, eq-eqb, ne_eqb}
use Rattle.hm_lists.specs.Chains.{IsIn}
use Rattle.hm_locks.specs.Book.{AreChanged, Row, asks_in, holding, row_of}
use Rattle.hm_model.specs.Journal.{Past}
use Rattle.hm_model.specs.declared.lock.Ask.{Ask}
use Rattle.hm_sched.specs.Moves.{AllWait, IsNext, PassesBoth, PassesOne, ask_count, comers, movers}
use Rattle.hm_sched.specs.Queues.{IsWith, StandsIn, is_ready, is_same, members, number}
use Rattle.hm_sched.specs.declared.queue.Queue.{Queue}
use Rattle.hm_sched.specs.declared.queue.Queue.TheVariants.{Held, Servers, Suspended, Tables, Waits}
use Rattle.hm_roster.specs.Looks.{ArePassed, IsStuck, Looks, aside_in, moved_in, pids_in, ready_in}
use Rattle.hm_roster.proofs.Giving.{unready}

-- plain lists
append_none : (xs : List ℕ) → xs ++ [] ≡ xs
append_none [] = refl
append_none (x ∷ xs) = ap (λ l. x ∷ l) (append_none xs)

in_left : (q : ℕ) (xs ys : List ℕ) → IsIn q xs → IsIn q (xs ++ ys)
in_left q [] ys is = absurd is
in_left q (x ∷ xs) ys (inl e) = inl e
in_left q (x ∷ xs) ys (inr r) = inr (in_left q xs ys r)

in_right : (q : ℕ) (xs ys : List ℕ) → IsIn q ys → IsIn q (xs ++ ys)
in_right q [] ys is = is
in_right q (x ∷ xs) ys is = inr (in_right q xs ys is)

in_parts : (P : Type 0) (q : ℕ) (xs ys : List ℕ) → IsIn q (xs ++ ys) → (IsIn q xs → P) → (IsIn q ys → P) → P
in_parts P q [] ys is f g = g is
in_parts P q (x ∷ xs) ys (inl e) f g = f (inl e)
in_parts P q (x ∷ xs) ys (inr r) f g = in_parts P q xs ys r (λ i. f (inr i)) g

movers-append : (moves more : List (ℕ × Queue)) → movers (moves ++ more) ≡ movers moves ++ movers more
movers-append [] more = refl
movers-append (move ∷ moves) more = ap (λ l. move.0 ∷ l) (movers-append moves more)

ask_count-append : (rows : List Row) (xs ys : List ℕ) → ask_count rows (xs ++ ys) ≡ ask_count rows xs + ask_count rows ys
ask_count-append rows [] ys = omega arith
ask_count-append rows (x ∷ xs) ys = let rest = ask_count-append rows xs ys in omega (arith, rest)

-- the asks are counted alike in rows that ask alike
ask_count-same : (one other : List Row) → ((q : ℕ) → asks_in (row_of one q) ≡ asks_in (row_of other q)) → (xs : List ℕ) → ask_count one xs ≡ ask_count other xs
ask_count-same one other same [] = refl
ask_count-same one other same (x ∷ xs) =
    let rest = ask_count-same one other same xs in
    let first = ap (λ (l : List Ask). length l) (same x) in omega (arith, rest, first)

-- who takes its locks or gives them up asks for the same
pub asks_stay : (old new : List Row) (p : ℕ) (b : Bool) → AreChanged old p (option_map (holding b) (row_of old p)) new → (q : ℕ) → asks_in (row_of new q) ≡ asks_in (row_of old q)
asks_stay old new p b changed q = elim (cases_eq p q) [
  | inl same ↦
      ap asks_in (changed q ∙ cond-true (p == q) (option_map (holding b) (row_of old p)) (row_of old q) (eq-eqb p q same))
      ∙ by (row_of old p) ∙ ap (λ (k : ℕ). asks_in (row_of old k)) same
  | inr differs ↦ ap asks_in (changed q ∙ cond-false (p == q) (option_map (holding b) (row_of old p)) (row_of old q) (ne_eqb p q differs))
]
  where
    by : (o : Option Row) → asks_in (option_map (holding b) o) ≡ asks_in o
    by None = refl
    by (Some r) = refl

-- those that wait for locks stand in no other list
servers_off : (h : ℕ) → is_same Servers (Waits h) ≡ false
servers_off h = ne_eqb 0 (h + h + 3) (λ e. omega (arith, e))

tables_off : (h : ℕ) → is_same Tables (Waits h) ≡ false
tables_off h = ne_eqb 1 (h + h + 3) (λ e. omega (arith, e))

pub held_off : (h : ℕ) → is_same Held (Waits h) ≡ false
held_off h = ne_eqb 2 (h + h + 3) (λ e. omega (arith, e))

pub suspended_off : (s h : ℕ) → is_same (Suspended s) (Waits h) ≡ false
suspended_off s h = ne_eqb (s + s + 4) (h + h + 3) (λ e. omega (arith, e))

-- where one joins another list they wait still, and the ready are the same
pub waits_stay : (old new : List (List ℕ)) (queue : Queue) (xs : List ℕ) → ((h : ℕ) → is_same queue (Waits h) ≡ false) → IsWith old queue xs new → (h q : ℕ) → StandsIn old (Waits h) q → StandsIn new (Waits h) q
waits_stay old new queue xs off with h q is =
    subst (IsIn q) (sym (with (Waits h) ∙ cond-false (is_same queue (Waits h)) xs (members old (Waits h)) (off h))) is

pub ready_same : (old new : List (List ℕ)) (queue : Queue) (xs : List ℕ) → is_ready queue ≡ false → IsWith old queue xs new → ready_in new ≡ ready_in old
ready_same old new queue xs off with =
    let apart = unready queue off in
    ap (λ l. l ++ members new Tables) (with Servers ∙ cond-false (is_same queue Servers) xs (members old Servers) apart.0)
    ∙ ap (λ l. members old Servers ++ l) (with Tables ∙ cond-false (is_same queue Tables) xs (members old Tables) apart.1)

-- those that wait come to no ready list
none_come : (rows : List Row) (k : Queue) → ((h : ℕ) → is_same (Waits h) k ≡ false) → (moves : List (ℕ × Queue)) → AllWait rows moves → comers k moves ≡ []
none_come rows k off [] wait = refl
none_come rows k off (move ∷ moves) wait =
    ap (λ b. cond b (move.0 ∷ comers k moves) (comers k moves)) (ap (λ (j : Queue). is_same j k) wait.0.1 ∙ off wait.0.0) ∙ none_come rows k off moves wait.1

more : (b : Bool) (x q : ℕ) (xs : List ℕ) → IsIn q xs → IsIn q (cond b (x ∷ xs) xs)
more true x q xs is = inr is
more false x q xs is = is

-- and each of them comes to the list after a procedure
to_wait : (rows : List Row) (moves : List (ℕ × Queue)) (q : ℕ) → AllWait rows moves → IsIn q (movers moves) → (h : ℕ) × IsIn q (comers (Waits h) moves)
to_wait rows [] q wait is = absurd is
to_wait rows (move ∷ moves) q wait (inl e) = (
  wait.0.0,
  subst (λ b. IsIn q (cond b (move.0 ∷ comers (Waits wait.0.0) moves) (comers (Waits wait.0.0) moves)))
      (sym (ap (λ (k : Queue). is_same k (Waits wait.0.0)) wait.0.1 ∙ eq-eqb (number (Waits wait.0.0)) (number (Waits wait.0.0)) refl)) (inl e),
)
to_wait rows (move ∷ moves) q wait (inr r) =
    let rest = to_wait rows moves q wait.1 r in (rest.0, more (is_same move.1 (Waits rest.0)) move.0 q (comers (Waits rest.0) moves) rest.1)

module _ (rows : List Row) (old new : List (List ℕ)) (queue : Queue) (moves : List (ℕ × Queue)) (given : Option ℕ) (is : PassesOne rows old new queue moves given) where
  stays_one : ((h : ℕ) → is_same queue (Waits h) ≡ false) → (h q : ℕ) → StandsIn old (Waits h) q → StandsIn new (Waits h) q
  stays_one off h q here = subst (IsIn q) (sym (is.moved.others (Waits h) (off h))) (in_left q (members old (Waits h)) (comers (Waits h) moves) here)

  behind_one : ((h : ℕ) → is_same queue (Waits h) ≡ false) → (q : ℕ) → IsIn q (movers moves) → (h : ℕ) × StandsIn new (Waits h) q
  behind_one off q here =
      let to = to_wait rows moves q is.wait here in
      (to.0, subst (IsIn q) (sym (is.moved.others (Waits to.0) (off to.0))) (in_right q (members old (Waits to.0)) (comers (Waits to.0) moves) to.1))

  same_one : (k : Queue) → is_same queue k ≡ false → ((h : ℕ) → is_same (Waits h) k ≡ false) → members new k ≡ members old k
  same_one k other off = is.moved.others k other ∙ ap (λ l. members old k ++ l) (none_come rows k off moves is.wait) ∙ append_none (members old k)

-- the front of the servers' list
first_front : (rows : List Row) (old new : List (List ℕ)) (moves : List (ℕ × Queue)) (given : Option ℕ) → PassesOne rows old new Servers moves given
    → ready_in old ≡ movers moves ++ (option_to_list given ++ ready_in new)
first_front rows old new moves given is =
    let same = same_one rows old new Servers moves given is Tables refl (λ h. (unready (Waits h) refl).1) in
    ap (λ l. l ++ members old Tables) is.moved.front
    ∙ ap (λ l. (movers moves ++ (option_to_list given ++ members new Servers)) ++ l) (sym same)
    ∙ append_assoc (movers moves) (option_to_list given ++ members new Servers) (members new Tables)
    ∙ ap (λ l. movers moves ++ l) (append_assoc (option_to_list given) (members new Servers) (members new Tables))

-- all of it, and the front of the tables'
both_front : (rows : List Row) (old new : List (List ℕ)) (moves : List (ℕ × Queue)) (given : Option ℕ) → PassesBoth rows old new moves given
    → ready_in old ≡ movers moves ++ (option_to_list given ++ ready_in new)
both_front rows old new moves given is =
    let same = same_one rows old is.between Servers is.servers None is.first Tables refl (λ h. (unready (Waits h) refl).1) in
    let none = same_one rows is.between new Tables is.tables given is.second Servers refl (λ h. (unready (Waits h) refl).0) ∙ is.first.rest in
    let rest = option_to_list given ++ members new Tables in
    ap (λ l. l ++ members old Tables) (is.first.moved.front ∙ ap (λ l. movers is.servers ++ l) is.first.rest ∙ append_none (movers is.servers))
    ∙ ap (λ l. movers is.servers ++ l) (sym same ∙ is.second.moved.front)
    ∙ sym (append_assoc (movers is.servers) (movers is.tables) rest)
    ∙ ap (λ l. l ++ rest) (sym (movers-append is.servers is.tables) ∙ ap movers (sym is.parts))
    ∙ ap (λ l. movers moves ++ (option_to_list given ++ (l ++ members new Tables))) (sym none)

module _ (rows : List Row) (old new : List (List ℕ)) (given : Option ℕ) (before after : ℕ) (is : IsNext rows old new given before after) where
  next_front : ready_in old ≡ movers is.moves ++ (option_to_list given ++ ready_in new)
  next_front = elim is.passes [
    | inl one ↦ first_front rows old new is.moves given one.0
    | inr both ↦ both_front rows old new is.moves given both
  ]

  next_stays : (h q : ℕ) → StandsIn old (Waits h) q → StandsIn new (Waits h) q
  next_stays h q here = elim is.passes [
    | inl one ↦ stays_one rows old new Servers is.moves given one.0 servers_off h q here
    | inr both ↦ stays_one rows both.between new Tables both.tables given both.second tables_off h q (stays_one rows old both.between Servers both.servers None both.first servers_off h q here)
  ]

  next_behind : (q : ℕ) → IsIn q (movers is.moves) → (h : ℕ) × StandsIn new (Waits h) q
  next_behind q here = elim is.passes [
    | inl one ↦ behind_one rows old new Servers is.moves given one.0 servers_off q here
    | inr both ↦
        in_parts ((h : ℕ) × StandsIn new (Waits h) q) q (movers both.servers) (movers both.tables) (subst (IsIn q) (ap movers both.parts ∙ movers-append both.servers both.tables) here)
        (λ first. (let to = behind_one rows old both.between Servers both.servers None both.first servers_off q first in
        (to.0, stays_one rows both.between new Tables both.tables given both.second tables_off to.0 q to.1)))
        (λ second. behind_one rows both.between new Tables both.tables given both.second tables_off q second)
  ]

-- those that were moved
abbrev moved : List (ℕ × Queue) → List (ℕ × Bool)
moved [] = []
moved (move ∷ moves) = (move.0, true) ∷ moved moves

pids-moved : (moves : List (ℕ × Queue)) → pids_in (moved moves) ≡ movers moves
pids-moved [] = refl
pids-moved (move ∷ moves) = ap (λ l. move.0 ∷ l) (pids-moved moves)

moved_in-moved : (moves : List (ℕ × Queue)) → moved_in (moved moves) ≡ length moves
moved_in-moved [] = refl
moved_in-moved (move ∷ moves) = let rest = moved_in-moved moves in omega (arith, rest)

aside_in-moved : (moves : List (ℕ × Queue)) → aside_in (moved moves) ≡ 0
aside_in-moved [] = refl
aside_in-moved (move ∷ moves) = let rest = aside_in-moved moves in omega (arith, rest)

passed-moved : (J : Past) (lists : List (List ℕ)) (moves : List (ℕ × Queue)) → ((q : ℕ) → IsIn q (movers moves) → (h : ℕ) × StandsIn lists (Waits h) q) → ArePassed J lists (moved moves)
passed-moved J lists [] behind = tt
passed-moved J lists (move ∷ moves) behind = (behind move.0 (inl refl), passed-moved J lists moves (λ q here. behind q (inr here)))

-- those of two looks
pids-append : (looks more : List (ℕ × Bool)) → pids_in (looks ++ more) ≡ pids_in looks ++ pids_in more
pids-append [] more = refl
pids-append (look ∷ looks) more = ap (λ l. look.0 ∷ l) (pids-append looks more)

moved_in-append : (looks more : List (ℕ × Bool)) → moved_in (looks ++ more) ≡ moved_in looks + moved_in more
moved_in-append [] more = omega arith
moved_in-append (look ∷ looks) more = let rest = moved_in-append looks more in omega (arith, rest)

aside_in-append : (looks more : List (ℕ × Bool)) → aside_in (looks ++ more) ≡ aside_in looks + aside_in more
aside_in-append [] more = omega arith
aside_in-append (look ∷ looks) more = let rest = aside_in-append looks more in omega (arith, rest)

passed-append : (J : Past) (lists : List (List ℕ)) (looks more : List (ℕ × Bool)) → ArePassed J lists looks → ArePassed J lists more → ArePassed J lists (looks ++ more)
passed-append J lists [] more one other = other
passed-append J lists (look ∷ looks) more one other = (one.0, passed-append J lists looks more one.1 other)

passed-stays : (J : Past) (old new : List (List ℕ)) → ((h q : ℕ) → StandsIn old (Waits h) q → StandsIn new (Waits h) q) → (looks : List (ℕ × Bool)) → ArePassed J old looks → ArePassed J new looks
passed-stays J old new stays [] passed = tt
passed-stays J old new stays ((p, true) ∷ looks) passed = ((passed.0.0, stays passed.0.0 p passed.0.1), passed-stays J old new stays looks passed.1)
passed-stays J old new stays ((p, false) ∷ looks) passed = (passed.0, passed-stays J old new stays looks passed.1)

-- on the way over the ready: those that were looked at are in front of those that are left
pub record IsLooking (J : Past) (rows : List Row) (old now : List (List ℕ)) (before after : ℕ) : Type 0 where
  pub looks : List (ℕ × Bool)
  pub front : ready_in old ≡ pids_in looks ++ ready_in now
  pub passed : ArePassed J now looks
  pub steps : after ≤ before + 2 * moved_in looks + ask_count rows (pids_in looks) + 4 * aside_in looks

pub look_begin : (J : Past) (rows : List Row) (lists : List (List ℕ)) (before : ℕ) → IsLooking J rows lists lists before before
look_begin J rows lists before = record { looks = []; front = refl; passed = tt; steps = omega arith }

-- the scheduler gives one, or none is left
pub look_next : (J : Past) (rows now_rows : List Row) (old now new : List (List ℕ)) (given : Option ℕ) (before middle after : ℕ) → ((q : ℕ) → asks_in (row_of now_rows q) ≡ asks_in (row_of rows q))
    → IsLooking J rows old now before middle → IsNext now_rows now new given middle after → Looks J rows old new given before after
look_next J rows now_rows old now new given before middle after same was next =
    let moves = next.moves in record {
      looks = was.looks ++ moved moves;
      front =
          was.front ∙ ap (λ l. pids_in was.looks ++ l) (next_front now_rows now new given middle after next)
          ∙ sym (append_assoc (pids_in was.looks) (movers moves) (option_to_list given ++ ready_in new))
          ∙ ap (λ l. l ++ (option_to_list given ++ ready_in new)) (sym (pids was.looks moves));
      passed =
          passed-append J new was.looks (moved moves) (passed-stays J now new (next_stays now_rows now new given middle after next) was.looks was.passed)
          (passed-moved J new moves (next_behind now_rows now new given middle after next));
      steps = (
          let asks : ask_count rows (pids_in (was.looks ++ moved moves) ++ option_to_list given) ≡ ask_count rows (pids_in was.looks) + ask_count now_rows (movers moves ++ option_to_list given) =
          ap (λ l. ask_count rows (l ++ option_to_list given)) (pids was.looks moves)
          ∙ ap (ask_count rows) (append_assoc (pids_in was.looks) (movers moves) (option_to_list given))
          ∙ ask_count-append rows (pids_in was.looks) (movers moves ++ option_to_list given)
          ∙ ap (λ n. ask_count rows (pids_in was.looks) + n) (sym (ask_count-same now_rows rows same (movers moves ++ option_to_list given))) in
          let moved_now : moved_in (was.looks ++ moved moves) ≡ moved_in was.looks + length moves = moved_in-append was.looks (moved moves) ∙ ap (λ n. moved_in was.looks + n) (moved_in-moved moves) in
          let aside_now : aside_in (was.looks ++ moved moves) ≡ aside_in was.looks + 0 = aside_in-append was.looks (moved moves) ∙ ap (λ n. aside_in was.looks + n) (aside_in-moved moves) in
          let first = was.steps in
          let second = next.steps in omega (arith, asks, moved_now, aside_now, first, second));
    }
  where
    pids : (looks : List (ℕ × Bool)) (moves : List (ℕ × Queue)) → pids_in (looks ++ moved moves) ≡ pids_in looks ++ movers moves
    pids looks moves = pids-append looks (moved moves) ∙ ap (λ l. pids_in looks ++ l) (pids-moved moves)

-- who was given is stuck, and is set aside
pub look_aside : (J : Past) (rows : List Row) (old now new : List (List ℕ)) (p before middle after : ℕ) → Looks J rows old now (Some p) before middle → IsStuck J p
    → ready_in new ≡ ready_in now → ((h q : ℕ) → StandsIn now (Waits h) q → StandsIn new (Waits h) q) → after ≤ middle + 1 → IsLooking J rows old new before after
look_aside J rows old now new p before middle after is stuck ready stays short =
    let last : List (ℕ × Bool) = (p, false) ∷ [] in record {
      looks = is.looks ++ last;
      front =
          is.front ∙ sym (append_assoc (pids_in is.looks) (p ∷ []) (ready_in now)) ∙ ap (λ l. l ++ ready_in now) (sym (pids-append is.looks last))
          ∙ ap (λ l. pids_in (is.looks ++ last) ++ l) (sym ready);
      passed = passed-append J new is.looks last (passed-stays J now new stays is.looks is.passed) (stuck, tt);
      steps = (
          let asks : ask_count rows (pids_in (is.looks ++ last)) ≡ ask_count rows (pids_in is.looks ++ p ∷ []) = ap (ask_count rows) (pids-append is.looks last) in
          let moved_now : moved_in (is.looks ++ last) ≡ moved_in is.looks + 0 = moved_in-append is.looks last in
          let aside_now : aside_in (is.looks ++ last) ≡ aside_in is.looks + 1 = aside_in-append is.looks last in
          let so = is.steps in omega (arith, asks, moved_now, aside_now, so, short));
    }
