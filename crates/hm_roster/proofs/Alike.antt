-- Rosters with rows that say the same, and desks with more room.
use Rattle.std.proofs.Common.{◌≡◌, ◌<◌, ◌≤◌, ℕ, List, Option, Some, true, refl, ap, sym, ◌∙◌, subst, arith}
use Rattle.std.specs.Prelude.{IsSome}
use Rattle.hm_names.specs.Server.{Server}
use Rattle.hm_locks.specs.Book.{Blocks, Book, Row, is_holding, row_of}
use Rattle.hm_model.specs.Fleet.{came_up}
use Rattle.hm_model.specs.Journal.{Past}
use Rattle.hm_model.specs.Rules.{IsLegal}
use Rattle.hm_model.specs.Tree.{made}
use Rattle.hm_tied.specs.Tied.{Debts, IsTied, IsTiedBut, Roster, no_debts}
use Rattle.hm_tied.proofs.Uses.{numbers_tie, room_ties}
use Rattle.hm_roster.specs.Desk.{IsRoomier, IsSameButBook}
use Rattle.hm_roster.specs.Roster.{Follows, HasLists, claims_on, lists_on, number_in, number_on, pids_on, roster_of, roster_with, rows_on, servers_on}
use Rattle.hm_roster.specs.declared.desk.Desk.{Desk}

-- where each procedure's row is the same, the same is said
pub rows_alike : (J : Past) (n : Option Server → ℕ) (roster : Roster) (debts : Debts) (rows : List Row) → ((p : ℕ) → row_of rows p ≡ row_of roster.rows p) → IsTiedBut J n roster debts
    → IsTiedBut J n (record roster { rows = rows }) debts
rows_alike J n roster debts rows same tied = record {
  listed = tied.listed;
  claims = tied.claims;
  waits = λ h q e. subst (λ (o : Option Row). Blocks o (row_of rows h)) (sym (same q)) (subst (Blocks (row_of roster.rows q)) (sym (same h)) (tied.waits h q e));
  calls = tied.calls;
  aside = tied.aside;
  must = tied.must;
  book = record {
    says = λ p row e. tied.book.says p row (sym (same p) ∙ e);
    enlisted = λ p e. tied.book.enlisted p (subst (λ (o : Option Row). IsSome o) (same p) e);
    opened = λ p e. subst (λ (o : Option Row). IsSome o) (sym (same p)) (tied.book.opened p e);
    left = λ p e. subst (λ (o : Option Row). IsSome o) (sym (same p)) (tied.book.left p e);
    holds = λ p e. tied.book.holds p (ap is_holding (sym (same p)) ∙ e);
    held = λ p h. ap is_holding (same p) ∙ tied.book.held p h;
  };
}

-- less than what is no more
pub less_within : (a b c : ℕ) → a < b → b ≤ c → a < c
less_within a b c lt le = omega (arith, lt, le)

-- more room, and numbers that are the same of servers that came up
pub roomier_tied : (J : Past) → IsLegal J → (old new : Desk) → IsRoomier old new → ((server : Server) → came_up J server ≡ true → number_on new (Some server) ≡ number_on old (Some server)) → IsTied J (number_on old) (roster_of old) → IsTied J (number_on new) (roster_of new)
roomier_tied J legal old new more servers tied =
    numbers_tie J (number_on old) (number_on new) (roster_of new) no_debts legal
    (subst (λ (c : List ℕ). IsTied J (number_on old) (record { claimed = c; lists = lists_on new; rows = rows_on new })) (sym (ap (λ v. v.items) more.claimed))
    (subst (λ (r : List Row). IsTied J (number_on old) (record { claimed = claims_on old; lists = lists_on new; rows = r })) (sym (ap (λ (b : Book). b.rows) more.book))
    (room_ties J (number_on old) (roster_of old) no_debts (lists_on new) tied more.lists)))
    refl servers

-- the lists that are there still are
pub lists_still : (old new : Desk) → servers_on old ≤ servers_on new → new.numbers ≡ old.numbers → HasLists old → HasLists new
lists_still old new more same below server =
    less_within (number_on new server) (servers_on old) (servers_on new)
    (subst (λ (n : Option Server → ℕ). n server < servers_on old) (sym (ap (λ m. number_in m.pairs) same)) (below server)) more

-- more room alone
pub roomier_follows : (J : Past) → IsLegal J → (old new : Desk) → IsRoomier old new → new.numbers ≡ old.numbers → Follows J old → Follows J new
roomier_follows J legal old new more same follows = record {
  tied = roomier_tied J legal old new more (λ server came. ap (λ m. number_in m.pairs (Some server)) same) follows.tied;
  room = less_within (made J) (pids_on old) (pids_on new) follows.room more.pids;
  below = lists_still old new more.servers same follows.below;
}

-- other rows alone
pub book_tied : (J : Past) (old new : Desk) (rows : List Row) → IsSameButBook old new → IsTied J (number_on old) (roster_with old rows) → IsTied J (number_on new) (roster_with new rows)
book_tied J old new rows same tied =
    subst (λ (n : Option Server → ℕ). IsTied J n (roster_with new rows)) (sym (ap (λ m. number_in m.pairs) same.numbers))
    (subst (λ (c : List ℕ). IsTied J (number_on old) (record { claimed = c; lists = lists_on new; rows = rows })) (sym (ap (λ v. v.items) same.claimed))
    (subst (λ (l : List (List ℕ)). IsTied J (number_on old) (record { claimed = claims_on old; lists = l; rows = rows })) (sym (ap (λ s. s.lists) same.sched)) tied))

-- what stays, from one change to the next
pub roomier_self : (a : Desk) → IsRoomier a a
roomier_self a = record { claimed = refl; book = refl; lists = λ k. refl; pids = omega arith; servers = omega arith }

pub roomier_on : (a b c : Desk) → IsRoomier a b → IsRoomier b c → IsRoomier a c
roomier_on a b c one two = record {
  claimed = two.claimed ∙ one.claimed;
  book = two.book ∙ one.book;
  lists = λ k. two.lists k ∙ one.lists k;
  pids = (let x = one.pids in (let y = two.pids in omega (arith, x, y)));
  servers = (let x = one.servers in (let y = two.servers in omega (arith, x, y)));
}

pub book_self : (a : Desk) → IsSameButBook a a
book_self a = record { claimed = refl; numbers = refl; sched = refl }

pub book_on : (a b c : Desk) → IsSameButBook a b → IsSameButBook b c → IsSameButBook a c
book_on a b c one two = record { claimed = two.claimed ∙ one.claimed; numbers = two.numbers ∙ one.numbers; sched = two.sched ∙ one.sched }
