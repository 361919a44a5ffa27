-- What an entry makes is enlisted one after another, and taken out again where it isn't recorded.
use Rattle.std.proofs.Common.{◌≡◌, ◌≢◌, ℕ, zero, suc, ◌+◌, ◌-◌, ◌<◌, ◌≤◌, ◌^◌, List, [], ◌∷◌, length, false, Option, Some, None, slice_get, refl, inl, inr, ap, sym, ◌∙◌, subst, arith}
use Rattle.std.specs.Option.{option_map}
use Rattle.std.specs.Prelude.{IfSome, IsSome}
use Rattle.std.proofs.lemmas.Bool.{cases_eq, cases_lt, true≢false}
use Rattle.std.proofs.lemmas.Option.{none-some, same_Some}
use Rattle.hm_names.specs.Server.{Server}
use Rattle.hm_names.specs.declared.pid.Pid.{Pid}
use Rattle.hm_data.specs.declared.args.Args.{Args}
use Rattle.hm_data.specs.declared.args.Args.TheVariants as args_are
use Rattle.hm_data.specs.declared.entry.Entry.{Entry}
use Rattle.hm_data.specs.declared.entry.Entry.TheVariants as entry_is
use Rattle.hm_locks.specs.Book.{AreChanged, IsEnlisted, Row, above_child, above_in, new_row, row_of}
use Rattle.hm_locks.specs.Needs.{HasFirst}
use Rattle.hm_model.specs.Journal.{Past}
use Rattle.hm_model.specs.Locks.{asks}
use Rattle.hm_model.specs.Laws.{is_part}
use Rattle.hm_model.specs.Rules.{IsLegal}
use Rattle.hm_model.specs.Tree.{Node, args_in, child_of, made, node_of, root_node, submitted}
use Rattle.hm_model.proofs.Grown.{down_new, grown_all, submit_new, undo_new}
use Rattle.hm_model.proofs.Trees.{node_new, step_of}
use Rattle.hm_model.proofs.Trees.{grown_all as trees_grown}
use Rattle.hm_procedures.specs.Kept.{args_made}
use Rattle.hm_records.proofs.Firsts.{node_first}
use Rattle.hm_tied.specs.Tied.{IsOpen, IsTied, Roster, no_debts}
use Rattle.hm_tied.specs.Uses.{EnlistsBelow}
use Rattle.hm_tied.proofs.Going.{go_open}
use Rattle.hm_tied.proofs.Uses.{ancestors_told, enlisting_begins, enlisting_ends, enlisting_goes_on, known_made}
use Rattle.hm_roster.specs.Desk.{HasMore, IsSameButBook, Makes, parent_made}
use Rattle.hm_roster.specs.Roster.{Follows, IsEnlistedFor, number_on, pids_on, roster_of, roster_with, rows_on, servers_on}
use Rattle.hm_roster.specs.declared.desk.Desk.{Desk}
use Rattle.hm_roster.proofs.Alike.{book_tied, lists_still, rows_alike}
use Rattle.hm_roster.proofs.Changed.{changed_here, changed_there, some_row}

-- the ancestors of a child of a procedure that is there
abbrev above_node : ℕ → Option Node → List ℕ
above_node p None = p ∷ []
above_node p (Some node) = p ∷ node.above

-- the ancestors of those that an entry makes
abbrev pub above_made : Past → Option Pid → List ℕ
above_made J None = []
above_made J (Some pid) = above_node pid.0 (node_of J pid.0)

-- one that an entry makes, by what it works on and its parent
abbrev pub IsMadeOf : Past → Entry → ℕ → Args → Type 0
IsMadeOf J entry i args = (node : Node) × (node_of (entry ∷ J) (made J + 1 + i) ≡ Some node) × (node.args ≡ args) × (above_made J (parent_made entry) ≡ node.above)

-- numbers of what is made
first_place : (J : Past) → made J + 1 + 0 ≡ made J + 1
first_place J = omega arith

place_back : (J : Past) (i : ℕ) → made J + 1 + i - made J - 1 ≡ i
place_back J i = omega arith

-- what stands at a place of one
only_one : (own args : Args) (i : ℕ) → slice_get (own ∷ []) i ≡ Some args → (i ≡ 0) × (own ≡ args)
only_one own args zero is = (refl, same_Some own args is)
only_one own args (suc i) is = absurd (none-some args is)

-- what an entry makes, by its place
pub is_made : (entry : Entry) (J : Past) → IsLegal (entry ∷ J) → is_part entry ≡ false → (i : ℕ) (args : Args) → slice_get (args_made J entry) i ≡ Some args → IsMadeOf J entry i args
is_made (entry_is.Submit nonce request) J legal off i args is =
    let one = only_one _ args i is in
    (submitted J request (made J + 1 + i), submit_new nonce request J (made J + 1 + i) (ap (λ k. made J + 1 + k) one.0 ∙ first_place J), one.1, refl)
is_made (entry_is.Step pid pick out) J legal off i args is =
    let step = step_of pid pick out J (trees_grown J legal.0) legal in (
      child_of pid.0 step.node args,
      node_new pid pick out J step.node step.node_is (made J + 1 + i) (omega arith) ∙ ap (λ k. option_map (child_of pid.0 step.node) (slice_get (args_in out.children) k)) (place_back J i) ∙ ap (option_map (child_of pid.0 step.node)) is,
      refl,
      ap (above_node pid.0) step.node_is,
    )
is_made (entry_is.Undo pid row out) J legal off i args is = (
  root_node (made J + 1 + i) args 1,
  undo_new pid row out J (made J + 1 + i) (omega arith) ∙ ap (λ k. option_map (λ args. root_node (made J + 1 + i) args 1) (slice_get (args_in out.followers) k)) (place_back J i) ∙ ap (option_map (λ args. root_node (made J + 1 + i) args 1)) is,
  refl,
  refl,
)
is_made (entry_is.Down server) J legal off i args is =
    let one = only_one _ args i is in
    (root_node (made J + 1 + i) (args_are.Crash server) 1, down_new server J (made J + 1 + i) (ap (λ k. made J + 1 + k) one.0 ∙ first_place J), one.1, refl)
is_made (entry_is.Base part) J legal off i args is = absurd (true≢false off)
is_made entry J legal off i args is = absurd (none-some args is)

-- so the first region id of what it works on can be drawn
pub works_first : (entry : Entry) (J : Past) → IsLegal (entry ∷ J) → is_part entry ≡ false → (i : ℕ) (args : Args) → slice_get (args_made J entry) i ≡ Some args → HasFirst args
works_first entry J legal off i args is =
    let its = is_made entry J legal off i args is in
    subst HasFirst its.2 (node_first (entry ∷ J) legal (made J + 1 + i) its.0 its.1)

-- how many there are after an entry
pub made_more : (entry : Entry) (J : Past) → is_part entry ≡ false → made (entry ∷ J) ≡ made J + length (args_made J entry)
made_more (entry_is.Submit nonce request) J off = refl
made_more (entry_is.Step pid pick out) J off = refl
made_more (entry_is.Undo pid row out) J off = refl
made_more (entry_is.Down server) J off = refl
made_more (entry_is.Base part) J off = absurd (true≢false off)
made_more entry J off = omega arith

-- the parent of those that an entry makes hasn't ended
pub made_parent : (entry : Entry) (J : Past) → IsLegal (entry ∷ J) → (pid : Pid) → parent_made entry ≡ Some pid → IsOpen J pid.0
made_parent (entry_is.Step own pick out) J legal pid is = subst (λ (p : Pid). IsOpen J p.0) (same_Some own pid is) (go_open J legal.0 own.0 (inl legal.1.1.0))
made_parent entry J legal pid is = absurd (none-some pid is)

-- who isn't there has no row
no_row : (J : Past) (n : Option Server → ℕ) (roster : Roster) → IsLegal J → IsTied J n roster → (p : ℕ) → made J < p → row_of roster.rows p ≡ None
no_row J n roster legal tied p lt = by (row_of roster.rows p) refl
  where
    by : (o : Option Row) → row_of roster.rows p ≡ o → o ≡ None
    by None e = refl
    by (Some row) e = let le = (known_made J n roster no_debts legal tied p).0 (some_row (row_of roster.rows p) row e) in absurd (omega (arith, le, lt))

module _ (J : Past) (legal : IsLegal J) (desk : Desk) where
  -- nobody more is enlisted
  pub none_more : Follows J desk → made J < 2 ^ 64 → HasMore J desk 0
  none_more follows small = record {
    was = rows_on desk;
    tied = follows.tied;
    kept = λ p le. refl;
    more = λ p lt le. absurd (omega (arith, lt, le));
    rest = λ p lt. no_row J (number_on desk) (roster_of desk) legal follows.tied p (omega (arith, lt));
    room = (let room = follows.room in omega (arith, room));
    few = omega arith;
    below = follows.below;
  }

  -- none of them more than before
  pub more_same : (place : ℕ) (new : Desk) → HasMore J desk place → IsSameButBook desk new → rows_on new ≡ rows_on desk → HasMore J new place
  more_same place new more same rows = record {
    was = more.was;
    tied = book_tied J desk new more.was same more.tied;
    kept = λ p le. ap (λ r. row_of r p) rows ∙ more.kept p le;
    more = λ p lt le. subst (λ (r : List Row). IsEnlisted r p) (sym rows) (more.more p lt le);
    rest = λ p lt. ap (λ r. row_of r p) rows ∙ more.rest p lt;
    room = (let e : pids_on new ≡ pids_on desk = ap (λ s. s.pids) same.sched in (let room = more.room in omega (arith, room, e)));
    few = more.few;
    below = lists_still desk new (let e : servers_on new ≡ servers_on desk = ap (λ s. s.servers) same.sched in omega (arith, e)) same.numbers more.below;
  }

  -- a desk on which none more is enlisted follows
  pub all_back : (count : ℕ) (new : Desk) (more : HasMore J desk count) → IsSameButBook desk new → ((p : ℕ) → p ≤ made J → row_of (rows_on new) p ≡ row_of (rows_on desk) p) → ((p : ℕ) → made J < p → row_of (rows_on new) p ≡ None) → Follows J new
  all_back count new more same kept gone = record {
    tied = rows_alike J (number_on new) (roster_with new more.was) no_debts (rows_on new) alike (book_tied J desk new more.was same more.tied);
    room = subst (λ (k : ℕ). made J < k) (sym (ap (λ s. s.pids) same.sched)) (let room = more.room in omega (arith, room));
    below = lists_still desk new (let e : servers_on new ≡ servers_on desk = ap (λ s. s.servers) same.sched in omega (arith, e)) same.numbers more.below;
  }
    where
      alike : (p : ℕ) → row_of (rows_on new) p ≡ row_of more.was p
      alike p = elim (cases_lt (made J) p) [
        | inl lt ↦ gone p lt ∙ sym (no_row J (number_on desk) (roster_with desk more.was) legal more.tied p lt)
        | inr le ↦ kept p le ∙ more.kept p le
      ]

  -- one more is enlisted
  pub one_more : (place : ℕ) (new : Desk) (row : Row) → HasMore J desk place → IsSameButBook desk new → AreChanged (rows_on desk) (made J + 1 + place) (Some row) (rows_on new) → made J + place + 1 < pids_on desk → made J + (place + 1) < 2 ^ 64 → HasMore J new (place + 1)
  one_more place new row more same changed room few = record {
    was = more.was;
    tied = book_tied J desk new more.was same more.tied;
    kept = λ p le. there p (λ e. omega (arith, le, e)) ∙ more.kept p le;
    more = λ p lt le. elim (cases_eq (made J + 1 + place) p) [
      | inl own ↦ some_row (row_of (rows_on new) p) row (changed_here (rows_on desk) (rows_on new) (made J + 1 + place) (Some row) changed p own)
      | inr other ↦ subst (λ (o : Option Row). IsSome o) (sym (there p other)) (more.more p lt (omega (arith, le, other)))
    ];
    rest = λ p lt. there p (λ e. omega (arith, lt, e)) ∙ more.rest p (omega (arith, lt));
    room = (let e : pids_on new ≡ pids_on desk = ap (λ s. s.pids) same.sched in omega (arith, room, e));
    few = few;
    below = lists_still desk new (let e : servers_on new ≡ servers_on desk = ap (λ s. s.servers) same.sched in omega (arith, e)) same.numbers more.below;
  }
    where
      there : (p : ℕ) → made J + 1 + place ≢ p → row_of (rows_on new) p ≡ row_of (rows_on desk) p
      there p differs = changed_there (rows_on desk) (rows_on new) (made J + 1 + place) (Some row) changed p differs

  -- the parent of the next is enlisted, and tells their ancestors
  parent_enlisted : (place : ℕ) → HasMore J desk place → (pid : Pid) → IsOpen J pid.0 → IsEnlisted (rows_on desk) pid.0
  parent_enlisted place more pid opens =
      let was = more.tied.book.opened pid.0 opens in
      let le = (known_made J (number_on desk) (roster_with desk more.was) no_debts legal more.tied pid.0).0 was in
      subst (λ (o : Option Row). IsSome o) (sym (more.kept pid.0 le)) was

  -- the same of one that may be there
  pub parents_enlisted : (place : ℕ) → HasMore J desk place → (parent : Option Pid) → ((pid : Pid) → parent ≡ Some pid → IsOpen J pid.0) → IfSome parent (λ p. IsEnlisted (rows_on desk) p.0)
  parents_enlisted place more None opens = tt
  parents_enlisted place more (Some pid) opens = parent_enlisted place more pid (opens pid refl)

  -- the ancestors that the book tells are those of what is made
  pub above_told : (place : ℕ) → HasMore J desk place → (parent : Option Pid) → ((pid : Pid) → parent ≡ Some pid → IsOpen J pid.0) → above_child (rows_on desk) parent ≡ above_made J parent
  above_told place more None opens = refl
  above_told place more (Some pid) opens = by (node_of J pid.0) refl
    where
      is_open : IsOpen J pid.0
      is_open = opens pid refl

      le : pid.0 ≤ made J
      le = (known_made J (number_on desk) (roster_with desk more.was) no_debts legal more.tied pid.0).0 (more.tied.book.opened pid.0 is_open)

      by : (o : Option Node) → node_of J pid.0 ≡ o → pid.0 ∷ above_in (row_of (rows_on desk) pid.0) ≡ above_node pid.0 (node_of J pid.0)
      by None e = absurd (is_open.0 e)
      by (Some node) e =
          ap (λ (o : Option Row). pid.0 ∷ above_in o) (more.kept pid.0 le)
          ∙ ap (λ (l : List ℕ). pid.0 ∷ l) (ancestors_told J (number_on desk) (roster_with desk more.was) pid.0 node more.tied is_open e)
          ∙ sym (ap (above_node pid.0) e)

-- an entry's are enlisted below the next, from the first on
pub lists_first : (J : Past) (desk : Desk) (entry : Entry) (works : List Args) (parent : Option Pid) → IsLegal J → Follows J desk → Makes J entry works parent → EnlistsBelow J (entry ∷ J) (rows_on desk) (rows_on desk) (made J + 1)
lists_first J desk entry works parent legal follows makes = enlisting_begins entry J (number_on desk) (roster_of desk) (legal, makes.allowed) follows.tied

-- and then one more
pub lists_next : (J : Past) (old : List Row) (desk new : Desk) (entry : Entry) (works : List Args) (parent : Option Pid) (place : ℕ) (args : Args) → IsLegal J → HasMore J desk place → Makes J entry works parent → slice_get works place ≡ Some args
    → AreChanged (rows_on desk) (made J + 1 + place) (Some (new_row (rows_on desk) (made J + 1 + place) parent (asks args))) (rows_on new)
    → EnlistsBelow J (entry ∷ J) old (rows_on desk) (made J + 1 + place) → EnlistsBelow J (entry ∷ J) old (rows_on new) (made J + 1 + place + 1)
lists_next J old desk new entry works parent place args legal more makes is changed below =
    let its = is_made entry J (legal, makes.allowed) makes.no_part place args (ap (λ l. slice_get l place) makes.args ∙ is) in
    enlisting_goes_on J (entry ∷ J) old (rows_on desk) (rows_on new) (made J + 1 + place) its.0 parent below ((grown_all J legal).numbered (made J + 1 + place) (omega arith)) its.1
    (above_told J legal desk place more parent (λ pid e. made_parent entry J (legal, makes.allowed) pid (makes.above ∙ e)) ∙ ap (above_made J) (sym makes.above) ∙ its.3)
    (subst (λ (l : List Rattle.hm_model.specs.declared.lock.Ask.Ask). AreChanged (rows_on desk) (made J + 1 + place) (Some (new_row (rows_on desk) (made J + 1 + place) parent l)) (rows_on new)) (ap asks (sym its.2)) changed)

-- up to the last
pub lists_all : (J : Past) (old desk : Desk) (entry : Entry) (works : List Args) (parent : Option Pid) → IsLegal J → Follows J old → IsSameButBook old desk → Makes J entry works parent → made J + length works < pids_on old
    → EnlistsBelow J (entry ∷ J) (rows_on old) (rows_on desk) (made J + 1 + length works) → IsEnlistedFor (entry ∷ J) entry desk
lists_all J old desk entry works parent legal follows same makes room below =
    let count : made (entry ∷ J) ≡ made J + length works = made_more entry J makes.no_part ∙ ap (λ (l : List Args). made J + length l) makes.args in
    let next : made J + 1 + length works ≡ made (entry ∷ J) + 1 = omega (arith, count) in
    record {
      before = J;
      is = refl;
      rows = rows_on old;
      tied = book_tied J old desk (rows_on old) same follows.tied;
      enlists = enlisting_ends J (entry ∷ J) (rows_on old) (rows_on desk) (legal, makes.allowed) (subst (λ k. EnlistsBelow J (entry ∷ J) (rows_on old) (rows_on desk) k) next below);
      room = (let e : pids_on desk ≡ pids_on old = ap (λ s. s.pids) same.sched in omega (arith, count, room, e));
      below = lists_still old desk (let e : servers_on desk ≡ servers_on old = ap (λ s. s.servers) same.sched in omega (arith, e)) same.numbers follows.below;
    }
