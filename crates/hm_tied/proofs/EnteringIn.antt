-- What an entry changes, and what that leaves to do.
use Rattle.std.proofs.Common.{List, None, Option, Some, ap, false, inl, inr, refl, subst, sym, true, ℕ, ◌∙◌, ◌≡◌, ◌≢◌, ◌⊎◌}
use Rattle.std.specs.Prelude.{IsSome}
use Rattle.std.proofs.lemmas.Bool.{cases_Bool, false≢true, true≢false}
use Rattle.std.proofs.lemmas.Option.{none-some, same_Some}
use Rattle.hm_names.specs.Server.{Server}
use Rattle.hm_locks.specs.Book.{Blocks, IsBlockedBy, IsEnlisted, Row, is_holding, row_of}
use Rattle.hm_locks.specs.Laws.{IsRowOf}
use Rattle.hm_model.specs.Answers.{last_answer}
use Rattle.hm_model.specs.Journal.{Past}
use Rattle.hm_model.specs.Locks.{IsIn, asks}
use Rattle.hm_model.specs.Phase.{ended}
use Rattle.hm_model.specs.Rules.{IsLegal}
use Rattle.hm_model.specs.Tree.{Node, node_of}
use Rattle.hm_model.proofs.Trees.{some_of}
use Rattle.hm_sched.specs.Queues.{Stands, StandsIn}
use Rattle.hm_sched.specs.declared.queue.Queue.{Queue}
use Rattle.hm_sched.specs.declared.queue.Queue.TheVariants.{Held, Suspended, Waits}
use Rattle.hm_tied.specs.Bounds.{Bounds}
use Rattle.hm_tied.specs.Tied.{CanGo, IsBookBut, IsBusy, IsCalm, IsOpen, IsOver, called_in}
use Rattle.hm_tied.specs.TiedIn.{IsTied, IsTiedBut, LacksPick, Roster, Debts}
use Rattle.hm_tied.specs.Entries.{Enlists, row_made}
use Rattle.hm_tied.proofs.Going.{busy_open}
use Rattle.hm_tied.proofs.Rows.{blocks_enlisted}
use Rattle.hm_tied.proofs.Entering.{there_or_not}

-- what an entry changes, as far as lists, claims and locks go: what is told of those that were there, and of the new
pub record Changes (bounds : Bounds) (before after : Past) (old new : List ℕ) (debts : Debts) : Type 0 where
  pub stays : (q : ℕ) (x : Node) → node_of before q ≡ Some x → node_of after q ≡ Some x
  pub fresh : (q : ℕ) → node_of before q ≡ None → (last_answer after q ≡ None) × (ended after q ≡ false)
  pub made : (q : ℕ) → node_of before q ≡ None → node_of after q ≢ None → debts.owed q ≡ true
  pub ends : (q : ℕ) → node_of before q ≢ None → (ended after q ≡ ended before q) ⊎ (debts.over q ≡ true)
  pub were : (q : ℕ) → debts.over q ≡ true → IsOpen before q
  pub fewer : (q : ℕ) → IsIn q new → IsIn q old
  pub free : (q : ℕ) → (IsIn q new → ⊥) → (IsIn q old → ⊥) ⊎ (debts.owed q ≡ true)
  pub lasting : (q : ℕ) → IsIn q new → debts.over q ≡ true → ⊥
  pub calm : (q : ℕ) → node_of before q ≢ None → IsIn q new → IsCalm before q → IsCalm after q
  pub held : (q : ℕ) → (last_answer before q ≢ None) ⊎ IsIn q old → (last_answer after q ≢ None) ⊎ IsIn q new
  pub holds : (q : ℕ) → node_of before q ≢ None → (last_answer after q ≢ None) ⊎ IsIn q new → (last_answer before q ≢ None) ⊎ IsIn q old
  pub lasts : (q : ℕ) → (IsIn q old → ⊥) → last_answer after q ≡ last_answer before q
  pub goes : (q : ℕ) → node_of before q ≢ None → CanGo after q → CanGo before q ⊎ (debts.slack q ≡ true)
  pub owes : (q : ℕ) → node_of before q ≢ None → CanGo after q → IsBusy before q ⊎ (debts.owed q ≡ true)
  pub picks : (q : ℕ) → (IsIn q old → ⊥) → LacksPick bounds before q → IsCalm before q → (LacksPick bounds after q × IsCalm after q) ⊎ (debts.late q ≡ true)

module _ (J after : Past) (legal : IsLegal after) (number_of : Option Server → ℕ) (roster : Roster) (claimed : List ℕ) (rows : List Row) (debts : Debts) (tied : IsTied J number_of roster) (changes : Changes roster.bounds J after roster.claimed claimed debts) (enlists : Enlists J after roster.rows rows) where
  node_same : (q : ℕ) → node_of J q ≢ None → node_of after q ≡ node_of J q
  node_same q some = let x = some_of (node_of J q) some in changes.stays q x.0 x.1 ∙ sym x.1

  there_after : (q : ℕ) → node_of J q ≢ None → node_of after q ≢ None
  there_after q some none = some (sym (node_same q some) ∙ none)

  opened_on : (q : ℕ) → IsOpen J q → IsOpen after q ⊎ IsOver after debts.over q
  opened_on q opens = elim (cases_Bool (ended after q)) [
    | inr off ↦ inl (there_after q opens.0, off)
    | inl on ↦ elim (changes.ends q opens.0) [
      | inl same ↦ absurd (true≢false (sym on ∙ same ∙ opens.1))
      | inr over ↦ inr (over, on)
    ]
  ]

  was_open : (q : ℕ) → node_of J q ≢ None → IsOpen after q → IsOpen J q
  was_open q some opens = elim (changes.ends q some) [ inl same ↦ (some, sym same ∙ opens.1) | inr over ↦ changes.were q over ]

  listed_open : (k : Queue) (q : ℕ) → StandsIn roster.lists k q → IsOpen J q
  listed_open k q e = elim (tied.listed k q e).0 [ inl opens ↦ opens | inr over ↦ absurd (false≢true over.0) ]

  enlisted_open : (q : ℕ) → IsEnlisted roster.rows q → IsOpen J q
  enlisted_open q e = elim (tied.book.enlisted q e) [ inl opens ↦ opens | inr over ↦ absurd (false≢true over.0) ]

  waits_on : (h q : ℕ) → StandsIn roster.lists (Waits h) q → IsBlockedBy rows q h
  waits_on h q e =
      let blocks = tied.waits h q e in
      let own = enlists.kept q (listed_open (Waits h) q e).0 in
      let other = enlists.kept h (enlisted_open h (blocks_enlisted (row_of roster.rows q) (row_of roster.rows h) blocks).1).0 in
      subst (λ a. Blocks a (row_of rows h)) (sym own) (subst (Blocks (row_of roster.rows q)) (sym other) blocks)

  calls_on : (s q : ℕ) → StandsIn roster.lists (Suspended s) q → (number_of (called_in (node_of after q)) ≡ s) × ((CanGo after q → ⊥) ⊎ (debts.slack q ≡ true))
  calls_on s q e =
      let some = (listed_open (Suspended s) q e).0 in
      let was = tied.calls s q e in (
        ap (λ o. number_of (called_in o)) (node_same q some) ∙ was.0,
        elim was.1 [
          | inl still ↦ elim (cases_Bool (debts.slack q)) [
            | inl on ↦ inr on
            | inr off ↦ inl (λ go. elim (changes.goes q some go) [ inl before ↦ still before | inr on ↦ true≢false (sym on ∙ off) ])
          ]
          | inr on ↦ absurd (false≢true on)
        ],
      )

  busy_before : (q : ℕ) → node_of J q ≢ None → (IsIn q roster.claimed → ⊥) → IsBusy after q → IsBusy J q ⊎ (debts.owed q ≡ true)
  busy_before q some free (inl go) = changes.owes q some go
  busy_before q some free (inr waits) = inl (inr (was_open q some waits.0, (waits.1.0, sym (changes.lasts q free) ∙ waits.1.1)))

  must_on : (q : ℕ) → (let bounds = roster.bounds in bounds.waits q ≡ false) → (IsIn q claimed → ⊥) → IsBusy after q → Stands roster.lists q ⊎ (debts.owed q ≡ true)
  must_on q idle apart busy = elim (there_or_not (node_of J q)) [
    | inl none ↦ inr (changes.made q none (busy_open after legal q busy).0)
    | inr some ↦ elim (changes.free q apart) [
      | inr owed ↦ inr owed
      | inl free ↦ elim (busy_before q some free busy) [
        | inl was ↦ elim (tied.must q idle free was) [ inl stands ↦ inl stands | inr owed ↦ absurd (false≢true owed) ]
        | inr owed ↦ inr owed
      ]
    ]
  ]

  -- the rows of the new
  new_says : (p : ℕ) (o : Option Node) → node_of after p ≡ o → (row : Row) → row_made p o ≡ Some row → IsRowOf after row
  new_says p None is row e = absurd (none-some row e)
  new_says p (Some x) is row e = subst (IsRowOf after) (same_Some (record { pid = p; above = x.above; asks = asks x.args; holds = false }) row e) (x, is, refl, refl)

  new_open : (p : ℕ) (o : Option Node) → node_of J p ≡ None → node_of after p ≡ o → IsSome (row_made p o) → IsOpen after p
  new_open p None none is e = absurd (false≢true e)
  new_open p (Some x) none is e = (λ f. none-some x (sym f ∙ is), (changes.fresh p none).1)

  new_enlisted : (p : ℕ) (o : Option Node) → o ≢ None → IsSome (row_made p o)
  new_enlisted p None some = absurd (some refl)
  new_enlisted p (Some x) some = refl

  new_off : (p : ℕ) (o : Option Node) → is_holding (row_made p o) ≡ false
  new_off p None = refl
  new_off p (Some x) = refl

  kept_enlisted : (p : ℕ) → node_of J p ≢ None → IsEnlisted roster.rows p → IsEnlisted rows p
  kept_enlisted p some e = subst (λ (o : Option Row). IsSome o) (sym (enlists.kept p some)) e

  book_on : IsBookBut after claimed rows debts.over
  book_on = record {
    says = λ p row e. elim (there_or_not (node_of J p)) [
      | inl none ↦ new_says p (node_of after p) refl row (sym (enlists.made p none) ∙ e)
      | inr some ↦ let was = tied.book.says p row (sym (enlists.kept p some) ∙ e) in (was.0, changes.stays row.pid was.0 was.1, was.2, was.3)
    ];
    enlisted = λ p e. elim (there_or_not (node_of J p)) [
      | inl none ↦ inl (new_open p (node_of after p) none refl (subst (λ (o : Option Row). IsSome o) (enlists.made p none) e))
      | inr some ↦ opened_on p (enlisted_open p (subst (λ (o : Option Row). IsSome o) (enlists.kept p some) e))
    ];
    opened = λ p opens. elim (there_or_not (node_of J p)) [
      | inl none ↦ subst (λ (o : Option Row). IsSome o) (sym (enlists.made p none)) (new_enlisted p (node_of after p) opens.0)
      | inr some ↦ kept_enlisted p some (tied.book.opened p (was_open p some opens))
    ];
    left = λ p over. let was = changes.were p over in kept_enlisted p was.0 (tied.book.opened p was);
    holds = λ p e. elim (there_or_not (node_of J p)) [
      | inl none ↦ absurd (true≢false (sym e ∙ ap is_holding (enlists.made p none) ∙ new_off p (node_of after p)))
      | inr some ↦ elim (tied.book.holds p (ap is_holding (sym (enlists.kept p some)) ∙ e)) [
        | inl h ↦ elim (opened_on p (h.0, h.1)) [ inl opens ↦ inl (opens.0, opens.1, changes.held p h.2) | inr over ↦ inr over ]
        | inr over ↦ absurd (false≢true over.0)
      ]
    ];
    held = λ p h. elim (there_or_not (node_of J p)) [
      | inl none ↦ elim h.2 [ inl some ↦ absurd (some (changes.fresh p none).0) | inr among ↦ absurd ((tied.claims p (changes.fewer p among)).0.0 none) ]
      | inr some ↦ let opens = was_open p some (h.0, h.1) in ap is_holding (enlists.kept p some) ∙ tied.book.held p (opens.0, opens.1, changes.holds p some h.2)
    ];
  }

  pub changed : IsTiedBut after number_of (record { bounds = roster.bounds; claimed = claimed; lists = roster.lists; rows = rows }) debts
  changed = record {
    listed = λ k q e. (opened_on q (listed_open k q e), λ among. (tied.listed k q e).1 (changes.fewer q among));
    claims = λ q e.
        let was = tied.claims q (changes.fewer q e) in
        (elim (opened_on q was.0) [ inl opens ↦ opens | inr over ↦ absurd (changes.lasting q e over.0) ], changes.calm q was.0.0 e was.1);
    waits = waits_on;
    calls = calls_on;
    aside = λ q e. elim (tied.aside q e) [ inl lacks ↦ changes.picks q (tied.listed Held q e).1 lacks.0 lacks.1 | inr late ↦ absurd (false≢true late) ];
    must = must_on;
    book = book_on;
  }

-- an entry that makes nothing leaves the rows as they are
pub same_enlists : (J after : Past) (number_of : Option Server → ℕ) (roster : Roster) → IsTied J number_of roster → ((q : ℕ) → node_of after q ≡ node_of J q) → Enlists J after roster.rows roster.rows
same_enlists J after number_of roster tied same = record {
  kept = λ p some. refl;
  made = λ p none. by p none (row_of roster.rows p) refl ∙ ap (row_made p) (sym (same p ∙ none));
}
  where
    by : (p : ℕ) → node_of J p ≡ None → (o : Option Row) → row_of roster.rows p ≡ o → row_of roster.rows p ≡ None
    by p none None is = is
    by p none (Some row) is = elim (tied.book.enlisted p (subst (λ (o : Option Row). IsSome o) (sym is) refl)) [ inl opens ↦ absurd (opens.0 none) | inr over ↦ absurd (false≢true over.0) ]
