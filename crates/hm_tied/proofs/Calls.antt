-- What each call of the scheduler and of the lock book leaves to do.
use Rattle.std.proofs.Common.{Bool, List, None, Option, Some, ap, false, inl, inr, is_some, not, refl, subst, sym, true, ℕ, ◌==◌, ◌∙◌, ◌∷◌, ◌≡◌, ◌≢◌, ◌⊎◌}
use Rattle.std.specs.Prelude.{IsSome, ◌↔◌}
use Rattle.std.specs.Option.{option_map}
use Rattle.std.proofs.lemmas.Bool.{and_from, and_parts, cases_eq, eq-eqb, eqb-true, false≢true, ne_eqb, true≢false}
use Rattle.std.proofs.lemmas.Option.{none-some, same_Some}
use Rattle.hm_names.specs.Server.{Server}
use Rattle.hm_locks.specs.Book.{AreChanged, Blocks, IsBlockedBy, Row, holding, is_holding, row_of}
use Rattle.hm_locks.specs.Laws.{IsBookOf}
use Rattle.hm_locks.proofs.Ties.{free_is_free}
use Rattle.hm_model.specs.Answers.{last_answer}
use Rattle.hm_model.specs.Holding.{HoldsWith}
use Rattle.hm_model.specs.Inputs.{undoes}
use Rattle.hm_model.specs.Journal.{Past}
use Rattle.hm_model.specs.Locks.{IsIn}
use Rattle.hm_model.specs.Phase.{ended}
use Rattle.hm_model.specs.Picks.{has_pick}
use Rattle.hm_model.specs.Tree.{node_of}
use Rattle.hm_sched.specs.Effects.{Wakes}
use Rattle.hm_sched.specs.Queues.{IsReady, Stands, StandsIn}
use Rattle.hm_sched.specs.declared.queue.Queue.{Queue}
use Rattle.hm_sched.specs.declared.queue.Queue.TheVariants.{Held, Servers, Suspended, Tables, Waits}
use Rattle.hm_tied.specs.Tied.{CanGo, Debts, IsBookBut, IsBusy, IsCalm, IsOpen, IsOver, IsTiedBut, LacksPick, Roster, called_in}
use Rattle.hm_tied.specs.Calls.{ClaimTies, EndOwes, GiveBackTies, GiveUpOwes, JoinOwes, KeepOnOwes, MayJoin, NextOwes, OverIsLess, OwedIsLess, ReadyAreAvailable, SlackIsLess, WakeAllOwes, WakeHeldOwes, WakeOwes, is_given, without}
use Rattle.hm_tied.proofs.Going.{busy_open, go_calm, go_open, lacks_pick}
use Rattle.hm_tied.proofs.Rows.{blocks_enlisted, blocks_on, enlisted_back, enlisted_on, held_enlisted, other_row, own_holds, row_here, row_there, says_on}
use Rattle.hm_model.proofs.Small.{has_some}

pub waits_is : (h g : ℕ) → Waits h ≡ Waits g → h ≡ g
waits_is h g e = cc

pub but : (test : ℕ → Bool) (p q : ℕ) → test q ≡ true → q ≢ p → without test p q ≡ true
but test p q on differs = and_from (test q) (not (q == p)) on (ap not (ne_eqb q p differs))

-- a book in which nobody has ended says what the journal says
pub whole : (J : Past) (claimed : List ℕ) (rows : List Row) → IsBookBut J claimed rows (λ q. false) → IsBookOf J claimed rows
whole J claimed rows book = record {
  says = book.says;
  holds = λ q e. elim (book.holds q e) [ inl h ↦ h | inr f ↦ absurd (false≢true f.0) ];
  held = book.held;
}

-- whoever is available is ready
pub exact : ReadyAreAvailable
exact J number_of roster tied q free = elim (tied.must q free.0 (inl goes)) [
  | inl there ↦ at there.0 there.1
  | inr e ↦ absurd (false≢true e)
]
  where
    goes : CanGo J q
    goes = elim free.2 [ inl may ↦ inl (may.0, may.1, may.2) | inr undo ↦ inr undo ]

    unpicked : LacksPick J q → ⊥
    unpicked lacks = elim free.2 [
      | inl may ↦ (let same = same_Some may.0 lacks.0 (sym may.1 ∙ lacks.1) in true≢false (sym may.3 ∙ ap (has_pick J q) same ∙ lacks.3))
      | inr undo ↦ (let same = same_Some undo.0 lacks.0 (sym undo.1 ∙ lacks.1) in true≢false (sym undo.2 ∙ ap (undoes J q) same ∙ lacks.2))
    ]

    at : (k : Queue) → StandsIn roster.lists k q → IsReady roster.lists q
    at Servers e = inl e
    at Tables e = inr e
    at Held e = elim (tied.aside q e) [ inl f ↦ absurd (unpicked f.0) | inr f ↦ absurd (false≢true f) ]
    at (Waits h) e =
        let blocks = tied.waits h q e in
        absurd ((free_is_free J roster.claimed roster.rows q (whole J roster.claimed roster.rows tied.book) (blocks_enlisted (row_of roster.rows q) (row_of roster.rows h) blocks).0).1 free.1 h blocks)
    at (Suspended s) e = elim (tied.calls s q e).1 [ inl f ↦ absurd (f goes) | inr f ↦ absurd (false≢true f) ]

-- whom `next` gives belongs into no list yet
pub next_owes : NextOwes
next_owes J number_of roster lists given tied goes = record {
  listed = λ k q e. elim (goes.only k q e) [ inl f ↦ tied.listed k q f | inr f ↦ elim f.0 [ inl r ↦ tied.listed Servers q r | inr r ↦ tied.listed Tables q r ] ];
  claims = tied.claims;
  waits = λ h q e. elim (goes.only (Waits h) q e) [ inl f ↦ tied.waits h q f | inr f ↦ subst (IsBlockedBy roster.rows q) (sym (waits_is h f.1.0 f.1.1)) f.1.2 ];
  calls = λ s q e. elim (goes.only (Suspended s) q e) [ inl f ↦ tied.calls s q f | inr f ↦ (let no : Suspended s ≡ Waits f.1.0 = f.1.1 in absurd (cc)) ];
  aside = λ q e. elim (goes.only Held q e) [ inl f ↦ tied.aside q f | inr f ↦ (let no : Held ≡ Waits f.1.0 = f.1.1 in absurd (cc)) ];
  must = λ q free busy. elim (tied.must q free busy) [ inl there ↦ by q given refl there | inr f ↦ absurd (false≢true f) ];
  book = tied.book;
}
  where
    by : (q : ℕ) (o : Option ℕ) → given ≡ o → Stands roster.lists q → Stands lists q ⊎ (is_given given q ≡ true)
    by q None e there = inl (goes.kept q (λ f. none-some q (sym e ∙ f)) there)
    by q (Some p) e there = elim (cases_eq q p) [
      | inl same ↦ inr (ap (λ o. is_given o q) e ∙ eq-eqb q p same)
      | inr differs ↦ inl (goes.kept q (λ f. differs (sym (same_Some p q (sym e ∙ f)))) there)
    ]

-- a book in which one holds from now on, or no longer
module _ (J : Past) (claimed left_claimed : List ℕ) (rows new : List Row) (p : ℕ) (does : Bool) (over : ℕ → Bool) (book : IsBookBut J claimed rows over) (is : AreChanged rows p (option_map (holding does) (row_of rows p)) new) (others : (q : ℕ) → p ≢ q → IsIn q claimed ↔ IsIn q left_claimed) (to : does ≡ true → (last_answer J p ≢ None) ⊎ IsIn p left_claimed) (from : (last_answer J p ≢ None) ⊎ IsIn p left_claimed → does ≡ true) where
  own_held : is_holding (row_of new p) ≡ true → HoldsWith J left_claimed p ⊎ IsOver J over p
  own_held e =
      let there = enlisted_back rows new p does is p (held_enlisted (row_of new p) e) in
      elim (book.enlisted p there) [
        | inl opens ↦ inl (opens.0, opens.1, to (sym (own_holds rows new p does is there) ∙ e))
        | inr f ↦ inr f
      ]

  own_holds_so : HoldsWith J left_claimed p → is_holding (row_of new p) ≡ true
  own_holds_so h = own_holds rows new p does is (book.opened p (h.0, h.1)) ∙ from h.2

  pub book_set : IsBookBut J left_claimed new over
  book_set = record {
    says = says_on rows new p does is J book.says;
    enlisted = λ q e. book.enlisted q (enlisted_back rows new p does is q e);
    opened = λ q e. enlisted_on rows new p does is q (book.opened q e);
    left = λ q e. enlisted_on rows new p does is q (book.left q e);
    holds = λ q e. elim (cases_eq p q) [
      | inl same ↦ subst (λ n. is_holding (row_of new n) ≡ true → HoldsWith J left_claimed n ⊎ IsOver J over n) same own_held e
      | inr differs ↦ elim (book.holds q (ap is_holding (sym (other_row rows new p does is q differs)) ∙ e)) [
        | inl h ↦ inl (h.0, h.1, elim h.2 [ inl some ↦ inl some | inr among ↦ inr ((others q differs).0 among) ])
        | inr f ↦ inr f
      ]
    ];
    held = λ q h. elim (cases_eq p q) [
      | inl same ↦ subst (λ n. HoldsWith J left_claimed n → is_holding (row_of new n) ≡ true) same own_holds_so h
      | inr differs ↦ ap is_holding (other_row rows new p does is q differs) ∙ book.held q (h.0, h.1, elim h.2 [ inl some ↦ inl some | inr among ↦ inr ((others q differs).1 among) ])
    ];
  }

-- who can go on and has taken its locks may be claimed
pub claim_ties : ClaimTies
claim_ties J number_of roster rows p legal tied go nowhere is = record {
  listed = λ k q e. ((tied.listed k q e).0, λ among. elim among [ inl same ↦ nowhere k (subst (StandsIn roster.lists k) same e) | inr old ↦ (tied.listed k q e).1 old ]);
  claims = λ q e. elim e [ inl same ↦ subst (λ n. IsOpen J n × IsCalm J n) (sym same) (go_open J legal p go, go_calm J legal p go) | inr old ↦ tied.claims q old ];
  waits = λ h q e. blocks_on roster.rows rows p true is q h (λ same. refl) (tied.waits h q e);
  calls = tied.calls;
  aside = tied.aside;
  must = λ q free busy. elim (tied.must q (λ old. free (inr old)) busy) [ inl f ↦ inl f | inr f ↦ absurd (free (inl (eqb-true q p f))) ];
  book = book_set J roster.claimed (p ∷ roster.claimed) roster.rows rows p true (λ q. false) tied.book is
      (λ q differs. (λ among. inr among, λ among. elim among [ inl same ↦ absurd (differs (sym same)) | inr old ↦ old ]))
      (λ e. inr (inl refl)) (λ e. refl);
}

pub some_last : {A : Type 0} (o : Option A) → is_some o ≡ true → o ≢ None
some_last None e f = false≢true e
some_last (Some x) e f = none-some x (sym f)

-- who isn't claimed gives back what it took, unless it has a step
pub give_back_ties : GiveBackTies
give_back_ties J number_of roster rows p tied free is = record {
  listed = tied.listed;
  claims = tied.claims;
  waits = λ h q e. blocks_on roster.rows rows p (is_some (last_answer J p)) is q h (λ same. holds_on h q same (tied.waits h q e)) (tied.waits h q e);
  calls = tied.calls;
  aside = tied.aside;
  must = tied.must;
  book = book_set J roster.claimed roster.claimed roster.rows rows p (is_some (last_answer J p)) (λ q. false) tied.book is
      (λ q differs. (λ among. among, λ among. among))
      (λ e. inl (some_last (last_answer J p) e))
      (λ e. elim e [ inl some ↦ has_some (last_answer J p) some | inr among ↦ absurd (free among) ]);
}
  where
    blocker : (a b : Option Row) → Blocks a b → is_holding b ≡ true
    blocker None b e = absurd e
    blocker (Some x) None e = absurd e
    blocker (Some x) (Some y) e = e.0

    holds_on : (h q : ℕ) → p ≡ h → IsBlockedBy roster.rows q h → is_some (last_answer J p) ≡ true
    holds_on h q same blocks = elim (tied.book.holds p (ap (λ n. is_holding (row_of roster.rows n)) same ∙ blocker (row_of roster.rows q) (row_of roster.rows h) blocks)) [
      | inl held ↦ elim held.2 [ inl some ↦ has_some (last_answer J p) some | inr among ↦ absurd (free among) ]
      | inr f ↦ absurd (false≢true f.0)
    ]

-- a claim for a first step that is given up gives its locks back and wakes those who waited for them
pub give_up_owes : GiveUpOwes
give_up_owes J number_of roster claimed lists rows p tied fresh less is goes = record {
  listed = λ k q e. let was = stood k q e in (was.0, λ among. was.1 ((less q).0 among).0);
  claims = λ q e. tied.claims q ((less q).0 e).0;
  waits = λ h q e. elim (goes.only (Waits h) q e) [
    | inl f ↦ blocks_on roster.rows rows p false is q h (λ same. absurd (goes.gone q (subst (λ n. StandsIn lists (Waits n) q) (sym same) e))) (tied.waits h q f)
    | inr f ↦ absurd (false≢true f.0)
  ];
  calls = λ s q e. elim (goes.only (Suspended s) q e) [ inl f ↦ tied.calls s q f | inr f ↦ absurd (false≢true f.0) ];
  aside = λ q e. elim (goes.only Held q e) [ inl f ↦ tied.aside q f | inr f ↦ absurd (false≢true f.0) ];
  must = λ q free busy. elim (cases_eq q p) [
    | inl same ↦ inr (eq-eqb q p same)
    | inr differs ↦ elim (tied.must q (λ old. free ((less q).1 (old, differs))) busy) [ inl f ↦ inl (goes.kept q f) | inr f ↦ absurd (false≢true f) ]
  ];
  book = book_set J roster.claimed claimed roster.rows rows p false (λ q. false) tied.book is
      (λ q differs. (λ among. (less q).1 (among, λ same. differs (sym same)), λ among. ((less q).0 among).0))
      (λ e. absurd (false≢true e))
      (λ e. elim e [ inl some ↦ absurd (some fresh) | inr among ↦ absurd (((less p).0 among).1 refl) ]);
}
  where
    stood : (k : Queue) (q : ℕ) → StandsIn lists k q → (IsOpen J q ⊎ IsOver J (λ n. false) q) × (IsIn q roster.claimed → ⊥)
    stood k q e = elim (goes.only k q e) [ inl f ↦ tied.listed k q f | inr f ↦ tied.listed (Waits p) q f.1 ]

-- a claim of one with a step that is given up keeps its locks
pub keep_on_owes : KeepOnOwes
keep_on_owes J number_of roster claimed p tied old less = record {
  listed = λ k q e. ((tied.listed k q e).0, λ among. (tied.listed k q e).1 ((less q).0 among).0);
  claims = λ q e. tied.claims q ((less q).0 e).0;
  waits = tied.waits;
  calls = tied.calls;
  aside = tied.aside;
  must = λ q free busy. elim (cases_eq q p) [
    | inl same ↦ inr (eq-eqb q p same)
    | inr differs ↦ elim (tied.must q (λ among. free ((less q).1 (among, differs))) busy) [ inl f ↦ inl f | inr f ↦ absurd (false≢true f) ]
  ];
  book = record {
    says = tied.book.says;
    enlisted = tied.book.enlisted;
    opened = tied.book.opened;
    left = tied.book.left;
    holds = λ q e. elim (tied.book.holds q e) [ inl h ↦ inl (h.0, h.1, elim h.2 [ inl some ↦ inl some | inr among ↦ goes_on q among ]) | inr f ↦ inr f ];
    held = λ q h. tied.book.held q (h.0, h.1, elim h.2 [ inl some ↦ inl some | inr among ↦ inr ((less q).0 among).0 ]);
  };
}
  where
    goes_on : (q : ℕ) → IsIn q roster.claimed → (last_answer J q ≢ None) ⊎ IsIn q claimed
    goes_on q among = elim (cases_eq q p) [ inl same ↦ inl (λ none. old (ap (last_answer J) (sym same) ∙ none)) | inr differs ↦ inr ((less q).1 (among, differs)) ]

-- one that joins a list isn't owed any more
pub join_owes : JoinOwes
join_owes J number_of roster debts lists queue p legal tied opens free may goes = record {
  listed = λ k q e. elim (goes.only k q e) [ inl f ↦ tied.listed k q f | inr f ↦ subst (λ n. (IsOpen J n ⊎ IsOver J debts.over n) × (IsIn n roster.claimed → ⊥)) (sym f.1) (inl opens, free) ];
  claims = tied.claims;
  waits = λ h q e. elim (goes.only (Waits h) q e) [ inl f ↦ tied.waits h q f | inr f ↦ absurd (subst (MayJoin J number_of p) (sym f.0) may) ];
  calls = λ s q e. elim (goes.only (Suspended s) q e) [
    | inl f ↦ tied.calls s q f
    | inr f ↦ (
        let m : MayJoin J number_of p (Suspended s) = subst (MayJoin J number_of p) (sym f.0) may in
        subst (λ n. (number_of (called_in (node_of J n)) ≡ s) × ((CanGo J n → ⊥) ⊎ (debts.slack n ≡ true))) (sym f.1) (m.0, inl m.1)
        )
  ];
  aside = λ q e. elim (goes.only Held q e) [
    | inl f ↦ tied.aside q f
    | inr f ↦ (
        let m : MayJoin J number_of p Held = subst (MayJoin J number_of p) (sym f.0) may in
        inl (subst (λ n. LacksPick J n × IsCalm J n) (sym f.1) (lacks_pick J legal p m.0 m.1 m.2, go_calm J legal p (inl m.0)))
        )
  ];
  must = λ q apart busy. elim (cases_eq q p) [
    | inl same ↦ inl (queue, subst (StandsIn lists queue) (sym same) goes.there)
    | inr differs ↦ elim (tied.must q apart busy) [ inl f ↦ inl (f.0, goes.kept f.0 q f.1) | inr f ↦ inr (but debts.owed p q f differs) ]
  ];
  book = tied.book;
}

-- nor is one that is claimed, stands somewhere already, or isn't busy
pub owed_less : OwedIsLess
owed_less J number_of roster debts p tied stands = record {
  listed = tied.listed;
  claims = tied.claims;
  waits = tied.waits;
  calls = tied.calls;
  aside = tied.aside;
  must = λ q apart busy. elim (cases_eq q p) [
    | inl same ↦ inl (subst (Stands roster.lists) (sym same) (stands (subst (λ n. IsIn n roster.claimed → ⊥) same apart) (subst (IsBusy J) same busy)))
    | inr differs ↦ elim (tied.must q apart busy) [ inl f ↦ inl f | inr f ↦ inr (but debts.owed p q f differs) ]
  ];
  book = tied.book;
}

-- whose call is out and who can't go on may stay there
pub slack_less : SlackIsLess
slack_less J number_of roster debts p tied still = record {
  listed = tied.listed;
  claims = tied.claims;
  waits = tied.waits;
  calls = λ s q e. (
    (tied.calls s q e).0,
    elim (cases_eq q p) [
      | inl same ↦ inl (λ go. still (subst (CanGo J) same go))
      | inr differs ↦ elim (tied.calls s q e).1 [ inl f ↦ inl f | inr f ↦ inr (but debts.slack p q f differs) ]
    ],
  );
  aside = tied.aside;
  must = tied.must;
  book = tied.book;
}

-- one that is woken isn't out any more
pub wake_owes : WakeOwes
wake_owes J number_of roster debts lists p tied goes = record {
  listed = λ k q e. elim (goes.only k q e) [ inl f ↦ tied.listed k q f | inr f ↦ tied.listed f.1.0 q f.1.1 ];
  claims = tied.claims;
  waits = λ h q e. elim (goes.only (Waits h) q e) [ inl f ↦ tied.waits h q f | inr f ↦ absurd (false≢true f.0) ];
  calls = λ s q e. elim (goes.only (Suspended s) q e) [
    | inl f ↦ (
      (tied.calls s q f).0,
      elim (tied.calls s q f).1 [
        | inl still ↦ inl still
        | inr on ↦ inr (but debts.slack p q on (λ same. goes.gone s (subst (StandsIn lists (Suspended s)) same e)))
      ],
    )
    | inr f ↦ absurd (false≢true f.0)
  ];
  aside = λ q e. elim (goes.only Held q e) [ inl f ↦ tied.aside q f | inr f ↦ absurd (false≢true f.0) ];
  must = λ q apart busy. elim (tied.must q apart busy) [ inl f ↦ inl (goes.kept q f) | inr f ↦ inr f ];
  book = tied.book;
}

-- all of a list are ready
woken : (J : Past) (number_of : Option Server → ℕ) (roster : Roster) (debts : Debts) (lists : List (List ℕ)) (queue : Queue) → IsTiedBut J number_of roster debts → Wakes roster.lists lists queue → IsTiedBut J number_of (record roster { lists = lists }) debts
woken J number_of roster debts lists queue tied goes = record {
  listed = λ k q e. elim (goes.only k q e) [ inl f ↦ tied.listed k q f | inr f ↦ tied.listed queue q f.1 ];
  claims = tied.claims;
  waits = λ h q e. elim (goes.only (Waits h) q e) [ inl f ↦ tied.waits h q f | inr f ↦ absurd (false≢true f.0) ];
  calls = λ s q e. elim (goes.only (Suspended s) q e) [ inl f ↦ tied.calls s q f | inr f ↦ absurd (false≢true f.0) ];
  aside = λ q e. elim (goes.only Held q e) [ inl f ↦ tied.aside q f | inr f ↦ absurd (false≢true f.0) ];
  must = λ q apart busy. elim (tied.must q apart busy) [ inl f ↦ inl (goes.kept q f) | inr f ↦ inr f ];
  book = tied.book;
}

-- nor are those whose calls went to a server that is woken
pub wake_all_owes : WakeAllOwes
wake_all_owes J number_of roster debts lists server tied goes =
    let all = woken J number_of roster debts lists (Suspended server) tied goes in
    record {
      listed = all.listed;
      claims = all.claims;
      waits = all.waits;
      calls = λ s q e. (
        (all.calls s q e).0,
        elim (all.calls s q e).1 [
          | inl still ↦ inl still
          | inr on ↦ inr (and_from (debts.slack q) (not (number_of (called_in (node_of J q)) == server)) on
              (ap not (ne_eqb (number_of (called_in (node_of J q))) server (λ same. goes.gone q (subst (λ n. StandsIn lists (Suspended n) q) (sym (all.calls s q e).0 ∙ same) e)))))
        ],
      );
      aside = all.aside;
      must = all.must;
      book = all.book;
    }

-- after the waking of those set aside none of them may go on unseen
pub wake_held_owes : WakeHeldOwes
wake_held_owes J number_of roster debts lists tied goes =
    let all = woken J number_of roster debts lists Held tied goes in
    record {
      listed = all.listed;
      claims = all.claims;
      waits = all.waits;
      calls = all.calls;
      aside = λ q e. absurd (goes.gone q e);
      must = all.must;
      book = all.book;
    }

-- who has ended leaves its list and the book, and wakes those who waited for it
pub end_owes : EndOwes
end_owes J number_of roster debts between lists rows p legal tied over leaves is goes = record {
  listed = λ k q e.
      let at = stood k q e in
      let was = tied.listed at.0 q at.1 in
      (elim was.0 [ inl f ↦ inl f | inr f ↦ inr (but debts.over p q f.0 at.2, f.1) ], was.1);
  claims = tied.claims;
  waits = λ h q e. elim (goes.only (Waits h) q e) [
    | inl f ↦ blocked q h (λ same. (stood (Waits h) q e).2 (sym same)) (λ same. goes.gone q (subst (λ n. StandsIn lists (Waits n) q) (sym same) e)) (tied.waits h q (leaves.only (Waits h) q f))
    | inr f ↦ absurd (false≢true f.0)
  ];
  calls = λ s q e. elim (goes.only (Suspended s) q e) [ inl f ↦ tied.calls s q (leaves.only (Suspended s) q f) | inr f ↦ absurd (false≢true f.0) ];
  aside = λ q e. elim (goes.only Held q e) [ inl f ↦ tied.aside q (leaves.only Held q f) | inr f ↦ absurd (false≢true f.0) ];
  must = λ q apart busy. elim (tied.must q apart busy) [
    | inl f ↦ inl (goes.kept q (f.0, leaves.kept f.0 q (alive q (busy_open J legal q busy)) f.1))
    | inr f ↦ inr f
  ];
  book = record {
    says = λ q row e. elim (which q) [ inl same ↦ absurd (none-some row (sym (gone q same) ∙ e)) | inr differs ↦ tied.book.says q row (sym (there q differs) ∙ e) ];
    enlisted = λ q e. elim (which q) [
      | inl same ↦ absurd (false≢true (subst (λ (o : Option Row). IsSome o) (gone q same) e))
      | inr differs ↦ elim (tied.book.enlisted q (subst (λ (o : Option Row). IsSome o) (there q differs) e)) [ inl f ↦ inl f | inr f ↦ inr (but debts.over p q f.0 (λ same. differs (sym same)), f.1) ]
    ];
    opened = λ q opens. subst (λ (o : Option Row). IsSome o) (sym (there q (λ same. alive q opens (sym same)))) (tied.book.opened q opens);
    left = λ q e.
        let parts = and_parts (debts.over q) (not (q == p)) e in
        subst (λ (o : Option Row). IsSome o) (sym (there q (λ same. true≢false (sym parts.1 ∙ ap not (eq-eqb q p (sym same)))))) (tied.book.left q parts.0);
    holds = λ q e. elim (which q) [
      | inl same ↦ absurd (false≢true (ap is_holding (sym (gone q same)) ∙ e))
      | inr differs ↦ elim (tied.book.holds q (ap is_holding (sym (there q differs)) ∙ e)) [ inl f ↦ inl f | inr f ↦ inr (but debts.over p q f.0 (λ same. differs (sym same)), f.1) ]
    ];
    held = λ q h. ap is_holding (there q (λ same. alive q (h.0, h.1) (sym same))) ∙ tied.book.held q h;
  };
}
  where
    which : (q : ℕ) → (p ≡ q) ⊎ (p ≢ q)
    which q = cases_eq p q

    gone : (q : ℕ) → p ≡ q → row_of rows q ≡ None
    gone q same = row_here roster.rows rows p None is q same

    there : (q : ℕ) → p ≢ q → row_of rows q ≡ row_of roster.rows q
    there q differs = row_there roster.rows rows p None is q differs

    alive : (q : ℕ) → IsOpen J q → q ≢ p
    alive q opens same = true≢false (sym over ∙ ap (ended J) (sym same) ∙ opens.1)

    stood : (k : Queue) (q : ℕ) → StandsIn lists k q → (k1 : Queue) × StandsIn roster.lists k1 q × (q ≢ p)
    stood k q e = elim (goes.only k q e) [
      | inl f ↦ (k, leaves.only k q f, λ same. leaves.gone k (subst (StandsIn between k) same f))
      | inr f ↦ (Waits p, leaves.only (Waits p) q f.1, λ same. leaves.gone (Waits p) (subst (StandsIn between (Waits p)) same f.1))
    ]

    blocked : (q h : ℕ) → p ≢ q → p ≢ h → IsBlockedBy roster.rows q h → IsBlockedBy rows q h
    blocked q h not_q not_h blocks = subst (λ a. Blocks a (row_of rows h)) (sym (there q not_q)) (subst (Blocks (row_of roster.rows q)) (sym (there h not_h)) blocks)

-- who hasn't ended stays
pub over_less : OverIsLess
over_less J number_of roster debts p tied opens = record {
  listed = λ k q e. (fewer q (tied.listed k q e).0, (tied.listed k q e).1);
  claims = tied.claims;
  waits = tied.waits;
  calls = tied.calls;
  aside = tied.aside;
  must = tied.must;
  book = record {
    says = tied.book.says;
    enlisted = λ q e. fewer q (tied.book.enlisted q e);
    opened = tied.book.opened;
    left = λ q e. tied.book.left q (and_parts (debts.over q) (not (q == p)) e).0;
    holds = λ q e. elim (tied.book.holds q e) [ inl f ↦ inl f | inr f ↦ elim (fewer q (inr f)) [ inl on ↦ absurd (true≢false (sym f.1 ∙ on.1)) | inr off ↦ inr off ] ];
    held = tied.book.held;
  };
}
  where
    fewer : (q : ℕ) → IsOpen J q ⊎ IsOver J debts.over q → IsOpen J q ⊎ IsOver J (without debts.over p) q
    fewer q (inl f) = inl f
    fewer q (inr f) = elim (cases_eq q p) [ inl same ↦ inl (subst (IsOpen J) (sym same) opens) | inr differs ↦ inr (but debts.over p q f.0 differs, f.1) ]
