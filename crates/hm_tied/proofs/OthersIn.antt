-- What submissions, servers that come and go, reports and aborts leave to do.
use Rattle.std.proofs.Common.{Bool, List, Option, Some, ap, false, inl, inr, is_none, not, refl, subst, sym, true, ℕ, ◌+◌, ◌==◌, ◌||◌, ◌∙◌, ◌∷◌, ◌≡◌, ◌≢◌, ◌⊎◌}
use Rattle.std.proofs.lemmas.Bool.{and_from, cases_Bool, cases_eq, cond-false, eq-eqb, false≢true, ne_eqb, or_left, or_right}
use Rattle.std.proofs.lemmas.Option.{none-some}
use Rattle.hm_names.specs.declared.pid.Pid.{Pid}
use Rattle.hm_names.specs.Server.{Server}
use Rattle.hm_data.specs.declared.args.Args.{Args}
use Rattle.hm_data.specs.declared.call.Told.{Told}
use Rattle.hm_data.specs.declared.entry.Entry.{Entry}
use Rattle.hm_data.specs.declared.entry.Entry.TheVariants as entry_is
use Rattle.hm_data.specs.declared.place.RegionState.TheVariants as place_is
use Rattle.hm_model.specs.Answers.{is_aborted, last_answer, report_of}
use Rattle.hm_model.specs.Apart.{tree_of}
use Rattle.hm_model.specs.Inputs.{fenced_if, undoes}
use Rattle.hm_model.specs.Journal.{Past}
use Rattle.hm_model.specs.Rest.{IsAnswered}
use Rattle.hm_model.specs.Rules.{IsLegal}
use Rattle.hm_model.specs.TransitActs.{is_state, told_place}
use Rattle.hm_model.specs.Tree.{Node, made, node_of}
use Rattle.hm_model.specs.Phase.{ended, phase}
use Rattle.hm_model.specs.Whereabouts.{called_by, moved_by}
use Rattle.hm_model.proofs.Grown.{nodes_stay}
use Rattle.hm_model.proofs.Trees.{grown_all, some_of}
use Rattle.hm_tied.specs.Bounds.{Bounds}
use Rattle.hm_tied.specs.Tied.{CanGo, IsBusy, IsCalm}
use Rattle.hm_tied.specs.TiedIn.{IsTied, IsTiedBut, LacksPick, Roster, no_debts}
use Rattle.hm_tied.specs.Entries.{is_fenced_by}
use Rattle.hm_tied.specs.EntriesIn.{AbortTies, AdoptTies, DownOwes, ReportOwes, SubmitOwes, UpOwes, late_debts, report_debts, root_debts}
use Rattle.hm_tied.proofs.AbortedIn.{unaborted}
use Rattle.hm_tied.proofs.EnteringIn.{Changes, changed, same_enlists}
use Rattle.hm_model.proofs.Running.{awaits_call, run_open, unstepped_open}
use Rattle.hm_tied.proofs.Picking.{place_same}
use Rattle.hm_tied.proofs.PickingIn.{fits_back, SeesSame}
use Rattle.hm_tied.proofs.Staying.{SameCalls, going_same, old_tree, same_calm, same_go, same_tree, same_undoes}
use Rattle.hm_tied.proofs.StayingIn.{lacks_after}

-- an entry that makes a root and does nothing else
module _ (bounds : Bounds) (entry : Entry) (J : Past) (legal : IsLegal (entry ∷ J)) (tree : tree_of J entry ≡ made J + 1) (last : (q : ℕ) → last_answer (entry ∷ J) q ≡ last_answer J q) (calls : SameCalls J (entry ∷ J)) (late : Bool) (claimed : List ℕ) where
  -- all that were there are of other trees
  apart : (q : ℕ) (x : Node) → node_of J q ≡ Some x → x.root ≢ tree_of J entry
  apart q x is same = old_tree J legal.0 q x is (same ∙ tree)

  pub rooted : ((q : ℕ) → LacksPick bounds J q → LacksPick bounds (entry ∷ J) q ⊎ (late ≡ true)) → Changes bounds J (entry ∷ J) claimed claimed (root_debts J late)
  rooted lacks = record {
    stays = nodes_stay entry J legal;
    fresh = λ q none. let fresh = last q ∙ (grown_all J legal.0).unmade q none in (fresh, unstepped_open (entry ∷ J) legal q fresh);
    made = λ q none some. ap (λ o. is_none o) none;
    ends = λ q some. let x = some_of (node_of J q) some in let tree = same_tree entry J legal q x.0 x.1 (apart q x.0 x.1) in inl (tree.ends q x.0 x.1 refl);
    were = λ q over. absurd (false≢true over);
    fewer = λ q among. among;
    free = λ q free. inl free;
    lasting = λ q among over. absurd (false≢true over);
    calm = λ q some among. (let x = some_of (node_of J q) some in calm q x.0 x.1);
    held = λ q held. elim held [ inl some ↦ inl (λ none. some (sym (last q) ∙ none)) | inr among ↦ inr among ];
    holds = λ q some held. elim held [ inl step ↦ inl (λ none. step (last q ∙ none)) | inr among ↦ inr among ];
    lasts = λ q free. last q;
    goes = λ q some go. let x = some_of (node_of J q) some in inl (same_go entry J legal q x.0 x.1 (apart q x.0 x.1) calls go);
    owes = λ q some go. let x = some_of (node_of J q) some in inl (inl (same_go entry J legal q x.0 x.1 (apart q x.0 x.1) calls go));
    picks = λ q free lack is_calm. elim (lacks q lack) [ inl on ↦ inl (on, calm q lack.0 lack.1 is_calm) | inr on ↦ inr on ];
  }
    where
      calm : (q : ℕ) (x : Node) → node_of J q ≡ Some x → IsCalm J q → IsCalm (entry ∷ J) q
      calm q x is = same_calm entry J legal q x is (apart q x is)

pub submit_owes : SubmitOwes
submit_owes nonce request J number_of roster rows legal tied enlists =
    changed J after legal number_of roster roster.claimed rows (root_debts J false) tied changes enlists
  where
    after : Past
    after = entry_is.Submit nonce request ∷ J

    calls : SameCalls J after
    calls = record { reports = λ q. refl; fenced = λ s e. e }

    sees : (q : ℕ) (args : Args) → SeesSame J after q args
    sees q args = record { last = refl; aborted = refl; rows = refl; place = inl (place_same J after (λ region. refl) (moved_by args)); opening = λ off. ap (λ p. is_state place_is.Opening (told_place p)) (place_same J after (λ region. refl) (moved_by args)) ∙ off; fenced = λ s e. e }

    lacks : (q : ℕ) → LacksPick roster.bounds J q → LacksPick roster.bounds after q ⊎ (false ≡ true)
    lacks q lack = inl (lacks_after roster.bounds (entry_is.Submit nonce request) J legal q lack (
      same_undoes (entry_is.Submit nonce request) J legal q lack.0 lack.1 (apart roster.bounds (entry_is.Submit nonce request) J legal refl (λ p. refl) calls false roster.claimed q lack.0 lack.1) ∙ lack.2,
      sees q (let x = lack.0 in x.args),
    ) (λ s allowed fits. fits_back J after (λ z. refl) (λ z. refl) q lack.0 refl (place_same J after (λ region. refl) (let x = lack.0 in moved_by x.args)) s fits))

    changes : Changes roster.bounds J after roster.claimed roster.claimed (root_debts J false)
    changes = rooted roster.bounds (entry_is.Submit nonce request) J legal refl (λ p. refl) calls false roster.claimed lacks

pub down_owes : DownOwes
down_owes server J number_of roster rows legal tied enlists =
    changed J (entry_is.Down server ∷ J) legal number_of roster roster.claimed rows (root_debts J true) tied
    (rooted roster.bounds (entry_is.Down server) J legal refl (λ p. refl) (record { reports = λ q. refl; fenced = λ s e. e }) true roster.claimed (λ q lack. inr refl)) enlists

-- an entry that makes nobody and no step
module _ (bounds : Bounds) (entry : Entry) (J : Past) (legal : IsLegal (entry ∷ J)) (nodes : (q : ℕ) → node_of (entry ∷ J) q ≡ node_of J q) (last : (q : ℕ) → last_answer (entry ∷ J) q ≡ last_answer J q) (ends : (q : ℕ) → ended (entry ∷ J) q ≡ ended J q) (calm : (q : ℕ) → IsCalm J q → IsCalm (entry ∷ J) q) (slack : ℕ → Bool) (late : Bool) (claimed : List ℕ) where
  pub mild : ((q : ℕ) → CanGo (entry ∷ J) q → CanGo J q ⊎ (slack q ≡ true)) → ((q : ℕ) → CanGo (entry ∷ J) q → IsBusy J q) → ((q : ℕ) → LacksPick bounds J q → LacksPick bounds (entry ∷ J) q ⊎ (late ≡ true))
      → Changes bounds J (entry ∷ J) claimed claimed (record { owed = λ q. false; slack = slack; over = λ q. false; late = λ q. late })
  mild goes busy lacks = record {
    stays = λ q x is. nodes q ∙ is;
    fresh = λ q none. let fresh = last q ∙ (grown_all J legal.0).unmade q none in (fresh, unstepped_open (entry ∷ J) legal q fresh);
    made = λ q none some. absurd (some (nodes q ∙ none));
    ends = λ q some. inl (ends q);
    were = λ q over. absurd (false≢true over);
    fewer = λ q among. among;
    free = λ q free. inl free;
    lasting = λ q among over. absurd (false≢true over);
    calm = λ q some among. calm q;
    held = λ q held. elim held [ inl some ↦ inl (λ none. some (sym (last q) ∙ none)) | inr among ↦ inr among ];
    holds = λ q some held. elim held [ inl step ↦ inl (λ none. step (last q ∙ none)) | inr among ↦ inr among ];
    lasts = λ q free. last q;
    goes = λ q some go. goes q go;
    owes = λ q some go. inl (busy q go);
    picks = λ q free lack is_calm. elim (lacks q lack) [ inl on ↦ inl (on, calm q is_calm) | inr on ↦ inr on ];
  }

-- an entry after which those set aside alone are looked at
look_aside : (entry : Entry) (J : Past) (number_of : Option Server → ℕ) (roster : Roster) → IsLegal (entry ∷ J) → ((q : ℕ) → node_of (entry ∷ J) q ≡ node_of J q) → ((q : ℕ) → last_answer (entry ∷ J) q ≡ last_answer J q) → ((q : ℕ) → ended (entry ∷ J) q ≡ ended J q)
    → ((q : ℕ) → IsCalm J q → IsCalm (entry ∷ J) q) → SameCalls J (entry ∷ J) → ((q : ℕ) (x : Node) → phase (entry ∷ J) q x ≡ phase J q x) → ((q : ℕ) (x : Node) → undoes (entry ∷ J) q x ≡ undoes J q x)
    → IsTied J number_of roster → IsTiedBut (entry ∷ J) number_of roster late_debts
look_aside entry J number_of roster legal nodes last ends calm calls phases undos tied =
    changed J (entry ∷ J) legal number_of roster roster.claimed roster.rows late_debts tied
    (mild roster.bounds entry J legal nodes last ends calm (λ q. false) true roster.claimed (λ q go. inl (before q go)) (λ q go. inl (before q go)) (λ q lack. inr refl))
    (same_enlists J (entry ∷ J) number_of roster tied nodes)
  where
    before : (q : ℕ) → CanGo (entry ∷ J) q → CanGo J q
    before = going_same entry J nodes calls phases undos

pub up_owes : UpOwes
up_owes server J number_of roster legal =
    look_aside (entry_is.Up server) J number_of roster legal (λ q. refl) (λ q. refl) (λ q. refl) (λ q calm. calm) (record { reports = λ q. refl; fenced = λ s e. e }) (λ q x. refl) (λ q x. refl)

pub abort_ties : AbortTies
abort_ties pid J number_of roster legal tied =
    changed J after legal number_of roster roster.claimed roster.rows no_debts tied
    (mild roster.bounds (entry_is.Abort pid) J legal (λ q. refl) (λ q. refl) (λ q. refl) (λ q calm. calm) (λ q. false) false roster.claimed (λ q go. inl (before q go)) (λ q go. inl (before q go)) lacks)
    (same_enlists J after number_of roster tied (λ q. refl))
  where
    after : Past
    after = entry_is.Abort pid ∷ J

    before : (q : ℕ) → CanGo after q → CanGo J q
    before = going_same (entry_is.Abort pid) J (λ q. refl) (record { reports = λ q. refl; fenced = λ s e. e }) (λ q x. refl) (λ q x. refl)

    lacks : (q : ℕ) → LacksPick roster.bounds J q → LacksPick roster.bounds after q ⊎ (false ≡ true)
    lacks q lack = elim (cases_eq q pid.0) [
      | inl own ↦ absurd (unaborted roster.bounds pid J legal (subst (LacksPick roster.bounds J) own lack))
      | inr differs ↦ inl (lacks_after roster.bounds (entry_is.Abort pid) J legal q lack (
        lack.2,
        record { last = refl; aborted = cond-false (q == pid.0) true (is_aborted J q) (ne_eqb q pid.0 differs); rows = refl; place = inl (place_same J after (λ region. refl) (let x = lack.0 in moved_by x.args)); opening = λ off. ap (λ p. is_state place_is.Opening (told_place p)) (place_same J after (λ region. refl) (let x = lack.0 in moved_by x.args)) ∙ off; fenced = λ s e. e },
      ) (λ s allowed fits. fits_back J after (λ z. refl) (λ z. refl) q lack.0 refl (place_same J after (λ region. refl) (let x = lack.0 in moved_by x.args)) s fits))
    ]

pub adopt_ties : AdoptTies
adopt_ties sheets J number_of roster legal tied =
    changed J after legal number_of roster roster.claimed roster.rows no_debts tied
    (mild roster.bounds (entry_is.Adopt sheets) J legal (λ q. refl) (λ q. refl) (λ q. refl) (λ q calm. calm) (λ q. false) false roster.claimed (λ q go. inl (before q go)) (λ q go. inl (before q go)) lacks)
    (same_enlists J after number_of roster tied (λ q. refl))
  where
    after : Past
    after = entry_is.Adopt sheets ∷ J

    before : (q : ℕ) → CanGo after q → CanGo J q
    before = going_same (entry_is.Adopt sheets) J (λ q. refl) (record { reports = λ q. refl; fenced = λ s e. e }) (λ q x. refl) (λ q x. refl)

    lacks : (q : ℕ) → LacksPick roster.bounds J q → LacksPick roster.bounds after q ⊎ (false ≡ true)
    lacks q lack = inl (lacks_after roster.bounds (entry_is.Adopt sheets) J legal q lack (
      lack.2,
      record { last = refl; aborted = refl; rows = refl; place = inl (place_same J after (λ region. refl) (let x = lack.0 in moved_by x.args)); opening = λ off. ap (λ p. is_state place_is.Opening (told_place p)) (place_same J after (λ region. refl) (let x = lack.0 in moved_by x.args)) ∙ off; fenced = λ s e. e },
    ) (λ s allowed fits. fits_back J after (λ z. refl) (λ z. refl) q lack.0 refl (place_same J after (λ region. refl) (let x = lack.0 in moved_by x.args)) s fits))

-- a report
module _ (bounds : Bounds) (call : Pid) (told : Told) (J : Past) (legal : IsLegal (entry_is.Report call told ∷ J)) where
  abbrev heard : Past
  heard = entry_is.Report call told ∷ J

  abbrev slack : ℕ → Bool
  slack q = (q == call.0) || is_fenced_by J heard (node_of J q)

  -- who is answered now was answered, or is told of by the report
  answered : (q : ℕ) (x : Node) → node_of J q ≡ Some x → IsAnswered heard q x → IsAnswered J q x ⊎ (slack q ≡ true)
  answered q x is (inl some) = elim (cases_eq q call.0) [
    | inl same ↦ inr (or_left (q == call.0) (is_fenced_by J heard (node_of J q)) (eq-eqb q call.0 same))
    | inr differs ↦ inl (inl (λ none. some (cond-false (q == call.0) (Some told) (report_of J q) (ne_eqb q call.0 differs) ∙ none)))
  ]
  answered q x is (inr fenced) = elim (cases_Bool (fenced_if J (called_by x.args))) [
    | inl on ↦ inl (inr on)
    | inr off ↦ inr (or_right (q == call.0) (is_fenced_by J heard (node_of J q))
        (ap (is_fenced_by J heard) is ∙ and_from (fenced_if heard (called_by x.args)) (not (fenced_if J (called_by x.args))) fenced (ap not off)))
  ]

  goes : (q : ℕ) → CanGo heard q → CanGo J q ⊎ (slack q ≡ true)
  goes q (inr undo) = inl (inr undo)
  goes q (inl (x, is, inl on)) = inl (inl (x, is, inl on))
  goes q (inl (x, is, inr waits)) = elim (answered q x is waits.1) [ inl was ↦ inl (inl (x, is, inr (waits.0, was))) | inr on ↦ inr on ]

  busy : (q : ℕ) → CanGo heard q → IsBusy J q
  busy q (inr undo) = inl (inr undo)
  busy q (inl (x, is, inl on)) = inl (inl (x, is, inl on))
  busy q (inl (x, is, inr waits)) = inr (((λ none. none-some x (sym none ∙ is)), run_open J legal.0 q x is (inr waits.0)), awaits_call J q x waits.0)

  lacks : (q : ℕ) → LacksPick bounds J q → LacksPick bounds heard q ⊎ (false ≡ true)
  lacks q lack = inl (lacks_after bounds (entry_is.Report call told) J legal q lack (
    lack.2,
    record { last = refl; aborted = refl; rows = refl; place = inl (place_same J heard (λ region. refl) (let x = lack.0 in moved_by x.args)); opening = λ off. ap (λ p. is_state place_is.Opening (told_place p)) (place_same J heard (λ region. refl) (let x = lack.0 in moved_by x.args)) ∙ off; fenced = λ s e. or_right _ _ e },
  ) (λ s allowed fits. fits_back J heard (λ z. refl) (λ z. refl) q lack.0 refl (place_same J heard (λ region. refl) (let x = lack.0 in moved_by x.args)) s fits))

  pub heard_changes : (claimed : List ℕ) → Changes bounds J heard claimed claimed (report_debts J heard call.0)
  heard_changes claimed = mild bounds (entry_is.Report call told) J legal (λ q. refl) (λ q. refl) (λ q. refl) (λ q calm. calm) slack false claimed goes busy lacks

pub report_owes : ReportOwes
report_owes call told J number_of roster legal tied =
    changed J (entry_is.Report call told ∷ J) legal number_of roster roster.claimed roster.rows (report_debts J (entry_is.Report call told ∷ J) call.0) tied
    (heard_changes roster.bounds call told J legal roster.claimed) (same_enlists J (entry_is.Report call told ∷ J) number_of roster tied (λ q. refl))
