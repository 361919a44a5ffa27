-- Each event keeps what is kept of claims.
use Rattle.std.proofs.Common.{◌≡◌, ◌≢◌, ℕ, List, [], ◌∷◌, ◌==◌, not, map, Bool, true, false, cond, None, is_some, refl, ap, sym, ◌∙◌, subst, inl, inr, ◌⊎◌}
use Rattle.std.specs.List.{filter}
use Rattle.std.proofs.lemmas.Bool.{eq-eqb, ne_eqb, not_from_false, true≢false}
use Rattle.std.proofs.lemmas.Option.{none-some}
use Rattle.hm_data.specs.declared.entry.Entry.{Entry}
use Rattle.hm_data.specs.declared.entry.Entry.TheVariants as entry_is
use Rattle.hm_model.specs.Answers.{last_answer}
use Rattle.hm_model.specs.Journal.{Past}
use Rattle.hm_model.specs.Locks.{IsIn}
use Rattle.hm_model.specs.Rest.{MayStepPicked, MayUndo}
use Rattle.hm_model.specs.Rules.{IsLegal}
use Rattle.hm_model.specs.Tree.{node_of}
use Rattle.hm_world_model.specs.Claims.{AreOnce, IsApart}
use Rattle.hm_world_model.specs.Events.{Claim, Commit, GiveUp, Works, happens, unclaimed, untaken}
use Rattle.hm_world_model.specs.Runs.{IsWork, May}
use Rattle.hm_world_model.specs.World.{Claimed, World, claimed_pids}
use Rattle.hm_model.specs.Taking.{StepsFree}
use Rattle.hm_world_model.proofs.Apart.{apart_on, apart_taken, apart_within}

-- who may go on is there
available_there : (J : Past) (p : ℕ) → MayStepPicked J p ⊎ MayUndo J p → node_of J p ≢ None
available_there J p (inl m) none = none-some m.0 (sym none ∙ m.1)
available_there J p (inr m) none = none-some m.0 (sym none ∙ m.1)

-- who is left where one is taken out
filtered : (test : ℕ → Bool) (p : ℕ) (list : List ℕ) → IsIn p (filter test list) → IsIn p list
filtered test p [] h = absurd h
filtered test p (x ∷ list) h = by (λ more. filtered test p list more) (test x) h
  where
    by : (IsIn p (filter test list) → IsIn p list) → (b : Bool) → IsIn p (cond b (x ∷ filter test list) (filter test list)) → IsIn p (x ∷ list)
    by later true (inl same) = inl same
    by later true (inr more) = inr (later more)
    by later false more = inr (later more)

stays_in : (test : ℕ → Bool) (p : ℕ) (list : List ℕ) → test p ≡ true → IsIn p list → IsIn p (filter test list)
stays_in test p [] on h = absurd h
stays_in test p (x ∷ list) on h = by (λ more. stays_in test p list on more) (test x) refl h
  where
    by : (IsIn p list → IsIn p (filter test list)) → (b : Bool) → test x ≡ b → (p ≡ x) ⊎ IsIn p list → IsIn p (cond b (x ∷ filter test list) (filter test list))
    by later true e (inl same) = inl same
    by later true e (inr more) = inr (later more)
    by later false e (inl same) = absurd (true≢false (sym on ∙ ap test same ∙ e))
    by later false e (inr more) = later more

untaken_within : (stepped : Bool) (taken : List ℕ) (p q : ℕ) → IsIn q (untaken stepped taken p) → IsIn q taken
untaken_within true taken p q h = h
untaken_within false taken p q h = filtered (λ x. not (x == p)) q taken h

untaken_keeps : (stepped : Bool) (taken : List ℕ) (p q : ℕ) → q ≢ p → IsIn q taken → IsIn q (untaken stepped taken p)
untaken_keeps true taken p q differs h = h
untaken_keeps false taken p q differs h = stays_in (λ x. not (x == p)) q taken (not_from_false (q == p) (ne_eqb q p differs)) h

-- who is still claimed was, and is another
still_claimed : (claims : List Claimed) (p q : ℕ) → IsIn q (map (λ (claim : Claimed). claim.pid) (unclaimed claims p)) → IsIn q (map (λ (claim : Claimed). claim.pid) claims) × (q ≢ p)
still_claimed [] p q h = absurd h
still_claimed (claim ∷ claims) p q h = here (λ more. still_claimed claims p q more) (claim.pid == p) refl h
  where
    here : (IsIn q (map (λ (c : Claimed). c.pid) (unclaimed claims p)) → IsIn q (map (λ (c : Claimed). c.pid) claims) × (q ≢ p))
        → (b : Bool) → (claim.pid == p) ≡ b → IsIn q (map (λ (c : Claimed). c.pid) (cond (not b) (claim ∷ unclaimed claims p) (unclaimed claims p))) → IsIn q (map (λ (c : Claimed). c.pid) (claim ∷ claims)) × (q ≢ p)
    here later false e (inl same) = (inl same, λ own. true≢false (sym (eq-eqb claim.pid p (sym same ∙ own)) ∙ e))
    here later false e (inr more) = let k = later more in (inr k.0, k.1)
    here later true e more = let k = later more in (inr k.0, k.1)

still_once : (claims : List Claimed) (p : ℕ) → AreOnce (map (λ (claim : Claimed). claim.pid) claims) → AreOnce (map (λ (claim : Claimed). claim.pid) (unclaimed claims p))
still_once [] p once = tt
still_once (claim ∷ claims) p once = by (still_once claims p once.1) (claim.pid == p)
  where
    by : AreOnce (map (λ (c : Claimed). c.pid) (unclaimed claims p)) → (b : Bool) → AreOnce (map (λ (c : Claimed). c.pid) (cond (not b) (claim ∷ unclaimed claims p) (unclaimed claims p)))
    by later false = ((λ h. once.0 (still_claimed claims p claim.pid h).0), later)
    by later true = later

claimed_in : (claim : Claimed) (claims : List Claimed) → IsIn claim claims → IsIn claim.pid (map (λ (c : Claimed). c.pid) claims)
claimed_in claim [] h = absurd h
claimed_in claim (first ∷ claims) (inl same) = inl (ap (λ (c : Claimed). c.pid) same)
claimed_in claim (first ∷ claims) (inr more) = inr (claimed_in claim claims more)

-- the work of one who is claimed is of one who was taken
work_free : (past : Past) (claim : Claimed) (taken : List ℕ) (entry : Entry) → IsIn claim.pid taken → IsWork past claim entry → StepsFree past taken entry
work_free past claim taken (entry_is.Step pid pick out) among work = inl (subst (λ p. IsIn p taken) (sym work.0) among)
work_free past claim taken entry among work = tt

module _ (w : World) (apart : IsApart w.past w.taken (claimed_pids w)) (legal : IsLegal w.past) where
  -- an entry of nobody
  pub apart_plain : (entry : Entry) → IsLegal (entry ∷ w.past) → StepsFree w.past w.taken entry → IsApart (entry ∷ w.past) w.taken (claimed_pids w)
  apart_plain entry l free = apart_on entry w.past l w.taken (claimed_pids w) apart free

  pub apart_claim : (claim : Claimed) → May w (Works (Claim claim)) → IsApart w.past (claim.pid ∷ w.taken) (claim.pid ∷ claimed_pids w)
  apart_claim claim may = apart_taken w.past w.taken (claimed_pids w) claim.pid apart may.1.0 (available_there w.past claim.pid may.1.2) may.2

  pub apart_commit : (claim : Claimed) (entry : Entry) → IsLegal (entry ∷ w.past) → May w (Works (Commit claim entry)) → IsApart (entry ∷ w.past) w.taken (claimed_pids (happens w (Works (Commit claim entry))))
  apart_commit claim entry l may =
      let on = apart_on entry w.past l w.taken (claimed_pids w) apart (work_free w.past claim w.taken entry (apart.among claim.pid (claimed_in claim w.claimed may.0)) may.1) in
      apart_within (entry ∷ w.past) w.taken (claimed_pids w) w.taken (claimed_pids (happens w (Works (Commit claim entry)))) on (λ p h. h) (λ p h. apart.among p (still_claimed w.claimed claim.pid p h).0) (still_once w.claimed claim.pid apart.once)

  pub apart_give_up : (claim : Claimed) → IsApart w.past (happens w (Works (GiveUp claim))).taken (claimed_pids (happens w (Works (GiveUp claim))))
  apart_give_up claim =
      apart_within w.past w.taken (claimed_pids w) (untaken (is_some (last_answer w.past claim.pid)) w.taken claim.pid) (claimed_pids (happens w (Works (GiveUp claim)))) apart
      (λ p h. untaken_within (is_some (last_answer w.past claim.pid)) w.taken claim.pid p h)
      (λ p h. let k = still_claimed w.claimed claim.pid p h in untaken_keeps (is_some (last_answer w.past claim.pid)) w.taken claim.pid p k.1 (apart.among p k.0))
      (still_once w.claimed claim.pid apart.once)
