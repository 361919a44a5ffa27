-- How many descendants haven't ended, after an entry.
use Rattle.std.proofs.Common.{◌≡◌, ◌≢◌, ℕ, zero, suc, ◌+◌, ◌-◌, ◌<◌, ◌≤◌, ◌&&◌, List, [], ◌∷◌, Bool, true, false, not, if◌then◌else◌, Option, Some, None, is_some, length, slice_get, refl, ap, sym, ◌∙◌, inl, inr, arith}
use Rattle.std.specs.Option.{option_map}
use Rattle.std.proofs.lemmas.Bool.{and_left, cases_eq}
use Rattle.std.proofs.lemmas.Option.{none-some, same_Some}
use Rattle.hm_names.specs.Server.{Server}
use Rattle.hm_names.specs.declared.pid.Pid.{Pid}
use Rattle.hm_data.specs.declared.args.Args.{Args}
use Rattle.hm_data.specs.declared.entry.Entry.{Entry}
use Rattle.hm_data.specs.declared.entry.Entry.TheVariants as entry_is
use Rattle.hm_data.specs.declared.part.Part.{Part}
use Rattle.hm_data.specs.declared.record.Record.{Record}
use Rattle.hm_data.specs.declared.step.StepOut.{StepOut}
use Rattle.hm_model.specs.Answers.{is_stop, is_stopped, last_answer}
use Rattle.hm_model.specs.Base.{PartFits}
use Rattle.hm_model.specs.Counts.{count_below, one_if}
use Rattle.hm_model.specs.Journal.{Past}
use Rattle.hm_model.specs.Phase.{ended, ended_node, root_ended}
use Rattle.hm_model.specs.Records.{record_at, record_of, unfinished}
use Rattle.hm_model.specs.Rules.{IsLegal}
use Rattle.hm_model.specs.Tree.{Node, args_in, is_root, is_root_in, is_top, made, node_of, parent_in, pid_of, root_node}
use Rattle.hm_model.specs.Waiting.{children_made, ends_one}
use Rattle.hm_model.proofs.Counting.{count_same}
use Rattle.hm_model.proofs.Grown.{down_new, down_old, grown_all, made_up_to, not_stepped, step_old, stepped, submit_new, submit_old, undo_new, undo_old}
use Rattle.hm_model.proofs.LegalSteps.{ready_stops}
use Rattle.hm_model.proofs.Parted.{by_parts, count_none}
use Rattle.hm_model.proofs.Trees.{grown_all as trees_all, new_child, step_of}
use Rattle.hm_procedures.specs.Below.{is_below, is_open_below, open_below}
use Rattle.hm_procedures.specs.Kept.{args_made}
use Rattle.hm_procedures.specs.Procedures.{is_unfinished, unfinished_procedures}
use Rattle.hm_procedures.proofs.Counts.{count_more, count_most}

-- a root is no descendant
below_root : (o : Option Node) → ((x : Node) → o ≡ Some x → is_top x.above ≡ true) → is_below o ≡ false
below_root None e = refl
below_root (Some x) e = ap not (e x refl)

-- an entry that makes roots alone
roots_only : (J J' : Past) (m : ℕ) → made J' ≡ made J + m → ((q : ℕ) → q ≤ made J → node_of J' q ≡ node_of J q) → ((q : ℕ) → made J < q → is_below (node_of J' q) ≡ false)
    → ((q : ℕ) → last_answer J' q ≡ last_answer J q) → open_below J' ≡ open_below J
roots_only J J' m made_is old new lasts =
    let place : made J' + 1 ≡ made J + 1 + m = omega (arith, made_is) in
    let more = count_more m (made J + 1) (is_open_below J') false (λ q ge lt. and_left (is_below (node_of J' q)) (not (is_stopped (last_answer J' q))) (new q (omega (arith, ge)))) in
    let same = count_same (made J + 1) (is_open_below J') (is_open_below J) (λ q lt. ap (λ o. is_below o && not (is_stopped (last_answer J' q))) (old q (omega (arith, lt))) ∙ ap (λ l. is_below (node_of J q) && not (is_stopped l)) (lasts q)) in
    ap (count_below (is_open_below J')) place ∙ omega (arith, more, same)

-- one test that one number leaves, where it ends
count_ends : (n : ℕ) (one other : ℕ → Bool) (p : ℕ) (a ends : Bool) → p < n → ((q : ℕ) → q < n → q ≢ p → other q ≡ one q) → one p ≡ a → other p ≡ (a && not ends) → count_below other n + one_if (a && ends) ≡ count_below one n
count_ends zero one other p a ends lt same was own = absurd (omega (arith, lt))
count_ends (suc n) one other p a ends lt same was own = elim (cases_eq p n) [
  | inl here ↦
      let rest = count_same n other one (λ q l. same q (omega (arith, l)) (λ e. omega (arith, l, e, here))) in
      let later : one_if (other n) ≡ one_if (a && not ends) = ap one_if (ap other (sym here) ∙ own) in
      let first : one_if (one n) ≡ one_if a = ap one_if (ap one (sym here) ∙ was) in
      let sum = by a ends in
      omega (arith, rest, later, first, sum)
  | inr differs ↦
      let rest = count_ends n one other p a ends (omega (arith, lt, differs)) (λ q l. same q (omega (arith, l))) was own in
      let here : one_if (other n) ≡ one_if (one n) = ap one_if (same n (omega arith) (λ e. differs (sym e))) in
      omega (arith, rest, here)
]
  where
    by : (a b : Bool) → one_if (a && not b) + one_if (a && b) ≡ one_if a
    by true true = refl
    by true false = refl
    by false b = refl

module _ (pid : Pid) (pick : Option Server) (out : StepOut) (J : Past) (legal : IsLegal (entry_is.Step pid pick out ∷ J)) where
  abbrev after : Past
  after = entry_is.Step pid pick out ∷ J

  abbrev me : Node
  me = legal.1.1.0.0

  is_me : node_of J pid.0 ≡ Some me
  is_me = legal.1.1.0.1

  low : pid.0 ≤ made J
  low = (made_up_to J (grown_all J legal.0) pid.0 me is_me).1

  ran : is_stopped (last_answer J pid.0) ≡ false
  ran = let step = step_of pid pick out J (trees_all J legal.0) legal in ready_stops J pid.0 step.node (last_answer J pid.0) step.ready

  -- who steps hadn't ended
  own_was : is_open_below J pid.0 ≡ is_below (node_of J pid.0)
  own_was = ap (λ s. is_below (node_of J pid.0) && not s) ran ∙ by (is_below (node_of J pid.0))
    where
      by : (a : Bool) → (a && true) ≡ a
      by true = refl
      by false = refl

  own_now : is_open_below after pid.0 ≡ (is_below (node_of J pid.0) && not (is_stop out.answer))
  own_now = ap (λ o. is_below o && not (is_stopped (last_answer after pid.0))) (step_old pid pick out J pid.0 low) ∙ ap (λ l. is_below (node_of J pid.0) && not (is_stopped l)) (stepped pid pick out J)

  other_now : (q : ℕ) → q ≤ made J → q ≢ pid.0 → is_open_below after q ≡ is_open_below J q
  other_now q le differs = ap (λ o. is_below o && not (is_stopped (last_answer after q))) (step_old pid pick out J q le) ∙ ap (λ l. is_below (node_of J q) && not (is_stopped l)) (not_stepped pid pick out J q differs)

  -- what it makes is open
  new_now : (q : ℕ) → made J < q → q ≤ made after → is_open_below after q ≡ true
  new_now q lt le =
      let least = (grown_all J legal.0).low in
      let there = (grown_all after legal).there q (omega (arith, lt, least)) le in
      let c = new_child pid pick out J me is_me q lt there.0 there.1 in
      let few = low in
      ap (λ o. is_below o && not (is_stopped (last_answer after q))) (there.1 ∙ ap Some c.2)
      ∙ ap (λ l. not (is_stopped l)) (not_stepped pid pick out J q (λ e. omega (arith, e, few, lt)) ∙ (grown_all J legal.0).unmade q ((grown_all J legal.0).numbered q lt))

  below_step : open_below after + one_if (is_below (node_of J pid.0) && is_stop out.answer) ≡ open_below J + length (args_in out.children)
  below_step =
      let few = low in
      let place : made after + 1 ≡ made J + 1 + length (args_in out.children) = omega arith in
      let more = count_more (length (args_in out.children)) (made J + 1) (is_open_below after) true (λ q ge lt. new_now q (omega (arith, ge)) (omega (arith, lt))) in
      let ends = count_ends (made J + 1) (is_open_below J) (is_open_below after) pid.0 (is_below (node_of J pid.0)) (is_stop out.answer) (omega (arith, few)) (λ q lt differs. other_now q (omega (arith, lt)) differs) own_was own_now in
      ap (λ n. count_below (is_open_below after) n + one_if (is_below (node_of J pid.0) && is_stop out.answer)) place ∙ omega (arith, more, ends)

nothing_more : {a b : ℕ} → a ≡ b → a + 0 ≡ b + 0
nothing_more e = ap (λ n. n + 0) e

-- before a part there is none
none_below : (part : Part) (before : Past) → PartFits part before → open_below before ≡ 0
none_below = by_parts (λ J. open_below J ≡ 0) refl (λ own older. count_none (made (entry_is.Base own ∷ older) + 1))

-- an entry makes so many descendants, and ends one or none
pub below_change : (entry : Entry) (J : Past) → IsLegal (entry ∷ J) → open_below (entry ∷ J) + one_if (ends_one (λ q. is_below (node_of J q)) entry) ≡ open_below J + children_made entry
below_change (entry_is.Submit nonce request) J legal = nothing_more (roots_only J (entry_is.Submit nonce request ∷ J) 1 refl (λ q le. submit_old nonce request J q (λ e. omega (arith, le, e)))
    (λ q lt. elim (cases_eq q (made J + 1)) [
      | inl same ↦ ap is_below (submit_new nonce request J q same)
      | inr differs ↦ ap is_below (submit_old nonce request J q differs ∙ (grown_all J legal.0).numbered q lt)
    ])
    (λ q. refl))
below_change (entry_is.Step pid pick out) J legal = below_step pid pick out J legal
below_change (entry_is.Undo pid row out) J legal = nothing_more (roots_only J (entry_is.Undo pid row out ∷ J) (length (args_in out.followers)) refl (λ q le. undo_old pid row out J q le)
    (λ q lt. ap is_below (undo_new pid row out J q lt) ∙ by q (slice_get (args_in out.followers) (q - made J - 1)))
    (λ q. refl))
  where
    by : (q : ℕ) (o : Option Args) → is_below (option_map (λ args. root_node q args 1) o) ≡ false
    by q None = refl
    by q (Some args) = refl
below_change (entry_is.Down server) J legal = nothing_more (roots_only J (entry_is.Down server ∷ J) 1 refl (λ q le. down_old server J q (λ e. omega (arith, le, e)))
    (λ q lt. elim (cases_eq q (made J + 1)) [
      | inl same ↦ ap is_below (down_new server J q same)
      | inr differs ↦ ap is_below (down_old server J q differs ∙ (grown_all J legal.0).numbered q lt)
    ])
    (λ q. refl))
below_change (entry_is.Base part) J legal = omega (arith, count_none (made (entry_is.Base part ∷ J) + 1), none_below part J legal.1.0)
below_change entry J legal = refl

-- none but what it makes at all
pub below_few : (entry : Entry) (J : Past) → children_made entry ≤ length (args_made J entry)
below_few (entry_is.Start sheets) J = omega arith
below_few entry J = omega arith

-- the roots and the descendants that haven't ended are the procedures that haven't
pub unfinished_sum : (J : Past) → unfinished J + open_below J ≡ unfinished_procedures J
unfinished_sum J = sum (made J + 1)
  where
    top : (t e s : Bool) → one_if (t && not (if t then e else s)) + one_if (not t && not s) ≡ one_if (not (if t then e else s))
    top true true s = refl
    top true false s = refl
    top false e true = refl
    top false e false = refl

    by : (q : ℕ) (o : Option Node) → one_if (is_root_in o && not (ended_node J q o)) + one_if (is_below o && not (is_stopped (last_answer J q))) ≡ one_if (is_some o && not (ended_node J q o))
    by q None = refl
    by q (Some x) = top (is_top x.above) (root_ended J q) (is_stopped (last_answer J q))

    sum : (n : ℕ) → count_below (λ q. is_root J q && not (ended J q)) n + count_below (is_open_below J) n ≡ count_below (is_unfinished J) n
    sum zero = refl
    sum (suc n) = let rest = sum n in let here = by n (node_of J n) in omega (arith, rest, here)

pub unfinished_most : (J : Past) → unfinished_procedures J ≤ made J + 1
unfinished_most J = count_most (made J + 1) (is_unfinished J)

pub below_most : (J : Past) → open_below J ≤ made J + 1
below_most J = count_most (made J + 1) (is_open_below J)

-- who has a parent is a descendant
pub below_by : (J : Past) (q : ℕ) (its : Record) → Some its ≡ record_of J q → is_some its.parent ≡ is_below (node_of J q)
below_by J q its is = by (node_of J q) is
  where
    up : (above : List ℕ) → is_some (option_map pid_of (parent_in above)) ≡ not (is_top above)
    up [] = refl
    up (p ∷ above) = refl

    by : (o : Option Node) → Some its ≡ option_map (record_at J q) o → is_some its.parent ≡ is_below o
    by None is = absurd (none-some its (sym is))
    by (Some node) is = ap (λ (r : Record). is_some r.parent) (same_Some its (record_at J q node) is) ∙ up node.above

pub below_none : (J : Past) (q : ℕ) → None ≡ record_of J q → false ≡ is_below (node_of J q)
below_none J q none = by (node_of J q) none
  where
    by : (o : Option Node) → None ≡ option_map (record_at J q) o → false ≡ is_below o
    by None none = refl
    by (Some node) none = absurd (none-some (record_at J q node) none)
