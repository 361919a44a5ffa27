-- What every legal journal keeps of who bore whom, who awaits an answer, and what crashes have done first.
use Rattle.std.proofs.Common.{◌≡◌, ◌≢◌, ℕ, ◌+◌, ◌-◌, ◌<◌, ◌≤◌, List, [], ◌∷◌, ◌==◌, ◌&&◌, ◌||◌, ◌⊎◌, not, Bool, true, false, cond, slice_get, option_map, Option, Some, None, is_some, refl, ap, sym, ◌∙◌, subst, inl, inr, arith}
use Rattle.std.specs.Option.{option_or}
use Rattle.std.proofs.lemmas.Bool.{and_right, cases_Bool, cases_eq, cond-false, cond-true, eq-eqb, eqb-true, false≢true, or_parts, true≢false}
use Rattle.std.proofs.lemmas.Option.{none-some, same_Some}
use Rattle.hm_names.specs.Region.{Region}
use Rattle.hm_names.specs.Server.{Server}
use Rattle.hm_names.specs.declared.nonce.Nonce.{Nonce}
use Rattle.hm_names.specs.declared.pid.Pid.{Pid}
use Rattle.hm_data.specs.declared.act.Act.{Act}
use Rattle.hm_data.specs.declared.act.Act.TheVariants as act_is
use Rattle.hm_data.specs.declared.act.Back.{Back}
use Rattle.hm_data.specs.declared.act.Back.TheVariants as back_is
use Rattle.hm_data.specs.declared.answer.Answer.{Answer}
use Rattle.hm_data.specs.declared.answer.Answer.TheVariants as answer_is
use Rattle.hm_data.specs.declared.answer.Cause.{Cause}
use Rattle.hm_data.specs.declared.answer.Cause.TheVariants as cause_is
use Rattle.hm_data.specs.declared.args.Args.{Args}
use Rattle.hm_data.specs.declared.args.Args.TheVariants as args_are
use Rattle.hm_data.specs.declared.args.Child.{Child}
use Rattle.hm_data.specs.declared.args.Child.TheVariants as child_is
use Rattle.hm_data.specs.declared.call.Told.{Told}
use Rattle.hm_data.specs.declared.call.Verb.{Verb}
use Rattle.hm_data.specs.declared.call.Verb.TheVariants as verb_is
use Rattle.hm_data.specs.declared.entry.Entry.{Entry}
use Rattle.hm_data.specs.declared.entry.Entry.TheVariants as entry_is
use Rattle.hm_data.specs.declared.place.Goal.TheVariants as goal_is
use Rattle.hm_data.specs.declared.request.Request.{Request}
use Rattle.hm_data.specs.declared.request.Request.TheVariants as request_is
use Rattle.hm_data.specs.declared.step.StepIn.{StepIn}
use Rattle.hm_data.specs.declared.step.StepOut.{StepOut}
use Rattle.hm_model.specs.Acts.{act_answer}
use Rattle.hm_model.specs.Answers.{done_with, failing, is_stop, is_stopped, last_answer, report_of, row_after, row_of}
use Rattle.hm_model.specs.CrashActs.{fence, reassign_all}
use Rattle.hm_model.specs.Evaluation.{is_cut_off, row_answer}
use Rattle.hm_model.specs.Fleet.{came_up, is_fenced, is_live, same_server}
use Rattle.hm_data.specs.declared.part.Part.{Part}
use Rattle.hm_data.specs.declared.part.Part.TheVariants as part_is
use Rattle.hm_model.proofs.CameUp.{fenced_stays}
use Rattle.hm_model.proofs.Parted.{no_node}
use Rattle.hm_world_model.proofs.Servers.{up_before}
use Rattle.hm_model.specs.Inputs.{fenced_if, step_input}
use Rattle.hm_model.specs.Journal.{Past}
use Rattle.hm_model.specs.Kinds.{first_row_of, kind_of}
use Rattle.hm_model.specs.Lists.{exact_rows, fixed}
use Rattle.hm_model.specs.Outs.{fails}
use Rattle.hm_model.specs.Phase.{cause, or_else}
use Rattle.hm_model.specs.Pieces.{transits}
use Rattle.hm_model.specs.Reports.{verb_of}
use Rattle.hm_model.specs.Rules.{IsLegal}
use Rattle.hm_model.specs.Tree.{Node, args_in, child_of, is_top, made, node_of, root_in, root_node, root_of, submitted}
use Rattle.hm_model.specs.Undoing.{closed_by, undo_followers}
use Rattle.hm_model.specs.Verbs.{verb_in}
use Rattle.hm_model.specs.Whereabouts.{called_by}
use Rattle.hm_model.proofs.CallSteps.{CallOut, Ending, is_laying}
use Rattle.hm_model.proofs.ExactRows.{IsLed, led_row, row_passes}
use Rattle.hm_model.proofs.Forest.{roots_wait}
use Rattle.hm_model.proofs.Grown.{down_new, nodes_stay, submit_new, undo_new}
use Rattle.hm_model.proofs.Listed.{in_slice}
use Rattle.hm_model.proofs.LegalSteps.{StepFacts, ready_stops}
use Rattle.hm_model.proofs.NameTies.{same_server-is}
use Rattle.hm_model.proofs.PlainActs.{GoesTo, IsPlainOut, is_caller, is_plain, plain_act, plain_fails}
use Rattle.hm_model.proofs.StepDoes.{Does, GoesNear, IsMoveOut, bears_by, calls, crash, exact_row, is_moving, lined, move_act, move_fails, move_row, moves, part_of, row_by}
use Rattle.hm_model.proofs.Trees.{Grown, IsRooted, answer_now, does_of, down_rooted, grown_all, is_there, le_or_lt, new_child, node_new, node_same, old_or_new, other_answer, other_verb, step_of, still, submit_rooted, undo_rooted, verb_now}
use Rattle.hm_model.proofs.UndoMakes.{undo_of}
use Rattle.hm_model.proofs.Small.{cons_nil, nil_cons, same_head, slice_in}
use Rattle.hm_model.proofs.Answered.{or_none}
use Rattle.hm_kinds.proofs.LockForms.{IsRight}
use Rattle.hm_world_model.proofs.Births.{AllOf, Bears, BornOf, MayMove, act_bears, bears_moves, moved_all}
use Rattle.hm_world_model.proofs.Servers.{up_before}
use Rattle.hm_model.specs.Locks.{IsIn}

-- what a step bears, and that it calls where it awaits
bears_fails : (up : Args) (cause : Cause) → Bears up (fails cause)
bears_fails up cause made h = absurd h

-- the acts of crashes
abbrev is_crashing : Act → Bool
is_crashing act_is.Fence = true
is_crashing act_is.Reassign = true
is_crashing act = false

all_any : (up : Args) (s : Server) → (list : List Region) → AllOf (MayMove (args_are.Crash s)) list
all_any up s [] = tt
all_any up s (r ∷ more) = (tt, all_any up s more)

crash_bears : (act : Act) → is_crashing act ≡ true → (next : ℕ) (at : StepIn) (s : Server) → at.args ≡ args_are.Crash s → Bears (args_are.Crash s) (act_answer act next at)
crash_bears act_is.Fence h next at s is = subst (λ a. Bears (args_are.Crash s) (fence next a)) (sym is) (λ made k. elim k [ inl same ↦ subst (BornOf (args_are.Crash s)) (sym same) tt | inr never ↦ absurd never ])
crash_bears act_is.Reassign h next at s is = by (transits goal_is.Assign at.on_server) (bears_moves (args_are.Crash s) goal_is.Assign at.on_server (all_any (args_are.Crash s) s at.on_server))
  where
    by : (children : List Child) → ((made : Args) → IsIn made (args_in children) → BornOf (args_are.Crash s) made) → Bears (args_are.Crash s) (reassign_all next children)
    by [] all = λ made k. absurd k
    by (child ∷ more) all = all
crash_bears act h next at s is = absurd (false≢true h)

caller_born : (up made : Args) → is_caller made ≡ true → BornOf up made
caller_born up (args_are.AssignCall region server) h = tt
caller_born up (args_are.CloseCall region server) h = tt
caller_born up made h = absurd (false≢true h)

born_sound : (up made : Args) → BornOf up made → IsRight made
born_sound up (args_are.Root request first) born = absurd born
born_sound up (args_are.Crash server) born = absurd born
born_sound up args born = tt

crash_args : (args : Args) → (kind_of args == 11) ≡ true → (s : Server) × (args ≡ args_are.Crash s)
crash_args (args_are.Crash server) h = (server, refl)
crash_args (args_are.Root (request_is.CreateNamespace ns) first) h = absurd (false≢true h)
crash_args args h = absurd (false≢true h)

module _ (pid : Pid) (pick : Option Server) (out : StepOut) (J : Past) (grown : Grown J) (step : StepFacts J pid.0 pick out) (d : Does J pid.0 step.node.args (last_answer J pid.0) step.sheet.rows out) (sound : IsRight step.node.args) where
  abbrev at : StepIn
  at = step_input J pid.0 step.node pick

  abbrev led_on : exact_rows (kind_of step.node.args) ≡ [] → IsLed (kind_of step.node.args) step.sheet.rows (row_of J pid.0 step.node)
  led_on = λ exact. grown.led pid.0 step.node step.node_is exact step.sheet step.sheet_is (ready_stops J pid.0 step.node (last_answer J pid.0) step.ready)

  crash_row : kind_of step.node.args ≡ 11 → slice_get (exact_rows 11) (row_of J pid.0 step.node) ≡ Some step.row
  crash_row kind = subst (λ k. slice_get (exact_rows k) (row_of J pid.0 step.node) ≡ Some step.row) kind
      (exact_row J pid.0 pick out step led_on (λ verb v. grown.calls pid.0 step.node step.node_is verb v) (fixed act_is.Fence 1 true, fixed act_is.Reassign 1 true ∷ [], ap exact_rows kind))

  step_bears : Bears step.node.args out
  step_bears = elim (part_of step.node.args) [
    | lined exact unmoved uncalled ↦
        let on = led_row (kind_of step.node.args) step.sheet step.valid (row_of J pid.0 step.node) (led_on exact) step.row step.row_is in
        subst (Bears step.node.args) (sym step.out_is) (row_by (Bears step.node.args) step.row at (λ c. bears_fails step.node.args c) (act_bears step.row.act on.plain at on.listed sound step.row.next))
    | crash kind unmoved uncalled ↦
        let crashing = row_passes (λ row. is_crashing row.act) (exact_rows 11) refl (row_of J pid.0 step.node) step.row (crash_row kind) in
        let s = crash_args step.node.args (eq-eqb (kind_of step.node.args) 11 kind) in
        subst (λ a. Bears a out) (sym s.1) (subst (Bears (args_are.Crash s.0)) (sym step.out_is) (row_by (Bears (args_are.Crash s.0)) step.row at (λ c. bears_fails (args_are.Crash s.0) c) (crash_bears step.row.act crashing step.row.next at s.0 s.1)))
    | moves r m kind uncalled ↦ λ made h.
        let i = in_slice made (args_in out.children) h in
        caller_born step.node.args made (sym (ap (λ o. bears_by (is_some o) (is_some (verb_in step.node.args)) (is_caller made)) m) ∙ d.bearing i.0 made i.1)
    | calls verb v unmoved exact ↦ λ made h. absurd (subst (λ c. IsIn made (args_in c)) (d.calls verb v).childless h)
  ]

  plain_awaits : (next n : ℕ) → IsPlainOut next out → out.answer ≡ answer_is.Await n → ⊥
  plain_awaits next n plain is = subst (GoesTo next) is plain.goes

  move_awaits : (next n : ℕ) → IsMoveOut next out → out.answer ≡ answer_is.Await n → ⊥
  move_awaits next n move is = subst (GoesNear next) is move.near

  by_plain : is_plain step.row.act ≡ true → IsPlainOut step.row.next out
  by_plain plain = subst (IsPlainOut step.row.next) (sym step.out_is) (row_by (IsPlainOut step.row.next) step.row at (λ c. plain_fails step.row.next c) (plain_act step.row.act plain step.row.next at))

  ending_not : (n : ℕ) (a : Answer) → a ≡ answer_is.Await n → Ending J pid.0 step.node.args (last_answer J pid.0) a → ⊥
  ending_not n a is (inl gone) = never (sym gone.0 ∙ is)
    where
      never : answer_is.Done Rattle.hm_data.specs.declared.call.Told.TheVariants.Gone ≡ answer_is.Await n → ⊥
      never e = cc
  ending_not n a is (inr (inl told)) = never told.0 (sym told.1 ∙ is)
    where
      never : (t : Told) → answer_is.Done t ≡ answer_is.Await n → ⊥
      never t e = cc
  ending_not n a is (inr (inr failed)) = never failed.0 (sym failed.1 ∙ is)
    where
      never : (c : Cause) → answer_is.Fail c ≡ answer_is.Await n → ⊥
      never c e = cc

  step_calls : (n : ℕ) → out.answer ≡ answer_is.Await n → (verb : Verb) × (out.call ≡ Some verb)
  step_calls n is = elim (part_of step.node.args) [
    | lined exact unmoved uncalled ↦
        let on = led_row (kind_of step.node.args) step.sheet step.valid (row_of J pid.0 step.node) (led_on exact) step.row step.row_is in
        absurd (plain_awaits step.row.next n (by_plain on.plain) is)
    | crash kind unmoved uncalled ↦ absurd (plain_awaits step.row.next n (by_plain (row_passes (λ row. is_plain row.act) (exact_rows 11) refl (row_of J pid.0 step.node) step.row (crash_row kind))) is)
    | moves r m kind uncalled ↦
        let own = move_row J pid.0 pick out step led_on (λ verb v. grown.calls pid.0 step.node step.node_is verb v) kind in
        let moving = row_passes (λ row. is_moving row.act) (exact_rows 10) refl (row_of J pid.0 step.node) step.row own in
        absurd (move_awaits step.row.next n (subst (IsMoveOut step.row.next) (sym step.out_is) (row_by (IsMoveOut step.row.next) step.row at (λ c. move_fails step.row.next c) (move_act step.row.act moving step.row.next at))) is)
    | calls verb v unmoved exact ↦ elim (d.calls verb v).does [
      | inl asks ↦ (verb, asks.1)
      | inr ends ↦ absurd (ending_not n out.answer is ends.1)
    ]
  ]

  -- the first step of a crash has its server fenced
  first_fences : (s : Server) → step.node.args ≡ args_are.Crash s → last_answer J pid.0 ≡ None → out.children ≡ child_is.One (args_are.FenceCall s) ∷ []
  first_fences s own none =
      let kind : kind_of step.node.args ≡ 11 = ap kind_of own in
      let place : row_of J pid.0 step.node ≡ 0 = ap (λ a. row_after (first_row_of a) (last_answer J pid.0)) own ∙ ap (row_after 0) none in
      let row : fixed act_is.Fence 1 true ≡ step.row = same_Some (fixed act_is.Fence 1 true) step.row (sym (ap (slice_get (exact_rows 11)) place) ∙ crash_row kind) in
      ap (λ (o : StepOut). o.children) (step.out_is ∙ ap (λ r. row_answer r at) (sym row) ∙ cond-false (is_cut_off (fixed act_is.Fence 1 true) at) (fails cause_is.Aborted) (act_answer act_is.Fence 1 at) (and_right at.aborted false refl) ∙ ap (fence 1) own)

-- what may be a root
abbrev MayStand : Args → Type 0
MayStand args = IsRight args × (is_caller args ≡ false)

-- what is kept
pub record Lineage (J : Past) : Type 0 where
  pub born : (p : ℕ) (node up : Node) (u : ℕ) (rest : List ℕ) → node_of J p ≡ Some node → node.above ≡ u ∷ rest → node_of J u ≡ Some up → BornOf up.args node.args
  pub sound : (p : ℕ) (node : Node) → node_of J p ≡ Some node → IsRight node.args
  pub below : (p : ℕ) (node : Node) → node_of J p ≡ Some node → is_caller node.args ≡ true → is_top node.above ≡ false
  pub awaits : (p n : ℕ) → last_answer J p ≡ Some (answer_is.Await n) → verb_of J p ≢ None
  pub done : (p : ℕ) (node : Node) → node_of J p ≡ Some node → is_stopped (last_answer J p) ≡ true → cause J node.root ≡ None → done_with (last_answer J p) ≢ None
  pub begun : (r : ℕ) → cause J r ≢ None → last_answer J r ≢ None
  pub fences : (c : ℕ) (node : Node) (s : Server) → node_of J c ≡ Some node → node.args ≡ args_are.Crash s → last_answer J c ≢ None
      → (f : ℕ) × (call : Node) × (node_of J f ≡ Some call) × (call.args ≡ args_are.FenceCall s) × (call.above ≢ [])
  pub told : (f : ℕ) (node : Node) (s : Server) → node_of J f ≡ Some node → node.args ≡ args_are.FenceCall s → is_stopped (last_answer J f) ≡ true → report_of J f ≢ None

lineage_nothing : (J : Past) → ((p : ℕ) → node_of J p ≡ None) → ((p : ℕ) → last_answer J p ≡ None) → ((r : ℕ) → cause J r ≡ None) → Lineage J
lineage_nothing J nobody silent clean = record {
  born = λ p node up u rest is. absurd (none-some node (sym (nobody p) ∙ is));
  sound = λ p node is. absurd (none-some node (sym (nobody p) ∙ is));
  below = λ p node is. absurd (none-some node (sym (nobody p) ∙ is));
  awaits = λ p n is. absurd (none-some (answer_is.Await n) (sym (silent p) ∙ is));
  done = λ p node is. absurd (none-some node (sym (nobody p) ∙ is));
  begun = λ r some. absurd (some (clean r));
  fences = λ c node s is. absurd (none-some node (sym (nobody c) ∙ is));
  told = λ f node s is. absurd (none-some node (sym (nobody f) ∙ is));
}

-- entries that make roots
module _ (J J' : Past) (rooted : IsRooted J J') (grown : Grown J) (l : Lineage J) (causes : (r : ℕ) → cause J' r ≡ cause J r) (new_sound : (p : ℕ) → made J < p → (node : Node) → node_of J' p ≡ Some node → MayStand node.args) where
  below_old : (p : ℕ) (node : Node) (u : ℕ) (rest : List ℕ) → node_of J' p ≡ Some node → node.above ≡ u ∷ rest → node_of J p ≡ Some node
  below_old p node u rest is above = elim (old_or_new J J' rooted grown p node is) [
    | inl old ↦ old
    | inr new ↦ absurd (nil_cons u rest (ap (λ (n : Node). n.above) (sym new.2) ∙ above))
  ]

  answered_old : (p : ℕ) (node : Node) → node_of J' p ≡ Some node → last_answer J' p ≢ None → node_of J p ≡ Some node
  answered_old p node is some = elim (old_or_new J J' rooted grown p node is) [ inl old ↦ old | inr new ↦ absurd (some new.3) ]

  stopped_some : (o : Option Answer) → is_stopped o ≡ true → o ≢ None
  stopped_some None h = absurd (false≢true h)
  stopped_some (Some a) h = λ e. none-some a (sym e)

  lineage_rooted : Lineage J'
  lineage_rooted = record {
    born = λ p node up u rest is above up_is.
        let was = below_old p node u rest is above in
        let parent = grown.ups p node was u rest above in
        l.born p node up u rest was above (parent.1 ∙ ap Some (same_Some parent.0 up (sym (still J J' rooted grown u parent.0 parent.1) ∙ up_is)));
    sound = λ p node is. elim (le_or_lt p (made J)) [ inl le ↦ l.sound p node (sym (rooted.old p le) ∙ is) | inr lt ↦ (new_sound p lt node is).0 ];
    below = λ p node is caller. elim (le_or_lt p (made J)) [ inl le ↦ l.below p node (sym (rooted.old p le) ∙ is) caller | inr lt ↦ absurd (true≢false (sym caller ∙ (new_sound p lt node is).1)) ];
    awaits = λ p n is none. l.awaits p n (sym (rooted.last p) ∙ is) (sym (rooted.verb p) ∙ none);
    done = λ p node is stopped none undone.
        l.done p node (answered_old p node is (stopped_some (last_answer J' p) stopped)) (ap is_stopped (sym (rooted.last p)) ∙ stopped) (sym (causes node.root) ∙ none) (ap done_with (sym (rooted.last p)) ∙ undone);
    begun = λ r some none. l.begun r (λ e. some (causes r ∙ e)) (sym (rooted.last r) ∙ none);
    fences = λ c node s is own some.
        let was = answered_old c node is some in
        let f = l.fences c node s was own (λ none. some (rooted.last c ∙ none)) in
        (f.0, f.1, still J J' rooted grown f.0 f.1 f.2, f.3, f.4);
    told = λ f node s is own stopped none.
        let was = answered_old f node is (stopped_some (last_answer J' f) stopped) in
        l.told f node s was own (ap is_stopped (sym (rooted.last f)) ∙ stopped) (sym (rooted.report f) ∙ none);
  }

-- a step
module _ (pid : Pid) (pick : Option Server) (out : StepOut) (J : Past) (legal : IsLegal (entry_is.Step pid pick out ∷ J)) (l : Lineage J) where
  grown : Grown J
  grown = grown_all J legal.0

  step : StepFacts J pid.0 pick out
  step = step_of pid pick out J (grown_all J legal.0) legal

  abbrev J' : Past
  J' = entry_is.Step pid pick out ∷ J

  bears_now : Bears (step_of pid pick out J (grown_all J legal.0) legal).node.args out
  bears_now = let g = grown_all J legal.0 in let s = step_of pid pick out J g legal in step_bears pid pick out J g s (does_of pid pick out J g s) (l.sound pid.0 s.node s.node_is)

  me_there : pid.0 ≤ made J
  me_there = let s = step_of pid pick out J (grown_all J legal.0) legal in is_there J (grown_all J legal.0) pid.0 s.node s.node_is

  born_now : (p : ℕ) (node up : Node) (u : ℕ) (rest : List ℕ) → node_of J' p ≡ Some node → node.above ≡ u ∷ rest → node_of J' u ≡ Some up → BornOf up.args node.args
  born_now p node up u rest is above up_is = elim (le_or_lt p (made J)) [
    | inl le ↦ (
        let was = sym (node_same pid pick out J p le) ∙ is in
        let before = (grown_all J legal.0).later p node was u rest above in
        l.born p node up u rest was above (sym (node_same pid pick out J u (omega (arith, le, before))) ∙ up_is)
        )
    | inr lt ↦ (
        let s = step_of pid pick out J (grown_all J legal.0) legal in
        let c = new_child pid pick out J s.node s.node_is p lt node is in
        let mine : pid.0 ≡ u = same_head pid.0 u s.node.above rest (ap (λ (n : Node). n.above) (sym c.2) ∙ above) in
        let parent : s.node ≡ up = same_Some s.node up (sym s.node_is ∙ sym (node_same pid pick out J pid.0 me_there) ∙ ap (node_of J') mine ∙ up_is) in
        subst (λ (n : Node). BornOf n.args node.args) parent (subst (BornOf s.node.args) (ap (λ (n : Node). n.args) (sym c.2)) (bears_now c.0 (slice_in (args_in out.children) (p - made J - 1) c.0 c.1)))
        )
  ]

  sound_now : (p : ℕ) (node : Node) → node_of J' p ≡ Some node → IsRight node.args
  sound_now p node is = elim (le_or_lt p (made J)) [
    | inl le ↦ l.sound p node (sym (node_same pid pick out J p le) ∙ is)
    | inr lt ↦
        let s = step_of pid pick out J (grown_all J legal.0) legal in
        let c = new_child pid pick out J s.node s.node_is p lt node is in
        subst (λ (n : Node). IsRight n.args) (sym c.2) (born_sound s.node.args c.0 (bears_now c.0 (slice_in (args_in out.children) (p - made J - 1) c.0 c.1)))
  ]

  below_now : (p : ℕ) (node : Node) → node_of J' p ≡ Some node → is_caller node.args ≡ true → is_top node.above ≡ false
  below_now p node is caller = elim (le_or_lt p (made J)) [
    | inl le ↦ l.below p node (sym (node_same pid pick out J p le) ∙ is) caller
    | inr lt ↦ let s = step_of pid pick out J (grown_all J legal.0) legal in ap (λ (n : Node). is_top n.above) (new_child pid pick out J s.node s.node_is p lt node is).2
  ]

  awaits_now : (p n : ℕ) → last_answer J' p ≡ Some (answer_is.Await n) → verb_of J' p ≢ None
  awaits_now p n is = elim (cases_eq p pid.0) [
    | inr differs ↦ λ none. l.awaits p n (sym (other_answer pid pick out J p differs) ∙ is) (sym (other_verb pid pick out J p differs) ∙ none)
    | inl mine ↦ λ none.
        let g = grown_all J legal.0 in
        let s = step_of pid pick out J g legal in
        let answer : out.answer ≡ answer_is.Await n = same_Some out.answer (answer_is.Await n) (sym (answer_now pid pick out J) ∙ ap (last_answer J') (sym mine) ∙ is) in
        let call = step_calls pid pick out J g s (does_of pid pick out J g s) (l.sound pid.0 s.node s.node_is) n answer in
        none-some call.0 (sym none ∙ ap (verb_of J') mine ∙ verb_now pid pick out J ∙ ap (λ c. option_or c (verb_of J pid.0)) call.1)
  ]

  done_now : (p : ℕ) (node : Node) → node_of J' p ≡ Some node → is_stopped (last_answer J' p) ≡ true → cause J' node.root ≡ None → done_with (last_answer J' p) ≢ None
  done_now p node is stopped none = elim (cases_eq p pid.0) [
    | inr differs ↦ elim (le_or_lt p (made J)) [
      | inl le ↦ λ undone. l.done p node (sym (node_same pid pick out J p le) ∙ is) (ap is_stopped (sym (other_answer pid pick out J p differs)) ∙ stopped) (uncaused (root_of J pid.0 == node.root) none) (ap done_with (sym (other_answer pid pick out J p differs)) ∙ undone)
      | inr lt ↦ absurd (false≢true (sym (ap is_stopped (other_answer pid pick out J p differs ∙ (grown_all J legal.0).unmade p ((grown_all J legal.0).numbered p lt))) ∙ stopped))
    ]
    | inl mine ↦ λ undone. (
        let g = grown_all J legal.0 in
        let s = step_of pid pick out J g legal in
        let one : s.node ≡ node = same_Some s.node node (sym s.node_is ∙ sym (node_same pid pick out J pid.0 me_there) ∙ ap (node_of J') (sym mine) ∙ is) in
        let root : root_of J pid.0 ≡ node.root = ap root_in s.node_is ∙ ap (λ (n : Node). n.root) one in
        let now : last_answer J' p ≡ Some out.answer = ap (last_answer J') mine ∙ answer_now pid pick out J in
        let fails : or_else (cause J node.root) (failing out.answer) ≡ None = sym (cond-true (root_of J pid.0 == node.root) (or_else (cause J node.root) (failing out.answer)) (cause J node.root) (eq-eqb (root_of J pid.0) node.root root)) ∙ none in
        by out.answer (does_of pid pick out J g s).sound (ap is_stopped (sym now) ∙ stopped) (or_none (cause J node.root) (failing out.answer) fails).1 (ap done_with (sym now) ∙ undone)
        )
  ]
    where
      uncaused : (b : Bool) → cond b (or_else (cause J node.root) (failing out.answer)) (cause J node.root) ≡ None → cause J node.root ≡ None
      uncaused true h = (or_none (cause J node.root) (failing out.answer) h).0
      uncaused false h = h

      by : (a : Answer) → Rattle.hm_model.proofs.StepDoes.IsStepAnswer a → is_stopped (Some a) ≡ true → failing a ≡ None → done_with (Some a) ≡ None → ⊥
      by (answer_is.Done told) sane stopped fine undone = none-some told (sym undone)
      by (answer_is.Fail c) sane stopped fine undone = none-some c (sym fine)
      by answer_is.Undone sane stopped fine undone = sane
      by answer sane stopped fine undone = false≢true stopped

  begun_now : (r : ℕ) → cause J' r ≢ None → last_answer J' r ≢ None
  begun_now r some = elim (cases_eq r pid.0) [
    | inl mine ↦ λ none. none-some out.answer (sym none ∙ ap (last_answer J') mine ∙ answer_now pid pick out J)
    | inr differs ↦ λ none. by differs (root_of J pid.0 == r) refl (sym (other_answer pid pick out J r differs) ∙ none)
  ]
    where
      by : r ≢ pid.0 → (b : Bool) → (root_of J pid.0 == r) ≡ b → last_answer J r ≡ None → ⊥
      by differs false off none = l.begun r (λ e. some (cond-false (root_of J pid.0 == r) (or_else (cause J r) (failing out.answer)) (cause J r) off ∙ e)) none
      by differs true on none =
          let s = step_of pid pick out J (grown_all J legal.0) legal in
          let root : s.node.root ≡ r = ap root_in (sym s.node_is) ∙ eqb-true (root_of J pid.0) r on in
          let w = roots_wait J legal.0 pid.0 s.node s.node_is (λ top. differs_from root top) (ready_stops J pid.0 s.node (last_answer J pid.0) s.ready) in
          none-some (answer_is.Wait w.0) (sym none ∙ ap (last_answer J) (sym root) ∙ w.1)
        where
          differs_from : (step_of pid pick out J (grown_all J legal.0) legal).node.root ≡ r → (step_of pid pick out J (grown_all J legal.0) legal).node.above ≡ [] → ⊥
          differs_from root top = let s = step_of pid pick out J (grown_all J legal.0) legal in differs (sym root ∙ (grown_all J legal.0).tops pid.0 s.node s.node_is top)

  abbrev HasFence : Past → Server → Type 0
  HasFence past s = (f : ℕ) × (call : Node) × (node_of past f ≡ Some call) × (call.args ≡ args_are.FenceCall s) × (call.above ≢ [])

  fence_stays : (s : Server) → HasFence J s → HasFence J' s
  fence_stays s f = (f.0, f.1, nodes_stay (entry_is.Step pid pick out) J legal f.0 f.1 f.2, f.3, f.4)

  fences_now : (c : ℕ) (node : Node) (s : Server) → node_of J' c ≡ Some node → node.args ≡ args_are.Crash s → last_answer J' c ≢ None → HasFence J' s
  fences_now c node s is own some = elim (cases_eq c pid.0) [
    | inr differs ↦ elim (le_or_lt c (made J)) [
      | inl le ↦ fence_stays s (l.fences c node s (sym (node_same pid pick out J c le) ∙ is) own (λ none. some (other_answer pid pick out J c differs ∙ none)))
      | inr lt ↦ absurd (some (other_answer pid pick out J c differs ∙ (grown_all J legal.0).unmade c ((grown_all J legal.0).numbered c lt)))
    ]
    | inl mine ↦ (
        let st = step_of pid pick out J (grown_all J legal.0) legal in
        let one : st.node ≡ node = same_Some st.node node (sym st.node_is ∙ sym (node_same pid pick out J pid.0 me_there) ∙ ap (node_of J') (sym mine) ∙ is) in
        by (ap (λ (n : Node). n.args) one ∙ own) (last_answer J pid.0) refl
        )
  ]
    where
      by : (step_of pid pick out J (grown_all J legal.0) legal).node.args ≡ args_are.Crash s → (o : Option Answer) → last_answer J pid.0 ≡ o → HasFence J' s
      by own (Some a) was = let st = step_of pid pick out J (grown_all J legal.0) legal in fence_stays s (l.fences pid.0 st.node s st.node_is own (λ none. none-some a (sym none ∙ was)))
      by own None was =
          let g = grown_all J legal.0 in
          let st = step_of pid pick out J g legal in
          let children = first_fences pid pick out J g st (does_of pid pick out J g st) (l.sound pid.0 st.node st.node_is) s own was in
          let lt : made J < made J + 1 = omega arith in
          let zero_is : made J + 1 - made J - 1 ≡ 0 = omega arith in
          let get : slice_get (args_in out.children) (made J + 1 - made J - 1) ≡ Some (args_are.FenceCall s) = ap (slice_get (args_in out.children)) zero_is ∙ ap (λ l. slice_get (args_in l) 0) children in
          let new : node_of J' (made J + 1) ≡ Some (child_of pid.0 st.node (args_are.FenceCall s)) = node_new pid pick out J st.node st.node_is (made J + 1) lt ∙ ap (option_map (child_of pid.0 st.node)) get in
          (made J + 1, child_of pid.0 st.node (args_are.FenceCall s), new, refl, λ e. cons_nil pid.0 st.node.above e)

  told_now : (f : ℕ) (node : Node) (s : Server) → node_of J' f ≡ Some node → node.args ≡ args_are.FenceCall s → is_stopped (last_answer J' f) ≡ true → report_of J' f ≢ None
  told_now f node s is own stopped = elim (cases_eq f pid.0) [
    | inr differs ↦ elim (le_or_lt f (made J)) [
      | inl le ↦ l.told f node s (sym (node_same pid pick out J f le) ∙ is) own (ap is_stopped (sym (other_answer pid pick out J f differs)) ∙ stopped)
      | inr lt ↦ absurd (false≢true (sym (ap is_stopped (other_answer pid pick out J f differs ∙ (grown_all J legal.0).unmade f ((grown_all J legal.0).numbered f lt))) ∙ stopped))
    ]
    | inl mine ↦ λ none.
        let g = grown_all J legal.0 in
        let st = step_of pid pick out J g legal in
        let one : st.node ≡ node = same_Some st.node node (sym st.node_is ∙ sym (node_same pid pick out J pid.0 me_there) ∙ ap (node_of J') (sym mine) ∙ is) in
        let args : st.node.args ≡ args_are.FenceCall s = ap (λ (n : Node). n.args) one ∙ own in
        let ends : is_stop out.answer ≡ true = ap is_stopped (sym (answer_now pid pick out J)) ∙ ap (λ k. is_stopped (last_answer J' k)) (sym mine) ∙ stopped in
        by st.node.args args (verb_is.Fence s) ((does_of pid pick out J g st).calls (verb_is.Fence s) (ap verb_in args)) ends (ap (report_of J) (sym mine) ∙ none)
  ]
    where
      by : (args : Args) → args ≡ args_are.FenceCall s → (verb : Verb) → CallOut J pid.0 args verb (last_answer J pid.0) out → is_stop out.answer ≡ true → report_of J pid.0 ≡ None → ⊥
      by args own verb call ends none = elim call.does [
        | inl asks ↦ false≢true (sym (ap is_stop asks.2) ∙ ends)
        | inr over ↦ elim over.1 [
          | inl gone ↦ false≢true (sym (ap (λ a. fenced_if J (called_by a)) own) ∙ gone.1)
          | inr other ↦ elim other [
            | inl told ↦ none-some told.0 (sym none ∙ told.2)
            | inr failed ↦ false≢true (sym (ap is_laying own) ∙ failed.2)
          ]
        ]
      ]

  lineage_step : Lineage (entry_is.Step pid pick out ∷ J)
  lineage_step = record { born = born_now; sound = sound_now; below = below_now; awaits = awaits_now; done = done_now; begun = begun_now; fences = fences_now; told = told_now }

-- what is sound of new roots
submit_sound : (nonce : Nonce) (request : Request) (J : Past) → IsLegal (entry_is.Submit nonce request ∷ J) → (p : ℕ) → made J < p → (node : Node) → node_of (entry_is.Submit nonce request ∷ J) p ≡ Some node → MayStand node.args
submit_sound nonce request J legal p lt node is = elim (cases_eq p (made J + 1)) [
  | inl same ↦ subst (λ (n : Node). MayStand n.args) (same_Some (submitted J request p) node (sym (submit_new nonce request J p same) ∙ is)) (legal.1.1.0, refl)
  | inr differs ↦ absurd (none-some node (sym ((submit_rooted nonce request J (grown_all J legal.0)).past p (omega (arith, lt, differs))) ∙ is))
]

down_sound : (server : Server) (J : Past) → IsLegal (entry_is.Down server ∷ J) → (p : ℕ) → made J < p → (node : Node) → node_of (entry_is.Down server ∷ J) p ≡ Some node → MayStand node.args
down_sound server J legal p lt node is = elim (cases_eq p (made J + 1)) [
  | inl same ↦ subst (λ (n : Node). MayStand n.args) (same_Some (root_node p (args_are.Crash server) 1) node (sym (down_new server J p same) ∙ is)) (tt, refl)
  | inr differs ↦ absurd (none-some node (sym ((down_rooted server J (grown_all J legal.0)).past p (omega (arith, lt, differs))) ∙ is))
]

any_all : (list : List Region) → AllOf (λ region. Unit {0}) list
any_all [] = tt
any_all (r ∷ more) = (tt, any_all more)

followers_sound : (undo : Back) (args : Args) (root : Pid) (made : Args) → IsIn made (args_in (undo_followers undo args root)) → MayStand made
followers_sound back_is.Sweep args root made (inl same) = subst MayStand (sym same) (tt, refl)
followers_sound back_is.Sweep args root made (inr never) = absurd never
followers_sound back_is.Reopen args root made h = let m = moved_all (λ region. Unit {0}) goal_is.Assign (closed_by args) (any_all (closed_by args)) made h in subst MayStand (sym m.2) (tt, refl)
followers_sound undo args root made h = absurd h

undo_sound : (pid : Pid) (row : ℕ) (out : StepOut) (J : Past) → IsLegal (entry_is.Undo pid row out ∷ J) → (p : ℕ) → made J < p → (node : Node) → node_of (entry_is.Undo pid row out ∷ J) p ≡ Some node → MayStand node.args
undo_sound pid row out J legal p lt node is = by (slice_get (args_in out.followers) (p - made J - 1)) refl (sym (undo_new pid row out J p lt) ∙ is)
  where
    by : (o : Option Args) → slice_get (args_in out.followers) (p - made J - 1) ≡ o → option_map (λ args. root_node p args 1) o ≡ Some node → MayStand node.args
    by None e m = absurd (none-some node m)
    by (Some args) e m =
        let u = undo_of pid row out J legal in
        subst (λ (n : Node). MayStand n.args) (same_Some (root_node p args 1) node m)
        (followers_sound u.undo u.args u.root args (slice_in (args_in (undo_followers u.undo u.args u.root)) (p - made J - 1) args (ap (λ (o : StepOut). slice_get (args_in o.followers) (p - made J - 1)) (sym u.out_is) ∙ e)))

pub lineage_all : (J : Past) → IsLegal J → Lineage J
lineage_all [] legal = lineage_nothing [] (λ p. refl) (λ p. refl) (λ r. refl)
lineage_all (entry_is.Submit nonce request ∷ J) legal = let g = grown_all J legal.0 in lineage_rooted J (entry_is.Submit nonce request ∷ J) (submit_rooted nonce request J g) g (lineage_all J legal.0) (λ r. refl) (submit_sound nonce request J legal)
lineage_all (entry_is.Step pid pick out ∷ J) legal = lineage_step pid pick out J legal (lineage_all J legal.0)
lineage_all (entry_is.Undo pid row out ∷ J) legal = let g = grown_all J legal.0 in lineage_rooted J (entry_is.Undo pid row out ∷ J) (undo_rooted pid row out J g) g (lineage_all J legal.0) (λ r. refl) (undo_sound pid row out J legal)
lineage_all (entry_is.Report call told ∷ J) legal =
    let l = lineage_all J legal.0 in
    record { born = l.born; sound = l.sound; below = l.below; awaits = l.awaits; done = l.done; begun = l.begun; fences = l.fences; told = λ f node s is own stopped none. l.told f node s is own stopped (unreported f (f == call.0) none) }
  where
    unreported : (f : ℕ) (b : Bool) → cond b (Some told) (report_of J f) ≡ None → report_of J f ≡ None
    unreported f true none = absurd (none-some told (sym none))
    unreported f false none = none
lineage_all (entry_is.Down server ∷ J) legal = let g = grown_all J legal.0 in lineage_rooted J (entry_is.Down server ∷ J) (down_rooted server J g) g (lineage_all J legal.0) (λ r. refl) (down_sound server J legal)
lineage_all (entry_is.Base part ∷ J) legal = lineage_nothing (entry_is.Base part ∷ J) (λ p. refl) (λ p. refl) (λ r. refl)
lineage_all (entry ∷ J) legal = let l = lineage_all J legal.0 in record { born = l.born; sound = l.sound; below = l.below; awaits = l.awaits; done = l.done; begun = l.begun; fences = l.fences; told = l.told }

-- who came up and isn't live went down, which made a crash, or is fenced by the base
abbrev pub HasCrash : Past → Server → Type 0
HasCrash J s = (c : ℕ) × (node_of J c ≡ Some (root_node c (args_are.Crash s) 1))

abbrev WentDown : Past → Server → Type 0
WentDown J s = HasCrash J s ⊎ (is_fenced J s ≡ true)

crash_on : (entry : Entry) (J : Past) → IsLegal (entry ∷ J) → (s : Server) → WentDown J s → WentDown (entry ∷ J) s
crash_on entry J legal s (inl c) = inl (c.0, nodes_stay entry J legal c.0 (root_node c.0 (args_are.Crash s) 1) c.1)
crash_on entry J legal s (inr fenced) = inr (fenced_stays entry J s fenced)

-- in a base whoever isn't live is fenced
part_down : (part : Part) (J : Past) → (s : Server) → (came_up J s ≡ true → is_live J s ≡ false → is_fenced J s ≡ true) → came_up (entry_is.Base part ∷ J) s ≡ true → is_live (entry_is.Base part ∷ J) s ≡ false → is_fenced (entry_is.Base part ∷ J) s ≡ true
part_down (part_is.Server other fenced) J s old up down =
    let parts = or_parts (same_server s other && not fenced) (is_live J s) down in
    by (same_server s other) refl fenced parts.0 parts.1
  where
    by : (b : Bool) → same_server s other ≡ b → (f : Bool) → (same_server s other && not f) ≡ false → is_live J s ≡ false → ((same_server s other && f) || is_fenced J s) ≡ true
    by false e f own dead = rw e (old (up_before J other s e up) dead)
    by true e true own dead = rw e refl
    by true e false own dead = absurd (true≢false (sym (ap (λ b. b && true) e) ∙ own))
part_down part J s old up down = old up down

pub crashed : (J : Past) → IsLegal J → (s : Server) → came_up J s ≡ true → is_live J s ≡ false → WentDown J s
crashed [] legal s up down = absurd (false≢true up)
crashed (entry_is.Up other ∷ J) legal s up down =
    let parts = or_parts (same_server s other) (is_live J s) down in
    let before : came_up J s ≡ true = up_before J other s parts.0 up in
    crash_on (entry_is.Up other) J legal s (crashed J legal.0 s before parts.1)
crashed (entry_is.Down other ∷ J) legal s up down = elim (cases_Bool (same_server s other)) [
  | inl same ↦
      let one : s ≡ other = same_server-is s other same in
      inl (made J + 1, down_new other J (made J + 1) refl ∙ ap (λ x. Some (root_node (made J + 1) (args_are.Crash x) 1)) (sym one))
  | inr differs ↦ crash_on (entry_is.Down other) J legal s (crashed J legal.0 s up (sym (ap (λ b. not b && is_live J s) differs) ∙ down))
]
crashed (entry_is.Base part ∷ J) legal s up down = inr (part_down part J s (λ before dead. by (crashed J legal.0 s before dead)) up down)
  where
    by : WentDown J s → is_fenced J s ≡ true
    by (inl c) = absurd (none-some (root_node c.0 (args_are.Crash s) 1) (sym (no_node part J legal.1.0 c.0) ∙ c.1))
    by (inr fenced) = fenced
crashed (entry ∷ J) legal s up down = crash_on entry J legal s (crashed J legal.0 s up down)
