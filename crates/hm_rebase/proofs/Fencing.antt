-- Of a server that went down there is a crash, and once that has ended the server is fenced; open regions are at others.
use Rattle.std.proofs.Common.{◌≡◌, ◌≢◌, ℕ, ◌+◌, ◌-◌, List, [], ◌∷◌, true, ◌&&◌, ◌==◌, Option, Some, None, option_map, slice_get, refl, ap, sym, ◌∙◌, subst, inl, inr, arith}
use Rattle.std.proofs.lemmas.Bool.{and_from, cases_Bool, cases_eq, cond-false, false≢true, ne_eqb, or_left, true≢false}
use Rattle.std.proofs.lemmas.Option.{none-some, same_Some}
use Rattle.hm_names.specs.Server.{Server}
use Rattle.hm_names.specs.declared.pid.Pid.{Pid}
use Rattle.hm_data.specs.Numbers.{told_number}
use Rattle.hm_data.specs.declared.act.Act.TheVariants as act_is
use Rattle.hm_data.specs.declared.answer.Answer.{Answer}
use Rattle.hm_data.specs.declared.answer.Answer.TheVariants as answer_is
use Rattle.hm_data.specs.declared.args.Args.TheVariants as args_are
use Rattle.hm_data.specs.declared.args.Child.TheVariants as child_is
use Rattle.hm_data.specs.declared.call.Told.{Told}
use Rattle.hm_data.specs.declared.call.Told.TheVariants as told_is
use Rattle.hm_data.specs.declared.call.Verb.TheVariants as verb_is
use Rattle.hm_data.specs.declared.entry.Entry.{Entry}
use Rattle.hm_data.specs.declared.entry.Entry.TheVariants as entry_is
use Rattle.hm_data.specs.declared.sheet.Row.{Row}
use Rattle.hm_data.specs.declared.step.StepIn.{StepIn}
use Rattle.hm_data.specs.declared.step.StepOut.{StepOut}
use Rattle.hm_model.specs.Acts.{act_answer}
use Rattle.hm_model.specs.Answers.{is_stop, is_stopped, last_answer, report_of, row_after, row_of}
use Rattle.hm_model.specs.CrashActs.{fence}
use Rattle.hm_model.specs.Evaluation.{row_answer}
use Rattle.hm_model.specs.Fleet.{fences_by, fences_if, is_fenced}
use Rattle.hm_model.specs.Inputs.{fenced_if, step_input}
use Rattle.hm_model.specs.Journal.{Past}
use Rattle.hm_model.specs.Kinds.{first_row_of, kind_of}
use Rattle.hm_model.specs.Lists.{exact_rows, fixed}
use Rattle.hm_model.specs.Phase.{children_ended}
use Rattle.hm_model.specs.Reports.{fits_verb, verb_of}
use Rattle.hm_model.specs.Rules.{IsLegal}
use Rattle.hm_model.specs.Tree.{Node, args_in, child_of, made, node_of}
use Rattle.hm_model.specs.Verbs.{verb_in}
use Rattle.hm_model.specs.Whereabouts.{called_by}
use Rattle.hm_model.proofs.CallSteps.{fenced_only, is_laying, uncut}
use Rattle.hm_model.proofs.CameUp.{fenced_stays}
use Rattle.hm_model.proofs.NameTies.{same_server-refl}
use Rattle.hm_model.proofs.Grown.{nodes_stay}
use Rattle.hm_model.proofs.LegalSteps.{ReadyBy, StepFacts}
use Rattle.hm_model.proofs.StepDoes.{exact_row_is}
use Rattle.hm_model.proofs.Trees.{Grown, IsWaiting, answer_now, child_stopped, does_of, grown_all, node_new, other_answer, some_of, step_of}

-- who has a call or a report was there before an entry
was_there : (entry : Entry) (J : Past) → IsLegal (entry ∷ J) → (q : ℕ) (x : Node) → node_of (entry ∷ J) q ≡ Some x → (y : Node) → node_of J q ≡ Some y → node_of J q ≡ Some x
was_there entry J legal q x is y before = before ∙ ap Some (same_Some y x (sym (nodes_stay entry J legal q y before) ∙ is))

-- the report of a call to fence a server says that it is fenced
abbrev AreTold : Past → Type 0
AreTold J = (q : ℕ) (x : Node) (server : Server) (told : Told) → node_of J q ≡ Some x → x.args ≡ args_are.FenceCall server → report_of J q ≡ Some told → is_fenced J server ≡ true

told_on : (entry : Entry) (J : Past) → IsLegal (entry ∷ J) → AreTold J → (q : ℕ) (x : Node) (server : Server) (told : Told) → node_of (entry ∷ J) q ≡ Some x → x.args ≡ args_are.FenceCall server → report_of J q ≡ Some told → is_fenced (entry ∷ J) server ≡ true
told_on entry J legal before q x server told is call said =
    let g = grown_all J legal.0 in
    let f = g.fits q told said in
    let w = g.verbs q f.0 f.1 in
    fenced_stays entry J server (before q x server told (was_there entry J legal q x is w.0 w.1) call said)

told_all : (J : Past) → IsLegal J → AreTold J
told_all [] legal q x server told is call said = absurd (none-some x is)
told_all (entry_is.Report own own_told ∷ J) legal q x server told is call said = elim (cases_eq q own.0) [
  | inr other ↦ told_on (entry_is.Report own own_told) J legal (told_all J legal.0) q x server told is call (sym (cond-false (q == own.0) (Some own_told) (report_of J q) (ne_eqb q own.0 other)) ∙ said)
  | inl mine ↦
      let verb = some_of (verb_of J own.0) legal.1.1.0.0 in
      let w = (grown_all J legal.0).verbs own.0 verb.0 verb.1 in
      let here : node_of J own.0 ≡ Some x = ap (node_of J) (sym mine) ∙ is in
      let one : w.0 ≡ x = same_Some w.0 x (sym w.1 ∙ here) in
      let fences : verb.0 ≡ verb_is.Fence server = same_Some verb.0 (verb_is.Fence server) (sym w.2 ∙ ap (λ (n : Node). verb_in n.args) one ∙ ap verb_in call) in
      let fits : fits_verb (verb_is.Fence server) own_told ≡ true = ap (λ v. fits_verb v own_told) (sym fences) ∙ legal.1.1.1.0 verb.0 verb.1 in
      or_left ((told_number own_told == told_number told_is.Fenced) && fences_if (node_of J own.0) server) (is_fenced J server) (and_from (told_number own_told == told_number told_is.Fenced) (fences_if (node_of J own.0) server) (fenced_only server own_told fits) (ap (λ n. fences_if n server) here ∙ ap (λ a. fences_by a server) call ∙ same_server-refl server))
]
told_all (entry_is.Base part ∷ J) legal q x server told is call said = absurd (none-some x is)
told_all (entry ∷ J) legal q x server told is call said = told_on entry J legal (told_all J legal.0) q x server told is call said

-- so it is where the call has ended
abbrev AreFenced : Past → Type 0
AreFenced J = (q : ℕ) (x : Node) (server : Server) → node_of J q ≡ Some x → x.args ≡ args_are.FenceCall server → is_stopped (last_answer J q) ≡ true → is_fenced J server ≡ true

stepped_there : (J : Past) → Grown J → (q : ℕ) → is_stopped (last_answer J q) ≡ true → (y : Node) × (node_of J q ≡ Some y)
stepped_there J g q stops = some_of (node_of J q) (λ none. false≢true (sym (ap is_stopped (g.unmade q none)) ∙ stops))

fenced_on : (entry : Entry) (J : Past) → IsLegal (entry ∷ J) → AreFenced J → (q : ℕ) (x : Node) (server : Server) → node_of (entry ∷ J) q ≡ Some x → x.args ≡ args_are.FenceCall server → is_stopped (last_answer J q) ≡ true → is_fenced (entry ∷ J) server ≡ true
fenced_on entry J legal before q x server is call stops =
    let there = stepped_there J (grown_all J legal.0) q stops in
    fenced_stays entry J server (before q x server (was_there entry J legal q x is there.0 there.1) call stops)

fenced_all : (J : Past) → IsLegal J → AreFenced J
fenced_all [] legal q x server is call stops = absurd (none-some x is)
fenced_all (entry_is.Step pid pick out ∷ J) legal q x server is call stops = elim (cases_eq q pid.0) [
  | inr other ↦ fenced_on (entry_is.Step pid pick out) J legal (fenced_all J legal.0) q x server is call (ap is_stopped (sym (other_answer pid pick out J q other)) ∙ stops)
  | inl mine ↦
      let g = grown_all J legal.0 in
      let step = step_of pid pick out J g legal in
      let here : node_of J q ≡ Some x = was_there (entry_is.Step pid pick out) J legal q x is step.node (ap (node_of J) mine ∙ step.node_is) in
      let one : step.node ≡ x = same_Some step.node x (sym (ap (node_of J) mine ∙ step.node_is) ∙ here) in
      let own : step.node.args ≡ args_are.FenceCall server = ap (λ (n : Node). n.args) one ∙ call in
      let does = (does_of pid pick out J g step).calls (verb_is.Fence server) (ap verb_in own) in
      let stop : is_stop out.answer ≡ true = ap is_stopped (sym (ap (last_answer (entry_is.Step pid pick out ∷ J)) mine ∙ answer_now pid pick out J)) ∙ stops in
      elim does.does [
        | inl asks ↦ absurd (false≢true (ap is_stop (sym asks.2) ∙ stop))
        | inr ends ↦ elim ends.1 [
          | inl gone ↦ absurd (false≢true (ap (λ a. fenced_if J (called_by a)) (sym own) ∙ gone.1))
          | inr other ↦ elim other [
            | inl told ↦ told_all J legal.0 q x server told.0 here call (ap (report_of J) mine ∙ told.2)
            | inr failed ↦ absurd (false≢true (ap is_laying (sym own) ∙ failed.2))
          ]
        ]
      ]
]
fenced_all (entry_is.Base part ∷ J) legal q x server is call stops = absurd (none-some x is)
fenced_all (entry ∷ J) legal q x server is call stops = fenced_on entry J legal (fenced_all J legal.0) q x server is call stops

-- a step of a crash
module _ (pid : Pid) (pick : Option Server) (out : StepOut) (J : Past) (legal : IsLegal (entry_is.Step pid pick out ∷ J)) (server : Server) where
  step : StepFacts J pid.0 pick out
  step = step_of pid pick out J (grown_all J legal.0) legal

  module _ (crash : step.node.args ≡ args_are.Crash server) where
    abbrev seen : StepIn
    seen = step_input J pid.0 step.node pick

    found : slice_get (exact_rows 11) (row_of J pid.0 step.node) ≡ Some step.row
    found = exact_row_is J pid.0 pick out step 11 (ap kind_of crash) _ _ refl

    said : (row : Row) → row ≡ step.row → row.after ≡ true → out ≡ act_answer row.act row.next seen
    said row same late = step.out_is ∙ ap (λ (r : Row). row_answer r seen) (sym same) ∙ uncut row seen late

    -- the first one makes a call to fence the server
    first_fences : last_answer J pid.0 ≡ None → out.children ≡ child_is.One (args_are.FenceCall server) ∷ []
    first_fences none =
        let row : row_of J pid.0 step.node ≡ 0 = ap (λ a. row_after (first_row_of a) (last_answer J pid.0)) crash ∙ ap (row_after 0) none in
        let is : fixed act_is.Fence 1 true ≡ step.row = same_Some _ step.row (ap (slice_get (exact_rows 11)) (sym row) ∙ found) in
        ap (λ (o : StepOut). o.children) (said (fixed act_is.Fence 1 true) is refl ∙ ap (fence 1) crash)

    -- and doesn't end it
    stops_later : is_stop out.answer ≡ true → last_answer J pid.0 ≢ None
    stops_later stops none =
        let row : row_of J pid.0 step.node ≡ 0 = ap (λ a. row_after (first_row_of a) (last_answer J pid.0)) crash ∙ ap (row_after 0) none in
        let is : fixed act_is.Fence 1 true ≡ step.row = same_Some _ step.row (ap (slice_get (exact_rows 11)) (sym row) ∙ found) in
        false≢true (ap (λ (o : StepOut). is_stop o.answer) (sym (said (fixed act_is.Fence 1 true) is refl ∙ ap (fence 1) crash)) ∙ stops)

-- a crash with a step has a call to fence its server
record HasCall (J : Past) (r : ℕ) (server : Server) : Type 0 where
  pub call : ℕ
  pub node : Node
  pub there : node_of J call ≡ Some node
  pub fences : node.args ≡ args_are.FenceCall server
  pub rest : List ℕ
  pub above : node.above ≡ r ∷ rest

abbrev HaveCalls : Past → Type 0
HaveCalls J = (r : ℕ) (x : Node) (server : Server) → node_of J r ≡ Some x → x.args ≡ args_are.Crash server → last_answer J r ≢ None → HasCall J r server

call_on : (entry : Entry) (J : Past) → IsLegal (entry ∷ J) → (r : ℕ) (server : Server) → HasCall J r server → HasCall (entry ∷ J) r server
call_on entry J legal r server h = record { call = h.call; node = h.node; there = nodes_stay entry J legal h.call h.node h.there; fences = h.fences; rest = h.rest; above = h.above }

calls_on : (entry : Entry) (J : Past) → IsLegal (entry ∷ J) → HaveCalls J → (r : ℕ) (x : Node) (server : Server) → node_of (entry ∷ J) r ≡ Some x → x.args ≡ args_are.Crash server → last_answer J r ≢ None → HasCall (entry ∷ J) r server
calls_on entry J legal before r x server is crash begun =
    let there = some_of (node_of J r) (λ none. begun ((grown_all J legal.0).unmade r none)) in
    call_on entry J legal r server (before r x server (was_there entry J legal r x is there.0 there.1) crash begun)

-- its first step makes one
first_calls : (pid : Pid) (pick : Option Server) (out : StepOut) (J : Past) → IsLegal (entry_is.Step pid pick out ∷ J) → (server : Server) (x : Node) → node_of J pid.0 ≡ Some x → x.args ≡ args_are.Crash server → last_answer J pid.0 ≡ None → HasCall (entry_is.Step pid pick out ∷ J) pid.0 server
unfolding step
first_calls pid pick out J legal server x is crash none =
    let me = step_of pid pick out J (grown_all J legal.0) legal in
    let one : me.node ≡ x = same_Some me.node x (sym me.node_is ∙ is) in
    let own : me.node.args ≡ args_are.Crash server = ap (λ (n : Node). n.args) one ∙ crash in
    let children : out.children ≡ child_is.One (args_are.FenceCall server) ∷ [] = first_fences pid pick out J legal server own none in
    let size : made J + 1 - made J - 1 ≡ 0 = omega arith in
    record {
      call = made J + 1;
      node = child_of pid.0 x (args_are.FenceCall server);
      there = node_new pid pick out J x is (made J + 1) (omega arith) ∙ ap (λ c. option_map (child_of pid.0 x) (slice_get (args_in c) (made J + 1 - made J - 1))) children ∙ ap (λ i. option_map (child_of pid.0 x) (slice_get (args_are.FenceCall server ∷ []) i)) size;
      fences = refl;
      rest = x.above;
      above = refl;
    }

calls_all : (J : Past) → IsLegal J → HaveCalls J
calls_all [] legal r x server is crash begun = absurd (none-some x is)
calls_all (entry_is.Step pid pick out ∷ J) legal r x server is crash begun = elim (cases_eq r pid.0) [
  | inr other ↦ calls_on (entry_is.Step pid pick out) J legal (calls_all J legal.0) r x server is crash (λ none. begun (other_answer pid pick out J r other ∙ none))
  | inl mine ↦ by (calls_all J legal.0) (last_answer J pid.0) refl mine
]
  where
    by : HaveCalls J → (o : Option Answer) → last_answer J pid.0 ≡ o → r ≡ pid.0 → HasCall (entry_is.Step pid pick out ∷ J) r server
    by old (Some a) e mine = calls_on (entry_is.Step pid pick out) J legal old r x server is crash (λ none. none-some a (sym none ∙ ap (last_answer J) mine ∙ e))
    by old None e mine =
        let me = step_of pid pick out J (grown_all J legal.0) legal in
        let here : node_of J r ≡ Some x = was_there (entry_is.Step pid pick out) J legal r x is me.node (ap (node_of J) mine ∙ me.node_is) in
        subst (λ p. HasCall (entry_is.Step pid pick out ∷ J) p server) (sym mine) (first_calls pid pick out J legal server x (ap (node_of J) (sym mine) ∙ here) crash e)
calls_all (entry_is.Base part ∷ J) legal r x server is crash begun = absurd (none-some x is)
calls_all (entry ∷ J) legal r x server is crash begun = calls_on entry J legal (calls_all J legal.0) r x server is crash begun

-- a crash that has stopped fenced its server
abbrev HaveFenced : Past → Type 0
HaveFenced J = (r : ℕ) (x : Node) (server : Server) → node_of J r ≡ Some x → x.args ≡ args_are.Crash server → is_stopped (last_answer J r) ≡ true → is_fenced J server ≡ true

crashed_on : (entry : Entry) (J : Past) → IsLegal (entry ∷ J) → HaveFenced J → (r : ℕ) (x : Node) (server : Server) → node_of (entry ∷ J) r ≡ Some x → x.args ≡ args_are.Crash server → is_stopped (last_answer J r) ≡ true → is_fenced (entry ∷ J) server ≡ true
crashed_on entry J legal before r x server is crash stops =
    let there = stepped_there J (grown_all J legal.0) r stops in
    fenced_stays entry J server (before r x server (was_there entry J legal r x is there.0 there.1) crash stops)

-- whoever waits and may go on has children that have ended
waited : (J : Past) (p : ℕ) (node : Node) (last : Option Answer) → IsWaiting last → ReadyBy J p node last → children_ended J p ≡ true
waited J p node None waits ready = absurd waits
waited J p node (Some (answer_is.More n)) waits ready = absurd waits
waited J p node (Some (answer_is.Wait n)) waits ready = ready
waited J p node (Some (answer_is.Await n)) waits ready = absurd waits
waited J p node (Some (answer_is.Done told)) waits ready = absurd waits
waited J p node (Some (answer_is.Fail cause)) waits ready = absurd waits
waited J p node (Some answer_is.Undone) waits ready = absurd waits

-- the step that ends one finds the call answered
ends_fenced : (pid : Pid) (pick : Option Server) (out : StepOut) (J : Past) → IsLegal (entry_is.Step pid pick out ∷ J) → (server : Server) (x : Node) → node_of J pid.0 ≡ Some x → x.args ≡ args_are.Crash server → is_stop out.answer ≡ true → is_fenced J server ≡ true
unfolding step
ends_fenced pid pick out J legal server x is crash stop =
    let g = grown_all J legal.0 in
    let me = step_of pid pick out J (grown_all J legal.0) legal in
    let one : me.node ≡ x = same_Some me.node x (sym me.node_is ∙ is) in
    let own : me.node.args ≡ args_are.Crash server = ap (λ (n : Node). n.args) one ∙ crash in
    let c = calls_all J legal.0 pid.0 x server is crash (stops_later pid pick out J legal server own stop) in
    elim (cases_Bool (is_stopped (last_answer J c.call))) [
      | inl on ↦ fenced_all J legal.0 c.call c.node server c.there c.fences on
      | inr off ↦
          let waits = g.waits c.call c.node c.there pid.0 c.rest c.above off in
          let all = waited J pid.0 me.node (last_answer J pid.0) waits me.ready in
          absurd (true≢false (sym (child_stopped J g pid.0 all c.call c.node c.there c.rest c.above) ∙ off))
    ]

pub crashed_all : (J : Past) → IsLegal J → HaveFenced J
crashed_all [] legal r x server is crash stops = absurd (none-some x is)
crashed_all (entry_is.Step pid pick out ∷ J) legal r x server is crash stops = elim (cases_eq r pid.0) [
  | inr other ↦ crashed_on (entry_is.Step pid pick out) J legal (crashed_all J legal.0) r x server is crash (ap is_stopped (sym (other_answer pid pick out J r other)) ∙ stops)
  | inl mine ↦
      let me = step_of pid pick out J (grown_all J legal.0) legal in
      let here : node_of J r ≡ Some x = was_there (entry_is.Step pid pick out) J legal r x is me.node (ap (node_of J) mine ∙ me.node_is) in
      let stop : is_stop out.answer ≡ true = ap is_stopped (sym (ap (last_answer (entry_is.Step pid pick out ∷ J)) mine ∙ answer_now pid pick out J)) ∙ stops in
      ends_fenced pid pick out J legal server x (ap (node_of J) (sym mine) ∙ here) crash stop
]
crashed_all (entry_is.Base part ∷ J) legal r x server is crash stops = absurd (none-some x is)
crashed_all (entry ∷ J) legal r x server is crash stops = crashed_on entry J legal (crashed_all J legal.0) r x server is crash stops
