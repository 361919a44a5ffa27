-- Nothing is unfinished where nothing can go on: a server that went down is fenced; a holder that moves a region or was requested
-- has somebody who can go on; so has a crash, which waits for those alone; and where nobody holds, nobody waits.
use Rattle.std.proofs.Common.{◌≡◌, ◌≢◌, ℕ, List, [], ◌∷◌, not, true, false, Option, Some, None, is_some, refl, ap, sym, ◌∙◌, subst, inl, inr}
use Rattle.std.proofs.lemmas.Bool.{cases_Bool, cases_eq, false≢true, or_cases, or_right, true≢false}
use Rattle.std.proofs.lemmas.Option.{none-some, same_Some}
use Rattle.hm_names.specs.Region.{Region}
use Rattle.hm_names.specs.Server.{Server}
use Rattle.hm_data.specs.declared.answer.Answer.{Answer}
use Rattle.hm_data.specs.declared.answer.Answer.TheVariants as answer_is
use Rattle.hm_data.specs.declared.answer.Cause.{Cause}
use Rattle.hm_data.specs.declared.args.Args.{Args}
use Rattle.hm_data.specs.declared.args.Args.TheVariants as args_are
use Rattle.hm_data.specs.declared.call.Peer.{Peer}
use Rattle.hm_data.specs.declared.call.Peer.TheVariants as peer_is
use Rattle.hm_data.specs.declared.call.Told.{Told}
use Rattle.hm_data.specs.declared.call.Verb.{Verb}
use Rattle.hm_data.specs.declared.call.Verb.TheVariants as verb_is
use Rattle.hm_data.specs.declared.place.Goal.{Goal}
use Rattle.hm_data.specs.declared.request.Request.{Request}
use Rattle.hm_model.specs.Answers.{is_stopped, last_answer, report_of}
use Rattle.hm_model.specs.Fleet.{came_up, has_live, is_fenced, is_live}
use Rattle.hm_model.specs.Holding.{HoldsWith, InConflict, IsFree}
use Rattle.hm_model.specs.Inputs.{fenced_if}
use Rattle.hm_model.specs.Journal.{Past}
use Rattle.hm_model.specs.Locks.{AsksClash, Clash, IsAbove, IsIn, asks}
use Rattle.hm_model.specs.Phase.{cause, children_ended, ended, root_ended}
use Rattle.hm_model.specs.Picks.{needs_server}
use Rattle.hm_model.specs.Reports.{is_reported, peer_in, peer_of, verb_of}
use Rattle.hm_model.specs.Rest.{IsAnswered, IsAtRest, MayUndo}
use Rattle.hm_model.specs.Rules.{IsLegal}
use Rattle.hm_model.specs.Tree.{Node, is_top, node_of, root_node}
use Rattle.hm_model.specs.Verbs.{verb_in}
use Rattle.hm_model.specs.Whereabouts.{moved_by}
use Rattle.hm_model.proofs.Forest.{rooted_all}
use Rattle.hm_model.proofs.PlainActs.{is_caller}
use Rattle.hm_model.proofs.StepDoes.{bears_by}
use Rattle.hm_model.proofs.Trees.{IsWaiting, grown_all}
use Rattle.hm_world_model.specs.Rest.{AllHaveEnded, CallsAreSettled, StillIsEnded, can_answer}
use Rattle.hm_model.proofs.Tops.{ended_top}
use Rattle.hm_model.proofs.Taken.{legal_apart, some_node}
use Rattle.hm_model.proofs.Small.{cons_nil, nil_cons}
use Rattle.hm_world_model.proofs.Apart.{ended_below, root_open}
use Rattle.hm_world_model.proofs.Births.{BornOf, Over}
use Rattle.hm_world_model.proofs.Clashing.{askless, crash_clash, crashing, locker, moved_crash, moving, over_clash, requesting}
use Rattle.hm_world_model.proofs.Facts.{node_called}
use Rattle.hm_world_model.proofs.Going.{Goer, OpenChild, children, goes, tree_goes}
use Rattle.hm_world_model.proofs.Known.{called_up, peer_called}
use Rattle.hm_world_model.proofs.Lineage.{crashed, lineage_all}
use Rattle.hm_world_model.proofs.Opening.{reported_fence}
use Rattle.hm_model.specs.declared.lock.Ask.{Ask}
use Rattle.hm_single.proofs.Kin.{kin_of}
use Rattle.std.proofs.Math.Bool.{or_comm}

-- what calls about a region calls something, and moves nothing
caller_parts : (args : Args) → is_caller args ≡ true → (moved_by args ≡ None) × (is_some (verb_in args) ≡ true) × (asks args ≡ [])
caller_parts (args_are.AssignCall region server) h = (refl, refl, refl)
caller_parts (args_are.CloseCall region server) h = (refl, refl, refl)
caller_parts args h = absurd (false≢true h)

module _ (J : Past) (legal : IsLegal J) (live : has_live J ≡ true) (settled : CallsAreSettled J) (still : IsAtRest J) where
  -- who can step can go on, if it is free
  module _ (p : ℕ) (x : Node) (is : node_of J p ≡ Some x) (runs : is_stopped (last_answer J p) ≡ false) (uncaused : x.above ≡ [] → cause J p ≡ None) (done : children_ended J p ≡ true) where
    steps : ((n : ℕ) → last_answer J p ≡ Some (answer_is.Await n) → IsAnswered J p x) → IsFree J [] p → ⊥
    steps answered free = elim (goes J legal p x is runs uncaused done) [
      | inl runnable ↦ still p (λ none. none, free, inl (x, is, inl runnable, or_right (not (needs_server J p x)) (has_live J) live))
      | inr awaits ↦ still p (λ none. none, free, inl (x, is, inr (awaits.0, answered awaits.1.0 awaits.1.1), or_right (not (needs_server J p x)) (has_live J) live))
    ]

  unended : (p : ℕ) (x : Node) → node_of J p ≡ Some x → is_stopped (last_answer J p) ≡ false → (x.above ≡ [] → cause J p ≡ None) → ended J p ≡ false
  unended p x is runs uncaused = by x.above refl
    where
      by : (above : List ℕ) → x.above ≡ above → ended J p ≡ false
      by [] e = ended_top J p x is e ∙ ap (root_ended J) (sym ((grown_all J legal).tops p x is e)) ∙ root_open J legal p x is runs uncaused
      by (u ∷ rest) e = ended_below J p x is (λ none. cons_nil u rest (sym e ∙ none)) ∙ runs

  -- who holds is free
  held_free : (p : ℕ) → HoldsWith J [] p → IsFree J [] p
  held_free p hp q hq c = legal_apart J legal p q hp hq c

  -- so is who asks for nothing
  askless_free : (p : ℕ) (x : Node) → node_of J p ≡ Some x → asks x.args ≡ [] → IsFree J [] p
  askless_free p x is none q hq c = by (node_of J q) (subst (λ o. AsksClash o (node_of J q)) is c.1.2)
    where
      by : (o : Option Node) → AsksClash (Some x) o → ⊥
      by None h = h
      by (Some y) h = subst (IsIn h.0) none h.2

  -- who makes a call has no children
  call_alone : (p : ℕ) (x : Node) → node_of J p ≡ Some x → moved_by x.args ≡ None → is_some (verb_in x.args) ≡ true → children_ended J p ≡ true
  call_alone p x is unmoved called = elim (children J legal p) [
    | inl done ↦ done
    | inr c ↦
        let up = (grown_all J legal).ups c.child c.node c.there p c.rest c.above in
        let one : up.0 ≡ x = same_Some up.0 x (sym up.1 ∙ is) in
        let bears_it = subst (λ (n : Node). bears_by (is_some (moved_by n.args)) (is_some (verb_in n.args)) (is_caller c.node.args) ≡ true) one up.4 in
        absurd (false≢true (sym (ap (λ o. bears_by (is_some o) (is_some (verb_in x.args)) (is_caller c.node.args)) unmoved ∙ ap (λ b. bears_by false b (is_caller c.node.args)) called) ∙ bears_it))
  ]

  -- a call to somebody who can answer was answered
  reported : (p : ℕ) (peer : Peer) → peer_of J p ≡ Some peer → can_answer J peer ≡ true → ended J p ≡ false → report_of J p ≢ None
  reported p peer to there open_call = elim (or_cases (is_reported J p) (ended J p) (settled p peer to there)) [
    | inl told ↦ λ none. false≢true (sym (ap is_some none) ∙ told)
    | inr over ↦ absurd (true≢false (sym over ∙ open_call))
  ]

  -- a call to fence comes to its end
  fence_done : (f : ℕ) (x : Node) (s : Server) → node_of J f ≡ Some x → x.args ≡ args_are.FenceCall s → x.above ≢ [] → is_fenced J s ≡ true
  fence_done f x s is own below = elim (cases_Bool (is_stopped (last_answer J f))) [
    | inl stopped ↦ shown (report_of J f) refl ((lineage_all J legal).told f x s is own stopped)
    | inr runs ↦ absurd (steps f x is runs (λ top. absurd (below top)) (call_alone f x is (ap moved_by own) (ap (λ a. is_some (verb_in a)) own)) (λ n awaits. inl (answered n awaits runs)) (askless_free f x is (ap asks own)))
  ]
    where
      own_verb : (verb : Verb) → verb_of J f ≡ Some verb → verb ≡ verb_is.Fence s
      own_verb verb v =
          let n = (grown_all J legal).verbs f verb v in
          let one : n.0 ≡ x = same_Some n.0 x (sym n.1 ∙ is) in
          same_Some verb (verb_is.Fence s) (sym n.2 ∙ ap (λ (k : Node). verb_in k.args) one ∙ ap verb_in own)

      shown : (o : Option Told) → report_of J f ≡ o → o ≢ None → is_fenced J s ≡ true
      shown None e some = absurd (some refl)
      shown (Some told) e some = let v = (grown_all J legal).fits f told e in reported_fence J legal f told s e (v.1 ∙ ap Some (own_verb v.0 v.1))

      answered : (n : ℕ) → last_answer J f ≡ Some (answer_is.Await n) → is_stopped (last_answer J f) ≡ false → report_of J f ≢ None
      answered n awaits runs =
          let verb = some_verb (verb_of J f) refl ((lineage_all J legal).awaits f n awaits) in
          let called = node_called J legal f verb.0 verb.1 in
          let one : called.0 ≡ x = same_Some called.0 x (sym called.1 ∙ is) in
          reported f peer_is.Storage (called.3 ∙ ap (λ (k : Node). Some (peer_in k.args)) one ∙ ap (λ a. Some (peer_in a)) own) refl (unended f x is runs (λ top. absurd (below top)))
        where
          some_verb : (o : Option Verb) → verb_of J f ≡ o → o ≢ None → (verb : Verb) × (verb_of J f ≡ Some verb)
          some_verb None e some = absurd (some refl)
          some_verb (Some verb) e some = (verb, e)

  crash_fenced : (c : ℕ) (x : Node) (s : Server) → node_of J c ≡ Some x → x.args ≡ args_are.Crash s → last_answer J c ≢ None → is_fenced J s ≡ true
  crash_fenced c x s is own begun = let f = (lineage_all J legal).fences c x s is own begun in fence_done f.0 f.1 s f.2 f.3 f.4

  -- a server that went down is fenced
  down_fenced : (s : Server) → came_up J s ≡ true → is_live J s ≡ false → is_fenced J s ≡ true
  down_fenced s up down = elim (crashed J legal s up down) [ inl c ↦ by c.0 c.1 (last_answer J c.0) refl | inr fenced ↦ fenced ]
    where
      none_waits : (o : Option Answer) → o ≡ None → IsWaiting o → ⊥
      none_waits None e h = h
      none_waits (Some a) e h = none-some a (sym e)

      no_child : (c : ℕ) → last_answer J c ≡ None → children_ended J c ≡ true
      no_child c none = elim (children J legal c) [
        | inl done ↦ done
        | inr k ↦ absurd (none_waits (last_answer J c) none ((grown_all J legal).waits k.child k.node k.there c k.rest k.above k.runs))
      ]

      no_cause : (c : ℕ) → last_answer J c ≡ None → (k : Option Cause) → cause J c ≡ k → k ≡ None
      no_cause c none None e = refl
      no_cause c none (Some k) e = absurd ((lineage_all J legal).begun c (λ e2. none-some k (sym e2 ∙ e)) none)

      free_crash : (c : ℕ) → node_of J c ≡ Some (root_node c (args_are.Crash s) 1) → is_fenced J s ≡ false → IsFree J [] c
      free_crash c is unfenced q hq conflict = by_node (node_of J q) refl (subst (λ o. AsksClash o (node_of J q)) is conflict.1.2)
        where
          begun : last_answer J q ≢ None
          begun = elim hq.2 [ inl some ↦ some | inr never ↦ absurd never ]

          by_node : (o : Option Node) → node_of J q ≡ o → AsksClash (Some (root_node c (args_are.Crash s) 1)) o → ⊥
          by_node None e h = h
          by_node (Some y) e h = true≢false (sym (crash_fenced q y s e (crash_clash s y.args h) begun) ∙ unfenced)

      by : (c : ℕ) → node_of J c ≡ Some (root_node c (args_are.Crash s) 1) → (o : Option Answer) → last_answer J c ≡ o → is_fenced J s ≡ true
      by c is (Some a) e = crash_fenced c (root_node c (args_are.Crash s) 1) s is refl (λ none. none-some a (sym none ∙ e))
      by c is None e = elim (cases_Bool (is_fenced J s)) [
        | inl fenced ↦ fenced
        | inr unfenced ↦ absurd (steps c (root_node c (args_are.Crash s) 1) is (ap is_stopped e) (λ top. no_cause c e (cause J c) refl) (no_child c e) (λ n awaits. absurd (none-some (answer_is.Await n) (sym e ∙ awaits))) (free_crash c is unfenced))
      ]

  -- who awaits an answer has it, or calls a server that is fenced
  answered : (p : ℕ) (x : Node) → node_of J p ≡ Some x → is_stopped (last_answer J p) ≡ false → (x.above ≡ [] → cause J p ≡ None) → (n : ℕ) → last_answer J p ≡ Some (answer_is.Await n) → IsAnswered J p x
  answered p x is runs uncaused n awaits = by_verb (verb_of J p) refl ((lineage_all J legal).awaits p n awaits)
    where
      by_peer : peer_of J p ≡ Some (peer_in x.args) → (peer : Peer) → peer_in x.args ≡ peer → IsAnswered J p x
      by_peer to peer_is.Storage e = inl (reported p peer_is.Storage (to ∙ ap Some e) refl (unended p x is runs uncaused))
      by_peer to (peer_is.Server s) e = elim (cases_Bool (is_live J s)) [
        | inl on ↦ inl (reported p (peer_is.Server s) (to ∙ ap Some e) on (unended p x is runs uncaused))
        | inr off ↦
            let called = peer_called x.args s e in
            inr (ap (fenced_if J) called ∙ down_fenced s (called_up J legal p x s is called) off)
      ]

      by_verb : (o : Option Verb) → verb_of J p ≡ o → o ≢ None → IsAnswered J p x
      by_verb None e some = absurd (some refl)
      by_verb (Some verb) e some =
          let called = node_called J legal p verb e in
          let one : called.0 ≡ x = same_Some called.0 x (sym called.1 ∙ is) in
          by_peer (called.3 ∙ ap (λ (k : Node). Some (peer_in k.args)) one) (peer_in x.args) refl

  -- so who goes on isn't free
  goer_not_free : (r : ℕ) (g : Goer J r) → IsFree J [] g.pid → ⊥
  goer_not_free r g free = steps g.pid g.node g.there g.runs g.uncaused g.ended (λ n awaits. answered g.pid g.node g.there g.runs g.uncaused n awaits) free

  goer_begun : (r : ℕ) (g : Goer J r) → last_answer J g.pid ≢ None → ⊥
  goer_begun r g begun = goer_not_free r g (held_free g.pid ((λ none. none-some g.node (sym none ∙ g.there)), unended g.pid g.node g.there g.runs g.uncaused, inl begun))

  -- who is asked to call a region server and hasn't stopped can go on
  caller_goes : (p : ℕ) (x : Node) → node_of J p ≡ Some x → is_caller x.args ≡ true → is_stopped (last_answer J p) ≡ false → ⊥
  caller_goes p x is caller runs =
      let parts = caller_parts x.args caller in
      let below = λ (top : x.above ≡ []). true≢false (sym (ap is_top top) ∙ (lineage_all J legal).below p x is caller) in
      steps p x is runs (λ top. absurd (below top)) (call_alone p x is parts.0 parts.1) (λ n awaits. answered p x is runs (λ top. absurd (below top)) n awaits) (askless_free p x is parts.2)

  -- a transit's child calls a region server
  moved_child : (p : ℕ) (x : Node) (r : Region) → node_of J p ≡ Some x → moved_by x.args ≡ Some r → OpenChild J p → ⊥
  moved_child p x r is m c =
      let up = (grown_all J legal).ups c.child c.node c.there p c.rest c.above in
      let one : up.0 ≡ x = same_Some up.0 x (sym up.1 ∙ is) in
      let bears_it = subst (λ (n : Node). bears_by (is_some (moved_by n.args)) (is_some (verb_in n.args)) (is_caller c.node.args) ≡ true) one up.4 in
      caller_goes c.child c.node c.there (sym (ap (λ o. bears_by (is_some o) (is_some (verb_in x.args)) (is_caller c.node.args)) m) ∙ bears_it) c.runs

  -- a root that holds has nothing to undo
  no_undo : (q : ℕ) → HoldsWith J [] q → MayUndo J q → ⊥
  no_undo q holds undo = still q (λ none. none, held_free q holds, inr undo)

  -- nobody who moves a region holds
  moving_not : (q : ℕ) (x : Node) (r : Region) → node_of J q ≡ Some x → moved_by x.args ≡ Some r → HoldsWith J [] q → ⊥
  moving_not q x r is m holds = by x.above refl
    where
      by : (above : List ℕ) → x.above ≡ above → ⊥
      by (u ∷ rest) e =
          let runs = sym (ended_below J q x is (λ none. cons_nil u rest (sym e ∙ none))) ∙ holds.1 in
          elim (children J legal q) [
            | inl done ↦ steps q x is runs (λ top. absurd (cons_nil u rest (sym e ∙ top))) done (λ n awaits. answered q x is runs (λ top. absurd (cons_nil u rest (sym e ∙ top))) n awaits) (held_free q holds)
            | inr c ↦ moved_child q x r is m c
          ]
      by [] e = elim (tree_goes J legal q x is e (sym (ended_top J q x is e) ∙ holds.1)) [
        | inr undo ↦ no_undo q holds undo
        | inl g ↦ elim (cases_eq g.pid q) [
          | inl own ↦ goer_not_free q g (subst (IsFree J []) (sym own) (held_free q holds))
          | inr differs ↦ caller_goes g.pid g.node g.there (kin_of J (grown_all J legal) q (record { node = x; node_is = is; region = r; moved = m; top = e }) g.pid g.node g.there g.root differs).0 g.runs
        ]
      ]

  -- requests and crashes are roots
  request_top : (q : ℕ) (x : Node) (request : Request) (first : ℕ) → node_of J q ≡ Some x → x.args ≡ args_are.Root request first → x.above ≡ []
  request_top q x request first is own = by x.above refl
    where
      by : (above : List ℕ) → x.above ≡ above → above ≡ []
      by [] e = refl
      by (u ∷ rest) e = let up = (grown_all J legal).ups q x is u rest e in absurd (subst (BornOf up.0.args) own ((lineage_all J legal).born q x up.0 u rest is e up.1))

  crash_top : (q : ℕ) (x : Node) (s : Server) → node_of J q ≡ Some x → x.args ≡ args_are.Crash s → x.above ≡ []
  crash_top q x s is own = by x.above refl
    where
      by : (above : List ℕ) → x.above ≡ above → above ≡ []
      by [] e = refl
      by (u ∷ rest) e = let up = (grown_all J legal).ups q x is u rest e in absurd (subst (BornOf up.0.args) own ((lineage_all J legal).born q x up.0 u rest is e up.1))

  -- a transit without a step is free, if no request that holds is in its way
  transit_free : (p : ℕ) (y : Node) (region : Region) (goal : Goal) (to : Option Server) → node_of J p ≡ Some y → y.args ≡ args_are.Transit region goal to
      → ((q : ℕ) (z : Node) (request : Request) (first : ℕ) → node_of J q ≡ Some z → z.args ≡ args_are.Root request first → HoldsWith J [] q → InConflict J p q → ⊥) → IsFree J [] p
  transit_free p y region goal to is own requested q holds c = by (node_of J q) refl (subst (λ o. AsksClash o (node_of J q)) is c.1.2)
    where
      by : (o : Option Node) → node_of J q ≡ o → AsksClash (Some y) o → ⊥
      by None e h = h
      by (Some z) e h = elim (locker z.args) [
        | moving r m ↦ moving_not q z r e m holds
        | requesting request first its ↦ requested q z request first e its holds c
        | crashing s its ↦ moved_crash region goal to s (subst (λ a. Clash (asks a) (asks (args_are.Crash s))) own (subst (λ a. Clash (asks y.args) (asks a)) its h))
        | askless none ↦ subst (IsIn h.1) none h.3
      ]

  -- no request that holds
  requesting_not : (q : ℕ) (x : Node) (request : Request) (first : ℕ) → node_of J q ≡ Some x → x.args ≡ args_are.Root request first → HoldsWith J [] q → ⊥
  requesting_not q x request first is own holds = elim (tree_goes J legal q x is top (sym (ended_top J q x is top) ∙ holds.1)) [
    | inr undo ↦ no_undo q holds undo
    | inl g ↦ goes_on g (last_answer J g.pid) refl
  ]
    where
      top : x.above ≡ []
      top = request_top q x request first is own

      begun : last_answer J q ≢ None
      begun = elim holds.2 [ inl some ↦ some | inr never ↦ absurd never ]

      -- another request in the way of a transit of this one's is in the way of this one
      in_way : (p : ℕ) (y : Node) (region : Region) (goal : Goal) (to : Option Server) (rest : List ℕ) → node_of J p ≡ Some y → y.args ≡ args_are.Transit region goal to → y.above ≡ q ∷ rest → Over (asks x.args) region
          → (s : ℕ) (z : Node) (other : Request) (its : ℕ) → node_of J s ≡ Some z → z.args ≡ args_are.Root other its → HoldsWith J [] s → InConflict J p s → ⊥
      in_way p y region goal to rest at mine above over s z other its there theirs held c = elim (cases_eq s q) [
        | inl same ↦ c.1.1 (subst (IsAbove s) (sym at) (subst (IsIn s) (sym above) (inl same)))
        | inr differs ↦
            let clash : Clash (asks y.args) (asks z.args) = subst (AsksClash (Some y)) there (subst (λ o. AsksClash o (node_of J s)) at c.1.2) in
            let wide = over_clash (asks x.args) region goal to z.args over ((lineage_all J legal).sound s z there) (subst (λ a. Clash (asks a) (asks z.args)) mine clash) in
            legal_apart J legal q s holds held (
              (λ e. differs (sym e)),
              (
                (λ up. subst (IsIn q) (request_top s z other its there theirs) (subst (IsAbove q) there up)),
                (λ up. subst (IsIn s) top (subst (IsAbove s) is up)),
                subst (λ o. AsksClash o (node_of J s)) (sym is) (subst (AsksClash (Some x)) (sym there) wide),
              ),
            )
      ]

      parent_over : (region : Region) (goal : Goal) (to : Option Server) (up : Args) → BornOf up (args_are.Transit region goal to) → up ≡ x.args → Over (asks x.args) region
      parent_over region goal to up born same = by own (subst (λ a. BornOf a (args_are.Transit region goal to)) (same ∙ own) born)
        where
          by : x.args ≡ args_are.Root request first → BornOf (args_are.Root request first) (args_are.Transit region goal to) → Over (asks x.args) region
          by e over = subst (λ a. Over (asks a) region) (sym e) over

      -- whose parent isn't this one has a parent that bears no transits
      free_below : (g : Goer J q) → g.pid ≢ q → IsFree J [] g.pid
      free_below g differs = by_above g.node.above refl
        where
          by_args : (u : ℕ) (rest : List ℕ) → g.node.above ≡ u ∷ rest → (args : Args) → g.node.args ≡ args → IsFree J [] g.pid
          by_args u rest e (args_are.Root other its) a = absurd (nil_cons u rest (sym (request_top g.pid g.node other its g.there a) ∙ e))
          by_args u rest e (args_are.Crash s) a = absurd (nil_cons u rest (sym (crash_top g.pid g.node s g.there a) ∙ e))
          by_args u rest e (args_are.Transit region goal to) a =
              let up = (grown_all J legal).ups g.pid g.node g.there u rest e in
              let born = subst (BornOf up.0.args) a ((lineage_all J legal).born g.pid g.node up.0 u rest g.there e up.1) in
              let up_top : up.0.above ≡ [] = bearer_top up.0.args u up.0 region goal to up.1 refl born in
              let mine : u ≡ q = sym ((grown_all J legal).tops u up.0 up.1 up_top) ∙ up.3 ∙ g.root in
              let one : up.0 ≡ x = same_Some up.0 x (sym up.1 ∙ ap (node_of J) mine ∙ is) in
              transit_free g.pid g.node region goal to g.there a (in_way g.pid g.node region goal to rest g.there a (e ∙ ap (λ k. k ∷ rest) mine) (parent_over region goal to up.0.args born (ap (λ (n : Node). n.args) one)))
            where
              bearer_top : (args : Args) (u : ℕ) (up : Node) (region : Region) (goal : Goal) (to : Option Server) → node_of J u ≡ Some up → up.args ≡ args → BornOf args (args_are.Transit region goal to) → up.above ≡ []
              bearer_top (args_are.Root other its) u up region goal to at k born = request_top u up other its at k
              bearer_top (args_are.Crash s) u up region goal to at k born = crash_top u up s at k
              bearer_top args u up region goal to at k born = absurd born
          by_args u rest e args a = askless_free g.pid g.node g.there (ap asks a)

          by_above : (above : List ℕ) → g.node.above ≡ above → IsFree J [] g.pid
          by_above [] e = absurd (differs (sym ((grown_all J legal).tops g.pid g.node g.there e) ∙ g.root))
          by_above (u ∷ rest) e = by_args u rest e g.node.args refl

      goes_on : (g : Goer J q) → (o : Option Answer) → last_answer J g.pid ≡ o → ⊥
      goes_on g (Some a) e = goer_begun q g (λ none. none-some a (sym none ∙ e))
      goes_on g None e = goer_not_free q g (free_below g (λ own. begun (ap (last_answer J) (sym own) ∙ e)))

  -- nobody who holds what a procedure waits for is a crash: it asks for its server alone, and its transits wait for the others
  crashing_not : (q : ℕ) (x : Node) (s : Server) → node_of J q ≡ Some x → x.args ≡ args_are.Crash s → HoldsWith J [] q → ⊥
  crashing_not q x s is own holds = elim (tree_goes J legal q x is top (sym (ended_top J q x is top) ∙ holds.1)) [
    | inr undo ↦ no_undo q holds undo
    | inl g ↦ goes_on g (last_answer J g.pid) refl
  ]
    where
      top : x.above ≡ []
      top = crash_top q x s is own

      free_other : (g : Goer J q) → last_answer J g.pid ≡ None → IsFree J [] g.pid
      free_other g none p held c = by (node_of J p) refl (subst (λ o. AsksClash o (node_of J p)) g.there c.1.2)
        where
          own_clash : (z : Node) → AsksClash (Some g.node) (Some z) → (t : Server) → z.args ≡ args_are.Crash t → g.node.args ≡ args_are.Crash t
          own_clash z h t its = crash_clash t g.node.args (back (asks g.node.args) (asks z.args) (asks (args_are.Crash t)) (ap asks its) h)
            where
              back : (one other its : List Ask) → other ≡ its → Clash one other → Clash its one
              back one other its e k = (k.1, k.0, subst (IsIn k.1) e k.3, k.2, sym k.4, or_comm k.1.exclusive k.0.exclusive ∙ k.5)

          -- the crash itself has a step, so who goes on without one isn't it
          not_crash : (t : Server) → g.node.args ≡ args_are.Crash t → ⊥
          not_crash t mine =
              let at_top = crash_top g.pid g.node t g.there mine in
              let same : g.pid ≡ q = sym ((grown_all J legal).tops g.pid g.node g.there at_top) ∙ g.root in
              elim holds.2 [ inl some ↦ some (ap (last_answer J) (sym same) ∙ none) | inr never ↦ never ]

          by : (o : Option Node) → node_of J p ≡ o → AsksClash (Some g.node) o → ⊥
          by None e h = h
          by (Some z) e h = elim (locker z.args) [
            | moving r m ↦ moving_not p z r e m held
            | requesting request first its ↦ requesting_not p z request first e its held
            | crashing t its ↦ not_crash t (own_clash z h t its)
            | askless none ↦ subst (IsIn h.1) none h.3
          ]

      goes_on : (g : Goer J q) → (o : Option Answer) → last_answer J g.pid ≡ o → ⊥
      goes_on g (Some a) e = goer_begun q g (λ none. none-some a (sym none ∙ e))
      goes_on g None e = goer_not_free q g (free_other g e)

  -- nobody stands in anybody's way
  all_free : (p : ℕ) → IsFree J [] p
  all_free p q holds c = by (node_of J p) (node_of J q) refl c.1.2
    where
      by : (o other : Option Node) → node_of J q ≡ other → AsksClash o other → ⊥
      by None other e h = h
      by (Some x) None e h = h
      by (Some x) (Some z) e h = elim (locker z.args) [
        | moving r m ↦ moving_not q z r e m holds
        | requesting request first its ↦ requesting_not q z request first e its holds
        | crashing s its ↦ crashing_not q z s e its holds
        | askless none ↦ subst (IsIn h.1) none h.3
      ]

  root_done : (r : ℕ) (top : Node) → node_of J r ≡ Some top → top.above ≡ [] → root_ended J r ≡ false → ⊥
  root_done r top is at_top open_root = elim (tree_goes J legal r top is at_top open_root) [
    | inl g ↦ goer_not_free r g (all_free g.pid)
    | inr undo ↦ still r (λ none. none, all_free r, inr undo)
  ]

  all_ended : AllHaveEnded J
  all_ended p there = elim (cases_Bool (ended J p)) [
    | inl over ↦ over
    | inr open_one ↦ (let x = some_node J p there in absurd (by x.0 x.1 open_one x.0.above refl))
  ]
    where
      by : (x : Node) → node_of J p ≡ Some x → ended J p ≡ false → (above : List ℕ) → x.above ≡ above → ⊥
      by x is open_one [] e = root_done p x is e (sym (ended_top J p x is e) ∙ open_one)
      by x is open_one (u ∷ rest) e =
          let below = λ (none : x.above ≡ []). cons_nil u rest (sym e ∙ none) in
          let runs = sym (ended_below J p x is below) ∙ open_one in
          let root = rooted_all J legal p x is in
          root_done x.root root.root root.there root.at_top (root_open J legal p x is runs (λ none. absurd (below none)))

pub still_ended : StillIsEnded
still_ended J legal live settled still = all_ended J legal live settled still
