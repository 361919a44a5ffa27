-- Plain facts of servers, regions and lists, and of the calls of a journal.
use Rattle.std.proofs.Common.{◌≡◌, ◌≢◌, ℕ, List, [], ◌∷◌, ◌++◌, ◌==◌, true, false, cond, Option, Some, None, refl, ap, sym, ◌∙◌, subst, inl, inr, ◌⊎◌}
use Rattle.std.specs.Option.{option_or}
use Rattle.std.proofs.lemmas.Bool.{cases_Bool, cond-false, cond-true, eq-eqb, false≢true, true≢false}
use Rattle.std.proofs.lemmas.Option.{none-some, same_Some}
use Rattle.hm_names.specs.Region.{Region}
use Rattle.hm_names.specs.Server.{Server}
use Rattle.hm_names.specs.declared.pid.Pid.{Pid}
use Rattle.hm_data.specs.declared.args.Args.{Args}
use Rattle.hm_data.specs.declared.args.Args.TheVariants as args_are
use Rattle.hm_data.specs.declared.call.Call.{Call}
use Rattle.hm_data.specs.declared.call.Peer.{Peer}
use Rattle.hm_data.specs.declared.call.Peer.TheVariants as peer_is
use Rattle.hm_data.specs.declared.call.Told.{Told}
use Rattle.hm_data.specs.declared.call.Verb.{Verb}
use Rattle.hm_data.specs.declared.call.Verb.TheVariants as verb_is
use Rattle.hm_data.specs.declared.entry.Entry.{Entry}
use Rattle.hm_data.specs.declared.entry.Entry.TheVariants as entry_is
use Rattle.hm_data.specs.declared.step.StepOut.{StepOut}
use Rattle.hm_model.specs.Fleet.{fences_by, same_server}
use Rattle.hm_model.specs.Journal.{Past}
use Rattle.hm_model.specs.Keys.{same_region}
use Rattle.hm_model.specs.Locks.{IsIn}
use Rattle.hm_model.specs.Reports.{call_if, call_of, is_about, is_the_region, last_call, peer_if, peer_in, peer_of, region_called, verb_of}
use Rattle.hm_model.specs.Rules.{FitsCall, IsLegal}
use Rattle.hm_model.specs.Tree.{Node, node_of, pid_of}
use Rattle.hm_model.specs.Verbs.{verb_in}
use Rattle.hm_model.proofs.Calls.{calls_own, calls_stay}
use Rattle.hm_model.proofs.Grown.{nodes_stay}
use Rattle.hm_model.proofs.KeyTests.{same_region-is, same_region-refl}
use Rattle.hm_model.proofs.NameTies.{same_server-is, same_server-refl}
use Rattle.hm_single.proofs.All.{last_is_recorded}
use Rattle.hm_world_model.specs.Outside.{set_actor}
use Rattle.hm_model.specs.Actors.{Actor}
use Rattle.hm_world_model.specs.Safe.{CallsTo}

-- one server, one region, or two
pub cases_server : (a b : Server) → ((same_server a b ≡ true) × (a ≡ b)) ⊎ ((same_server a b ≡ false) × (a ≢ b))
cases_server a b = elim (cases_Bool (same_server a b)) [
  | inl is ↦ inl (is, same_server-is a b is)
  | inr differs ↦ inr (differs, λ e. true≢false (sym (subst (λ x. same_server a x ≡ true) e (same_server-refl a)) ∙ differs))
]

pub cases_region : (a b : Region) → ((same_region a b ≡ true) × (a ≡ b)) ⊎ ((same_region a b ≡ false) × (a ≢ b))
cases_region a b = elim (cases_Bool (same_region a b)) [
  | inl is ↦ inl (is, same_region-is a b is)
  | inr differs ↦ inr (differs, λ e. true≢false (sym (subst (λ x. same_region a x ≡ true) e (same_region-refl a)) ∙ differs))
]

pub set_here : (actors : Server → Option Actor) (s : Server) (x : Option Actor) → set_actor actors s x s ≡ x
set_here actors s x = cond-true (same_server s s) x (actors s) (same_server-refl s)

pub set_other : (actors : Server → Option Actor) (s t : Server) (x : Option Actor) → same_server s t ≡ false → set_actor actors s x t ≡ actors t
set_other actors s t x differs = cond-false (same_server s t) x (actors t) differs

-- a running actor is the one that was set, or as it was
pub who_runs : (actors : Server → Option Actor) (s : Server) (x : Option Actor) (t : Server) (c : Actor) → set_actor actors s x t ≡ Some c → ((s ≡ t) × (x ≡ Some c)) ⊎ ((s ≢ t) × (actors t ≡ Some c))
who_runs actors s x t c run = elim (cases_server s t) [
  | inl same ↦ inl (same.1, sym (cond-true (same_server s t) x (actors t) same.0) ∙ run)
  | inr differs ↦ inr (differs.1, sym (set_other actors s t x differs.0) ∙ run)
]

-- what is in a longer list
pub in_pushed : {A : Type 0} (x y : A) (xs : List A) → IsIn x (xs ++ y ∷ []) → (x ≡ y) ⊎ IsIn x xs
in_pushed x y [] h = elim h [ inl e ↦ inl e | inr never ↦ absurd never ]
in_pushed x y (z ∷ xs) h = elim h [
  | inl e ↦ inr (inl e)
  | inr more ↦ elim (in_pushed x y xs more) [ inl e ↦ inl e | inr there ↦ inr (inr there) ]
]

pub in_both : {A : Type 0} (x : A) (xs ys : List A) → IsIn x (xs ++ ys) → IsIn x xs ⊎ IsIn x ys
in_both x [] ys h = inr h
in_both x (z ∷ xs) ys h = elim h [
  | inl e ↦ inl (inl e)
  | inr more ↦ elim (in_both x xs ys more) [ inl there ↦ inl (inr there) | inr there ↦ inr there ]
]

pub pushed_old : {A : Type 0} (x y : A) (xs : List A) → IsIn x xs → IsIn x (xs ++ y ∷ [])
pushed_old x y [] h = absurd h
pushed_old x y (z ∷ xs) h = elim h [ inl e ↦ inl e | inr more ↦ inr (pushed_old x y xs more) ]

pub pushed_new : {A : Type 0} (y : A) (xs : List A) → IsIn y (xs ++ y ∷ [])
pushed_new y [] = inl refl
pushed_new y (z ∷ xs) = inr (pushed_new y xs)

-- calls about a region
the_region_is : (r : Region) (o : Option Region) → is_the_region r o ≡ true → o ≡ Some r
the_region_is r None h = absurd (false≢true h)
the_region_is r (Some other) h = ap Some (sym (same_region-is r other h))

pub about_called : (r : Region) (o : Option Verb) → is_about r o ≡ true → (verb : Verb) × (o ≡ Some verb) × (region_called verb ≡ Some r)
about_called r None h = absurd (false≢true h)
about_called r (Some verb) h = (verb, refl, the_region_is r (region_called verb) h)

pub called_about : (r : Region) (verb : Verb) → region_called verb ≡ Some r → is_about r (Some verb) ≡ true
called_about r verb is = ap (is_the_region r) is ∙ same_region-refl r

pub last_about : (J : Past) → IsLegal J → (r : Region) (p : ℕ) → last_call J r ≡ Some p → (verb : Verb) × (verb_of J p ≡ Some verb) × (region_called verb ≡ Some r)
last_about J legal r p last = about_called r (verb_of J p) (last_is_recorded J legal r p last)

-- who is called
pub node_called : (J : Past) → IsLegal J → (p : ℕ) (verb : Verb) → verb_of J p ≡ Some verb → (node : Node) × (node_of J p ≡ Some node) × (verb_in node.args ≡ Some verb) × (peer_of J p ≡ Some (peer_in node.args))
node_called J legal p verb is = let v = calls_own J legal p verb is in (v.0, v.1, v.2, ap (λ n. peer_if n (verb_of J p)) v.1 ∙ ap (peer_if (Some v.0)) is)

pub server_of_peer : (a b : Server) → peer_is.Server a ≡ peer_is.Server b → a ≡ b
server_of_peer a b e = cc

pub one_server : (o : Option Peer) (a b : Server) → o ≡ Some (peer_is.Server a) → o ≡ Some (peer_is.Server b) → a ≡ b
one_server o a b x y = server_of_peer a b (same_Some (peer_is.Server a) (peer_is.Server b) (sym x ∙ y))

pub not_storage : (o : Option Peer) (a : Server) → o ≡ Some (peer_is.Server a) → o ≡ Some peer_is.Storage → ⊥
not_storage o a x y = by (same_Some (peer_is.Server a) peer_is.Storage (sym x ∙ y))
  where
    by : peer_is.Server a ≡ peer_is.Storage → ⊥
    by e = cc

pub fences_verb : (args : Args) (s : Server) → fences_by args s ≡ true → verb_in args ≡ Some (verb_is.Fence s)
fences_verb (args_are.FenceCall other) s h = ap (λ x. Some (verb_is.Fence x)) (sym (same_server-is s other h))
fences_verb args s h = absurd (false≢true h)

-- who calls about a region calls a server
pub region_peer : (args : Args) (verb : Verb) (r : Region) → verb_in args ≡ Some verb → region_called verb ≡ Some r → (s : Server) × (peer_in args ≡ peer_is.Server s)
region_peer (args_are.AssignCall region server) verb r v is = (server, refl)
region_peer (args_are.CloseCall region server) verb r v is = (server, refl)
region_peer (args_are.FenceCall server) verb r v is = absurd (none-some r (ap region_called (same_Some (verb_is.Fence server) verb v) ∙ is))
region_peer (args_are.LayoutCall root) verb r v is = absurd (none-some r (ap region_called (same_Some (verb_is.Layout root) verb v) ∙ is))
region_peer (args_are.SweepLayout root) verb r v is = absurd (none-some r (ap region_called (same_Some (verb_is.Sweep root) verb v) ∙ is))
region_peer args verb r v is = absurd (none-some verb v)

-- a call by its parts
pub call_parts : (p : ℕ) (peer : Option Peer) (verb : Option Verb) (call : Call) → call_if p peer verb ≡ Some call → (peer ≡ Some call.peer) × (verb ≡ Some call.verb)
call_parts p None verb call h = absurd (none-some call h)
call_parts p (Some peer) None call h = absurd (none-some call h)
call_parts p (Some peer) (Some verb) call h =
    let e = same_Some (record { id = pid_of p; peer = peer; verb = verb }) call h in
    (ap (λ (c : Call). Some c.peer) e, ap (λ (c : Call). Some c.verb) e)

pub parts_of : (J : Past) (call : Call) → call_of J call.id.0 ≡ Some call → (peer_of J call.id.0 ≡ Some call.peer) × (verb_of J call.id.0 ≡ Some call.verb)
parts_of J call is = call_parts call.id.0 (peer_of J call.id.0) (verb_of J call.id.0) call is

-- one verb
pub same_verb : (J : Past) (p : ℕ) (v w : Verb) → verb_of J p ≡ Some v → verb_of J p ≡ Some w → v ≡ w
same_verb J p v w a b = same_Some v w (sym a ∙ b)

-- what an entry leaves of the calls before it
module _ (entry : Entry) (J : Past) (legal : IsLegal (entry ∷ J)) where
  pub verb_now : (p : ℕ) (verb : Verb) → verb_of J p ≡ Some verb → verb_of (entry ∷ J) p ≡ Some verb
  verb_now p verb is = calls_stay entry J legal p verb is

  pub verb_same : (p : ℕ) (verb : Verb) → verb_of J p ≡ Some verb → verb_of (entry ∷ J) p ≡ verb_of J p
  verb_same p verb is = verb_now p verb is ∙ sym is

  pub peer_same : (p : ℕ) (verb : Verb) → verb_of J p ≡ Some verb → peer_of (entry ∷ J) p ≡ peer_of J p
  peer_same p verb is =
      let v = node_called J legal.0 p verb is in
      ap (λ n. peer_if n (verb_of (entry ∷ J) p)) (nodes_stay entry J legal p v.0 v.1) ∙ ap (peer_if (Some v.0)) (verb_now p verb is) ∙ sym v.3

  pub call_now : (call : Call) → call_of J call.id.0 ≡ Some call → call_of (entry ∷ J) call.id.0 ≡ Some call
  call_now call is =
      let parts = parts_of J call is in
      ap (λ x. call_if call.id.0 x (verb_of (entry ∷ J) call.id.0)) (peer_same call.id.0 call.verb parts.1) ∙ ap (call_if call.id.0 (peer_of J call.id.0)) (verb_same call.id.0 call.verb parts.1) ∙ is

  pub calls_now : (p : ℕ) (r : Region) (s : Server) → CallsTo J p r s → CallsTo (entry ∷ J) p r s
  calls_now p r s h = (h.0, verb_now p h.0 h.1, h.2, peer_same p h.0 h.1 ∙ h.3)

  pub calls_back : (p : ℕ) (verb : Verb) (r : Region) (s : Server) → verb_of J p ≡ Some verb → CallsTo (entry ∷ J) p r s → CallsTo J p r s
  calls_back p verb r s is h = (h.0, sym (verb_same p verb is) ∙ h.1, h.2, sym (peer_same p verb is) ∙ h.3)

  pub fit_now : (p : ℕ) (verb : Verb) (told : Told) → verb_of J p ≡ Some verb → FitsCall J p told → FitsCall (entry ∷ J) p told
  fit_now p verb told is fit v h = fit v (sym (verb_same p verb is) ∙ h)

-- the call that a step makes
module _ (pid : Pid) (pick : Option Server) (out : StepOut) (J : Past) where
  pub verb_made : (verb : Verb) → out.call ≡ Some verb → verb_of (entry_is.Step pid pick out ∷ J) pid.0 ≡ Some verb
  verb_made verb is = cond-true (pid.0 == pid.0) (option_or out.call (verb_of J pid.0)) (verb_of J pid.0) (eq-eqb pid.0 pid.0 refl) ∙ ap (λ o. option_or o (verb_of J pid.0)) is

  pub last_made : (r : Region) (verb : Verb) → out.call ≡ Some verb → region_called verb ≡ Some r → last_call (entry_is.Step pid pick out ∷ J) r ≡ Some pid.0
  last_made r verb is about = cond-true (is_about r out.call) (Some pid.0) (last_call J r) (ap (is_about r) is ∙ called_about r verb about)

-- how a step touches a region by its call
pub data Touch (pid : ℕ) (call : Option Verb) (r : Region) (now before : Option ℕ) : Type 0 where
  same : now ≡ before → Touch pid call r now before
  opens : call ≡ Some (verb_is.AssignRegion r) → now ≡ Some pid → Touch pid call r now before
  closes : call ≡ Some (verb_is.CloseRegion r) → now ≡ Some pid → Touch pid call r now before

pub touch : (pid : ℕ) (call : Option Verb) (r : Region) (last : Option ℕ) → Touch pid call r (cond (is_about r call) (Some pid) last) last
touch pid None r last = same refl
touch pid (Some (verb_is.AssignRegion q)) r last = elim (cases_region r q) [
  | inl is ↦ opens (ap (λ x. Some (verb_is.AssignRegion x)) (sym is.1)) (cond-true (same_region r q) (Some pid) last is.0)
  | inr differs ↦ same (cond-false (same_region r q) (Some pid) last differs.0)
]
touch pid (Some (verb_is.CloseRegion q)) r last = elim (cases_region r q) [
  | inl is ↦ closes (ap (λ x. Some (verb_is.CloseRegion x)) (sym is.1)) (cond-true (same_region r q) (Some pid) last is.0)
  | inr differs ↦ same (cond-false (same_region r q) (Some pid) last differs.0)
]
touch pid (Some (verb_is.Fence s)) r last = same refl
touch pid (Some (verb_is.Layout root)) r last = same refl
touch pid (Some (verb_is.Sweep root)) r last = same refl
