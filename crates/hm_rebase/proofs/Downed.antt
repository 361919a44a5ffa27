-- Where nothing is unfinished a server that went down is fenced, and whatever is open is open at a live one.
use Rattle.std.proofs.Common.{◌≡◌, ℕ, ◌+◌, List, [], ◌∷◌, Bool, true, false, not, ◌&&◌, ◌||◌, ◌==◌, Some, refl, ap, sym, ◌∙◌, subst, inl, inr, ◌⊎◌}
use Rattle.std.proofs.lemmas.Bool.{and_from, and_parts, cases_Bool, cond-true, eq-eqb, false≢true, or_left, or_parts, or_right, true≢false}
use Rattle.hm_names.specs.Region.{Region}
use Rattle.hm_names.specs.Server.{Server}
use Rattle.hm_data.specs.declared.args.Args.TheVariants as args_are
use Rattle.hm_data.specs.declared.entry.Entry.{Entry}
use Rattle.hm_data.specs.declared.entry.Entry.TheVariants as entry_is
use Rattle.hm_data.specs.declared.part.Part.TheVariants as part_is
use Rattle.hm_data.specs.declared.place.Place.{Place}
use Rattle.hm_model.specs.Answers.{done_with, last_answer}
use Rattle.hm_model.specs.Base.{IsBegun}
use Rattle.hm_model.specs.Fleet.{came_up, is_fenced, is_live, same_server, servers_of}
use Rattle.hm_model.specs.Journal.{Past}
use Rattle.hm_model.specs.Phase.{ended, rolled_back, root_ended, root_over}
use Rattle.hm_model.specs.Places.{is_at, is_the_server, place_of}
use Rattle.hm_model.specs.Rules.{IsLegal}
use Rattle.hm_model.specs.TransitActs.{is_placed}
use Rattle.hm_model.specs.Tree.{Node, made, node_of, root_node}
use Rattle.hm_model.proofs.CameUp.{any_with, fenced_stays}
use Rattle.hm_model.proofs.Grown.{nodes_stay}
use Rattle.hm_model.proofs.NameTies.{same_server-is}
use Rattle.hm_model.proofs.Tops.{ended_top}
use Rattle.hm_model.proofs.Answered.{done_stops}
use Rattle.hm_serial.proofs.FallAll.{falls_all}
use Rattle.hm_serial.proofs.Kinship.{is_kid}
use Rattle.hm_costs.proofs.CrashFine.{uncaused_all}
use Rattle.hm_costs.proofs.Emptied.{crashes_empty_is}
use Rattle.hm_costs.proofs.Opening.{none_comes_other}
use Rattle.hm_rebase.proofs.Fencing.{crashed_all}

-- there is a crash of the server
pub record HasCrash (J : Past) (server : Server) : Type 0 where
  pub root : ℕ
  pub node : Node
  pub there : node_of J root ≡ Some node
  pub crash : node.args ≡ args_are.Crash server

crash_on : (entry : Entry) (J : Past) → IsLegal (entry ∷ J) → (server : Server) → HasCrash J server → HasCrash (entry ∷ J) server
crash_on entry J legal server h = record { root = h.root; node = h.node; there = nodes_stay entry J legal h.root h.node h.there; crash = h.crash }

down_crash : (server : Server) (J : Past) → HasCrash (entry_is.Down server ∷ J) server
down_crash server J = record {
  root = made J + 1;
  node = root_node (made J + 1) (args_are.Crash server) 1;
  there = cond-true (made J + 1 == made J + 1) (Some (root_node (made J + 1) (args_are.Crash server) 1)) (node_of J (made J + 1)) (eq-eqb (made J + 1) (made J + 1) refl);
  crash = refl;
}

or_off : (a b : Bool) → a ≡ false → (a || b) ≡ true → b ≡ true
or_off true b off on = absurd (true≢false off)
or_off false b off on = on

-- the base had it fenced, or there is a crash of it
abbrev IsLost : Past → Server → Type 0
IsLost J server = HasCrash J server ⊎ (is_fenced J server ≡ true)

lost_on : (entry : Entry) (J : Past) → IsLegal (entry ∷ J) → (server : Server) → IsLost J server → IsLost (entry ∷ J) server
lost_on entry J legal server (inl crash) = inl (crash_on entry J legal server crash)
lost_on entry J legal server (inr fenced) = inr (fenced_stays entry J server fenced)

downed : (J : Past) → IsLegal J → (server : Server) → came_up J server ≡ true → is_live J server ≡ false → IsLost J server
downed [] legal server came off = absurd (false≢true came)
downed (entry_is.Up other ∷ J) legal server came off =
    let both = or_parts (same_server server other) (is_live J server) off in
    lost_on (entry_is.Up other) J legal server (downed J legal.0 server (or_off (same_server server other) (came_up J server) both.0 (sym (any_with (λ o. same_server server o) other (servers_of J)) ∙ came)) both.1)
downed (entry_is.Down other ∷ J) legal server came off = elim (cases_Bool (same_server server other)) [
  | inl same ↦ inl (subst (λ s. HasCrash (entry_is.Down other ∷ J) s) (sym (same_server-is server other same)) (down_crash other J))
  | inr differs ↦ lost_on (entry_is.Down other) J legal server (downed J legal.0 server came (sym (ap (λ b. not b && is_live J server) differs) ∙ off))
]
downed (entry_is.Base (part_is.Server other gone) ∷ J) legal server came off = elim (cases_Bool (same_server server other)) [
  | inl same ↦
      let alive = or_parts (same_server server other && not gone) (is_live J server) off in
      inr (or_left (same_server server other && gone) (is_fenced J server) (and_from (same_server server other) gone same (by gone (sym (ap (λ b. b && not gone) same) ∙ alive.0))))
  | inr differs ↦
      let alive = or_parts (same_server server other && not gone) (is_live J server) off in
      lost_on (entry_is.Base (part_is.Server other gone)) J legal server (downed J legal.0 server (or_off (same_server server other) (came_up J server) differs (sym (any_with (λ o. same_server server o) other (servers_of J)) ∙ came)) alive.1)
]
  where
    by : (b : Bool) → not b ≡ false → b ≡ true
    by true e = refl
    by false e = absurd (true≢false e)
downed (entry_is.Base (part_is.Head entries last parts sheets) ∷ J) legal server came off = lost_on (entry_is.Base (part_is.Head entries last parts sheets)) J legal server (downed J legal.0 server came off)
downed (entry_is.Base (part_is.Namespace ns) ∷ J) legal server came off = lost_on (entry_is.Base (part_is.Namespace ns)) J legal server (downed J legal.0 server came off)
downed (entry_is.Base (part_is.Table table own row) ∷ J) legal server came off = lost_on (entry_is.Base (part_is.Table table own row)) J legal server (downed J legal.0 server came off)
downed (entry_is.Base (part_is.Region region range status parents place) ∷ J) legal server came off = lost_on (entry_is.Base (part_is.Region region range status parents place)) J legal server (downed J legal.0 server came off)
downed (entry_is.Base (part_is.Root pid nonce args cause) ∷ J) legal server came off = lost_on (entry_is.Base (part_is.Root pid nonce args cause)) J legal server (downed J legal.0 server came off)
downed (entry_is.Base (part_is.Layout pid) ∷ J) legal server came off = lost_on (entry_is.Base (part_is.Layout pid)) J legal server (downed J legal.0 server came off)
downed (entry ∷ J) legal server came off = lost_on entry J legal server (downed J legal.0 server came off)

-- a region that is at a server is at a live one, or at one of which there is a crash
abbrev IsHeld : Past → Server → Type 0
IsHeld J server = (is_live J server ≡ true) ⊎ HasCrash J server

abbrev AreHeld : Past → Type 0
AreHeld J = (server : Server) (region : Region) → is_at server (place_of J region) ≡ true → IsHeld J server

-- an entry that leaves places and who is live
same_held : (entry : Entry) (J : Past) → IsLegal (entry ∷ J) → ((region : Region) → place_of (entry ∷ J) region ≡ place_of J region) → ((server : Server) → is_live J server ≡ true → IsHeld (entry ∷ J) server) → AreHeld J → AreHeld (entry ∷ J)
same_held entry J legal places live before server region at = elim (before server region (ap (is_at server) (sym (places region)) ∙ at)) [
  | inl on ↦ live server on
  | inr crash ↦ inr (crash_on entry J legal server crash)
]

held_all : (J : Past) → IsLegal J → IsBegun J → AreHeld J
held_all [] legal begun = absurd begun
held_all (entry_is.Start sheets ∷ J) legal begun = λ server region at. absurd (false≢true (sym (ap (λ j. is_at server (place_of j region)) legal.1.0.0) ∙ at))
held_all (entry_is.Step pid pick out ∷ J) legal begun = λ server region at. elim (cases_Bool (is_live J server)) [
  | inl live ↦ inl live
  | inr off ↦
      let apart : (picked : Server) → pick ≡ Some picked → is_live J picked ≡ true → same_server server picked ≡ false = (λ picked e live. elim (cases_Bool (same_server server picked)) [
        | inr differs ↦ differs
        | inl same ↦ absurd (true≢false (sym live ∙ ap (is_live J) (sym (same_server-is server picked same)) ∙ off))
      ]) in
      elim (held_all J legal.0 legal.1.0 server region (none_comes_other (entry_is.Step pid pick out) J legal server apart region at)) [
        | inl live ↦ inl live
        | inr crash ↦ inr (crash_on (entry_is.Step pid pick out) J legal server crash)
      ]
]
held_all (entry_is.Up other ∷ J) legal begun = same_held (entry_is.Up other) J legal (λ r. refl) (λ s live. inl (or_right (same_server s other) (is_live J s) live)) (held_all J legal.0 legal.1.0)
held_all (entry_is.Down other ∷ J) legal begun = same_held (entry_is.Down other) J legal (λ r. refl) (λ s live. elim (cases_Bool (same_server s other)) [
  | inl same ↦ inr (subst (λ t. HasCrash (entry_is.Down other ∷ J) t) (sym (same_server-is s other same)) (down_crash other J))
  | inr differs ↦ inl (ap (λ b. not b && is_live J s) differs ∙ live)
]) (held_all J legal.0 legal.1.0)
held_all (entry_is.Base part ∷ J) legal begun = λ server region at.
    let parts = and_parts (is_placed (place_of (entry_is.Base part ∷ J) region)) (is_the_server server (place_of (entry_is.Base part ∷ J) region).server) at in
    let open_at = begun.opened region parts.0 in
    let own : is_the_server server (Some open_at.0) ≡ true = ap (λ (p : Place). is_the_server server p.server) (sym open_at.1) ∙ parts.1 in
    inl (ap (is_live (entry_is.Base part ∷ J)) (same_server-is server open_at.0 own) ∙ open_at.2)
held_all (entry ∷ J) legal begun = same_held entry J legal (λ r. refl) (λ s live. inl live) (held_all J legal.0 legal.1.0)

module _ (J : Past) (legal : IsLegal J) (still : (p : ℕ) (node : Node) → node_of J p ≡ Some node → ended J p ≡ true) where
  -- a crash is a root, and ended
  crash_top : (p : ℕ) (x : Node) (server : Server) → node_of J p ≡ Some x → x.args ≡ args_are.Crash server → x.above ≡ []
  crash_top p x server is crash = by x.above refl
    where
      by : (above : List ℕ) → x.above ≡ above → x.above ≡ []
      by [] e = e
      by (up ∷ above) e =
          let kid = (falls_all J legal).falls.kids p x is (λ none. (let two : up ∷ above ≡ [] = sym e ∙ none in cc)) in
          absurd (false≢true (sym (ap is_kid crash) ∙ kid))

  crash_ended : (server : Server) → (c : HasCrash J server) → root_ended J c.root ≡ true
  crash_ended server c = sym (ended_top J c.root c.node c.there (crash_top c.root c.node server c.there c.crash)) ∙ still c.root c.node c.there

  crash_fenced : (server : Server) → HasCrash J server → is_fenced J server ≡ true
  crash_fenced server c =
      crashed_all J legal c.root c.node server c.there c.crash
      (done_stops (last_answer J c.root) (sym (ap (λ o. root_over o (rolled_back J c.root) (done_with (last_answer J c.root))) (uncaused_all J legal c.root c.node c.there server c.crash)) ∙ crash_ended server c))

  -- a server that went down is fenced
  pub down_fenced : (server : Server) → came_up J server ≡ true → is_live J server ≡ false → is_fenced J server ≡ true
  down_fenced server came off = elim (downed J legal server came off) [
    | inl crash ↦ crash_fenced server crash
    | inr fenced ↦ fenced
  ]

  -- a region that is at a server is at a live one
  pub placed_alive : IsBegun J → (server : Server) (region : Region) → is_at server (place_of J region) ≡ true → is_live J server ≡ true
  placed_alive begun server region at = elim (held_all J legal begun server region at) [
    | inl live ↦ live
    | inr c ↦ absurd (true≢false (sym at ∙ crashes_empty_is J legal c.root c.node server c.there c.crash (crash_ended server c) region))
  ]
