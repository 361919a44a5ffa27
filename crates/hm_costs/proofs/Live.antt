-- A live server isn't fenced.
use Rattle.std.proofs.Common.{◌≡◌, ℕ, ◌∷◌, Bool, true, false, not, ◌&&◌, ◌==◌, Option, Some, None, refl, ap, sym, ◌∙◌, subst, inl, inr}
use Rattle.std.proofs.lemmas.Bool.{and_parts, cases_Bool, false≢true, or_cases, true≢false}
use Rattle.hm_names.specs.Server.{Server}
use Rattle.hm_data.specs.declared.args.Args.{Args}
use Rattle.hm_data.specs.declared.args.Args.TheVariants as args_are
use Rattle.hm_data.specs.declared.entry.Entry.{Entry}
use Rattle.hm_data.specs.declared.entry.Entry.TheVariants as entry_is
use Rattle.hm_model.specs.Fleet.{came_up, fences_by, fences_if, has_newer, is_fenced, is_live, same_server, servers_of}
use Rattle.hm_model.specs.Journal.{Past}
use Rattle.hm_model.specs.Rules.{IsLegal}
use Rattle.hm_model.specs.Tree.{Node, node_of}
use Rattle.hm_model.proofs.CameUp.{came_now, came_on, live_came}
use Rattle.hm_model.specs.Base.{PartFits}
use Rattle.hm_data.specs.declared.part.Part.{Part}
use Rattle.hm_data.specs.declared.part.Part.TheVariants as part_is
use Rattle.hm_model.proofs.NameTies.{newer_own, same_server-is, same_server-refl}
use Rattle.std.proofs.lemmas.Bool.{and_left, and_right, or_from}
use Rattle.hm_data.specs.Numbers.{told_number}
use Rattle.hm_data.specs.declared.call.Told.TheVariants as told_is

-- a server came up, and isn't live
abbrev pub IsDead : Past → Server → Type 0
IsDead J server = (came_up J server ≡ true) × (is_live J server ≡ false)

-- a server that came up isn't that of a part
not_again : (J : Past) (server other : Server) → came_up J server ≡ true → has_newer J other ≡ false → same_server server other ≡ true → ⊥
not_again J server other came rule same = true≢false (sym (subst (λ s. has_newer J s ≡ true) (same_server-is server other same) (newer_own server (servers_of J) came)) ∙ rule)

dead_part : (part : Part) (J : Past) → PartFits part J → (server : Server) → IsDead J server → IsDead (entry_is.Base part ∷ J) server
dead_part (part_is.Server other fenced) J fits server dead = (
  came_on J other server dead.0,
  elim (cases_Bool (same_server server other)) [
    | inl same ↦ absurd (not_again J server other dead.0 fits.1 same)
    | inr differs ↦ or_from (same_server server other && not fenced) (is_live J server) (and_left (same_server server other) (not fenced) differs) dead.1
  ],
)
dead_part part J fits server dead = dead

-- who is dead stays so
pub dead_stays : (entry : Entry) (J : Past) → IsLegal (entry ∷ J) → (server : Server) → IsDead J server → IsDead (entry ∷ J) server
dead_stays (entry_is.Up other) J legal server dead = (
  came_on J other server dead.0,
  elim (cases_Bool (same_server server other)) [
    | inl same ↦ absurd (not_again J server other dead.0 legal.1.1.0 same)
    | inr differs ↦ or_from (same_server server other) (is_live J server) differs dead.1
  ],
)
dead_stays (entry_is.Down other) J legal server dead = (dead.0, and_right (not (same_server server other)) (is_live J server) dead.1)
dead_stays (entry_is.Base part) J legal server dead = dead_part part J legal.1.0 server dead
dead_stays entry J legal server dead = dead

pub down_dead : (server : Server) (J : Past) → IsLegal (entry_is.Down server ∷ J) → IsDead (entry_is.Down server ∷ J) server
down_dead server J legal = (live_came J server legal.1.1.0, and_left (not (same_server server server)) (is_live J server) (ap not (same_server-refl server)))

-- the server that a procedure is to fence, or has fenced
abbrev pub fence_in : Args → Option Server
fence_in (args_are.Crash server) = Some server
fence_in (args_are.FenceCall server) = Some server
fence_in args = None

fences_in : (args : Args) (server : Server) → fences_by args server ≡ true → fence_in args ≡ Some server
fences_in (args_are.FenceCall other) server h = ap Some (sym (same_server-is server other h))
fences_in args server h = absurd (false≢true h)

-- where each server that a procedure is to fence is dead, so is each that is fenced
abbrev pub FencersDead : Past → Type 0
FencersDead J = (p : ℕ) (node : Node) → node_of J p ≡ Some node → (server : Server) → fence_in node.args ≡ Some server → IsDead J server

abbrev pub FencedDead : Past → Type 0
FencedDead J = (server : Server) → is_fenced J server ≡ true → IsDead J server

-- a part that has a server fenced
fenced_part : (part : Part) (J : Past) → PartFits part J → FencedDead J → FencedDead (entry_is.Base part ∷ J)
fenced_part (part_is.Server other down) J fits old server fenced = elim (or_cases (same_server server other && down) (is_fenced J server) fenced) [
  | inr was ↦ dead_part (part_is.Server other down) J fits server (old server was)
  | inl now ↦
      let both = and_parts (same_server server other) down now in (
        subst (λ s. came_up (entry_is.Base (part_is.Server other down) ∷ J) s ≡ true) (sym (same_server-is server other both.0)) (came_now J other),
        or_from (same_server server other && not down) (is_live J server) (and_right (same_server server other) (not down) (ap not both.1)) (by (is_live J server) refl both.0),
      )
]
  where
    by : (b : Bool) → is_live J server ≡ b → same_server server other ≡ true → b ≡ false
    by false e same = refl
    by true e same = absurd (not_again J server other (live_came J server e) fits.1 same)
fenced_part part J fits old server fenced = old server fenced

pub fenced_step : (entry : Entry) (J : Past) → IsLegal (entry ∷ J) → FencersDead J → FencedDead J → FencedDead (entry ∷ J)
fenced_step (entry_is.Start sheets) J legal fencers old server fenced = dead_stays (entry_is.Start sheets) J legal server (old server fenced)
fenced_step (entry_is.Report call told) J legal fencers old server fenced = elim (or_cases ((told_number told == told_number told_is.Fenced) && fences_if (node_of J call.0) server) (is_fenced J server) fenced) [
  | inl new ↦ by (node_of J call.0) refl (and_parts (told_number told == told_number told_is.Fenced) (fences_if (node_of J call.0) server) new).1
  | inr was ↦ old server was
]
  where
    by : (o : Option Node) → node_of J call.0 ≡ o → fences_if o server ≡ true → IsDead J server
    by None e h = absurd (false≢true h)
    by (Some node) e h = fencers call.0 node e server (fences_in node.args server h)
fenced_step (entry_is.Up other) J legal fencers old server fenced = dead_stays (entry_is.Up other) J legal server (old server fenced)
fenced_step (entry_is.Down other) J legal fencers old server fenced = dead_stays (entry_is.Down other) J legal server (old server fenced)
fenced_step (entry_is.Base part) J legal fencers old server fenced = fenced_part part J legal.1.0 old server fenced
fenced_step entry J legal fencers old server fenced = old server fenced
