-- Nobody refuses more often in a run than its lines granted.
use Rattle.std.proofs.Common.{◌≡◌, ◌+◌, ℕ, List, [], ◌∷◌, length, Some, None, sym, subst, inl, inr, arith}
use Rattle.hm_names.specs.Server.{Server}
use Rattle.hm_data.specs.declared.call.Peer.{Peer}
use Rattle.hm_script.specs.declared.command.Command.{Command}
use Rattle.hm_script.specs.declared.command.Command.TheVariants as command_is
use Rattle.hm_world.specs.Scene.{Scene, past_in}
use Rattle.hm_commands.specs.Scenes.{new_scene}
use Rattle.hm_commands.specs.declared.answer.Answer.{Answer}
use Rattle.hm_commands.specs.declared.answer.Answer.TheVariants as answer_is
use Rattle.hm_terms.specs.Refusals.{IsWithin, granted, granted_by, refused_by}
use Rattle.hm_terms.proofs.Scenes.{commands_within, downs_within, new_within, within_few}
use Rattle.hm_top.specs.Grants.{EndsThere, RunsRefuseAsGranted}
use Rattle.hm_top.specs.Opening.{Downs}
use Rattle.hm_top.specs.Transcript.{Transcript}

downs_keep : (peer : Peer) (n : ℕ) (passed : List Server) (old : Scene) (lines : List Answer) (new : Scene) → Downs passed old lines new → IsWithin peer n old → IsWithin peer n new
downs_keep peer n [] old lines new d w = subst (λ (s : Scene). IsWithin peer n s) (sym d.1) w
downs_keep peer n (server ∷ more) old lines new (mid, first, rest, inl down, parts, later) w =
    downs_keep peer n more mid rest new later (downs_within server old (Some (answer_is.Expired server down.pid)) mid down.expires peer n w)
downs_keep peer n (server ∷ more) old lines new (mid, first, rest, inr dead, parts, later) w =
    downs_keep peer n more mid rest new later (subst (λ (s : Scene). IsWithin peer n s) (sym dead.2) w)

sums : (a b c : ℕ) → a + b + c ≡ a + (b + c)
sums a b c = omega arith

turns_keep : (peer : Peer) (n : ℕ) (commands : List Command) (old : Scene) (marks : List ℕ) (answers : List Answer) (new : Scene) → Transcript commands old marks answers new → IsWithin peer n old
    → IsWithin peer (n + granted_by peer commands answers) new
turns_keep peer n [] old marks answers new t w =
    subst (λ m. IsWithin peer m new) (sym (plus_none n)) (subst (λ (s : Scene). IsWithin peer n s) (sym t.2) w)
  where
    plus_none : (n : ℕ) → n + 0 ≡ n
    plus_none n = omega arith
turns_keep peer n (command ∷ commands) old marks answers new (mid, later, rest, exchange, more) w =
    let within = turns_keep peer (n + granted peer command (Some exchange.answer)) commands mid later rest new more (commands_within command old (Some exchange.answer) mid exchange.fits peer n w) in
    subst (λ (l : List Answer). IsWithin peer (n + granted_by peer (command ∷ commands) l) new) (sym exchange.said)
    (subst (λ m. IsWithin peer m new) (sums n (granted peer command (Some exchange.answer)) (granted_by peer commands rest)) within)

end_keeps : (peer : Peer) (n : ℕ) (mid new : Scene) → EndsThere mid new → IsWithin peer n mid → IsWithin peer n new
end_keeps peer n mid new (inl same) w = subst (λ (s : Scene). IsWithin peer n s) (sym same) w
end_keeps peer n mid new (inr (command, lacks)) w = subst (λ m. IsWithin peer m new) (none n command) (commands_within command mid None new lacks peer n w)
  where
    none : (n : ℕ) (command : Command) → n + granted peer command None ≡ n
    none n (command_is.Refuse server count) = omega arith
    none n (command_is.RefuseStorage count) = omega arith
    none n command = omega arith

pub runs_refuse : RunsRefuseAsGranted
runs_refuse kept passed lines start downs commands marks answers mid turns new ends legal peer =
    let before = length (refused_by peer (past_in (new_scene kept))) in
    within_few peer (before + granted_by peer commands answers) new legal
    (end_keeps peer (before + granted_by peer commands answers) mid new ends
    (turns_keep peer before commands start marks answers mid turns (downs_keep peer before passed (new_scene kept) lines start downs (new_within kept peer))))
