use Rattle.std.proofs.Common.{List, inl, inr, subst, ◌∙◌}
use Rattle.hm_names.specs.Server.{Server}
use Rattle.hm_model.specs.Locks.{IsIn}
use Rattle.hm_model.specs.declared.standing.Standing.{Standing}
use Rattle.hm_roster.proofs.Alike.{roomier_on}
use Rattle.hm_roster.proofs.Numbered.{all_numbered, number_turn}
use Rattle.hm_roster.proofs.desk.Desk.number_all.Goals as goal

pub loop-server-preserved : goal.loop-server-preserved
loop-server-preserved c =
    let inv = c.loop-server.invariant in
    let done = c.number_next.ensures in
    record {
      numbered = λ row among.
          number_turn c.loop-server.self c.number_next.new.self c.in-Some.field-0.now c.next.new.self done.stay done.roomier.servers
          c.in_ok-number_next.ensures.numbered row
          (elim (inv.numbered row among) [ inl left ↦ inl (subst (λ (l : List (Server × Standing)). IsIn row l) c.in-Some.ensures.steps left) | inr was ↦ inr was ]);
      below = done.below;
      roomier = roomier_on c.args.self.now c.loop-server.self c.number_next.new.self inv.roomier done.roomier;
      pids = done.pids ∙ inv.pids;
    }

pub returns-clause-numbered : goal.returns-clause-numbered
returns-clause-numbered c = all_numbered c.loop-server.self c.args.records.now.past c.loop-server.server-iterator c.in-None.ensures.steps.0 c.loop-server.invariant.numbered
