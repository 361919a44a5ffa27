use Rattle.std.proofs.Common.{refl, ap, sym, ◌∙◌}
use Rattle.hm_names.specs.Order.{server_cmp}
use Rattle.hm_index.specs.Index.{find}
use Rattle.hm_model.specs.Tree.{made}
use Rattle.hm_roster.specs.Desk.{given_number}
use Rattle.hm_roster.specs.Roster.{number_if, pids_on}
use Rattle.hm_roster.proofs.Alike.{less_within, roomier_tied}
use Rattle.hm_roster.proofs.Numbered.{found_none, found_there, numbered_by, put_below, put_own, put_same, put_stays, same_below}
use Rattle.hm_roster.proofs.Tried.{both_ok, either_way, three_way}
use Rattle.hm_roster.proofs.desk.Desk.number_server.Goals as goal

pub returns-then-is_some-clause-numbered : goal.returns-then-is_some-clause-numbered
returns-then-is_some-clause-numbered c =
    numbered_by c.args.self.now c.args.server.now c.requires.below (given_number c.args.self.now c.args.server.now) refl (λ none. found_there c.get.result c.is_some.result c.is_some.ensures c.if-is_some.true (c.get.ensures ∙ none))

pub returns-clause-numbered : goal.returns-clause-numbered
returns-clause-numbered c =
    both_ok c.put_number.result _ _ _ c.put_number.ensures.put c.put_number.ensures.list
    (λ put fits. (c.in_ok-number.number, put_own c.args.self.now c.put_number.new.self c.args.server.now c.in_ok-number.number put, fits))

pub returns-clause-stay : goal.returns-clause-stay
returns-clause-stay c =
    let none = sym c.get.ensures ∙ found_none c.get.result c.is_some.result c.is_some.ensures c.if-is_some.false in
    either_way c.put_number.result _ _ _ c.put_number.ensures.put c.put_number.ensures.err
    (λ put. put_stays c.args.self.now c.put_number.new.self c.args.server.now c.in_ok-number.number put none)
    (λ same other k is. ap (λ l. find server_cmp l other) same ∙ is)

pub returns-clause-follows : goal.returns-clause-follows
returns-clause-follows c =
    let J = c.args.records.now.past in
    let none = sym c.get.ensures ∙ found_none c.get.result c.is_some.result c.is_some.ensures c.if-is_some.false in
    record {
      tied =
          roomier_tied J c.procedures-legal.ensures.legal c.args.self.now c.put_number.new.self c.put_number.ensures.roomier
          (either_way c.put_number.result _ _ _ c.put_number.ensures.put c.put_number.ensures.err
          (λ put. put_same c.args.self.now c.put_number.new.self c.args.server.now c.in_ok-number.number put J none c.in_ok-number.ensures)
          (λ same other came. ap (λ l. number_if (find server_cmp l other)) same))
          c.requires.tied;
      room = less_within (made J) (pids_on c.args.self.now) (pids_on c.put_number.new.self) c.requires.room c.put_number.ensures.roomier.pids;
      below =
          three_way c.put_number.result _ _ _ _ c.put_number.ensures.put c.put_number.ensures.list c.put_number.ensures.err
          (λ put fits. put_below c.args.self.now c.put_number.new.self c.args.server.now c.in_ok-number.number put c.put_number.ensures.roomier.servers fits c.requires.below)
          (λ same. same_below c.args.self.now c.put_number.new.self c.put_number.ensures.roomier.servers (λ other. ap (λ l. find server_cmp l other) same) c.requires.below);
    }
