use Rattle.std.proofs.lemmas.Result.{on_ok_weaker}
use Rattle.hm_image.proofs.Rooted.{made_fit, old_fit, roots_added}
use Rattle.hm_image.proofs.roots.add_roots.Goals as goal

pub add_shown-requires : goal.add_shown-requires
add_shown-requires c =
    old_fit c.args.records.now.past c.procedures-procedures.result.now.past c.procedures-procedures.ensures.past c.old_roots-old.result.now c.old_roots-old.ensures
    c.root_nonces-nonces.result.now c.root_nonces-nonces.ensures

pub split_at-requires : goal.split_at-requires
split_at-requires c =
    old_fit c.args.records.now.past c.procedures-procedures.result.now.past c.procedures-procedures.ensures.past c.old_roots-old.result.now c.old_roots-old.ensures
    c.root_nonces-nonces.result.now c.root_nonces-nonces.ensures

pub add_made-requires : goal.add_made-requires
add_made-requires c =
    made_fit c.args.records.now.past c.procedures-procedures.result.now.past c.procedures-procedures.ensures.past c.old_roots-old.result.now c.old_roots-old.ensures
    c.root_nonces-nonces.result.now c.split_at.result.1.now c.root_nonces-nonces.ensures c.split_at.ensures.back_len c.roots.result.now c.roots.ensures

pub returns : goal.returns
returns c =
    on_ok_weaker c.add_made.result
    (λ is. roots_added c.args.records.now.past c.procedures-procedures.ensures.legal c.requires c.procedures-procedures.result.now.past c.procedures-procedures.ensures.past
    c.old_roots-old.result.now c.old_roots-old.ensures c.root_nonces-nonces.result.now c.split_at.result.1.now c.root_nonces-nonces.ensures c.split_at.ensures.back
    c.roots.result.now c.roots.ensures c.args.parts.now.items c.add_shown.new.parts.items c.add_made.new.parts.items c.in_ok-add_shown.ensures is)
    c.add_made.ensures
