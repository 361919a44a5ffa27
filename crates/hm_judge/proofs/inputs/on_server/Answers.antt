use Rattle.std.proofs.Common.{◌≡◌, List, IfOk, take, ap, subst, ◌∙◌}
use Rattle.hm_names.specs.Region.{Region}
use Rattle.hm_model.specs.Loads.{regions_at}
use Rattle.hm_judge.proofs.inputs.on_server.Goals as goal

pub returns : goal.returns
returns c =
    subst (λ (l : List Region). IfOk c.copies_of.result (λ copies. copies ≡ l))
    (c.on_server.ensures ∙ ap (λ l. take 64 (regions_at l c.args.server.now)) c.places.ensures ∙ ap (take 64) ((c.places_follow.ensures.tell c.args.records.now.past).1 c.args.server.now))
    c.copies_of.ensures
