use Rattle.std.proofs.Common.{◌∙◌, ◌++◌, ap, map}
use Rattle.std.proofs.lemmas.Result.{on_ok_weaker}
use Rattle.hm_model.specs.Fleet.{servers_of}
use Rattle.hm_image.specs.Image.{server_told}
use Rattle.hm_image.proofs.Served.{servers_told}
use Rattle.hm_image.proofs.servers.add_servers.Goals as goal

pub returns : goal.returns
returns c =
    let J = c.args.records.now.past in
    on_ok_weaker c.add_all.result
    (λ is. is ∙ ap (λ l. c.args.parts.now.items ++ l) (ap (map server_told) c.servers.ensures ∙ servers_told J (servers_of J)))
    c.add_all.ensures
