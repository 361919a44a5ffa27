use Rattle.std.proofs.Common.{codes, ap, ◌∙◌}
use Rattle.hm_model.specs.Fleet.{servers_of}
use Rattle.hm_model.specs.Loads.{places_of}
use Rattle.hm_show.specs.Servers.{lines_by}
use Rattle.hm_show.proofs.Tables.{lines_told, table_said}
use Rattle.hm_show.proofs.server_lines.servers.Goals as goal

pub returns : goal.returns
returns c =
    let past = c.args.records.now.past in
    table_said (codes "servers") past c.args.entries _ _ c.in_ok-server_lines.field-0 c.into_table.result c.requires c.in_ok-server_lines.ensures
    (ap (λ places. lines_by places c.servers.result.now.servers) c.places.ensures
    ∙ ap (lines_by (places_of past)) c.servers.ensures
    ∙ lines_told past (places_of past) (c.places_follow.ensures.tell past).2 (servers_of past))
    c.into_table.ensures
