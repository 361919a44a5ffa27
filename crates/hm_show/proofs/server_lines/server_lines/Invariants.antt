use Rattle.hm_show.specs.Lines.{AreLinesBut}
use Rattle.hm_show.specs.Servers.{lines_by}
use Rattle.hm_show.proofs.server_lines.server_lines.Given as goal

abbrev pub invariant-loop-server : goal.invariant-loop-server
invariant-loop-server l = AreLinesBut (lines_by l.places.places l.server-iterator) (lines_by l.places.places l.servers.servers) l.lines
