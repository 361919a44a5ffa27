use Rattle.std.proofs.Common.{◌+◌, ◌≤◌, length}
use Rattle.std.specs.List.{filter_map}
use Rattle.hm_places.specs.Places.{place_in}
use Rattle.hm_show.specs.Lines.{AreLinesBut}
use Rattle.hm_show.specs.Regions.{key_line}
use Rattle.hm_show.proofs.region_lines.region_lines.Given as goal

abbrev pub invariant-loop-key : goal.invariant-loop-key
invariant-loop-key l = record {
  rest : AreLinesBut (filter_map (key_line (place_in l.places.places)) l.key-iterator) (filter_map (key_line (place_in l.places.places)) l.catalog.rows) l.lines;
  few : l.lines.count + length l.key-iterator ≤ length l.catalog.rows;
}
