-- A world as the hall of its tasks.
use Rattle.std.specs.Prelude.{ℕ, List}
use Rattle.hm_hall.specs.Recording.{Recording, behind, parts_of, past_in}
use Rattle.hm_model.specs.Editions.{sheets_in}
use Rattle.hm_exec.specs.Moment.{Moment}
use Rattle.hm_hall.specs.Hall.{HallView}
use Rattle.hm_world.specs.Scene.{Scene}

-- the parts of the base, what is recorded behind it, who is claimed, what halted the recorder, and the sheets of each edition
abbrev pub hall_with : Recording → List ℕ → HallView
hall_with kept claimed = record {
  base = parts_of kept.entries;
  items = behind kept.entries;
  outs = claimed;
  stopped = kept.halted;
  sheets = sheets_in (past_in kept);
}

-- an executor as a hall
abbrev pub hall_at : Moment → HallView
hall_at at = hall_with at.kept at.claimed

-- a world as a hall
abbrev pub hall_of : Scene → HallView
hall_of at = hall_at at.exec
