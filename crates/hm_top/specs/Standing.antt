-- How a run stands where its log was just opened.
use Rattle.std.specs.Prelude.{List, None}
use Rattle.hm_data.specs.declared.entry.Entry.{Entry}
use Rattle.hm_data.specs.declared.sheet.Sheet.{Sheet}
use Rattle.hm_hall.specs.Recording.{Recording}
use Rattle.hm_journal.specs.Stored.{opened}
use Rattle.hm_journal.specs.declared.limits.Limits.{Limits}
use Rattle.hm_world.specs.Scene.{Scene}
use Rattle.hm_commands.specs.Scenes.{new_scene}

-- what is recorded where a log with these entries was opened
abbrev pub fresh : Limits → List Entry → Recording
fresh limits entries = record { entries = entries; next = None; tail = None; halted = None; soft = limits.soft; hard = limits.hard }

-- where the line `opened at N` leaves a run
abbrev pub begun : Limits → List Sheet → List Entry → Scene
begun limits sheets old = new_scene (fresh limits (opened sheets old))
