-- The servers that a journal calls live.
use Rattle.std.specs.Prelude.{Option, Some, None, if◌then◌else◌}
use Rattle.hm_names.specs.Server.{Server}
use Rattle.hm_model.specs.Fleet.{is_live}
use Rattle.hm_model.specs.Journal.{Past}

-- a server, where it is there and live
abbrev pub live_if : Past → Option Server → Option Server
live_if J None = None
live_if J (Some server) = if is_live J server then Some server else None
