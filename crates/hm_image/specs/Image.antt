-- The image of a journal, and why there is none.
use Rattle.std.specs.Prelude.{not}
use Rattle.hm_names.specs.Server.{Server}
use Rattle.hm_data.specs.declared.part.Part.{Part}
use Rattle.hm_data.specs.declared.part.Part.TheVariants as part_is
use Rattle.hm_model.specs.Journal.{Past}
use Rattle.hm_model.specs.Rebase.{IsTooOld, IsUnsettled, MayRoll}
use Rattle.hm_model.specs.declared.standing.Standing.{Standing}
use Rattle.hm_image.specs.declared.why.ImageWhy.{ImageWhy}
use Rattle.hm_image.specs.declared.why.ImageWhy.TheVariants as why_is

-- the part of a server that stands so
abbrev pub server_told : Server × Standing → Part
server_told row = part_is.Server row.0 (not row.1.live)

-- a journal has no image, for this reason: memory is taken only where none of the others holds
abbrev pub IsNoImage : Past → ImageWhy → Type 0
IsNoImage J (why_is.Unsettled n) = IsUnsettled J n
IsNoImage J (why_is.TooOld n) = IsTooOld J n
IsNoImage J why_is.Memory = MayRoll J

-- an image is refused, for this reason
abbrev pub IsRefused : Past → ImageWhy → Type 0
IsRefused J (why_is.Unsettled n) = IsUnsettled J n
IsRefused J (why_is.TooOld n) = IsTooOld J n
IsRefused J why_is.Memory = ⊥
