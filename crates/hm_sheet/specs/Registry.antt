-- What callers see of a registry: all that is named of its fields.
use Rattle.std.specs.Prelude.{◌≡◌, ℕ, ◌+◌, ◌-◌, ◌^◌, min, List, Option, Some, map}
use Rattle.std.specs.List.{flat_map}
use Rattle.std.specs.declared.alloc.Global.{Global}
use Rattle.std.specs.declared.dyn_box.DynBox.{DynBox}
use Rattle.hm_data.specs.declared.sheet.Sheet.{Sheet}
use Rattle.hm_data.specs.declared.step.StepIn.{StepIn}
use Rattle.hm_model.specs.Sheets.{sheet_for}
use Rattle.hm_sheet.specs.Learnt.{learnt_at, or_begun, sheet_in}
use Rattle.hm_sheet.specs.declared.handler.Handler.{Ghosts}
use Rattle.hm_sheet.specs.declared.registry.Registry.{Registry}
use Rattle.hm_sheet.specs.Words.{AreWhole}

-- how many calls of `run` it answered
abbrev pub runs_of : {X : Type 0} {F : X → Type 0} → Registry X F → ℕ
runs_of registry = registry.runs

-- the sheets of all kinds
abbrev pub whole_of : {X : Type 0} {F : X → Type 0} → Registry X F → List Sheet
whole_of registry = registry.whole

-- the sheets that it has for an edition, if it has that edition
abbrev pub sheets_at : {X : Type 0} {F : X → Type 0} → Registry X F → ℕ → Option (List Sheet)
sheets_at registry edition = or_begun (learnt_at registry.learnt edition) registry.whole edition

-- its handlers
abbrev pub handlers_of : {X : Type 0} {F : X → Type 0} → Registry X F → List (DynBox X Global F)
handlers_of registry = registry.handlers.items

module _ {X : Type 0} {F : X → Type 0} (hand : (h : (x : X) × F x) → Ghosts (F h.0)) where
  -- the sheets of its handlers, by what is known of each
  abbrev pub sheets_by : Registry X F → List Sheet
  sheets_by registry = flat_map (λ h. (hand (h.vtable, h.value)).sheets_are h.value) (handlers_of registry)

  -- it lists its sheets of all kinds of procedures, each of them valid, and has them for edition 0, by what is known of each
  -- handler
  abbrev pub IsRegistryBy : Registry X F → Type 0
  IsRegistryBy registry = AreWhole (sheets_by registry) (whole_of registry) × (sheets_at registry 0 ≡ Some (whole_of registry))

module _ {X : Type 0} {F : X → Type 0} (hand : (x : X) → Ghosts (F x)) where
  -- the sheets of its handlers
  abbrev pub sheets_of : Registry X F → List Sheet
  sheets_of registry = sheets_by (λ h. hand h.0) registry

  -- it lists its sheets of all kinds of procedures, each of them valid, and has them for edition 0
  abbrev pub IsRegistry : Registry X F → Type 0
  IsRegistry registry = AreWhole (sheets_of registry) (whole_of registry) × (sheets_at registry 0 ≡ Some (whole_of registry))

  -- its handler of the input's kind has the sheet of the input's edition, and so the input is run by that handler
  abbrev pub IsForBox : Registry X F → StepIn → Type 0
  IsForBox registry at = sheet_for (sheets_of registry) at.kind ≡ sheet_in (sheets_at registry at.edition) at.kind

  -- the sheets of each of its handlers
  abbrev pub sheets_each : Registry X F → List (List Sheet)
  sheets_each registry = map (λ h. (hand h.vtable).sheets_are h.value) (handlers_of registry)

  -- how many steps each of its handlers answered
  abbrev pub steps_of : Registry X F → List ℕ
  steps_of registry = map (λ h. (hand h.vtable).steps_are h.value) (handlers_of registry)

  -- how many steps each of them undid
  abbrev pub undos_of : Registry X F → List ℕ
  undos_of registry = map (λ h. (hand h.vtable).undos_are h.value) (handlers_of registry)

  -- how many calls each of them answered
  abbrev pub calls_of : Registry X F → List ℕ
  calls_of registry =
      map (λ h. min ((hand h.vtable).steps_are h.value + (hand h.vtable).undos_are h.value) (2 ^ 64 - 1)) (handlers_of registry)
