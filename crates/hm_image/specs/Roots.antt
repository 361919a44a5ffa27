-- The parts of roots, as they are told one after another.
use Rattle.std.specs.Prelude.{ℕ, List, [], ◌∷◌, ◌++◌, Option, Some, None}
use Rattle.hm_names.specs.declared.nonce.Nonce.{Nonce}
use Rattle.hm_names.specs.declared.pid.Pid.{Pid}
use Rattle.hm_data.specs.declared.answer.Cause.{Cause}
use Rattle.hm_data.specs.declared.part.Part.{Part}
use Rattle.hm_data.specs.declared.part.Part.TheVariants as part_is
use Rattle.hm_data.specs.declared.record.Phase.{Phase}
use Rattle.hm_data.specs.declared.record.Phase.TheVariants as phase_is
use Rattle.hm_data.specs.declared.record.Record.{Record}

-- the cause for which a root was rolled back, by its phase
abbrev pub cause_told : Phase → Option Cause
cause_told (phase_is.RolledBack cause) = Some cause
cause_told phase = None

-- the part of a root that has ended, as it is shown, with its nonce
abbrev pub root_told : Record → Nonce → Part
root_told root nonce = part_is.Root root.pid nonce root.args (cause_told root.phase)

-- the parts of roots as they are shown, with their nonces in the same order
abbrev pub roots_told : List Record → List Nonce → List Part
roots_told [] nonces = []
roots_told (root ∷ roots) [] = []
roots_told (root ∷ roots) (nonce ∷ nonces) = root_told root nonce ∷ roots_told roots nonces

-- the part of a root, if it is there
abbrev pub one_told : Option Record → Nonce → List Part
one_told None nonce = []
one_told (Some root) nonce = root_told root nonce ∷ []

-- the parts of roots by their numbers, with their nonces in the same order
abbrev pub made_told : (ℕ → Option Record) → List Pid → List Nonce → List Part
made_told found [] nonces = []
made_told found (pid ∷ pids) [] = []
made_told found (pid ∷ pids) (nonce ∷ nonces) = one_told (found pid.0) nonce ++ made_told found pids nonces
