-- Which layouts are there, by roots.
use Rattle.std.specs.Prelude.{◌≡◌, ℕ, List, [], ◌∷◌, Option, Some, None, Bool, false, ◌==◌, if◌then◌else◌}
use Rattle.std.specs.List.{list_any}
use Rattle.hm_names.specs.Order.{pid_cmp}
use Rattle.hm_names.specs.declared.pid.Pid.{Pid}
use Rattle.hm_data.specs.declared.part.Part.{Part}
use Rattle.hm_data.specs.declared.part.Part.TheVariants as part_is
use Rattle.hm_index.specs.Index.{find}
use Rattle.hm_model.specs.Journal.{Past}
use Rattle.hm_world_model.specs.Layouts.{laid_below}

-- whether the layout of a root is there, by what is noted of it
abbrev pub is_noted : Option Bool → Bool
is_noted None = false
is_noted (Some there) = there

-- whether the layout of a root is there, with what is noted of one
abbrev pub noted : Option (Pid × Bool) → ℕ → Bool → Bool
noted None root before = before
noted (Some both) root before = if (let own = both.0 in own.0) == root then both.1 else before

-- the layouts of these roots are there
abbrev pub AreOfBase : List Pid → List (Pid × Bool) → Type 0
AreOfBase roots laid = (root : Pid) → is_noted (find pid_cmp laid root) ≡ list_any (λ own. own.0 == root.0) roots

-- what is noted of layouts is what the base shows and the reports of the procedures with a number below n
abbrev pub AreLaid : Past → ℕ → List (Pid × Bool) → Type 0
AreLaid J n laid = (root : Pid) → is_noted (find pid_cmp laid root) ≡ laid_below J n root.0

-- the part of a layout that is there
abbrev pub layout_told : Pid × Bool → List Part
layout_told both = if both.1 then part_is.Layout both.0 ∷ [] else []
