-- The sheets of each edition, the layouts of the base and the nonces of the roots, as lists.
use Rattle.std.specs.Prelude.{◌≡◌, ℕ, zero, suc, ◌+◌, ◌≤◌, List, [], ◌∷◌, ◌++◌, length, map, Option, Some, None, slice_get}
use Rattle.std.specs.List.{flat_map}
use Rattle.hm_names.specs.declared.nonce.Nonce.{Nonce}
use Rattle.hm_names.specs.declared.pid.Pid.{Pid}
use Rattle.hm_data.specs.declared.entry.Entry.{Entry}
use Rattle.hm_data.specs.declared.entry.Entry.TheVariants as entry_is
use Rattle.hm_data.specs.declared.part.Part.{Part}
use Rattle.hm_data.specs.declared.part.Part.TheVariants as part_is
use Rattle.hm_data.specs.declared.sheet.Sheet.{Sheet}
use Rattle.hm_model.specs.Editions.{editions, sheets_in}
use Rattle.hm_model.specs.Image.{nonce_of, old_layouts, old_roots}
use Rattle.hm_model.specs.Journal.{Past}
use Rattle.hm_model.specs.Tree.{pid_of}
use Rattle.hm_procedures.specs.Procedures.{roots}

-- the sheets of each edition, the oldest first; the roots of the base whose layouts it has; the nonce of each root; for how many
-- more there is room, and how much memory there is
pub record ListsView : Type 0 where
  pub sheets : List (List Sheet)
  pub layouts : List Pid
  pub root_nonces : List Nonce
  pub spare : ℕ
  pub room : ℕ

-- the sheets are those of each edition, the oldest first
pub record AreEditions (past : Past) (sheets : List (List Sheet)) : Type 0 where
  pub count : length sheets ≡ editions past + 1
  pub each : (edition : ℕ) → edition ≤ editions past → slice_get sheets edition ≡ Some (sheets_in past edition)

-- the roots whose layouts the base of a journal has
abbrev pub laid_in_base : Past → List Pid
laid_in_base past = map pid_of (old_layouts past)

-- the root whose layout a part tells
abbrev pub part_layout : Part → Option Pid
part_layout (part_is.Layout pid) = Some pid
part_layout part = None

-- the root whose layout an entry tells, as a part of a base
abbrev pub layout_told : Entry → Option Pid
layout_told (entry_is.Base part) = part_layout part
layout_told entry = None

-- the nonce of a part's root, if the part is of one
abbrev pub nonces_in : Part → List Nonce
nonces_in (part_is.Root pid nonce args cause) = nonce ∷ []
nonces_in part = []

-- the nonces of the roots that entries made, in the order of their numbers
abbrev pub own_nonces : Past → List Nonce
own_nonces past = map (λ root. nonce_of past root.0) (roots past)

-- the nonce of each root: of those of the base, as it tells them, and then of those that entries made
abbrev pub root_nonces : Past → List Nonce
root_nonces past = flat_map nonces_in (old_roots past) ++ own_nonces past

-- the nonce of a root that was made under none
abbrev pub no_nonce : Nonce
no_nonce = record { group = 0; number = 0 }

-- the nonce of the root of a part
abbrev pub part_nonce_made : Part → Option Nonce
part_nonce_made (part_is.Root pid nonce args cause) = Some nonce
part_nonce_made part = None

-- the nonce of each root that an entry makes or, as a part of a base, tells; none where there is no such root
abbrev pub nonce_made : Entry → Option Nonce
nonce_made (entry_is.Submit nonce request) = Some nonce
nonce_made (entry_is.Undo pid row out) = Some no_nonce
nonce_made (entry_is.Down server) = Some no_nonce
nonce_made (entry_is.Base part) = part_nonce_made part
nonce_made entry = None

-- a nonce so often
abbrev pub repeated : Nonce → ℕ → List Nonce
repeated nonce zero = []
repeated nonce (suc count) = nonce ∷ repeated nonce count

-- a nonce so often, if there is one
abbrev pub so_often : Option Nonce → ℕ → List Nonce
so_often None count = []
so_often (Some nonce) count = repeated nonce count
