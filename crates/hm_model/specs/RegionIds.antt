-- The ids of the regions that submissions and procedures name.
use Rattle.std.specs.Prelude.{◌≡◌, ℕ, ◌<◌, ◌≤◌, ◌^◌, ◌==◌, List, [], ◌∷◌, Bool, true, false}
use Rattle.std.specs.List.{AllByRecursion, list_any}
use Rattle.hm_data.specs.declared.args.Args.{Args}
use Rattle.hm_data.specs.declared.args.Child.{Child}
use Rattle.hm_data.specs.declared.args.Child.TheVariants as child_is
use Rattle.hm_data.specs.declared.entry.Entry.{Entry}
use Rattle.hm_data.specs.declared.entry.Entry.TheVariants as entry_is
use Rattle.hm_model.specs.Evaluation.{ids_in, named_ids}
use Rattle.hm_model.specs.Journal.{Past}
use Rattle.hm_model.specs.Views.{first_id_of}

-- ids of regions: from 1 on
abbrev pub AreIds : List ℕ → Type 0
AreIds ids = AllByRecursion (λ id. 1 ≤ id) ids

-- each submission of a journal names regions by their ids
abbrev pub AreNamed : Past → Type 0
AreNamed [] = Unit {0}
AreNamed (entry_is.Submit nonce request ∷ before) = AreIds (ids_in request) × AreNamed before
AreNamed (entry_is.Base part ∷ before) = Unit {0}
AreNamed (entry ∷ before) = AreNamed before

-- what a procedure works on names regions by their ids, and the first id that it draws or adds is below 2^32
abbrev pub NamesIds : Args → Type 0
NamesIds args = AreIds (named_ids args) × (first_id_of args < 2 ^ 32)

-- the children that an entry asks for
abbrev pub children_asked : Entry → List Child
children_asked (entry_is.Step pid pick out) = out.children
children_asked (entry_is.Undo pid row out) = out.followers
children_asked entry = []

-- a child is a transit of the region number 0, which no region has
abbrev pub is_zero_transit : Child → Bool
is_zero_transit (child_is.Transits table ids goal) = list_any (λ id. id == 0) ids
is_zero_transit (child_is.One args) = false

-- an entry asks for a transit of the region number 0
abbrev pub AsksForZero : Entry → Type 0
AsksForZero entry = list_any is_zero_transit (children_asked entry) ≡ true
