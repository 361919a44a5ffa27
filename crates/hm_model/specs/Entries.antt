-- The entries of the tree of a root, and what disturbs it.
use Rattle.std.specs.Prelude.{◌≡◌, ◌≢◌, ℕ, ◌+◌, List, [], ◌∷◌, length, None, Bool, true, false, ◌==◌, ◌&&◌, ◌||◌, nat_lt, nat_le}
use Rattle.hm_data.specs.declared.args.Child.{Child}
use Rattle.hm_data.specs.declared.call.Told.{Told}
use Rattle.hm_data.specs.declared.call.Told.TheVariants as told_is
use Rattle.hm_data.specs.declared.entry.Entry.TheVariants as entry_is
use Rattle.hm_model.specs.Counts.{one_if}
use Rattle.hm_model.specs.Journal.{Past}
use Rattle.hm_model.specs.Phase.{ended}
use Rattle.hm_model.specs.Tree.{made, node_of, root_of, args_in}

-- the procedure is one of those that these children stand for, made after these entries
abbrev pub makes : Past → List Child → ℕ → Bool
makes before children r = nat_lt (made before) r && nat_le r (made before + length (args_in children))

-- the entries of the tree of a root, with the one that makes the root
abbrev pub entries_of : Past → ℕ → ℕ
entries_of [] r = 0
entries_of (entry_is.Submit nonce request ∷ before) r = entries_of before r + one_if (r == made before + 1)
entries_of (entry_is.Step pid pick out ∷ before) r = entries_of before r + one_if (root_of before pid.0 == r)
entries_of (entry_is.Undo pid row out ∷ before) r =
    entries_of before r + one_if ((root_of before pid.0 == r) || makes before out.followers r)
entries_of (entry_is.Report call told ∷ before) r = entries_of before r + one_if (root_of before call.0 == r)
entries_of (entry_is.Down server ∷ before) r = entries_of before r + one_if (r == made before + 1)
entries_of (entry_is.Base part ∷ before) r = 0
entries_of (entry ∷ before) r = entries_of before r

-- a call was refused, or a region didn't open
abbrev pub is_refusal : Told → Bool
is_refusal told_is.FailedOpen = true
is_refusal told_is.Refused = true
is_refusal told = false

-- nobody aborted the root, no call of its tree was refused and no region of it failed to open, and no server went down
-- while the root was there and hadn't ended
abbrev pub IsQuiet : Past → ℕ → Type 0
IsQuiet [] r = Unit {0}
IsQuiet (entry_is.Report call told ∷ before) r =
    IsQuiet before r × (root_of before call.0 ≡ r → is_refusal told ≡ false)
IsQuiet (entry_is.Down server ∷ before) r = IsQuiet before r × (node_of before r ≢ None → ended before r ≡ true)
IsQuiet (entry_is.Abort pid ∷ before) r = IsQuiet before r × (pid.0 ≢ r)
IsQuiet (entry_is.Base part ∷ before) r = Unit {0}
IsQuiet (entry ∷ before) r = IsQuiet before r
