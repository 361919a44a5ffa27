-- The codecs of values that are spelled by a number.
use Rattle.std.proofs.Common.{◌≡◌, ℕ, ◌<◌, Bool, true, false, cond, eqb, List, Option, Some, None, refl, sym, ap, ◌∙◌, lit<}
use Rattle.std.proofs.lemmas.Bool.{eqb-true}
use Rattle.hm_data.specs.Numbers.{table_state_number, table_state_of, status_number, status_of, region_state_number, region_state_of, goal_number, goal_of, told_number, told_of, act_number, act_of, back_number, back_of, cause_number, cause_of}
use Rattle.hm_data.specs.declared.catalog.TableState.{TableState}
use Rattle.hm_data.specs.declared.catalog.TableState.TheVariants as table_state_is
use Rattle.hm_data.specs.declared.catalog.Status.{Status}
use Rattle.hm_data.specs.declared.catalog.Status.TheVariants as status_is
use Rattle.hm_data.specs.declared.place.RegionState.{RegionState}
use Rattle.hm_data.specs.declared.place.RegionState.TheVariants as region_state_is
use Rattle.hm_data.specs.declared.place.Goal.{Goal}
use Rattle.hm_data.specs.declared.place.Goal.TheVariants as goal_is
use Rattle.hm_data.specs.declared.call.Told.{Told}
use Rattle.hm_data.specs.declared.call.Told.TheVariants as told_is
use Rattle.hm_data.specs.declared.act.Act.{Act}
use Rattle.hm_data.specs.declared.act.Act.TheVariants as act_is
use Rattle.hm_data.specs.declared.act.Back.{Back}
use Rattle.hm_data.specs.declared.act.Back.TheVariants as back_is
use Rattle.hm_data.specs.declared.answer.Cause.{Cause}
use Rattle.hm_data.specs.declared.answer.Cause.TheVariants as cause_is
use Rattle.hm_entry.specs.Spelling.{byte, flag}
use Rattle.hm_entry.specs.Reading.{table_state_at, status_at, region_state_at, goal_at, told_at, act_at, back_at, cause_at, flag_at, flag_of}
use Rattle.hm_entry.proofs.Codec.{IsCodec}
use Rattle.hm_entry.proofs.FieldCodecs.{coded_codec}

-- what is found by a number is spelled by it
record IsFound {A : Type 0} (spell : A → List ℕ) (n : ℕ) (o : Option A) : Type 0 where
  pub back : (x : A) → o ≡ Some x → spell x ≡ byte n

-- one byte with its number
abbrev pub by_number : {A : Type 0} → (A → ℕ) → A → List ℕ
by_number number x = byte (number x)

abbrev some : {A : Type 0} → A → Option A
some x = Some x

value_is : {A : Type 0} (x y : A) → some x ≡ some y → x ≡ y
value_is x y e = cc

nothing : {A : Type 0} {spell : A → List ℕ} {n : ℕ} → IsFound spell n None
nothing = record { back = λ x e. absurd cc }

chosen : {A : Type 0} {spell : A → List ℕ} {n : ℕ} (b : Bool) (k : ℕ) (v : A) {o : Option A} → (b ≡ true → n ≡ k) → spell v ≡ byte k → IsFound spell n o → IsFound spell n (cond b (Some v) o)
chosen {spell = spell} true k v same is others = record { back = λ x e. ap spell (sym (value_is v x e)) ∙ is ∙ ap (λ (m : ℕ). byte m) (sym (same refl)) }
chosen false k v same is others = others

found : {A : Type 0} {spell : A → List ℕ} {n : ℕ} (k : ℕ) (v : A) {o : Option A} → spell v ≡ byte k → IsFound spell n o → IsFound spell n (cond (eqb n k) (Some v) o)
found {n = n} k v is others = chosen (eqb n k) k v (eqb-true n k) is others

table_state_found : (n : ℕ) → IsFound (by_number table_state_number) n (table_state_of n)
table_state_found n =
    found 0 table_state_is.Enabling refl (
    found 1 table_state_is.Enabled refl (
    found 2 table_state_is.Disabling refl (
    found 3 table_state_is.Disabled refl (
    nothing))))

table_state_has : (x : TableState) → (n : ℕ) × (n < 256) × (table_state_of n ≡ Some x) × ((by_number table_state_number) x ≡ byte n)
table_state_has table_state_is.Enabling = (0, lit< tt, refl, refl)
table_state_has table_state_is.Enabled = (1, lit< tt, refl, refl)
table_state_has table_state_is.Disabling = (2, lit< tt, refl, refl)
table_state_has table_state_is.Disabled = (3, lit< tt, refl, refl)

pub table_state_codec : IsCodec table_state_at (by_number table_state_number) (λ x. Unit {0})
unfolding table_state_at
table_state_codec = coded_codec table_state_of (by_number table_state_number) (λ n. (table_state_found n).back) table_state_has

status_found : (n : ℕ) → IsFound (by_number status_number) n (status_of n)
status_found n =
    found 0 status_is.Live refl (
    found 1 status_is.Split refl (
    found 2 status_is.Merged refl (
    nothing)))

status_has : (x : Status) → (n : ℕ) × (n < 256) × (status_of n ≡ Some x) × ((by_number status_number) x ≡ byte n)
status_has status_is.Live = (0, lit< tt, refl, refl)
status_has status_is.Split = (1, lit< tt, refl, refl)
status_has status_is.Merged = (2, lit< tt, refl, refl)

pub status_codec : IsCodec status_at (by_number status_number) (λ x. Unit {0})
unfolding status_at
status_codec = coded_codec status_of (by_number status_number) (λ n. (status_found n).back) status_has

region_state_found : (n : ℕ) → IsFound (by_number region_state_number) n (region_state_of n)
region_state_found n =
    found 0 region_state_is.Offline refl (
    found 1 region_state_is.Opening refl (
    found 2 region_state_is.Opened refl (
    found 3 region_state_is.Closing refl (
    found 4 region_state_is.Closed refl (
    found 5 region_state_is.FailedOpen refl (
    found 6 region_state_is.AbnormallyClosed refl (
    nothing)))))))

region_state_has : (x : RegionState) → (n : ℕ) × (n < 256) × (region_state_of n ≡ Some x) × ((by_number region_state_number) x ≡ byte n)
region_state_has region_state_is.Offline = (0, lit< tt, refl, refl)
region_state_has region_state_is.Opening = (1, lit< tt, refl, refl)
region_state_has region_state_is.Opened = (2, lit< tt, refl, refl)
region_state_has region_state_is.Closing = (3, lit< tt, refl, refl)
region_state_has region_state_is.Closed = (4, lit< tt, refl, refl)
region_state_has region_state_is.FailedOpen = (5, lit< tt, refl, refl)
region_state_has region_state_is.AbnormallyClosed = (6, lit< tt, refl, refl)

pub region_state_codec : IsCodec region_state_at (by_number region_state_number) (λ x. Unit {0})
unfolding region_state_at
region_state_codec = coded_codec region_state_of (by_number region_state_number) (λ n. (region_state_found n).back) region_state_has

goal_found : (n : ℕ) → IsFound (by_number goal_number) n (goal_of n)
goal_found n =
    found 0 goal_is.Assign refl (
    found 1 goal_is.Unassign refl (
    found 2 goal_is.Move refl (
    nothing)))

goal_has : (x : Goal) → (n : ℕ) × (n < 256) × (goal_of n ≡ Some x) × ((by_number goal_number) x ≡ byte n)
goal_has goal_is.Assign = (0, lit< tt, refl, refl)
goal_has goal_is.Unassign = (1, lit< tt, refl, refl)
goal_has goal_is.Move = (2, lit< tt, refl, refl)

pub goal_codec : IsCodec goal_at (by_number goal_number) (λ x. Unit {0})
unfolding goal_at
goal_codec = coded_codec goal_of (by_number goal_number) (λ n. (goal_found n).back) goal_has

told_found : (n : ℕ) → IsFound (by_number told_number) n (told_of n)
told_found n =
    found 0 told_is.Nothing refl (
    found 1 told_is.Opened refl (
    found 2 told_is.FailedOpen refl (
    found 3 told_is.Closed refl (
    found 4 told_is.Gone refl (
    found 5 told_is.Fenced refl (
    found 6 told_is.LaidOut refl (
    found 7 told_is.Refused refl (
    found 8 told_is.Swept refl (
    nothing)))))))))

told_has : (x : Told) → (n : ℕ) × (n < 256) × (told_of n ≡ Some x) × ((by_number told_number) x ≡ byte n)
told_has told_is.Nothing = (0, lit< tt, refl, refl)
told_has told_is.Opened = (1, lit< tt, refl, refl)
told_has told_is.FailedOpen = (2, lit< tt, refl, refl)
told_has told_is.Closed = (3, lit< tt, refl, refl)
told_has told_is.Gone = (4, lit< tt, refl, refl)
told_has told_is.Fenced = (5, lit< tt, refl, refl)
told_has told_is.LaidOut = (6, lit< tt, refl, refl)
told_has told_is.Refused = (7, lit< tt, refl, refl)
told_has told_is.Swept = (8, lit< tt, refl, refl)

pub told_codec : IsCodec told_at (by_number told_number) (λ x. Unit {0})
unfolding told_at
told_codec = coded_codec told_of (by_number told_number) (λ n. (told_found n).back) told_has

act_found : (n : ℕ) → IsFound (by_number act_number) n (act_of n)
act_found n =
    found 1 act_is.CheckNamespaceFree refl (
    found 2 act_is.AddNamespace refl (
    found 3 act_is.CheckNamespaceEmpty refl (
    found 4 act_is.DropNamespace refl (
    found 5 act_is.CheckTableFree refl (
    found 6 act_is.AddTable refl (
    found 7 act_is.Layout refl (
    found 8 act_is.AddRegions refl (
    found 9 act_is.SetEnabling refl (
    found 10 act_is.OpenRegions refl (
    found 11 act_is.SetEnabled refl (
    found 12 act_is.CheckTableDisabled refl (
    found 13 act_is.DropRegions refl (
    found 14 act_is.DropTable refl (
    found 15 act_is.CheckTableEnabled refl (
    found 16 act_is.SetDisabling refl (
    found 17 act_is.CloseRegions refl (
    found 18 act_is.SetDisabled refl (
    found 19 act_is.SetVersion refl (
    found 20 act_is.CheckSplit refl (
    found 21 act_is.CloseParent refl (
    found 22 act_is.UpdateSplitMeta refl (
    found 23 act_is.OpenDaughters refl (
    found 24 act_is.Finish refl (
    found 25 act_is.CheckMerge refl (
    found 26 act_is.CloseParents refl (
    found 27 act_is.UpdateMergeMeta refl (
    found 28 act_is.OpenMerged refl (
    found 29 act_is.AddRegionRows refl (
    found 30 act_is.DropRegionRows refl (
    found 31 act_is.GetAssignCandidate refl (
    found 32 act_is.Open refl (
    found 33 act_is.ConfirmOpened refl (
    found 34 act_is.Close refl (
    found 35 act_is.ConfirmClosed refl (
    found 36 act_is.CheckMove refl (
    found 37 act_is.Fence refl (
    found 38 act_is.Reassign refl (
    found 39 act_is.CallAssign refl (
    found 40 act_is.CallClose refl (
    found 41 act_is.Settle refl (
    found 42 act_is.CallFence refl (
    found 43 act_is.CallLayout refl (
    found 44 act_is.SettleLayout refl (
    found 45 act_is.CallSweep refl (
    nothing)))))))))))))))))))))))))))))))))))))))))))))

act_has : (x : Act) → (n : ℕ) × (n < 256) × (act_of n ≡ Some x) × ((by_number act_number) x ≡ byte n)
act_has act_is.CheckNamespaceFree = (1, lit< tt, refl, refl)
act_has act_is.AddNamespace = (2, lit< tt, refl, refl)
act_has act_is.CheckNamespaceEmpty = (3, lit< tt, refl, refl)
act_has act_is.DropNamespace = (4, lit< tt, refl, refl)
act_has act_is.CheckTableFree = (5, lit< tt, refl, refl)
act_has act_is.AddTable = (6, lit< tt, refl, refl)
act_has act_is.Layout = (7, lit< tt, refl, refl)
act_has act_is.AddRegions = (8, lit< tt, refl, refl)
act_has act_is.SetEnabling = (9, lit< tt, refl, refl)
act_has act_is.OpenRegions = (10, lit< tt, refl, refl)
act_has act_is.SetEnabled = (11, lit< tt, refl, refl)
act_has act_is.CheckTableDisabled = (12, lit< tt, refl, refl)
act_has act_is.DropRegions = (13, lit< tt, refl, refl)
act_has act_is.DropTable = (14, lit< tt, refl, refl)
act_has act_is.CheckTableEnabled = (15, lit< tt, refl, refl)
act_has act_is.SetDisabling = (16, lit< tt, refl, refl)
act_has act_is.CloseRegions = (17, lit< tt, refl, refl)
act_has act_is.SetDisabled = (18, lit< tt, refl, refl)
act_has act_is.SetVersion = (19, lit< tt, refl, refl)
act_has act_is.CheckSplit = (20, lit< tt, refl, refl)
act_has act_is.CloseParent = (21, lit< tt, refl, refl)
act_has act_is.UpdateSplitMeta = (22, lit< tt, refl, refl)
act_has act_is.OpenDaughters = (23, lit< tt, refl, refl)
act_has act_is.Finish = (24, lit< tt, refl, refl)
act_has act_is.CheckMerge = (25, lit< tt, refl, refl)
act_has act_is.CloseParents = (26, lit< tt, refl, refl)
act_has act_is.UpdateMergeMeta = (27, lit< tt, refl, refl)
act_has act_is.OpenMerged = (28, lit< tt, refl, refl)
act_has act_is.AddRegionRows = (29, lit< tt, refl, refl)
act_has act_is.DropRegionRows = (30, lit< tt, refl, refl)
act_has act_is.GetAssignCandidate = (31, lit< tt, refl, refl)
act_has act_is.Open = (32, lit< tt, refl, refl)
act_has act_is.ConfirmOpened = (33, lit< tt, refl, refl)
act_has act_is.Close = (34, lit< tt, refl, refl)
act_has act_is.ConfirmClosed = (35, lit< tt, refl, refl)
act_has act_is.CheckMove = (36, lit< tt, refl, refl)
act_has act_is.Fence = (37, lit< tt, refl, refl)
act_has act_is.Reassign = (38, lit< tt, refl, refl)
act_has act_is.CallAssign = (39, lit< tt, refl, refl)
act_has act_is.CallClose = (40, lit< tt, refl, refl)
act_has act_is.Settle = (41, lit< tt, refl, refl)
act_has act_is.CallFence = (42, lit< tt, refl, refl)
act_has act_is.CallLayout = (43, lit< tt, refl, refl)
act_has act_is.SettleLayout = (44, lit< tt, refl, refl)
act_has act_is.CallSweep = (45, lit< tt, refl, refl)

pub act_codec : IsCodec act_at (by_number act_number) (λ x. Unit {0})
unfolding act_at
act_codec = coded_codec act_of (by_number act_number) (λ n. (act_found n).back) act_has

back_found : (n : ℕ) → IsFound (by_number back_number) n (back_of n)
back_found n =
    found 0 back_is.Nothing refl (
    found 1 back_is.Edits refl (
    found 2 back_is.Sweep refl (
    found 3 back_is.Reopen refl (
    nothing))))

back_has : (x : Back) → (n : ℕ) × (n < 256) × (back_of n ≡ Some x) × ((by_number back_number) x ≡ byte n)
back_has back_is.Nothing = (0, lit< tt, refl, refl)
back_has back_is.Edits = (1, lit< tt, refl, refl)
back_has back_is.Sweep = (2, lit< tt, refl, refl)
back_has back_is.Reopen = (3, lit< tt, refl, refl)

pub back_codec : IsCodec back_at (by_number back_number) (λ x. Unit {0})
unfolding back_at
back_codec = coded_codec back_of (by_number back_number) (λ n. (back_found n).back) back_has

cause_found : (n : ℕ) → IsFound (by_number cause_number) n (cause_of n)
cause_found n =
    found 1 cause_is.NsExists refl (
    found 2 cause_is.NsMissing refl (
    found 3 cause_is.NsNotEmpty refl (
    found 4 cause_is.TableExists refl (
    found 5 cause_is.TableMissing refl (
    found 6 cause_is.NotDisabled refl (
    found 7 cause_is.NotEnabled refl (
    found 8 cause_is.RegionMissing refl (
    found 9 cause_is.RegionNotLive refl (
    found 10 cause_is.KeyOutside refl (
    found 11 cause_is.NotAdjacent refl (
    found 12 cause_is.LayoutRefused refl (
    found 13 cause_is.Aborted refl (
    nothing)))))))))))))

cause_has : (x : Cause) → (n : ℕ) × (n < 256) × (cause_of n ≡ Some x) × ((by_number cause_number) x ≡ byte n)
cause_has cause_is.NsExists = (1, lit< tt, refl, refl)
cause_has cause_is.NsMissing = (2, lit< tt, refl, refl)
cause_has cause_is.NsNotEmpty = (3, lit< tt, refl, refl)
cause_has cause_is.TableExists = (4, lit< tt, refl, refl)
cause_has cause_is.TableMissing = (5, lit< tt, refl, refl)
cause_has cause_is.NotDisabled = (6, lit< tt, refl, refl)
cause_has cause_is.NotEnabled = (7, lit< tt, refl, refl)
cause_has cause_is.RegionMissing = (8, lit< tt, refl, refl)
cause_has cause_is.RegionNotLive = (9, lit< tt, refl, refl)
cause_has cause_is.KeyOutside = (10, lit< tt, refl, refl)
cause_has cause_is.NotAdjacent = (11, lit< tt, refl, refl)
cause_has cause_is.LayoutRefused = (12, lit< tt, refl, refl)
cause_has cause_is.Aborted = (13, lit< tt, refl, refl)

pub cause_codec : IsCodec cause_at (by_number cause_number) (λ x. Unit {0})
unfolding cause_at
cause_codec = coded_codec cause_of (by_number cause_number) (λ n. (cause_found n).back) cause_has

flag_found : (n : ℕ) → IsFound flag n (flag_of n)
flag_found n =
    found 0 false refl (
    found 1 true refl (
    nothing))

flag_has : (x : Bool) → (n : ℕ) × (n < 256) × (flag_of n ≡ Some x) × (flag x ≡ byte n)
flag_has false = (0, lit< tt, refl, refl)
flag_has true = (1, lit< tt, refl, refl)

pub flag_codec : IsCodec flag_at flag (λ x. Unit {0})
unfolding flag_at
flag_codec = coded_codec flag_of flag (λ n. (flag_found n).back) flag_has
