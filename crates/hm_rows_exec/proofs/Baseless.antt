-- Where no base stands before entries none does before one more.
use Rattle.std.proofs.Common.{◌≡◌, ◌<◌, ◌+◌, ◌-◌, ◌^◌, ℕ, min, List, [], ◌∷◌, ◌++◌, length, Option, Some, IfSome, All, ap, sym, ◌∙◌, subst, arith}
use Rattle.std.proofs.lemmas.List.Elements.{All-append, All-cons, All-nil}
use Rattle.std.proofs.lemmas.List.Sums.{sum_by-append, sum_by-cons}
use Rattle.hm_data.specs.declared.entry.Entry.{Entry}
use Rattle.hm_entry.specs.Fits.{EntryFits}
use Rattle.hm_entry.specs.Spelling.{entry as spelling}
use Rattle.hm_hall.specs.Recording.{Passes, Recording, behind, bytes_of}
use Rattle.hm_rows_exec.specs.Keeping.{IsCopy}

pub baseless_on : (entries : List Entry) (copy : Entry) (new : List Entry) → behind (entries ++ copy ∷ []) ≡ behind entries ++ copy ∷ [] → behind entries ≡ entries → new ≡ entries ++ copy ∷ [] → behind new ≡ new
baseless_on entries copy new grows base is = ap behind is ∙ grows ∙ ap (λ (l : List Entry). l ++ copy ∷ []) base ∙ sym is

pub copy_told : {kept : Recording} {used room : ℕ} (held taken : Option Entry) (copy : Entry) → taken ≡ held → taken ≡ Some copy → IfSome held (IsCopy kept used room) → IsCopy kept used room copy
copy_told {kept} {used} {room} held taken copy value is told = subst (λ (o : Option Entry). IfSome o (IsCopy kept used room)) (sym value ∙ is) told

-- each has a spelling still
pub fit_on : (entries : List Entry) (copy : Entry) (new : List Entry) → All EntryFits entries → EntryFits copy → new ≡ entries ++ copy ∷ [] → All EntryFits new
fit_on entries copy new all fits is = subst (All EntryFits) (sym is) (All-append EntryFits entries (copy ∷ []) all (All-cons EntryFits copy [] fits (All-nil EntryFits)))

bytes_more : (entries : List Entry) (copy : Entry) → bytes_of (entries ++ copy ∷ []) ≡ bytes_of entries + length (spelling copy) + 5
bytes_more entries copy =
    let all = sum_by-append (λ (e : Entry). length (spelling e) + 5) entries (copy ∷ []) in
    omega (arith, all)

-- and the bytes are those of a log of them, since the entry doesn't pass the mark
pub sized_on : (entries : List Entry) (copy : Entry) (new : List Entry) (bytes n hard : ℕ) → bytes ≡ bytes_of entries → n ≡ min (length (spelling copy)) (2 ^ 64 - 1) → hard < 2 ^ 64 → (Passes hard entries copy → ⊥)
    → new ≡ entries ++ copy ∷ [] → bytes + (n + 5) ≡ bytes_of new
sized_on entries copy new bytes n hard sized long small within is =
    let more : bytes_of new ≡ bytes_of entries + length (spelling copy) + 5 = ap bytes_of is ∙ bytes_more entries copy in
    omega (arith, more, sized, long, small, within)
