-- Entries and the frames that spell them.
use Rattle.std.proofs.Common.{◌≡◌, ℕ, ◌+◌, ◌≤◌, List, [], ◌∷◌, ◌++◌, length, take, slice_get, Some, All, refl, arith, sym, ap, ◌∙◌, subst}
use Rattle.std.proofs.lemmas.List.{map-append, take_more}
use Rattle.std.proofs.lemmas.List.Elements.{All-nil, All-push}
use Rattle.std.proofs.lemmas.Option.{get_or_from_slice_get, same_Some, slice_get_within}
use Rattle.hm_data.specs.declared.entry.Entry.{Entry}
use Rattle.hm_entry.specs.Fits.{EntryFits}
use Rattle.hm_entry.specs.Spelling.{entry as spelling}
use Rattle.hm_entry.proofs.EntryCodec.{one_entry}
use Rattle.hm_model.specs.Journal.{Past, back}
use Rattle.hm_journal.specs.Stored.{frames_of}
use Rattle.hm_journal.specs.Judged.{Spells, SpellsAt}
use Rattle.hm_journal.proofs.Judging.{back-cons}

-- one item more
pub take_item : {A : Type 0} (items : List A) (place : ℕ) (item : A) → slice_get items place ≡ Some item → take (place + 1) items ≡ take place items ++ item ∷ []
take_item items place item here =
    take_more items place item (slice_get_within items place item here) ∙ ap (λ i. take place items ++ i ∷ []) (get_or_from_slice_get items place item item here)

-- one entry more spells one frame more
pub spells_more : (frames : List (List ℕ)) (number : ℕ) (entries more : List Entry) (entry : Entry) → Spells (take number frames) entries → SpellsAt frames number entry
    → more ≡ entries ++ entry ∷ [] → Spells (take (number + 1) frames) more
spells_more frames number entries more entry so_far here is = record {
  are = ap frames_of is ∙ map-append spelling entries (entry ∷ []) ∙ ap (λ fs. fs ++ spelling entry ∷ []) so_far.are ∙ sym (take_item frames number (spelling entry) here.1);
  fits = subst (All EntryFits) (sym is) (All-push EntryFits entries entry so_far.fits here.0);
}

-- the same, back from the newest
pub spells_newer : (frames : List (List ℕ)) (number : ℕ) (past new : Past) (entry : Entry) → Spells (take number frames) (back past) → SpellsAt frames number entry
    → new ≡ entry ∷ past → Spells (take (number + 1) frames) (back new)
spells_newer frames number past new entry so_far here is = spells_more frames number (back past) (back new) entry so_far here (ap back is ∙ back-cons entry past)

-- no entry is spelled by no frame
pub spells_none : (frames : List (List ℕ)) → Spells (take 0 frames) []
spells_none frames = record { are = refl; fits = All-nil EntryFits }

-- a frame spells at most one entry
pub spelled_once : (frames : List (List ℕ)) (number : ℕ) (one other : Entry) → SpellsAt frames number one → SpellsAt frames number other → one ≡ other
spelled_once frames number one other here there = one_entry one other here.0 there.0 (same_Some (spelling one) (spelling other) (sym here.1 ∙ there.1))

-- of so many entries as none
pub none_of : (entries : List Entry) (count : ℕ) → count ≡ length entries → count ≤ 0 → entries ≡ []
none_of [] count is none = refl
none_of (entry ∷ entries) count is none = absurd (omega (arith, is, none))
