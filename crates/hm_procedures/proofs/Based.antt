-- Where numbers begin, the edition in force, and the roots of a base, after an entry.
use Rattle.std.proofs.Common.{◌≡◌, ℕ, ◌+◌, List, [], ◌∷◌, Option, length, refl, ap, sym, ◌∙◌, arith}
use Rattle.hm_names.specs.declared.pid.Pid.{Pid}
use Rattle.hm_names.specs.declared.nonce.Nonce.{Nonce}
use Rattle.hm_data.specs.declared.answer.Cause.{Cause}
use Rattle.hm_data.specs.declared.args.Args.{Args}
use Rattle.hm_data.specs.declared.entry.Entry.{Entry}
use Rattle.hm_data.specs.declared.entry.Entry.TheVariants as entry_is
use Rattle.hm_data.specs.declared.part.Part.{Part}
use Rattle.hm_data.specs.declared.part.Part.TheVariants as part_is
use Rattle.hm_data.specs.declared.sheet.Sheet.{Sheet}
use Rattle.hm_model.specs.Base.{PartFits}
use Rattle.hm_model.specs.Editions.{editions}
use Rattle.hm_model.specs.Journal.{Past}
use Rattle.hm_model.specs.Parts.{part_made}
use Rattle.hm_model.specs.Procedures.{offset}
use Rattle.hm_model.specs.Rules.{IsLegal}
use Rattle.hm_model.proofs.Parted.{by_parts}
use Rattle.hm_procedures.specs.Book.{IsAdopt, IsBased, IsRooting, SameBase}
use Rattle.hm_procedures.specs.Kept.{AreElders, IsKept}
use Rattle.hm_model.specs.OldRoots.{old_records, with_record}
use Rattle.hm_procedures.specs.declared.book.Book.{Book}
use Rattle.hm_procedures.specs.declared.kept.Tracked.{Tracked}
use Rattle.hm_procedures.proofs.Elders.{same_elders}
use Rattle.hm_procedures.proofs.Enters.{adopt_kept, none_made}

-- what an entry leaves alone
pub still_based : (J J' : Past) (old new : Book) → offset J' ≡ offset J → editions J' ≡ editions J → old_records J' ≡ old_records J → IsBased J old → SameBase old new → IsBased J' new
still_based J J' old new off edition shown was same = record {
  begin = same.0 ∙ was.begin ∙ sym off;
  trees = same.3 ∙ was.trees ∙ sym off;
  siblings = same.4 ∙ was.siblings ∙ sym off;
  edition = same.1 ∙ was.edition ∙ sym edition;
  shown = same.2 ∙ was.shown ∙ sym shown;
}

-- an entry that makes a root of its own
pub rooting_based : (J : Past) (old new : Book) (entry : Entry) → IsBased J old → SameBase old new → IsRooting entry → IsBased (entry ∷ J) new
rooting_based J old new (entry_is.Submit nonce request) was same makes = still_based J (entry_is.Submit nonce request ∷ J) old new refl refl refl was same
rooting_based J old new (entry_is.Down server) was same makes = still_based J (entry_is.Down server ∷ J) old new refl refl refl was same
rooting_based J old new entry was same makes = absurd makes

-- no sheets were adopted before a part
none_adopted : (part : Part) (before : Past) → PartFits part before → editions before ≡ 0
none_adopted = by_parts (λ J. editions J ≡ 0) refl (λ own older. refl)

-- new sheets
pub adopt_based : (J : Past) (old new : Book) (entry : Entry) → IsAdopt entry → IsBased J old → new.editions ≡ old.editions + 1 → new.offset ≡ old.offset → new.trees.from ≡ old.trees.from → new.siblings.from ≡ old.siblings.from → new.old_roots.items ≡ old.old_roots.items
    → IsBased (entry ∷ J) new
adopt_based J old new (entry_is.Adopt sheets) adopts was edition off trees siblings shown = record {
  begin = off ∙ was.begin;
  trees = trees ∙ was.trees;
  siblings = siblings ∙ was.siblings;
  edition = edition ∙ ap (λ n. n + 1) was.edition;
  shown = shown ∙ was.shown;
}
adopt_based J old new entry adopts was edition off trees siblings shown = absurd adopts

-- a part of a base
pub part_based : (J : Past) (old new : Book) (part : Part) → IsLegal (entry_is.Base part ∷ J) → IsBased J old → new.offset ≡ part_made part old.offset → new.trees.from ≡ part_made part old.trees.from → new.siblings.from ≡ part_made part old.siblings.from → new.editions ≡ old.editions
    → new.old_roots.items ≡ with_record part old.old_roots.items → IsBased (entry_is.Base part ∷ J) new
part_based J old new part legal was off trees siblings edition shown =
    let none = sym (none_made part J legal.1.0) in
    record {
      begin = off ∙ ap (part_made part) (was.begin ∙ none);
      trees = trees ∙ ap (part_made part) (was.trees ∙ none);
      siblings = siblings ∙ ap (part_made part) (was.siblings ∙ none);
      edition = edition ∙ was.edition ∙ none_adopted part J legal.1.0;
      shown = shown ∙ ap (with_record part) was.shown;
    }

-- one that is neither the head nor a root
pub other_based : (J : Past) (book : Book) (part : Part) → ((entries : ℕ) (last : Pid) (parts : ℕ) (sheets : List Sheet) → part ≡ part_is.Head entries last parts sheets → ⊥)
    → ((pid : Pid) (nonce : Nonce) (args : Args) (cause : Option Cause) → part ≡ part_is.Root pid nonce args cause → ⊥) → IsLegal (entry_is.Base part ∷ J) → IsBased J book → IsBased (entry_is.Base part ∷ J) book
other_based J book (part_is.Head entries last parts sheets) head root legal was = absurd (head entries last parts sheets refl)
other_based J book (part_is.Root pid nonce args cause) head root legal was = absurd (root pid nonce args cause refl)
other_based J book part head root legal was = part_based J book book part legal was refl refl refl refl refl

-- new sheets leave what is kept
pub adopts_kept : (J : Past) (kept : List Tracked) (roots : List Pid) (left : ℕ) → IsKept J kept roots left → (entry : Entry) → IsAdopt entry → IsLegal (entry ∷ J) → IsKept (entry ∷ J) kept roots left
adopts_kept J kept roots left was (entry_is.Adopt sheets) adopts legal = adopt_kept J kept roots left was sheets legal
adopts_kept J kept roots left was entry adopts legal = absurd adopts

-- and the eldest siblings
pub adopts_elders : (J : Past) (list : List Pid) → IsLegal J → AreElders J list → (entry : Entry) → IsAdopt entry → IsLegal (entry ∷ J) → AreElders (entry ∷ J) list
adopts_elders J list legal are (entry_is.Adopt sheets) adopts legal' = same_elders J legal list are (entry_is.Adopt sheets) legal' refl (λ q lt. refl)
adopts_elders J list legal are entry adopts legal' = absurd adopts

-- a list of no length has none
pub none_in : {X : Type 0} (xs : List X) → length xs ≡ 0 → xs ≡ []
none_in [] none = refl
none_in (x ∷ xs) none = absurd (omega (arith, none))
