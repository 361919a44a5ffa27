-- What a journal begins with, as it was read.
use Rattle.std.proofs.Common.{◌≡◌, ◌≢◌, ℕ, ◌+◌, ◌<◌, ◌^◌, ◌≤◌, max, List, [], ◌∷◌, ◌++◌, length, take, false, refl, sym, ap, ◌∙◌, subst, arith}
use Rattle.std.proofs.lemmas.Bool.{true≢false}
use Rattle.std.proofs.lemmas.List.{map-append, reverse-reverse}
use Rattle.std.proofs.lemmas.Option.{slice_get_within}
use Rattle.hm_data.specs.declared.entry.Entry.{Entry}
use Rattle.hm_data.specs.declared.entry.Entry.TheVariants as entry_is
use Rattle.hm_data.specs.declared.part.Part.{Part}
use Rattle.hm_data.specs.declared.sheet.Sheet.{Sheet}
use Rattle.hm_entry.specs.Spelling.{entry as spelling}
use Rattle.hm_model.specs.Base.{IsBegun}
use Rattle.hm_model.specs.Image.{counted}
use Rattle.hm_model.specs.Journal.{Past, back}
use Rattle.hm_model.specs.Laws.{is_part}
use Rattle.hm_model.specs.Rebase.{based}
use Rattle.hm_model.specs.Rules.{IsLegal}
use Rattle.hm_journal.specs.Judged.{AreLeading, EndsInOther, HasBegunWith, IsBeginning, Spells, SpellsAt, head_sheets, parts_in}
use Rattle.hm_journal.specs.Stored.{SameSheets}
use Rattle.hm_journal.specs.View.{IsOrigin}
use Rattle.hm_journal.proofs.Bases.{none_adopted, origin_based, sheets_first}
use Rattle.hm_journal.proofs.Judging.{no_origin}
use Rattle.hm_journal.proofs.Spelled.{spelled_once, spells_more, spells_newer, spells_none}

-- one part more
pub parts_more : (frames : List (List ℕ)) (number : ℕ) (parts more : List Part) (part : Part) (entry : Entry) → Spells (take number frames) (parts_in parts) → SpellsAt frames number entry
    → entry ≡ entry_is.Base part → more ≡ parts ++ part ∷ [] → Spells (take (number + 1) frames) (parts_in more)
parts_more frames number parts more part entry so_far here is pushed =
    spells_more frames number (parts_in parts) (parts_in more) entry so_far here
    (ap parts_in pushed ∙ map-append (λ (p : Part). entry_is.Base p) parts (part ∷ []) ∙ ap (λ (e : Entry). parts_in parts ++ e ∷ []) (sym is))

-- the parts before another entry
pub parts_before : (frames : List (List ℕ)) (number : ℕ) (parts : List Part) (entry : Entry) → length parts ≡ number → Spells (take number frames) (parts_in parts) → SpellsAt frames number entry
    → is_part entry ≡ false → AreLeading frames parts
parts_before frames number parts entry count so_far here other = record {
  spell = subst (λ (n : ℕ). Spells (take n frames) (parts_in parts)) (sym count) so_far;
  next = λ own there. ap is_part (spelled_once frames number own entry (subst (λ (n : ℕ). SpellsAt frames n own) count there) here) ∙ other;
}

-- the parts that all frames spell
pub parts_all : (frames : List (List ℕ)) (number : ℕ) (parts : List Part) → length parts ≡ number → length frames ≤ number → Spells (take number frames) (parts_in parts) → AreLeading frames parts
parts_all frames number parts count all so_far = record {
  spell = subst (λ (n : ℕ). Spells (take n frames) (parts_in parts)) (sym count) so_far;
  next = λ own there. absurd (omega (arith, count, all, slice_get_within frames (length parts) (spelling own) there.1));
}

-- a whole base whose head has the same sheet of each kind
pub begun_based : (sheets : List Sheet) (parts : List Part) → IsLegal (based parts) → IsBegun (based parts) → SameSheets sheets (head_sheets parts) → HasBegunWith sheets (based parts)
begun_based sheets parts legal begun same = record {
  legal = legal;
  begun = begun;
  begins = subst (SameSheets sheets) (sym (sheets_first parts legal)) same;
  keeps = none_adopted parts;
}

-- where there are parts they are one at least
parts_many : (parts : List Part) → parts ≢ [] → max (length parts) 1 ≡ length parts
parts_many [] some = absurd (some refl)
parts_many (part ∷ parts) some = omega arith

-- a journal begins with a base
pub begins_based : (sheets : List Sheet) (frames : List (List ℕ)) (parts : List Part) (past : Past) (many count : ℕ) → AreLeading frames parts → parts ≢ [] → past ≡ based parts → HasBegunWith sheets (based parts)
    → many ≡ length parts → count ≡ counted past → count < 2 ^ 63 → IsBeginning sheets frames past many count
begins_based sheets frames parts past many count leading some is begun so_many counts small =
    let first : max many 1 ≡ length parts = ap (λ (n : ℕ). max n 1) so_many ∙ parts_many parts some in
    let here : back past ≡ parts_in parts = ap back is ∙ reverse-reverse (parts_in parts) in
    record {
      spells = subst (λ (n : ℕ). Spells (take n frames) (back past)) (sym first) (subst (λ (es : List Entry). Spells (take (length parts) frames) es) (sym here) leading.spell);
      ends = λ entry at part. absurd (true≢false (sym part ∙ leading.next entry (subst (λ (n : ℕ). SpellsAt frames n entry) first at)));
      begun = subst (HasBegunWith sheets) (sym is) begun;
      origin = subst (λ (es : List Entry). IsOrigin many count es) (sym here)
          (subst (λ (n : ℕ). IsOrigin n count (parts_in parts)) (sym so_many) (origin_based parts count (counts ∙ ap counted is) small));
    }

-- or with a start
pub begins_first : (sheets : List Sheet) (frames : List (List ℕ)) (past : Past) (first : Entry) → SpellsAt frames 0 first → is_part first ≡ false → past ≡ first ∷ [] → HasBegunWith sheets past
    → IsBeginning sheets frames past 0 0
begins_first sheets frames past first here other is begun = record {
  spells = spells_newer frames 0 [] past first (spells_none frames) here is;
  ends = λ entry at part. subst EndsInOther (sym is) other;
  begun = begun;
  origin = subst (λ (J : Past). IsOrigin 0 0 (back J)) (sym is) (no_origin first other);
}
