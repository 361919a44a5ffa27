-- Why entries are refused that begin with parts that are no base.
use Rattle.std.proofs.Common.{◌≡◌, ◌≢◌, ℕ, zero, suc, ◌≤◌, List, [], ◌∷◌, ◌++◌, drop, length, take, slice_get, Some, true, false, refl, sym, ap, ◌∙◌, subst, inl, inr, ⊎_elim, arith}
use Rattle.std.proofs.lemmas.List.{length-map, take-append-drop, take-append-le, take-map, take_all}
use Rattle.std.proofs.lemmas.Option.{none-some, same_Some, slice_get_within}
use Rattle.hm_data.specs.declared.entry.Entry.{Entry}
use Rattle.hm_data.specs.declared.entry.Entry.TheVariants as entry_is
use Rattle.hm_data.specs.declared.part.Part.{Part}
use Rattle.hm_data.specs.declared.sheet.Sheet.{Sheet}
use Rattle.hm_entry.specs.Spelling.{entry as spelling}
use Rattle.hm_base.specs.Read.{IsMisfit, IsNoBase, IsPartial}
use Rattle.hm_base.specs.declared.why.BaseWhy.TheVariants as base_why_is
use Rattle.hm_model.specs.Base.{IsBegun}
use Rattle.hm_model.specs.Editions.{editions}
use Rattle.hm_model.specs.Journal.{Past, back}
use Rattle.hm_model.specs.Laws.{is_part}
use Rattle.hm_model.specs.Rebase.{based}
use Rattle.hm_model.specs.Rules.{Breaks, IsLegal}
use Rattle.hm_model.specs.Sheets.{sheets_of}
use Rattle.hm_journal.specs.Judged.{AreLeading, EndsAt, Spells, SpellsAt, head_sheets, parts_in}
use Rattle.hm_journal.specs.Stored.{SameSheets}
use Rattle.hm_journal.specs.Verdict.{AreIllegal, EndsInBase, HasOthers, IsLowestDifference}
use Rattle.hm_journal.proofs.Bases.{head_legal, none_adopted, sheets_first, some_based}
use Rattle.hm_journal.proofs.Places.{front_is, spelled_at}

-- a part stands where it stood, whatever is behind the parts
part_at : (parts : List Part) (rest : List Entry) (number : ℕ) (part : Part) → slice_get parts number ≡ Some part → slice_get (parts_in parts ++ rest) number ≡ Some (entry_is.Base part)
part_at [] rest number part here = absurd (none-some part here)
part_at (own ∷ parts) rest zero part here = ap (λ (p : Part). Some (entry_is.Base p)) (same_Some own part here)
part_at (own ∷ parts) rest (suc number) part here = part_at parts rest number part here

-- the head of some of the parts is theirs
same_head : (parts : List Part) (number : ℕ) → number ≢ 0 → head_sheets (take number parts) ≡ head_sheets parts
same_head parts zero some = absurd (some refl)
same_head [] (suc number) some = refl
same_head (part ∷ parts) (suc number) some = refl

module _ (sheets : List Sheet) (frames : List (List ℕ)) (parts : List Part) (entries : List Entry) (leading : AreLeading frames parts) (spells : Spells frames entries) where
  abbrev rest : List Entry
  rest = drop (length parts) entries

  -- the parts, and the others behind them
  both : entries ≡ parts_in parts ++ rest
  both = sym (take-append-drop (length parts) entries) ∙ ap (λ (front : List Entry). front ++ rest) (front_is frames (length parts) (parts_in parts) entries leading.spell spells)

  -- the first entries are the first parts
  cut : (number : ℕ) → number ≤ length parts → take number entries ≡ parts_in (take number parts)
  cut number within =
      ap (take number) both ∙ take-append-le number (parts_in parts) rest (omega (arith, within, length-map parts (λ (part : Part). entry_is.Base part)))
      ∙ take-map (λ (part : Part). entry_is.Base part) number parts

  -- where parts are legal, and their head's sheets are the same of each kind, so are those in force
  same_in : (own : List Part) → IsLegal (based own) → head_sheets own ≡ head_sheets parts → SameSheets sheets (head_sheets parts) → SameSheets sheets (sheets_of (based own))
  same_in own legal is same = subst (SameSheets sheets) (sym (sheets_first own legal ∙ is)) same

  -- the first entry that may not stand, and the rule that refuses it
  first_at : (number rule : ℕ) (entry : Entry) → number ≤ length parts → slice_get entries number ≡ Some entry → IsLegal (based (take number parts))
      → (number ≢ 0 → SameSheets sheets (head_sheets parts)) → Breaks (based (take number parts)) entry rule → AreIllegal sheets entries number rule
  first_at number rule entry within here legal same breaks =
      let is : back (take number entries) ≡ based (take number parts) = ap back (cut number within) in
      inl (record {
        entry = entry;
        there = here;
        legal = subst IsLegal (sym is) legal;
        begins = λ some. subst (λ (J : Past). SameSheets sheets (sheets_of J)) (sym is) (same_in (take number parts) legal (same_head parts number some) (same some));
        keeps = ap editions is ∙ none_adopted (take number parts);
        breaks = subst (λ (J : Past). Breaks J entry rule) (sym is) breaks;
      })

  -- a part that doesn't fit
  pub misfits : (number : ℕ) → (number ≢ 0 → SameSheets sheets (head_sheets parts)) → IsMisfit parts number → AreIllegal sheets entries number 18
  misfits number same wrong =
      let within = slice_get_within parts number wrong.0 wrong.1 in
      first_at number 18 (entry_is.Base wrong.0) (omega (arith, within)) (ap (λ (es : List Entry). slice_get es number) both ∙ part_at parts rest number wrong.0 wrong.1) wrong.2 same
      (inl (refl, wrong.3))

  -- there are no more frames than parts, which are no whole base
  ends_all : (number : ℕ) → parts ≢ [] → number ≡ length parts → length frames ≤ number → IsPartial parts → SameSheets sheets (head_sheets parts) → EndsInBase sheets entries number 18
  ends_all number some is all half same =
      let long : length entries ≡ length frames = sym (length-map entries spelling) ∙ ap length spells.are in
      let none : entries ≡ parts_in parts =
      sym (take_all (length parts) entries (omega (arith, long, is, all))) ∙ cut (length parts) (omega arith) ∙ ap parts_in (take_all (length parts) parts (omega arith)) in
      record {
        number_is = is ∙ sym (length-map parts (λ (part : Part). entry_is.Base part)) ∙ sym (ap length none);
        rule_is = refl;
        some = λ empty. some_based parts some (ap back (sym none ∙ empty));
        legal = subst (λ (es : List Entry). IsLegal (back es)) (sym none) half.0;
        begins = subst (λ (es : List Entry). SameSheets sheets (sheets_of (back es))) (sym none) (same_in parts half.0 refl same);
        unfinished = λ begun. half.1 (subst (λ (es : List Entry). IsBegun (back es)) none begun);
      }

  -- parts end at this number, and no frame is there
  pub ended_at : (number : ℕ) → EndsAt frames parts number → length frames ≤ number → SameSheets sheets (head_sheets parts) → AreIllegal sheets entries number 18
  ended_at number ends all same = ⊎_elim (λ wrong. misfits number (λ some. same) wrong) (λ half. inr (ends_all number ends.some half.0 all half.1 same)) ends.wrong

  -- another entry behind parts that are no whole base
  behind_them : (number rule : ℕ) (entry : Entry) → number ≡ length parts → SpellsAt frames number entry → IsPartial parts → SameSheets sheets (head_sheets parts)
      → Breaks (based parts) entry rule → AreIllegal sheets entries number rule
  behind_them number rule entry is here half same breaks =
      let whole : take number parts ≡ parts = take_all number parts (omega (arith, is)) in
      first_at number rule entry (omega (arith, is)) (spelled_at frames entries number entry spells here) (subst (λ (ps : List Part). IsLegal (based ps)) (sym whole) half.0) (λ some. same)
      (subst (λ (ps : List Part). Breaks (based ps) entry rule) (sym whole) breaks)

  -- parts end at this number, where this entry is
  pub refused_at : (number rule : ℕ) (entry : Entry) → EndsAt frames parts number → SpellsAt frames number entry → SameSheets sheets (head_sheets parts) → (is_part entry ≡ true → rule ≡ 18)
      → ((past : Past) → is_part entry ≡ false → past ≢ [] → (IsBegun past → ⊥) → Breaks past entry rule) → AreIllegal sheets entries number rule
  refused_at number rule entry ends here same part other = ⊎_elim by_misfit by_half ends.wrong
    where
      by_misfit : IsMisfit parts number → AreIllegal sheets entries number rule
      by_misfit wrong =
          let there : slice_get entries number ≡ Some (entry_is.Base wrong.0) = ap (λ (es : List Entry). slice_get es number) both ∙ part_at parts rest number wrong.0 wrong.1 in
          let is : entry ≡ entry_is.Base wrong.0 = same_Some entry (entry_is.Base wrong.0) (sym (spelled_at frames entries number entry spells here) ∙ there) in
          subst (λ (k : ℕ). AreIllegal sheets entries number k) (sym (part (ap is_part is))) (misfits number (λ some. same) wrong)

      by_half : (number ≡ length parts) × IsPartial parts → AreIllegal sheets entries number rule
      by_half half =
          let no_part : is_part entry ≡ false = ends.leading.next entry (subst (λ (k : ℕ). SpellsAt frames k entry) half.0 here) in
          behind_them number rule entry half.0 here half.1 same (other (based parts) no_part (some_based parts ends.some) half.1.1)

  -- the first part doesn't fit
  pub wrong_first : EndsAt frames parts 0 → AreIllegal sheets entries 0 18
  wrong_first ends = ⊎_elim (λ wrong. misfits 0 (λ some. absurd (some refl)) wrong) (λ half. absurd (ends.some (no_items parts half.0))) ends.wrong
    where
      no_items : (parts : List Part) → 0 ≡ length parts → parts ≡ []
      no_items [] none = refl
      no_items (part ∷ parts) none = absurd (omega (arith, none))

-- legal parts have a legal head
head_stands : (part : Part) (parts : List Part) (number : ℕ) → number ≢ 0 → IsNoBase (part ∷ parts) (base_why_is.Part number) → IsLegal (entry_is.Base part ∷ [])
head_stands part parts zero some wrong = absurd (some refl)
head_stands part parts (suc number) some (inl wrong) = head_legal part (take number parts) wrong.2
head_stands part parts (suc number) some (inr half) = head_legal part parts half.1.0

-- the sheets of the head differ
pub others_first : (sheets : List Sheet) (frames : List (List ℕ)) (parts : List Part) (entries : List Entry) (kind : ℕ) → AreLeading frames parts → Spells frames entries → parts ≢ []
    → ((part : Part) (more : List Part) → parts ≡ part ∷ more → IsLegal (entry_is.Base part ∷ [])) → IsLowestDifference sheets (head_sheets parts) kind → HasOthers sheets entries kind
others_first sheets frames [] entries kind leading spells some legal differs = absurd (some refl)
others_first sheets frames (part ∷ parts) entries kind leading spells some legal differs = record {
  front = [];
  entry = entry_is.Base part;
  more = parts_in parts ++ rest sheets frames (part ∷ parts) entries leading spells;
  splits = both sheets frames (part ∷ parts) entries leading spells;
  legal = legal part parts refl;
  begins = λ some. absurd (some refl);
  keeps = refl;
  differs = differs;
}

-- parts end behind the head, whose sheets differ
pub others_at : (sheets : List Sheet) (frames : List (List ℕ)) (parts : List Part) (entries : List Entry) (number kind : ℕ) → EndsAt frames parts number → number ≢ 0 → Spells frames entries
    → IsLowestDifference sheets (head_sheets parts) kind → HasOthers sheets entries kind
others_at sheets frames parts entries number kind ends later spells differs =
    others_first sheets frames parts entries kind ends.leading spells ends.some
    (λ part more is. head_stands part more number later (subst (λ (ps : List Part). IsNoBase ps (base_why_is.Part number)) is ends.wrong)) differs

-- a whole base has other sheets
pub others_whole : (sheets : List Sheet) (frames : List (List ℕ)) (parts : List Part) (entries : List Entry) (kind : ℕ) → AreLeading frames parts → Spells frames entries → parts ≢ []
    → IsLegal (based parts) → IsLowestDifference sheets (head_sheets parts) kind → HasOthers sheets entries kind
others_whole sheets frames parts entries kind leading spells some legal differs =
    others_first sheets frames parts entries kind leading spells some (λ part more is. head_legal part more (subst (λ (ps : List Part). IsLegal (based ps)) is legal)) differs
