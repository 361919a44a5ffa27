-- The sheets of each edition, and the layouts of the base, after an entry.
use Rattle.std.proofs.Common.{◌≡◌, ◌≢◌, ℕ, zero, suc, ◌+◌, ◌<◌, ◌≤◌, ◌==◌, List, [], ◌∷◌, ◌++◌, length, if◌then◌else◌, Some, None, slice_get, refl, ap, sym, subst, ◌∙◌, inl, inr, arith, length-append}
use Rattle.std.proofs.lemmas.Bool.{cases_eq, eq-eqb, ne_eqb}
use Rattle.std.proofs.lemmas.List.{map-append}
use Rattle.std.proofs.lemmas.Option.{none-some, same_Some}
use Rattle.hm_names.specs.declared.pid.Pid.{Pid}
use Rattle.hm_data.specs.declared.entry.Entry.{Entry}
use Rattle.hm_data.specs.declared.entry.Entry.TheVariants as entry_is
use Rattle.hm_data.specs.declared.part.Part.{Part}
use Rattle.hm_data.specs.declared.part.Part.TheVariants as part_is
use Rattle.hm_data.specs.declared.sheet.Sheet.{Sheet}
use Rattle.hm_model.specs.Base.{PartFits}
use Rattle.hm_model.specs.Editions.{editions, sheets_in}
use Rattle.hm_model.specs.Image.{old_layouts}
use Rattle.hm_model.specs.Journal.{Past}
use Rattle.hm_model.specs.Parts.{part_sheets}
use Rattle.hm_model.specs.Rules.{IsLegal}
use Rattle.hm_model.specs.Sheets.{sheets_of}
use Rattle.hm_model.specs.Tree.{pid_of}
use Rattle.hm_model.proofs.Editions.{last_in_force}
use Rattle.hm_model.proofs.Parted.{by_parts}
use Rattle.hm_records.specs.Lists.{AreEditions, laid_in_base, layout_told}
use Rattle.hm_records.specs.Parts.{AdoptsInvalid, adopted}
use Rattle.hm_records.proofs.Begins.{by_first, first_alone}

-- an item of a list with one more
at_low : {X : Type 0} (xs : List X) (x : X) (k : ℕ) → k < length xs → slice_get (xs ++ x ∷ []) k ≡ slice_get xs k
at_low [] x k lt = absurd (omega (arith, lt))
at_low (y ∷ xs) x zero lt = refl
at_low (y ∷ xs) x (suc k) lt = at_low xs x k (omega (arith, lt))

at_end : {X : Type 0} (xs : List X) (x : X) → slice_get (xs ++ x ∷ []) (length xs) ≡ Some x
at_end [] x = refl
at_end (y ∷ xs) x = at_end xs x

-- no sheets are adopted before a part of a base
none_before : (part : Part) (J : Past) → PartFits part J → editions J ≡ 0
none_before = by_parts (λ J. editions J ≡ 0) refl (λ own older. refl)

-- a part that follows leaves the sheets in force
in_force : (part : Part) (J : Past) → PartFits part J → J ≢ [] → part_sheets part (sheets_of J) ≡ sheets_of J
in_force (part_is.Head entries last parts sheets) J fits begun = absurd (begun fits.0)
in_force part J fits begun = refl

-- an entry that adopts none leaves the editions, and the sheets of each
leaves_count : (entry : Entry) (J : Past) → IsLegal (entry ∷ J) → adopted entry ≡ None → editions (entry ∷ J) ≡ editions J
leaves_count (entry_is.Adopt sheets) J legal none = absurd (none-some sheets (sym none))
leaves_count (entry_is.Base part) J legal none = sym (none_before part J legal.1.0)
leaves_count entry J legal none = refl

leaves_each : (entry : Entry) (J : Past) → IsLegal (entry ∷ J) → J ≢ [] → adopted entry ≡ None → (edition : ℕ) → edition ≤ editions J → sheets_in (entry ∷ J) edition ≡ sheets_in J edition
leaves_each (entry_is.Start sheets) J legal begun none edition le = absurd (begun legal.1.0.0)
leaves_each (entry_is.Adopt sheets) J legal begun none edition le = absurd (none-some sheets (sym none))
leaves_each (entry_is.Base part) J legal begun none edition le =
    let alone = none_before part J legal.1.0 in
    let last : editions J ≡ edition = omega (arith, alone, le) in
    in_force part J legal.1.0 begun ∙ sym (last_in_force J) ∙ ap (sheets_in J) last
leaves_each entry J legal begun none edition le = refl

pub editions_leave : (entry : Entry) (J : Past) → IsLegal (entry ∷ J) → J ≢ [] → adopted entry ≡ None → (sheets : List (List Sheet)) → AreEditions J sheets → AreEditions (entry ∷ J) sheets
editions_leave entry J legal begun none sheets was =
    let same = leaves_count entry J legal none in
    record {
      count = was.count ∙ ap (λ n. n + 1) (sym same);
      each = λ edition le. (let low : edition ≤ editions J = omega (arith, le, same) in was.each edition low ∙ ap (λ (l : List Sheet). Some l) (sym (leaves_each entry J legal begun none edition low)));
    }

-- an entry that adopts sheets adds an edition
module _ (J : Past) (own : List Sheet) (sheets : List (List Sheet)) (was : AreEditions J sheets) where
  each_more : (edition : ℕ) → edition ≤ editions J + 1 → slice_get (sheets ++ own ∷ []) edition ≡ Some (if edition == editions J + 1 then own else sheets_in J edition)
  each_more edition le = elim (cases_eq edition (editions J + 1)) [
    | inl same ↦
        ap (slice_get (sheets ++ own ∷ [])) (same ∙ sym was.count) ∙ at_end sheets own
        ∙ ap (λ b. Some (if b then own else sheets_in J edition)) (sym (eq-eqb edition (editions J + 1) same))
    | inr other ↦
        (let count = was.count in
        let lt : edition < length sheets = omega (arith, le, other, count) in
        at_low sheets own edition lt ∙ was.each edition (omega (arith, le, other))
        ∙ ap (λ b. Some (if b then own else sheets_in J edition)) (sym (ne_eqb edition (editions J + 1) other)))
  ]

  adopts : AreEditions (entry_is.Adopt own ∷ J) (sheets ++ own ∷ [])
  adopts = record {
    count = (let long = length-append sheets (own ∷ []) in let count = was.count in omega (arith, long, count));
    each = each_more;
  }

adopt_is : (entry : Entry) (own : List Sheet) → adopted entry ≡ Some own → entry ≡ entry_is.Adopt own
adopt_is (entry_is.Adopt sheets) own is = ap (λ (l : List Sheet). entry_is.Adopt l) (same_Some sheets own is)
adopt_is entry own is = absurd (none-some own is)

pub editions_more : (entry : Entry) (J : Past) (own : List Sheet) → adopted entry ≡ Some own → (sheets new : List (List Sheet)) → AreEditions J sheets → new ≡ sheets ++ own ∷ [] → AreEditions (entry ∷ J) new
editions_more entry J own is sheets new was new_is =
    subst (AreEditions (entry ∷ J)) (sym new_is) (subst (λ (e : Entry). AreEditions (e ∷ J) (sheets ++ own ∷ [])) (sym (adopt_is entry own is)) (adopts J own sheets was))

-- the sheets of a journal that has one entry are its first edition
pub first_edition : (entry : Entry) → IsLegal (entry ∷ []) → (own : List Sheet) → own ≡ sheets_of (entry ∷ []) → AreEditions (entry ∷ []) (own ∷ [])
first_edition entry legal own is =
    let alone = first_alone entry legal in
    record {
      count = omega (arith, alone);
      each = λ edition le.
          (let zero_is : edition ≡ 0 = omega (arith, le, alone) in
          ap (slice_get (own ∷ [])) zero_is ∙ ap (λ (l : List Sheet). Some l) (is ∙ sym (last_in_force (entry ∷ [])) ∙ ap (sheets_in (entry ∷ [])) (alone ∙ sym zero_is)));
    }

-- the layouts of the base
part_leaves : (part : Part) (J : Past) → layout_told (entry_is.Base part) ≡ None → laid_in_base (entry_is.Base part ∷ J) ≡ laid_in_base J
part_leaves (part_is.Layout pid) J none = absurd (none-some pid (sym none))
part_leaves part J none = refl

pub layouts_leave : (entry : Entry) (J : Past) → layout_told entry ≡ None → laid_in_base (entry ∷ J) ≡ laid_in_base J
layouts_leave (entry_is.Base part) J none = part_leaves part J none
layouts_leave entry J none = refl

part_more : (part : Part) (J : Past) (pid : Pid) → layout_told (entry_is.Base part) ≡ Some pid → laid_in_base (entry_is.Base part ∷ J) ≡ laid_in_base J ++ pid ∷ []
part_more (part_is.Layout own) J pid is = map-append pid_of (old_layouts J) (own.0 ∷ []) ∙ ap (λ (p : Pid). laid_in_base J ++ p ∷ []) (same_Some own pid is)
part_more part J pid is = absurd (none-some pid is)

pub layouts_more : (entry : Entry) (J : Past) (pid : Pid) → layout_told entry ≡ Some pid → laid_in_base (entry ∷ J) ≡ laid_in_base J ++ pid ∷ []
layouts_more (entry_is.Base part) J pid is = part_more part J pid is
layouts_more entry J pid is = absurd (none-some pid is)

-- the base's head has none
pub no_layouts : (entry : Entry) → IsLegal (entry ∷ []) → laid_in_base (entry ∷ []) ≡ []
no_layouts = by_first (λ e. laid_in_base (e ∷ []) ≡ []) (λ sheets. refl) (λ entries last parts sheets. refl)

-- an entry that may follow adopts valid sheets
pub adopts_valid : (entry : Entry) (J : Past) → IsLegal (entry ∷ J) → AdoptsInvalid entry → ⊥
adopts_valid (entry_is.Adopt sheets) J legal invalid = invalid legal.1.1.0.0.1
adopts_valid entry J legal invalid = invalid

-- the sheets of the last edition are those in force
pub last_sheets : (J : Past) (sheets : List (List Sheet)) → AreEditions J sheets → (edition : ℕ) → edition + 1 ≡ length sheets → (own : List Sheet) → slice_get sheets edition ≡ Some own → own ≡ sheets_of J
last_sheets J sheets are edition is own at =
    let count = are.count in
    let last : edition ≡ editions J = omega (arith, is, count) in
    same_Some own (sheets_of J) (sym at ∙ ap (slice_get sheets) last ∙ are.each (editions J) (omega arith) ∙ ap (λ (l : List Sheet). Some l) (last_in_force J))
