-- The journal stays legal and begun, and its entries are counted.
use Rattle.std.proofs.Common.{min, max, ◌≡◌, ℕ, ◌+◌, ◌-◌, ◌^◌, ◌≤◌, ◌<◌, List, [], ◌∷◌, length, false, refl, arith, ap, sym, subst, ◌∙◌}
use Rattle.std.proofs.lemmas.Bool.{true≢false}
use Rattle.hm_data.specs.declared.entry.Entry.{Entry}
use Rattle.hm_data.specs.declared.entry.Entry.TheVariants as entry_is
use Rattle.hm_data.specs.declared.sheet.Sheet.{Sheet}
use Rattle.hm_model.specs.Base.{AreSheets, IsBegun}
use Rattle.hm_model.specs.Image.{counted}
use Rattle.hm_model.specs.Journal.{Past}
use Rattle.hm_model.specs.Laws.{is_part}
use Rattle.hm_model.specs.Rules.{Allowed}
use Rattle.hm_procedures.specs.Kept.{args_made}
use Rattle.hm_records.specs.Parts.{edits_of, size_of}
use Rattle.hm_state.specs.State.{IsState}

-- a start alone
pub state_start : (sheets : List Sheet) (past : Past) → AreSheets sheets → past ≡ entry_is.Start sheets ∷ [] → IsState past 1
state_start sheets past are is = subst (λ (l : Past). IsState l 1) (sym is) (record {
  legal = (tt, ((refl, are), tt));
  begun = tt;
  count_is = refl;
  small = omega arith;
})

-- what an entry follows that is no part of a base has begun
begun_on : (entry : Entry) (past : Past) → is_part entry ≡ false → IsBegun (entry ∷ past)
begun_on (entry_is.Base part) past other = absurd (true≢false other)
begun_on entry past other = tt

-- and it counts
counted_on : (entry : Entry) (past : Past) → is_part entry ≡ false → counted (entry ∷ past) ≡ counted past + 1
counted_on (entry_is.Base part) past other = absurd (true≢false other)
counted_on entry past other = refl

-- an entry more
pub state_on : (entry : Entry) (past : Past) (count : ℕ) → Allowed past entry → is_part entry ≡ false → count + 1 < 2 ^ 63 → IsState past count → IsState (entry ∷ past) (count + 1)
state_on entry past count allowed other few was = record {
  legal = (was.legal, allowed);
  begun = begun_on entry past other;
  count_is = ap (λ n. n + 1) was.count_is ∙ sym (counted_on entry past other);
  small = few;
}

some : (x y b most : ℕ) → max (1 + x + y) b ≤ most → 1 ≤ most
some x y b most fits = omega (arith, fits)

few : (count spare : ℕ) → 1 ≤ min spare (2 ^ 63 - 1 - count) → count + 1 < 2 ^ 63
few count spare fits = omega (arith, fits)

-- where there is room for an entry it can be counted
pub one_more : (entry : Entry) (count spare : ℕ) → size_of entry ≤ min spare (2 ^ 63 - 1 - count) → count + 1 < 2 ^ 63
one_more entry count spare fits =
    few count spare (some (length (edits_of entry)) (length (args_made [] entry)) _ _ fits)
