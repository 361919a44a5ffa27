-- A journal that has one entry: a start, or a base's head.
use Rattle.std.proofs.Common.{◌≡◌, ◌<◌, ◌^◌, List, [], ◌∷◌, refl, ap, arith}
use Rattle.std.specs.Prelude.{true}
use Rattle.hm_names.specs.Order.{nonce_cmp, table_cmp}
use Rattle.hm_names.specs.declared.pid.Pid.{Pid}
use Rattle.hm_data.specs.declared.entry.Entry.{Entry}
use Rattle.hm_data.specs.declared.entry.Entry.TheVariants as entry_is
use Rattle.hm_data.specs.declared.part.Part.{Part}
use Rattle.hm_data.specs.declared.part.Part.TheVariants as part_is
use Rattle.hm_data.specs.declared.sheet.Sheet.{Sheet}
use Rattle.hm_index.specs.Index.{find}
use Rattle.hm_locks.specs.Book.{Row, row_of}
use Rattle.hm_model.specs.Apart.{tree_of}
use Rattle.hm_model.specs.Base.{PartFits}
use Rattle.hm_model.specs.Editions.{editions}
use Rattle.hm_model.specs.Journal.{Past}
use Rattle.hm_model.specs.Rules.{IsLegal}
use Rattle.hm_model.specs.Undo.{is_empty, stack}
use Rattle.hm_catalog.specs.Rows.{rows_in}
use Rattle.hm_procedures.specs.Kept.{args_made}
use Rattle.hm_undo.specs.Stacks.{Stacks, steps_of}
use Rattle.hm_records.specs.Lists.{AreEditions, laid_in_base, root_nonces}
use Rattle.hm_records.specs.Records.{AreRecords, Beside, count_if}

module _ (P : Entry → Type 0) (starts : (sheets : List Sheet) → P (entry_is.Start sheets))
    (heads : (entries : _) (last : Pid) (parts : _) (sheets : List Sheet) → P (entry_is.Base (part_is.Head entries last parts sheets))) where
  first_part : (part : Part) → PartFits part [] → P (entry_is.Base part)
  first_part (part_is.Head entries last parts sheets) fits = heads entries last parts sheets
  first_part (part_is.Namespace ns) fits = absurd fits
  first_part part fits = absurd fits.0

  -- what is so of each start and each head is so of the entry
  pub by_first : (entry : Entry) → IsLegal (entry ∷ []) → P entry
  by_first (entry_is.Start sheets) legal = starts sheets
  by_first (entry_is.Base part) legal = first_part part legal.1.0
  by_first entry legal = absurd legal.1.0

-- it has the first edition alone
pub first_alone : (entry : Entry) → IsLegal (entry ∷ []) → editions (entry ∷ []) ≡ 0
first_alone = by_first (λ e. editions (e ∷ []) ≡ 0) (λ sheets. refl) (λ entries last parts sheets. refl)

pub few_first : (entry : Entry) (past : Past) → IsLegal (entry ∷ []) → past ≡ [] → editions (entry ∷ past) < 2 ^ 64
few_first entry past legal none = let alone = first_alone entry legal in rw none (omega (arith, alone))

-- it makes no procedures
pub makes_none : (entry : Entry) (past : Past) → IsLegal (entry ∷ []) → past ≡ [] → args_made past entry ≡ []
makes_none entry past legal none = rw none (by_first (λ e. args_made [] e ≡ []) (λ sheets. refl) (λ entries last parts sheets. refl) entry legal)

-- it leaves nothing to undo
pub leaves_none : (entry : Entry) (past : Past) → IsLegal (entry ∷ []) → past ≡ [] → true ≡ is_empty (stack (entry ∷ past) (tree_of past entry))
leaves_none entry past legal none =
    rw none (by_first (λ e. true ≡ is_empty (stack (e ∷ []) (tree_of [] e))) (λ sheets. refl) (λ entries last parts sheets. refl) entry legal)

-- what is kept after it
module _ (beside : Beside) (stacks : beside.stacks ≡ []) (places : beside.places ≡ []) (servers : beside.servers ≡ []) (nonces : beside.nonces ≡ []) (drawn_ids : beside.drawn_ids ≡ []) (book : beside.book ≡ []) where
  -- with the rows, the sheets and the layouts of the journal
  abbrev Begins : Entry → Type 0
  Begins entry =
      beside.rows ≡ rows_in (entry ∷ []) → AreEditions (entry ∷ []) beside.sheets → beside.layouts ≡ laid_in_base (entry ∷ []) → beside.root_nonces ≡ root_nonces (entry ∷ []) → AreRecords (entry ∷ []) beside

  starts : (sheets : List Sheet) → Begins (entry_is.Start sheets)
  starts sheets rows sheets_are layouts root_nonces_are = record {
    begun = λ e. cc;
    named = tt;
    rows_are = rows;
    stacks_tell = λ root on. ap (λ (l : Stacks). steps_of l root) stacks;
    stacks_forget = λ root over. ap (λ (l : Stacks). steps_of l root) stacks;
    places_are = places;
    servers_are = servers;
    nonces_are = λ nonce. ap (λ l. find nonce_cmp l nonce) nonces;
    drawn_are = λ table. ap (λ l. count_if (find table_cmp l table)) drawn_ids;
    sheets_are = sheets_are;
    layouts_are = layouts;
    root_nonces_are = root_nonces_are;
    book_is = λ p. ap (λ (l : List Row). row_of l p) book;
  }

  heads : (entries : _) (last : Pid) (parts : _) (sheets : List Sheet) → Begins (entry_is.Base (part_is.Head entries last parts sheets))
  heads entries last parts sheets rows sheets_are layouts root_nonces_are = record {
    begun = λ e. cc;
    named = tt;
    rows_are = rows;
    stacks_tell = λ root on. ap (λ (l : Stacks). steps_of l root) stacks;
    stacks_forget = λ root over. ap (λ (l : Stacks). steps_of l root) stacks;
    places_are = places;
    servers_are = servers;
    nonces_are = λ nonce. ap (λ l. find nonce_cmp l nonce) nonces;
    drawn_are = λ table. ap (λ l. count_if (find table_cmp l table)) drawn_ids;
    sheets_are = sheets_are;
    layouts_are = layouts;
    root_nonces_are = root_nonces_are;
    book_is = λ p. ap (λ (l : List Row). row_of l p) book;
  }

  pub begins : (entry : Entry) → IsLegal (entry ∷ []) → Begins entry
  begins = by_first Begins starts heads
