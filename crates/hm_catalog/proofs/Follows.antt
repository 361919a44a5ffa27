-- The rows of a journal's catalog, and those of a longer journal.
use Rattle.std.proofs.Common.{◌≡◌, ◌≢◌, ℕ, List, [], ◌∷◌, Bool, true, if◌then◌else◌, Option, Some, None, inl, inr, refl, ap, sym, ◌∙◌, subst}
use Rattle.std.proofs.Math.Path.{fun_ext}
use Rattle.std.proofs.lemmas.Bool.{cond-true, cond-false}
use Rattle.std.specs.Ordering.{ordering_reverse}
use Rattle.std.specs.declared.cmp.Ordering.{Ordering}
use Rattle.std.specs.declared.cmp.Ordering.TheVariants.{Less, Equal, Greater}
use Rattle.hm_data.proofs.KeyOrder.{keys_total}
use Rattle.hm_data.specs.Keys.{key_cmp}
use Rattle.hm_data.specs.declared.catalog.CatKey.{CatKey}
use Rattle.hm_data.specs.declared.catalog.CatRow.{CatRow}
use Rattle.hm_data.specs.declared.catalog.Edit.{Edit}
use Rattle.hm_data.specs.declared.request.Request.{Request}
use Rattle.hm_data.specs.declared.request.Request.TheVariants as request_is
use Rattle.hm_data.specs.declared.catalog.CatKey.TheVariants as key_is
use Rattle.hm_data.specs.declared.catalog.CatRow.TheVariants as row_is
use Rattle.hm_data.specs.declared.entry.Entry.TheVariants as entry_is
use Rattle.hm_data.specs.declared.part.Part.{Part}
use Rattle.hm_data.specs.declared.part.Part.TheVariants as part_is
use Rattle.hm_model.specs.Catalog.{Catalog, cat, edited, keep, keys_of, rows_at, set_to, with_key, with_key_at, with_keys}
use Rattle.hm_model.specs.Changes.{remove_regions}
use Rattle.hm_model.specs.Checks.{namespace_empty, table_disabled}
use Rattle.hm_model.specs.Deeds.{deed, unless}
use Rattle.hm_model.specs.Journal.{Past}
use Rattle.hm_model.specs.Keys.{same_key}
use Rattle.hm_model.specs.RowLaws.{AllBehind, AreInOrder}
use Rattle.hm_model.specs.Reads.{is_ns_or_table_in, is_region_in}
use Rattle.hm_model.specs.NamespaceActs.{has_table}
use Rattle.hm_model.specs.Parts.{table_row}
use Rattle.hm_model.specs.RowsSaid.{Rows, all_among}
use Rattle.hm_model.proofs.KeyTests.{cases_key, key_cmp-is, key_cmp-same, same_key-refl}
use Rattle.hm_model.proofs.Rows.{has_key, keys_in_order, row_at-rows}
use Rattle.hm_catalog.specs.Laws.{DeedsTell, EntriesLead, RowsAreAsked, RowsTell, StepsLead, UndosLead}
use Rattle.hm_catalog.specs.Rows.{keys_in, rows_in, with_edits, with_part, with_row}
use Rattle.hm_catalog.proofs.Asked.{Has, asked_of_keys, asked_of_rows}
use Rattle.hm_catalog.proofs.Order.{after_first, behind_keep, behind_further, over_first, with_behind}

abbrev every : CatKey → Bool
every key = true

-- keys in order, with one more
turned : (key first : CatKey) → key_cmp key first ≡ Greater → key_cmp first key ≡ Less
turned key first e = keys_total.antisymm first key ∙ ap ordering_reverse e

behind_at : (o : Ordering) (k key first : CatKey) (more rest : List CatKey) → key_cmp k key ≡ Less → key_cmp k first ≡ Less → AllBehind k more → AllBehind k rest → AllBehind k (with_key_at o key first more rest)
behind_at Less k key first more rest less here behind on = (less, (here, behind))
behind_at Equal k key first more rest less here behind on = (here, behind)
behind_at Greater k key first more rest less here behind on = (here, on)

behind_with : (k key : CatKey) (keys : List CatKey) → key_cmp k key ≡ Less → AllBehind k keys → AllBehind k (with_key key keys)
behind_with k key [] less behind = (less, tt)
behind_with k key (first ∷ more) less behind =
    behind_at (key_cmp key first) k key first more (with_key key more) less behind.0 behind.1 (behind_with k key more less behind.1)

order_at : (o : Ordering) (key first : CatKey) (more : List CatKey) → key_cmp key first ≡ o → AllBehind first more → AreInOrder more → AreInOrder (with_key key more) → AreInOrder (with_key_at o key first more (with_key key more))
order_at Less key first more e behind order rest = ((e, behind_further key first more e behind), (behind, order))
order_at Equal key first more e behind order rest = (behind, order)
order_at Greater key first more e behind order rest = (behind_with first key more (turned key first e) behind, rest)

order_with : (key : CatKey) (keys : List CatKey) → AreInOrder keys → AreInOrder (with_key key keys)
order_with key [] order = (tt, tt)
order_with key (first ∷ more) order = order_at (key_cmp key first) key first more refl order.0 order.1 (order_with key more order.1)

-- rows of keys after one
behind_rows : (there : Catalog) (k : CatKey) (keys : List CatKey) → AllBehind k keys → AllBehind k (keys_in (rows_at every there keys))
behind_rows there k [] behind = tt
behind_rows there k (first ∷ more) behind = behind_keep k first (there first) (rows_at every there more) behind.0 (behind_rows there k more behind.1)

abbrev changed_at : Catalog → CatKey → Option CatRow → Catalog
changed_at there key after = λ q. if same_key q key then after else there q

other_at : (there : Catalog) (key first : CatKey) (after : Option CatRow) → first ≢ key → changed_at there key after first ≡ there first
other_at there key first after apart = elim (cases_key first key) [
  | inl same ↦ absurd (apart same.1)
  | inr differs ↦ cond-false (same_key first key) after (there first) differs.0
]

less_apart : (key first : CatKey) → key_cmp key first ≡ Less → first ≢ key
less_apart key first less same = let tied = key_cmp-same key first (sym same) in cc

same_behind : (there : Catalog) (key : CatKey) (after : Option CatRow) (keys : List CatKey) → AllBehind key keys → rows_at every (changed_at there key after) keys ≡ rows_at every there keys
same_behind there key after [] behind = refl
same_behind there key after (first ∷ more) behind =
    ap (λ o. keep true first o (rows_at every (changed_at there key after) more)) (other_at there key first after (less_apart key first behind.0))
    ∙ ap (keep true first (there first)) (same_behind there key after more behind.1)

here_at : (there : Catalog) (key : CatKey) (after : Option CatRow) → changed_at there key after key ≡ after
here_at there key after = cond-true (same_key key key) after (there key) (same_key-refl key)

-- a row that is set among those of a catalog
row_leads : (there : Catalog) (key : CatKey) (after : Option CatRow) (keys : List CatKey) → AreInOrder keys → with_row key after (rows_at every there keys) ≡ rows_at every (changed_at there key after) (with_key key keys)
row_leads there key after [] order = ap (λ o. keep true key o []) (sym (here_at there key after))
row_leads there key after (first ∷ more) order = by (row_leads there key after more order.1) (key_cmp key first) refl
  where
    by : with_row key after (rows_at every there more) ≡ rows_at every (changed_at there key after) (with_key key more) → (o : Ordering) → key_cmp key first ≡ o
        → with_row key after (rows_at every there (first ∷ more)) ≡ rows_at every (changed_at there key after) (with_key_at o key first more (with_key key more))
    by rest Less e =
        let behind : AllBehind key (first ∷ more) = (e, behind_further key first more e order.0) in
        with_behind key after (rows_at every there (first ∷ more)) (behind_rows there key (first ∷ more) behind)
        ∙ ap (keep true key after) (sym (same_behind there key after (first ∷ more) behind))
        ∙ ap (λ o. keep true key o (rows_at every (changed_at there key after) (first ∷ more))) (sym (here_at there key after))
    by rest Equal e =
        let same : key ≡ first = key_cmp-is key first e in
        let behind : AllBehind key more = subst (λ k. AllBehind k more) (sym same) order.0 in
        over_first first key (there first) after (rows_at every there more) e (behind_rows there key more behind)
        ∙ ap (keep true key after) (sym (same_behind there key after more behind))
        ∙ ap (λ o. keep true key o (rows_at every (changed_at there key after) more)) (sym (here_at there key after))
        ∙ ap (λ k. keep true k (changed_at there key after k) (rows_at every (changed_at there key after) more)) same
    by rest Greater e =
        after_first first key (there first) after (rows_at every there more) e
        ∙ ap (keep true first (there first)) rest
        ∙ ap (λ o. keep true first o (rows_at every (changed_at there key after) (with_key key more))) (sym (other_at there key first after (λ same. less_apart first key (turned key first e) (sym same))))

edits_lead : (edits : List Edit) (there : Catalog) (keys : List CatKey) → AreInOrder keys → with_edits edits (rows_at every there keys) ≡ rows_at every (λ key. edited edits key (there key)) (with_keys edits keys)
edits_lead [] there keys order = refl
edits_lead (edit ∷ edits) there keys order =
    ap (with_edits edits) (row_leads there edit.key edit.after keys order)
    ∙ edits_lead edits (changed_at there edit.key edit.after) (with_key edit.key keys) (order_with edit.key keys order)

pub steps_lead : StepsLead
steps_lead before pid pick out = edits_lead out.edits (cat before) (keys_of before) (keys_in_order before)

pub undos_lead : UndosLead
undos_lead before pid row out = edits_lead out.edits (cat before) (keys_of before) (keys_in_order before)

-- and a part of a base
none_there : (keys : List CatKey) → rows_at every (λ key. None) keys ≡ []
none_there [] = refl
none_there (key ∷ keys) = none_there keys

parts_lead : (part : Part) (before : Past) → with_part part (rows_in before) ≡ rows_in (entry_is.Base part ∷ before)
parts_lead (part_is.Head entries last parts sheets) before = sym (none_there (keys_of before))
parts_lead (part_is.Namespace ns) before = row_leads (cat before) (key_is.Ns ns) (Some row_is.Ns) (keys_of before) (keys_in_order before)
parts_lead (part_is.Table table drawn own) before = row_leads (cat before) (key_is.Table table) (table_row own) (keys_of before) (keys_in_order before)
parts_lead (part_is.Region region range status parents place) before =
    row_leads (cat before) (key_is.Region region) (Some (row_is.Region range status parents)) (keys_of before) (keys_in_order before)
parts_lead part before = refl

pub entries_lead : EntriesLead
entries_lead (entry_is.Step pid pick out) before = steps_lead before pid pick out
entries_lead (entry_is.Undo pid row out) before = undos_lead before pid row out
entries_lead (entry_is.Base part) before = parts_lead part before
entries_lead entry before = refl

pub rows_tell : RowsTell
rows_tell J = fun_ext (λ key. row_at-rows every (cat J) (keys_of J) key refl (has_key J key))

pub rows_are_asked : RowsAreAsked
rows_are_asked J asked = asked_of_keys asked (cat J) (keys_of J)

has_kept : (there : Catalog) (key : CatKey) (rows : Rows) (o : Option CatRow) → there key ≡ o → Has there rows → Has there (keep true key o rows)
has_kept there key rows None e has = has
has_kept there key rows (Some row) e has = (e, has)

has_rows : (there : Catalog) (keys : List CatKey) → Has there (rows_at every there keys)
has_rows there [] = tt
has_rows there (key ∷ keys) = has_kept there key (rows_at every there keys) (there key) refl (has_rows there keys)

asked_alike : (J : Past) (asked : CatKey → Bool) → rows_at asked (cat J) (keys_in (rows_in J)) ≡ rows_at asked (cat J) (keys_of J)
asked_alike J asked = asked_of_rows asked (cat J) (rows_in J) (has_rows (cat J) (keys_of J)) ∙ sym (rows_are_asked J asked)

-- the keys among rows serve a deed as those of the journal do
keys_serve : (J : Past) (request : Request) (first : ℕ) → deed request first (keys_in (rows_in J)) (cat J) ≡ deed request first (keys_of J) (cat J)
keys_serve J (request_is.CreateNamespace ns) first = refl
keys_serve J (request_is.DropNamespace ns) first =
    ap (λ l. unless (namespace_empty (cat J (key_is.Ns ns)) (has_table ns l)) (set_to (cat J) (key_is.Ns ns) None ∷ [])) (asked_alike J (is_ns_or_table_in ns))
keys_serve J (request_is.CreateTable table split) first = refl
keys_serve J (request_is.DeleteTable table) first =
    ap (λ l. unless (table_disabled (cat J (key_is.Table table))) (set_to (cat J) (key_is.Table table) None ∷ remove_regions (cat J) (all_among table l))) (asked_alike J (is_region_in table (λ id. true)))
keys_serve J (request_is.EnableTable table) first = refl
keys_serve J (request_is.DisableTable table) first = refl
keys_serve J (request_is.ModifyTable table version) first = refl
keys_serve J (request_is.SplitRegion region key) first = refl
keys_serve J (request_is.MergeRegions regions) first = refl
keys_serve J (request_is.Move region to) first = refl

pub deeds_tell : DeedsTell
deeds_tell J request first = ap (deed request first (keys_in (rows_in J))) (rows_tell J) ∙ keys_serve J request first
