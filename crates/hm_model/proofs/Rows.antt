-- The keys of a journal, and the rows that are read of its catalog.
use Rattle.hm_data.specs.declared.part.Part.{Part}
use Rattle.hm_data.specs.declared.part.Part.TheVariants as part_is
use Rattle.hm_model.specs.Parts.{part_key, part_row, table_row}
use Rattle.std.proofs.Common.{Bool, List, None, Option, Some, [], ap, bytes_eq, codes, false, if◌then◌else◌, inl, inr, refl, subst, sym, true, ◌||◌, ◌∙◌, ◌∷◌, ◌≡◌, ◌≢◌, ◌⊎◌}
use Rattle.std.proofs.lemmas.Bool.{cases_Bool, cond-false, cond-true, or_from}
use Rattle.std.proofs.lemmas.Option.{none-some}
use Rattle.std.specs.Ordering.{ordering_reverse}
use Rattle.std.specs.declared.cmp.Ordering.{Ordering}
use Rattle.std.specs.declared.cmp.Ordering.TheVariants.{Equal, Greater, Less}
use Rattle.hm_data.proofs.KeyOrder.{keys_total}
use Rattle.hm_data.specs.Keys.{key_cmp}
use Rattle.hm_data.specs.declared.args.Args.{Args}
use Rattle.hm_data.specs.declared.catalog.CatKey.{CatKey}
use Rattle.hm_data.specs.declared.catalog.CatRow.{CatRow}
use Rattle.hm_data.specs.declared.catalog.Edit.{Edit}
use Rattle.hm_model.proofs.KeyTests.{bytes_eq-is, cases_key, key_cmp-is, key_cmp-same, same_key-refl}
use Rattle.hm_model.proofs.Small.{none_from}
use Rattle.hm_model.specs.Catalog.{Catalog, at_start, cat, edited, keep, keys_of, row_at, rows_at, with_key, with_key_at, with_keys, part_keys}
use Rattle.hm_model.specs.Inputs.{rows_read}
use Rattle.hm_model.specs.Journal.{Past}
use Rattle.hm_model.specs.Keys.{same_key}
use Rattle.hm_model.specs.RowLaws.{AllBehind, AreInOrder}
use Rattle.hm_model.specs.Locks.{IsIn}
use Rattle.hm_model.specs.Reads.{reads}
use Rattle.hm_data.specs.declared.entry.Entry.TheVariants as entry_is
use Rattle.hm_data.specs.declared.catalog.CatKey.TheVariants as key_is
use Rattle.hm_data.specs.declared.catalog.CatRow.TheVariants as row_is

in_at : (q key first : CatKey) (more rest : List CatKey) → ((q ≡ key) ⊎ IsIn q more → IsIn q rest) → (o : Ordering) → key_cmp key first ≡ o → (q ≡ key) ⊎ IsIn q (first ∷ more) → IsIn q (with_key_at o key first more rest)
in_at q key first more rest on Less e h = h
in_at q key first more rest on Equal e h = elim h [ inl new ↦ inl (new ∙ key_cmp-is key first e) | inr old ↦ old ]
in_at q key first more rest on Greater e h = elim h [
  | inl new ↦ inr (on (inl new))
  | inr old ↦ elim old [ inl here ↦ inl here | inr later ↦ inr (on (inr later)) ]
]

pub in_with_key : (q key : CatKey) (keys : List CatKey) → (q ≡ key) ⊎ IsIn q keys → IsIn q (with_key key keys)
in_with_key q key [] h = h
in_with_key q key (first ∷ more) h = in_at q key first more (with_key key more) (in_with_key q key more) (key_cmp key first) refl h

pub in_with_keys : (q : CatKey) (edits : List Edit) (keys : List CatKey) → IsIn q keys → IsIn q (with_keys edits keys)
in_with_keys q [] keys h = h
in_with_keys q (edit ∷ edits) keys h = in_with_keys q edits (with_key edit.key keys) (in_with_key q edit.key keys (inr h))

-- a key that has a row after edits had one before, or is of an edit
edited_has : (q : CatKey) (edits : List Edit) (row : Option CatRow) (keys : List CatKey) → (row ≢ None → IsIn q keys) → edited edits q row ≢ None → IsIn q (with_keys edits keys)
edited_has q [] row keys has some = has some
edited_has q (edit ∷ edits) row keys has some = elim (cases_key q edit.key) [
  | inl same ↦ in_with_keys q edits (with_key edit.key keys) (in_with_key q edit.key keys (inl same.1))
  | inr differs ↦ edited_has q edits (if same_key q edit.key then edit.after else row) (with_key edit.key keys) (λ h. in_with_key q edit.key keys (inr (has (λ e. h (cond-false (same_key q edit.key) edit.after row differs.0 ∙ e))))) some
]

start_has : (q : CatKey) → at_start q ≢ None → IsIn q (keys_of [])
start_has (key_is.Ns ns) some = elim (cases_Bool (bytes_eq ns (codes "default"))) [
  | inl one ↦ inl (ap key_is.Ns (bytes_eq-is ns (codes "default") one))
  | inr first_differs ↦ elim (cases_Bool (bytes_eq ns (codes "hbase"))) [
    | inl two ↦ inr (inl (ap key_is.Ns (bytes_eq-is ns (codes "hbase") two)))
    | inr second_differs ↦ absurd (some (cond-false (bytes_eq ns (codes "default") || bytes_eq ns (codes "hbase")) (Some row_is.Ns) None (or_from (bytes_eq ns (codes "default")) (bytes_eq ns (codes "hbase")) first_differs second_differs)))
  ]
]
start_has key some = absurd (some refl)

one_has : (q key : CatKey) (new row : Option CatRow) (keys : List CatKey) → (row ≢ None → IsIn q keys) → (if same_key q key then new else row) ≢ None → IsIn q (with_key key keys)
one_has q key new row keys has some = elim (cases_key q key) [
  | inl same ↦ in_with_key q key keys (inl same.1)
  | inr differs ↦ in_with_key q key keys (inr (has (λ e. some (cond-false (same_key q key) new row differs.0 ∙ e))))
]

part_has : (part : Part) (q : CatKey) (row : Option CatRow) (keys : List CatKey) → (row ≢ None → IsIn q keys) → part_row part q row ≢ None → IsIn q (part_keys part keys)
part_has (part_is.Head entries last parts sheets) q row keys has some = absurd (some refl)
part_has (part_is.Namespace ns) q row keys has some = one_has q (key_is.Ns ns) (Some row_is.Ns) row keys has some
part_has (part_is.Table table own state) q row keys has some = one_has q (key_is.Table table) (table_row state) row keys has some
part_has (part_is.Region region range status parents place) q row keys has some = one_has q (key_is.Region region) (Some (row_is.Region range status parents)) row keys has some
part_has part q row keys has some = has some

-- a key with a row is listed
pub has_key : (J : Past) (q : CatKey) → cat J q ≢ None → IsIn q (keys_of J)
has_key [] q some = start_has q some
has_key (entry_is.Step pid pick out ∷ before) q some = edited_has q out.edits (cat before q) (keys_of before) (has_key before q) some
has_key (entry_is.Undo pid row out ∷ before) q some = edited_has q out.edits (cat before q) (keys_of before) (has_key before q) some
has_key (entry_is.Base part ∷ before) q some = part_has part q (cat before q) (keys_of before) (has_key before q) some
has_key (entry ∷ before) q some = has_key before q some

pub behind_further : (k key : CatKey) (keys : List CatKey) → key_cmp k key ≡ Less → AllBehind key keys → AllBehind k keys
behind_further k key [] less behind = tt
behind_further k key (first ∷ more) less behind = (keys_total.trans k key first less behind.0, behind_further k key more less behind.1)

behind_at : (o : Ordering) (k key first : CatKey) (more rest : List CatKey) → key_cmp k key ≡ Less → key_cmp k first ≡ Less → AllBehind k more → AllBehind k rest → AllBehind k (with_key_at o key first more rest)
behind_at Less k key first more rest less here behind on = (less, (here, behind))
behind_at Equal k key first more rest less here behind on = (here, behind)
behind_at Greater k key first more rest less here behind on = (here, on)

behind_with : (k key : CatKey) (keys : List CatKey) → key_cmp k key ≡ Less → AllBehind k keys → AllBehind k (with_key key keys)
behind_with k key [] less behind = (less, tt)
behind_with k key (first ∷ more) less behind =
    behind_at (key_cmp key first) k key first more (with_key key more) less behind.0 behind.1 (behind_with k key more less behind.1)

turned_back : (key first : CatKey) → key_cmp key first ≡ Greater → key_cmp first key ≡ Less
turned_back key first e = keys_total.antisymm first key ∙ ap ordering_reverse e

order_at : (o : Ordering) (key first : CatKey) (more : List CatKey) → key_cmp key first ≡ o → AllBehind first more → AreInOrder more → AreInOrder (with_key key more) → AreInOrder (with_key_at o key first more (with_key key more))
order_at Less key first more e behind order rest = ((e, behind_further key first more e behind), (behind, order))
order_at Equal key first more e behind order rest = (behind, order)
order_at Greater key first more e behind order rest = (behind_with first key more (turned_back key first e) behind, rest)

pub order_with : (key : CatKey) (keys : List CatKey) → AreInOrder keys → AreInOrder (with_key key keys)
order_with key [] order = (tt, tt)
order_with key (first ∷ more) order = order_at (key_cmp key first) key first more refl order.0 order.1 (order_with key more order.1)

pub order_with_keys : (edits : List Edit) (keys : List CatKey) → AreInOrder keys → AreInOrder (with_keys edits keys)
order_with_keys [] keys order = order
order_with_keys (edit ∷ edits) keys order = order_with_keys edits (with_key edit.key keys) (order_with edit.key keys order)

pub order_if : (o : Option CatKey) (keys : List CatKey) → AreInOrder keys → AreInOrder (elim o as (λ k. List CatKey) [ None ↦ keys | Some key ↦ with_key key keys ])
order_if None keys order = order
order_if (Some key) keys order = order_with key keys order

-- the keys are in order, each once
pub keys_in_order : (J : Past) → AreInOrder (keys_of J)
keys_in_order [] = ((refl, tt), (tt, tt))
keys_in_order (entry_is.Step pid pick out ∷ before) = order_with_keys out.edits (keys_of before) (keys_in_order before)
keys_in_order (entry_is.Undo pid row out ∷ before) = order_with_keys out.edits (keys_of before) (keys_in_order before)
keys_in_order (entry_is.Base part ∷ before) = order_if (part_key part) (keys_of before) (keys_in_order before)
keys_in_order (entry ∷ before) = keys_in_order before

keep_other : (asked : Bool) (key first : CatKey) (row : Option CatRow) (more : List (CatKey × CatRow)) → same_key key first ≡ false → row_at (keep asked first row more) key ≡ row_at more key
keep_other false key first row more differs = refl
keep_other true key first None more differs = refl
keep_other true key first (Some row) more differs = cond-false (same_key key first) (Some row) (row_at more key) differs

keep_same : (key first : CatKey) (row : Option CatRow) (more : List (CatKey × CatRow)) → same_key key first ≡ true → (row ≡ None → row_at more key ≡ None) → row_at (keep true first row more) key ≡ row
keep_same key first None more same none = none refl
keep_same key first (Some row) more same none = cond-true (same_key key first) (Some row) (row_at more key) same

-- what is read of a key that is asked for is what is there
pub row_at-rows : (asked : CatKey → Bool) (there : Catalog) (keys : List CatKey) (key : CatKey) → asked key ≡ true → (there key ≢ None → IsIn key keys) → row_at (rows_at asked there keys) key ≡ there key
row_at-rows asked there [] key on has = sym (none_from (there key) has)
row_at-rows asked there (first ∷ keys) key on has = elim (cases_key key first) [
  | inl same ↦
      let here : keep (asked first) first (there first) (rows_at asked there keys) ≡ keep true key (there key) (rows_at asked there keys) = ap (λ k. keep (asked k) k (there k) (rows_at asked there keys)) (sym same.1) ∙ ap (λ b. keep b key (there key) (rows_at asked there keys)) on in
      ap (λ l. row_at l key) here
      ∙ keep_same key key (there key) (rows_at asked there keys) (same_key-refl key) (λ none. row_at-rows asked there keys key on (λ some. absurd (some none)) ∙ none)
  | inr differs ↦
      keep_other (asked first) key first (there first) (rows_at asked there keys) differs.0
      ∙ row_at-rows asked there keys key on (λ some. elim (has some) [ inl e ↦ absurd (differs.1 e) | inr later ↦ later ])
]

-- a step reads of a key that it asks for what the catalog has
pub row_read : (J : Past) (args : Args) (key : CatKey) → reads args key ≡ true → row_at (rows_read J args) key ≡ cat J key
row_read J args key on = row_at-rows (reads args) (cat J) (keys_of J) key on (has_key J key)

pub behind_out : (key : CatKey) (keys : List CatKey) → AllBehind key keys → IsIn key keys → ⊥
behind_out key [] behind h = elim h [ ]
behind_out key (first ∷ more) behind h = elim h [
  | inl here ↦ let tied : key_cmp key first ≡ Equal = key_cmp-same key first here in cc (tied, behind.0)
  | inr later ↦ behind_out key more behind.1 later
]

-- each of the keys is left
abbrev AllLeft : (CatKey → Type 0) → List CatKey → Type 0
AllLeft Left [] = Unit {0}
AllLeft Left (key ∷ keys) = Left key × AllLeft Left keys

-- the keys that are left but one
abbrev But : (CatKey → Type 0) → CatKey → CatKey → Type 0
But Left key q = Left q × (q ≢ key)

-- two lists of rows in key order are the same where what is asked for is the same
module _ (asked : CatKey → Bool) (one other : Catalog) (agree : (q : CatKey) → asked q ≡ true → one q ≡ other q) where
  -- of the keys that are left, those that are asked for and have a row are listed
  abbrev Lists : Catalog → (CatKey → Type 0) → List CatKey → Type 0
  Lists there Left keys = (q : CatKey) → Left q → asked q ≡ true → there q ≢ None → IsIn q keys

  -- a key without a row adds none
  skip : (there : Catalog) (key : CatKey) (more : List (CatKey × CatRow)) → (asked key ≡ true → there key ≢ None → ⊥) → keep (asked key) key (there key) more ≡ more
  skip there key more none = by (asked key) refl (there key) refl
    where
      by : (b : Bool) → asked key ≡ b → (o : Option CatRow) → there key ≡ o → keep b key o more ≡ more
      by false e o e' = refl
      by true e None e' = refl
      by true e (Some row) e' = absurd (none e (λ h. none-some row (sym h ∙ e')))

  same_keep : (key : CatKey) (more : List (CatKey × CatRow)) → keep (asked key) key (one key) more ≡ keep (asked key) key (other key) more
  same_keep key more = by (asked key) refl
    where
      by : (b : Bool) → asked key ≡ b → keep b key (one key) more ≡ keep b key (other key) more
      by false e = refl
      by true e = ap (λ o. keep true key o more) (agree key e)

  behind_differs : (key q : CatKey) → key_cmp key q ≡ Less → q ≢ key
  behind_differs key q less same = let tied : key_cmp key q ≡ Equal = key_cmp-same key q (sym same) in cc (tied, less)

  left_behind : (Left : CatKey → Type 0) (key : CatKey) (keys : List CatKey) → AllBehind key keys → AllLeft Left keys → AllLeft (But Left key) keys
  left_behind Left key [] behind left = tt
  left_behind Left key (q ∷ keys) behind left = ((left.0, behind_differs key q behind.0), left_behind Left key keys behind.1 left.1)

  listed_behind : (there : Catalog) (Left : CatKey → Type 0) (key : CatKey) (keys : List CatKey) → Lists there Left (key ∷ keys) → Lists there (But Left key) keys
  listed_behind there Left key keys lists q left on some = elim (lists q left.0 on some) [ inl same ↦ absurd (left.1 same) | inr later ↦ later ]

  listed_still : (there : Catalog) (Left : CatKey → Type 0) (key : CatKey) (keys : List CatKey) → Lists there Left keys → Lists there (But Left key) keys
  listed_still there Left key keys lists q left on some = lists q left.0 on some

  none_left : (Left : CatKey → Type 0) (more : List CatKey) → AllLeft Left more → Lists one Left [] → rows_at asked other more ≡ []
  none_left Left [] left lists = refl
  none_left Left (key ∷ more) left lists =
      skip other key (rows_at asked other more) (λ on some. lists key left.0 on (λ e. some (sym (agree key on) ∙ e)))
      ∙ none_left Left more left.1 lists

  abbrev Again : List CatKey → Type 1
  Again keys = (more : List CatKey) (Left : CatKey → Type 0) → AreInOrder keys → AreInOrder more → AllLeft Left keys → AllLeft Left more → Lists one Left keys → Lists other Left more → rows_at asked one keys ≡ rows_at asked other more

  alike : (keys more : List CatKey) (Left : CatKey → Type 0) → AreInOrder keys → AreInOrder more → AllLeft Left keys → AllLeft Left more → Lists one Left keys → Lists other Left more → rows_at asked one keys ≡ rows_at asked other more
  alike [] more Left order order' left left' lists lists' = sym (none_left Left more left' lists)
  alike (key ∷ keys) more Left order order' left left' lists lists' = go (alike keys) more Left order' left.0 left.1 left' lists lists'
    where
      go : Again keys → (more : List CatKey) (Left : CatKey → Type 0) → AreInOrder more → Left key → AllLeft Left keys → AllLeft Left more → Lists one Left (key ∷ keys) → Lists other Left more → rows_at asked one (key ∷ keys) ≡ rows_at asked other more
      go again [] Left order' here left left' lists lists' =
          skip one key (rows_at asked one keys) (λ on some. lists' key here on (λ e. some (agree key on ∙ e)))
          ∙ again [] (But Left key) order.1 tt (left_behind Left key keys order.0 left) tt (listed_behind one Left key keys lists) (listed_still other Left key [] lists')
      go again (first ∷ more) Left order' here left left' lists lists' = by (go again more) (key_cmp key first) refl
        where
          by : ((Left : CatKey → Type 0) → AreInOrder more → Left key → AllLeft Left keys → AllLeft Left more → Lists one Left (key ∷ keys) → Lists other Left more → rows_at asked one (key ∷ keys) ≡ rows_at asked other more) → (o : Ordering) → key_cmp key first ≡ o → rows_at asked one (key ∷ keys) ≡ rows_at asked other (first ∷ more)
          by on Less e =
              skip one key (rows_at asked one keys) (λ asks some. behind_out key (first ∷ more) (e, behind_further key first more e order'.0) (lists' key here asks (λ h. some (agree key asks ∙ h))))
              ∙ again (first ∷ more) (But Left key) order.1 order' (left_behind Left key keys order.0 left) (left_behind Left key (first ∷ more) (e, behind_further key first more e order'.0) left') (listed_behind one Left key keys lists) (listed_still other Left key (first ∷ more) lists')
          by on Equal e =
              let same = key_cmp-is key first e in
              same_keep key (rows_at asked one keys)
              ∙ ap (keep (asked key) key (other key)) (again more (But Left key) order.1 order'.1 (left_behind Left key keys order.0 left) (left_behind Left key more (subst (λ k. AllBehind k more) (sym same) order'.0) left'.1) (listed_behind one Left key keys lists) (listed_behind other Left key more (subst (λ k. Lists other Left (k ∷ more)) (sym same) lists')))
              ∙ ap (λ k. keep (asked k) k (other k) (rows_at asked other more)) same
          by on Greater e =
              let less = turned_back key first e in
              on (But Left first) order'.1 (here, λ same. behind_differs first key less same) (left_behind Left first keys (behind_further first key keys less order.0) left) (left_behind Left first more order'.0 left'.1) (listed_still one Left first (key ∷ keys) lists) (listed_behind other Left first more lists')
              ∙ sym (skip other first (rows_at asked other more) (λ asks some. behind_out first (key ∷ keys) (less, behind_further first key keys less order.0) (lists first left'.0 asks (λ h. some (sym (agree first asks) ∙ h)))))

all_there : (keys : List CatKey) → AllLeft (λ q. Unit {0}) keys
all_there [] = tt
all_there (key ∷ keys) = (tt, all_there keys)

-- the rows read are the same where each row that is asked for is
pub read_alike : (J J' : Past) (args : Args) → ((key : CatKey) → reads args key ≡ true → cat J key ≡ cat J' key) → rows_read J args ≡ rows_read J' args
read_alike J J' args agree =
    alike (reads args) (cat J) (cat J') agree (keys_of J) (keys_of J') (λ q. Unit {0}) (keys_in_order J) (keys_in_order J') (all_there (keys_of J)) (all_there (keys_of J')) (λ q left on some. has_key J q some) (λ q left on some. has_key J' q some)
