-- The keys of an image: in order, with each that has a row, and with each table that ids were drawn for.
use Rattle.std.proofs.Common.{◌≡◌, ◌≢◌, ℕ, List, [], ◌∷◌, Option, Some, None, refl, ap, sym, ◌∙◌, inl, inr, ◌⊎◌, arith}
use Rattle.std.specs.declared.cmp.Ordering.{Ordering}
use Rattle.std.specs.declared.cmp.Ordering.TheVariants.{Equal, Greater, Less}
use Rattle.std.proofs.lemmas.Bool.{cases_Bool, cases_eq, cond-false}
use Rattle.hm_names.specs.declared.table.TableName.{TableName}
use Rattle.hm_data.specs.Keys.{key_cmp}
use Rattle.hm_data.specs.declared.catalog.CatKey.{CatKey}
use Rattle.hm_data.specs.declared.catalog.CatKey.TheVariants as key_is
use Rattle.hm_data.specs.declared.catalog.Edit.{Edit}
use Rattle.hm_data.specs.declared.entry.Entry.TheVariants as entry_is
use Rattle.hm_data.specs.declared.part.Part.{Part}
use Rattle.hm_data.specs.declared.part.Part.TheVariants as part_is
use Rattle.hm_model.specs.Catalog.{cat, keys_of, part_keys, with_key, with_key_at, with_keys}
use Rattle.hm_model.specs.Image.{named_keys, with_table}
use Rattle.hm_model.specs.Journal.{Past}
use Rattle.hm_model.specs.Keys.{same_table}
use Rattle.hm_model.specs.Kinds.{table_of_request}
use Rattle.hm_model.specs.Locks.{IsIn}
use Rattle.hm_model.specs.Parts.{part_drawn, part_key}
use Rattle.hm_model.specs.RowLaws.{AreInOrder}
use Rattle.hm_model.specs.Tree.{drawn, ids_for, new_ids}
use Rattle.hm_model.proofs.KeyTests.{same_table-is}
use Rattle.hm_model.proofs.Rows.{has_key, in_with_key, in_with_keys, order_if, order_with, order_with_keys}

order_table : (o : Option TableName) (keys : List CatKey) → AreInOrder keys → AreInOrder (with_table o keys)
order_table None keys order = order
order_table (Some table) keys order = order_with (key_is.Table table) keys order

pub named_order : (J : Past) → AreInOrder (named_keys J)
named_order [] = ((refl, tt), (tt, tt))
named_order (entry_is.Submit nonce request ∷ J) = order_table (table_of_request request) (named_keys J) (named_order J)
named_order (entry_is.Step pid pick out ∷ J) = order_with_keys out.edits (named_keys J) (named_order J)
named_order (entry_is.Undo pid row out ∷ J) = order_with_keys out.edits (named_keys J) (named_order J)
named_order (entry_is.Base part ∷ J) = order_if (part_key part) (named_keys J) (named_order J)
named_order (entry ∷ J) = named_order J

-- what is in a list with one key more
from_at : (q key first : CatKey) (more rest : List CatKey) → (IsIn q rest → (q ≡ key) ⊎ IsIn q more) → (o : Ordering) → IsIn q (with_key_at o key first more rest) → (q ≡ key) ⊎ IsIn q (first ∷ more)
from_at q key first more rest on Less h = h
from_at q key first more rest on Equal h = inr h
from_at q key first more rest on Greater (inl here) = inr (inl here)
from_at q key first more rest on Greater (inr later) = elim (on later) [ inl new ↦ inl new | inr old ↦ inr (inr old) ]

from_with : (q key : CatKey) (keys : List CatKey) → IsIn q (with_key key keys) → (q ≡ key) ⊎ IsIn q keys
from_with q key [] h = h
from_with q key (first ∷ more) h = from_at q key first more (with_key key more) (from_with q key more) (key_cmp key first) h

abbrev Within : List CatKey → List CatKey → Type 0
Within xs ys = (q : CatKey) → IsIn q xs → IsIn q ys

with_both : (key : CatKey) (xs ys : List CatKey) → Within xs ys → Within (with_key key xs) (with_key key ys)
with_both key xs ys up q h = elim (from_with q key xs h) [ inl new ↦ in_with_key q key ys (inl new) | inr old ↦ in_with_key q key ys (inr (up q old)) ]

with_all : (edits : List Edit) (xs ys : List CatKey) → Within xs ys → Within (with_keys edits xs) (with_keys edits ys)
with_all [] xs ys up = up
with_all (edit ∷ edits) xs ys up = with_all edits (with_key edit.key xs) (with_key edit.key ys) (with_both edit.key xs ys up)

with_if : (o : Option CatKey) (xs ys : List CatKey) → Within xs ys → Within (elim o as (λ k. List CatKey) [ None ↦ xs | Some key ↦ with_key key xs ]) (elim o as (λ k. List CatKey) [ None ↦ ys | Some key ↦ with_key key ys ])
with_if None xs ys up = up
with_if (Some key) xs ys up = with_both key xs ys up

table_more : (o : Option TableName) (keys : List CatKey) → Within keys (with_table o keys)
table_more None keys q h = h
table_more (Some table) keys q h = in_with_key q (key_is.Table table) keys (inr h)

named_all : (J : Past) → Within (keys_of J) (named_keys J)
named_all [] = λ q h. h
named_all (entry_is.Submit nonce request ∷ J) = λ q h. table_more (table_of_request request) (named_keys J) q (named_all J q h)
named_all (entry_is.Step pid pick out ∷ J) = with_all out.edits (keys_of J) (named_keys J) (named_all J)
named_all (entry_is.Undo pid row out ∷ J) = with_all out.edits (keys_of J) (named_keys J) (named_all J)
named_all (entry_is.Base part ∷ J) = with_if (part_key part) (keys_of J) (named_keys J) (named_all J)
named_all (entry ∷ J) = named_all J

-- a key with a row is among them
pub named_row : (J : Past) (key : CatKey) → cat J key ≢ None → IsIn key (named_keys J)
named_row J key some = named_all J key (has_key J key some)

-- and so is a table with a drawn id
drawn_for : (o : Option TableName) (count : ℕ) (t : TableName) (keys : List CatKey) → ids_for o count t ≢ 0 → IsIn (key_is.Table t) (with_table o keys)
drawn_for None count t keys some = absurd (some refl)
drawn_for (Some own) count t keys some = elim (cases_Bool (same_table own t)) [
  | inl same ↦ in_with_key (key_is.Table t) (key_is.Table own) keys (inl (ap key_is.Table (sym (same_table-is own t same))))
  | inr differs ↦ absurd (some (cond-false (same_table own t) count 0 differs))
]

drawn_part : (part : Part) (t : TableName) (n : ℕ) (keys : List CatKey) → (n ≢ 0 → IsIn (key_is.Table t) keys) → part_drawn part t n ≢ 0 → IsIn (key_is.Table t) (part_keys part keys)
drawn_part (part_is.Namespace ns) t n keys has some = in_with_key (key_is.Table t) (key_is.Ns ns) keys (inr (has some))
drawn_part (part_is.Table own ids row) t n keys has some = elim (cases_Bool (same_table own t)) [
  | inl same ↦ in_with_key (key_is.Table t) (key_is.Table own) keys (inl (ap key_is.Table (sym (same_table-is own t same))))
  | inr differs ↦ in_with_key (key_is.Table t) (key_is.Table own) keys (inr (has (λ e. some (cond-false (same_table own t) ids n differs ∙ e))))
]
drawn_part (part_is.Region region range status parents place) t n keys has some = in_with_key (key_is.Table t) (key_is.Region region) keys (inr (has some))
drawn_part part t n keys has some = has some

pub named_drawn : (J : Past) (t : TableName) → drawn J t ≢ 0 → IsIn (key_is.Table t) (named_keys J)
named_drawn [] t some = absurd (some refl)
named_drawn (entry_is.Submit nonce request ∷ J) t some = elim (cases_eq (drawn J t) 0) [
  | inr old ↦ table_more (table_of_request request) (named_keys J) (key_is.Table t) (named_drawn J t old)
  | inl none ↦ drawn_for (table_of_request request) (new_ids request) t (named_keys J) (λ e. some (omega (arith, e, none)))
]
named_drawn (entry_is.Step pid pick out ∷ J) t some = in_with_keys (key_is.Table t) out.edits (named_keys J) (named_drawn J t some)
named_drawn (entry_is.Undo pid row out ∷ J) t some = in_with_keys (key_is.Table t) out.edits (named_keys J) (named_drawn J t some)
named_drawn (entry_is.Base part ∷ J) t some = drawn_part part t (drawn J t) (named_keys J) (named_drawn J t) some
named_drawn (entry ∷ J) t some = named_drawn J t some
