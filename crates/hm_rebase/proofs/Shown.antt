-- Journals that read alike have one image.
use Rattle.std.proofs.Common.{◌≡◌, ℕ, ◌≤◌, ◌^◌, max, List, [], ◌∷◌, ◌++◌, length, map, not, ◌↔◌, Bool, true, false, cond, Option, Some, None, refl, ap, sym, ◌∙◌, subst, arith}
use Rattle.std.specs.Cmp.{nat_cmp_is}
use Rattle.std.specs.List.{filter, flat_map}
use Rattle.std.specs.Ordering.{nat_cmp}
use Rattle.std.specs.declared.cmp.Ordering.TheVariants.{Less}
use Rattle.std.proofs.Math.Path.{fun_ext}
use Rattle.std.proofs.lemmas.Bool.{false≢true}
use Rattle.std.proofs.lemmas.Cmp.{nat_cmp_total}
use Rattle.std.proofs.lemmas.List.Elements.{filter_agree}
use Rattle.std.proofs.lemmas.Option.{none-some}
use Rattle.hm_names.specs.Server.{Server}
use Rattle.hm_data.specs.Keys.{key_cmp}
use Rattle.hm_data.specs.declared.catalog.CatKey.{CatKey}
use Rattle.hm_data.specs.declared.catalog.CatKey.TheVariants as key_is
use Rattle.hm_data.specs.declared.catalog.CatRow.{CatRow}
use Rattle.hm_data.specs.declared.catalog.CatRow.TheVariants as row_is
use Rattle.hm_data.specs.declared.part.Part.{Part}
use Rattle.hm_data.specs.declared.part.Part.TheVariants as part_is
use Rattle.hm_data.proofs.KeyOrder.{keys_total}
use Rattle.hm_model.specs.Catalog.{cat}
use Rattle.hm_model.specs.Fleet.{servers_of}
use Rattle.hm_model.specs.Image.{catalog_parts, counted, image, key_parts, layout_parts, named_keys, numbers_of, old_layouts, root_parts, server_part, server_parts, shown, table_in, table_parts}
use Rattle.hm_model.specs.Journal.{Past}
use Rattle.hm_model.specs.Layouts.{is_laid}
use Rattle.hm_model.specs.Locks.{IsIn}
use Rattle.hm_model.specs.Rebase.{MayRoll, under_way}
use Rattle.hm_model.specs.Rules.{IsLegal}
use Rattle.hm_model.specs.Sheets.{sheets_of}
use Rattle.hm_model.specs.Tree.{made, pid_of}
use Rattle.hm_rebase.specs.Alike.{Alike}
use Rattle.hm_rebase.specs.Rebased.{AlikeImages}
use Rattle.hm_rebase.proofs.Imaged.{numbers_rising}
use Rattle.hm_rebase.proofs.Laid.{laid_listed}
use Rattle.hm_rebase.proofs.Named.{named_drawn, named_order, named_row}
use Rattle.hm_rebase.proofs.Orders.{AllLater, InOrder, same_kept}
use Rattle.hm_rebase.proofs.Rebased.{alike_places, alike_under_way}
use Rattle.hm_rebase.proofs.Rooted.{AreRising}

-- what each of a list gives, by those alone that give something
abbrev pub is_some_of : {B : Type 0} → List B → Bool
is_some_of [] = false
is_some_of (x ∷ more) = true

pub flat_map_kept : {A B : Type 0} (f : A → List B) (list : List A) → flat_map f list ≡ flat_map f (filter (λ x. is_some_of (f x)) list)
flat_map_kept f [] = refl
flat_map_kept {A} {B} f (x ∷ more) = by (f x) refl (filter (λ y. is_some_of (f y)) more) (flat_map_kept f more)
  where
    by : (own : List B) → f x ≡ own → (kept : List A) → flat_map f more ≡ flat_map f kept → own ++ flat_map f more ≡ flat_map f (cond (is_some_of own) (x ∷ kept) kept)
    by [] is kept rest = rest
    by (first ∷ others) is kept rest = ap (λ l. l ++ flat_map f more) (sym is) ∙ ap (λ l. f x ++ l) rest

-- the parts of a key by its row
abbrev pub told : Past → CatKey → List Part
told J key = key_parts J key (cat J key)

rowless_listed : (J : Past) (key : CatKey) → is_some_of (key_parts J key None) ≡ true → IsIn key (named_keys J)
rowless_listed J (key_is.Ns ns) some = absurd (false≢true some)
rowless_listed J (key_is.Table table) some = named_drawn J table (λ none. false≢true (sym (ap (λ n. is_some_of (table_parts table n None)) none) ∙ some))
rowless_listed J (key_is.Region region) some = absurd (false≢true some)

-- a key that has parts is among the keys of an image
pub told_listed : (J : Past) (key : CatKey) → is_some_of (told J key) ≡ true → IsIn key (named_keys J)
told_listed J key some = by (cat J key) refl
  where
    by : (o : Option CatRow) → cat J key ≡ o → IsIn key (named_keys J)
    by None is = rowless_listed J key (subst (λ o. is_some_of (key_parts J key o) ≡ true) is some)
    by (Some row) is = named_row J key (λ gone. none-some row (sym gone ∙ is))

-- numbers that rise are in order
later_rising : (n low high : ℕ) (list : List ℕ) → n ≤ low → AreRising low high list → AllLater nat_cmp n list
later_rising n low high [] le up = tt
later_rising n low high (m ∷ more) le up =
    let above = up.0 in
    (sym (nat_cmp_is n m Less (omega (arith, le, above))), later_rising n m high more (omega (arith, le, above)) up.2)

pub order_rising : (low high : ℕ) (list : List ℕ) → AreRising low high list → InOrder nat_cmp list
order_rising low high [] up = tt
order_rising low high (n ∷ more) up = (later_rising n n high more (omega arith) up.2, order_rising n high more up.2)

module _ (J K : Past) (legal_J : IsLegal J) (legal_K : IsLegal K) (alike : Alike J K) where
  -- a key has the same parts in both
  told_same : (key : CatKey) → told J key ≡ told K key
  told_same key = by key (cat J key) refl ∙ ap (key_parts K key) (alike.rows key)
    where
      by : (key : CatKey) (o : Option CatRow) → cat J key ≡ o → key_parts J key o ≡ key_parts K key o
      by (key_is.Ns ns) None is = refl
      by (key_is.Ns ns) (Some row) is = refl
      by (key_is.Table table) o is = ap (λ n. table_parts table n (table_in o)) (alike.ids table)
      by (key_is.Region region) (Some (row_is.Region range status parents)) is =
          ap (λ place. part_is.Region region range status parents place ∷ []) (alike_places J K alike region (λ gone. none-some _ (sym gone ∙ is)))
      by (key_is.Region region) o is = refl

  catalog_same : catalog_parts J ≡ catalog_parts K
  catalog_same =
      flat_map_kept (told J) (named_keys J)
      ∙ ap (flat_map (told J)) (same_kept key_cmp keys_total (λ key. is_some_of (told J key)) (named_keys J) (named_keys K) (named_order J) (named_order K)
      (told_listed J)
      (λ key some. told_listed K key (subst (λ l. is_some_of l ≡ true) (told_same key) some)))
      ∙ sym (flat_map_kept (told J) (named_keys K))
      ∙ ap (λ f. flat_map f (named_keys K)) (fun_ext told_same)

  servers_same : server_parts J ≡ server_parts K
  servers_same =
      ap (map (server_part J)) alike.servers
      ∙ ap (λ f. map f (servers_of K)) (fun_ext (λ (s : Server). ap (λ b. part_is.Server s (not b)) (alike.live s)))

  layouts_same : layout_parts J ≡ layout_parts K
  layouts_same = ap (map (λ root. part_is.Layout (pid_of root))) (
      same_kept nat_cmp nat_cmp_total (is_laid J) (old_layouts J ++ numbers_of J) (old_layouts K ++ numbers_of K)
      (order_rising 0 (made J) (old_layouts J ++ numbers_of J) (numbers_rising J legal_J))
      (order_rising 0 (made K) (old_layouts K ++ numbers_of K) (numbers_rising K legal_K))
      (laid_listed J legal_J)
      (λ root laid. laid_listed K legal_K root (sym (alike.laid root) ∙ laid))
      ∙ filter_agree (is_laid J) (is_laid K) alike.laid (old_layouts K ++ numbers_of K)
      )

  shown_same : shown J ≡ shown K
  shown_same =
      ap (λ l. l ++ server_parts J ++ root_parts J ++ layout_parts J) catalog_same
      ∙ ap (λ l. catalog_parts K ++ l ++ root_parts J ++ layout_parts J) servers_same
      ∙ ap (λ l. catalog_parts K ++ server_parts K ++ l ++ layout_parts J) alike.roots
      ∙ ap (λ l. catalog_parts K ++ server_parts K ++ root_parts K ++ l) layouts_same

  image_same : image J ≡ image K
  image_same =
      ap (λ n. part_is.Head n (pid_of (made J)) (length (shown J)) (sheets_of J) ∷ shown J) alike.counts
      ∙ ap (λ n. part_is.Head (counted K) (pid_of n) (length (shown J)) (sheets_of J) ∷ shown J) alike.last
      ∙ ap (λ sheets. part_is.Head (counted K) (pid_of (made K)) (length (shown J)) sheets ∷ shown J) alike.sheets
      ∙ ap (λ l. part_is.Head (counted K) (pid_of (made K)) (length l) (sheets_of K) ∷ l) shown_same

  may_same : MayRoll J ↔ MayRoll K
  may_same = (
    λ may. (sym unfinished ∙ may.0, subst (λ n. n ≤ 2 ^ 48) ages may.1),
    λ may. (unfinished ∙ may.0, subst (λ n. n ≤ 2 ^ 48) (sym ages) may.1),
  )
    where
      unfinished : under_way J ≡ under_way K
      unfinished = alike_under_way J K legal_J legal_K alike

      ages : max (counted J) (made J) ≡ max (counted K) (made K)
      ages = ap (λ n. max n (made J)) alike.counts ∙ ap (max (counted K)) alike.last

pub alike_images : AlikeImages
alike_images J K legal_J legal_K alike = (may_same J K legal_J legal_K alike, image_same J K legal_J legal_K alike)
