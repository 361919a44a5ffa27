-- A request to drop a namespace: how far it is, and what its steps do.
use Rattle.std.proofs.Common.{◌≡◌, ◌≢◌, ℕ, List, [], ◌∷◌, Bool, true, false, ◌==◌, ◌||◌, cond, Option, Some, None, refl, ap, sym, ◌∙◌, subst, inl, inr}
use Rattle.std.specs.Str.{bytes_eq}
use Rattle.std.proofs.lemmas.Bool.{cases_Bool, or_left, or_right, true≢false}
use Rattle.std.proofs.lemmas.Option.{none-some}
use Rattle.hm_names.specs.declared.table.TableName.{TableName}
use Rattle.hm_data.specs.declared.act.Act.TheVariants as act_is
use Rattle.hm_data.specs.declared.answer.Cause.{Cause}
use Rattle.hm_data.specs.declared.answer.Cause.TheVariants as cause_is
use Rattle.hm_data.specs.declared.args.Args.{Args}
use Rattle.hm_data.specs.declared.args.Args.TheVariants as args_are
use Rattle.hm_data.specs.declared.catalog.CatKey.{CatKey}
use Rattle.hm_data.specs.declared.catalog.CatKey.TheVariants as key_is
use Rattle.hm_data.specs.declared.catalog.CatRow.{CatRow}
use Rattle.hm_data.specs.declared.catalog.Edit.{Edit}
use Rattle.hm_data.specs.declared.request.Request.TheVariants as request_is
use Rattle.hm_data.specs.declared.step.StepIn.{StepIn}
use Rattle.hm_model.specs.Acts.{act_answer}
use Rattle.hm_model.specs.Answers.{no_row}
use Rattle.hm_model.specs.Catalog.{Catalog, keep, row_at, rows_at, set_to}
use Rattle.hm_model.specs.Checks.{namespace_empty, namespace_there}
use Rattle.hm_model.specs.Deeds.{unless}
use Rattle.hm_model.specs.Lists.{Line, plain}
use Rattle.hm_model.specs.Locks.{IsIn}
use Rattle.hm_model.specs.Reads.{covers, is_ns_or_table_in, reads}
use Rattle.hm_model.specs.NamespaceActs.{check_namespace_empty, drop_namespace, has_table}
use Rattle.hm_model.specs.Phase.{or_else}
use Rattle.hm_model.specs.RowsSaid.{is_table_in}
use Rattle.hm_model.proofs.KeyTests.{bytes_eq-refl}
use Rattle.hm_model.proofs.ValidSheets.{is_last}
use Rattle.hm_kinds.proofs.Clause.{Serves, Sight, Stepped, checks_so, ends_so, knows, one_order, sees}

-- the namespace has no table in a catalog
abbrev pub IsBare : List ℕ → Catalog → Type 0
IsBare ns there = (table : TableName) → bytes_eq ns table.ns ≡ true → there (key_is.Table table) ≡ None

-- how far it is: nothing done, or the namespace was there and had no table
pub data Dropping (ns : List ℕ) (base : Catalog) : List Line → List Edit → Type 0 where
  begins : Dropping ns base (plain act_is.CheckNamespaceEmpty ∷ plain act_is.DropNamespace ∷ []) []
  bare : namespace_there (base (key_is.Ns ns)) ≡ None → IsBare ns base → Dropping ns base (plain act_is.DropNamespace ∷ []) []

no_more : (asked : Bool) (ns : List ℕ) (key : CatKey) (row : Option CatRow) (more : List (CatKey × CatRow)) → has_table ns (keep asked key row more) ≡ false → has_table ns more ≡ false
no_more false ns key row more h = h
no_more true ns key None more h = h
no_more true ns key (Some row) more h = by (is_table_in ns key) h
  where
    by : (b : Bool) → (b || has_table ns more) ≡ false → has_table ns more ≡ false
    by true e = absurd (true≢false e)
    by false e = e

kept_table : (ns : List ℕ) (key : CatKey) (row : Option CatRow) (more : List (CatKey × CatRow)) → is_table_in ns key ≡ true → has_table ns (keep true key row more) ≡ false → row ≡ None
kept_table ns key None more on h = refl
kept_table ns key (Some row) more on h = absurd (true≢false (sym (or_left (is_table_in ns key) (has_table ns more) on) ∙ h))

-- a table that is there is read
none_in : (ns : List ℕ) (asked : CatKey → Bool) (there : Catalog) (keys : List CatKey) (table : TableName) → bytes_eq ns table.ns ≡ true → asked (key_is.Table table) ≡ true → has_table ns (rows_at asked there keys) ≡ false → IsIn (key_is.Table table) keys → there (key_is.Table table) ≡ None
none_in ns asked there [] table own on off among = absurd among
none_in ns asked there (key ∷ keys) table own on off (inr later) = none_in ns asked there keys table own on (no_more (asked key) ns key (there key) (rows_at asked there keys) off) later
none_in ns asked there (key ∷ keys) table own on off (inl here) =
    kept_table ns (key_is.Table table) (there (key_is.Table table)) (rows_at asked there keys) own
    (ap (λ b. has_table ns (keep b (key_is.Table table) (there (key_is.Table table)) (rows_at asked there keys))) (sym on) ∙ ap (λ k. has_table ns (keep (asked k) k (there k) (rows_at asked there keys))) here ∙ off)

bare_from : (ns : List ℕ) (asked : CatKey → Bool) (there : Catalog) (keys : List CatKey) → ((table : TableName) → bytes_eq ns table.ns ≡ true → asked (key_is.Table table) ≡ true) → ((key : CatKey) → there key ≢ None → IsIn key keys) → has_table ns (rows_at asked there keys) ≡ false → IsBare ns there
bare_from ns asked there keys asks listed off table own = by (there (key_is.Table table)) refl
  where
    by : (o : Option CatRow) → there (key_is.Table table) ≡ o → there (key_is.Table table) ≡ None
    by None e = e
    by (Some row) e = none_in ns asked there keys table own (asks table own) off (listed (key_is.Table table) (λ none. none-some row (sym none ∙ e)))

-- no table is read where none is there
has_none : (ns : List ℕ) (asked : CatKey → Bool) (there : Catalog) (keys : List CatKey) → IsBare ns there → has_table ns (rows_at asked there keys) ≡ false
has_none ns asked there [] none = refl
has_none ns asked there (key ∷ keys) none = by (asked key) key (there key) refl (has_none ns asked there keys none)
  where
    out_of : (key : CatKey) (row : CatRow) → there key ≡ Some row → is_table_in ns key ≡ false
    out_of (key_is.Table table) row e = elim (cases_Bool (bytes_eq ns table.ns)) [
      | inl on ↦ absurd (none-some row (sym (none table on) ∙ e))
      | inr off ↦ off
    ]
    out_of key row e = refl

    by : (b : Bool) (key : CatKey) (o : Option CatRow) → there key ≡ o → has_table ns (rows_at asked there keys) ≡ false → has_table ns (keep b key o (rows_at asked there keys)) ≡ false
    by false key o e h = h
    by true key None e h = h
    by true key (Some row) e h = ap (λ t. t || has_table ns (rows_at asked there keys)) (out_of key row e) ∙ h

parts_none : (there : Option Cause) (has : Bool) → or_else there (cond has (Some cause_is.NsNotEmpty) None) ≡ None → (there ≡ None) × (has ≡ false)
parts_none None true h = absurd (none-some cause_is.NsNotEmpty (sym h))
parts_none None false h = (refl, refl)
parts_none (Some cause) has h = absurd (none-some cause (sym h))

module _ (ns : List ℕ) (first : ℕ) where
  abbrev own : Args
  own = args_are.Root (request_is.DropNamespace ns) first

  covers_it : covers (args_are.Root (request_is.DropNamespace ns) first) (key_is.Ns ns) ≡ true
  covers_it = or_left _ false (bytes_eq-refl ns)

  reads_it : reads (args_are.Root (request_is.DropNamespace ns) first) (key_is.Ns ns) ≡ true
  reads_it = bytes_eq-refl ns

  drops : (base there others : Catalog) (keys : List CatKey) (line : Line) (behind : List Line) (sofar : List Edit) (at : StepIn) (next : ℕ) → Dropping ns base (line ∷ behind) sofar → Sight (args_are.Root (request_is.DropNamespace ns) first) base there others keys sofar at → (next == no_row) ≡ is_last behind → Stepped (args_are.Root (request_is.DropNamespace ns) first) (Dropping ns base behind) base others keys sofar (act_answer line.act next at)
  drops base there others keys line behind sofar at next begins s last =
      subst (λ a. Stepped own (Dropping ns base behind) base others keys sofar (check_namespace_empty next a at.rows)) (sym s.own)
      (checks_so own (Dropping ns base behind) base others keys [] next (namespace_empty (row_at at.rows (key_is.Ns ns)) (has_table ns at.rows)) (λ none.
      let p = parts_none (namespace_there (row_at at.rows (key_is.Ns ns))) (has_table ns at.rows) none in
      bare (ap namespace_there (sym (sees own base there others keys [] at s (key_is.Ns ns) reads_it)) ∙ p.0)
      (λ table mine. sym (s.now (key_is.Table table) (or_right (covers own (key_is.Table table)) (reads own (key_is.Table table)) mine))
      ∙ bare_from ns (reads own) there keys (λ table on. on) s.listed (ap (has_table ns) (sym s.rows) ∙ p.1) table mine)))
  drops base there others keys line behind sofar at next (bare some none) s last =
      subst (λ a. Stepped own (Dropping ns base behind) base others keys sofar (drop_namespace next a at.rows)) (sym s.own)
      (ends_so own (Dropping ns base behind) base others keys [] next (set_to (row_at at.rows) (key_is.Ns ns) None ∷ []) last (set_to others (key_is.Ns ns) None ∷ [])
      (ap (λ h. unless (namespace_empty (others (key_is.Ns ns)) h) (set_to others (key_is.Ns ns) None ∷ [])) (has_none ns (is_ns_or_table_in ns) others keys (λ table mine. knows own base there others keys [] at s (key_is.Table table) mine ∙ none table mine))
      ∙ ap (λ o. unless (or_else (namespace_there o) None) (set_to others (key_is.Ns ns) None ∷ [])) (knows own base there others keys [] at s (key_is.Ns ns) reads_it)
      ∙ ap (λ c. unless (or_else c None) (set_to others (key_is.Ns ns) None ∷ [])) some)
      (covers_it, tt) (λ key c. refl))

  pub drop_namespace_serves : Serves (args_are.Root (request_is.DropNamespace ns) first) (Dropping ns)
  drop_namespace_serves = record { begins = λ base lines order. one_order (λ l. Dropping ns base l []) lines _ order begins; steps = drops }
