-- A request for a namespace: how far it is, and what its steps do.
use Rattle.std.proofs.Common.{◌≡◌, ℕ, List, [], ◌∷◌, true, false, ◌==◌, Some, None, refl, ap, sym, ◌∙◌, subst}
use Rattle.std.proofs.lemmas.Bool.{or_left}
use Rattle.hm_data.specs.declared.act.Act.TheVariants as act_is
use Rattle.hm_data.specs.declared.args.Args.{Args}
use Rattle.hm_data.specs.declared.args.Args.TheVariants as args_are
use Rattle.hm_data.specs.declared.catalog.CatKey.{CatKey}
use Rattle.hm_data.specs.declared.catalog.CatKey.TheVariants as key_is
use Rattle.hm_data.specs.declared.catalog.CatRow.TheVariants as row_is
use Rattle.hm_data.specs.declared.catalog.Edit.{Edit}
use Rattle.hm_data.specs.declared.request.Request.TheVariants as request_is
use Rattle.hm_data.specs.declared.step.StepIn.{StepIn}
use Rattle.hm_model.specs.Acts.{act_answer}
use Rattle.hm_model.specs.Answers.{no_row}
use Rattle.hm_model.specs.Catalog.{Catalog, row_at, set_to}
use Rattle.hm_model.specs.Checks.{namespace_free}
use Rattle.hm_model.specs.Deeds.{unless}
use Rattle.hm_model.specs.Lists.{Line, plain}
use Rattle.hm_model.specs.Reads.{covers, reads}
use Rattle.hm_model.specs.NamespaceActs.{add_namespace, check_free_namespace}
use Rattle.hm_model.proofs.KeyTests.{bytes_eq-refl}
use Rattle.hm_model.proofs.ValidSheets.{is_last}
use Rattle.hm_kinds.proofs.Clause.{Serves, Sight, Stepped, checks_so, ends_so, knows, one_order, sees}

-- how far a request for a namespace is: nothing done, or the namespace wasn't there
pub data Making (ns : List ℕ) (base : Catalog) : List Line → List Edit → Type 0 where
  begins : Making ns base (plain act_is.CheckNamespaceFree ∷ plain act_is.AddNamespace ∷ []) []
  free : namespace_free (base (key_is.Ns ns)) ≡ None → Making ns base (plain act_is.AddNamespace ∷ []) []

module _ (ns : List ℕ) (first : ℕ) where
  abbrev own : Args
  own = args_are.Root (request_is.CreateNamespace ns) first

  covers_it : covers (args_are.Root (request_is.CreateNamespace ns) first) (key_is.Ns ns) ≡ true
  covers_it = or_left _ false (bytes_eq-refl ns)

  reads_it : reads (args_are.Root (request_is.CreateNamespace ns) first) (key_is.Ns ns) ≡ true
  reads_it = bytes_eq-refl ns

  makes : (base there others : Catalog) (keys : List CatKey) (line : Line) (behind : List Line) (sofar : List Edit) (at : StepIn) (next : ℕ) → Making ns base (line ∷ behind) sofar → Sight (args_are.Root (request_is.CreateNamespace ns) first) base there others keys sofar at → (next == no_row) ≡ is_last behind → Stepped (args_are.Root (request_is.CreateNamespace ns) first) (Making ns base behind) base others keys sofar (act_answer line.act next at)
  makes base there others keys line behind sofar at next begins s last =
      subst (λ a. Stepped own (Making ns base behind) base others keys sofar (check_free_namespace next a at.rows)) (sym s.own)
      (checks_so own (Making ns base behind) base others keys [] next (namespace_free (row_at at.rows (key_is.Ns ns))) (λ none. free (ap namespace_free (sym (sees own base there others keys [] at s (key_is.Ns ns) reads_it)) ∙ none)))
  makes base there others keys line behind sofar at next (free none) s last =
      subst (λ a. Stepped own (Making ns base behind) base others keys sofar (add_namespace next a at.rows)) (sym s.own)
      (ends_so own (Making ns base behind) base others keys [] next (set_to (row_at at.rows) (key_is.Ns ns) (Some row_is.Ns) ∷ []) last (set_to others (key_is.Ns ns) (Some row_is.Ns) ∷ [])
      (ap (λ o. unless (namespace_free o) (set_to others (key_is.Ns ns) (Some row_is.Ns) ∷ [])) (knows own base there others keys [] at s (key_is.Ns ns) reads_it) ∙ ap (λ c. unless c (set_to others (key_is.Ns ns) (Some row_is.Ns) ∷ [])) none)
      (covers_it, tt) (λ key c. refl))

  pub create_namespace_serves : Serves (args_are.Root (request_is.CreateNamespace ns) first) (Making ns)
  create_namespace_serves = record { begins = λ base lines order. one_order (λ l. Making ns base l []) lines _ order begins; steps = makes }
