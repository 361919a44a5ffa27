-- That roots took what they cost, by one test.
use Rattle.std.proofs.Common.{◌≡◌, ℕ, List, map, [], ◌∷◌, Option, Some, None, Bool, true, false, not, ◌==◌, ◌&&◌, ◌||◌, is_none, refl, sym, ◌∙◌, inl, inr}
use Rattle.std.proofs.lemmas.Bool.{and_parts, eq-eqb, eqb-true, false≢true, not-true, or_cases}
use Rattle.hm_data.specs.declared.entry.Entry.TheVariants as entry_is
use Rattle.hm_model.specs.Costs.{cost}
use Rattle.hm_model.specs.Entries.{IsQuiet, entries_of, is_refusal}
use Rattle.hm_model.specs.Journal.{Past}
use Rattle.hm_model.specs.Kinds.{kind_of}
use Rattle.hm_model.specs.Phase.{ended, root_ended}
use Rattle.hm_model.specs.Tree.{Node, is_top, node_of, root_of}
use Rattle.hm_model.proofs.Played.{IsPlayed, played_legal}
use Rattle.hm_model.proofs.Small.{top_is}
use Rattle.hm_costs.specs.Met.{AllMet, IsMet}
use Rattle.hm_costs.proofs.Scripted.{has_none}

-- nothing disturbed a root
abbrev is_quiet : Past → ℕ → Bool
is_quiet [] r = true
is_quiet (entry_is.Report call told ∷ before) r = is_quiet before r && not ((root_of before call.0 == r) && is_refusal told)
is_quiet (entry_is.Down server ∷ before) r = is_quiet before r && (is_none (node_of before r) || ended before r)
is_quiet (entry_is.Abort pid ∷ before) r = is_quiet before r && not (pid.0 == r)
is_quiet (entry_is.Base part ∷ before) r = true
is_quiet (entry ∷ before) r = is_quiet before r

quiet : (J : Past) (r : ℕ) → is_quiet J r ≡ true → IsQuiet J r
quiet [] r fit = tt
quiet (entry_is.Report call told ∷ before) r fit =
    let both = and_parts (is_quiet before r) _ fit in
    (quiet before r both.0, λ own. off (root_of before call.0 == r) (is_refusal told) both.1 (eq-eqb (root_of before call.0) r own))
  where
    off : (own refused : Bool) → not (own && refused) ≡ true → own ≡ true → refused ≡ false
    off true refused fit own = not-true refused fit
    off false refused fit own = absurd (false≢true own)
quiet (entry_is.Down server ∷ before) r fit =
    let both = and_parts (is_quiet before r) _ fit in (
      quiet before r both.0,
      λ there. elim (or_cases (is_none (node_of before r)) (ended before r) both.1) [
        | inl none ↦ absurd (there (has_none (node_of before r) none))
        | inr over ↦ over
      ],
    )
quiet (entry_is.Abort pid ∷ before) r fit =
    let both = and_parts (is_quiet before r) _ fit in
    (quiet before r both.0, λ same. false≢true (sym (not-true (pid.0 == r) both.1) ∙ eq-eqb pid.0 r same))
quiet (entry_is.Base part ∷ before) r fit = tt
quiet (entry ∷ before) r fit = quiet before r fit

-- a root of this kind, which nothing disturbed, has ended, took so many entries and costs so many
abbrev meets : Past → ℕ → ℕ → ℕ → Option Node → Bool
meets J r kind entries None = false
meets J r kind entries (Some node) =
    (is_top node.above && (kind_of node.args == kind)) && ((is_quiet J r && root_ended J r) && ((entries_of J r == entries) && (cost J r node.args == entries)))

is_met : (J : Past) (r kind entries : ℕ) (n : Option Node) → node_of J r ≡ n → meets J r kind entries n ≡ true → IsMet J r kind entries
is_met J r kind entries None is fit = absurd (false≢true fit)
is_met J r kind entries (Some node) is fit =
    let parts = and_parts (is_top node.above && (kind_of node.args == kind)) _ fit in
    let root = and_parts (is_top node.above) (kind_of node.args == kind) parts.0 in
    let rest = and_parts (is_quiet J r && root_ended J r) _ parts.1 in
    let over = and_parts (is_quiet J r) (root_ended J r) rest.0 in
    let counts = and_parts (entries_of J r == entries) (cost J r node.args == entries) rest.1 in
    (node, is, top_is node.above root.0, eqb-true (kind_of node.args) kind root.1, quiet J r over.0, over.1, eqb-true (entries_of J r) entries counts.0, eqb-true (cost J r node.args) entries counts.1)

-- a root of a played journal, its kind, and how many entries it took and costs
pub record Root : Type 0 where
  pub journal : Past
  pub played : IsPlayed journal
  pub number : ℕ
  pub kind : ℕ
  pub entries : ℕ

abbrev pub root : (J : Past) → IsPlayed J → ℕ → ℕ → ℕ → Root
root J played r kind entries = record { journal = J; played = played; number = r; kind = kind; entries = entries }

abbrev pub all_meet : List Root → Bool
all_meet [] = true
all_meet (first ∷ more) = meets first.journal first.number first.kind first.entries (node_of first.journal first.number) && all_meet more

-- roots that pass the test show that their costs are met
pub all_met : (roots : List Root) → all_meet roots ≡ true → AllMet (map (λ first. (first.kind, first.entries)) roots)
all_met [] fit = tt
all_met (first ∷ more) fit =
    let J = first.journal in
    let both = and_parts (meets J first.number first.kind first.entries (node_of J first.number)) (all_meet more) fit in
    ((J, played_legal J first.played, first.number, is_met J first.number first.kind first.entries (node_of J first.number) refl both.0), all_met more both.1)
