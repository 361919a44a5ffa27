-- What the first registry runs for what was handed out of a journal that adopted no sheets.
use Rattle.std.proofs.Common.{◌≡◌, ◌≤◌, ℕ, List, [], ◌∷◌, map, set, get_or, All, Option, Some, sym, ap, ◌∙◌, subst, arith}
use Rattle.std.proofs.lemmas.List.Elements.{All-head, All-set}
use Rattle.hm_data.specs.declared.sheet.Sheet.{Sheet}
use Rattle.hm_data.specs.declared.step.StepIn.{StepIn}
use Rattle.hm_data.specs.declared.step.StepOut.{StepOut}
use Rattle.hm_model.specs.Editions.{editions, sheets_in}
use Rattle.hm_model.specs.Evaluation.{CanRun, answer_of}
use Rattle.hm_model.specs.Journal.{Past}
use Rattle.hm_model.specs.Rules.{IsLegal}
use Rattle.hm_model.specs.Sheets.{sheets_of}
use Rattle.hm_model.proofs.Editions.{last_in_force}
use Rattle.hm_sheet.specs.Learnt.{CanRunIn, answer_in}
use Rattle.hm_sheet.specs.Words.{AreWhole}
use Rattle.hm_exec.specs.Claiming.{IsAnswer}
use Rattle.hm_commands.specs.Hands.{AgreeOn, HandsAgree, first_in, first_sheets}
use Rattle.hm_commands.proofs.Registries.{Lists, agree_own, all_first, some_hands}
use Rattle.hm_commands.proofs.Serving.{answered_there, runs_there}

module _ {R : Type 0} (f own : R → List Sheet) (has : R → ℕ → Option (List Sheet)) where
  -- one that has the same sheets does too
  same_lists : (x y : R) → f y ≡ f x → own y ≡ own x → has y ≡ has x → Lists f own has x → Lists f own has y
  same_lists x y sheets list editions is = (
    subst (λ s. AreWhole s (own y)) (sym sheets) (subst (AreWhole (f x)) (sym list) is.0),
    ap (λ (h : ℕ → Option (List Sheet)). h 0) editions ∙ is.1 ∙ ap (λ s. Some s) (sym list),
  )

  -- what the first has for an edition
  pub first_has : (hands : List R) (x : R) → HandsAgree (map f hands) → x ≡ get_or hands 0 x → (edition : ℕ) → first_in (map has hands) edition ≡ has x edition
  first_has [] x agree is edition = absurd (let some = some_hands f [] agree in omega (arith, some))
  first_has (r ∷ hands) x agree is edition = ap (λ q. has q edition) (sym is)

  -- each does that did, where the first was run
  pub all_still : (hands : List R) (x y : R) → HandsAgree (map f hands) → x ≡ get_or hands 0 x → f y ≡ f x → own y ≡ own x → has y ≡ has x → All (Lists f own has) hands → All (Lists f own has) (set hands 0 y)
  all_still hands x y agree is sheets list editions each = All-set (Lists f own has) hands 0 y (same_lists x y sheets list editions (all_first f hands agree (Lists f own has) x is each)) each

  -- the first lists the first sheets
  first_lists : (hands : List R) → HandsAgree (map f hands) → All (Lists f own has) hands → (whole : List Sheet) × AreWhole (first_sheets (map f hands)) whole × (first_in (map has hands) 0 ≡ Some whole)
  first_lists [] agree each = absurd (let some = some_hands f [] agree in omega (arith, some))
  first_lists (r ∷ hands) agree each = let first = All-head (Lists f own has) r hands each in (own r, first.0, first.1)

  module _ (J : Past) (legal : IsLegal J) (unadopted : editions J ≡ 0) (was : StepIn) (within : was.edition ≤ editions J) (runs : CanRun (sheets_in J was.edition) was) (hands : List R) (agree : HandsAgree (map f hands)) (begins : AgreeOn (first_sheets (map f hands)) (sheets_of J)) (each : All (Lists f own has) hands) where
    -- there is one edition
    one_edition : was.edition ≡ 0
    one_edition = omega (arith, within, unadopted)

    in_force : sheets_in J was.edition ≡ sheets_of J
    in_force = ap (sheets_in J) (one_edition ∙ sym unadopted) ∙ last_in_force J

    runs_now : CanRun (sheets_of J) was
    runs_now = subst (λ (s : List Sheet). CanRun s was) in_force runs

    -- whose sheets the first lists
    listed : (whole : List Sheet) × AgreeOn whole (sheets_of J) × (first_in (map has hands) was.edition ≡ Some whole)
    listed =
        let first = first_lists hands agree each in
        (first.0, (λ kind is. sym (agree_own (first_sheets (map f hands)) first.0 first.1 kind is) ∙ begins kind is), ap (first_in (map has hands)) one_edition ∙ first.2)

    -- so it can be run
    pub runs_first : CanRunIn (first_in (map has hands) was.edition) was
    runs_first = subst (λ (s : Option (List Sheet)). CanRunIn s was) (sym listed.2) (runs_there J legal was listed.0 listed.1 runs_now)

    -- and what it answers is the answer
    pub answered_first : (out : StepOut) → answer_in (first_in (map has hands) was.edition) was ≡ Some out → IsAnswer J was out
    answered_first out answered =
        ap (λ (s : List Sheet). answer_of s was) in_force
        ∙ answered_there J legal was listed.0 out listed.1 runs_now (ap (λ (s : Option (List Sheet)). answer_in s was) (sym listed.2) ∙ answered)
