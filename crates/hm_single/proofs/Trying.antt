-- What holds of the transit of a region that is being opened, or failed to open; entries that make no step leave it so.
use Rattle.std.proofs.Common.{◌≡◌, ◌≢◌, ℕ, ◌+◌, ◌-◌, ◌≤◌, ◌^◌, nat_lt, ◌||◌, ◌∷◌, Bool, true, false, cond, Option, Some, refl, ap, sym, ◌∙◌, subst, inl, inr, arith}
use Rattle.std.proofs.lemmas.Bool.{cases_eq, false≢true, true≢false}
use Rattle.hm_names.specs.Region.{Region}
use Rattle.hm_names.specs.Server.{Server}
use Rattle.hm_data.specs.declared.answer.Answer.TheVariants as answer_is
use Rattle.hm_data.specs.declared.catalog.CatKey.TheVariants as key_is
use Rattle.hm_data.specs.declared.entry.Entry.{Entry}
use Rattle.hm_data.specs.declared.place.Place.{Place}
use Rattle.hm_data.specs.declared.place.RegionState.{RegionState}
use Rattle.hm_data.specs.declared.place.RegionState.TheVariants as place_is
use Rattle.hm_model.specs.Answers.{last_answer}
use Rattle.hm_model.specs.Catalog.{cat}
use Rattle.hm_model.specs.Journal.{Past}
use Rattle.hm_model.specs.Places.{one_more, place_of, tries_of}
use Rattle.hm_model.specs.Rules.{IsLegal}
use Rattle.hm_model.specs.TransitActs.{is_state, may_open}
use Rattle.hm_single.proofs.All.{kept_all}
use Rattle.hm_single.proofs.Kept.{IsGoing}
use Rattle.hm_single.proofs.Stage.{work_of}
use Rattle.hm_single.proofs.Steady.{may_stay}

-- a region is being opened, or failed to open
abbrev pub is_tried : Place → Bool
is_tried place = is_state place_is.Opening place || is_state place_is.FailedOpen place

-- what holds of the transit of such a region
pub record Trying (J : Past) (region : Region) : Type 0 where
  pub p : ℕ
  pub works : work_of J region ≡ Some p
  pub goes : IsGoing (last_answer J p)
  pub may : may_open (cat J (key_is.Table region.table)) (cat J (key_is.Region region)) ≡ true
  pub tried : is_state place_is.FailedOpen (place_of J region) ≡ true → (last_answer J p ≡ Some (answer_is.More 0)) × (1 ≤ tries_of J p)

-- each region that is being opened, or failed to open, has one
abbrev pub AllTrying : Past → Type 0
AllTrying J = (region : Region) → is_tried (place_of J region) ≡ true → Trying J region

-- a region isn't both
pub not_both : (state : RegionState) (server : Option Server) → is_state place_is.Opening (record { state = state; server = server }) ≡ true → is_state place_is.FailedOpen (record { state = state; server = server }) ≡ true → ⊥
not_both place_is.Opening server o f = false≢true f
not_both state server o f = false≢true o

-- one that failed to open isn't open
pub not_open : (state : RegionState) (server : Option Server) → is_state place_is.FailedOpen (record { state = state; server = server }) ≡ true → is_state place_is.Opened (record { state = state; server = server }) ≡ false
not_open place_is.FailedOpen server f = refl
not_open state server f = absurd (false≢true f)

-- a try more is one at least
pub more_tries : (n : ℕ) → 1 ≤ one_more n
more_tries n = by (nat_lt n (2 ^ 32 - 1)) refl
  where
    by : (b : Bool) → nat_lt n (2 ^ 32 - 1) ≡ b → 1 ≤ cond b (n + 1) n
    by true e = omega arith
    by false e = elim (cases_eq n 0) [
      | inl zero_is ↦ absurd (true≢false (sym (ap (λ k. nat_lt k (2 ^ 32 - 1)) zero_is) ∙ e))
      | inr some ↦ omega (arith, some)
    ]

-- an entry that makes no step leaves all as it was
pub calm_trying : (entry : Entry) (J : Past) → IsLegal (entry ∷ J) → ((r : Region) → place_of (entry ∷ J) r ≡ place_of J r) → ((r : Region) → work_of (entry ∷ J) r ≡ work_of J r) → ((p : ℕ) → last_answer (entry ∷ J) p ≡ last_answer J p)
    → ((p : ℕ) → tries_of (entry ∷ J) p ≡ tries_of J p) → AllTrying J → AllTrying (entry ∷ J)
calm_trying entry J legal place_is_same works last tries before region trying =
    let t = before region (ap is_tried (sym (place_is_same region)) ∙ trying) in
    record {
      p = t.p;
      works = works region ∙ t.works;
      goes = subst IsGoing (sym (last t.p)) t.goes;
      may = may_stay entry J legal t.p region ((kept_all J legal.0).worker t.p region t.works).0 t.goes t.may;
      tried = λ f. let was = t.tried (ap (is_state place_is.FailedOpen) (sym (place_is_same region)) ∙ f) in (last t.p ∙ was.0, subst (λ n. 1 ≤ n) (sym (tries t.p)) was.1);
    }
