-- Who lacks a server to be picked goes on lacking one, where what it looks at is the same.
use Rattle.std.proofs.Common.{Bool, List, None, Option, Some, ap, false, inl, inr, not, refl, subst, sym, true, ℕ, ◌&&◌, ◌||◌, ◌∙◌, ◌≡◌, ◌⊎◌}
use Rattle.std.proofs.lemmas.Bool.{and_from, and_parts, false≢true, not-false, or_cases, or_left, or_parts, or_right}
use Rattle.hm_names.specs.Region.{Region}
use Rattle.hm_names.specs.Server.{Server}
use Rattle.hm_data.specs.declared.args.Args.{Args}
use Rattle.hm_data.specs.declared.catalog.CatKey.{CatKey}
use Rattle.hm_data.specs.declared.catalog.CatRow.{CatRow}
use Rattle.hm_data.specs.declared.place.Place.{Place}
use Rattle.hm_data.specs.declared.place.RegionState.TheVariants as place_is
use Rattle.hm_data.specs.declared.sheet.Row.{Row}
use Rattle.hm_data.specs.declared.sheet.Sheet.{Sheet}
use Rattle.hm_model.specs.Answers.{is_aborted, last_answer, row_after, row_of}
use Rattle.hm_model.specs.Evaluation.{is_picking, picks_at, picks_by, wants_server}
use Rattle.hm_model.specs.Fleet.{has_live, is_fenced}
use Rattle.hm_model.specs.Inputs.{fenced_if, place_if, rows_read, sees_fenced, server_at, step_input, turn_input, undoes}
use Rattle.hm_model.specs.Journal.{Past}
use Rattle.hm_model.specs.Kinds.{first_row_of, kind_of}
use Rattle.hm_model.specs.Picks.{has_pick, needs_server}
use Rattle.hm_model.specs.Places.{place_of}
use Rattle.hm_model.specs.Procedures.{sheet_at, sheet_of}
use Rattle.hm_model.specs.Sheets.{next_row, row_in, sheet_for, sheets_by}
use Rattle.hm_model.specs.TransitActs.{is_open, is_state, may_open_in, told_place}
use Rattle.hm_model.specs.Tree.{Node, node_of}
use Rattle.hm_model.specs.Undo.{stack}
use Rattle.hm_model.specs.Views.{region_of}
use Rattle.hm_model.specs.Whereabouts.{called_by, moved_by}
use Rattle.hm_tied.specs.Tied.{is_opening}

-- what a step looks at, to know whether it needs a server
pub record Sight : Type 0 where
  pub row : Option Row
  pub aborted : Bool
  pub rows : List (CatKey × CatRow)
  pub place : Option Place
  pub fenced : Bool

abbrev pub wants : Sight → Option Region → Bool
wants sight None = false
wants sight (Some region) = may_open_in sight.rows region && not (is_open (told_place sight.place) sight.fenced)

abbrev pub needs : Sight → Args → Option Row → Bool
needs sight args None = false
needs sight args (Some row) = is_picking row.act && (not (sight.aborted && not row.after) && wants sight (region_of args))

-- what the next step of a procedure looks at
abbrev pub sight_of : Past → ℕ → Node → Sight
sight_of J p node = record {
  row = next_row J p node;
  aborted = is_aborted J p;
  rows = rows_read J node.args;
  place = place_if J (moved_by node.args);
  fenced = sees_fenced J node.args;
}

pub needs_is : (J : Past) (q : ℕ) (x : Node) → node_of J q ≡ Some x → undoes J q x ≡ false → needs_server J q x ≡ (let sight = sight_of J q x in needs sight x.args sight.row)
needs_is J q x is none =
    ap (λ b. (let it = turn_input J b (stack J q) (step_input J q x None) in picks_by (sheet_at J it) it)) none
    ∙ ap (λ o. picks_at (row_in o (row_of J q x)) (step_input J q x None)) (ap (λ o. elim o as (λ n. Option Sheet) [ None ↦ None | Some node ↦ sheet_of J q node ]) is)
    ∙ by (next_row J q x)
  where
    look : (o : Option Region) → wants_server o (step_input J q x None) ≡ wants (sight_of J q x) o
    look None = refl
    look (Some region) = refl

    by : (o : Option Row) → picks_at o (step_input J q x None) ≡ needs (sight_of J q x) x.args o
    by None = refl
    by (Some row) = ap (λ b. is_picking row.act && (not (is_aborted J q && not row.after) && b)) (look (region_of x.args))

-- whoever lacks one runs a row that places a region
pub lacking_row : (J : Past) (q : ℕ) (x : Node) → node_of J q ≡ Some x → undoes J q x ≡ false → has_pick J q x ≡ false → (row : Row) × (next_row J q x ≡ Some row) × (is_picking row.act ≡ true)
lacking_row J q x is none lacks =
    let parts = or_parts (not (needs_server J q x)) (has_live J) lacks in
    by (next_row J q x) (sym (needs_is J q x is none) ∙ not-false (needs_server J q x) parts.0)
  where
    by : (o : Option Row) → needs (sight_of J q x) x.args o ≡ true → (row : Row) × (o ≡ Some row) × (is_picking row.act ≡ true)
    by None h = absurd (false≢true h)
    by (Some row) h = (let sight = sight_of J q x in (row, refl, (and_parts (is_picking row.act) (not (sight.aborted && not row.after) && wants sight (region_of x.args)) h).0))

-- where its region isn't open now that wasn't before, it needs one still
pub needs_more : (one other : Sight) (args : Args) → other.row ≡ one.row → other.aborted ≡ one.aborted → other.rows ≡ one.rows → (is_open (told_place other.place) other.fenced ≡ true → is_open (told_place one.place) one.fenced ≡ true) → needs one args one.row ≡ true → needs other args other.row ≡ true
needs_more one other args row aborted rows was on = subst (λ r. needs other args r ≡ true) (sym row) (by one.row on)
  where
    unopened : (f g : Bool) → (g ≡ true → f ≡ true) → not f ≡ true → not g ≡ true
    unopened f false was h = refl
    unopened f true was h = absurd (false≢true (ap not (sym (was refl)) ∙ h))

    look : (o : Option Region) → wants one o ≡ true → wants other o ≡ true
    look None h = h
    look (Some region) h = both (may_open_in one.rows region) (may_open_in other.rows region) (ap (λ r. may_open_in r region) rows) h
      where
        both : (a b : Bool) → b ≡ a → (a && not (is_open (told_place one.place) one.fenced)) ≡ true → (b && not (is_open (told_place other.place) other.fenced)) ≡ true
        both true b e h = ap (λ c. c && not (is_open (told_place other.place) other.fenced)) e ∙ unopened (is_open (told_place one.place) one.fenced) (is_open (told_place other.place) other.fenced) was h
        both false b e h = absurd (false≢true h)

    right : (a b c : Bool) → (b ≡ true → c ≡ true) → (a && b) ≡ true → (a && c) ≡ true
    right true b c to h = to h
    right false b c to h = h

    by : (o : Option Row) → needs one args o ≡ true → needs other args o ≡ true
    by None h = h
    by (Some r) h = right (is_picking r.act) (not (one.aborted && not r.after) && wants one (region_of args)) (not (other.aborted && not r.after) && wants other (region_of args))
        (λ k. ap (λ b. not (b && not r.after) && wants other (region_of args)) aborted ∙ right (not (one.aborted && not r.after)) (wants one (region_of args)) (wants other (region_of args)) (look (region_of args)) k) h

-- fences stay
pub fenced_still : (J after : Past) → ((s : Server) → is_fenced J s ≡ true → is_fenced after s ≡ true) → (o : Option Server) → fenced_if J o ≡ true → fenced_if after o ≡ true
fenced_still J after more None h = h
fenced_still J after more (Some s) h = more s h

-- what it looks at is the same, but for fences and a region that isn't open
pub record SeesSame (J after : Past) (q : ℕ) (args : Args) : Type 0 where
  pub last : last_answer after q ≡ last_answer J q
  pub aborted : is_aborted after q ≡ is_aborted J q
  pub rows : rows_read after args ≡ rows_read J args
  pub place : (place_if after (moved_by args) ≡ place_if J (moved_by args)) ⊎ (is_state place_is.Opened (told_place (place_if after (moved_by args))) ≡ false)
  pub opening : is_opening J args ≡ false → is_opening after args ≡ false
  pub fenced : (s : Server) → is_fenced J s ≡ true → is_fenced after s ≡ true
  pub live : has_live after ≡ has_live J

pub lacks_on : (J after : Past) (q : ℕ) (x : Node) → node_of J q ≡ Some x → node_of after q ≡ Some x → sheets_by after x.root ≡ sheets_by J x.root → undoes J q x ≡ false → undoes after q x ≡ false → SeesSame J after q x.args → has_pick J q x ≡ false → has_pick after q x ≡ false
lacks_on J after q x is is_after sheets none none_after same lacks =
    let parts = or_parts (not (needs_server J q x)) (has_live J) lacks in
    let on : needs_server after q x ≡ true =
    needs_is after q x is_after none_after
    ∙ needs_more (sight_of J q x) (sight_of after q x) x.args row same.aborted same.rows (shut same.place)
    (sym (needs_is J q x is none) ∙ not-false (needs_server J q x) parts.0) in
    ap (λ b. not b || has_live after) on ∙ same.live ∙ parts.1
  where
    row : (let sight = sight_of after q x in sight.row) ≡ (let sight = sight_of J q x in sight.row)
    row = ap (λ s. row_in (sheet_for s (kind_of x.args)) (row_after (first_row_of x.args) (last_answer after q))) sheets ∙ ap (λ l. row_in (sheet_for (sheets_by J x.root) (kind_of x.args)) (row_after (first_row_of x.args) l)) same.last

    fence : place_if after (moved_by x.args) ≡ place_if J (moved_by x.args) → sees_fenced J x.args ≡ true → sees_fenced after x.args ≡ true
    fence place h = elim (or_cases (fenced_if J (server_at (place_if J (moved_by x.args)))) (fenced_if J (called_by x.args)) h) [
      | inl at ↦ or_left (fenced_if after (server_at (place_if after (moved_by x.args)))) (fenced_if after (called_by x.args)) (ap (λ p. fenced_if after (server_at p)) place ∙ fenced_still J after same.fenced (server_at (place_if J (moved_by x.args))) at)
      | inr called ↦ or_right (fenced_if after (server_at (place_if after (moved_by x.args)))) (fenced_if after (called_by x.args)) (fenced_still J after same.fenced (called_by x.args) called)
    ]

    shut : (place_if after (moved_by x.args) ≡ place_if J (moved_by x.args)) ⊎ (is_state place_is.Opened (told_place (place_if after (moved_by x.args))) ≡ false)
        → is_open (told_place (place_if after (moved_by x.args))) (sees_fenced after x.args) ≡ true → is_open (told_place (place_if J (moved_by x.args))) (sees_fenced J x.args) ≡ true
    shut (inl place) h =
        let parts = and_parts (is_state place_is.Opened (told_place (place_if after (moved_by x.args)))) (not (sees_fenced after x.args)) h in
        and_from (is_state place_is.Opened (told_place (place_if J (moved_by x.args)))) (not (sees_fenced J x.args))
        (ap (λ p. is_state place_is.Opened (told_place p)) (sym place) ∙ parts.0)
        (unfenced (sees_fenced J x.args) (sees_fenced after x.args) (fence place) parts.1)
      where
        unfenced : (f g : Bool) → (f ≡ true → g ≡ true) → not g ≡ true → not f ≡ true
        unfenced false g more h = refl
        unfenced true g more h = ap not (sym (more refl)) ∙ h
    shut (inr off) h = absurd (false≢true (sym off ∙ (and_parts (is_state place_is.Opened (told_place (place_if after (moved_by x.args)))) (not (sees_fenced after x.args)) h).0))

-- the place that it sees
pub place_same : (J after : Past) → ((region : Region) → place_of after region ≡ place_of J region) → (o : Option Region) → place_if after o ≡ place_if J o
place_same J after same None = refl
place_same J after same (Some region) = ap (λ p. Some p) (same region)
