-- Who lacks a server to be picked goes on lacking one, where what it looks at is the same.
use Rattle.std.proofs.Common.{Bool, None, Option, Some, ap, false, inl, inr, not, refl, sym, true, ℕ, ◌==◌, ◌&&◌, ◌||◌, ◌∙◌, ◌≡◌, ◌⊎◌}
use Rattle.std.proofs.lemmas.Bool.{and_from, and_parts, false≢true, or_cases, or_left, or_right}
use Rattle.hm_names.specs.Server.{Server}
use Rattle.hm_data.specs.declared.args.Args.{Args}
use Rattle.hm_data.specs.declared.place.Place.{Place}
use Rattle.hm_data.specs.declared.place.RegionState.TheVariants as place_is
use Rattle.hm_data.specs.declared.sheet.Row.{Row}
use Rattle.hm_model.specs.Answers.{is_aborted, last_answer, row_after}
use Rattle.hm_model.specs.Evaluation.{is_picking}
use Rattle.hm_model.specs.Fleet.{has_other_live, is_fenced, is_live, same_server}
use Rattle.hm_model.specs.Inputs.{fenced_if, place_if, rows_read, sees_fenced, server_at, step_input, turn_input, undoes}
use Rattle.hm_model.specs.Journal.{Past}
use Rattle.hm_model.specs.Kinds.{first_row_of, kind_of}
use Rattle.hm_model.specs.Picks.{fits_input, is_another, is_as_wanted, needs_server, pick_fits}
use Rattle.hm_model.specs.Wanted.{wanted_of}
use Rattle.hm_model.specs.Places.{is_the_server, tries_of}
use Rattle.hm_model.specs.Sheets.{next_row, row_in, sheet_for, sheets_by}
use Rattle.hm_model.specs.TransitActs.{is_open, is_state, told_place}
use Rattle.hm_model.specs.Tree.{Node, node_of}
use Rattle.hm_model.specs.Undo.{stack}
use Rattle.hm_model.specs.Views.{region_of}
use Rattle.hm_model.specs.Whereabouts.{called_by, moved_by}
use Rattle.hm_tied.specs.Tied.{is_opening}
use Rattle.hm_tied.proofs.Picking.{fenced_still, needs, needs_is, needs_more, sight_of, wants}

-- whoever lacks one runs a row that places a region
pub lacking_row : (J : Past) (q : ℕ) (x : Node) → node_of J q ≡ Some x → undoes J q x ≡ false → needs_server J q x ≡ true → (row : Row) × (next_row J q x ≡ Some row) × (is_picking row.act ≡ true)
lacking_row J q x is none lacks =
    by (next_row J q x) (sym (needs_is J q x is none) ∙ lacks)
  where
    by : (o : Option Row) → needs (sight_of J q x) x.args o ≡ true → (row : Row) × (o ≡ Some row) × (is_picking row.act ≡ true)
    by None h = absurd (false≢true h)
    by (Some row) h = (let sight = sight_of J q x in (row, refl, (and_parts (is_picking row.act) (not (sight.aborted && not row.after) && wants sight (region_of x.args)) h).0))

-- what it looks at is the same, but for fences and a region that isn't open
pub record SeesSame (J after : Past) (q : ℕ) (args : Args) : Type 0 where
  pub last : last_answer after q ≡ last_answer J q
  pub aborted : is_aborted after q ≡ is_aborted J q
  pub rows : rows_read after args ≡ rows_read J args
  pub place : (place_if after (moved_by args) ≡ place_if J (moved_by args)) ⊎ (is_state place_is.Opened (told_place (place_if after (moved_by args))) ≡ false)
  pub opening : is_opening J args ≡ false → is_opening after args ≡ false
  pub fenced : (s : Server) → is_fenced J s ≡ true → is_fenced after s ≡ true

pub lacks_on : (J after : Past) (q : ℕ) (x : Node) → node_of J q ≡ Some x → node_of after q ≡ Some x → sheets_by after x.root ≡ sheets_by J x.root → undoes J q x ≡ false → undoes after q x ≡ false → SeesSame J after q x.args → needs_server J q x ≡ true → needs_server after q x ≡ true
lacks_on J after q x is is_after sheets none none_after same lacks =
    needs_is after q x is_after none_after
    ∙ needs_more (sight_of J q x) (sight_of after q x) x.args row same.aborted same.rows (shut same.place)
    (sym (needs_is J q x is none) ∙ lacks)
  where
    row : (let sight = sight_of after q x in sight.row) ≡ (let sight = sight_of J q x in sight.row)
    row = ap (λ s. row_in (sheet_for s (kind_of x.args)) (row_after (first_row_of x.args) (last_answer after q))) sheets ∙ ap (λ l. row_in (sheet_for (sheets_by J x.root) (kind_of x.args)) (row_after (first_row_of x.args) l)) same.last

    fence : place_if after (moved_by x.args) ≡ place_if J (moved_by x.args) → sees_fenced J x.args ≡ true → sees_fenced after x.args ≡ true
    fence place h = elim (or_cases (fenced_if J (server_at (place_if J (moved_by x.args)))) (fenced_if J (called_by x.args)) h) [
      | inl at ↦ or_left (fenced_if after (server_at (place_if after (moved_by x.args)))) (fenced_if after (called_by x.args)) (ap (λ p. fenced_if after (server_at p)) place ∙ fenced_still J after same.fenced (server_at (place_if J (moved_by x.args))) at)
      | inr called ↦ or_right (fenced_if after (server_at (place_if after (moved_by x.args)))) (fenced_if after (called_by x.args)) (fenced_still J after same.fenced (called_by x.args) called)
    ]

    shut : (place_if after (moved_by x.args) ≡ place_if J (moved_by x.args)) ⊎ (is_state place_is.Opened (told_place (place_if after (moved_by x.args))) ≡ false)
        → is_open (told_place (place_if after (moved_by x.args))) (sees_fenced after x.args) ≡ true → is_open (told_place (place_if J (moved_by x.args))) (sees_fenced J x.args) ≡ true
    shut (inl place) h =
        let parts = and_parts (is_state place_is.Opened (told_place (place_if after (moved_by x.args)))) (not (sees_fenced after x.args)) h in
        and_from (is_state place_is.Opened (told_place (place_if J (moved_by x.args)))) (not (sees_fenced J x.args))
        (ap (λ p. is_state place_is.Opened (told_place p)) (sym place) ∙ parts.0)
        (unfenced (sees_fenced J x.args) (sees_fenced after x.args) (fence place) parts.1)
      where
        unfenced : (f g : Bool) → (f ≡ true → g ≡ true) → not g ≡ true → not f ≡ true
        unfenced false g more h = refl
        unfenced true g more h = ap not (sym (more refl)) ∙ h
    shut (inr off) h = absurd (false≢true (sym off ∙ (and_parts (is_state place_is.Opened (told_place (place_if after (moved_by x.args)))) (not (sees_fenced after x.args)) h).0))

-- what a pick has to fit
abbrev pub fits_by : Past → Option Server → ℕ → Place → Server → Bool
fits_by J wanted tries place server = is_live J server && (is_as_wanted J wanted tries server && is_another J place server)

pub fits_is : (J : Past) (q : ℕ) (x : Node) → undoes J q x ≡ false → (s : Server) → pick_fits J q x s ≡ fits_by J (wanted_of x.args) (tries_of J q) (told_place (place_if J (moved_by x.args))) s
fits_is J q x none s = ap (λ b. fits_input J (turn_input J b (stack J q) (step_input J q x None)) s) none

-- it is the same where the same are live
pub wanted_same : (J after : Past) → ((s : Server) → is_live after s ≡ is_live J s) → (o : Option Server) (tries : ℕ) (s : Server) → is_as_wanted after o tries s ≡ is_as_wanted J o tries s
wanted_same J after live None tries s = refl
wanted_same J after live (Some wanted) tries s = ap (λ b. not (tries == 0) || (not b || same_server s wanted)) (live wanted)

pub another_same : (J after : Past) → ((s : Server) → has_other_live after s ≡ has_other_live J s) → (place : Place) (s : Server) → is_another after place s ≡ is_another J place s
another_same J after other place s = ap (λ b. not (is_state place_is.FailedOpen place) || (not (is_the_server s place.server) || not b)) (other s)

pub fits_back : (J after : Past) → ((s : Server) → is_live after s ≡ is_live J s) → ((s : Server) → has_other_live after s ≡ has_other_live J s) → (q : ℕ) (x : Node) → tries_of after q ≡ tries_of J q
    → place_if after (moved_by x.args) ≡ place_if J (moved_by x.args) → (s : Server) → fits_by after (wanted_of x.args) (tries_of after q) (told_place (place_if after (moved_by x.args))) s ≡ true
    → fits_by J (wanted_of x.args) (tries_of J q) (told_place (place_if J (moved_by x.args))) s ≡ true
fits_back J after live other q x tries place s fits =
    ap (λ p. fits_by J (wanted_of x.args) (tries_of J q) (told_place p) s) (sym place)
    ∙ ap (λ t. fits_by J (wanted_of x.args) t (told_place (place_if after (moved_by x.args))) s) (sym tries)
    ∙ sym (ap (λ b. b && (is_as_wanted after (wanted_of x.args) (tries_of after q) s && is_another after (told_place (place_if after (moved_by x.args))) s)) (live s)
    ∙ ap (λ b. is_live J s && (b && is_another after (told_place (place_if after (moved_by x.args))) s)) (wanted_same J after live (wanted_of x.args) (tries_of after q) s)
    ∙ ap (λ b. is_live J s && (is_as_wanted J (wanted_of x.args) (tries_of after q) s && b)) (another_same J after other (told_place (place_if after (moved_by x.args))) s))
    ∙ fits

-- where another place didn't fail to open, so does one that fits the place behind it
pub fits_moved : (J after : Past) → ((s : Server) → is_live after s ≡ is_live J s) → (q : ℕ) (x : Node) → tries_of after q ≡ tries_of J q
    → is_state place_is.FailedOpen (told_place (place_if J (moved_by x.args))) ≡ false → (s : Server) → fits_by after (wanted_of x.args) (tries_of after q) (told_place (place_if after (moved_by x.args))) s ≡ true
    → fits_by J (wanted_of x.args) (tries_of J q) (told_place (place_if J (moved_by x.args))) s ≡ true
fits_moved J after live q x tries unfailed s fits =
    let here = and_parts (is_live after s) (is_as_wanted after (wanted_of x.args) (tries_of after q) s && is_another after (told_place (place_if after (moved_by x.args))) s) fits in
    let more = and_parts (is_as_wanted after (wanted_of x.args) (tries_of after q) s) (is_another after (told_place (place_if after (moved_by x.args))) s) here.1 in
    and_from (is_live J s) (is_as_wanted J (wanted_of x.args) (tries_of J q) s && is_another J (told_place (place_if J (moved_by x.args))) s)
    (sym (live s) ∙ here.0)
    (and_from (is_as_wanted J (wanted_of x.args) (tries_of J q) s) (is_another J (told_place (place_if J (moved_by x.args))) s)
    (ap (λ t. is_as_wanted J (wanted_of x.args) t s) (sym tries) ∙ sym (wanted_same J after live (wanted_of x.args) (tries_of after q) s) ∙ more.0)
    (or_left (not (is_state place_is.FailedOpen (told_place (place_if J (moved_by x.args))))) (not (is_the_server s (told_place (place_if J (moved_by x.args))).server) || not (has_other_live J s)) (ap not unfailed)))
