-- What the rules of sheets say of the rows of a valid sheet: they are led through as its kind lists them.
use Rattle.std.proofs.Common.{Bool, List, None, Option, Some, [], ap, arith, cond, false, if◌then◌else◌, inl, inr, length, map, nat_lt, not, refl, slice_get, subst, suc, sym, true, zero, ℕ, ◌&&◌, ◌++◌, ◌<◌, ◌==◌, ◌||◌, ◌∙◌, ◌∷◌, ◌≡◌, ◌⊎◌}
use Rattle.std.specs.List.{list_any}
use Rattle.std.proofs.lemmas.Bool.{and_parts, cases_Bool, cond-false, cond-true, eq-eqb, eqb-true, false≢true, ltb-true, not-true, or_cases, true≢false}
use Rattle.std.proofs.lemmas.Option.{none-some, same_Some}
use Rattle.hm_data.proofs.ActNumbers.{act_of-act_number}
use Rattle.hm_data.specs.Numbers.{act_number, act_of, back_number, back_of}
use Rattle.hm_data.specs.declared.act.Act.{Act}
use Rattle.hm_data.specs.declared.act.Back.{Back}
use Rattle.hm_data.specs.declared.sheet.Row.{Row}
use Rattle.hm_data.specs.declared.sheet.Sheet.{Sheet}
use Rattle.hm_model.specs.Answers.{no_row}
use Rattle.hm_model.specs.Lists.{Line, exact_rows, orders_of}
use Rattle.hm_model.specs.Base.{AreSheets}
use Rattle.hm_model.specs.Locks.{IsIn}
use Rattle.hm_model.specs.Sheets.{sheet_for}
use Rattle.hm_model.specs.Validity.{AllValid, IsValid, astray, first_broken, fits, is_not, kept, longest_kept, misfit, misfit_in, row_rules, rules_of_row, same_flag}
use Rattle.hm_data.specs.declared.args.Args.{Args}
use Rattle.hm_data.specs.declared.args.Args.TheVariants as args_are
use Rattle.hm_data.specs.declared.request.Request.{Request}
use Rattle.hm_data.specs.declared.request.Request.TheVariants as request_is
use Rattle.hm_model.specs.Kinds.{all_kinds, kind_of, request_kind}
use Rattle.hm_data.specs.declared.act.Back.TheVariants as back_is

pub first_holds : (n : ℕ) (b : Bool) (more : List (ℕ × Bool)) → first_broken ((n, b) ∷ more) ≡ None → (b ≡ true) × (first_broken more ≡ None)
first_holds n true more h = (refl, h)
first_holds n false more h = absurd (none-some n (sym h))

-- the first two rules, if there are such
abbrev FirstTwo : List (ℕ × Bool) → Type 0
FirstTwo [] = Unit {0}
FirstTwo (one ∷ []) = Unit {0}
FirstTwo (one ∷ two ∷ more) = (one.1 ≡ true) × (two.1 ≡ true)

two_hold : (rules : List (ℕ × Bool)) → first_broken rules ≡ None → FirstTwo rules
two_hold [] h = tt
two_hold (one ∷ []) h = tt
two_hold ((n, a) ∷ (m, b) ∷ more) h =
    let one = first_holds n a ((m, b) ∷ more) h in
    (one.0, (first_holds m b more one.1).0)

last_holds : (rules : List (ℕ × Bool)) (k : ℕ) (b : Bool) → first_broken (rules ++ (k, b) ∷ []) ≡ None → (first_broken rules ≡ None) × (b ≡ true)
last_holds [] k true h = (refl, refl)
last_holds [] k false h = absurd (none-some k (sym h))
last_holds ((n, true) ∷ rules) k b h = last_holds rules k b h
last_holds ((n, false) ∷ rules) k b h = absurd (none-some n (sym h))

not_there : (o : Option ℕ) → ((m : ℕ) → is_not m o ≡ true) → o ≡ None
not_there None each = refl
not_there (Some m) each = absurd (false≢true (sym (ap not (eq-eqb m m refl)) ∙ each m))

-- the rows of a valid sheet are those of its kind
pub valid_fits : (sheet : Sheet) → IsValid sheet → misfit sheet ≡ None
valid_fits sheet valid = not_there (misfit sheet) (λ m. (last_holds (rules_of_row sheet.kind sheet.rows m (slice_get sheet.rows m)) 8 (is_not m (misfit sheet)) (valid m)).1)

-- a row of a valid sheet names a row that is there, or none, and stands among the first 32
pub valid_row : (sheet : Sheet) → IsValid sheet → (place : ℕ) (row : Row) → slice_get sheet.rows place ≡ Some row → ((row.next ≡ no_row) ⊎ (row.next < length sheet.rows)) × (place < 32)
valid_row sheet valid place row is =
    let all = (last_holds (rules_of_row sheet.kind sheet.rows place (slice_get sheet.rows place)) 8 (is_not place (misfit sheet)) (valid place)).0 in
    let two = two_hold (row_rules sheet.kind sheet.rows place row) (subst (λ o. first_broken (rules_of_row sheet.kind sheet.rows place o) ≡ None) is all) in
    (elim (or_cases (row.next == no_row) (nat_lt row.next (length sheet.rows)) two.0) [ inl e ↦ inl (eqb-true row.next no_row e) | inr lt ↦ inr (ltb-true row.next (length sheet.rows) lt) ], ltb-true place 32 two.1)

-- a row is as a line lists it, with its undo or none
abbrev pub Fits : Line → Row → Type 0
Fits line row =
    (row.act ≡ line.act) × (row.after ≡ line.after) × ((row.undo ≡ line.undo) ⊎ (row.undo ≡ back_is.Nothing))

abbrev pub is_last : List Line → Bool
is_last [] = true
is_last (line ∷ lines) = false

-- the rows from a place on, as each says the next, are as listed, up to the end
abbrev pub Leads : List Row → ℕ → List Line → Type 0
Leads rows place [] = place ≡ no_row
Leads rows place (line ∷ lines) =
    (row : Row) × (slice_get rows place ≡ Some row) × Fits line row × ((row.next == no_row) ≡ is_last lines) × Leads rows row.next lines

pub same_flag-is : (a b : Bool) → same_flag a b ≡ true → a ≡ b
same_flag-is true true h = refl
same_flag-is true false h = absurd (false≢true h)
same_flag-is false true h = absurd (false≢true h)
same_flag-is false false h = refl

pub same_act : (a b : Act) → act_number a ≡ act_number b → a ≡ b
same_act a b e = same_Some a b (sym (act_of-act_number a) ∙ ap act_of e ∙ act_of-act_number b)

back_of-back_number : (undo : Back) → back_of (back_number undo) ≡ Some undo
back_of-back_number back_is.Nothing = refl
back_of-back_number undo = refl

pub same_back : (a b : Back) → back_number a ≡ back_number b → a ≡ b
same_back a b e = same_Some a b (sym (back_of-back_number a) ∙ ap back_of e ∙ back_of-back_number b)

fits_is : (line : Line) (row : Row) → fits line row ≡ true → Fits line row
fits_is line row h =
    let act = and_parts (act_number row.act == act_number line.act) (same_flag row.after line.after && ((back_number row.undo == back_number line.undo) || (back_number row.undo == 0))) h in
    let rest = and_parts (same_flag row.after line.after) ((back_number row.undo == back_number line.undo) || (back_number row.undo == 0)) act.1 in (
      same_act row.act line.act (eqb-true (act_number row.act) (act_number line.act) act.0),
      same_flag-is row.after line.after rest.0,
      elim (or_cases (back_number row.undo == back_number line.undo) (back_number row.undo == 0) rest.1) [
        | inl listed ↦ inl (same_back row.undo line.undo (eqb-true (back_number row.undo) (back_number line.undo) listed))
        | inr none ↦ inr (same_back row.undo back_is.Nothing (eqb-true (back_number row.undo) 0 none))
      ],
    )

pub row_there : (rows : List Row) (place : ℕ) → place < length rows → (row : Row) × (slice_get rows place ≡ Some row)
row_there [] place lt = absurd (omega (arith, lt))
row_there (row ∷ rows) zero lt = (row, refl)
row_there (row ∷ rows) (suc place) lt = row_there rows place (omega (arith, lt))

-- where a choice is none, it is the first, and that is none
pub if_none : (b : Bool) (o : Option ℕ) (place : ℕ) → cond b o (Some place) ≡ None → (b ≡ true) × (o ≡ None)
if_none true o place h = (refl, h)
if_none false o place h = absurd (none-some place (sym h))

at_end : (line : Line) (place : ℕ) (o : Option Row) (row : Row) → o ≡ Some row → (elim o as (λ r. Option ℕ) [ None ↦ None | Some x ↦ if fits line x && (x.next == no_row) then None else Some place ]) ≡ None → (fits line row && (row.next == no_row)) ≡ true
at_end line place None row is h = absurd (none-some row is)
at_end line place (Some x) row is h = rw (← same_Some x row is) (if_none (fits line x && (x.next == no_row)) None place h).0

at_more : (rows : List Row) (line following : Line) (lines : List Line) (place : ℕ) (o : Option Row) (row : Row) → o ≡ Some row → (elim o as (λ r. Option ℕ) [ None ↦ None | Some x ↦ if fits line x && not (x.next == no_row) then astray rows following lines x.next else Some place ]) ≡ None → ((fits line row && not (row.next == no_row)) ≡ true) × (astray rows following lines row.next ≡ None)
at_more rows line following lines place None row is h = absurd (none-some row is)
at_more rows line following lines place (Some x) row is h = rw (← same_Some x row is) (if_none (fits line x && not (x.next == no_row)) (astray rows following lines x.next) place h)

module _ (rows : List Row) (onward : (place : ℕ) (row : Row) → slice_get rows place ≡ Some row → (row.next ≡ no_row) ⊎ (row.next < length rows)) where
  led : (line : Line) (lines : List Line) (place : ℕ) → place < length rows → astray rows line lines place ≡ None → Leads rows place (line ∷ lines)
  led line [] place lt h =
      let there = row_there rows place lt in
      let parts = and_parts (fits line there.0) (there.0.next == no_row) (at_end line place (slice_get rows place) there.0 there.1 h) in
      (there.0, there.1, fits_is line there.0 parts.0, parts.1, eqb-true there.0.next no_row parts.1)
  led line (following ∷ lines) place lt h =
      let there = row_there rows place lt in
      let on = at_more rows line following lines place (slice_get rows place) there.0 there.1 h in
      let parts = and_parts (fits line there.0) (not (there.0.next == no_row)) on.0 in
      let off : (there.0.next == no_row) ≡ false = not-true (there.0.next == no_row) parts.1 in (
        there.0,
        there.1,
        fits_is line there.0 parts.0,
        off,
        led following lines there.0.next (elim (onward place there.0 there.1) [
          | inl end ↦ absurd (true≢false (sym (eq-eqb there.0.next no_row end) ∙ off))
          | inr within ↦ within
        ]) on.1,
      )

fit_none : (exact : List Row) (lines : List Line) (rows : List Row) → exact ≡ [] → misfit_in exact lines rows ≡ None → (line : Line) × (more : List Line) × (lines ≡ line ∷ more) × (0 < length rows) × (astray rows line more 0 ≡ None)
fit_none exact lines [] none h = absurd (none-some 0 (sym h))
fit_none (x ∷ exact) lines (row ∷ rows) none h = absurd (cc)
fit_none [] [] (row ∷ rows) none h = absurd (none-some 0 (sym h))
fit_none [] (line ∷ more) (row ∷ rows) none h = (line, more, refl, omega arith, h)

-- the order that is kept to longest is one of them
longest_among : (rows : List Row) (order : List Line) (others : List (List Line)) → IsIn (longest_kept rows (order ∷ others)) (order ∷ others)
longest_among rows order [] = inl refl
longest_among rows order (other ∷ others) = by (nat_lt (kept rows order 0) (kept rows (longest_kept rows (other ∷ others)) 0)) (longest_among rows other others)
  where
    by : (b : Bool) → IsIn (longest_kept rows (other ∷ others)) (other ∷ others) → IsIn (cond b (longest_kept rows (other ∷ others)) order) (order ∷ other ∷ others)
    by true later = inr later
    by false later = inl refl

-- the rows of a kind that lists lines lead through one of its orders from the first on
pub valid_leads : (sheet : Sheet) → IsValid sheet → exact_rows sheet.kind ≡ [] → (lines : List Line) × IsIn lines (orders_of sheet.kind) × Leads sheet.rows 0 lines
valid_leads sheet valid exact =
    let order = longest_kept sheet.rows (orders_of sheet.kind) in
    let fit = fit_none (exact_rows sheet.kind) order sheet.rows exact (valid_fits sheet valid) in
    let leads = led sheet.rows (λ place row is. (valid_row sheet valid place row is).0) fit.0 fit.1 0 fit.3 fit.4 in
    (order, longest_among sheet.rows _ _, subst (Leads sheet.rows 0) (sym fit.2) leads)

-- no row has the number that ends a procedure
pub valid_end : (sheet : Sheet) → IsValid sheet → (row : Row) → slice_get sheet.rows no_row ≡ Some row → ⊥
valid_end sheet valid row is =
    let low = (valid_row sheet valid no_row row is).1 in
    omega (arith, low)

-- the acts of lines
abbrev pub acts_of : List Line → List Act
acts_of [] = []
acts_of (line ∷ lines) = line.act ∷ acts_of lines

-- rows lead from a place through one list of acts
pub same_acts : (sheet : Sheet) → IsValid sheet → (place : ℕ) (one other : List Line) → Leads sheet.rows place one → Leads sheet.rows place other → acts_of one ≡ acts_of other
same_acts sheet valid place [] [] a b = refl
same_acts sheet valid place [] (line ∷ other) a b = absurd (valid_end sheet valid b.0 (ap (slice_get sheet.rows) (sym a) ∙ b.1))
same_acts sheet valid place (line ∷ one) [] a b = absurd (valid_end sheet valid a.0 (ap (slice_get sheet.rows) (sym b) ∙ a.1))
same_acts sheet valid place (line ∷ one) (other ∷ others) a b =
    let same : b.0 ≡ a.0 = same_Some b.0 a.0 (sym b.1 ∙ a.1) in
    let act : line.act ≡ other.act = sym a.2.0 ∙ ap (λ (r : Row). r.act) (sym same) ∙ b.2.0 in
    ap (λ x. x ∷ acts_of one) act ∙ ap (λ l. other.act ∷ l) (same_acts sheet valid a.0.next one others a.4 (subst (λ (r : Row). Leads sheet.rows r.next others) same b.4))

-- a kind that sheets are for has one
pub sheet_found : (sheets : List Sheet) (kind : ℕ) → AllValid sheets → list_any (λ k. k == kind) (map (λ s. s.kind) sheets) ≡ true → (sheet : Sheet) × (sheet_for sheets kind ≡ Some sheet) × IsValid sheet × (sheet.kind ≡ kind)
sheet_found [] kind valid among = absurd (false≢true among)
sheet_found (sheet ∷ sheets) kind valid among = elim (cases_Bool (sheet.kind == kind)) [
  | inl on ↦ (sheet, cond-true (sheet.kind == kind) (Some sheet) (sheet_for sheets kind) on, valid.0, eqb-true sheet.kind kind on)
  | inr off ↦
      let later = sheet_found sheets kind valid.1 (elim (or_cases (sheet.kind == kind) (list_any (λ k. k == kind) (map (λ s. s.kind) sheets)) among) [
        | inl on ↦ absurd (true≢false (sym on ∙ off))
        | inr rest ↦ rest
      ]) in
      (later.0, cond-false (sheet.kind == kind) (Some sheet) (sheet_for sheets kind) off ∙ later.1, later.2, later.3)
]

-- each procedure is of one of the kinds
request_among : (request : Request) → list_any (λ k. k == request_kind request) all_kinds ≡ true
request_among (request_is.CreateNamespace ns) = refl
request_among request = refl

kind_among : (args : Args) → list_any (λ k. k == kind_of args) all_kinds ≡ true
kind_among (args_are.Root request first) = request_among request
kind_among args = refl

-- each procedure has its sheet
pub sheet_there : (sheets : List Sheet) → AreSheets sheets → (args : Args) → (sheet : Sheet) × (sheet_for sheets (kind_of args) ≡ Some sheet) × IsValid sheet × (sheet.kind ≡ kind_of args)
sheet_there sheets are args = sheet_found sheets (kind_of args) are.1 (ap (list_any (λ k. k == kind_of args)) are.0 ∙ kind_among args)
