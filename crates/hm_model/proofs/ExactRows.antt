-- The rows of valid sheets: the exact ones, and those that are led through.
use Rattle.hm_model.specs.Base.{PartFits}
use Rattle.hm_data.specs.declared.part.Part.{Part}
use Rattle.hm_data.specs.declared.part.Part.TheVariants as part_is
use Rattle.std.proofs.Common.{◌≡◌, ℕ, zero, suc, ◌+◌, List, [], ◌∷◌, Bool, true, false, ◌&&◌, ◌==◌, nat_lt, Option, Some, None, cond, refl, ap, sym, ◌∙◌, subst, inl, inr, slice_get, not, ◌||◌}
use Rattle.std.specs.List.{list_all, list_any}
use Rattle.std.proofs.lemmas.Bool.{and_parts, cases_Bool, cond-false, cond-true, eqb-true, false≢true, or_cases}
use Rattle.std.proofs.lemmas.Option.{none-some, same_Some}
use Rattle.hm_data.specs.Numbers.{act_number, back_number}
use Rattle.hm_data.specs.declared.act.Act.{Act}
use Rattle.hm_data.specs.declared.act.Back.{Back}
use Rattle.hm_data.specs.declared.args.Args.{Args}
use Rattle.hm_data.specs.declared.args.Args.TheVariants as args_are
use Rattle.hm_data.specs.declared.entry.Entry.TheVariants as entry_is
use Rattle.hm_data.specs.declared.request.Request.TheVariants as request_is
use Rattle.hm_data.specs.declared.sheet.Row.{Row}
use Rattle.hm_data.specs.declared.sheet.Sheet.{Sheet}
use Rattle.hm_model.specs.Answers.{no_row}
use Rattle.hm_model.specs.Journal.{Past}
use Rattle.hm_model.specs.Kinds.{kind_of, first_row_of}
use Rattle.hm_model.specs.Rules.{IsLegal}
use Rattle.hm_model.specs.Lists.{Line, exact_rows, layout_first, lines_of, orders_of}
use Rattle.hm_model.specs.Locks.{IsIn}
use Rattle.hm_model.specs.Sheets.{sheet_for, sheets_by, sheets_of}
use Rattle.hm_model.specs.Tree.{made}
use Rattle.hm_model.specs.ActSorts.{is_check}
use Rattle.hm_model.specs.Validity.{AllValid, IsValid, difference, is_among, longest_kept, misfit_in, same_flag, same_row}
use Rattle.hm_model.proofs.ValidSheets.{Leads, if_none, is_last, same_act, same_back, same_flag-is, valid_end, valid_fits, valid_leads}
use Rattle.hm_model.proofs.Siblings.{all_in}
use Rattle.hm_model.proofs.PlainActs.{is_plain}
use Rattle.hm_model.proofs.Small.{cons_nil}

-- the sheets in force are valid
pub all_valid : (J : Past) → IsLegal J → AllValid (sheets_of J)
all_valid [] legal = tt
all_valid (entry_is.Start sheets ∷ before) legal = legal.1.0.1.1
all_valid (entry_is.Adopt sheets ∷ before) legal = legal.1.1.0.0.1
all_valid (entry_is.Base part ∷ before) legal = by part legal.1.0 (all_valid before legal.0)
  where
    by : (part : Part) → PartFits part before → AllValid (sheets_of before) → AllValid (sheets_of (entry_is.Base part ∷ before))
    by (part_is.Head entries last parts sheets) fits was = fits.1.1
    by part fits was = was
all_valid (entry ∷ before) legal = all_valid before legal.0

if_valid : (new : Bool) (now was : List Sheet) → AllValid now → AllValid was → AllValid (cond new now was)
if_valid true now was is own = is
if_valid false now was is own = own

-- so are those of each root
pub valid_by : (J : Past) → IsLegal J → (root : ℕ) → AllValid (sheets_by J root)
valid_by [] legal root = tt
valid_by (entry_is.Submit nonce request ∷ before) legal root = if_valid (root == made before + 1) (sheets_of before) (sheets_by before root) (all_valid before legal.0) (valid_by before legal.0 root)
valid_by (entry_is.Undo pid row out ∷ before) legal root = if_valid (nat_lt (made before) root) (sheets_of before) (sheets_by before root) (all_valid before legal.0) (valid_by before legal.0 root)
valid_by (entry_is.Down server ∷ before) legal root = if_valid (root == made before + 1) (sheets_of before) (sheets_by before root) (all_valid before legal.0) (valid_by before legal.0 root)
valid_by (entry_is.Base part ∷ before) legal root = tt
valid_by (entry ∷ before) legal root = valid_by before legal.0 root

-- a sheet that is found is valid, and of the kind
pub sheet_is : (sheets : List Sheet) → AllValid sheets → (kind : ℕ) (sheet : Sheet) → sheet_for sheets kind ≡ Some sheet → IsValid sheet × (sheet.kind ≡ kind)
sheet_is [] valid kind sheet is = absurd (none-some sheet is)
sheet_is (first ∷ more) valid kind sheet is = elim (cases_Bool (first.kind == kind)) [
  | inl on ↦
      let same : first ≡ sheet = same_Some first sheet (sym (cond-true (first.kind == kind) (Some first) (sheet_for more kind) on) ∙ is) in
      (subst IsValid same valid.0, ap (λ s. s.kind) (sym same) ∙ eqb-true first.kind kind on)
  | inr off ↦ sheet_is more valid.1 kind sheet (sym (cond-false (first.kind == kind) (Some first) (sheet_for more kind) off) ∙ is)
]

abbrev row_with : Act → ℕ → Bool → Back → Row
row_with act next after undo = record { act = act; next = next; after = after; undo = undo }

row_same : (a b : Row) → same_row a b ≡ true → a ≡ b
row_same a b h =
    let p = and_parts (act_number a.act == act_number b.act) ((a.next == b.next) && (same_flag a.after b.after && (back_number a.undo == back_number b.undo))) h in
    let q = and_parts (a.next == b.next) (same_flag a.after b.after && (back_number a.undo == back_number b.undo)) p.1 in
    let r = and_parts (same_flag a.after b.after) (back_number a.undo == back_number b.undo) q.1 in
    ap (λ x. row_with x a.next a.after a.undo) (same_act a.act b.act (eqb-true (act_number a.act) (act_number b.act) p.0))
    ∙ ap (λ x. row_with b.act x a.after a.undo) (eqb-true a.next b.next q.0)
    ∙ ap (λ x. row_with b.act b.next x a.undo) (same_flag-is a.after b.after r.0)
    ∙ ap (λ x. row_with b.act b.next b.after x) (same_back a.undo b.undo (eqb-true (back_number a.undo) (back_number b.undo) r.1))

no_difference : (exact rows : List Row) (place : ℕ) → difference exact rows place ≡ None → rows ≡ exact
no_difference [] [] place h = refl
no_difference [] (row ∷ rows) place h = absurd (none-some place (sym h))
no_difference (row ∷ exact) [] place h = absurd (none-some place (sym h))
no_difference (row ∷ exact) (other ∷ rows) place h =
    let p = if_none (same_row row other) (difference exact rows (place + 1)) place h in
    ap (λ x. x ∷ rows) (sym (row_same row other p.0)) ∙ ap (λ l. row ∷ l) (no_difference exact rows (place + 1) p.1)

misfit_none : (first : Row) (more : List Row) (lines : List Line) (rows : List Row) → misfit_in (first ∷ more) lines rows ≡ None → rows ≡ first ∷ more
misfit_none first more lines [] h = absurd (none-some 0 (sym h))
misfit_none first more lines (row ∷ rows) h = no_difference (first ∷ more) (row ∷ rows) 0 h

-- a valid sheet of a kind of exact rows has these
pub exact_is : (sheet : Sheet) → IsValid sheet → (kind : ℕ) → sheet.kind ≡ kind → (first : Row) (more : List Row) → exact_rows kind ≡ first ∷ more → sheet.rows ≡ first ∷ more
exact_is sheet valid kind e first more is =
    let lines = longest_kept sheet.rows (orders_of sheet.kind) in
    misfit_none first more lines sheet.rows (ap (λ l. misfit_in l lines sheet.rows) (sym (ap exact_rows e ∙ is)) ∙ valid_fits sheet valid)

abbrev pub all_plain : List Line → Bool
all_plain [] = true
all_plain (line ∷ lines) = is_plain line.act && all_plain lines

-- the act is listed for the kind
abbrev pub is_listed : ℕ → Act → Bool
is_listed kind act = list_any (λ line. act_number line.act == act_number act) (lines_of kind)

of_lines : (test : Act → Bool) (lines : List Line) (act : Act) → list_all (λ line. test line.act) lines ≡ true → list_any (λ line. act_number line.act == act_number act) lines ≡ true → test act ≡ true
of_lines test [] act all any = absurd (false≢true any)
of_lines test (line ∷ lines) act all any =
    let both = and_parts (test line.act) (list_all (λ own. test own.act) lines) all in
    elim (or_cases (act_number line.act == act_number act) (list_any (λ own. act_number own.act == act_number act) lines) any) [
      | inl here ↦ subst (λ a. test a ≡ true) (same_act line.act act (eqb-true (act_number line.act) (act_number act) here)) both.0
      | inr later ↦ of_lines test lines act both.1 later
    ]

-- what holds of each line of a kind holds of the acts that it lists
pub of_listed : (test : Act → Bool) (kind : ℕ) (act : Act) → list_all (λ line. test line.act) (lines_of kind) ≡ true → is_listed kind act ≡ true → test act ≡ true
of_listed test kind act all listed = of_lines test (lines_of kind) act all listed

abbrev pub all_listed : ℕ → List Line → Bool
all_listed kind [] = true
all_listed kind (line ∷ lines) = is_listed kind line.act && all_listed kind lines

-- the lines end, or go on after the point
abbrev pub is_late_next : List Line → Bool
is_late_next [] = true
is_late_next (line ∷ lines) = line.after

-- a line stands before others in an order that can be undone: what edits without an undo ends, or is followed by what is
-- after the point; so is what is after the point, and it is no check; what makes procedures that may fail goes on before
-- the point, and what is undone by its edits stands there
abbrev pub is_in_place : Line → List Line → Bool
is_in_place line lines =
    let act = act_number line.act in
    (not (is_among (2 ∷ 4 ∷ 11 ∷ 14 ∷ 18 ∷ 19 ∷ 22 ∷ 27 ∷ 30 ∷ []) act) || is_late_next lines)
    && ((not line.after || (is_late_next lines && not (is_check line.act)))
    && ((not (is_among (7 ∷ 8 ∷ []) act) || not (is_late_next lines))
    && ((not (act == 13) || (is_late_next lines && not (is_last lines)))
    && ((not (is_among (6 ∷ 9 ∷ 16 ∷ []) act) || (not line.after && not (is_last lines)))
    && ((not (act == 29) || not line.after) && (not (act == 30) || line.after))))))

abbrev pub all_in_place : List Line → Bool
all_in_place [] = true
all_in_place (line ∷ lines) = is_in_place line lines && all_in_place lines

-- rows from a place on lead through plain acts of a kind
pub record IsLed (kind : ℕ) (rows : List Row) (place : ℕ) : Type 0 where
  pub lines : List Line
  pub plain : all_plain lines ≡ true
  pub listed : all_listed kind lines ≡ true
  pub order : all_in_place lines ≡ true
  pub leads : Leads rows place lines

-- what is known of an order's lines
abbrev is_order : ℕ → List Line → Bool
is_order kind lines = all_plain lines && (all_listed kind lines && all_in_place lines)

-- a kind that lists lines begins at row 0, and each of its orders is such
orders_fine : (args : Args) → exact_rows (kind_of args) ≡ [] → (first_row_of args ≡ 0) × (list_all (is_order (kind_of args)) (orders_of (kind_of args)) ≡ true)
orders_fine (args_are.Root (request_is.CreateNamespace ns) first) none = (refl, refl)
orders_fine (args_are.Root (request_is.DropNamespace ns) first) none = (refl, refl)
orders_fine (args_are.Root (request_is.CreateTable table keys) first) none = (refl, refl)
orders_fine (args_are.Root (request_is.DeleteTable table) first) none = (refl, refl)
orders_fine (args_are.Root (request_is.EnableTable table) first) none = (refl, refl)
orders_fine (args_are.Root (request_is.DisableTable table) first) none = (refl, refl)
orders_fine (args_are.Root (request_is.ModifyTable table version) first) none = (refl, refl)
orders_fine (args_are.Root (request_is.SplitRegion region key) first) none = (refl, refl)
orders_fine (args_are.Root (request_is.MergeRegions regions) first) none = (refl, refl)
orders_fine (args_are.AddRegions table first bounds) none = (refl, refl)
orders_fine (args_are.DropRegions table ids) none = (refl, refl)
orders_fine args none = absurd (cons_nil _ _ none)

-- the sheet of a kind that lists lines leads through one of its orders from its first row on
pub start_leads : (args : Args) → exact_rows (kind_of args) ≡ [] → (sheet : Sheet) → IsValid sheet → sheet.kind ≡ kind_of args → (lines : List Line) × IsIn lines (orders_of (kind_of args)) × Leads sheet.rows (first_row_of args) lines
start_leads args none sheet valid e =
    let led = valid_leads sheet valid (ap exact_rows e ∙ none) in
    (led.0, subst (λ k. IsIn led.0 (orders_of k)) e led.1, subst (λ n. Leads sheet.rows n led.0) (sym (orders_fine args none).0) led.2)

-- the act of the first line
abbrev pub first_act : List Line → Option Act
first_act [] = None
first_act (line ∷ lines) = Some line.act

-- all orders of a kind begin with one act
pub begin_alike : (kind : ℕ) (lines : List Line) → IsIn lines (orders_of kind) → first_act lines ≡ first_act (lines_of kind)
begin_alike kind lines (inl same) = ap first_act same
begin_alike kind lines (inr other) = by (kind == 8) refl other
  where
    by : (b : Bool) → (kind == 8) ≡ b → IsIn lines (cond b (layout_first ∷ []) []) → first_act lines ≡ first_act (lines_of kind)
    by true e (inl same) = ap first_act same ∙ ap (λ k. first_act (lines_of k)) (sym (eqb-true kind 8 e))
    by true e (inr never) = absurd never
    by false e never = absurd never

-- so its rows lead through plain acts
pub start_led : (args : Args) → exact_rows (kind_of args) ≡ [] → (sheet : Sheet) → IsValid sheet → sheet.kind ≡ kind_of args → IsLed (kind_of args) sheet.rows (first_row_of args)
start_led args none sheet valid e =
    let kind = kind_of args in
    let led = start_leads args none sheet valid e in
    let order = all_in (is_order kind) (orders_of kind) led.0 (orders_fine args none).1 led.1 in
    let plain = and_parts (all_plain led.0) (all_listed kind led.0 && all_in_place led.0) order in
    let listed = and_parts (all_listed kind led.0) (all_in_place led.0) plain.1 in
    record { lines = led.0; plain = plain.0; listed = listed.0; order = listed.1; leads = led.2 }

-- what is known of a row that is led to: its line, and the lines after it
pub record IsLedRow (kind : ℕ) (rows : List Row) (row : Row) : Type 0 where
  pub line : Line
  pub behind : List Line
  pub act_is : row.act ≡ line.act
  pub after_is : row.after ≡ line.after
  pub ends : (row.next == no_row) ≡ is_last behind
  pub in_place : is_in_place line behind ≡ true
  pub plain : is_plain row.act ≡ true
  pub listed : is_listed kind row.act ≡ true
  pub leads : Leads rows row.next behind
  pub on : IsLed kind rows row.next

-- the row at the place is such a row
pub led_row : (kind : ℕ) (sheet : Sheet) → IsValid sheet → (place : ℕ) → IsLed kind sheet.rows place → (row : Row) → slice_get sheet.rows place ≡ Some row → IsLedRow kind sheet.rows row
led_row kind sheet valid place led row is = by led.lines led.plain led.listed led.order led.leads
  where
    by : (lines : List Line) → all_plain lines ≡ true → all_listed kind lines ≡ true → all_in_place lines ≡ true → Leads sheet.rows place lines → IsLedRow kind sheet.rows row
    by [] plain listed order leads = absurd (valid_end sheet valid row (ap (slice_get sheet.rows) (sym leads) ∙ is))
    by (line ∷ lines) plain listed order leads =
        let same : leads.0 ≡ row = same_Some leads.0 row (sym leads.1 ∙ is) in
        let p = and_parts (is_plain line.act) (all_plain lines) plain in
        let q = and_parts (is_listed kind line.act) (all_listed kind lines) listed in
        let o = and_parts (is_in_place line lines) (all_in_place lines) order in
        let on = subst (λ (r : Row). Leads sheet.rows r.next lines) same leads.4 in
        record {
          line = line;
          behind = lines;
          act_is = ap (λ (r : Row). r.act) (sym same) ∙ leads.2.0;
          after_is = ap (λ (r : Row). r.after) (sym same) ∙ leads.2.1;
          ends = ap (λ (r : Row). r.next == no_row) (sym same) ∙ leads.3;
          in_place = o.0;
          plain = ap (λ (r : Row). is_plain r.act) (sym same) ∙ ap is_plain leads.2.0 ∙ p.0;
          listed = ap (λ (r : Row). is_listed kind r.act) (sym same) ∙ ap (is_listed kind) leads.2.0 ∙ q.0;
          leads = on;
          on = record { lines = lines; plain = p.1; listed = q.1; order = o.1; leads = on };
        }

-- each of the rows passes a test
abbrev pub all_rows : (Row → Bool) → List Row → Bool
all_rows test [] = true
all_rows test (row ∷ rows) = test row && all_rows test rows

pub row_passes : (test : Row → Bool) (rows : List Row) → all_rows test rows ≡ true → (place : ℕ) (row : Row) → slice_get rows place ≡ Some row → test row ≡ true
row_passes test [] all place row is = absurd (none-some row is)
row_passes test (first ∷ more) all zero row is = ap test (sym (same_Some first row is)) ∙ (and_parts (test first) (all_rows test more) all).0
row_passes test (first ∷ more) all (suc place) row is = row_passes test more (and_parts (test first) (all_rows test more) all).1 place row is
