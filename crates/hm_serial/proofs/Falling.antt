-- What a step edits, and whether its tree may still fail after it.
use Rattle.std.proofs.Common.{◌≡◌, ℕ, List, [], ◌∷◌, ◌++◌, Bool, true, false, not, ◌&&◌, ◌||◌, ◌==◌, nat_le, cond, Option, Some, None, refl, ap, sym, ◌∙◌, subst, inl, inr, ◌⊎◌, slice_get}
use Rattle.std.proofs.lemmas.Bool.{and_left, and_parts, and_right, false≢true, not-true, not_from_true, or_cases, true≢false}
use Rattle.std.proofs.lemmas.Option.{none-some, same_Some}
use Rattle.hm_names.specs.Server.{Server}
use Rattle.hm_names.specs.declared.table.TableName.{TableName}
use Rattle.hm_data.specs.Numbers.{act_number, back_number}
use Rattle.hm_data.specs.declared.act.Act.{Act}
use Rattle.hm_data.specs.declared.act.Act.TheVariants as act_is
use Rattle.hm_data.specs.declared.act.Back.{Back}
use Rattle.hm_data.specs.declared.act.Back.TheVariants as back_is
use Rattle.hm_data.specs.declared.answer.Answer.{Answer}
use Rattle.hm_data.specs.declared.answer.Answer.TheVariants as answer_is
use Rattle.hm_data.specs.declared.answer.Cause.{Cause}
use Rattle.hm_data.specs.declared.answer.Cause.TheVariants as cause_is
use Rattle.hm_data.specs.declared.args.Args.{Args}
use Rattle.hm_data.specs.declared.args.Args.TheVariants as args_are
use Rattle.hm_data.specs.declared.sheet.Row.{Row}
use Rattle.hm_data.specs.declared.sheet.Sheet.{Sheet}
use Rattle.hm_data.specs.declared.step.StepIn.{StepIn}
use Rattle.hm_data.specs.declared.step.StepOut.{StepOut}
use Rattle.hm_model.specs.Acts.{act_answer}
use Rattle.hm_model.specs.Answers.{failing, is_stop, no_row, row_after, row_of}
use Rattle.hm_model.specs.Catalog.{cat}
use Rattle.hm_model.specs.Evaluation.{is_cut_off}
use Rattle.hm_model.specs.Inputs.{step_input}
use Rattle.hm_model.specs.Journal.{Past}
use Rattle.hm_model.specs.Kinds.{first_row_of, kind_of}
use Rattle.hm_model.specs.Lists.{Line}
use Rattle.hm_model.specs.Locks.{IsIn, asks, exclusive}
use Rattle.hm_model.specs.Outs.{fails}
use Rattle.hm_model.specs.ActSorts.{is_check, is_edit}
use Rattle.hm_model.specs.Validity.{IsValid, ends_root, first_broken, is_among, row_rules, rules_of_row}
use Rattle.hm_model.specs.declared.lock.Resource.TheVariants as resource_is
use Rattle.hm_model.proofs.ExactRows.{IsLedRow, is_late_next, is_listed}
use Rattle.hm_model.proofs.LegalSteps.{StepFacts}
use Rattle.hm_model.proofs.PlainActs.{GoesTo, fine_act, plain_act}
use Rattle.hm_model.proofs.ValidSheets.{Leads, first_holds, is_last, valid_end}
use Rattle.hm_kinds.proofs.Editless.{no_adds}
use Rattle.hm_serial.proofs.Editing.{IsEdit, edit_step, is_telling, rows_table}
use Rattle.hm_model.proofs.Rows.{row_read}
use Rattle.hm_model.proofs.Small.{implied}
use Rattle.hm_kinds.proofs.Kids.{MadeBy, kids_act}
use Rattle.hm_serial.proofs.Local.{Within}
use Rattle.hm_model.specs.GoingBack.{Tells}

-- the sixth of rules holds, if there are so many
abbrev SixthHolds : List (ℕ × Bool) → Type 0
SixthHolds (a ∷ b ∷ c ∷ d ∷ e ∷ f ∷ more) = f.1 ≡ true
SixthHolds rules = Unit {0}

six_hold : (rules : List (ℕ × Bool)) → first_broken rules ≡ None → SixthHolds rules
six_hold ((m1, a) ∷ (m2, b) ∷ (m3, c) ∷ (m4, d) ∷ (m5, e) ∷ (m6, f) ∷ more) h =
    let one = first_holds m1 a ((m2, b) ∷ (m3, c) ∷ (m4, d) ∷ (m5, e) ∷ (m6, f) ∷ more) h in
    let two = first_holds m2 b ((m3, c) ∷ (m4, d) ∷ (m5, e) ∷ (m6, f) ∷ more) one.1 in
    let three = first_holds m3 c ((m4, d) ∷ (m5, e) ∷ (m6, f) ∷ more) two.1 in
    let four = first_holds m4 d ((m5, e) ∷ (m6, f) ∷ more) three.1 in
    let five = first_holds m5 e ((m6, f) ∷ more) four.1 in
    (first_holds m6 f more five.1).0
six_hold rules h = tt

front_holds : (rules : List (ℕ × Bool)) (k : ℕ) (b : Bool) → first_broken (rules ++ (k, b) ∷ []) ≡ None → first_broken rules ≡ None
front_holds [] k b h = refl
front_holds ((n, true) ∷ rules) k b h = front_holds rules k b h
front_holds ((n, false) ∷ rules) k b h = absurd (none-some n (sym h))

edits_number : (undo : Back) → (back_number undo == 1) ≡ true → undo ≡ back_is.Edits
edits_number back_is.Edits h = refl
edits_number undo h = absurd (false≢true h)

-- a row that edits before the point, and doesn't end a root, is undone by its edits
pub undone_by_edits : (sheet : Sheet) → IsValid sheet → (place : ℕ) (row : Row) → slice_get sheet.rows place ≡ Some row → is_edit row.act ≡ true → row.after ≡ false → ends_root sheet.kind row ≡ false → row.undo ≡ back_is.Edits
undone_by_edits sheet valid place row is edit before not_ends =
    let all = front_holds (rules_of_row sheet.kind sheet.rows place (slice_get sheet.rows place)) 8 (Rattle.hm_model.specs.Validity.is_not place (Rattle.hm_model.specs.Validity.misfit sheet)) (valid place) in
    let six = six_hold (row_rules sheet.kind sheet.rows place row) (subst (λ o. first_broken (rules_of_row sheet.kind sheet.rows place o) ≡ None) is all) in
    elim (or_cases (not (is_edit row.act)) (row.after || (ends_root sheet.kind row || (back_number row.undo == 1))) six) [
      | inl no_edit ↦ absurd (true≢false (sym no_edit ∙ not_from_true (is_edit row.act) edit))
      | inr more ↦ elim (or_cases row.after (ends_root sheet.kind row || (back_number row.undo == 1)) more) [
        | inl late ↦ absurd (true≢false (sym late ∙ before))
        | inr rest ↦ elim (or_cases (ends_root sheet.kind row) (back_number row.undo == 1) rest) [
          | inl ends ↦ absurd (true≢false (sym ends ∙ not_ends))
          | inr undo ↦ edits_number row.undo undo
        ]
      ]
    ]

-- after an answer the next row, if there is one, is after the point
abbrev pub IsPast : List Row → ℕ → Answer → Type 0
IsPast rows first answer = is_stop answer ≡ false → (row : Row) → slice_get rows (row_after first (Some answer)) ≡ Some row → row.after ≡ true

-- after an answer the next row is there, before the point
abbrev pub IsEarly : List Row → ℕ → Answer → Type 0
IsEarly rows first answer = (is_stop answer ≡ false) × (row : Row) × (slice_get rows (row_after first (Some answer)) ≡ Some row) × (row.after ≡ false)

pub late_behind : (sheet : Sheet) → IsValid sheet → (lines : List Line) (place : ℕ) → is_late_next lines ≡ true → Leads sheet.rows place lines → (row : Row) → slice_get sheet.rows place ≡ Some row → row.after ≡ true
late_behind sheet valid [] place late leads row is = absurd (valid_end sheet valid row (ap (slice_get sheet.rows) (sym leads) ∙ is))
late_behind sheet valid (line ∷ lines) place late leads row is = ap (λ (r : Row). r.after) (sym (same_Some leads.0 row (sym leads.1 ∙ is))) ∙ leads.2.1 ∙ late

early_behind : (sheet : Sheet) (lines : List Line) (place : ℕ) → is_late_next lines ≡ false → Leads sheet.rows place lines → (row : Row) × (slice_get sheet.rows place ≡ Some row) × (row.after ≡ false)
early_behind sheet [] place late leads = absurd (true≢false late)
early_behind sheet (line ∷ lines) place late leads = (leads.0, leads.1, leads.2.1 ∙ late)

pub goes_past : (rows : List Row) (first next : ℕ) (answer : Answer) → GoesTo next answer → ((row : Row) → slice_get rows next ≡ Some row → row.after ≡ true) → IsPast rows first answer
goes_past rows first next (answer_is.Await n) goes late runs row is = absurd goes
goes_past rows first next (answer_is.Done told) goes late runs row is = absurd (true≢false runs)
goes_past rows first next (answer_is.Fail c) goes late runs row is = absurd (true≢false runs)
goes_past rows first next answer_is.Undone goes late runs row is = absurd goes
goes_past rows first next answer goes late runs row is = late row (ap (slice_get rows) (sym goes) ∙ is)

-- what is known of the place of a row among the lines
pub record Places (row : Row) (line : Line) (behind : List Line) : Type 0 where
  pub ends_late : is_among (2 ∷ 4 ∷ 11 ∷ 14 ∷ 18 ∷ 19 ∷ 22 ∷ 27 ∷ 30 ∷ []) (act_number row.act) ≡ true → is_late_next behind ≡ true
  pub late : row.after ≡ true → (is_late_next behind ≡ true) × (is_check row.act ≡ false)
  pub makes_early : is_among (7 ∷ 8 ∷ []) (act_number row.act) ≡ true → is_late_next behind ≡ false
  pub drops_late : (act_number row.act == 13) ≡ true → is_late_next behind ≡ true
  pub tells_early : is_among (6 ∷ 9 ∷ 16 ∷ []) (act_number row.act) ≡ true → (row.after ≡ false) × (is_last behind ≡ false)
  pub adds_early : (act_number row.act == 29) ≡ true → row.after ≡ false
  pub removes_late : (act_number row.act == 30) ≡ true → row.after ≡ true

pub places_of : (kind : ℕ) (rows : List Row) (row : Row) (led : IsLedRow kind rows row) → Places row led.line led.behind
places_of kind rows row led =
    let act = act_number led.line.act in
    let same : act_number row.act ≡ act = ap act_number led.act_is in
    let behind = led.behind in
    let one = and_parts (not (is_among (2 ∷ 4 ∷ 11 ∷ 14 ∷ 18 ∷ 19 ∷ 22 ∷ 27 ∷ 30 ∷ []) act) || is_late_next behind) _ led.in_place in
    let two = and_parts (not led.line.after || (is_late_next behind && not (is_check led.line.act))) _ one.1 in
    let three = and_parts (not (is_among (7 ∷ 8 ∷ []) act) || not (is_late_next behind)) _ two.1 in
    let four = and_parts (not (act == 13) || (is_late_next behind && not (is_last behind))) _ three.1 in
    let five = and_parts (not (is_among (6 ∷ 9 ∷ 16 ∷ []) act) || (not led.line.after && not (is_last behind))) ((not (act == 29) || not led.line.after) && (not (act == 30) || led.line.after)) four.1 in
    let six = and_parts (not (act == 29) || not led.line.after) (not (act == 30) || led.line.after) five.1 in
    record {
      ends_late = λ h. implied _ (is_late_next behind) (ap (is_among (2 ∷ 4 ∷ 11 ∷ 14 ∷ 18 ∷ 19 ∷ 22 ∷ 27 ∷ 30 ∷ [])) (sym same) ∙ h) one.0;
      late = λ h. let p = and_parts (is_late_next behind) (not (is_check led.line.act)) (implied led.line.after _ (sym led.after_is ∙ h) two.0) in (p.0, ap is_check led.act_is ∙ not-true (is_check led.line.act) p.1);
      makes_early = λ h. not-true (is_late_next behind) (implied _ (not (is_late_next behind)) (ap (is_among (7 ∷ 8 ∷ [])) (sym same) ∙ h) three.0);
      drops_late = λ h. (and_parts (is_late_next behind) (not (is_last behind)) (implied (act == 13) _ (ap (λ n. n == 13) (sym same) ∙ h) four.0)).0;
      tells_early = λ h. let p = and_parts (not led.line.after) (not (is_last behind)) (implied _ _ (ap (is_among (6 ∷ 9 ∷ 16 ∷ [])) (sym same) ∙ h) five.0) in (led.after_is ∙ not-true led.line.after p.0, not-true (is_last behind) p.1);
      adds_early = λ h. led.after_is ∙ not-true led.line.after (implied (act == 29) (not led.line.after) (ap (λ n. n == 29) (sym same) ∙ h) six.0);
      removes_late = λ h. led.after_is ∙ implied (act == 30) led.line.after (ap (λ n. n == 30) (sym same) ∙ h) six.1;
    }

-- which kind of edit an act makes
edit_cases : (act : Act) → is_edit act ≡ true → (is_among (2 ∷ 4 ∷ 11 ∷ 14 ∷ 18 ∷ 19 ∷ 22 ∷ 27 ∷ 30 ∷ []) (act_number act) ≡ true) ⊎ ((is_among (6 ∷ 9 ∷ 16 ∷ []) (act_number act) ≡ true) ⊎ ((act_number act == 29) ≡ true))
edit_cases act_is.AddNamespace e = inl refl
edit_cases act_is.DropNamespace e = inl refl
edit_cases act_is.SetEnabled e = inl refl
edit_cases act_is.DropTable e = inl refl
edit_cases act_is.SetDisabled e = inl refl
edit_cases act_is.SetVersion e = inl refl
edit_cases act_is.UpdateSplitMeta e = inl refl
edit_cases act_is.UpdateMergeMeta e = inl refl
edit_cases act_is.DropRegionRows e = inl refl
edit_cases act_is.AddTable e = inr (inl refl)
edit_cases act_is.SetEnabling e = inr (inl refl)
edit_cases act_is.SetDisabling e = inr (inl refl)
edit_cases act_is.AddRegionRows e = inr (inr refl)
edit_cases act e = absurd (false≢true e)

drops_fine : (act : Act) → (act_number act == 13) ≡ true → is_check act ≡ false
drops_fine act_is.DropRegions h = refl
drops_fine act h = absurd (false≢true h)

edit_fine : (act : Act) → is_edit act ≡ true → is_check act ≡ false
edit_fine act_is.AddNamespace e = refl
edit_fine act_is.DropNamespace e = refl
edit_fine act_is.SetEnabled e = refl
edit_fine act_is.DropTable e = refl
edit_fine act_is.SetDisabled e = refl
edit_fine act_is.SetVersion e = refl
edit_fine act_is.UpdateSplitMeta e = refl
edit_fine act_is.UpdateMergeMeta e = refl
edit_fine act_is.DropRegionRows e = refl
edit_fine act_is.AddTable e = refl
edit_fine act_is.SetEnabling e = refl
edit_fine act_is.SetDisabling e = refl
edit_fine act_is.AddRegionRows e = refl
edit_fine act e = absurd (false≢true e)

telling_if : (act : Act) → (is_among (6 ∷ 9 ∷ 16 ∷ []) (act_number act) ≡ true) ⊎ ((act_number act == 29) ≡ true) → is_telling act ≡ true
telling_if act_is.AddTable h = refl
telling_if act_is.SetEnabling h = refl
telling_if act_is.SetDisabling h = refl
telling_if act_is.AddRegionRows h = refl
telling_if act (inl h) = absurd (false≢true h)
telling_if act (inr h) = absurd (false≢true h)

-- the only act of a procedure that adds regions' rows
adds_only : (act : Act) → is_listed 20 act ≡ true → (act_number act == 29) ≡ true
adds_only act_is.AddRegionRows h = refl
adds_only act h = absurd (false≢true h)

-- what a step of a procedure that lists its rows edits
pub record StepEdits (J : Past) (p : ℕ) (root args : Args) (sheet : Sheet) (row : Row) (out : StepOut) : Type 0 where
  pub within : Within root out.edits
  pub clean : (c : Cause) → failing out.answer ≡ Some c → out.edits ≡ []
  pub kept : (out.edits ≡ []) ⊎ (((row.undo ≡ back_is.Edits) × Tells out.edits (cat J)) ⊎ ((failing out.answer ≡ None) × IsPast sheet.rows (first_row_of args) out.answer))
  pub late : row.after ≡ true → (failing out.answer ≡ None) × IsPast sheet.rows (first_row_of args) out.answer
  pub adds : kind_of args ≡ 20 → (out.edits ≡ []) ⊎ ((row.undo ≡ back_is.Edits) × Tells out.edits (cat J))
  pub made : MadeBy row.act args out
  pub early : is_among (7 ∷ 8 ∷ []) (act_number row.act) ≡ true → (IsEarly sheet.rows (first_row_of args) out.answer) ⊎ (out.children ≡ [])
  pub drops : (act_number row.act == 13) ≡ true → (failing out.answer ≡ None) × IsPast sheet.rows (first_row_of args) out.answer ⊎ (out.children ≡ [])

adds_kind : (args : Args) → is_listed (kind_of args) act_is.AddRegionRows ≡ true → kind_of args ≡ 20
adds_kind (args_are.AddRegions table first bounds) h = refl
adds_kind (args_are.Root request first) h = absurd (no_adds request h)
adds_kind args h = absurd (false≢true h)

adds_act : (act : Act) → (act_number act == 29) ≡ true → act ≡ act_is.AddRegionRows
adds_act act_is.AddRegionRows h = refl
adds_act act h = absurd (false≢true h)

waits_or_none : (answer : Answer) (children : List Rattle.hm_data.specs.declared.args.Child.Child) → Rattle.hm_model.proofs.PlainActs.ChildrenWait answer children → ((n : ℕ) × (answer ≡ answer_is.Wait n)) ⊎ (children ≡ [])
waits_or_none (answer_is.Wait n) children h = inl (n, refl)
waits_or_none answer children h = inr h

module _ (J : Past) (p : ℕ) (pick : Option Server) (out : StepOut) (step : StepFacts J p pick out) (led : IsLedRow (kind_of step.node.args) step.sheet.rows step.row) (root : Args) (own : rows_table step.node.args ≡ None → root ≡ step.node.args) (belongs : (t : TableName) → rows_table step.node.args ≡ Some t → IsIn (exclusive (resource_is.Table t)) (asks root)) where
  at_row : StepIn
  at_row = step_input J p step.node pick

  where_it_is : Places step.row led.line led.behind
  where_it_is = places_of (kind_of step.node.args) step.sheet.rows step.row led

  past : (answer : Answer) → GoesTo step.row.next answer → is_late_next led.behind ≡ true → IsPast step.sheet.rows (first_row_of step.node.args) answer
  past answer goes late = goes_past step.sheet.rows (first_row_of step.node.args) step.row.next answer goes (λ row is. late_behind step.sheet step.valid led.behind step.row.next late led.leads row is)

  cut_edits : is_cut_off step.row (step_input J p step.node pick) ≡ true → StepEdits J p root step.node.args step.sheet step.row (fails cause_is.Aborted)
  cut_edits cut = record {
    within = tt;
    clean = λ c h. refl;
    kept = inl refl;
    late = λ after. absurd (true≢false (sym (and_parts (step_input J p step.node pick).aborted (not step.row.after) cut).1 ∙ not_from_true step.row.after after));
    adds = λ h. inl refl;
    made = tt;
    early = λ h. inr refl;
    drops = λ h. inr refl;
  }

  -- such an edit is undone by its edits, and tells what stands there
  told_edits : (edits : List Rattle.hm_data.specs.declared.catalog.Edit.Edit) → IsEdit root step.node.args step.row.act (step_input J p step.node pick) edits → is_edit step.row.act ≡ true → (is_among (6 ∷ 9 ∷ 16 ∷ []) (act_number step.row.act) ≡ true) ⊎ ((act_number step.row.act == 29) ≡ true) → (step.row.undo ≡ back_is.Edits) × Tells edits (cat J)
  told_edits edits e edit h = (undone_by_edits step.sheet step.valid (row_of J p step.node) step.row step.row_is edit (before h) (not_ends h), e.tells (telling_if step.row.act h) (cat J) (λ key reading. row_read J step.node.args key reading))
    where
      before : (is_among (6 ∷ 9 ∷ 16 ∷ []) (act_number step.row.act) ≡ true) ⊎ ((act_number step.row.act == 29) ≡ true) → step.row.after ≡ false
      before (inl tells) = (where_it_is.tells_early tells).0
      before (inr adds) = where_it_is.adds_early adds

      not_ends : (is_among (6 ∷ 9 ∷ 16 ∷ []) (act_number step.row.act) ≡ true) ⊎ ((act_number step.row.act == 29) ≡ true) → ends_root step.sheet.kind step.row ≡ false
      not_ends (inl tells) = and_left (step.row.next == no_row) _ (led.ends ∙ (where_it_is.tells_early tells).1)
      not_ends (inr adds) =
          let kind : step.sheet.kind ≡ 20 = step.of_kind ∙ adds_kind step.node.args (ap (is_listed (kind_of step.node.args)) (sym (adds_act step.row.act adds)) ∙ led.listed) in
          and_right (step.row.next == no_row) _ (ap (λ k. nat_le 1 k && nat_le k 11) kind)

  act_edits : StepEdits J p root step.node.args step.sheet step.row (act_answer step.row.act step.row.next (step_input J p step.node pick))
  act_edits =
      let act = step.row.act in
      let next = step.row.next in
      let at = step_input J p step.node pick in
      let e = edit_step J p pick step.node.above step.node.root step.node.first root act step.node.args led.plain led.listed own belongs next in
      let g = plain_act act led.plain next at in
      record {
        within = e.within;
        clean = λ c h. elim e.some [ inl none ↦ none | inr edit ↦ absurd (none-some c (sym (fine_act act led.plain (edit_fine act edit) next at) ∙ h)) ];
        kept = elim e.some [
          | inl none ↦ inl none
          | inr edit ↦ elim (edit_cases act edit) [
            | inl late ↦ inr (inr (fine_act act led.plain (edit_fine act edit) next at, past _ g.goes (where_it_is.ends_late late)))
            | inr tells ↦ inr (inl (told_edits _ e edit tells))
          ]
        ];
        late = λ after. let l = where_it_is.late after in (fine_act act led.plain l.1 next at, past _ g.goes l.0);
        adds = λ kind. elim e.some [ inl none ↦ inl none | inr edit ↦ inr (told_edits _ e edit (inr (adds_only act (ap (λ k. is_listed k act) (sym kind) ∙ led.listed)))) ];
        made = kids_act act led.plain next at;
        early = λ h. by_wait (act_answer act next at).answer (act_answer act next at).children g.goes (waits_or_none _ _ g.waits) (where_it_is.makes_early h);
        drops = λ h. inl (fine_act act led.plain (drops_fine act h) next at, past _ g.goes (where_it_is.drops_late h));
      }
    where
      by_wait : (answer : Answer) (children : List Rattle.hm_data.specs.declared.args.Child.Child) → GoesTo step.row.next answer → ((n : ℕ) × (answer ≡ answer_is.Wait n)) ⊎ (children ≡ []) → is_late_next led.behind ≡ false → IsEarly step.sheet.rows (first_row_of step.node.args) answer ⊎ (children ≡ [])
      by_wait answer children goes (inr none) early = inr none
      by_wait answer children goes (inl wait) early =
          let there = early_behind step.sheet led.behind step.row.next early led.leads in
          let n_is : wait.0 ≡ step.row.next = subst (GoesTo step.row.next) wait.1 goes in
          inl (ap is_stop wait.1, there.0, ap (λ a. slice_get step.sheet.rows (row_after (first_row_of step.node.args) (Some a))) wait.1 ∙ ap (slice_get step.sheet.rows) n_is ∙ there.1, there.2)

  pub lined_edits : StepEdits J p root step.node.args step.sheet step.row out
  lined_edits = subst (StepEdits J p root step.node.args step.sheet step.row) (sym step.out_is) (by (is_cut_off step.row (step_input J p step.node pick)) refl)
    where
      by : (b : Bool) → is_cut_off step.row (step_input J p step.node pick) ≡ b → StepEdits J p root step.node.args step.sheet step.row (cond b (fails cause_is.Aborted) (act_answer step.row.act step.row.next (step_input J p step.node pick)))
      by true cut = cut_edits cut
      by false cut = act_edits
