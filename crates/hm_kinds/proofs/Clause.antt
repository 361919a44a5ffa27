-- What a step of a root does to the catalog, by its kind: the clause of a kind. No journal.
use Rattle.std.proofs.Common.{◌≡◌, ◌≢◌, ℕ, List, [], ◌∷◌, true, false, ◌==◌, Option, Some, None, refl, ap, sym, ◌∙◌, subst, inl, inr, ◌⊎◌, slice_get}
use Rattle.std.specs.Prelude.{Ok}
use Rattle.std.proofs.lemmas.Bool.{cond-false, cond-true, or_right, true≢false}
use Rattle.std.proofs.lemmas.Option.{none-some}
use Rattle.hm_data.specs.declared.answer.Answer.TheVariants as answer_is
use Rattle.hm_data.specs.declared.answer.Cause.{Cause}
use Rattle.hm_data.specs.declared.args.Args.{Args}
use Rattle.hm_data.specs.declared.args.Child.{Child}
use Rattle.hm_data.specs.declared.call.Told.{Told}
use Rattle.hm_data.specs.declared.call.Told.TheVariants as told_is
use Rattle.hm_data.specs.declared.catalog.CatKey.{CatKey}
use Rattle.hm_data.specs.declared.catalog.Edit.{Edit}
use Rattle.hm_data.specs.declared.step.StepIn.{StepIn}
use Rattle.hm_data.specs.declared.step.StepOut.{StepOut}
use Rattle.hm_model.specs.Acts.{act_answer}
use Rattle.hm_model.specs.Answers.{done_with, is_stop, no_row}
use Rattle.hm_model.specs.Catalog.{Catalog, edited, row_at, rows_at}
use Rattle.hm_model.specs.Deeds.{deed_of}
use Rattle.hm_model.specs.Kinds.{kind_of}
use Rattle.hm_model.specs.Lists.{Line, orders_of}
use Rattle.hm_model.specs.Locks.{IsIn}
use Rattle.hm_model.specs.Reads.{covers, guards, reads}
use Rattle.hm_model.specs.Outs.{checked, edits_rows, fails, gives, spawns}
use Rattle.hm_model.specs.Tree.{args_in}
use Rattle.hm_model.proofs.Rows.{row_at-rows}
use Rattle.hm_model.proofs.ValidSheets.{is_last}
use Rattle.hm_kinds.proofs.Shares.{Touched, touches, value}
use Rattle.hm_kinds.proofs.Within.{Within}

-- what a root's step sees: `base` is the catalog before its first step, `there` that of now, `others` that of the deeds;
-- `sofar` is what its tree did since
pub record Sight (args : Args) (base there others : Catalog) (keys : List CatKey) (sofar : List Edit) (at : StepIn) : Type 0 where
  pub own : at.args ≡ args
  pub rows : at.rows ≡ rows_at (reads args) there keys
  pub now : (key : CatKey) → guards args key ≡ true → there key ≡ edited sofar key (base key)
  pub same : (key : CatKey) → guards args key ≡ true → others key ≡ base key
  pub listed : (key : CatKey) → there key ≢ None → IsIn key keys
  pub based : (key : CatKey) → base key ≢ None → IsIn key keys

-- the root goes on: what its tree does till then, its new children's shares with it
pub record Onward (args : Args) (Stage : List Edit → Type 0) (base : Catalog) (sofar : List Edit) (out : StepOut) : Type 0 where
  pub then : List Edit
  pub stage : Stage then
  pub now : (key : CatKey) → guards args key ≡ true → (edited out.edits key (edited sofar key (base key)) ≡ edited then key (base key)) ⊎ Touched (args_in out.children) key
  pub owed : (i : ℕ) (made : Args) → slice_get (args_in out.children) i ≡ Some made → (key : CatKey) → touches made key ≡ true → edited then key (base key) ≡ value made key

-- the root ends well: its deed is what its tree did
pub record Deeds (args : Args) (base others : Catalog) (keys : List CatKey) (sofar : List Edit) (out : StepOut) : Type 0 where
  pub edits : List Edit
  pub deed_is : deed_of args keys others ≡ Ok edits
  pub within : Within args edits
  pub same : (key : CatKey) → covers args key ≡ true → edited edits key (base key) ≡ edited out.edits key (edited sofar key (base key))

pub record Stepped (args : Args) (Stage : List Edit → Type 0) (base others : Catalog) (keys : List CatKey) (sofar : List Edit) (out : StepOut) : Type 0 where
  pub goes : is_stop out.answer ≡ false → Onward args Stage base sofar out
  pub ends : (told : Told) → done_with (Some out.answer) ≡ Some told → Deeds args base others keys sofar out

-- the clause of a kind that lists its rows: how far a root is, by the lines that are left, and what a step then does
pub record Serves (args : Args) (Stage : Catalog → List Line → List Edit → Type 0) : Type 0 where
  pub begins : (base : Catalog) (lines : List Line) → IsIn lines (orders_of (kind_of args)) → Stage base lines []
  pub steps : (base there others : Catalog) (keys : List CatKey) (line : Line) (behind : List Line) (sofar : List Edit) (at : StepIn) (next : ℕ)
      → Stage base (line ∷ behind) sofar → Sight args base there others keys sofar at → (next == no_row) ≡ is_last behind
      → Stepped args (Stage base behind) base others keys sofar (act_answer line.act next at)

-- a kind that has one order begins with that
pub one_order : (P : List Line → Type 0) (lines only : List Line) → IsIn lines (only ∷ []) → P only → P lines
one_order P lines only (inl same) here = subst P (sym same) here
one_order P lines only (inr never) here = absurd never

-- what is read is what the tree made of it
pub sees : (args : Args) (base there others : Catalog) (keys : List CatKey) (sofar : List Edit) (at : StepIn) → Sight args base there others keys sofar at → (key : CatKey) → reads args key ≡ true → row_at at.rows key ≡ edited sofar key (base key)
sees args base there others keys sofar at s key reading =
    ap (λ l. row_at l key) s.rows ∙ row_at-rows (reads args) there keys key reading (λ some. s.listed key some)
    ∙ s.now key (or_right (covers args key) (reads args key) reading)

-- and what the deeds have there is what was there before
pub knows : (args : Args) (base there others : Catalog) (keys : List CatKey) (sofar : List Edit) (at : StepIn) → Sight args base there others keys sofar at → (key : CatKey) → reads args key ≡ true → others key ≡ base key
knows args base there others keys sofar at s key reading = s.same key (or_right (covers args key) (reads args key) reading)

module _ (args : Args) (Stage : List Edit → Type 0) (base others : Catalog) (keys : List CatKey) (sofar : List Edit) where
  pub fails_so : (cause : Cause) → Stepped args Stage base others keys sofar (fails cause)
  fails_so cause = record { goes = λ e. absurd (true≢false e); ends = λ told e. absurd (none-some told e) }

  -- a check, which nothing stands against
  pub checks_so : (next : ℕ) (found : Option Cause) → (found ≡ None → Stage sofar) → Stepped args Stage base others keys sofar (checked next found)
  checks_so next (Some cause) stage = fails_so cause
  checks_so next None stage = record {
    goes = λ e. record { then = sofar; stage = stage refl; now = λ key g. inl refl; owed = λ i made is. absurd (none-some made is) };
    ends = λ told e. absurd (none-some told e);
  }

  more_so : (next : ℕ) (edits : List Edit) (then : List Edit) → Stage then → ((key : CatKey) → guards args key ≡ true → edited edits key (edited sofar key (base key)) ≡ edited then key (base key)) → Stepped args Stage base others keys sofar (gives (answer_is.More next) edits)
  more_so next edits then stage now = record {
    goes = λ e. record { then = then; stage = stage; now = λ key g. inl (now key g); owed = λ i made is. absurd (none-some made is) };
    ends = λ told e. absurd (none-some told e);
  }

  -- edits, where a row follows
  pub edits_so : (next : ℕ) (edits : List Edit) → (next == no_row) ≡ false → (then : List Edit) → Stage then → ((key : CatKey) → guards args key ≡ true → edited edits key (edited sofar key (base key)) ≡ edited then key (base key)) → Stepped args Stage base others keys sofar (edits_rows next edits)
  edits_so next edits follows then stage now =
      subst (λ answer. Stepped args Stage base others keys sofar (gives answer edits)) (sym (cond-false (next == no_row) (answer_is.Done told_is.Nothing) (answer_is.More next) follows)) (more_so next edits then stage now)

  pub done_so : (edits whole : List Edit) → deed_of args keys others ≡ Ok whole → Within args whole → ((key : CatKey) → covers args key ≡ true → edited whole key (base key) ≡ edited edits key (edited sofar key (base key))) → Stepped args Stage base others keys sofar (gives (answer_is.Done told_is.Nothing) edits)
  done_so edits whole is within same = record {
    goes = λ e. absurd (true≢false e);
    ends = λ told e. record { edits = whole; deed_is = is; within = within; same = same };
  }

  -- edits, at the end
  pub ends_so : (next : ℕ) (edits : List Edit) → (next == no_row) ≡ true → (whole : List Edit) → deed_of args keys others ≡ Ok whole → Within args whole → ((key : CatKey) → covers args key ≡ true → edited whole key (base key) ≡ edited edits key (edited sofar key (base key))) → Stepped args Stage base others keys sofar (edits_rows next edits)
  ends_so next edits last whole is within same =
      subst (λ answer. Stepped args Stage base others keys sofar (gives answer edits)) (sym (cond-true (next == no_row) (answer_is.Done told_is.Nothing) (answer_is.More next) last)) (done_so edits whole is within same)

  -- children
  pub spawns_so : (next : ℕ) (children : List Child) (then : List Edit) → Stage then → ((key : CatKey) → guards args key ≡ true → (edited sofar key (base key) ≡ edited then key (base key)) ⊎ Touched (args_in children) key)
      → ((i : ℕ) (made : Args) → slice_get (args_in children) i ≡ Some made → (key : CatKey) → touches made key ≡ true → edited then key (base key) ≡ value made key) → Stepped args Stage base others keys sofar (spawns next children)
  spawns_so next [] then stage now owed = record {
    goes = λ e. record { then = then; stage = stage; now = now; owed = owed };
    ends = λ told e. absurd (none-some told e);
  }
  spawns_so next (child ∷ more) then stage now owed = record {
    goes = λ e. record { then = then; stage = stage; now = now; owed = owed };
    ends = λ told e. absurd (none-some told e);
  }

  -- children that change nothing
  pub quiet_so : (next : ℕ) (children : List Child) → ((i : ℕ) (made : Args) → slice_get (args_in children) i ≡ Some made → (key : CatKey) → touches made key ≡ false) → Stage sofar → Stepped args Stage base others keys sofar (spawns next children)
  quiet_so next children quiet stage = spawns_so next children sofar stage (λ key g. inl refl) (λ i made is key on. absurd (true≢false (sym on ∙ quiet i made is key)))
