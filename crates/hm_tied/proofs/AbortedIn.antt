-- A row that places a region is after the point, so who may be aborted lacks no server to be picked.
use Rattle.std.proofs.Common.{ap, sym, ◌∙◌, ◌∷◌, ◌≡◌}
use Rattle.std.proofs.lemmas.Bool.{false≢true}
use Rattle.std.proofs.lemmas.Option.{same_Some}
use Rattle.hm_names.specs.declared.pid.Pid.{Pid}
use Rattle.hm_data.specs.declared.entry.Entry.TheVariants as entry_is
use Rattle.hm_data.specs.declared.sheet.Row.{Row}
use Rattle.hm_model.specs.Journal.{Past}
use Rattle.hm_model.specs.Rules.{IsBeforePoint, IsLegal}
use Rattle.hm_model.specs.Sheets.{next_row}
use Rattle.hm_tied.specs.Bounds.{Bounds}
use Rattle.hm_tied.specs.TiedIn.{LacksPick}
use Rattle.hm_tied.proofs.PickingIn.{lacking_row}
use Rattle.hm_tied.proofs.Aborted.{placing_is_late}

-- so who may be aborted lacks no server
pub unaborted : (bounds : Bounds) (pid : Pid) (J : Past) → IsLegal (entry_is.Abort pid ∷ J) → LacksPick bounds J pid.0 → ⊥
unaborted bounds pid J legal lack =
    let before : IsBeforePoint J pid.0 = legal.1.1.1.0 in
    let same : before.0 ≡ lack.0 = same_Some before.0 lack.0 (sym before.1 ∙ lack.1) in
    let found = lacking_row J pid.0 lack.0 lack.1 lack.2 lack.3 in
    let one : found.0 ≡ before.2 = same_Some found.0 before.2 (sym found.1 ∙ ap (next_row J pid.0) (sym same) ∙ before.3) in
    let late = placing_is_late J legal.0 pid.0 lack.0 lack.1 found.0 found.1 found.2 in
    false≢true (sym before.4 ∙ ap (λ (r : Row). r.after) (sym one) ∙ late)
