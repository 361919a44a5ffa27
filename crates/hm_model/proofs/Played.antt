-- Journals that are worked by hand: each entry meets its rules by tests, so they are legal.
use Rattle.hm_model.specs.Base.{IsBegun}
use Rattle.std.proofs.Common.{◌≡◌, ◌≢◌, ℕ, ◌∷◌, ◌∙◌, List, Option, [], Some, None, true, false, map, refl, ap, sym, ◌⊎◌}
use Rattle.std.proofs.lemmas.Option.{none-some, same_Some}
use Rattle.hm_names.specs.Server.{Server}
use Rattle.hm_names.specs.declared.nonce.Nonce.{Nonce}
use Rattle.hm_data.specs.declared.call.Told.{Told}
use Rattle.hm_data.specs.declared.call.Verb.{Verb}
use Rattle.hm_data.specs.declared.entry.Entry.TheVariants as entry_is
use Rattle.hm_data.specs.declared.record.Phase.TheVariants as phase_is
use Rattle.hm_data.specs.declared.request.Request.{Request}
use Rattle.hm_data.specs.declared.sheet.Sheet.{Sheet}
use Rattle.hm_data.specs.declared.step.StepOut.{StepOut}
use Rattle.hm_model.specs.Answers.{report_of}
use Rattle.hm_model.specs.Fleet.{has_newer, has_older_live, is_live}
use Rattle.hm_model.specs.Inputs.{IsEvaluated, answers}
use Rattle.hm_model.specs.Kinds.{all_kinds}
use Rattle.hm_model.specs.Journal.{Past}
use Rattle.hm_model.specs.Phase.{ended, phase}
use Rattle.hm_model.specs.Picks.{is_pick_right, needs_server}
use Rattle.hm_model.specs.Reports.{fits_verb, verb_of}
use Rattle.hm_model.specs.Requests.{StaysWithin, wrong_in}
use Rattle.hm_model.specs.Rest.{IsAnswered}
use Rattle.hm_model.specs.Rules.{IsFresh, IsLatest, IsLegal}
use Rattle.hm_model.specs.Tree.{Node, node_of, root_of}
use Rattle.hm_model.specs.Validity.{AllValid}
use Rattle.hm_model.proofs.Freed.{freed, is_freed}

-- a procedure that goes on, with nobody in its way, steps at a pick that is right, and answers what its sheet says
abbrev pub Plays : Past → ℕ → Option Server → StepOut → Type 0
Plays before p pick out =
    (node : Node) × (node_of before p ≡ Some node)
    × ((phase before p node ≡ phase_is.Runnable) ⊎ ((phase before p node ≡ phase_is.Awaiting) × IsAnswered before p node))
    × (is_freed before p ≡ true) × (is_pick_right before p node pick (needs_server before p node) ≡ true)
    × (answers before p node pick ≡ Some out)

-- a call that is recorded, and not answered, is answered as fits it
abbrev pub Tells : Past → ℕ → Told → Type 0
Tells before p told =
    (verb : Verb) × (verb_of before p ≡ Some verb) × (report_of before p ≡ None) × (ended before p ≡ false)
    × (fits_verb verb told ≡ true)

-- valid sheets for all kinds, and nothing before them
abbrev pub Begins : Past → List Sheet → Type 0
Begins before sheets = (before ≡ []) × (map (λ sheet. sheet.kind) sheets ≡ all_kinds) × AllValid sheets

-- a request that can be asked for, under a nonce that is none or new
abbrev pub IsAskable : Past → Nonce → Request → Type 0
IsAskable before nonce request = (wrong_in request ≡ None) × IsFresh before nonce × StaysWithin before request

-- the latest step that is left to undo is undone as its sheet says
abbrev pub IsTakenBack : Past → ℕ → ℕ → StepOut → Type 0
IsTakenBack before p row out = IsLatest before p row × IsEvaluated before (root_of before p) None out

-- a server that comes up is newer than each of its host and port
abbrev pub ComesUp : Past → Server → Type 0
ComesUp before server = (has_newer before server ≡ false) × (has_older_live before server ≡ false)

-- each entry meets its rules, by tests
abbrev pub IsPlayed : Past → Type 0
IsPlayed [] = ⊥
IsPlayed (entry_is.Start sheets ∷ before) = Begins before sheets
IsPlayed (entry_is.Submit nonce request ∷ before) = IsPlayed before × IsAskable before nonce request
IsPlayed (entry_is.Step pid pick out ∷ before) = IsPlayed before × Plays before pid.0 pick out
IsPlayed (entry_is.Undo pid row out ∷ before) = IsPlayed before × IsTakenBack before pid.0 row out
IsPlayed (entry_is.Report call told ∷ before) = IsPlayed before × Tells before call.0 told
IsPlayed (entry_is.Up server ∷ before) = IsPlayed before × ComesUp before server
IsPlayed (entry_is.Down server ∷ before) = IsPlayed before × (is_live before server ≡ true)
IsPlayed (entry ∷ before) = ⊥

played_some : (J : Past) → IsPlayed J → IsBegun J
played_some [] played = absurd played
played_some (entry_is.Base part ∷ before) played = absurd played
played_some (entry ∷ before) played = tt

pub played_legal : (J : Past) → IsPlayed J → IsLegal J
played_legal [] played = absurd played
played_legal (entry_is.Start sheets ∷ before) played = by before played.0
  where
    by : (J : Past) → J ≡ [] → IsLegal (entry_is.Start sheets ∷ J)
    by [] none = (tt, ((refl, (played.1, played.2)), tt))
    by (entry ∷ J) none = cc
played_legal (entry_is.Submit nonce request ∷ before) played =
    (played_legal before played.0, (played_some before played.0, (played.1.0, (played.1.1, (played.1.2, tt)))))
played_legal (entry_is.Step pid pick out ∷ before) played =
    let p = played.1 in
    let legal = played_legal before played.0 in
    (legal, (played_some before played.0, ((p.0, p.1, p.2), (freed before legal pid.0 p.3, ((p.0, p.1, p.4), ((p.0, p.1, p.5), tt))))))
played_legal (entry_is.Undo pid row out ∷ before) played =
    (played_legal before played.0, (played_some before played.0, (played.1.0, (played.1.1, tt))))
played_legal (entry_is.Report call told ∷ before) played =
    let p = played.1 in
    (played_legal before played.0, (played_some before played.0, ((λ none. none-some p.0 (sym none ∙ p.1), p.2, p.3), (λ verb is. sym (ap (λ v. fits_verb v told) (same_Some p.0 verb (sym p.1 ∙ is))) ∙ p.4, tt))))
played_legal (entry_is.Up server ∷ before) played =
    (played_legal before played.0, (played_some before played.0, (played.1.0, (played.1.1, tt))))
played_legal (entry_is.Down server ∷ before) played =
    (played_legal before played.0, (played_some before played.0, (played.1, tt)))
played_legal (entry ∷ before) played = absurd played
