use Rattle.std.proofs.Common.{◌≡◌, false, inl, inr, ◌∙◌}
use Rattle.hm_catalog.specs.Spans.{rows_of}
use Rattle.hm_reads.proofs.Asked.{none_asked}
use Rattle.hm_reads.proofs.args.args_rows.Goals as goal

pub returns-in-Crash : goal.returns-in-Crash
returns-in-Crash c =
    let none : c.new.result.items ≡ rows_of (λ key. false) c.args.catalog.now.rows = c.new.ensures.items ∙ none_asked c.args.catalog.now.rows in
    elim c.in-Crash.is [
      | inl h ↦ rw h.1 none
      | inr (inl h) ↦ rw h.2 none
      | inr (inr (inl h)) ↦ rw h.2 none
      | inr (inr (inr (inl h))) ↦ rw h.1 none
      | inr (inr (inr (inr (inl h)))) ↦ rw h.1 none
      | inr (inr (inr (inr (inr h)))) ↦ rw h.1 none
    ]
