-- Parts of a journal.
use Rattle.std.proofs.Common.{◌≡◌, ℕ, List, [], ◌∷◌, ◌++◌, take, drop, ap, sym, ◌∙◌, subst, take-append-drop}
use Rattle.std.proofs.lemmas.List.{reverse-append}
use Rattle.hm_data.specs.declared.entry.Entry.{Entry}
use Rattle.hm_model.specs.Journal.{Past, back}
use Rattle.hm_model.specs.Rules.{IsLegal}

pub legal_before : (newer older : Past) → IsLegal (newer ++ older) → IsLegal older
legal_before [] older legal = legal
legal_before (entry ∷ newer) older legal = legal_before newer older legal.0

pub back-push : (journal : List Entry) (entry : Entry) → back (journal ++ entry ∷ []) ≡ entry ∷ back journal
back-push journal entry = reverse-append journal (entry ∷ [])

pub back-append : (older newer : List Entry) → back (older ++ newer) ≡ back newer ++ back older
back-append older newer = reverse-append older newer

pub back-cut : (k : ℕ) (journal : List Entry) → back journal ≡ back (drop k journal) ++ back (take k journal)
back-cut k journal = ap back (sym (take-append-drop k journal)) ∙ back-append (take k journal) (drop k journal)

pub legal_cut : (k : ℕ) (journal : List Entry) → IsLegal (back journal) → IsLegal (back (take k journal))
legal_cut k journal legal = legal_before (back (drop k journal)) (back (take k journal)) (subst IsLegal (back-cut k journal) legal)
