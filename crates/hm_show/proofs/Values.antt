-- Procedures as JSON, one by one.
use Rattle.std.proofs.Common.{◌≡◌, ℕ, ◌+◌, ◌<◌, List, [], ◌∷◌, ◌++◌, Some, None, map, ap, sym, ◌∙◌, append_assoc}
use Rattle.std.proofs.lemmas.List.{map-append}
use Rattle.serde_json.specs.Data.{Data}
use Rattle.serde_json.specs.View.{view}
use Rattle.serde_json.specs.declared.value.Value.{Value}
use Rattle.hm_data.specs.declared.record.Record.{Record}
use Rattle.hm_model.specs.Journal.{Past}
use Rattle.hm_model.specs.Records.{record_of}
use Rattle.hm_show.specs.Procs.{proc_value}
use Rattle.hm_show.proofs.Shown.{gone_next, here_next, numbers_to, told}

-- the values so far and the rest
abbrev pub SoFar : Past → ℕ → ℕ → List Value → List Data → Type 0
SoFar past index count values all = map view values ++ map proc_value (told past (numbers_to index count)) ≡ all

pub one_more : (past : Past) (index count : ℕ) (values new : List Value) (all : List Data) (value : Value) (one : Record) → index < count → record_of past (index + 1) ≡ Some one
    → view value ≡ proc_value one → new ≡ values ++ value ∷ [] → SoFar past index count values all → SoFar past (index + 1) count new all
one_more past index count values new all value one lt is viewed pushed was =
    let rest = map proc_value (told past (numbers_to (index + 1) count)) in
    let joined : (a : List Data) (x : Data) (b : List Data) → (a ++ x ∷ []) ++ b ≡ a ++ x ∷ b = λ a x b. simp append_assoc in
    ap (λ l. map view l ++ rest) pushed
    ∙ ap (λ l. l ++ rest) (map-append view values (value ∷ []))
    ∙ joined (map view values) (view value) rest
    ∙ ap (λ d. map view values ++ d ∷ rest) viewed
    ∙ sym (ap (λ l. map view values ++ map proc_value l) (here_next past index count one lt is))
    ∙ was

pub none_more : (past : Past) (index count : ℕ) (values : List Value) (all : List Data) → index < count → record_of past (index + 1) ≡ None
    → SoFar past index count values all → SoFar past (index + 1) count values all
none_more past index count values all lt is was = sym (ap (λ l. map view values ++ map proc_value l) (gone_next past index count lt is)) ∙ was
