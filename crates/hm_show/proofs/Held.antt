-- What procedures hold, one by one.
use Rattle.std.proofs.Common.{◌≡◌, ℕ, List, [], ◌∷◌, ◌++◌, map, Option, Some, None, refl, ap, sym, ◌∙◌, subst, append_assoc, append-nil}
use Rattle.std.specs.List.{cons_option, filter_map, flat_map}
use Rattle.std.specs.Option.{option_map}
use Rattle.std.proofs.lemmas.Option.{none-some, same_Some}
use Rattle.hm_names.specs.declared.pid.Pid.{Pid}
use Rattle.hm_data.specs.declared.record.Record.{Record}
use Rattle.hm_locks.specs.Needs.{HasFirst}
use Rattle.hm_model.specs.Journal.{Past}
use Rattle.hm_model.specs.Records.{record_at, record_of}
use Rattle.hm_model.specs.Rules.{IsLegal}
use Rattle.hm_model.specs.Tree.{Node, node_of}
use Rattle.hm_records.proofs.Firsts.{node_first}
use Rattle.hm_show.specs.Locks.{asked_by, held_by, locks_of}
use Rattle.hm_show.specs.Procs.{pids}
use Rattle.hm_show.specs.declared.lock_lines.Lock.{Lock}
use Rattle.hm_show.proofs.Holders.{number}

-- what a procedure asks for can be told
pub first_of : (past : Past) → IsLegal past → (p : ℕ) (one : Record) → record_of past p ≡ Some one → HasFirst one.args
first_of past legal p one is = by (node_of past p) refl is
  where
    by : (o : Option Node) → node_of past p ≡ o → option_map (record_at past p) o ≡ Some one → HasFirst one.args
    by None there e = absurd (none-some one e)
    by (Some node) there e = subst (λ (r : Record). HasFirst r.args) (same_Some (record_at past p node) one e) (node_first past legal p node there)

-- one more, and the others after it
asked_more : (past : Past) (p : ℕ) (more : List ℕ) → asked_by past (p ∷ more) ≡ asked_by past (p ∷ []) ++ asked_by past more
asked_more past p more = by (record_of past p)
  where
    by : (o : Option Record) → flat_map locks_of (cons_option o (filter_map (record_of past) more)) ≡ flat_map locks_of (cons_option o []) ++ asked_by past more
    by None = refl
    by (Some one) = sym (ap (λ l. l ++ asked_by past more) (append-nil (locks_of one)))

-- what is held so far and the rest
abbrev pub AreSoFar : Past → List Pid → List Lock → Type 0
AreSoFar past rest locks = locks ++ asked_by past (map number rest) ≡ held_by past (pids past)

pub held_next : (past : Past) (before rest : List Pid) (pid : Pid) (locks new : List Lock) → before ≡ pid ∷ rest → new ≡ locks ++ asked_by past (pid.0 ∷ []) → AreSoFar past before locks → AreSoFar past rest new
held_next past before rest pid locks new next is was =
    let more = asked_by past (map number rest) in
    ap (λ l. l ++ more) is
    ∙ append_assoc locks (asked_by past (pid.0 ∷ [])) more
    ∙ sym (ap (λ l. locks ++ l) (asked_more past pid.0 (map number rest)))
    ∙ sym (ap (λ ps. locks ++ asked_by past (map number ps)) next)
    ∙ was
