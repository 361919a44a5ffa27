-- That nothing is left to do: laws.
use Rattle.std.specs.Prelude.{◌≡◌, ℕ, ◌∷◌, Option, Some, Bool, true, false, not, ◌==◌, ◌&&◌, ◌⊎◌}
use Rattle.hm_names.specs.Server.{Server}
use Rattle.hm_names.specs.declared.pid.Pid.{Pid}
use Rattle.hm_data.specs.declared.args.Args.TheVariants as args_are
use Rattle.hm_data.specs.declared.call.Told.{Told}
use Rattle.hm_data.specs.declared.entry.Entry.TheVariants as entry_is
use Rattle.hm_model.specs.Journal.{Past}
use Rattle.hm_model.specs.Locks.{IsIn}
use Rattle.hm_model.specs.Tree.{Node, node_of}
use Rattle.hm_sched.specs.Queues.{Stands}
use Rattle.hm_tied.specs.Tied.{IsBusy, called_in}
use Rattle.hm_tied.specs.TiedIn.{Debts, IsTied, IsTiedBut, Roster}
use Rattle.hm_tied.specs.Calls.{without}
use Rattle.hm_tied.specs.CallsIn.{owing}
use Rattle.hm_tied.specs.Entries.{is_fenced_by}
use Rattle.hm_tied.specs.EntriesIn.{report_debts}

-- of those that are owed only those are still that are busy, not claimed, and stand nowhere
abbrev pub OwedIsTold : Type 0
OwedIsTold =
    (J : Past) (number_of : Option Server → ℕ) (roster : Roster) (debts : Debts) (owed : ℕ → Bool) → IsTiedBut J number_of roster debts
    → ((q : ℕ) → debts.owed q ≡ true → (let bounds = roster.bounds in bounds.waits q ≡ false) → (IsIn q roster.claimed → ⊥) → IsBusy J q → Stands roster.lists q ⊎ (owed q ≡ true))
    → IsTiedBut J number_of roster (record debts { owed = owed })

-- where one alone was owed and isn't any more, nothing is left
abbrev pub OnePays : Type 0
OnePays =
    (J : Past) (number_of : Option Server → ℕ) (roster : Roster) (p : ℕ)
    → (let debts = owing p in IsTiedBut J number_of roster (record debts { owed = without debts.owed p })) → IsTied J number_of roster

-- what a report leaves that fences nobody is paid once the one that called is woken
abbrev pub ReportPays : Type 0
ReportPays =
    (call : Pid) (told : Told) (J : Past) (number_of : Option Server → ℕ) (roster : Roster)
    → (let after = entry_is.Report call told ∷ J in
    ((q : ℕ) → is_fenced_by J after (node_of J q) ≡ false)
    → (let debts = report_debts J after call.0 in IsTiedBut after number_of roster (record debts { slack = without debts.slack call.0 }))
    → IsTied after number_of roster)

-- what the report of a call to fence leaves is paid once those are woken too whose calls went to its server
abbrev pub FencePays : Type 0
FencePays =
    (call : Pid) (told : Told) (J : Past) (number_of : Option Server → ℕ) (roster : Roster) (node : Node) (server : Server)
    → node_of J call.0 ≡ Some node → node.args ≡ args_are.FenceCall server
    → (let after = entry_is.Report call told ∷ J in
    (let debts = report_debts J after call.0 in
    IsTiedBut after number_of roster (record debts { slack = λ q. without debts.slack call.0 q && not (number_of (called_in (node_of after q)) == number_of (Some server)) }))
    → IsTied after number_of roster)
