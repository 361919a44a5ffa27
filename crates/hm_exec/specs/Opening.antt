-- Who is ready when an executor begins.
use Rattle.std.specs.Prelude.{◌≡◌, ℕ, List, Bool}
use Rattle.hm_model.specs.Journal.{Past}
use Rattle.hm_model.specs.Tree.{made}
use Rattle.hm_roster.specs.Opening.{open_among}
use Rattle.hm_sched.specs.Queues.{members, ready_list}

-- ready are those that haven't ended, in the order of their numbers: of servers' crashes in one list, and all others in the other
abbrev pub AreInOrder : Past → List (List ℕ) → Type 0
AreInOrder J lists = (servers : Bool) → members lists (ready_list servers) ≡ open_among J servers (made J)
