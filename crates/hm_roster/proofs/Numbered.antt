-- Servers that are given numbers.
use Rattle.std.proofs.Common.{◌≡◌, ◌≢◌, ◌⊎◌, ℕ, ◌<◌, ◌≤◌, List, [], ◌∷◌, map, Option, Some, None, Result, Ok, Err, Bor, is_some, Bool, true, false, not, ◌==◌, ◌&&◌, nat_lt, if◌then◌else◌, refl, inl, inr, ap, sym, ◌∙◌, subst, arith}
use Rattle.std.specs.Prelude.{IfOk}
use Rattle.std.specs.Option.{option_copied}
use Rattle.std.specs.List.{list_any}
use Rattle.std.specs.Ordering.{is_eq}
use Rattle.std.proofs.lemmas.Bool.{and_from, and_parts, cases_Bool, cond-false, cond-true, eqb-true, false≢true, le-ltb, or_cases, or_left, or_right, true≢false}
use Rattle.std.proofs.lemmas.Option.{none-some}
use Rattle.hm_names.specs.Order.{server_cmp}
use Rattle.hm_names.specs.Server.{Server}
use Rattle.hm_model.specs.Fleet.{came_up, has_newer, same_address, same_server, servers_of}
use Rattle.hm_model.specs.Journal.{Past}
use Rattle.hm_model.specs.Locks.{IsIn}
use Rattle.hm_model.specs.Standings.{standing_of, standings_of}
use Rattle.hm_model.proofs.NameTies.{same_server-is, same_server-refl, server_ties}
use Rattle.hm_model.specs.declared.standing.Standing.{Standing}
use Rattle.hm_roster.specs.Desk.{IsNumbered, NumbersStay, given_number}
use Rattle.hm_roster.specs.Roster.{HasLists, number_if, number_on, servers_on}
use Rattle.hm_roster.specs.declared.desk.Desk.{Desk}

-- a server that came up has one of its address and start code, so it can't come up again
newer_among : (server : Server) (servers : List Server) → list_any (λ other. same_server server other) servers ≡ true → list_any (λ other. same_address server other && not (nat_lt other.start server.start)) servers ≡ true
newer_among server [] e = absurd (false≢true e)
newer_among server (other ∷ more) e = elim (or_cases (same_server server other) (list_any (λ other. same_server server other) more) e) [
  | inl own ↦
      let parts = and_parts (same_address server other) (server.start == other.start) own in
      let same = eqb-true server.start other.start parts.1 in
      or_left (same_address server other && not (nat_lt other.start server.start)) (list_any (λ other. same_address server other && not (nat_lt other.start server.start)) more)
      (and_from (same_address server other) (not (nat_lt other.start server.start)) parts.0 (ap not (le-ltb other.start server.start (omega (arith, same)))))
  | inr rest ↦ or_right (same_address server other && not (nat_lt other.start server.start)) (list_any (λ other. same_address server other && not (nat_lt other.start server.start)) more) (newer_among server more rest)
]

-- so a server for which none came that is newer never did
pub came_newer : (J : Past) (server : Server) → came_up J server ≡ true → has_newer J server ≡ true
came_newer J server came = newer_among server (servers_of J) came

-- a server that came up is among those that are shown
pub came_shown : (J : Past) (server : Server) (servers : List Server) → list_any (λ other. same_server server other) servers ≡ true → IsIn {A = Server × Standing} (server, standing_of J server) (map (λ s. (s, standing_of J s)) servers)
came_shown J server [] e = absurd (false≢true e)
came_shown J server (other ∷ more) e = elim (or_cases (same_server server other) (list_any (λ other. same_server server other) more) e) [
  | inl own ↦ inl (ap (λ s. (s, standing_of J s)) (same_server-is server other own))
  | inr rest ↦ inr (came_shown J server more rest)
]

module _ (old new : Desk) (server : Server) (number : ℕ) (put : (other : Server) → given_number new other ≡ (if is_eq (server_cmp server other) then Some number else given_number old other)) where
  -- the one that got it
  pub put_own : given_number new server ≡ Some number
  put_own = put server ∙ cond-true (is_eq (server_cmp server server)) (Some number) (given_number old server) (server_ties server server ∙ same_server-refl server)

  -- another one
  put_other : (other : Server) → same_server server other ≡ false → given_number new other ≡ given_number old other
  put_other other differs = put other ∙ cond-false (is_eq (server_cmp server other)) (Some number) (given_number old other) (server_ties server other ∙ differs)

  -- it had none
  pub put_stays : given_number old server ≡ None → NumbersStay old new
  put_stays none other k is = elim (cases_Bool (same_server server other)) [
    | inl own ↦ absurd (none-some k (sym none ∙ ap (given_number old) (same_server-is server other own) ∙ is))
    | inr differs ↦ put_other other differs ∙ is
  ]

  -- all numbers are those of lists that are there
  pub put_below : servers_on old ≤ servers_on new → number < servers_on new → HasLists old → HasLists new
  put_below more fits below None = (let was = below None in omega (arith, was, more))
  put_below more fits below (Some other) = elim (cases_Bool (same_server server other)) [
    | inl own ↦ subst (λ (s : Server). number_if (given_number new s) < servers_on new) (same_server-is server other own) (subst (λ (o : Option ℕ). number_if o < servers_on new) (sym put_own) fits)
    | inr differs ↦ subst (λ (o : Option ℕ). number_if o < servers_on new) (sym (put_other other differs)) (let was : number_if (given_number old other) < servers_on old = below (Some other) in omega (arith, was, more))
  ]

  -- the numbers of those that came up are as before
  pub put_same : (J : Past) → given_number old server ≡ None → (came_up J server ≡ true → number ≡ 0) → (other : Server) → came_up J other ≡ true → number_on new (Some other) ≡ number_on old (Some other)
  put_same J none zeroed other came = elim (cases_Bool (same_server server other)) [
    | inl own ↦
        let is = same_server-is server other own in
        subst (λ (s : Server). number_if (given_number new s) ≡ number_if (given_number old s)) is
        (ap number_if put_own ∙ zeroed (subst (λ s. came_up J s ≡ true) (sym is) came) ∙ sym (ap number_if none))
    | inr differs ↦ ap number_if (put_other other differs)
  ]

-- numbers that are the same
pub same_below : (old new : Desk) → servers_on old ≤ servers_on new → ((other : Server) → given_number new other ≡ given_number old other) → HasLists old → HasLists new
same_below old new more same below None = (let was = below None in omega (arith, was, more))
same_below old new more same below (Some other) = subst (λ (o : Option ℕ). number_if o < servers_on new) (sym (same other)) (let was : number_if (given_number old other) < servers_on old = below (Some other) in omega (arith, was, more))

-- a number that there is
pub numbered_by : (desk : Desk) (server : Server) → HasLists desk → (o : Option ℕ) → given_number desk server ≡ o → o ≢ None → IsNumbered desk server
numbered_by desk server below None is some = absurd (some refl)
numbered_by desk server below (Some number) is some = (number, is, subst (λ (o : Option ℕ). number_if o < servers_on desk) is (below (Some server)))

-- who has a number has it still
pub still_numbered : (old new : Desk) → NumbersStay old new → servers_on old ≤ servers_on new → (server : Server) → IsNumbered old server → IsNumbered new server
still_numbered old new stay more server (number, is, fits) = (number, stay server number is, omega (arith, fits, more))

-- a server that may still come up never did
pub never_came : {E : Type 0} (J : Past) (server : Server) → has_newer J server ≡ false → (r : Result ℕ E) → IfOk r (λ number. came_up J server ≡ true → number ≡ 0)
never_came J server off (Ok number) = λ came. absurd (true≢false (sym (came_newer J server came) ∙ off))
never_came J server off (Err e) = tt

-- a number that was found, or not
pub found_there : {A : Type 0} (o : Option (Bor A)) (b : Bool) → b ≡ is_some o → b ≡ true → option_copied o ≢ None
found_there None b is on none = true≢false (sym on ∙ is)
found_there (Some x) b is on none = none-some x.now (sym none)

-- none was found
pub found_none : {A : Type 0} (o : Option (Bor A)) (b : Bool) → b ≡ is_some o → b ≡ false → option_copied o ≡ None
found_none None b is off = refl
found_none (Some x) b is off = absurd (true≢false (sym is ∙ off))

-- one more of those that are shown is numbered
pub number_turn : (old new : Desk) (first : Server × Standing) (rest : List (Server × Standing)) → NumbersStay old new → servers_on old ≤ servers_on new → IsNumbered new first.0 → (row : Server × Standing) → IsIn row (first ∷ rest) ⊎ IsNumbered old row.0 → IsIn row rest ⊎ IsNumbered new row.0
number_turn old new first rest stay more own row (inl (inl same)) = inr (subst (λ (r : Server × Standing). IsNumbered new r.0) (sym same) own)
number_turn old new first rest stay more own row (inl (inr left)) = inl left
number_turn old new first rest stay more own row (inr done) = inr (still_numbered old new stay more row.0 done)

-- where none is left all are numbered
pub all_numbered : (desk : Desk) (J : Past) (left : List (Server × Standing)) → left ≡ [] → ((row : Server × Standing) → IsIn row (standings_of J) → IsIn row left ⊎ IsNumbered desk row.0) → (server : Server) → came_up J server ≡ true → IsNumbered desk server
all_numbered desk J left none all server came = elim (all (server, standing_of J server) (came_shown J server (servers_of J) came)) [
  | inl there ↦ absurd (subst (λ (l : List (Server × Standing)). IsIn {A = Server × Standing} (server, standing_of J server) l) none there)
  | inr done ↦ done
]
