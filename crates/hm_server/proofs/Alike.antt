-- What is kept, after a call that was served.
use Rattle.std.proofs.Common.{◌≡◌, ℕ, List, Some, Bool, true, false, ◌||◌, ◌==◌, if◌then◌else◌, is_some, refl, ap, sym, ◌∙◌, arith}
use Rattle.std.specs.Option.{option_map}
use Rattle.std.specs.Ordering.{is_eq, nat_cmp}
use Rattle.std.proofs.lemmas.Bool.Decides.{nat_tests}
use Rattle.hm_names.specs.Order.{pid_cmp, region_cmp, server_cmp}
use Rattle.hm_names.specs.Region.{Region}
use Rattle.hm_names.specs.Server.{Server}
use Rattle.hm_names.specs.declared.pid.Pid.{Pid}
use Rattle.hm_data.specs.declared.call.Told.{Told}
use Rattle.hm_index.specs.Index.{find}
use Rattle.hm_model.specs.Fleet.{same_server}
use Rattle.hm_model.specs.Keys.{same_region}
use Rattle.hm_model.proofs.NameTies.{region_ties, server_ties}
use Rattle.hm_server.specs.Actors.{last_in, served, answer_in, is_fenced_in, is_laid_in, laid_if}
use Rattle.hm_server.specs.declared.duty.Duty.{Duty}

pub kept_last : (old new : List (Region × Duty)) (region : Region) (duty : Duty)
    → ((other : Region) → find region_cmp new other ≡ (if is_eq (region_cmp region other) then Some duty else find region_cmp old other))
    → (other : Region) → (if same_region region other then Some (served duty) else last_in old other) ≡ last_in new other
kept_last old new region duty finds other =
    sym (ap (option_map served) (finds other ∙ ap (λ b. if b then Some duty else find region_cmp old other) (region_ties region other)) ∙ by (same_region region other))
  where
    by : (b : Bool) → option_map served (if b then Some duty else find region_cmp old other) ≡ (if b then Some (served duty) else last_in old other)
    by true = refl
    by false = refl

pid_ties : (a b : Pid) → is_eq (pid_cmp a b) ≡ (a.0 == b.0)
pid_ties a b = number_ties a.0 b.0
  where
    number_ties : (m n : ℕ) → is_eq (nat_cmp m n) ≡ (m == n)
    number_ties m n = grind (arith, nat_tests)

pub kept_answer : (old new : List (Pid × Told)) (id : Pid) (told : Told)
    → ((other : Pid) → find pid_cmp new other ≡ (if is_eq (pid_cmp id other) then Some told else find pid_cmp old other))
    → (other : Pid) → (if id.0 == other.0 then Some told else answer_in old other) ≡ answer_in new other
kept_answer old new id told finds other = sym (finds other ∙ ap (λ b. if b then Some told else find pid_cmp old other) (pid_ties id other))

pub kept_fence : (old new : List (Server × Unit {0})) (server : Server)
    → ((other : Server) → find server_cmp new other ≡ (if is_eq (server_cmp server other) then Some tt else find server_cmp old other))
    → (other : Server) → (same_server server other || is_fenced_in old other) ≡ is_fenced_in new other
kept_fence old new server finds other =
    sym (ap is_some (finds other ∙ ap (λ b. if b then Some tt else find server_cmp old other) (server_ties server other)) ∙ by (same_server server other))
  where
    by : (b : Bool) → is_some (if b then Some tt else find server_cmp old other) ≡ (b || is_fenced_in old other)
    by true = refl
    by false = refl

pub kept_layout : (old new : List (Pid × Bool)) (root : Pid) (there : Bool)
    → ((other : Pid) → find pid_cmp new other ≡ (if is_eq (pid_cmp root other) then Some there else find pid_cmp old other))
    → (other : Pid) → (if root.0 == other.0 then there else is_laid_in old other) ≡ is_laid_in new other
kept_layout old new root there finds other =
    sym (ap laid_if (finds other ∙ ap (λ b. if b then Some there else find pid_cmp old other) (pid_ties root other)) ∙ by (root.0 == other.0))
  where
    by : (b : Bool) → laid_if (if b then Some there else find pid_cmp old other) ≡ (if b then there else is_laid_in old other)
    by true = refl
    by false = refl
