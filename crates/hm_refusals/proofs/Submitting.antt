-- What is wrong with a request, for what a procedure was made, and how many region ids are left.
use Rattle.std.proofs.Common.{◌≡◌, ◌↔◌, ℕ, ◌-◌, ◌<◌, ◌≤◌, [], length, Bool, true, false, not, ◌==◌, nat_lt, if◌then◌else◌, IsTrue, Some, None, ap, sym, ◌∙◌, subst, arith}
use Rattle.std.proofs.lemmas.Option.{none-some, same_Some}
use Rattle.hm_names.specs.declared.table.TableName.{TableName}
use Rattle.hm_data.specs.declared.args.Args.TheVariants as args_are
use Rattle.hm_data.specs.declared.record.Record.{Record}
use Rattle.hm_data.specs.declared.request.Request.{Request}
use Rattle.hm_data.specs.declared.request.Request.TheVariants as request_is
use Rattle.hm_model.specs.Journal.{Past}
use Rattle.hm_model.specs.Kinds.{table_of_request}
use Rattle.hm_model.specs.OldRoots.{shown_of}
use Rattle.hm_model.specs.Requests.{StaysWithin, is_fixed, may_merge, rise, wrong_in}
use Rattle.hm_model.specs.Tree.{drawn, new_ids}
use Rattle.hm_refusals.specs.Submissions.{DrewTooMany, IsMadeFor}

if_small : (b : Bool) (k n : ℕ) → k < 256 → (if b then Some k else None) ≡ Some n → n < 256
if_small true k n small e = subst (λ m. m < 256) (same_Some k n e) small
if_small false k n small e = absurd (none-some n e)

unless_small : (b : Bool) (k n : ℕ) → k < 256 → (if b then None else Some k) ≡ Some n → n < 256
unless_small true k n small e = absurd (none-some n e)
unless_small false k n small e = subst (λ m. m < 256) (same_Some k n e) small

keys_small : (rising many : Bool) (n : ℕ) → (if not rising then Some 2 else (if many then Some 3 else None)) ≡ Some n → n < 256
keys_small true many n e = if_small many 3 n (omega arith) e
keys_small false many n e = subst (λ m. m < 256) (same_Some 2 n e) (omega arith)

-- the numbers of what is wrong are bytes
pub wrong_small : (request : Request) (n : ℕ) → wrong_in request ≡ Some n → n < 256
wrong_small (request_is.CreateNamespace ns) n e = absurd (none-some n e)
wrong_small (request_is.DropNamespace ns) n e = if_small (is_fixed ns) 1 n (omega arith) e
wrong_small (request_is.CreateTable table keys) n e = keys_small (rise [] keys) (nat_lt 255 (length keys)) n e
wrong_small (request_is.DeleteTable table) n e = absurd (none-some n e)
wrong_small (request_is.EnableTable table) n e = absurd (none-some n e)
wrong_small (request_is.DisableTable table) n e = absurd (none-some n e)
wrong_small (request_is.ModifyTable table version) n e = absurd (none-some n e)
wrong_small (request_is.SplitRegion region key) n e = if_small (length key == 0) 5 n (omega arith) e
wrong_small (request_is.MergeRegions regions) n e = unless_small (may_merge regions) 4 n (omega arith) e
wrong_small (request_is.Move region to) n e = absurd (none-some n e)

root_is : (one other : Request) (first second : ℕ) → args_are.Root one first ≡ args_are.Root other second → one ≡ other
root_is one other first second e = cc

-- who is shown was made for what it works on
pub made_for : (J : Past) (p : ℕ) (its : Record) → Some its ≡ shown_of J p → (asked request : Request) (first : ℕ) → its.args ≡ args_are.Root asked first → (b : Bool) → (IsTrue b ↔ (asked ≡ request)) → IsTrue b ↔ IsMadeFor J p request
made_for J p its some asked request first is b tells = (
  λ on. (its, sym some, first, is ∙ ap (λ r. args_are.Root r first) (tells.0 on)),
  λ made.
      let same = same_Some its made.0 (some ∙ made.1) in
      tells.1 (root_is asked request first made.2 (sym is ∙ ap (λ (r : Record). r.args) same ∙ made.3)),
)

-- who works on something else was made for no request
pub not_made_for : (J : Past) (p : ℕ) (its : Record) → Some its ≡ shown_of J p → ((asked : Request) (first : ℕ) → its.args ≡ args_are.Root asked first → ⊥) → (request : Request) → IsMadeFor J p request → ⊥
not_made_for J p its some other request made =
    let same = same_Some its made.0 (some ∙ made.1) in
    other request made.2 (ap (λ (r : Record). r.args) same ∙ made.3)

-- nor was anybody who isn't shown
pub nobody_made_for : (J : Past) (p : ℕ) → None ≡ shown_of J p → (request : Request) → IsMadeFor J p request → ⊥
nobody_made_for J p none request made = none-some made.0 (none ∙ made.1)

-- the ids that a request draws are too many, or fit
pub fits : (J : Past) (request : Request) (table : TableName) (count ids : ℕ) → Some table ≡ table_of_request request → count ≡ drawn J table → count ≤ 4096 → ids ≡ new_ids request → ids ≤ 4096 - count → StaysWithin J request
fits J request table count ids is counts few new le other own =
    let same = same_Some table other (is ∙ own) in
    let d : count ≡ drawn J other = counts ∙ ap (drawn J) same in
    omega (arith, few, le, d, new)

pub exceeds : (J : Past) (request : Request) (table : TableName) (count ids : ℕ) → Some table ≡ table_of_request request → count ≡ drawn J table → count ≤ 4096 → ids ≡ new_ids request → (4096 - count < ids) → DrewTooMany J request count
exceeds J request table count ids is counts few new over = (table, sym is, counts, omega (arith, few, over, counts, new))

pub no_table : (J : Past) (request : Request) → None ≡ table_of_request request → StaysWithin J request
no_table J request none table some = absurd (none-some table (none ∙ some))
