-- What a submission is answered by what the journal says, in the order of judging.
use Rattle.std.specs.Prelude.{◌≡◌, ◌<◌, ◌+◌, ℕ, Some, None}
use Rattle.hm_names.specs.declared.nonce.Nonce.{Nonce}
use Rattle.hm_names.specs.declared.table.TableName.{TableName}
use Rattle.hm_data.specs.declared.args.Args.TheVariants as args_are
use Rattle.hm_data.specs.declared.record.Record.{Record}
use Rattle.hm_data.specs.declared.request.Request.{Request}
use Rattle.hm_model.specs.Journal.{Past}
use Rattle.hm_model.specs.Kinds.{table_of_request}
use Rattle.hm_model.specs.Nonces.{by_nonce}
use Rattle.hm_model.specs.OldRoots.{shown_of}
use Rattle.hm_model.specs.Requests.{StaysWithin, wrong_in}
use Rattle.hm_model.specs.Tree.{drawn, new_ids}
use Rattle.hm_refusals.specs.declared.submissions.Refused.{Refused}
use Rattle.hm_refusals.specs.declared.submissions.Refused.TheVariants as refused_is

-- who is shown by a number, made behind the base or a root of the base, was made for this request
abbrev pub IsMadeFor : Past → ℕ → Request → Type 0
IsMadeFor J p request = (shown : Record) × (shown_of J p ≡ Some shown) × (first : ℕ) × (shown.args ≡ args_are.Root request first)

-- so many region ids were drawn for the table of a request that those which it draws don't fit any more
abbrev pub DrewTooMany : Past → Request → ℕ → Type 0
DrewTooMany J request count =
    (table : TableName) × (table_of_request request ≡ Some table) × (count ≡ drawn J table) × (4096 < drawn J table + new_ids request)

-- nothing is wrong with the request, and the same one was submitted under the nonce
abbrev pub IsRepeated : Past → Nonce → Request → ℕ → Type 0
IsRepeated J nonce request p = (wrong_in request ≡ None) × (by_nonce J nonce ≡ Some p) × IsMadeFor J p request

-- nothing is wrong with the request, nothing was submitted under the nonce, and the region ids suffice
abbrev pub IsNew : Past → Nonce → Request → Type 0
IsNew J nonce request = (wrong_in request ≡ None) × (by_nonce J nonce ≡ None) × StaysWithin J request

-- why a submission is refused: something is wrong with the request, another one was submitted under the nonce, or the region
-- ids don't suffice
abbrev pub IsAgainst : Past → Nonce → Request → Refused → Type 0
IsAgainst J nonce request (refused_is.BadArgs number) = wrong_in request ≡ Some number
IsAgainst J nonce request (refused_is.NonceClash pid) =
    (wrong_in request ≡ None) × (by_nonce J nonce ≡ Some pid.0) × (IsMadeFor J pid.0 request → ⊥)
IsAgainst J nonce request (refused_is.TooManyRegions count) =
    (wrong_in request ≡ None) × (by_nonce J nonce ≡ None) × DrewTooMany J request count
IsAgainst J nonce request (refused_is.JournalFull bytes) = ⊥
IsAgainst J nonce request (refused_is.Halted why) = ⊥
IsAgainst J nonce request refused_is.LogFault = ⊥
IsAgainst J nonce request refused_is.Memory = ⊥
