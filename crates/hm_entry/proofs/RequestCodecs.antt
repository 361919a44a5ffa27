-- The codecs of sheets and requests.
use Rattle.std.proofs.Common.{◌≡◌, ℕ, true, false, eqb, nat_lt, ◌++◌, refl, lit<}
use Rattle.hm_wire.specs.Input.{Input}
use Rattle.hm_wire.specs.Wire.{text}
use Rattle.hm_wire.specs.Laws.{IsBytes}
use Rattle.hm_data.specs.declared.request.Request.{Request}
use Rattle.hm_data.specs.declared.request.Request.TheVariants as request_is
use Rattle.hm_entry.specs.declared.fault.EntryFault.TheVariants.{Field}
use Rattle.hm_entry.specs.Spelling.{number, option, list, table, region, server, row, sheet, request}
use Rattle.hm_entry.specs.Fits.{RowFits, SheetFits, RequestFits}
use Rattle.hm_entry.specs.Reading.{row_at, sheet_at, request_of, request_at}
use Rattle.hm_entry.proofs.Codec.{IsCodec, two_codec, four_codec, again_one, again_two}
use Rattle.hm_entry.proofs.FieldCodecs.{byte_codec, u64_codec}
use Rattle.hm_entry.proofs.KindCodecs.{IsArm, Chosen, no_arm, one_arm, two_arm, or_else, kind_codec, option_codec, list_codec}
use Rattle.hm_entry.proofs.CodeCodecs.{act_codec, back_codec, flag_codec}
use Rattle.hm_entry.proofs.NameCodecs.{ns_codec, key_codec, table_codec, region_codec, server_codec}

pub row_codec : IsCodec row_at row RowFits
unfolding row_at row
row_codec = four_codec act_codec byte_codec flag_codec back_codec (λ act next after undo. record { act = act; next = next; after = after; undo = undo }) row RowFits
    (λ p q r s fp fq fr fs. (refl, fq))
    (λ v f. (v.act, v.next, v.after, v.undo, tt, f, tt, tt, refl))

pub sheet_codec : IsCodec sheet_at sheet SheetFits
unfolding sheet_at sheet
sheet_codec = two_codec byte_codec (list_codec row_codec) (λ kind rows. record { kind = kind; rows = rows }) sheet SheetFits
    (λ p q fp fq. (refl, (fp, fq)))
    (λ v f. (v.kind, v.rows, f.0, f.1, refl))

pub request_arms : (place kind : ℕ) (i : Input) → IsBytes i.rest → IsArm kind request RequestFits i (request_of place kind i)
unfolding request_of request
request_arms place kind i bytes =
    or_else kind 1 (one_arm ns_codec request_is.CreateNamespace (λ p fp. (refl, fp)) i bytes) (
    or_else kind 2 (one_arm ns_codec request_is.DropNamespace (λ p fp. (refl, fp)) i bytes) (
    or_else kind 3 (two_arm table_codec (list_codec key_codec) request_is.CreateTable (λ p q fp fq. (refl, (fp, fq))) i bytes) (
    or_else kind 4 (one_arm table_codec request_is.DeleteTable (λ p fp. (refl, fp)) i bytes) (
    or_else kind 5 (one_arm table_codec request_is.EnableTable (λ p fp. (refl, fp)) i bytes) (
    or_else kind 6 (one_arm table_codec request_is.DisableTable (λ p fp. (refl, fp)) i bytes) (
    or_else kind 7 (two_arm table_codec u64_codec request_is.ModifyTable (λ p q fp fq. (refl, (fp, fq))) i bytes) (
    or_else kind 8 (two_arm region_codec key_codec request_is.SplitRegion (λ p q fp fq. (refl, (fp, fq))) i bytes) (
    or_else kind 9 (one_arm (list_codec region_codec) request_is.MergeRegions (λ p fp. (refl, fp)) i bytes) (
    or_else kind 10 (two_arm region_codec (option_codec server_codec) request_is.Move (λ p q fp fq. (refl, (fp, fq))) i bytes) (
    no_arm (Field place)))))))))))

pub request_chosen : (v : Request) → RequestFits v → Chosen request_of request v
unfolding request_of request
request_chosen (request_is.CreateNamespace ns) f = (1, lit< tt, text ns, refl, λ place. again_one ns_codec request_is.CreateNamespace ns f)
request_chosen (request_is.DropNamespace ns) f = (2, lit< tt, text ns, refl, λ place. again_one ns_codec request_is.DropNamespace ns f)
request_chosen (request_is.CreateTable t ks) f = (3, lit< tt, table t ++ list text ks, refl, λ place. again_two table_codec (list_codec key_codec) request_is.CreateTable t ks f.0 f.1)
request_chosen (request_is.DeleteTable t) f = (4, lit< tt, table t, refl, λ place. again_one table_codec request_is.DeleteTable t f)
request_chosen (request_is.EnableTable t) f = (5, lit< tt, table t, refl, λ place. again_one table_codec request_is.EnableTable t f)
request_chosen (request_is.DisableTable t) f = (6, lit< tt, table t, refl, λ place. again_one table_codec request_is.DisableTable t f)
request_chosen (request_is.ModifyTable t version) f = (7, lit< tt, table t ++ number version, refl, λ place. again_two table_codec u64_codec request_is.ModifyTable t version f.0 f.1)
request_chosen (request_is.SplitRegion r key) f = (8, lit< tt, region r ++ text key, refl, λ place. again_two region_codec key_codec request_is.SplitRegion r key f.0 f.1)
request_chosen (request_is.MergeRegions rs) f = (9, lit< tt, list region rs, refl, λ place. again_one (list_codec region_codec) request_is.MergeRegions rs f)
request_chosen (request_is.Move r to) f = (10, lit< tt, region r ++ option server to, refl, λ place. again_two region_codec (option_codec server_codec) request_is.Move r to f.0 f.1)

-- requests are of kinds below 11
pub request_small : (asked : Request) (f : RequestFits asked) → (eqb (request_chosen asked f).0 255 ≡ false) × (nat_lt (request_chosen asked f).0 11 ≡ true)
unfolding request_chosen
request_small (request_is.CreateNamespace ns) f = (refl, refl)
request_small (request_is.DropNamespace ns) f = (refl, refl)
request_small (request_is.CreateTable t keys) f = (refl, refl)
request_small (request_is.DeleteTable t) f = (refl, refl)
request_small (request_is.EnableTable t) f = (refl, refl)
request_small (request_is.DisableTable t) f = (refl, refl)
request_small (request_is.ModifyTable t version) f = (refl, refl)
request_small (request_is.SplitRegion r key) f = (refl, refl)
request_small (request_is.MergeRegions rs) f = (refl, refl)
request_small (request_is.Move r to) f = (refl, refl)

pub request_codec : IsCodec request_at request RequestFits
unfolding request_at
request_codec = kind_codec request_of request RequestFits request_arms request_chosen
