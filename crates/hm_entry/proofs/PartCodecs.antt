-- The codecs of the parts of a base.
use Rattle.std.proofs.Common.{◌≡◌, ℕ, Bool, true, false, cond, eqb, List, ◌++◌, nat_lt, Result, Option, Some, None, refl, sym, ap, subst, ◌∙◌, lit<, append_assoc}
use Rattle.std.specs.Prelude.{IfSome}
use Rattle.std.proofs.lemmas.Bool.{cond-false, cond-true}
use Rattle.hm_wire.specs.Input.{Input}
use Rattle.hm_wire.specs.Wire.{text}
use Rattle.hm_wire.specs.Laws.{IsBytes, taken_fits, then_takes}
use Rattle.hm_data.specs.Numbers.{goal_number, status_number}
use Rattle.hm_data.specs.declared.answer.Cause.{Cause}
use Rattle.hm_data.specs.declared.args.Args.{Args}
use Rattle.hm_data.specs.declared.args.Args.TheVariants as args_are
use Rattle.hm_data.specs.declared.part.Part.{Part}
use Rattle.hm_data.specs.declared.part.Part.TheVariants as part_is
use Rattle.hm_data.specs.declared.request.Request.{Request}
use Rattle.hm_entry.specs.declared.fault.EntryFault.{EntryFault}
use Rattle.hm_entry.specs.declared.fault.EntryFault.TheVariants.{Field}
use Rattle.hm_entry.specs.Spelling.{byte, number, flag, option, list, pid, table, region, server, range, nonce, sheet, args, place as place_text, root_args, table_row, cause_byte, part}
use Rattle.hm_entry.specs.Fits.{IsNumber, ArgsFit, RootArgsFit, TableRowFits, PartFits}
use Rattle.hm_entry.specs.Reading.{◌>>=◌, ReaderOf, of_two, u64_at, request_of, args_of, root_args_of, root_args_at, table_row_at, part_of, part_at}
use Rattle.hm_entry.proofs.Codec.{IsCodec, Again, input, done, bind_ok, first, takes_one, two_codec, again_one, again_two, again_three, again_four, again_five}
use Rattle.hm_entry.proofs.FieldCodecs.{u64_codec}
use Rattle.hm_entry.proofs.KindCodecs.{IsArm, Chosen, no_arm, one_arm, two_arm, three_arm, four_arm, five_arm, or_else, kind_codec, option_codec, list_codec}
use Rattle.hm_entry.proofs.CodeCodecs.{table_state_codec, status_codec, goal_codec, cause_codec, flag_codec}
use Rattle.hm_entry.proofs.NameCodecs.{ns_codec, key_codec, table_codec, region_codec, server_codec, pid_codec, range_codec, nonce_codec}
use Rattle.hm_entry.proofs.RequestCodecs.{sheet_codec, request_arms, request_chosen, request_small}
use Rattle.hm_entry.proofs.StepCodecs.{args_arms, place_codec}

-- what is read of other kinds is spelled as what a procedure works on
root_of_args : (v : Args) → ArgsFit v → (root_args v ≡ args v) × RootArgsFit v
unfolding root_args
root_of_args (args_are.Root asked first) f = absurd f
root_of_args (args_are.Transit r goal to) f = absurd f
root_of_args (args_are.Crash s) f = (refl, f)
root_of_args (args_are.AddRegions t first bounds) f = (refl, f)
root_of_args (args_are.DropRegions t ids) f = (refl, f)
root_of_args (args_are.AssignCall r s) f = (refl, f)
root_of_args (args_are.CloseCall r s) f = (refl, f)
root_of_args (args_are.FenceCall s) f = (refl, f)
root_of_args (args_are.LayoutCall root) f = (refl, f)
root_of_args (args_are.SweepLayout root) f = (refl, f)

args_arm : (place kind : ℕ) (i : Input) → IsBytes i.rest → IsArm kind root_args RootArgsFit i (args_of place kind i)
args_arm place kind i bytes = record {
  takes = λ y is.
      let t = (args_arms place kind i bytes).takes y is in
      let r = root_of_args y.0 t.3 in
      (t.0, r.0 ∙ t.1, t.2, r.1);
}

-- a request, and its first id
request_arm : (place kind : ℕ) (i : Input) → IsBytes i.rest → IsArm kind root_args RootArgsFit i (of_two args_are.Root (request_of place kind) u64_at i)
unfolding root_args
request_arm place kind i bytes = record {
  takes = λ y is.
      let b = bind_ok (request_of place kind i) (λ x. u64_at x.1 >>= λ z. done (args_are.Root x.0 z.0, z.1)) y is in
      let t = (request_arms place kind i bytes).takes b.0 b.1 in
      let rest = (taken_fits i t.0 b.0.1 bytes t.2).1 in
      let z = takes_one u64_codec (λ n. args_are.Root b.0.0 n) b.0.1 y rest b.2 in
      let spelled : root_args (args_are.Root b.0.0 z.0) ≡ byte kind ++ (t.0 ++ number z.0) = ap (λ (s : List ℕ). s ++ number z.0) t.1 ∙ append_assoc (byte kind) t.0 (number z.0) in
      (t.0 ++ number z.0, ap root_args (sym z.1) ∙ spelled, then_takes i t.0 b.0.1 (number z.0) y.1 t.2 z.2, subst RootArgsFit z.1 (t.3, z.3));
}

either : {i : Input} {x y : Result (Args × Input) EntryFault} (b : Bool) (kind : ℕ) → IsArm kind root_args RootArgsFit i x → IsArm kind root_args RootArgsFit i y → IsArm kind root_args RootArgsFit i (cond b x y)
either true kind here others = here
either false kind here others = others

root_args_arms : (place kind : ℕ) (i : Input) → IsBytes i.rest → IsArm kind root_args RootArgsFit i (root_args_of place kind i)
unfolding root_args_of root_args
root_args_arms place kind i bytes =
    or_else kind 255 (three_arm region_codec goal_codec (option_codec server_codec) args_are.Transit (λ p q r fp fq fr. (refl, (fp, fr))) i bytes) (
    either (nat_lt kind 11) kind (request_arm place kind i bytes) (args_arm place kind i bytes))

root_again : (read : ReaderOf Request) (text : List ℕ) (asked : Request) → Again read text asked → (first : ℕ) → IsNumber first → Again (of_two args_are.Root read u64_at) (text ++ number first) (args_are.Root asked first)
root_again read text asked again first f at rest =
    let x = again at (number first ++ rest) in
    let y = again_one u64_codec (λ n. args_are.Root asked n) first f x.0 rest in (
      y.0,
      ap (λ (l : List ℕ). of_two args_are.Root read u64_at (input at l)) (append_assoc text (number first) rest)
          ∙ ap (λ (r : Result (Request × Input) EntryFault). r >>= λ x. u64_at x.1 >>= λ z. done (args_are.Root x.0 z.0, z.1)) x.1
          ∙ y.1,
    )

-- a request and its first id are read again
request_again : (asked : Request) (first : ℕ) → RootArgsFit (args_are.Root asked first) → Chosen root_args_of root_args (args_are.Root asked first)
unfolding root_args_of root_args
request_again asked first f =
    let c = request_chosen asked f.0 in
    let s = request_small asked f.0 in (
      c.0,
      c.1,
      c.2 ++ number first,
      ap (λ (l : List ℕ). l ++ number first) c.3 ∙ append_assoc (byte c.0) c.2 (number first),
      λ place at rest.
          let a = root_again (request_of place c.0) c.2 asked (c.4 place) first f.1 at rest in
          (a.0, cond-false (eqb c.0 255) _ _ s.0 ∙ cond-true (nat_lt c.0 11) _ _ s.1 ∙ a.1),
    )

root_args_chosen : (v : Args) → RootArgsFit v → Chosen root_args_of root_args v
unfolding root_args_of root_args args_of args
root_args_chosen (args_are.Root asked first) f = request_again asked first f
root_args_chosen (args_are.Transit r goal to) f = (255, lit< tt, region r ++ (byte (goal_number goal) ++ option server to), refl, λ place. again_three region_codec goal_codec (option_codec server_codec) args_are.Transit r goal to f.0 tt f.1)
root_args_chosen (args_are.Crash s) f = (11, lit< tt, server s, refl, λ place. again_one server_codec args_are.Crash s f)
root_args_chosen (args_are.AddRegions t first ks) f = (20, lit< tt, table t ++ (number first ++ list text ks), refl, λ place. again_three table_codec u64_codec (list_codec key_codec) args_are.AddRegions t first ks f.0 f.1 f.2)
root_args_chosen (args_are.DropRegions t ids) f = (21, lit< tt, table t ++ list number ids, refl, λ place. again_two table_codec (list_codec u64_codec) args_are.DropRegions t ids f.0 f.1)
root_args_chosen (args_are.AssignCall r s) f = (23, lit< tt, region r ++ server s, refl, λ place. again_two region_codec server_codec args_are.AssignCall r s f.0 f.1)
root_args_chosen (args_are.CloseCall r s) f = (24, lit< tt, region r ++ server s, refl, λ place. again_two region_codec server_codec args_are.CloseCall r s f.0 f.1)
root_args_chosen (args_are.FenceCall s) f = (25, lit< tt, server s, refl, λ place. again_one server_codec args_are.FenceCall s f)
root_args_chosen (args_are.LayoutCall root) f = (26, lit< tt, pid root, refl, λ place. again_one pid_codec args_are.LayoutCall root f)
root_args_chosen (args_are.SweepLayout root) f = (27, lit< tt, pid root, refl, λ place. again_one pid_codec args_are.SweepLayout root f)

pub root_args_codec : IsCodec root_args_at root_args RootArgsFit
unfolding root_args_at
root_args_codec = kind_codec root_args_of root_args RootArgsFit root_args_arms root_args_chosen

table_row_codec : IsCodec table_row_at table_row TableRowFits
unfolding table_row_at table_row
table_row_codec = two_codec table_state_codec u64_codec (λ state version. (state, version)) table_row TableRowFits (λ p q fp fq. (refl, fq)) (λ v f. (v.0, v.1, tt, f, refl))

any_cause : (cause : Option Cause) → IfSome cause (λ x. Unit {0})
any_cause None = tt
any_cause (Some cause) = tt

part_arms : (place kind : ℕ) (i : Input) → IsBytes i.rest → IsArm kind part PartFits i (part_of place kind i)
unfolding part_of part
part_arms place kind i bytes =
    or_else kind 0 (four_arm u64_codec pid_codec u64_codec (list_codec sheet_codec) part_is.Head (λ p q r s fp fq fr fs. (refl, (fp, fq, fr, fs))) i bytes) (
    or_else kind 1 (one_arm ns_codec part_is.Namespace (λ p fp. (refl, fp)) i bytes) (
    or_else kind 2 (three_arm table_codec u64_codec (option_codec table_row_codec) part_is.Table (λ p q r fp fq fr. (refl, (fp, fq, fr))) i bytes) (
    or_else kind 3 (five_arm region_codec range_codec status_codec (list_codec u64_codec) place_codec part_is.Region (λ p q r s u fp fq fr fs fu. (refl, (fp, fq, fs, fu))) i bytes) (
    or_else kind 4 (two_arm server_codec flag_codec part_is.Server (λ p q fp fq. (refl, fp)) i bytes) (
    or_else kind 5 (four_arm pid_codec nonce_codec root_args_codec (option_codec cause_codec) part_is.Root (λ p q r s fp fq fr fs. (refl, (fp, fq, fr))) i bytes) (
    or_else kind 6 (one_arm pid_codec part_is.Layout (λ p fp. (refl, fp)) i bytes) (
    no_arm (Field place))))))))

part_chosen : (v : Part) → PartFits v → Chosen part_of part v
unfolding part_of part
part_chosen (part_is.Head entries last parts sheets) f = (0, lit< tt, number entries ++ (pid last ++ (number parts ++ list sheet sheets)), refl, λ place. again_four u64_codec pid_codec u64_codec (list_codec sheet_codec) part_is.Head entries last parts sheets f.0 f.1 f.2 f.3)
part_chosen (part_is.Namespace ns) f = (1, lit< tt, text ns, refl, λ place. again_one ns_codec part_is.Namespace ns f)
part_chosen (part_is.Table t drawn own) f = (2, lit< tt, table t ++ (number drawn ++ option table_row own), refl, λ place. again_three table_codec u64_codec (option_codec table_row_codec) part_is.Table t drawn own f.0 f.1 f.2)
part_chosen (part_is.Region r bounds status parents at) f = (3, lit< tt, region r ++ (range bounds ++ (byte (status_number status) ++ (list number parents ++ place_text at))), refl, λ place. again_five region_codec range_codec status_codec (list_codec u64_codec) place_codec part_is.Region r bounds status parents at f.0 f.1 tt f.2 f.3)
part_chosen (part_is.Server s fenced) f = (4, lit< tt, server s ++ flag fenced, refl, λ place. again_two server_codec flag_codec part_is.Server s fenced f tt)
part_chosen (part_is.Root p given work cause) f = (5, lit< tt, pid p ++ (nonce given ++ (root_args work ++ option cause_byte cause)), refl, λ place. again_four pid_codec nonce_codec root_args_codec (option_codec cause_codec) part_is.Root p given work cause f.0 f.1 f.2 (any_cause cause))
part_chosen (part_is.Layout p) f = (6, lit< tt, pid p, refl, λ place. again_one pid_codec part_is.Layout p f)

pub part_codec : IsCodec part_at part PartFits
unfolding part_at
part_codec = kind_codec part_of part PartFits part_arms part_chosen
