-- The codecs of what a step answers and does.
use Rattle.std.proofs.Common.{◌≡◌, ℕ, Bool, true, false, cond, eqb, List, [], ◌++◌, Option, Some, None, Result, refl, sym, ap, subst, ◌∙◌, lit<}
use Rattle.hm_wire.specs.Input.{Input}
use Rattle.hm_wire.specs.Wire.{Takes, text}
use Rattle.hm_wire.specs.Laws.{IsBytes}
use Rattle.std.proofs.lemmas.Bool.{eqb-true}
use Rattle.hm_data.specs.Numbers.{table_state_number, status_number, goal_number, told_number, cause_number}
use Rattle.hm_data.specs.declared.answer.Answer.{Answer}
use Rattle.hm_data.specs.declared.answer.Answer.TheVariants as answer_is
use Rattle.hm_data.specs.declared.args.Args.{Args}
use Rattle.hm_data.specs.declared.args.Args.TheVariants as args_are
use Rattle.hm_data.specs.declared.args.Child.{Child}
use Rattle.hm_data.specs.declared.args.Child.TheVariants as child_is
use Rattle.hm_data.specs.declared.call.Verb.{Verb}
use Rattle.hm_data.specs.declared.call.Verb.TheVariants as verb_is
use Rattle.hm_data.specs.declared.catalog.CatKey.{CatKey}
use Rattle.hm_data.specs.declared.catalog.CatKey.TheVariants as key_is
use Rattle.hm_data.specs.declared.catalog.CatRow.{CatRow}
use Rattle.hm_data.specs.declared.catalog.CatRow.TheVariants as row_is
use Rattle.hm_data.specs.declared.catalog.Edit.{Edit}
use Rattle.hm_data.specs.declared.place.Place.{Place}
use Rattle.hm_data.specs.declared.step.StepOut.{StepOut}
use Rattle.hm_entry.specs.declared.fault.EntryFault.{EntryFault}
use Rattle.hm_entry.specs.declared.fault.EntryFault.TheVariants.{Field}
use Rattle.hm_entry.specs.Spelling.{byte, number, list, pid, table, region, server, range, key, catalog_row, edit, args, child, verb, place as place_text, answer, out}
use Rattle.hm_entry.specs.Fits.{CatKeyFits, CatRowFits, EditFits, ArgsFit, ChildFits, VerbFits, PlaceFits, AnswerFits, OutFits}
use Rattle.hm_entry.specs.Reading.{◌>>=◌, ReaderOf, of_one, of_two, of_three, list_at, coded, cat_key_of, cat_key_at, cat_row_of, cat_row_at, edit_at, args_of, child_of, child_at, verb_of, verb_at, place_at, undone_of, answer_of, answer_at, out_at, table_at, region_at, server_at, pid_at, u64_at, key_at}
use Rattle.hm_entry.proofs.Codec.{IsCodec, Again, done, ok_is, bind_ok, two_codec, three_codec, six_codec, again_one, again_two, again_three}
use Rattle.hm_entry.proofs.FieldCodecs.{byte_codec, u64_codec, coded_takes, coded_again}
use Rattle.hm_entry.proofs.KindCodecs.{IsArm, Chosen, no_arm, empty_arm, one_arm, two_arm, three_arm, or_else, kind_codec, option_codec, list_codec}
use Rattle.hm_entry.proofs.CodeCodecs.{table_state_codec, status_codec, region_state_codec, goal_codec, told_codec, cause_codec}
use Rattle.hm_entry.proofs.NameCodecs.{ns_codec, key_codec, table_codec, region_codec, server_codec, pid_codec, range_codec}

cat_key_arms : (place kind : ℕ) (i : Input) → IsBytes i.rest → IsArm kind key CatKeyFits i (cat_key_of place kind i)
unfolding cat_key_of key
cat_key_arms place kind i bytes =
    or_else kind 0 (one_arm ns_codec key_is.Ns (λ p fp. (refl, fp)) i bytes) (
    or_else kind 1 (one_arm table_codec key_is.Table (λ p fp. (refl, fp)) i bytes) (
    or_else kind 2 (one_arm region_codec key_is.Region (λ p fp. (refl, fp)) i bytes) (
    no_arm (Field place))))

cat_key_chosen : (v : CatKey) → CatKeyFits v → Chosen cat_key_of key v
unfolding cat_key_of key
cat_key_chosen (key_is.Ns ns) f = (0, lit< tt, text ns, refl, λ place. again_one ns_codec key_is.Ns ns f)
cat_key_chosen (key_is.Table t) f = (1, lit< tt, table t, refl, λ place. again_one table_codec key_is.Table t f)
cat_key_chosen (key_is.Region r) f = (2, lit< tt, region r, refl, λ place. again_one region_codec key_is.Region r f)

pub cat_key_codec : IsCodec cat_key_at key CatKeyFits
unfolding cat_key_at
cat_key_codec = kind_codec cat_key_of key CatKeyFits cat_key_arms cat_key_chosen

cat_row_arms : (place kind : ℕ) (i : Input) → IsBytes i.rest → IsArm kind catalog_row CatRowFits i (cat_row_of place kind i)
unfolding cat_row_of catalog_row
cat_row_arms place kind i bytes =
    or_else kind 0 (empty_arm i row_is.Ns refl tt) (
    or_else kind 1 (two_arm table_state_codec u64_codec row_is.Table (λ p q fp fq. (refl, fq)) i bytes) (
    or_else kind 2 (three_arm range_codec status_codec (list_codec u64_codec) row_is.Region (λ p q r fp fq fr. (refl, (fp, fr))) i bytes) (
    no_arm (Field place))))

cat_row_chosen : (v : CatRow) → CatRowFits v → Chosen cat_row_of catalog_row v
unfolding cat_row_of catalog_row
cat_row_chosen row_is.Ns f = (0, lit< tt, [], refl, λ place at rest. (at, refl))
cat_row_chosen (row_is.Table state version) f = (1, lit< tt, byte (table_state_number state) ++ number version, refl, λ place. again_two table_state_codec u64_codec row_is.Table state version tt f)
cat_row_chosen (row_is.Region bounds status parents) f = (2, lit< tt, range bounds ++ (byte (status_number status) ++ list number parents), refl, λ place. again_three range_codec status_codec (list_codec u64_codec) row_is.Region bounds status parents f.0 tt f.1)

pub cat_row_codec : IsCodec cat_row_at catalog_row CatRowFits
unfolding cat_row_at
cat_row_codec = kind_codec cat_row_of catalog_row CatRowFits cat_row_arms cat_row_chosen

pub edit_codec : IsCodec edit_at edit EditFits
unfolding edit_at edit
edit_codec = three_codec cat_key_codec (option_codec cat_row_codec) (option_codec cat_row_codec) (λ key before after. record { key = key; before = before; after = after }) edit EditFits
    (λ p q r fp fq fr. (refl, (fp, fq, fr)))
    (λ v f. (v.key, v.before, v.after, f.0, f.1, f.2, refl))

pub args_arms : (place kind : ℕ) (i : Input) → IsBytes i.rest → IsArm kind args ArgsFit i (args_of place kind i)
unfolding args_of args
args_arms place kind i bytes =
    or_else kind 11 (one_arm server_codec args_are.Crash (λ p fp. (refl, fp)) i bytes) (
    or_else kind 20 (three_arm table_codec u64_codec (list_codec key_codec) args_are.AddRegions (λ p q r fp fq fr. (refl, (fp, fq, fr))) i bytes) (
    or_else kind 21 (two_arm table_codec (list_codec u64_codec) args_are.DropRegions (λ p q fp fq. (refl, (fp, fq))) i bytes) (
    or_else kind 23 (two_arm region_codec server_codec args_are.AssignCall (λ p q fp fq. (refl, (fp, fq))) i bytes) (
    or_else kind 24 (two_arm region_codec server_codec args_are.CloseCall (λ p q fp fq. (refl, (fp, fq))) i bytes) (
    or_else kind 25 (one_arm server_codec args_are.FenceCall (λ p fp. (refl, fp)) i bytes) (
    or_else kind 26 (one_arm pid_codec args_are.LayoutCall (λ p fp. (refl, fp)) i bytes) (
    or_else kind 27 (one_arm pid_codec args_are.SweepLayout (λ p fp. (refl, fp)) i bytes) (
    no_arm (Field place)))))))))

-- one procedure is spelled as what it works on
one_child : (kind : ℕ) (i : Input) (read : Result (Args × Input) EntryFault) → IsArm kind args ArgsFit i read → IsArm kind child ChildFits i (read >>= λ x. done (child_is.One x.0, x.1))
unfolding child
one_child kind i read arm = record {
  takes = λ y is.
      let b = bind_ok read (λ x. done (child_is.One x.0, x.1)) y is in
      let t = arm.takes b.0 b.1 in
      let made : Child × Input = (child_is.One b.0.0, b.0.1) in
      let e = ok_is made y b.2 in
      let same : child_is.One b.0.0 ≡ y.0 = ap (λ (p : Child × Input). p.0) e in
      (t.0, ap child (sym same) ∙ t.1, subst (λ (p : Child × Input). Takes i t.0 p.1) e t.2, subst ChildFits same t.3);
}

one_again : (read : ReaderOf Args) (text : List ℕ) (v : Args) → Again read text v → Again (of_one child_is.One read) text (child_is.One v)
one_again read text v again at rest =
    let x = again at rest in
    (x.0, ap (λ (r : Result (Args × Input) EntryFault). r >>= λ x. done (child_is.One x.0, x.1)) x.1)

child_arms : (place kind : ℕ) (i : Input) → IsBytes i.rest → IsArm kind child ChildFits i (child_of place kind i)
unfolding child_of child
child_arms place kind i bytes =
    or_else kind 0 (three_arm table_codec (list_codec u64_codec) goal_codec child_is.Transits (λ p q r fp fq fr. (refl, (fp, fq))) i bytes) (
    one_child kind i (args_of place kind i) (args_arms place kind i bytes))

child_chosen : (v : Child) → ChildFits v → Chosen child_of child v
unfolding child_of args_of child args
child_chosen (child_is.Transits t ids goal) f = (0, lit< tt, table t ++ (list number ids ++ byte (goal_number goal)), refl, λ place. again_three table_codec (list_codec u64_codec) goal_codec child_is.Transits t ids goal f.0 f.1 tt)
child_chosen (child_is.One (args_are.Crash s)) f = (11, lit< tt, server s, refl, λ place. one_again (of_one args_are.Crash server_at) (server s) (args_are.Crash s) (again_one server_codec args_are.Crash s f))
child_chosen (child_is.One (args_are.AddRegions t first ks)) f = (20, lit< tt, table t ++ (number first ++ list text ks), refl, λ place. one_again (of_three args_are.AddRegions table_at u64_at (list_at key_at)) (table t ++ (number first ++ list text ks)) (args_are.AddRegions t first ks) (again_three table_codec u64_codec (list_codec key_codec) args_are.AddRegions t first ks f.0 f.1 f.2))
child_chosen (child_is.One (args_are.DropRegions t ids)) f = (21, lit< tt, table t ++ list number ids, refl, λ place. one_again (of_two args_are.DropRegions table_at (list_at u64_at)) (table t ++ list number ids) (args_are.DropRegions t ids) (again_two table_codec (list_codec u64_codec) args_are.DropRegions t ids f.0 f.1))
child_chosen (child_is.One (args_are.AssignCall r s)) f = (23, lit< tt, region r ++ server s, refl, λ place. one_again (of_two args_are.AssignCall region_at server_at) (region r ++ server s) (args_are.AssignCall r s) (again_two region_codec server_codec args_are.AssignCall r s f.0 f.1))
child_chosen (child_is.One (args_are.CloseCall r s)) f = (24, lit< tt, region r ++ server s, refl, λ place. one_again (of_two args_are.CloseCall region_at server_at) (region r ++ server s) (args_are.CloseCall r s) (again_two region_codec server_codec args_are.CloseCall r s f.0 f.1))
child_chosen (child_is.One (args_are.FenceCall s)) f = (25, lit< tt, server s, refl, λ place. one_again (of_one args_are.FenceCall server_at) (server s) (args_are.FenceCall s) (again_one server_codec args_are.FenceCall s f))
child_chosen (child_is.One (args_are.LayoutCall root)) f = (26, lit< tt, pid root, refl, λ place. one_again (of_one args_are.LayoutCall pid_at) (pid root) (args_are.LayoutCall root) (again_one pid_codec args_are.LayoutCall root f))
child_chosen (child_is.One (args_are.SweepLayout root)) f = (27, lit< tt, pid root, refl, λ place. one_again (of_one args_are.SweepLayout pid_at) (pid root) (args_are.SweepLayout root) (again_one pid_codec args_are.SweepLayout root f))
child_chosen (child_is.One (args_are.Root asked first)) f = absurd f
child_chosen (child_is.One (args_are.Transit r goal to)) f = absurd f

pub child_codec : IsCodec child_at child ChildFits
unfolding child_at
child_codec = kind_codec child_of child ChildFits child_arms child_chosen

verb_arms : (place kind : ℕ) (i : Input) → IsBytes i.rest → IsArm kind verb VerbFits i (verb_of place kind i)
unfolding verb_of verb
verb_arms place kind i bytes =
    or_else kind 0 (one_arm region_codec verb_is.AssignRegion (λ p fp. (refl, fp)) i bytes) (
    or_else kind 1 (one_arm region_codec verb_is.CloseRegion (λ p fp. (refl, fp)) i bytes) (
    or_else kind 2 (one_arm server_codec verb_is.Fence (λ p fp. (refl, fp)) i bytes) (
    or_else kind 3 (one_arm pid_codec verb_is.Layout (λ p fp. (refl, fp)) i bytes) (
    or_else kind 4 (one_arm pid_codec verb_is.Sweep (λ p fp. (refl, fp)) i bytes) (
    no_arm (Field place))))))

verb_chosen : (v : Verb) → VerbFits v → Chosen verb_of verb v
unfolding verb_of verb
verb_chosen (verb_is.AssignRegion r) f = (0, lit< tt, region r, refl, λ place. again_one region_codec verb_is.AssignRegion r f)
verb_chosen (verb_is.CloseRegion r) f = (1, lit< tt, region r, refl, λ place. again_one region_codec verb_is.CloseRegion r f)
verb_chosen (verb_is.Fence s) f = (2, lit< tt, server s, refl, λ place. again_one server_codec verb_is.Fence s f)
verb_chosen (verb_is.Layout root) f = (3, lit< tt, pid root, refl, λ place. again_one pid_codec verb_is.Layout root f)
verb_chosen (verb_is.Sweep root) f = (4, lit< tt, pid root, refl, λ place. again_one pid_codec verb_is.Sweep root f)

pub verb_codec : IsCodec verb_at verb VerbFits
unfolding verb_at
verb_codec = kind_codec verb_of verb VerbFits verb_arms verb_chosen

pub place_codec : IsCodec place_at place_text PlaceFits
unfolding place_at place_text
place_codec = two_codec region_state_codec (option_codec server_codec) (λ state server. record { state = state; server = server }) place_text PlaceFits
    (λ p q fp fq. (refl, fq))
    (λ v f. (v.state, v.server, tt, f, refl))

abbrev some : Answer → Option Answer
some x = Some x

undone_is : (b : Bool) (n : ℕ) (x : Answer) → (b ≡ true → n ≡ 0) → cond b (Some answer_is.Undone) None ≡ Some x → (n ≡ 0) × (answer_is.Undone ≡ x)
undone_is true n x same e = let is : some answer_is.Undone ≡ some x = e in (same refl, cc)
undone_is false n x same e = absurd cc

undone_arm : (i : Input) → IsBytes i.rest → IsArm 5 answer AnswerFits i (coded undone_of i)
unfolding answer
undone_arm i bytes = record {
  takes = λ y is.
      let t = coded_takes undone_of i y bytes is in
      let u = undone_is (eqb t.0 0) t.0 y.0 (eqb-true t.0 0) t.1 in
      (byte 0, ap answer (sym u.1), subst (λ (n : ℕ). Takes i (byte n) y.1) u.0 t.2, subst AnswerFits u.1 tt);
}

answer_arms : (place kind : ℕ) (i : Input) → IsBytes i.rest → IsArm kind answer AnswerFits i (answer_of place kind i)
unfolding answer_of answer
answer_arms place kind i bytes =
    or_else kind 0 (one_arm byte_codec answer_is.More (λ p fp. (refl, fp)) i bytes) (
    or_else kind 1 (one_arm byte_codec answer_is.Wait (λ p fp. (refl, fp)) i bytes) (
    or_else kind 2 (one_arm byte_codec answer_is.Await (λ p fp. (refl, fp)) i bytes) (
    or_else kind 3 (one_arm told_codec answer_is.Done (λ p fp. (refl, tt)) i bytes) (
    or_else kind 4 (one_arm cause_codec answer_is.Fail (λ p fp. (refl, tt)) i bytes) (
    or_else kind 5 (undone_arm i bytes) (
    no_arm (Field place)))))))

answer_chosen : (v : Answer) → AnswerFits v → Chosen answer_of answer v
unfolding answer_of answer
answer_chosen (answer_is.More next) f = (0, lit< tt, byte next, refl, λ place. again_one byte_codec answer_is.More next f)
answer_chosen (answer_is.Wait next) f = (1, lit< tt, byte next, refl, λ place. again_one byte_codec answer_is.Wait next f)
answer_chosen (answer_is.Await next) f = (2, lit< tt, byte next, refl, λ place. again_one byte_codec answer_is.Await next f)
answer_chosen (answer_is.Done told) f = (3, lit< tt, byte (told_number told), refl, λ place. again_one told_codec answer_is.Done told tt)
answer_chosen (answer_is.Fail cause) f = (4, lit< tt, byte (cause_number cause), refl, λ place. again_one cause_codec answer_is.Fail cause tt)
answer_chosen answer_is.Undone f = (5, lit< tt, byte 0, refl, λ place. coded_again undone_of 0 answer_is.Undone (lit< tt) refl)

pub answer_codec : IsCodec answer_at answer AnswerFits
unfolding answer_at
answer_codec = kind_codec answer_of answer AnswerFits answer_arms answer_chosen

abbrev made_out : Answer → List Edit → List Child → Option Verb → Option Place → List Child → StepOut
made_out a es cs call p fs = record { answer = a; edits = es; children = cs; call = call; place = p; followers = fs }

pub out_codec : IsCodec out_at out OutFits
unfolding out_at out
out_codec = six_codec answer_codec (list_codec edit_codec) (list_codec child_codec) (option_codec verb_codec) (option_codec place_codec) (list_codec child_codec) made_out out OutFits
    (λ a es cs call p fs fa fes fcs fcall fp ffs. (refl, record { answer = fa; edits = fes; children = fcs; call = fcall; place = fp; followers = ffs }))
    (λ o f. (o.answer, o.edits, o.children, o.call, o.place, o.followers, f.answer, f.edits, f.children, f.call, f.place, f.followers, refl))
