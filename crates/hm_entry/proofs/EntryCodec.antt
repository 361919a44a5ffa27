-- The codec of entries, and the two laws of all of the bytes.
use Rattle.std.proofs.Common.{◌≡◌, ℕ, Bool, true, false, cond, eqb, List, [], ◌++◌, Result, Ok, Err, refl, sym, ap, subst, ◌∙◌, lit<}
use Rattle.hm_wire.specs.Input.{Input}
use Rattle.hm_wire.specs.Laws.{IsBytes}
use Rattle.std.specs.Prelude.{length, MatchResult, IfOk}
use Rattle.std.proofs.lemmas.Bool.{eqb-true}
use Rattle.std.proofs.lemmas.List.{append-nil, nil_from_length}
use Rattle.hm_data.specs.Numbers.{told_number}
use Rattle.hm_data.specs.declared.entry.Entry.{Entry}
use Rattle.hm_data.specs.declared.entry.Entry.TheVariants as entry_is
use Rattle.hm_entry.specs.declared.fault.EntryFault.{EntryFault}
use Rattle.hm_entry.specs.declared.fault.EntryFault.TheVariants.{Short, Field, Rest, Memory}
use Rattle.hm_entry.specs.Spelling.{byte, option, list, pid, server, nonce, sheet, request, out, part, entry}
use Rattle.hm_entry.specs.Fits.{EntryFits}
use Rattle.hm_entry.specs.Reading.{◌>>=◌, GivesAll, entry_of, entry_at, all_of}
use Rattle.hm_entry.proofs.Codec.{IsCodec, input, done, ok_is, bind_ok, again_one, again_two, again_three}
use Rattle.hm_entry.proofs.FieldCodecs.{byte_codec}
use Rattle.hm_entry.proofs.KindCodecs.{IsArm, Chosen, no_arm, one_arm, two_arm, three_arm, or_else, kind_codec, option_codec, list_codec}
use Rattle.hm_entry.proofs.CodeCodecs.{told_codec}
use Rattle.hm_entry.proofs.NameCodecs.{pid_codec, server_codec, nonce_codec}
use Rattle.hm_entry.proofs.RequestCodecs.{sheet_codec, request_codec}
use Rattle.hm_entry.proofs.StepCodecs.{out_codec}
use Rattle.hm_entry.proofs.PartCodecs.{part_codec}

entry_arms : (place kind : ℕ) (i : Input) → IsBytes i.rest → IsArm kind entry EntryFits i (entry_of place kind i)
unfolding entry_of entry
entry_arms place kind i bytes =
    or_else kind 0 (one_arm (list_codec sheet_codec) entry_is.Start (λ p fp. (refl, fp)) i bytes) (
    or_else kind 1 (two_arm nonce_codec request_codec entry_is.Submit (λ p q fp fq. (refl, (fp, fq))) i bytes) (
    or_else kind 2 (three_arm pid_codec (option_codec server_codec) out_codec entry_is.Step (λ p q r fp fq fr. (refl, (fp, fq, fr))) i bytes) (
    or_else kind 3 (three_arm pid_codec byte_codec out_codec entry_is.Undo (λ p q r fp fq fr. (refl, (fp, fq, fr))) i bytes) (
    or_else kind 4 (two_arm pid_codec told_codec entry_is.Report (λ p q fp fq. (refl, fp)) i bytes) (
    or_else kind 5 (one_arm server_codec entry_is.Up (λ p fp. (refl, fp)) i bytes) (
    or_else kind 6 (one_arm server_codec entry_is.Down (λ p fp. (refl, fp)) i bytes) (
    or_else kind 7 (one_arm pid_codec entry_is.Abort (λ p fp. (refl, fp)) i bytes) (
    or_else kind 8 (one_arm part_codec entry_is.Base (λ p fp. (refl, fp)) i bytes) (
    or_else kind 9 (one_arm (list_codec sheet_codec) entry_is.Adopt (λ p fp. (refl, fp)) i bytes) (
    no_arm (Field place)))))))))))

entry_chosen : (v : Entry) → EntryFits v → Chosen entry_of entry v
unfolding entry_of entry
entry_chosen (entry_is.Start sheets) f = (0, lit< tt, list sheet sheets, refl, λ place. again_one (list_codec sheet_codec) entry_is.Start sheets f)
entry_chosen (entry_is.Submit given asked) f = (1, lit< tt, nonce given ++ request asked, refl, λ place. again_two nonce_codec request_codec entry_is.Submit given asked f.0 f.1)
entry_chosen (entry_is.Step p pick o) f = (2, lit< tt, pid p ++ (option server pick ++ out o), refl, λ place. again_three pid_codec (option_codec server_codec) out_codec entry_is.Step p pick o f.0 f.1 f.2)
entry_chosen (entry_is.Undo p undone o) f = (3, lit< tt, pid p ++ (byte undone ++ out o), refl, λ place. again_three pid_codec byte_codec out_codec entry_is.Undo p undone o f.0 f.1 f.2)
entry_chosen (entry_is.Report call told) f = (4, lit< tt, pid call ++ byte (told_number told), refl, λ place. again_two pid_codec told_codec entry_is.Report call told f tt)
entry_chosen (entry_is.Up s) f = (5, lit< tt, server s, refl, λ place. again_one server_codec entry_is.Up s f)
entry_chosen (entry_is.Down s) f = (6, lit< tt, server s, refl, λ place. again_one server_codec entry_is.Down s f)
entry_chosen (entry_is.Abort p) f = (7, lit< tt, pid p, refl, λ place. again_one pid_codec entry_is.Abort p f)
entry_chosen (entry_is.Base own) f = (8, lit< tt, part own, refl, λ place. again_one part_codec entry_is.Base own f)
entry_chosen (entry_is.Adopt sheets) f = (9, lit< tt, list sheet sheets, refl, λ place. again_one (list_codec sheet_codec) entry_is.Adopt sheets f)

pub entry_codec : IsCodec entry_at entry EntryFits
unfolding entry_at
entry_codec = kind_codec entry_of entry EntryFits entry_arms entry_chosen

ended : (b : Bool) (f : EntryFault) (x y : Entry) → cond b (Ok x) (Err f) ≡ Ok y → (b ≡ true) × (x ≡ y)
ended true f x y e = (refl, ok_is x y e)
ended false f x y e = absurd cc

-- what all of the bytes are read as is spelled by them
pub all_takes : (bytes : List ℕ) (v : Entry) → IsBytes bytes → all_of bytes ≡ Ok v → EntryFits v × (bytes ≡ entry v)
unfolding all_of
all_takes bytes v fits e =
    let b = bind_ok (entry_at (input 0 bytes)) (λ x. cond (eqb (length x.1.rest) 0) (done x.0) (Err (Rest x.1.at))) v e in
    let t = entry_codec.takes (input 0 bytes) b.0 fits b.1 in
    let g = ended (eqb (length b.0.1.rest) 0) (Rest b.0.1.at) b.0.0 v b.2 in
    let nothing : b.0.1.rest ≡ [] = nil_from_length b.0.1.rest (eqb-true (length b.0.1.rest) 0 g.0) in
    let whole : bytes ≡ entry b.0.0 = t.0.parts ∙ ap (λ (r : List ℕ). entry b.0.0 ++ r) nothing ∙ append-nil (entry b.0.0) in
    subst (λ (w : Entry). EntryFits w × (bytes ≡ entry w)) g.1 (t.1, whole)

-- what spells an entry is read as it
pub all_again : (v : Entry) → EntryFits v → all_of (entry v) ≡ Ok v
unfolding all_of
all_again v f =
    let x = entry_codec.again v f 0 [] in
    ap (λ (t : List ℕ). all_of t) (sym (append-nil (entry v)))
    ∙ ap (λ (r : Result (Entry × Input) EntryFault). r >>= λ x. cond (eqb (length x.1.rest) 0) (done x.0) (Err (Rest x.1.at))) x.1

-- entries with one spelling are one
pub one_entry : (a b : Entry) → EntryFits a → EntryFits b → entry a ≡ entry b → a ≡ b
one_entry a b fa fb same = ok_is a b (sym (all_again a fa) ∙ ap all_of same ∙ all_again b fb)

-- an answer that is what all of the bytes are read as
pub is_found : (bytes : List ℕ) (r : Result Entry EntryFault) → IsBytes bytes → GivesAll r (all_of bytes) → IfOk r (λ v. EntryFits v × (bytes ≡ entry v))
is_found bytes (Ok v) fits given = all_takes bytes v fits given
is_found bytes (Err f) fits given = tt

pub is_only : (bytes : List ℕ) (r : Result Entry EntryFault) → GivesAll r (all_of bytes) → (v : Entry) → EntryFits v → bytes ≡ entry v → MatchResult r (λ x. x ≡ v) (λ f. f ≡ Memory)
is_only bytes (Ok x) given v fits is = ok_is x v (sym given ∙ ap all_of is ∙ all_again v fits)
is_only bytes (Err Memory) given v fits is = refl
is_only bytes (Err (Short p)) given v fits is = let e = sym given ∙ ap all_of is ∙ all_again v fits in absurd cc
is_only bytes (Err (Field p)) given v fits is = let e = sym given ∙ ap all_of is ∙ all_again v fits in absurd cc
is_only bytes (Err (Rest p)) given v fits is = let e = sym given ∙ ap all_of is ∙ all_again v fits in absurd cc
