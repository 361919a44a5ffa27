-- What is kept of a journal.
use Rattle.std.proofs.Common.{◌≡◌, ◌≢◌, ◌⊎◌, ℕ, ◌+◌, ◌≤◌, Bool, true, false, List, [], ◌∷◌, ◌++◌, length, map, Option, Some, None, Result, Ok, Err, refl, sym, ap, ◌∙◌, subst, inl, inr, ⊎_elim, arith, length-append}
use Rattle.std.specs.Prelude.{All, IfSome, MatchOption, OnErr, OnOk}
use Rattle.std.specs.Result.{is_err}
use Rattle.std.specs.Global.{Vec}
use Rattle.std.proofs.lemmas.List.{map-append}
use Rattle.std.proofs.lemmas.List.Elements.{All-head, All-push, All-tail}
use Rattle.std.proofs.lemmas.List.Sums.{sum_by-append}
use Rattle.std.proofs.lemmas.Option.{same_Some}
use Rattle.hm_disk.specs.Disk.{LeavesOnly}
use Rattle.hm_disk.proofs.Moments.{weaker}
use Rattle.hm_log.specs.Format.{BeforeOrAfter, IsFrame, Reads}
use Rattle.hm_data.specs.declared.entry.Entry.{Entry}
use Rattle.hm_data.specs.declared.entry.Entry.TheVariants as entry_is
use Rattle.hm_entry.specs.declared.fault.EntryFault.{EntryFault}
use Rattle.hm_entry.specs.Fits.{EntryFits}
use Rattle.hm_entry.specs.Reading.{all_of}
use Rattle.hm_entry.specs.Spelling.{entry as spelling}
use Rattle.hm_entry.proofs.EntryCodec.{all_again}
use Rattle.hm_model.specs.Laws.{is_part}
use Rattle.hm_hall.specs.Recording.{Recording, Passes, Records, behind, bytes_of, parts_of, with_next}
use Rattle.hm_hall.specs.declared.fault.Halt.{Halt}
use Rattle.hm_hall.specs.declared.fault.Halt.TheVariants as halt_is
use Rattle.hm_hall.specs.declared.fault.RecordFault.TheVariants as fault_is
use Rattle.hm_journal.specs.Stored.{frames_of}
use Rattle.hm_journal.specs.View.{entry_in, entry_of, entries_in, kept_of, ready_of, IsFrameOf, IsOrigin, IsReady, IsWellKept}
use Rattle.hm_journal.specs.declared.limits.Limits.{Limits}
use Rattle.hm_journal.specs.declared.next.Next.{Next}
use Rattle.hm_journal.proofs.Judging.{origin_on}

-- what spells an entry is read as it
pub entry_read : (bytes : List ℕ) (entry : Entry) → EntryFits entry → bytes ≡ spelling entry → all_of bytes ≡ Ok entry
entry_read bytes entry fits is = ap (λ (b : List ℕ). all_of b) is ∙ all_again entry fits

-- the same, as a journal has it
pub entry_in_is : (bytes : List ℕ) (entry : Entry) → EntryFits entry → bytes ≡ spelling entry → entry_in bytes ≡ Some entry
entry_in_is bytes entry fits is = rw (entry_read bytes entry fits is, entry_in) refl

-- no spelling is empty
pub entry_some : (e : Entry) → 1 ≤ length (spelling e)
unfolding spelling
entry_some (entry_is.Start sheets) = omega arith
entry_some entry = omega arith

-- one frame more
pub entries_more : (frames : List (Vec ℕ)) (frame : Vec ℕ) (entry : Entry) → EntryFits entry → frame.items ≡ spelling entry
    → entries_in (frames ++ frame ∷ []) ≡ entries_in frames ++ entry ∷ []
entries_more [] frame entry fits is = rw (entry_read frame.items entry fits is, entries_in) refl
entries_more (first ∷ frames) frame entry fits is = by_reading (all_of first.items) (entries_more frames frame entry fits is)
  where
    by_reading : (read : Result Entry EntryFault) → entries_in (frames ++ frame ∷ []) ≡ entries_in frames ++ entry ∷ []
        → elim read as (λ r. List Entry) [ Ok e ↦ e ∷ entries_in (frames ++ frame ∷ []) | Err fault ↦ entries_in (frames ++ frame ∷ []) ]
        ≡ elim read as (λ r. List Entry) [ Ok e ↦ e ∷ entries_in frames | Err fault ↦ entries_in frames ] ++ entry ∷ []
    by_reading (Ok e) more = ap (λ (es : List Entry). e ∷ es) more
    by_reading (Err fault) more = more

-- frames that spell entries, one for each
pub entries_are : (frames : List (Vec ℕ)) (entries : List Entry) → All EntryFits entries → map (λ (frame : Vec ℕ). frame.items) frames ≡ frames_of entries → entries_in frames ≡ entries
entries_are [] [] fit are = refl
entries_are [] (entry ∷ entries) fit are = absurd (cc)
entries_are (frame ∷ frames) [] fit are = absurd (cc)
entries_are (frame ∷ frames) (entry ∷ entries) fit are =
    let is : frame.items ≡ spelling entry = cc in
    let rest : map (λ (frame : Vec ℕ). frame.items) frames ≡ frames_of entries = cc in
    rw (entry_read frame.items entry (All-head EntryFits entry entries fit) is, entries_in)
    (ap (λ (es : List Entry). entry ∷ es) (entries_are frames entries (All-tail EntryFits entry entries fit) rest))

-- the bytes of one entry more
pub bytes_more : (entries : List Entry) (entry : Entry) → bytes_of (entries ++ entry ∷ []) ≡ bytes_of entries + length (spelling entry) + 5
bytes_more entries entry = omega (arith, sum_by-append (λ (e : Entry). length (spelling e) + 5) entries (entry ∷ []))

-- a frame of the log
pub is_frame : (bytes : List ℕ) (entry : Entry) → bytes ≡ spelling entry → length bytes ≤ 65536 → IsFrame bytes
is_frame bytes entry spells short =
    record { some = subst (λ (b : List ℕ). 1 ≤ length b) (sym spells) (entry_some entry); most = short }

-- the frames of one entry more
pub more_frames : (logged : List (List ℕ)) (entries : List Entry) (bytes : List ℕ) (entry : Entry) → logged ≡ frames_of entries → bytes ≡ spelling entry
    → logged ++ bytes ∷ [] ≡ frames_of (entries ++ entry ∷ [])
more_frames logged entries bytes entry are is = let more = map-append spelling entries (entry ∷ []) in cc

-- what a call finds: this entry is ready, and nothing has halted the journal. It takes the entry away.
pub record Finds (next after : Option Next) (halted : Option Halt) (found : Next) : Type 0 where
  pub going : halted ≡ None
  pub is : next ≡ Some found
  pub gone : after ≡ None

-- the same, from what the call learns step by step
pub found_next : (next after taken : Option Next) (halted : Option Halt) (found : Next) → halted ≡ None → taken ≡ next → after ≡ None → taken ≡ Some found → Finds next after halted found
found_next next after taken halted found going value gone is = record { going = going; is = sym value ∙ is; gone = gone }

-- the entry that it finds
the_entry : (next after : Option Next) (halted : Option Halt) (found : Next) → Finds next after halted found → (entry : Entry) → ready_of next ≡ Some entry → found.entry.disk ≡ entry
the_entry next after halted found finds entry is = same_Some found.entry.disk entry (ap ready_of (sym finds.is) ∙ is)

-- it is as what is ready
pub finds_ready : (kept : Recording) (used room : ℕ) (next after : Option Next) (halted : Option Halt) (found : Next) → Finds next after halted found → IfSome next (IsReady kept used room) → IsReady kept used room found
finds_ready kept used room next after halted found finds ready = subst (λ (n : Option Next). IfSome n (IsReady kept used room)) finds.is ready

-- what has a frame will be accepted
pub ready_frame : (kept : Recording) (used room : ℕ) (found : Next) (frame : Vec ℕ) → IsReady kept used room found → found.frame ≡ Some frame → IsFrameOf kept found.entry.disk used room frame.items
ready_frame kept used room found frame ready is =
    let P : Option (Vec ℕ) → Type 0 = λ o. MatchOption o ((kept.halted ≢ None) ⊎ Passes kept.hard kept.entries found.entry.disk) (λ f. IsFrameOf kept found.entry.disk used room f.items) in
    subst P is ready

-- what has none passes the hard mark, where nothing has halted the journal
pub ready_passes : (kept : Recording) (used room : ℕ) (found : Next) → IsReady kept used room found → found.frame ≡ None → kept.halted ≡ None → Passes kept.hard kept.entries found.entry.disk
ready_passes kept used room found ready is going =
    let P : Option (Vec ℕ) → Type 0 = λ o. MatchOption o ((kept.halted ≢ None) ⊎ Passes kept.hard kept.entries found.entry.disk) (λ f. IsFrameOf kept found.entry.disk used room f.items) in
    ⊎_elim (λ halted. absurd (halted going)) (λ passes. passes) (subst P is ready)

module _ (frames : List (Vec ℕ)) (next after : Option Next) (tail : Option (Vec ℕ)) (halted : Option Halt) (limits : Limits) (found : Next) (finds : Finds next after halted found) where
  -- the hard mark stops it
  pub full_records : (bytes : ℕ) → Passes limits.hard (entries_in frames) found.entry.disk → bytes ≡ bytes_of (entries_in frames) → (entry : Entry) → ready_of next ≡ Some entry
      → Records (kept_of frames next tail halted limits) entry (Err (fault_is.JournalFull bytes)) (kept_of frames after tail (Some (halt_is.JournalFull bytes)) limits)
  full_records bytes passes sized entry is = (
    finds.going,
    subst (Passes limits.hard (entries_in frames)) (the_entry next after halted found finds entry is) passes,
    sized,
    ap (λ (n : Option Next). kept_of frames n tail (Some (halt_is.JournalFull bytes)) limits) finds.gone,
  )

  module _ (used room : ℕ) (frame : Vec ℕ) (is_frame_of : IsFrameOf (kept_of frames next tail halted limits) found.entry.disk used room frame.items) where
    -- the log failed at it
    pub failed_records : (entry : Entry) → ready_of next ≡ Some entry
        → Records (kept_of frames next tail halted limits) entry (Err fault_is.LogFault) (kept_of frames after (Some frame) (Some halt_is.LogFault) limits)
    failed_records entry is =
        let same = the_entry next after halted found finds entry is in
        let read : entry_in frame.items ≡ Some entry = entry_in_is frame.items found.entry.disk is_frame_of.fits is_frame_of.spells ∙ ap Some same in (
          finds.going,
          subst (λ (e : Entry). Passes limits.hard (entries_in frames) e → ⊥) same is_frame_of.accepted.1,
          ap (λ (n : Option Next). kept_of frames n (Some frame) (Some halt_is.LogFault) limits) finds.gone
              ∙ ap (λ (e : Option Entry). record { entries = entries_in frames; next = None; tail = e; halted = Some halt_is.LogFault; soft = limits.soft; hard = limits.hard }) read,
        )

    -- it is recorded
    pub recorded : (number : ℕ) → number ≡ length (behind (entries_in frames)) → (more : List (Vec ℕ)) → more ≡ frames ++ frame ∷ [] → (entry : Entry) → ready_of next ≡ Some entry
        → Records (kept_of frames next tail halted limits) entry (Ok number) (kept_of more after tail halted limits)
    recorded number count more pushed entry is =
        let same = the_entry next after halted found finds entry is in
        let grown : entries_in more ≡ entries_in frames ++ entry ∷ [] =
        ap entries_in pushed ∙ entries_more frames frame found.entry.disk is_frame_of.fits is_frame_of.spells ∙ ap (λ (e : Entry). entries_in frames ++ e ∷ []) same in (
          finds.going,
          subst (λ (e : Entry). Passes limits.hard (entries_in frames) e → ⊥) same is_frame_of.accepted.1,
          count,
          ap (λ (n : Option Next). kept_of more n tail halted limits) finds.gone
              ∙ ap (λ (es : List Entry). record { entries = es; next = None; tail = entry_of tail; halted = halted; soft = limits.soft; hard = limits.hard }) grown,
        )

-- the journal is going, and its log has its frames
pub logs : (tells : Type 0) (image : List ℕ → Type 0) (logged : List (List ℕ)) (size : ℕ) (stalled : Bool) (next : Option Next) (tail : Option (Vec ℕ)) (bytes parts based used room : ℕ) (kept : Recording)
    → IsWellKept tells image logged size stalled next tail bytes parts based used room kept → kept.halted ≡ None → tells → logged ≡ frames_of kept.entries
logs tells image logged size stalled next tail bytes parts based used room kept was going told = was.logged_is told (was.live (λ failed. absurd (cc)))

-- what is kept where the log failed
pub kept_failed : (tells : Type 0) (image image' : List ℕ → Type 0) (logged logged' : List (List ℕ)) (size size' : ℕ) (stalled stalled' : Bool) (frames : List (Vec ℕ)) (next after : Option Next) (tail : Option (Vec ℕ))
    (halted : Option Halt) (limits : Limits) (found : Next) (frame : Vec ℕ) (bytes parts based used room : ℕ)
    → IsWellKept tells image logged size stalled next tail bytes parts based used room (kept_of frames next tail halted limits) → Finds next after halted found
    → IsFrameOf (kept_of frames next tail halted limits) found.entry.disk used room frame.items → stalled' ≡ true
    → (tells → (c : List ℕ) → image' c → BeforeOrAfter logged frame.items c)
    → IsWellKept tells image' logged' size' stalled' after (Some frame) bytes parts based used room (kept_of frames after (Some frame) (Some halt_is.LogFault) limits)
kept_failed tells image image' logged logged' size size' stalled stalled' frames next after tail halted limits found frame bytes parts based used room was finds is stalls either =
    let entry = found.entry.disk in
    let same : entry_in frame.items ≡ Some entry = entry_in_is frame.items entry is.fits is.spells in
    record {
      fits = was.fits;
      origin = was.origin;
      count_is = was.count_is;
      next_is = subst (λ (n : Option Next). IfSome n (IsReady (kept_of frames after (Some frame) (Some halt_is.LogFault) limits) used room)) (sym finds.gone) tt;
      tail_is = (entry, is.spells, is.fits);
      sized = was.sized;
      live = λ no. absurd (no refl);
      failed = λ some. refl;
      size_is = λ no. absurd (cc);
      logged_is = λ told no. absurd (cc);
      stored = λ told c at.
          let are : logged ≡ frames_of (entries_in frames) = logs tells image logged size stalled next tail bytes parts based used room (kept_of frames next tail halted limits) was finds.going told in
          ⊎_elim (λ reads. inl (subst (λ (fs : List (List ℕ)). Reads c fs) are reads))
          (λ reads. inr (entry, same, is.fits, subst (λ (fs : List (List ℕ)). Reads c fs) (more_frames logged (entries_in frames) frame.items entry are is.spells) reads)) (either told c at);
    }

-- what is kept where the entry was recorded
pub kept_recorded : (tells : Type 0) (image image' : List ℕ → Type 0) (logged logged' : List (List ℕ)) (size size' : ℕ) (stalled stalled' : Bool) (frames more : List (Vec ℕ)) (next after : Option Next) (tail : Option (Vec ℕ))
    (halted : Option Halt) (limits : Limits) (found : Next) (frame : Vec ℕ) (written : List ℕ) (bytes long parts based used used' room room' : ℕ)
    → IsWellKept tells image logged size stalled next tail bytes parts based used room (kept_of frames next tail halted limits) → Finds next after halted found
    → IsFrameOf (kept_of frames next tail halted limits) found.entry.disk used room frame.items → stalled' ≡ false
    → written ≡ frame.items → more ≡ frames ++ frame ∷ [] → used' ≡ used + 1 → long ≡ length frame.items → size' ≡ size + length written + 5
    → (tells → logged' ≡ logged ++ written ∷ []) → (tells → (c : List ℕ) → image' c → Reads c logged')
    → ((entries : List Entry) (entry : Entry) → is_part entry ≡ false → parts_of (entries ++ entry ∷ []) ≡ parts_of entries)
    → ((entries : List Entry) (entry : Entry) → is_part entry ≡ false → behind (entries ++ entry ∷ []) ≡ behind entries ++ entry ∷ [])
    → IsWellKept tells image' logged' size' stalled' after tail (bytes + (long + 5)) parts based used' room' (kept_of more after tail halted limits)
kept_recorded tells image image' logged logged' size size' stalled stalled' frames more next after tail halted limits found frame written bytes long parts based used used' room room' was finds is live value pushed counts longer larger added durable stay grow =
    let entry = found.entry.disk in
    let spelled : written ≡ spelling entry = value ∙ is.spells in
    let one : length written ≡ length (spelling entry) = ap length spelled in
    let same : length written ≡ length frame.items = ap length value in
    let grown : entries_in more ≡ entries_in frames ++ entry ∷ [] = ap entries_in pushed ∙ entries_more frames frame entry is.fits is.spells in
    let going : stalled ≡ false = was.live (λ failed. absurd (let none = finds.going in cc)) in
    let are : tells → logged' ≡ frames_of (entries_in more) = λ told. added told
    ∙ more_frames logged (entries_in frames) written entry (was.logged_is told going) spelled ∙ ap frames_of (sym grown) in
    record {
      fits = subst (λ (es : List Entry). All EntryFits es) (sym grown) (All-push EntryFits (entries_in frames) entry was.fits is.fits);
      origin = subst (IsOrigin parts based) (sym grown) (origin_on stay grow parts based (entries_in frames) entry is.other was.origin);
      count_is = rw grown (simp length-append (omega (arith, counts, was.count_is)));
      next_is = subst (λ (n : Option Next). IfSome n (IsReady (kept_of more after tail halted limits) used' room')) (sym finds.gone) tt;
      tail_is = was.tail_is;
      sized = rw grown (rw (bytes_more (entries_in frames) entry) (omega (arith, longer, same, one, was.sized)));
      live = λ no. live;
      failed = was.failed;
      size_is = λ no. omega (arith, longer, larger, same, was.size_is going);
      logged_is = λ told no. are told;
      stored = λ told c at. inl (subst (λ (fs : List (List ℕ)). Reads c fs) (are told) (durable told c at));
    }

-- how many entries are behind the base
pub place_of : (parts based : ℕ) (entries : List Entry) → parts_of entries ++ behind entries ≡ entries → IsOrigin parts based entries → length entries ≡ parts + length (behind entries)
place_of parts based entries all origin =
    let long = ap length all in
    omega (arith, origin.parts_are, long, length-append (parts_of entries) (behind entries))

-- an entry made ready
pub readied : (frames same : List (Vec ℕ)) (next : Option Next) (tail : Option (Vec ℕ)) (halted : Option Halt) (limits : Limits) (found : Next) (entry : Entry) (kept : Recording)
    → kept_of frames next tail halted limits ≡ kept → same ≡ frames → found.entry.disk ≡ entry → kept_of same (Some found) tail halted limits ≡ with_next kept entry
readied frames same next tail halted limits found entry kept is alike here =
    ap (λ (e : Entry). record { entries = entries_in same; next = Some e; tail = entry_of tail; halted = halted; soft = limits.soft; hard = limits.hard }) here
    ∙ ap (λ (fs : List (Vec ℕ)). with_next (kept_of fs next tail halted limits) entry) alike ∙ ap (λ (k : Recording). with_next k entry) is

-- what holds of a failure
pub on_err : {T E : Type 0} (r : Result T E) (P : Type 0) (tested : Bool) → tested ≡ is_err r → tested ≡ true → OnErr r P → P
on_err (Ok x) P tested is true_is holds = absurd (cc)
on_err (Err e) P tested is true_is holds = holds

-- what holds of a success
pub on_ok : {T E : Type 0} (r : Result T E) (P : Type 0) (tested : Bool) → tested ≡ is_err r → tested ≡ false → OnOk r P → P
on_ok (Ok x) P tested is false_is holds = holds
on_ok (Err e) P tested is false_is holds = absurd (cc)

module _ {D : Type 0} (moment : D → ℕ) (left_since : D → ℕ → List ℕ → Type 0) (image : D → List ℕ → Type 0) (counts : (d : D) (t : ℕ) (c : List ℕ) → t ≤ moment d → image d c → left_since d t c) where
  -- what an addition to the log leaves now
  pub left_now : (old new : D) (logged : List (List ℕ)) (written bytes : List ℕ) → written ≡ bytes → LeavesOnly moment left_since old new (BeforeOrAfter logged written)
      → (c : List ℕ) → image new c → BeforeOrAfter logged bytes c
  left_now old new logged written bytes is run c now = subst (λ (b : List ℕ). BeforeOrAfter logged b c) is (run.each c (counts new (moment old) c run.later now))

module _ {D : Type 0} (moment : D → ℕ) (left_since : D → ℕ → List ℕ → Type 0) where
  -- what an addition to the log leaves, of the entries
  pub leaves_entry : (old new : D) (logged : List (List ℕ)) (written bytes : List ℕ) (entries : List Entry) (entry : Entry) → logged ≡ frames_of entries → written ≡ bytes → bytes ≡ spelling entry
      → LeavesOnly moment left_since old new (BeforeOrAfter logged written) → LeavesOnly moment left_since old new (BeforeOrAfter (frames_of entries) (spelling entry))
  leaves_entry old new logged written bytes entries entry are value is run =
      let same : written ≡ spelling entry = value ∙ is in
      weaker moment left_since old new (BeforeOrAfter logged written) (BeforeOrAfter (frames_of entries) (spelling entry))
      (λ c either. subst (λ (fs : List (List ℕ)). BeforeOrAfter fs (spelling entry) c) are (subst (λ (b : List ℕ). BeforeOrAfter logged b c) same either)) run
