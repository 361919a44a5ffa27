-- What a journal has done to its disk since it was opened, call by call.
use Rattle.std.proofs.Common.{◌≡◌, ◌≢◌, ◌⊎◌, ℕ, ◌+◌, ◌≤◌, List, [], ◌∷◌, ◌++◌, length, Option, Some, None, refl, sym, ap, ◌∙◌, subst, inl, inr, arith, length-append, append_assoc, append-nil}
use Rattle.hm_ports.specs.Faults.{Rose}
use Rattle.hm_disk.specs.Called.{IsCalled}
use Rattle.hm_disk.specs.Disk.{LeavesOnly, RisesBy}
use Rattle.hm_disk.specs.declared.disk.Disk as Disk
use Rattle.hm_disk.proofs.Moments.{joined, started, weaker}
use Rattle.hm_log.specs.Format.{BeforeOrAfter, Reads}
use Rattle.hm_log.specs.Opening.{IsUsed}
use Rattle.hm_data.specs.declared.entry.Entry.{Entry}
use Rattle.hm_entry.specs.Spelling.{entry as spelling}
use Rattle.hm_hall.specs.declared.fault.Halt.{Halt}
use Rattle.hm_hall.specs.declared.fault.Halt.TheVariants as halt_is
use Rattle.std.proofs.lemmas.List.{map-append}
use Rattle.hm_journal.specs.Opened.{Opened}
use Rattle.hm_journal.specs.Since.{Began, IsFront, Since, with_tail}
use Rattle.hm_journal.specs.Stored.{frames_of}

-- a front of a journal is one of a longer journal
pub front_more : (least : ℕ) (entries more : List Entry) (c : List ℕ) → IsFront least entries c → IsFront least (entries ++ more) c
front_more least entries more c is = record {
  front = is.front;
  rest = is.rest ++ more;
  parts = ap (λ (es : List Entry). es ++ more) is.parts ∙ append_assoc is.front is.rest more;
  enough = is.enough;
  reads = is.reads;
}

-- all of a journal is a front of it
pub front_all : (least : ℕ) (entries : List Entry) (c : List ℕ) → least ≤ length entries → Reads c (frames_of entries) → IsFront least entries c
front_all least entries c enough reads = record { front = entries; rest = []; parts = sym (append-nil entries); enough = enough; reads = reads }

-- what an addition may leave is a front of the longer journal
pub front_added : (least : ℕ) (entries : List Entry) (entry : Entry) (c : List ℕ) → least ≤ length entries → BeforeOrAfter (frames_of entries) (spelling entry) c
    → IsFront least (entries ++ entry ∷ []) c
front_added least entries entry c enough (inl reads) = front_more least entries (entry ∷ []) c (front_all least entries c enough reads)
front_added least entries entry c enough (inr reads) =
    front_all least (entries ++ entry ∷ []) c (omega (arith, enough, length-append entries (entry ∷ [])))
    (subst (Reads c) (sym (map-append spelling entries (entry ∷ []))) reads)

-- what isn't halted has no tail
pub no_tail : (tail : Option Entry) (halted : Option Halt) → (tail ≢ None → halted ≡ Some halt_is.LogFault) → halted ≡ None → tail ≡ None
no_tail None halted failed going = refl
no_tail (Some entry) halted failed going = absurd (let fault = failed (λ none. absurd (cc)) in cc)

module _ {D Setting : Type 0} (d : Disk.Ghosts D Setting) (opened : Opened D) where
  leaves_added : (old new : D) (entries : List Entry) (entry : Entry) → Since d opened old entries None None
      → LeavesOnly d.moment d.left_since old new (BeforeOrAfter (frames_of entries) (spelling entry))
      → d.tells → LeavesOnly d.moment d.left_since opened.disk new (IsFront opened.count (entries ++ entry ∷ []))
  leaves_added old new entries entry was run told =
      joined d.moment d.left_since opened.disk old new (IsFront opened.count (entries ++ entry ∷ []))
      (weaker d.moment d.left_since opened.disk old (IsFront opened.count entries) (IsFront opened.count (entries ++ entry ∷ [])) (front_more opened.count entries (entry ∷ [])) (was.leaves told))
      (weaker d.moment d.left_since old new (BeforeOrAfter (frames_of entries) (spelling entry)) (IsFront opened.count (entries ++ entry ∷ [])) (λ c. front_added opened.count entries entry c was.grown) run)

  -- an entry more
  pub since_recorded : (old new : D) (entries : List Entry) (entry : Entry) → Since d opened old entries None None
      → (d.tells → LeavesOnly d.moment d.left_since old new (BeforeOrAfter (frames_of entries) (spelling entry)))
      → RisesBy 2 (d.changes old) (d.changes new) → IsCalled d 2 old new → d.faults new ≡ d.faults old → Since d opened new (entries ++ entry ∷ []) None None
  since_recorded old new entries entry was run rises called quiet =
      let longer = length-append entries (entry ∷ []) in
      record {
        grown = omega (arith, longer, was.grown);
        leaves = λ told. leaves_added old new entries entry was (run told) told;
        called = record {
          fault = omega (arith, was.called.fault, called.fault);
          later = omega (arith, was.called.later, called.later);
          changes = omega (arith, longer, was.grown, was.called.changes, called.changes);
          setting = called.setting ∙ was.called.setting;
        };
        least = omega (arith, longer, was.grown, was.least, rises.least);
        failed = λ fault. absurd (cc);
        unfailed = λ going. quiet ∙ was.unfailed (λ fault. absurd (cc));
      }

  -- an entry whose recording failed
  pub since_failed : (old new : D) (entries : List Entry) (entry : Entry) → Since d opened old entries None None
      → (d.tells → LeavesOnly d.moment d.left_since old new (BeforeOrAfter (frames_of entries) (spelling entry)))
      → IsCalled d 2 old new → Rose (d.faults old) (d.faults new) → Since d opened new entries (Some entry) (Some halt_is.LogFault)
  since_failed old new entries entry was run called rose =
      let longer = length-append entries (entry ∷ []) in
      record {
        grown = was.grown;
        leaves = λ told. leaves_added old new entries entry was (run told) told;
        called = record {
          fault = omega (arith, was.called.fault, called.fault);
          later = omega (arith, was.called.later, called.later);
          changes = omega (arith, longer, was.grown, was.called.changes, called.changes);
          setting = called.setting ∙ was.called.setting;
        };
        least = omega (arith, was.least, called.later);
        failed = λ fault. omega (arith, rose, was.called.fault);
        unfailed = λ going. absurd (going refl);
      }

  -- a journal that is going has no tail
  pub since_going : (disk : D) (entries : List Entry) (tail : Option Entry) (halted : Option Halt) → halted ≡ None → (tail ≢ None → halted ≡ Some halt_is.LogFault)
      → Since d opened disk entries tail halted → Since d opened disk entries None None
  since_going disk entries tail halted going failed was =
      subst (λ (h : Option Halt). Since d opened disk entries None h) going (subst (λ (t : Option Entry). Since d opened disk entries t halted) (no_tail tail halted failed going) was)

  -- an entry more, of a journal that is going
  pub recorded_since : (old new : D) (entries grown : List Entry) (entry : Entry) (tail : Option Entry) (halted : Option Halt) → halted ≡ None → (tail ≢ None → halted ≡ Some halt_is.LogFault)
      → grown ≡ entries ++ entry ∷ [] → Since d opened old entries tail halted → (d.tells → LeavesOnly d.moment d.left_since old new (BeforeOrAfter (frames_of entries) (spelling entry)))
      → RisesBy 2 (d.changes old) (d.changes new) → IsCalled d 2 old new → d.faults new ≡ d.faults old → Since d opened new grown tail halted
  recorded_since old new entries grown entry tail halted going failed more was run rises called quiet =
      subst (λ (h : Option Halt). Since d opened new grown tail h) (sym going)
      (subst (λ (t : Option Entry). Since d opened new grown t None) (sym (no_tail tail halted failed going))
      (subst (λ (es : List Entry). Since d opened new es None None) (sym more)
      (since_recorded old new entries entry (since_going old entries tail halted going failed was) run rises called quiet)))

  -- an entry that would pass the hard mark, of a journal that was going
  pub full_since : (disk : D) (entries : List Entry) (tail : Option Entry) (halted : Option Halt) (bytes : ℕ) → halted ≡ None → Since d opened disk entries tail halted
      → Since d opened disk entries tail (Some (halt_is.JournalFull bytes))
  full_since disk entries tail halted bytes going was = record {
    grown = was.grown;
    leaves = was.leaves;
    called = was.called;
    least = was.least;
    failed = λ fault. absurd (cc);
    unfailed = λ other. was.unfailed (λ fault. absurd (let none = going in cc));
  }

  -- an entry whose recording failed, of a journal that was going
  pub failed_since : (old new : D) (entries : List Entry) (entry : Entry) (tail tail' : Option Entry) (halted : Option Halt) → halted ≡ None → (tail ≢ None → halted ≡ Some halt_is.LogFault)
      → tail' ≡ Some entry → Since d opened old entries tail halted → (d.tells → LeavesOnly d.moment d.left_since old new (BeforeOrAfter (frames_of entries) (spelling entry)))
      → IsCalled d 2 old new → Rose (d.faults old) (d.faults new) → Since d opened new entries tail' (Some halt_is.LogFault)
  failed_since old new entries entry tail tail' halted going failed is was run called rose =
      subst (λ (t : Option Entry). Since d opened new entries t (Some halt_is.LogFault)) (sym is)
      (since_failed old new entries entry (since_going old entries tail halted going failed was) run called rose)

-- calls one after another
pub called_then : {D Setting : Type 0} (d : Disk.Ghosts D Setting) (first second : ℕ) (old mid new : D) → IsCalled d first old mid → IsCalled d second mid new → IsCalled d (first + second) old new
called_then d first second old mid new called then = record {
  fault = omega (arith, called.fault, then.fault);
  later = omega (arith, called.later, then.later);
  changes = omega (arith, called.changes, then.changes);
  setting = then.setting ∙ called.setting;
}

-- counted calls after others
pub used_then : {D Setting : Type 0} (d : Disk.Ghosts D Setting) (most : ℕ) (old mid new : D) → IsUsed d old mid → IsCalled d most mid new → IsUsed d old new
used_then d most old mid new used then = record {
  fault = omega (arith, used.fault, then.fault);
  later = omega (arith, used.later, then.later);
  setting = then.setting ∙ used.setting;
}

-- no more than so many are no more than more
pub called_more : {D Setting : Type 0} (d : Disk.Ghosts D Setting) (few most : ℕ) (old new : D) → few ≤ most → IsCalled d few old new → IsCalled d most old new
called_more d few most old new le called = record { fault = called.fault; later = called.later; changes = omega (arith, called.changes, le); setting = called.setting }

-- no call
pub uncalled : {D Setting : Type 0} (d : Disk.Ghosts D Setting) (most : ℕ) (disk : D) → IsCalled d most disk disk
uncalled d most disk = record { fault = omega arith; later = omega arith; changes = omega arith; setting = refl }

-- what the recording of a first entry may leave
front_first : (entry : Entry) (tail : Option Entry) (c : List ℕ) → (tail ≡ None) ⊎ (tail ≡ Some entry) → IsFront 0 (with_tail [] tail) c → BeforeOrAfter [] (spelling entry) c
front_first entry tail c (inl none) is = by_parts is.front is.rest (ap (with_tail []) (sym none) ∙ is.parts) is.reads
  where
    by_parts : (front rest : List Entry) → [] ≡ front ++ rest → Reads c (frames_of front) → BeforeOrAfter [] (spelling entry) c
    by_parts [] rest parts reads = inl reads
    by_parts (e ∷ front) rest parts reads = absurd (cc)
front_first entry tail c (inr some) is = by_parts is.front is.rest (ap (with_tail []) (sym some) ∙ is.parts) is.reads
  where
    by_parts : (front rest : List Entry) → entry ∷ [] ≡ front ++ rest → Reads c (frames_of front) → BeforeOrAfter [] (spelling entry) c
    by_parts [] rest parts reads = inl reads
    by_parts (e ∷ []) rest parts reads = inr (let same : entry ≡ e = cc in subst (λ (x : Entry). Reads c (spelling x ∷ [])) (sym same) reads)
    by_parts (e ∷ f ∷ front) rest parts reads = absurd (cc)

-- what an opening that failed at its first entry did to the disk
pub began : {D Setting : Type 0} (d : Disk.Ghosts D Setting) (entry : Entry) (disk now : D) (opened : Opened D) (entries : List Entry) (tail : Option Entry) (halted : Option Halt)
    → opened ≡ record { disk = disk; count = 0 } → entries ≡ [] → (tail ≡ None) ⊎ (tail ≡ Some entry) → Since d opened now entries tail halted → Began d entry disk now
began {D} {Setting} d entry disk now opened entries tail halted here none either since =
    let first : Opened D = record { disk = disk; count = 0 } in
    let was : Since d first now [] tail halted = subst (λ (es : List Entry). Since d first now es tail halted) none (subst (λ (o : Opened D). Since d o now entries tail halted) here since) in
    record {
      leaves = λ told. weaker d.moment d.left_since disk now (IsFront 0 (with_tail [] tail)) (BeforeOrAfter [] (spelling entry)) (λ c. front_first entry tail c either) (was.leaves told);
      called = record {
        fault = was.called.fault;
        later = was.called.later;
        changes = omega (arith, was.called.changes, few either);
        setting = was.called.setting;
      };
    }
  where
    few : (tail ≡ None) ⊎ (tail ≡ Some entry) → length (with_tail [] tail) ≤ 1
    few (inl gone) = subst (λ (t : Option Entry). length (with_tail [] t) ≤ 1) (sym gone) (omega arith)
    few (inr some) = subst (λ (t : Option Entry). length (with_tail [] t) ≤ 1) (sym some) (omega arith)

module _ {D Setting : Type 0} (d : Disk.Ghosts D Setting) (only : (disk : D) (c : List ℕ) → d.left_since disk (d.moment disk) c → d.image disk c) where
  -- a journal just opened
  pub since_now : (disk : D) (entries : List Entry) → (d.tells → (c : List ℕ) → d.image disk c → Reads c (frames_of entries))
      → Since d (record { disk = disk; count = length entries }) disk entries None None
  since_now disk entries images = record {
    grown = omega arith;
    leaves = λ told. started d.moment d.left_since disk (IsFront (length entries) entries) (λ c left. front_all (length entries) entries c (omega arith) (images told c (only disk c left)));
    called = uncalled d _ disk;
    least = omega arith;
    failed = λ fault. absurd (cc);
    unfailed = λ going. refl;
  }
