-- What the images of a disk hold that is opened.
use Rattle.std.proofs.Common.{◌≡◌, ◌⊎◌, ℕ, ◌≤◌, List, [], ◌∷◌, length, refl, ap, ◌∙◌, sym, subst, inl, inr, ⊎_elim, arith, Result, Ok, Err}
use Rattle.std.specs.Prelude.{IfErr, IfOk}
use Rattle.hm_disk.specs.Disk.{LeavesOnly, LeavesThen}
use Rattle.hm_disk.specs.declared.disk.Disk as Disk
use Rattle.hm_disk.proofs.Moments.{weaker}
use Rattle.hm_log.specs.Format.{Reads, BeforeOrAfter, HoldsFrames}
use Rattle.hm_log.specs.Opening.{IsBlank, IsMaking, Reopens}
use Rattle.hm_data.specs.declared.entry.Entry.{Entry}
use Rattle.hm_data.specs.declared.entry.Entry.TheVariants as entry_is
use Rattle.hm_data.specs.declared.sheet.Sheet.{Sheet}
use Rattle.hm_entry.specs.Spelling.{entry as spelling}
use Rattle.hm_journal.specs.Since.{Began}
use Rattle.hm_journal.specs.Stored.{frames_of, HoldsJournal, GetsFirst, IsOpening}

-- two facts of what an opening gives
pub ok_both : {T E : Type 0} (r : Result T E) (P Q R : T → Type 0) → ((x : T) → P x → Q x → R x) → IfOk r P → IfOk r Q → IfOk r R
ok_both (Ok x) P Q R so p q = so x p q
ok_both (Err y) P Q R so p q = tt

-- three facts of it
pub ok_three : {T E : Type 0} (r : Result T E) (P Q R S : T → Type 0) → ((x : T) → P x → Q x → R x → S x) → IfOk r P → IfOk r Q → IfOk r R → IfOk r S
ok_three (Ok x) P Q R S so p q s = so x p q s
ok_three (Err y) P Q R S so p q s = tt

-- two facts of an error
pub err_both : {T E : Type 0} (r : Result T E) (P Q R : E → Type 0) → ((y : E) → P y → Q y → R y) → IfErr r P → IfErr r Q → IfErr r R
err_both (Ok x) P Q R so p q = tt
err_both (Err y) P Q R so p q = so y p q

module _ {D : Type 0} (moment : D → ℕ) (left_since : D → ℕ → List ℕ → Type 0) (image : D → List ℕ → Type 0) (counts : (d : D) (t : ℕ) (c : List ℕ) → t ≤ moment d → image d c → left_since d t c) where
  -- what a stop at any moment leaves, a stop now leaves
  pub image_now : (old new : D) (P : List ℕ → Type 0) → LeavesOnly moment left_since old new P → (c : List ℕ) → image new c → P c
  image_now old new P leaves c is = leaves.each c (counts new (moment old) c leaves.later is)

module _ {D : Type 0} (moment : D → ℕ) (left_since : D → ℕ → List ℕ → Type 0) (image : D → List ℕ → Type 0) (only : (d : D) (c : List ℕ) → left_since d (moment d) c → image d c) where
  -- what an opening left at each moment: what it could before, or what it can since
  pub then_all : (old new : D) (Q P : List ℕ → Type 0) → ((c : List ℕ) → image old c → Q c) → LeavesThen moment left_since old new Q P → LeavesOnly moment left_since old new (λ c. Q c ⊎ P c)
  then_all old new Q P was run = record {
    later = omega (arith, run.from, run.to);
    each = λ c left. ⊎_elim (λ past. inl (was c (only old c past))) (λ now. now) (run.earlier (moment old) c (omega arith) left);
    before = λ t c le left. run.earlier t c le left;
  }

-- what holds a log that isn't blank reads as its frames, and so it does after an opening that failed
pub left_reads : (old new : List ℕ) (frames : List (List ℕ)) → (IsBlank old → ⊥) → HoldsFrames old frames → (new ≡ old) ⊎ Reopens old new → Reads new frames
left_reads old new frames some opens left = by_left left
  where
    reads : HoldsFrames old frames → Reads old frames
    reads (inl empty) = absurd (some (inl empty.0))
    reads (inr is) = is

    by_left : (new ≡ old) ⊎ Reopens old new → Reads new frames
    by_left (inl same) = subst (λ (l : List ℕ). Reads l frames) (sym same) (reads opens)
    by_left (inr (inl alike)) = alike.stays frames (reads opens)
    by_left (inr (inr making)) = absurd (some making.0)

-- a journal without entries may have got its first
pub keeps_first : (sheets : List Sheet) (journal : List Entry) → length journal ≤ 0 → (bytes : List ℕ) → BeforeOrAfter [] (spelling (entry_is.Start sheets)) bytes → HoldsJournal sheets journal bytes
keeps_first sheets [] none bytes either = either
keeps_first sheets (entry ∷ journal) none bytes either = absurd (omega arith)

-- the same of each moment
pub began_keeps : {D Setting : Type 0} (d : Disk.Ghosts D Setting) (sheets : List Sheet) (journal : List Entry) (old new : D) → journal ≡ [] → Began d (entry_is.Start sheets) old new
    → d.tells → LeavesOnly d.moment d.left_since old new (HoldsJournal sheets journal)
began_keeps d sheets journal old new none began told =
    let empty = ap length none in
    weaker d.moment d.left_since old new (BeforeOrAfter [] (spelling (entry_is.Start sheets))) (HoldsJournal sheets journal) (keeps_first sheets journal (omega (arith, empty))) (began.leaves told)

-- where there are no frames there are no entries
pub no_entries : (journal : List Entry) → frames_of journal ≡ [] → journal ≡ []
no_entries [] none = refl
no_entries (entry ∷ journal) none = absurd (cc)

-- what keeps a journal without entries keeps each of its frames
pub keeps_none : (sheets : List Sheet) (kept journal : List Entry) (frames : List (List ℕ)) (bytes : List ℕ) → kept ≡ [] → frames_of kept ≡ frames → frames_of journal ≡ frames
    → HoldsJournal sheets kept bytes → HoldsJournal sheets journal bytes
keeps_none sheets kept journal frames bytes none are journal_are keeps =
    let same : kept ≡ journal = none ∙ sym (no_entries journal (journal_are ∙ sym are ∙ ap frames_of none)) in
    subst (λ (j : List Entry). HoldsJournal sheets j bytes) same keeps

-- the same, of the frames
pub gets_first : (sheets : List Sheet) (kept : List Entry) (frames : List (List ℕ)) (bytes : List ℕ) → kept ≡ [] → frames_of kept ≡ frames → HoldsJournal sheets kept bytes
    → Reads bytes frames ⊎ GetsFirst sheets frames bytes
gets_first sheets kept frames bytes none are keeps =
    let empty : [] ≡ frames = ap frames_of (sym none) ∙ are in
    let first : HoldsJournal sheets [] bytes = subst (λ (j : List Entry). HoldsJournal sheets j bytes) none keeps in
    ⊎_elim (λ reads. inl (subst (Reads bytes) empty reads)) (λ reads. inr (sym empty, reads)) first

-- what an opening left before it came to these frames
pub opening_first : (sheets : List Sheet) (seen : List ℕ) (before : List ℕ → Type 0) (frames : List (List ℕ)) → HoldsFrames seen frames
    → (c : List ℕ) → (before c ⊎ IsMaking seen c) ⊎ Reads c frames → IsOpening sheets seen before c
opening_first sheets seen before frames opens c (inl (inl was)) = inl was
opening_first sheets seen before frames opens c (inl (inr making)) = inr (inl making)
opening_first sheets seen before frames opens c (inr reads) = inr (inr (frames, opens, inl reads))

-- what it left since
pub opening_then : (sheets : List Sheet) (seen : List ℕ) (before : List ℕ → Type 0) (frames : List (List ℕ)) → HoldsFrames seen frames
    → (c : List ℕ) → Reads c frames ⊎ GetsFirst sheets frames c → IsOpening sheets seen before c
opening_then sheets seen before frames opens c more = inr (inr (frames, opens, more))

-- what an opening left that never came to any
pub opening_vain : (sheets : List Sheet) (seen : List ℕ) (before : List ℕ → Type 0) (c : List ℕ) → before c ⊎ Reopens seen c → IsOpening sheets seen before c
opening_vain sheets seen before c (inl was) = inl was
opening_vain sheets seen before c (inr (inl alike)) = inr (inr (alike.frames, inr alike.was, inl (alike.stays alike.frames alike.was)))
opening_vain sheets seen before c (inr (inr making)) = inr (inl making)
