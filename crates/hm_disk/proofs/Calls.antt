-- What a disk in memory keeps through its calls.
use Rattle.std.proofs.Common.{◌≡◌, ◌⊎◌, inl, inr, ℕ, ◌+◌, ◌-◌, ◌≤◌, List, [], ◌∷◌, ◌++◌, length, take, drop, replicate, refl, sym, ◌∙◌, ap, subst, arith, length-append, length-drop}
use Rattle.std.proofs.lemmas.List.{length-take, length-replicate}
use Rattle.hm_disk.specs.Disk.{written, Torn}
use Rattle.hm_disk.specs.Past.{Event, Reaches}
use Rattle.hm_disk.specs.Memory.{MemView, filled, mem_image, after_write, after_cut, after_sync}
use Rattle.hm_disk.specs.Fields.{IsKept}
use Rattle.hm_disk.proofs.Filled.{length-filled, filled-take, filled-written, filled-none}
use Rattle.hm_disk.proofs.Splice.{torn_same, torn_written}

-- what a disk keeps that is the same but for its counts
pub kept_as : (m n : MemView) → IsKept m → n.room ≡ m.room → n.bytes ≡ m.bytes → n.synced ≡ m.synced → n.dirty ≡ m.dirty → n.events ≡ m.events → IsKept n
kept_as m n kept room bytes synced dirty events =
    let there : (c : List ℕ) → Reaches m.events c → Reaches n.events c = λ c reaches. subst (λ (es : List Event). Reaches es c) (sym events) reaches in
    record {
      within = omega (arith, kept.within, ap length bytes);
      was = omega (arith, kept.was, ap length synced);
      marked = omega (arith, kept.marked, ap length bytes, ap length dirty);
      reads = there n.bytes (subst (λ (l : List ℕ). Reaches m.events l) (sym bytes) kept.reads);
      kept = there n.synced (subst (λ (l : List ℕ). Reaches m.events l) (sym synced) kept.kept);
      fills = λ v. there (filled v n.dirty n.bytes) (subst (λ (l : List ℕ). Reaches m.events (filled v n.dirty l)) (sym bytes) (subst (λ (l : List ℕ). Reaches m.events (filled v l m.bytes)) (sym dirty) (kept.fills v)));
    }

length-written : (at : ℕ) (new old : List ℕ) → at ≤ length old → length (written at new old) ≡ at + length new + (length old - (at + length new))
length-written at new old low = omega (arith, length-append (take at old ++ new) (drop (at + length new) old), length-append (take at old) new, length-take at old, length-drop (at + length new) old)

module _ (m : MemView) (kept : IsKept m) where
  pub kept_write : (at : ℕ) (new : List ℕ) → at ≤ length m.bytes → at + length new ≤ m.room → IsKept (after_write at new m)
  kept_write at new low fits =
      let ones : List ℕ = replicate (length new) 1 in
      let same : length ones ≡ length new = length-replicate {A = ℕ} (length new) 1 in
      record {
        within = omega (arith, kept.within, length-written at new m.bytes low);
        was = kept.was;
        marked = omega (arith, kept.marked, length-written at new m.bytes low, length-written at ones m.dirty (omega (arith, kept.marked)), same);
        reads = (m.bytes, kept.reads, torn_written at m.bytes new low);
        kept = (m.synced, kept.kept, torn_same at (length new) m.synced);
        fills = λ v.
            let old : List ℕ = filled v m.dirty m.bytes in
            let over : List ℕ = filled v ones new in
            let torn : Torn at (length over) old (written at over old) = torn_written at old over (omega (arith, length-filled v m.dirty m.bytes kept.marked)) in
            let as_long : Torn at (length new) old (written at over old) = subst (λ (k : ℕ). Torn at k old (written at over old)) (length-filled v ones new same) torn in
            (old, kept.fills v, subst (λ (l : List ℕ). Torn at (length new) old l) (sym (filled-written v at ones m.dirty new m.bytes kept.marked same low)) as_long);
      }

  pub kept_cut : (size : ℕ) → IsKept (after_cut size m)
  kept_cut size = record {
    within = omega (arith, kept.within, length-take size m.bytes);
    was = kept.was;
    marked = omega (arith, kept.marked, length-take size m.bytes, length-take size m.dirty);
    reads = (m.bytes, kept.reads, inr refl);
    kept = (m.synced, kept.kept, inl refl);
    fills = λ v. (filled v m.dirty m.bytes, kept.fills v, inr (filled-take v size m.dirty m.bytes));
  }

  pub kept_sync : IsKept (after_sync m)
  kept_sync = record {
    within = kept.within;
    was = kept.within;
    marked = length-replicate {A = ℕ} (length m.bytes) 0;
    reads = refl;
    kept = refl;
    fills = λ v. filled-none v m.bytes;
  }

-- a disk whose past is one sync
pub kept_new : (m : MemView) (bytes : List ℕ) → m.bytes ≡ bytes → m.synced ≡ bytes → m.dirty ≡ replicate (length bytes) 0 → m.events ≡ inr bytes ∷ [] → length bytes ≤ m.room → IsKept m
kept_new m bytes is synced dirty events fits =
    let there : (c : List ℕ) → c ≡ bytes → Reaches m.events c = λ c same. let now : Reaches (inr bytes ∷ []) c = same in subst (λ (es : List Event). Reaches es c) (sym events) now in
    record {
      within = omega (arith, ap length is);
      was = omega (arith, ap length synced);
      marked = omega (arith, ap length is, ap length dirty, length-replicate {A = ℕ} (length bytes) 0);
      reads = there m.bytes is;
      kept = there m.synced synced;
      fills = λ v. there (filled v m.dirty m.bytes) (ap (λ (l : List ℕ). filled v l m.bytes) dirty ∙ ap (λ (l : List ℕ). filled v (replicate (length bytes) 0) l) is ∙ filled-none v bytes);
    }

-- what a stop may leave after a write comes of what it might have left before
pub write_follows : (m : MemView) (at : ℕ) (new bytes : List ℕ) (events : List Event) (c : List ℕ) → at ≤ length m.bytes → bytes ≡ written at new m.bytes → events ≡ inl (inl (at, new)) ∷ m.events
    → (c ≡ bytes) ⊎ Reaches events c → (d : List ℕ) × mem_image m d × Torn at (length new) d c
write_follows m at new bytes events c low is noted (inl same) = (m.bytes, inl refl, subst (λ (l : List ℕ). Torn at (length new) m.bytes l) (sym (same ∙ is)) (torn_written at m.bytes new low))
write_follows m at new bytes events c low is noted (inr reaches) =
    let found : Reaches (inl (inl (at, new)) ∷ m.events) c = subst (λ (es : List Event). Reaches es c) noted reaches in
    (found.0, inr found.1, found.2)
