use Rattle.std.proofs.Common.{◌≡◌, ℕ, List, Some, slice_get, length, cond, sym, ap, ◌∙◌, subst, arith, nat_cmp, false, refl}
use Rattle.std.specs.Ordering.{is_eq}
use Rattle.hm_index.specs.Index.{find}
use Rattle.hm_locks.specs.Book.{AreChanged, drafted}
use Rattle.hm_locks.specs.Entries.{rows_of}
use Rattle.hm_locks.specs.Kept.{IsWanted, rows_in}
use Rattle.hm_locks.specs.Keys.{key_of}
use Rattle.hm_model.specs.declared.lock.Ask.{Ask}
use Rattle.hm_locks.specs.declared.entry.Entry.{Entry}
use Rattle.hm_locks.proofs.Adding.{wants_asked}
use Rattle.hm_locks.proofs.Found.{rows_push}
use Rattle.hm_locks.proofs.Holders.{listed_push}
use Rattle.hm_locks.proofs.Keeping.{kept_push, kept_room}
use Rattle.hm_locks.proofs.pages.Pages.enlist.Goals as goal

pub returns-clause-kept : goal.returns-clause-kept
returns-clause-kept c =
    let p = c.args.self.now in
    let numbers = c.add_wants.new.desks.numbers in
    let added = c.add_wants.ensures.items in
    let place : c.len-place.result ≡ length p.entries.items = omega (arith, c.len-place.ensures, p.entries.ok.0) in
    let first : c.len-first.result ≡ length p.wants.items = omega (arith, c.len-first.ensures, p.wants.ok.0) in
    let entry : Entry = record { pid = c.args.pid; above = c.into_parts-above.result.0; asked = c.into_parts-above.result.1; first = c.len-first.result; holds = false } in
    let wants = wants_asked numbers c.len-place.result c.args.draft.asks c.into_parts-above.result.2.items p.wants.items c.add_wants.new.wants.items c.into_parts-above.ensures.claims added in
    let spare = c.requires.wants in
    let count = wants.0 in
    let wide = kept_room p.places.pairs p.entries.items p.wants.items p.desks.numbers p.lists.lists p.lists.spare c.requires.kept numbers p.lists.lists p.lists.spare
    (λ a d is. c.add_wants.ensures.kept (key_of a) d is) (λ l. refl) (omega arith) (omega arith) in
    rw (c.push_reserved.ensures.items, added.items)
    (kept_push p.places.pairs p.entries.items p.wants.items numbers p.lists.lists p.lists.spare wide c.set.new.self.pairs entry added.more c.requires.new
    (subst (λ n. (q : ℕ) → find nat_cmp c.set.new.self.pairs q ≡ cond (is_eq (nat_cmp c.args.pid q)) (Some n) (find nat_cmp p.places.pairs q)) place c.set.ensures.pairs)
    refl first (wants.0 ∙ ap length (sym c.into_parts-above.ensures.asks))
    (subst (λ (l : List Ask). (k : ℕ) (a : Ask) → slice_get l k ≡ Some a → IsWanted numbers (length p.entries.items) a (slice_get added.more k)) (sym c.into_parts-above.ensures.asks)
    (subst (λ n. (k : ℕ) (a : Ask) → slice_get c.args.draft.asks k ≡ Some a → IsWanted numbers n a (slice_get added.more k)) place wants.1))
    (λ a d is. (let lt = c.are_apart-2.ensures.within (key_of a) d is in let few = c.are_apart-2.ensures.few in let lists = c.requires.lists in let same = c.add_wants.ensures.limit in (omega (arith, lt, lists, same), omega (arith, lt, few))))
    (omega (arith, spare, count)) (omega (arith, spare, count)))

pub returns-clause-rows : goal.returns-clause-rows
returns-clause-rows c =
    let p = c.args.self.now in
    let place : c.len-place.result ≡ length p.entries.items = omega (arith, c.len-place.ensures, p.entries.ok.0) in
    let entry : Entry = record { pid = c.args.pid; above = c.into_parts-above.result.0; asked = c.into_parts-above.result.1; first = c.len-first.result; holds = false } in
    rw (← c.into_parts-above.ensures.above, ← c.into_parts-above.ensures.asks)
    (subst (λ es. AreChanged (rows_of p) c.args.pid (Some (drafted c.args.pid (record { above = entry.above; asks = entry.asked }))) (rows_in es)) (sym c.push_reserved.ensures.items)
    (rows_push p.places.pairs c.set.new.self.pairs p.entries.items c.requires.kept.index entry c.requires.new
    (subst (λ n. (q : ℕ) → find nat_cmp c.set.new.self.pairs q ≡ cond (is_eq (nat_cmp c.args.pid q)) (Some n) (find nat_cmp p.places.pairs q)) place c.set.ensures.pairs)))

pub returns-clause-held : goal.returns-clause-held
returns-clause-held c =
    let p = c.args.self.now in
    let spare = c.requires.spare in
    let long = p.entries.ok.0 in
    let entry : Entry = record { pid = c.args.pid; above = c.into_parts-above.result.0; asked = c.into_parts-above.result.1; first = c.len-first.result; holds = false } in
    rw (c.push_reserved.ensures.items)
    (listed_push p.entries.items p.held.lists p.held.spare c.requires.held entry refl (omega (arith, spare, long)) (omega (arith, spare, long)))
