use Rattle.std.proofs.Common.{◌≡◌, ℕ, ◌+◌, ◌-◌, ◌&&◌, ◌∷◌, Some, is_some, length, map, slice_get, refl, ap, sym, ◌∙◌, arith}
use Rattle.std.specs.Option.{option_map}
use Rattle.std.proofs.lemmas.Option.{slice_get_within}
use Rattle.hm_names.specs.declared.pid.Pid.{Pid}
use Rattle.hm_data.specs.declared.entry.Entry.TheVariants as entry_is
use Rattle.hm_model.specs.Answers.{is_stop}
use Rattle.hm_model.specs.Editions.{edition_of}
use Rattle.hm_model.specs.Journal.{Past}
use Rattle.hm_model.specs.Procedures.{offset}
use Rattle.hm_model.specs.Tree.{Node, args_in, made, node_of, pid_of}
use Rattle.hm_model.specs.Undo.{is_empty, stack}
use Rattle.hm_procedures.specs.Changes.{added, has_ended, noted}
use Rattle.hm_procedures.specs.Kept.{first_child_of, kept_at, kept_in, root_shown}
use Rattle.hm_procedures.specs.declared.book.Book.{Book}
use Rattle.hm_procedures.specs.declared.kept.Tracked.{Tracked}
use Rattle.hm_procedures.proofs.Based.{still_based}
use Rattle.hm_procedures.proofs.Elders.{elder_step, elders_long, elders_step}
use Rattle.hm_procedures.proofs.Enters.{count_more}
use Rattle.hm_procedures.proofs.Facts.{parent_shown}
use Rattle.hm_procedures.proofs.InTrees.{step_tree}
use Rattle.hm_procedures.proofs.Needs.{few_children, few_under, kept_here, offset_most, parent_here, parent_open, root_here, roots_long, under_open}
use Rattle.hm_procedures.proofs.Places.{slice_get-low, written}
use Rattle.hm_procedures.proofs.Shown.{phase_before}
use Rattle.hm_procedures.proofs.Steps.{Shows, long, mid, roots_are_mid, roots_mid, step_enough, step_here, step_kept, step_long}
use Rattle.hm_procedures.proofs.book.Book.step.Goals as goal

pub family-parent-requires-clause-low : goal.family-parent-requires-clause-low
family-parent-requires-clause-low c =
    let J : Past = c.args.past.now.entries in
    let b : Book = c.args.self.now in
    let on = c.requires.book.2 in
    let me : Node = c.requires.legal.1.1.0.0 in
    let is_me : node_of c.args.past.now.entries c.args.pid.0 ≡ Some c.requires.legal.1.1.0.0 = c.requires.legal.1.1.0.1 in
    let here = kept_here J b.kept.items b.trees.roots b.unfinished c.requires.book.0 c.args.pid.0 me is_me in
    rw on.begin here.0

pub family-parent-requires-clause-high : goal.family-parent-requires-clause-high
family-parent-requires-clause-high c =
    let J : Past = c.args.past.now.entries in
    let b : Book = c.args.self.now in
    let on = c.requires.book.2 in
    let me : Node = c.requires.legal.1.1.0.0 in
    let is_me : node_of c.args.past.now.entries c.args.pid.0 ≡ Some c.requires.legal.1.1.0.0 = c.requires.legal.1.1.0.1 in
    let here = kept_here J b.kept.items b.trees.roots b.unfinished c.requires.book.0 c.args.pid.0 me is_me in
    rw (on.begin, c.deref.ensures.value) here.1

pub edition_of-edition-requires-clause-low : goal.edition_of-edition-requires-clause-low
edition_of-edition-requires-clause-low c =
    let J : Past = c.args.past.now.entries in
    let b : Book = c.args.self.now in
    let on = c.requires.book.2 in
    let me : Node = c.requires.legal.1.1.0.0 in
    let is_me : node_of c.args.past.now.entries c.args.pid.0 ≡ Some c.requires.legal.1.1.0.0 = c.requires.legal.1.1.0.1 in
    let here = kept_here J b.kept.items b.trees.roots b.unfinished c.requires.book.0 c.args.pid.0 me is_me in
    rw on.begin here.0

pub edition_of-edition-requires-clause-high : goal.edition_of-edition-requires-clause-high
edition_of-edition-requires-clause-high c =
    let J : Past = c.args.past.now.entries in
    let b : Book = c.args.self.now in
    let on = c.requires.book.2 in
    let me : Node = c.requires.legal.1.1.0.0 in
    let is_me : node_of c.args.past.now.entries c.args.pid.0 ≡ Some c.requires.legal.1.1.0.0 = c.requires.legal.1.1.0.1 in
    let here = kept_here J b.kept.items b.trees.roots b.unfinished c.requires.book.0 c.args.pid.0 me is_me in
    rw (on.begin, c.deref-2.ensures.value) here.1

pub overflow_add-before : goal.overflow_add-before
overflow_add-before c =
    let J : Past = c.args.past.now.entries in
    let b : Book = c.args.self.now in
    let on = c.requires.book.2 in
    let me : Node = c.requires.legal.1.1.0.0 in
    let is_me : node_of c.args.past.now.entries c.args.pid.0 ≡ Some c.requires.legal.1.1.0.0 = c.requires.legal.1.1.0.1 in
    let here = kept_here J b.kept.items b.trees.roots b.unfinished c.requires.book.0 c.args.pid.0 me is_me in
    let least = offset_most J c.requires.book.0.legal in
    let l = c.len.ensures in
    omega (arith, least, l, on.begin, b.kept.ok.0, b.kept.small)

pub note_all-requires-clause-pid_low : goal.note_all-requires-clause-pid_low
note_all-requires-clause-pid_low c =
    let J : Past = c.args.past.now.entries in
    let b : Book = c.args.self.now in
    let on = c.requires.book.2 in
    let me : Node = c.requires.legal.1.1.0.0 in
    let is_me : node_of c.args.past.now.entries c.args.pid.0 ≡ Some c.requires.legal.1.1.0.0 = c.requires.legal.1.1.0.1 in
    let here = kept_here J b.kept.items b.trees.roots b.unfinished c.requires.book.0 c.args.pid.0 me is_me in
    rw on.begin here.0

pub note_all-requires-clause-pid_high : goal.note_all-requires-clause-pid_high
note_all-requires-clause-pid_high c =
    let J : Past = c.args.past.now.entries in
    let b : Book = c.args.self.now in
    let on = c.requires.book.2 in
    let me : Node = c.requires.legal.1.1.0.0 in
    let is_me : node_of c.args.past.now.entries c.args.pid.0 ≡ Some c.requires.legal.1.1.0.0 = c.requires.legal.1.1.0.1 in
    let here = kept_here J b.kept.items b.trees.roots b.unfinished c.requires.book.0 c.args.pid.0 me is_me in
    rw (on.begin, c.deref_mut.ensures.value) here.1

pub note_all-requires-clause-parent_low : goal.note_all-requires-clause-parent_low
note_all-requires-clause-parent_low c =
    let J : Past = c.args.past.now.entries in
    let b : Book = c.args.self.now in
    let on = c.requires.book.2 in
    let me : Node = c.requires.legal.1.1.0.0 in
    let is_me : node_of c.args.past.now.entries c.args.pid.0 ≡ Some c.requires.legal.1.1.0.0 = c.requires.legal.1.1.0.1 in
    let here = kept_here J b.kept.items b.trees.roots b.unfinished c.requires.book.0 c.args.pid.0 me is_me in
    let fam = c.family-parent.ensures (kept_at J c.args.pid.0 me) (ap (λ l. slice_get l (c.args.pid.0 - b.offset - 1)) c.deref.ensures.value ∙ rw on.begin here.2) in
    let top = root_here J b.kept.items b.trees.roots b.unfinished c.requires.book.0 c.args.pid.0 me is_me in
    let er : c.family-parent.result.1.0 ≡ c.requires.legal.1.1.0.0.root = ap (λ (p : Pid). p.0) fam.1 in
    λ up is. rw on.begin (parent_here J b.kept.items b.trees.roots b.unfinished c.requires.book.0 c.args.pid.0 me is_me up (sym fam.0 ∙ is)).0

pub note_all-requires-clause-parent_high : goal.note_all-requires-clause-parent_high
note_all-requires-clause-parent_high c =
    let J : Past = c.args.past.now.entries in
    let b : Book = c.args.self.now in
    let on = c.requires.book.2 in
    let me : Node = c.requires.legal.1.1.0.0 in
    let is_me : node_of c.args.past.now.entries c.args.pid.0 ≡ Some c.requires.legal.1.1.0.0 = c.requires.legal.1.1.0.1 in
    let here = kept_here J b.kept.items b.trees.roots b.unfinished c.requires.book.0 c.args.pid.0 me is_me in
    let fam = c.family-parent.ensures (kept_at J c.args.pid.0 me) (ap (λ l. slice_get l (c.args.pid.0 - b.offset - 1)) c.deref.ensures.value ∙ rw on.begin here.2) in
    let top = root_here J b.kept.items b.trees.roots b.unfinished c.requires.book.0 c.args.pid.0 me is_me in
    let er : c.family-parent.result.1.0 ≡ c.requires.legal.1.1.0.0.root = ap (λ (p : Pid). p.0) fam.1 in
    λ up is. rw (on.begin, c.deref_mut.ensures.value) (parent_here J b.kept.items b.trees.roots b.unfinished c.requires.book.0 c.args.pid.0 me is_me up (sym fam.0 ∙ is)).1

pub note_all-requires-clause-root_low : goal.note_all-requires-clause-root_low
note_all-requires-clause-root_low c =
    let J : Past = c.args.past.now.entries in
    let b : Book = c.args.self.now in
    let on = c.requires.book.2 in
    let me : Node = c.requires.legal.1.1.0.0 in
    let is_me : node_of c.args.past.now.entries c.args.pid.0 ≡ Some c.requires.legal.1.1.0.0 = c.requires.legal.1.1.0.1 in
    let here = kept_here J b.kept.items b.trees.roots b.unfinished c.requires.book.0 c.args.pid.0 me is_me in
    let fam = c.family-parent.ensures (kept_at J c.args.pid.0 me) (ap (λ l. slice_get l (c.args.pid.0 - b.offset - 1)) c.deref.ensures.value ∙ rw on.begin here.2) in
    let top = root_here J b.kept.items b.trees.roots b.unfinished c.requires.book.0 c.args.pid.0 me is_me in
    let er : c.family-parent.result.1.0 ≡ c.requires.legal.1.1.0.0.root = ap (λ (p : Pid). p.0) fam.1 in
    rw (er, on.begin) top.0

pub note_all-requires-clause-root_high : goal.note_all-requires-clause-root_high
note_all-requires-clause-root_high c =
    let J : Past = c.args.past.now.entries in
    let b : Book = c.args.self.now in
    let on = c.requires.book.2 in
    let me : Node = c.requires.legal.1.1.0.0 in
    let is_me : node_of c.args.past.now.entries c.args.pid.0 ≡ Some c.requires.legal.1.1.0.0 = c.requires.legal.1.1.0.1 in
    let here = kept_here J b.kept.items b.trees.roots b.unfinished c.requires.book.0 c.args.pid.0 me is_me in
    let fam = c.family-parent.ensures (kept_at J c.args.pid.0 me) (ap (λ l. slice_get l (c.args.pid.0 - b.offset - 1)) c.deref.ensures.value ∙ rw on.begin here.2) in
    let top = root_here J b.kept.items b.trees.roots b.unfinished c.requires.book.0 c.args.pid.0 me is_me in
    let er : c.family-parent.result.1.0 ≡ c.requires.legal.1.1.0.0.root = ap (λ (p : Pid). p.0) fam.1 in
    rw (er, on.begin, c.deref_mut.ensures.value) top.1

pub note_all-requires-clause-small : goal.note_all-requires-clause-small
note_all-requires-clause-small c =
    let J : Past = c.args.past.now.entries in
    let b : Book = c.args.self.now in
    let on = c.requires.book.2 in
    let me : Node = c.requires.legal.1.1.0.0 in
    let is_me : node_of c.args.past.now.entries c.args.pid.0 ≡ Some c.requires.legal.1.1.0.0 = c.requires.legal.1.1.0.1 in
    let here = kept_here J b.kept.items b.trees.roots b.unfinished c.requires.book.0 c.args.pid.0 me is_me in
    let least = offset_most J c.requires.book.0.legal in
    λ one at.
    let few = few_children J b.kept.items b.trees.roots b.unfinished c.requires.book.0 c.args.pid.0 me is_me one (rw (c.deref_mut.ensures.value, on.begin) at at) in
    let n = ap length c.as_slice.ensures in
    omega (arith, few, n, least, c.requires.room, b.kept.ok.0, b.kept.small)

pub note_all-requires-clause-numbers : goal.note_all-requires-clause-numbers
note_all-requires-clause-numbers c =
    let J : Past = c.args.past.now.entries in
    let b : Book = c.args.self.now in
    let on = c.requires.book.2 in
    let me : Node = c.requires.legal.1.1.0.0 in
    let is_me : node_of c.args.past.now.entries c.args.pid.0 ≡ Some c.requires.legal.1.1.0.0 = c.requires.legal.1.1.0.1 in
    let here = kept_here J b.kept.items b.trees.roots b.unfinished c.requires.book.0 c.args.pid.0 me is_me in
    let least = offset_most J c.requires.book.0.legal in
    let l = c.len.ensures in
    let n = ap length c.as_slice.ensures in
    omega (arith, l, n, least, on.begin, c.requires.room, b.kept.ok.0, b.kept.small)

pub note_all-requires-clause-child : goal.note_all-requires-clause-child
note_all-requires-clause-child c =
    let J : Past = c.args.past.now.entries in
    let b : Book = c.args.self.now in
    let on = c.requires.book.2 in
    let me : Node = c.requires.legal.1.1.0.0 in
    let is_me : node_of c.args.past.now.entries c.args.pid.0 ≡ Some c.requires.legal.1.1.0.0 = c.requires.legal.1.1.0.1 in
    let here = kept_here J b.kept.items b.trees.roots b.unfinished c.requires.book.0 c.args.pid.0 me is_me in
    let fam = c.family-parent.ensures (kept_at J c.args.pid.0 me) (ap (λ l. slice_get l (c.args.pid.0 - b.offset - 1)) c.deref.ensures.value ∙ rw on.begin here.2) in
    let top = root_here J b.kept.items b.trees.roots b.unfinished c.requires.book.0 c.args.pid.0 me is_me in
    let er : c.family-parent.result.1.0 ≡ c.requires.legal.1.1.0.0.root = ap (λ (p : Pid). p.0) fam.1 in
    λ stops up is one at.
    parent_open J b.kept.items b.trees.roots b.unfinished c.requires.book.0 c.args.pid c.args._pick.now c.args.out.now c.requires.legal me is_me stops up (sym fam.0 ∙ is) one (rw (c.deref_mut.ensures.value, on.begin) at at)

pub note_all-requires-clause-few : goal.note_all-requires-clause-few
note_all-requires-clause-few c =
    let J : Past = c.args.past.now.entries in
    let b : Book = c.args.self.now in
    let on = c.requires.book.2 in
    let me : Node = c.requires.legal.1.1.0.0 in
    let is_me : node_of c.args.past.now.entries c.args.pid.0 ≡ Some c.requires.legal.1.1.0.0 = c.requires.legal.1.1.0.1 in
    let here = kept_here J b.kept.items b.trees.roots b.unfinished c.requires.book.0 c.args.pid.0 me is_me in
    let fam = c.family-parent.ensures (kept_at J c.args.pid.0 me) (ap (λ l. slice_get l (c.args.pid.0 - b.offset - 1)) c.deref.ensures.value ∙ rw on.begin here.2) in
    let top = root_here J b.kept.items b.trees.roots b.unfinished c.requires.book.0 c.args.pid.0 me is_me in
    let er : c.family-parent.result.1.0 ≡ c.requires.legal.1.1.0.0.root = ap (λ (p : Pid). p.0) fam.1 in
    let least = offset_most J c.requires.book.0.legal in
    λ one at.
    let few = few_under J b.kept.items b.trees.roots b.unfinished c.requires.book.0 c.args.pid c.args._pick.now c.args.out.now c.requires.legal me is_me one (rw (c.deref_mut.ensures.value, on.begin, er) at at) in
    let n = ap length c.as_slice.ensures in
    omega (arith, few, n, least, c.requires.room, b.kept.ok.0, b.kept.small)

pub note_all-requires-clause-under : goal.note_all-requires-clause-under
note_all-requires-clause-under c =
    let J : Past = c.args.past.now.entries in
    let b : Book = c.args.self.now in
    let on = c.requires.book.2 in
    let me : Node = c.requires.legal.1.1.0.0 in
    let is_me : node_of c.args.past.now.entries c.args.pid.0 ≡ Some c.requires.legal.1.1.0.0 = c.requires.legal.1.1.0.1 in
    let here = kept_here J b.kept.items b.trees.roots b.unfinished c.requires.book.0 c.args.pid.0 me is_me in
    let fam = c.family-parent.ensures (kept_at J c.args.pid.0 me) (ap (λ l. slice_get l (c.args.pid.0 - b.offset - 1)) c.deref.ensures.value ∙ rw on.begin here.2) in
    let top = root_here J b.kept.items b.trees.roots b.unfinished c.requires.book.0 c.args.pid.0 me is_me in
    let er : c.family-parent.result.1.0 ≡ c.requires.legal.1.1.0.0.root = ap (λ (p : Pid). p.0) fam.1 in
    λ ends one at.
    let some = under_open J b.kept.items b.trees.roots b.unfinished c.requires.book.0 c.args.pid c.args._pick.now c.args.out.now c.requires.legal me is_me (ap (λ o. is_stop c.args.out.now.answer && is_some o) (sym fam.0) ∙ ends) one (rw (c.deref_mut.ensures.value, on.begin, er) at at) in
    let n = ap length (c.as_slice.ensures ∙ c.requires.made) in
    omega (arith, some, n)

pub first_child-eldest-requires-clause-low : goal.first_child-eldest-requires-clause-low
first_child-eldest-requires-clause-low c =
    let J : Past = c.args.past.now.entries in
    let b : Book = c.args.self.now in
    let on = c.requires.book.2 in
    let me : Node = c.requires.legal.1.1.0.0 in
    let is_me : node_of c.args.past.now.entries c.args.pid.0 ≡ Some c.requires.legal.1.1.0.0 = c.requires.legal.1.1.0.1 in
    let here = kept_here J b.kept.items b.trees.roots b.unfinished c.requires.book.0 c.args.pid.0 me is_me in
    rw on.begin here.0

pub first_child-eldest-requires-clause-high : goal.first_child-eldest-requires-clause-high
first_child-eldest-requires-clause-high c =
    let J : Past = c.args.past.now.entries in
    let b : Book = c.args.self.now in
    let on = c.requires.book.2 in
    let me : Node = c.requires.legal.1.1.0.0 in
    let is_me : node_of c.args.past.now.entries c.args.pid.0 ≡ Some c.requires.legal.1.1.0.0 = c.requires.legal.1.1.0.1 in
    let here = kept_here J b.kept.items b.trees.roots b.unfinished c.requires.book.0 c.args.pid.0 me is_me in
    let fam = c.family-parent.ensures (kept_at J c.args.pid.0 me) (ap (λ l. slice_get l (c.args.pid.0 - b.offset - 1)) c.deref.ensures.value ∙ rw on.begin here.2) in
    let top = root_here J b.kept.items b.trees.roots b.unfinished c.requires.book.0 c.args.pid.0 me is_me in
    let er : c.family-parent.result.1.0 ≡ c.requires.legal.1.1.0.0.root = ap (λ (p : Pid). p.0) fam.1 in
    let ed : c.edition_of-edition.result ≡ edition_of J c.requires.legal.1.1.0.0.root = c.edition_of-edition.ensures (kept_at J c.args.pid.0 me) (ap (λ l. slice_get l (c.args.pid.0 - b.offset - 1)) c.deref-2.ensures.value ∙ rw on.begin here.2) in
    let count_is = ap length (c.as_slice.ensures ∙ c.requires.made) in
    let before_is : b.offset + c.len.result ≡ made J = (let l = c.len.ensures in let n = c.requires.book.0.count in omega (arith, l, n, b.kept.ok.0, on.begin)) in
    let each : (q : ℕ) → slice_get c.note_all.new.kept q ≡ option_map (noted (offset J + q + 1) c.args.pid (parent_shown c.requires.legal.1.1.0.0.above) (pid_of c.requires.legal.1.1.0.0.root) c.args.out.now (made c.args.past.now.entries) (length (args_in c.args.out.now.children))) (slice_get c.args.self.now.kept.items q) =
    λ q. c.note_all.ensures q ∙ rw (c.deref_mut.ensures.value, fam.0, fam.1, before_is, count_is, on.begin) refl in
    let three = c.note_all.new.kept in
    let long3 = long J b.kept.items b.trees.roots b.unfinished c.requires.book.0 c.args.pid c.args._pick.now c.args.out.now c.requires.legal me is_me three each in
    let once = written b.kept.items three b.kept.len long3 (omega (arith, b.kept.ok.0)) in
    rw (c.deref-3.ensures.value, once, long3, on.begin) here.1

pub add_all-requires-clause-count : goal.add_all-requires-clause-count
add_all-requires-clause-count c =
    let J : Past = c.args.past.now.entries in
    let b : Book = c.args.self.now in
    let on = c.requires.book.2 in
    let me : Node = c.requires.legal.1.1.0.0 in
    let is_me : node_of c.args.past.now.entries c.args.pid.0 ≡ Some c.requires.legal.1.1.0.0 = c.requires.legal.1.1.0.1 in
    let here = kept_here J b.kept.items b.trees.roots b.unfinished c.requires.book.0 c.args.pid.0 me is_me in
    let fam = c.family-parent.ensures (kept_at J c.args.pid.0 me) (ap (λ l. slice_get l (c.args.pid.0 - b.offset - 1)) c.deref.ensures.value ∙ rw on.begin here.2) in
    let top = root_here J b.kept.items b.trees.roots b.unfinished c.requires.book.0 c.args.pid.0 me is_me in
    let er : c.family-parent.result.1.0 ≡ c.requires.legal.1.1.0.0.root = ap (λ (p : Pid). p.0) fam.1 in
    let ed : c.edition_of-edition.result ≡ edition_of J c.requires.legal.1.1.0.0.root = c.edition_of-edition.ensures (kept_at J c.args.pid.0 me) (ap (λ l. slice_get l (c.args.pid.0 - b.offset - 1)) c.deref-2.ensures.value ∙ rw on.begin here.2) in
    let count_is = ap length (c.as_slice.ensures ∙ c.requires.made) in
    let before_is : b.offset + c.len.result ≡ made J = (let l = c.len.ensures in let n = c.requires.book.0.count in omega (arith, l, n, b.kept.ok.0, on.begin)) in
    let each : (q : ℕ) → slice_get c.note_all.new.kept q ≡ option_map (noted (offset J + q + 1) c.args.pid (parent_shown c.requires.legal.1.1.0.0.above) (pid_of c.requires.legal.1.1.0.0.root) c.args.out.now (made c.args.past.now.entries) (length (args_in c.args.out.now.children))) (slice_get c.args.self.now.kept.items q) =
    λ q. c.note_all.ensures q ∙ rw (c.deref_mut.ensures.value, fam.0, fam.1, before_is, count_is, on.begin) refl in
    let three = c.note_all.new.kept in
    let long3 = long J b.kept.items b.trees.roots b.unfinished c.requires.book.0 c.args.pid c.args._pick.now c.args.out.now c.requires.legal me is_me three each in
    let once = written b.kept.items three b.kept.len long3 (omega (arith, b.kept.ok.0)) in
    rw (once, long3) (roots_long J b.kept.items b.trees.roots b.unfinished c.requires.book.0)

pub add_all-requires-clause-siblings : goal.add_all-requires-clause-siblings
add_all-requires-clause-siblings c =
    let J : Past = c.args.past.now.entries in
    let b : Book = c.args.self.now in
    let on = c.requires.book.2 in
    let me : Node = c.requires.legal.1.1.0.0 in
    let is_me : node_of c.args.past.now.entries c.args.pid.0 ≡ Some c.requires.legal.1.1.0.0 = c.requires.legal.1.1.0.1 in
    let here = kept_here J b.kept.items b.trees.roots b.unfinished c.requires.book.0 c.args.pid.0 me is_me in
    let fam = c.family-parent.ensures (kept_at J c.args.pid.0 me) (ap (λ l. slice_get l (c.args.pid.0 - b.offset - 1)) c.deref.ensures.value ∙ rw on.begin here.2) in
    let top = root_here J b.kept.items b.trees.roots b.unfinished c.requires.book.0 c.args.pid.0 me is_me in
    let er : c.family-parent.result.1.0 ≡ c.requires.legal.1.1.0.0.root = ap (λ (p : Pid). p.0) fam.1 in
    let ed : c.edition_of-edition.result ≡ edition_of J c.requires.legal.1.1.0.0.root = c.edition_of-edition.ensures (kept_at J c.args.pid.0 me) (ap (λ l. slice_get l (c.args.pid.0 - b.offset - 1)) c.deref-2.ensures.value ∙ rw on.begin here.2) in
    let count_is = ap length (c.as_slice.ensures ∙ c.requires.made) in
    let before_is : b.offset + c.len.result ≡ made J = (let l = c.len.ensures in let n = c.requires.book.0.count in omega (arith, l, n, b.kept.ok.0, on.begin)) in
    let each : (q : ℕ) → slice_get c.note_all.new.kept q ≡ option_map (noted (offset J + q + 1) c.args.pid (parent_shown c.requires.legal.1.1.0.0.above) (pid_of c.requires.legal.1.1.0.0.root) c.args.out.now (made c.args.past.now.entries) (length (args_in c.args.out.now.children))) (slice_get c.args.self.now.kept.items q) =
    λ q. c.note_all.ensures q ∙ rw (c.deref_mut.ensures.value, fam.0, fam.1, before_is, count_is, on.begin) refl in
    let three = c.note_all.new.kept in
    let long3 = long J b.kept.items b.trees.roots b.unfinished c.requires.book.0 c.args.pid c.args._pick.now c.args.out.now c.requires.legal me is_me three each in
    let once = written b.kept.items three b.kept.len long3 (omega (arith, b.kept.ok.0)) in
    rw (once, long3) (elders_long J c.requires.book.0.legal b.siblings.roots c.requires.book.1 (kept_at J) b.kept.items c.requires.book.0.kept_are)

pub add_all-requires-clause-trees_from : goal.add_all-requires-clause-trees_from
add_all-requires-clause-trees_from c =
    let J : Past = c.args.past.now.entries in
    let b : Book = c.args.self.now in
    let on = c.requires.book.2 in
    let me : Node = c.requires.legal.1.1.0.0 in
    let is_me : node_of c.args.past.now.entries c.args.pid.0 ≡ Some c.requires.legal.1.1.0.0 = c.requires.legal.1.1.0.1 in
    let here = kept_here J b.kept.items b.trees.roots b.unfinished c.requires.book.0 c.args.pid.0 me is_me in
    on.trees ∙ sym on.begin

pub add_all-requires-clause-siblings_from : goal.add_all-requires-clause-siblings_from
add_all-requires-clause-siblings_from c =
    let J : Past = c.args.past.now.entries in
    let b : Book = c.args.self.now in
    let on = c.requires.book.2 in
    let me : Node = c.requires.legal.1.1.0.0 in
    let is_me : node_of c.args.past.now.entries c.args.pid.0 ≡ Some c.requires.legal.1.1.0.0 = c.requires.legal.1.1.0.1 in
    let here = kept_here J b.kept.items b.trees.roots b.unfinished c.requires.book.0 c.args.pid.0 me is_me in
    on.siblings ∙ sym on.begin

pub add_all-requires-clause-few : goal.add_all-requires-clause-few
add_all-requires-clause-few c =
    let J : Past = c.args.past.now.entries in
    let b : Book = c.args.self.now in
    let on = c.requires.book.2 in
    let me : Node = c.requires.legal.1.1.0.0 in
    let is_me : node_of c.args.past.now.entries c.args.pid.0 ≡ Some c.requires.legal.1.1.0.0 = c.requires.legal.1.1.0.1 in
    let here = kept_here J b.kept.items b.trees.roots b.unfinished c.requires.book.0 c.args.pid.0 me is_me in
    rw on.begin (offset_most J c.requires.book.0.legal)

pub add_all-requires-clause-elder : goal.add_all-requires-clause-elder
add_all-requires-clause-elder c =
    let J : Past = c.args.past.now.entries in
    let b : Book = c.args.self.now in
    let on = c.requires.book.2 in
    let me : Node = c.requires.legal.1.1.0.0 in
    let is_me : node_of c.args.past.now.entries c.args.pid.0 ≡ Some c.requires.legal.1.1.0.0 = c.requires.legal.1.1.0.1 in
    let here = kept_here J b.kept.items b.trees.roots b.unfinished c.requires.book.0 c.args.pid.0 me is_me in
    let fam = c.family-parent.ensures (kept_at J c.args.pid.0 me) (ap (λ l. slice_get l (c.args.pid.0 - b.offset - 1)) c.deref.ensures.value ∙ rw on.begin here.2) in
    let top = root_here J b.kept.items b.trees.roots b.unfinished c.requires.book.0 c.args.pid.0 me is_me in
    let er : c.family-parent.result.1.0 ≡ c.requires.legal.1.1.0.0.root = ap (λ (p : Pid). p.0) fam.1 in
    let ed : c.edition_of-edition.result ≡ edition_of J c.requires.legal.1.1.0.0.root = c.edition_of-edition.ensures (kept_at J c.args.pid.0 me) (ap (λ l. slice_get l (c.args.pid.0 - b.offset - 1)) c.deref-2.ensures.value ∙ rw on.begin here.2) in
    let count_is = ap length (c.as_slice.ensures ∙ c.requires.made) in
    let before_is : b.offset + c.len.result ≡ made J = (let l = c.len.ensures in let n = c.requires.book.0.count in omega (arith, l, n, b.kept.ok.0, on.begin)) in
    let each : (q : ℕ) → slice_get c.note_all.new.kept q ≡ option_map (noted (offset J + q + 1) c.args.pid (parent_shown c.requires.legal.1.1.0.0.above) (pid_of c.requires.legal.1.1.0.0.root) c.args.out.now (made c.args.past.now.entries) (length (args_in c.args.out.now.children))) (slice_get c.args.self.now.kept.items q) =
    λ q. c.note_all.ensures q ∙ rw (c.deref_mut.ensures.value, fam.0, fam.1, before_is, count_is, on.begin) refl in
    let three = c.note_all.new.kept in
    let long3 = long J b.kept.items b.trees.roots b.unfinished c.requires.book.0 c.args.pid c.args._pick.now c.args.out.now c.requires.legal me is_me three each in
    let once = written b.kept.items three b.kept.len long3 (omega (arith, b.kept.ok.0)) in
    let first_is : c.first_child-eldest.result ≡ first_child_of (entry_is.Step c.args.pid c.args._pick.now c.args.out.now ∷ J) c.args.pid.0 =
    c.first_child-eldest.ensures (kept_in (phase_before J c.args.pid.0 me) (entry_is.Step c.args.pid c.args._pick.now c.args.out.now ∷ J) c.args.pid.0 me)
    (ap (λ l. slice_get l (c.args.pid.0 - b.offset - 1)) (c.deref-3.ensures.value ∙ once) ∙ rw on.begin (step_here J b.kept.items b.trees.roots b.unfinished c.requires.book.0 c.args.pid c.args._pick.now c.args.out.now c.requires.legal me is_me three each)) in
    let same_long = elders_long J c.requires.book.0.legal b.siblings.roots c.requires.book.1 (kept_at J) b.kept.items c.requires.book.0.kept_are in
    let long_list : offset J + length b.siblings.roots ≡ made J = (let count = c.requires.book.0.count in omega (arith, same_long, count)) in
    rw (on.begin, first_is) (elder_step J c.requires.book.0.legal b.siblings.roots c.requires.book.1 long_list c.args.pid c.args._pick.now c.args.out.now c.requires.legal me is_me)

pub add_all-requires-clause-root : goal.add_all-requires-clause-root
add_all-requires-clause-root c =
    let J : Past = c.args.past.now.entries in
    let b : Book = c.args.self.now in
    let on = c.requires.book.2 in
    let me : Node = c.requires.legal.1.1.0.0 in
    let is_me : node_of c.args.past.now.entries c.args.pid.0 ≡ Some c.requires.legal.1.1.0.0 = c.requires.legal.1.1.0.1 in
    let here = kept_here J b.kept.items b.trees.roots b.unfinished c.requires.book.0 c.args.pid.0 me is_me in
    let fam = c.family-parent.ensures (kept_at J c.args.pid.0 me) (ap (λ l. slice_get l (c.args.pid.0 - b.offset - 1)) c.deref.ensures.value ∙ rw on.begin here.2) in
    let top = root_here J b.kept.items b.trees.roots b.unfinished c.requires.book.0 c.args.pid.0 me is_me in
    let er : c.family-parent.result.1.0 ≡ c.requires.legal.1.1.0.0.root = ap (λ (p : Pid). p.0) fam.1 in
    rw (fam.1, on.begin) (top.0, top.2)

pub show_phases-requires-clause-from : goal.show_phases-requires-clause-from
show_phases-requires-clause-from c =
    let J : Past = c.args.past.now.entries in
    let b : Book = c.args.self.now in
    let on = c.requires.book.2 in
    let me : Node = c.requires.legal.1.1.0.0 in
    let is_me : node_of c.args.past.now.entries c.args.pid.0 ≡ Some c.requires.legal.1.1.0.0 = c.requires.legal.1.1.0.1 in
    let here = kept_here J b.kept.items b.trees.roots b.unfinished c.requires.book.0 c.args.pid.0 me is_me in
    let same = c.add_all.ensures.base in
    same.3 ∙ on.trees ∙ sym (same.0 ∙ on.begin)

pub show_phases-requires-clause-pid_low : goal.show_phases-requires-clause-pid_low
show_phases-requires-clause-pid_low c =
    let J : Past = c.args.past.now.entries in
    let b : Book = c.args.self.now in
    let on = c.requires.book.2 in
    let me : Node = c.requires.legal.1.1.0.0 in
    let is_me : node_of c.args.past.now.entries c.args.pid.0 ≡ Some c.requires.legal.1.1.0.0 = c.requires.legal.1.1.0.1 in
    let here = kept_here J b.kept.items b.trees.roots b.unfinished c.requires.book.0 c.args.pid.0 me is_me in
    rw (c.add_all.ensures.base.0, on.begin) here.0

pub show_phases-requires-clause-pid_high : goal.show_phases-requires-clause-pid_high
show_phases-requires-clause-pid_high c =
    let J : Past = c.args.past.now.entries in
    let b : Book = c.args.self.now in
    let on = c.requires.book.2 in
    let me : Node = c.requires.legal.1.1.0.0 in
    let is_me : node_of c.args.past.now.entries c.args.pid.0 ≡ Some c.requires.legal.1.1.0.0 = c.requires.legal.1.1.0.1 in
    let here = kept_here J b.kept.items b.trees.roots b.unfinished c.requires.book.0 c.args.pid.0 me is_me in
    let fam = c.family-parent.ensures (kept_at J c.args.pid.0 me) (ap (λ l. slice_get l (c.args.pid.0 - b.offset - 1)) c.deref.ensures.value ∙ rw on.begin here.2) in
    let top = root_here J b.kept.items b.trees.roots b.unfinished c.requires.book.0 c.args.pid.0 me is_me in
    let er : c.family-parent.result.1.0 ≡ c.requires.legal.1.1.0.0.root = ap (λ (p : Pid). p.0) fam.1 in
    let ed : c.edition_of-edition.result ≡ edition_of J c.requires.legal.1.1.0.0.root = c.edition_of-edition.ensures (kept_at J c.args.pid.0 me) (ap (λ l. slice_get l (c.args.pid.0 - b.offset - 1)) c.deref-2.ensures.value ∙ rw on.begin here.2) in
    let count_is = ap length (c.as_slice.ensures ∙ c.requires.made) in
    let before_is : b.offset + c.len.result ≡ made J = (let l = c.len.ensures in let n = c.requires.book.0.count in omega (arith, l, n, b.kept.ok.0, on.begin)) in
    let each : (q : ℕ) → slice_get c.note_all.new.kept q ≡ option_map (noted (offset J + q + 1) c.args.pid (parent_shown c.requires.legal.1.1.0.0.above) (pid_of c.requires.legal.1.1.0.0.root) c.args.out.now (made c.args.past.now.entries) (length (args_in c.args.out.now.children))) (slice_get c.args.self.now.kept.items q) =
    λ q. c.note_all.ensures q ∙ rw (c.deref_mut.ensures.value, fam.0, fam.1, before_is, count_is, on.begin) refl in
    let three = c.note_all.new.kept in
    let long3 = long J b.kept.items b.trees.roots b.unfinished c.requires.book.0 c.args.pid c.args._pick.now c.args.out.now c.requires.legal me is_me three each in
    let once = written b.kept.items three b.kept.len long3 (omega (arith, b.kept.ok.0)) in
    let off : c.add_all.new.self.offset ≡ offset J = c.add_all.ensures.base.0 ∙ on.begin in
    let mid_is : c.add_all.new.self.kept.items ≡ mid J b.kept.items b.trees.roots b.unfinished c.requires.book.0 c.args.pid c.args._pick.now c.args.out.now c.requires.legal me is_me three each =
    c.add_all.ensures.kept ∙ rw (once, long3, on.begin, c.requires.book.0.count, fam.1, ed, c.requires.made) refl in
    let roots_is : c.add_all.new.self.trees.roots ≡ roots_mid J b.kept.items b.trees.roots b.unfinished c.requires.book.0 c.args.pid c.args._pick.now c.args.out.now c.requires.legal me is_me three each =
    c.add_all.ensures.trees ∙ rw (once, long3, on.begin, c.requires.book.0.count, fam.1, ed, c.requires.made) refl in
    let more = ap length mid_is ∙ count_more three (made J) (Some (c.args.pid, pid_of c.requires.legal.1.1.0.0.root)) (edition_of J c.requires.legal.1.1.0.0.root) (args_in c.args.out.now.children) in
    let long = ap length c.deref_mut-2.ensures.value in
    omega (arith, here.1, more, long3, off, long)

pub show_phases-requires-clause-parent_low : goal.show_phases-requires-clause-parent_low
show_phases-requires-clause-parent_low c =
    let J : Past = c.args.past.now.entries in
    let b : Book = c.args.self.now in
    let on = c.requires.book.2 in
    let me : Node = c.requires.legal.1.1.0.0 in
    let is_me : node_of c.args.past.now.entries c.args.pid.0 ≡ Some c.requires.legal.1.1.0.0 = c.requires.legal.1.1.0.1 in
    let here = kept_here J b.kept.items b.trees.roots b.unfinished c.requires.book.0 c.args.pid.0 me is_me in
    let fam = c.family-parent.ensures (kept_at J c.args.pid.0 me) (ap (λ l. slice_get l (c.args.pid.0 - b.offset - 1)) c.deref.ensures.value ∙ rw on.begin here.2) in
    let top = root_here J b.kept.items b.trees.roots b.unfinished c.requires.book.0 c.args.pid.0 me is_me in
    let er : c.family-parent.result.1.0 ≡ c.requires.legal.1.1.0.0.root = ap (λ (p : Pid). p.0) fam.1 in
    λ up is. rw (c.add_all.ensures.base.0, on.begin) (parent_here J b.kept.items b.trees.roots b.unfinished c.requires.book.0 c.args.pid.0 me is_me up (sym fam.0 ∙ is)).0

pub show_phases-requires-clause-parent_high : goal.show_phases-requires-clause-parent_high
show_phases-requires-clause-parent_high c =
    let J : Past = c.args.past.now.entries in
    let b : Book = c.args.self.now in
    let on = c.requires.book.2 in
    let me : Node = c.requires.legal.1.1.0.0 in
    let is_me : node_of c.args.past.now.entries c.args.pid.0 ≡ Some c.requires.legal.1.1.0.0 = c.requires.legal.1.1.0.1 in
    let here = kept_here J b.kept.items b.trees.roots b.unfinished c.requires.book.0 c.args.pid.0 me is_me in
    let fam = c.family-parent.ensures (kept_at J c.args.pid.0 me) (ap (λ l. slice_get l (c.args.pid.0 - b.offset - 1)) c.deref.ensures.value ∙ rw on.begin here.2) in
    let top = root_here J b.kept.items b.trees.roots b.unfinished c.requires.book.0 c.args.pid.0 me is_me in
    let er : c.family-parent.result.1.0 ≡ c.requires.legal.1.1.0.0.root = ap (λ (p : Pid). p.0) fam.1 in
    let ed : c.edition_of-edition.result ≡ edition_of J c.requires.legal.1.1.0.0.root = c.edition_of-edition.ensures (kept_at J c.args.pid.0 me) (ap (λ l. slice_get l (c.args.pid.0 - b.offset - 1)) c.deref-2.ensures.value ∙ rw on.begin here.2) in
    let count_is = ap length (c.as_slice.ensures ∙ c.requires.made) in
    let before_is : b.offset + c.len.result ≡ made J = (let l = c.len.ensures in let n = c.requires.book.0.count in omega (arith, l, n, b.kept.ok.0, on.begin)) in
    let each : (q : ℕ) → slice_get c.note_all.new.kept q ≡ option_map (noted (offset J + q + 1) c.args.pid (parent_shown c.requires.legal.1.1.0.0.above) (pid_of c.requires.legal.1.1.0.0.root) c.args.out.now (made c.args.past.now.entries) (length (args_in c.args.out.now.children))) (slice_get c.args.self.now.kept.items q) =
    λ q. c.note_all.ensures q ∙ rw (c.deref_mut.ensures.value, fam.0, fam.1, before_is, count_is, on.begin) refl in
    let three = c.note_all.new.kept in
    let long3 = long J b.kept.items b.trees.roots b.unfinished c.requires.book.0 c.args.pid c.args._pick.now c.args.out.now c.requires.legal me is_me three each in
    let once = written b.kept.items three b.kept.len long3 (omega (arith, b.kept.ok.0)) in
    let off : c.add_all.new.self.offset ≡ offset J = c.add_all.ensures.base.0 ∙ on.begin in
    let mid_is : c.add_all.new.self.kept.items ≡ mid J b.kept.items b.trees.roots b.unfinished c.requires.book.0 c.args.pid c.args._pick.now c.args.out.now c.requires.legal me is_me three each =
    c.add_all.ensures.kept ∙ rw (once, long3, on.begin, c.requires.book.0.count, fam.1, ed, c.requires.made) refl in
    let roots_is : c.add_all.new.self.trees.roots ≡ roots_mid J b.kept.items b.trees.roots b.unfinished c.requires.book.0 c.args.pid c.args._pick.now c.args.out.now c.requires.legal me is_me three each =
    c.add_all.ensures.trees ∙ rw (once, long3, on.begin, c.requires.book.0.count, fam.1, ed, c.requires.made) refl in
    let more = ap length mid_is ∙ count_more three (made J) (Some (c.args.pid, pid_of c.requires.legal.1.1.0.0.root)) (edition_of J c.requires.legal.1.1.0.0.root) (args_in c.args.out.now.children) in
    let long = ap length c.deref_mut-2.ensures.value in
    λ up is. (let high = (parent_here J b.kept.items b.trees.roots b.unfinished c.requires.book.0 c.args.pid.0 me is_me up (sym fam.0 ∙ is)).1 in omega (arith, high, more, long3, off, long))

pub show_phases-requires-clause-root_low : goal.show_phases-requires-clause-root_low
show_phases-requires-clause-root_low c =
    let J : Past = c.args.past.now.entries in
    let b : Book = c.args.self.now in
    let on = c.requires.book.2 in
    let me : Node = c.requires.legal.1.1.0.0 in
    let is_me : node_of c.args.past.now.entries c.args.pid.0 ≡ Some c.requires.legal.1.1.0.0 = c.requires.legal.1.1.0.1 in
    let here = kept_here J b.kept.items b.trees.roots b.unfinished c.requires.book.0 c.args.pid.0 me is_me in
    let fam = c.family-parent.ensures (kept_at J c.args.pid.0 me) (ap (λ l. slice_get l (c.args.pid.0 - b.offset - 1)) c.deref.ensures.value ∙ rw on.begin here.2) in
    let top = root_here J b.kept.items b.trees.roots b.unfinished c.requires.book.0 c.args.pid.0 me is_me in
    let er : c.family-parent.result.1.0 ≡ c.requires.legal.1.1.0.0.root = ap (λ (p : Pid). p.0) fam.1 in
    rw (er, c.add_all.ensures.base.0, on.begin) top.0

pub show_phases-requires-clause-root : goal.show_phases-requires-clause-root
show_phases-requires-clause-root c =
    let J : Past = c.args.past.now.entries in
    let b : Book = c.args.self.now in
    let on = c.requires.book.2 in
    let me : Node = c.requires.legal.1.1.0.0 in
    let is_me : node_of c.args.past.now.entries c.args.pid.0 ≡ Some c.requires.legal.1.1.0.0 = c.requires.legal.1.1.0.1 in
    let here = kept_here J b.kept.items b.trees.roots b.unfinished c.requires.book.0 c.args.pid.0 me is_me in
    let fam = c.family-parent.ensures (kept_at J c.args.pid.0 me) (ap (λ l. slice_get l (c.args.pid.0 - b.offset - 1)) c.deref.ensures.value ∙ rw on.begin here.2) in
    let top = root_here J b.kept.items b.trees.roots b.unfinished c.requires.book.0 c.args.pid.0 me is_me in
    let er : c.family-parent.result.1.0 ≡ c.requires.legal.1.1.0.0.root = ap (λ (p : Pid). p.0) fam.1 in
    let ed : c.edition_of-edition.result ≡ edition_of J c.requires.legal.1.1.0.0.root = c.edition_of-edition.ensures (kept_at J c.args.pid.0 me) (ap (λ l. slice_get l (c.args.pid.0 - b.offset - 1)) c.deref-2.ensures.value ∙ rw on.begin here.2) in
    let count_is = ap length (c.as_slice.ensures ∙ c.requires.made) in
    let before_is : b.offset + c.len.result ≡ made J = (let l = c.len.ensures in let n = c.requires.book.0.count in omega (arith, l, n, b.kept.ok.0, on.begin)) in
    let each : (q : ℕ) → slice_get c.note_all.new.kept q ≡ option_map (noted (offset J + q + 1) c.args.pid (parent_shown c.requires.legal.1.1.0.0.above) (pid_of c.requires.legal.1.1.0.0.root) c.args.out.now (made c.args.past.now.entries) (length (args_in c.args.out.now.children))) (slice_get c.args.self.now.kept.items q) =
    λ q. c.note_all.ensures q ∙ rw (c.deref_mut.ensures.value, fam.0, fam.1, before_is, count_is, on.begin) refl in
    let three = c.note_all.new.kept in
    let long3 = long J b.kept.items b.trees.roots b.unfinished c.requires.book.0 c.args.pid c.args._pick.now c.args.out.now c.requires.legal me is_me three each in
    let once = written b.kept.items three b.kept.len long3 (omega (arith, b.kept.ok.0)) in
    let off : c.add_all.new.self.offset ≡ offset J = c.add_all.ensures.base.0 ∙ on.begin in
    let mid_is : c.add_all.new.self.kept.items ≡ mid J b.kept.items b.trees.roots b.unfinished c.requires.book.0 c.args.pid c.args._pick.now c.args.out.now c.requires.legal me is_me three each =
    c.add_all.ensures.kept ∙ rw (once, long3, on.begin, c.requires.book.0.count, fam.1, ed, c.requires.made) refl in
    let roots_is : c.add_all.new.self.trees.roots ≡ roots_mid J b.kept.items b.trees.roots b.unfinished c.requires.book.0 c.args.pid c.args._pick.now c.args.out.now c.requires.legal me is_me three each =
    c.add_all.ensures.trees ∙ rw (once, long3, on.begin, c.requires.book.0.count, fam.1, ed, c.requires.made) refl in
    let more = ap length mid_is ∙ count_more three (made J) (Some (c.args.pid, pid_of c.requires.legal.1.1.0.0.root)) (edition_of J c.requires.legal.1.1.0.0.root) (args_in c.args.out.now.children) in
    let low = slice_get-low b.trees.roots (map root_shown (added (made J) (Some (c.args.pid, pid_of c.requires.legal.1.1.0.0.root)) (edition_of J c.requires.legal.1.1.0.0.root) (args_in c.args.out.now.children))) (c.requires.legal.1.1.0.0.root - offset J - 1) (slice_get_within b.trees.roots (c.requires.legal.1.1.0.0.root - offset J - 1) (pid_of c.requires.legal.1.1.0.0.root) top.2) in
    rw (fam.1, off) (ap (λ l. slice_get l (c.requires.legal.1.1.0.0.root - offset J - 1)) roots_is ∙ low ∙ top.2)

pub show_phases-requires-clause-roots : goal.show_phases-requires-clause-roots
show_phases-requires-clause-roots c =
    let J : Past = c.args.past.now.entries in
    let b : Book = c.args.self.now in
    let on = c.requires.book.2 in
    let me : Node = c.requires.legal.1.1.0.0 in
    let is_me : node_of c.args.past.now.entries c.args.pid.0 ≡ Some c.requires.legal.1.1.0.0 = c.requires.legal.1.1.0.1 in
    let here = kept_here J b.kept.items b.trees.roots b.unfinished c.requires.book.0 c.args.pid.0 me is_me in
    let fam = c.family-parent.ensures (kept_at J c.args.pid.0 me) (ap (λ l. slice_get l (c.args.pid.0 - b.offset - 1)) c.deref.ensures.value ∙ rw on.begin here.2) in
    let top = root_here J b.kept.items b.trees.roots b.unfinished c.requires.book.0 c.args.pid.0 me is_me in
    let er : c.family-parent.result.1.0 ≡ c.requires.legal.1.1.0.0.root = ap (λ (p : Pid). p.0) fam.1 in
    let ed : c.edition_of-edition.result ≡ edition_of J c.requires.legal.1.1.0.0.root = c.edition_of-edition.ensures (kept_at J c.args.pid.0 me) (ap (λ l. slice_get l (c.args.pid.0 - b.offset - 1)) c.deref-2.ensures.value ∙ rw on.begin here.2) in
    let count_is = ap length (c.as_slice.ensures ∙ c.requires.made) in
    let before_is : b.offset + c.len.result ≡ made J = (let l = c.len.ensures in let n = c.requires.book.0.count in omega (arith, l, n, b.kept.ok.0, on.begin)) in
    let each : (q : ℕ) → slice_get c.note_all.new.kept q ≡ option_map (noted (offset J + q + 1) c.args.pid (parent_shown c.requires.legal.1.1.0.0.above) (pid_of c.requires.legal.1.1.0.0.root) c.args.out.now (made c.args.past.now.entries) (length (args_in c.args.out.now.children))) (slice_get c.args.self.now.kept.items q) =
    λ q. c.note_all.ensures q ∙ rw (c.deref_mut.ensures.value, fam.0, fam.1, before_is, count_is, on.begin) refl in
    let three = c.note_all.new.kept in
    let long3 = long J b.kept.items b.trees.roots b.unfinished c.requires.book.0 c.args.pid c.args._pick.now c.args.out.now c.requires.legal me is_me three each in
    let once = written b.kept.items three b.kept.len long3 (omega (arith, b.kept.ok.0)) in
    let off : c.add_all.new.self.offset ≡ offset J = c.add_all.ensures.base.0 ∙ on.begin in
    let mid_is : c.add_all.new.self.kept.items ≡ mid J b.kept.items b.trees.roots b.unfinished c.requires.book.0 c.args.pid c.args._pick.now c.args.out.now c.requires.legal me is_me three each =
    c.add_all.ensures.kept ∙ rw (once, long3, on.begin, c.requires.book.0.count, fam.1, ed, c.requires.made) refl in
    let roots_is : c.add_all.new.self.trees.roots ≡ roots_mid J b.kept.items b.trees.roots b.unfinished c.requires.book.0 c.args.pid c.args._pick.now c.args.out.now c.requires.legal me is_me three each =
    c.add_all.ensures.trees ∙ rw (once, long3, on.begin, c.requires.book.0.count, fam.1, ed, c.requires.made) refl in
    let more = ap length mid_is ∙ count_more three (made J) (Some (c.args.pid, pid_of c.requires.legal.1.1.0.0.root)) (edition_of J c.requires.legal.1.1.0.0.root) (args_in c.args.out.now.children) in
    λ p.
    ap (λ l. slice_get l p) roots_is ∙ roots_are_mid J b.kept.items b.trees.roots b.unfinished c.requires.book.0 c.args.pid c.args._pick.now c.args.out.now c.requires.legal me is_me three each p ∙ sym (ap (λ l. option_map root_shown (slice_get l p)) (c.deref_mut-2.ensures.value ∙ mid_is))

pub has_ended-over-requires-clause-low : goal.has_ended-over-requires-clause-low
has_ended-over-requires-clause-low c =
    let J : Past = c.args.past.now.entries in
    let b : Book = c.args.self.now in
    let on = c.requires.book.2 in
    let me : Node = c.requires.legal.1.1.0.0 in
    let is_me : node_of c.args.past.now.entries c.args.pid.0 ≡ Some c.requires.legal.1.1.0.0 = c.requires.legal.1.1.0.1 in
    let here = kept_here J b.kept.items b.trees.roots b.unfinished c.requires.book.0 c.args.pid.0 me is_me in
    let fam = c.family-parent.ensures (kept_at J c.args.pid.0 me) (ap (λ l. slice_get l (c.args.pid.0 - b.offset - 1)) c.deref.ensures.value ∙ rw on.begin here.2) in
    let top = root_here J b.kept.items b.trees.roots b.unfinished c.requires.book.0 c.args.pid.0 me is_me in
    let er : c.family-parent.result.1.0 ≡ c.requires.legal.1.1.0.0.root = ap (λ (p : Pid). p.0) fam.1 in
    rw (er, c.add_all.ensures.base.0, on.begin) top.0

pub has_ended-over-requires-clause-high : goal.has_ended-over-requires-clause-high
has_ended-over-requires-clause-high c =
    let J : Past = c.args.past.now.entries in
    let b : Book = c.args.self.now in
    let on = c.requires.book.2 in
    let me : Node = c.requires.legal.1.1.0.0 in
    let is_me : node_of c.args.past.now.entries c.args.pid.0 ≡ Some c.requires.legal.1.1.0.0 = c.requires.legal.1.1.0.1 in
    let here = kept_here J b.kept.items b.trees.roots b.unfinished c.requires.book.0 c.args.pid.0 me is_me in
    let fam = c.family-parent.ensures (kept_at J c.args.pid.0 me) (ap (λ l. slice_get l (c.args.pid.0 - b.offset - 1)) c.deref.ensures.value ∙ rw on.begin here.2) in
    let top = root_here J b.kept.items b.trees.roots b.unfinished c.requires.book.0 c.args.pid.0 me is_me in
    let er : c.family-parent.result.1.0 ≡ c.requires.legal.1.1.0.0.root = ap (λ (p : Pid). p.0) fam.1 in
    let ed : c.edition_of-edition.result ≡ edition_of J c.requires.legal.1.1.0.0.root = c.edition_of-edition.ensures (kept_at J c.args.pid.0 me) (ap (λ l. slice_get l (c.args.pid.0 - b.offset - 1)) c.deref-2.ensures.value ∙ rw on.begin here.2) in
    let count_is = ap length (c.as_slice.ensures ∙ c.requires.made) in
    let before_is : b.offset + c.len.result ≡ made J = (let l = c.len.ensures in let n = c.requires.book.0.count in omega (arith, l, n, b.kept.ok.0, on.begin)) in
    let each : (q : ℕ) → slice_get c.note_all.new.kept q ≡ option_map (noted (offset J + q + 1) c.args.pid (parent_shown c.requires.legal.1.1.0.0.above) (pid_of c.requires.legal.1.1.0.0.root) c.args.out.now (made c.args.past.now.entries) (length (args_in c.args.out.now.children))) (slice_get c.args.self.now.kept.items q) =
    λ q. c.note_all.ensures q ∙ rw (c.deref_mut.ensures.value, fam.0, fam.1, before_is, count_is, on.begin) refl in
    let three = c.note_all.new.kept in
    let long3 = long J b.kept.items b.trees.roots b.unfinished c.requires.book.0 c.args.pid c.args._pick.now c.args.out.now c.requires.legal me is_me three each in
    let once = written b.kept.items three b.kept.len long3 (omega (arith, b.kept.ok.0)) in
    let off : c.add_all.new.self.offset ≡ offset J = c.add_all.ensures.base.0 ∙ on.begin in
    let mid_is : c.add_all.new.self.kept.items ≡ mid J b.kept.items b.trees.roots b.unfinished c.requires.book.0 c.args.pid c.args._pick.now c.args.out.now c.requires.legal me is_me three each =
    c.add_all.ensures.kept ∙ rw (once, long3, on.begin, c.requires.book.0.count, fam.1, ed, c.requires.made) refl in
    let roots_is : c.add_all.new.self.trees.roots ≡ roots_mid J b.kept.items b.trees.roots b.unfinished c.requires.book.0 c.args.pid c.args._pick.now c.args.out.now c.requires.legal me is_me three each =
    c.add_all.ensures.trees ∙ rw (once, long3, on.begin, c.requires.book.0.count, fam.1, ed, c.requires.made) refl in
    let more = ap length mid_is ∙ count_more three (made J) (Some (c.args.pid, pid_of c.requires.legal.1.1.0.0.root)) (edition_of J c.requires.legal.1.1.0.0.root) (args_in c.args.out.now.children) in
    let shown : Shows (offset J) (mid J b.kept.items b.trees.roots b.unfinished c.requires.book.0 c.args.pid c.args._pick.now c.args.out.now c.requires.legal me is_me three each) c.show_phases.new.kept c.args.pid (parent_shown c.requires.legal.1.1.0.0.above) (pid_of c.requires.legal.1.1.0.0.root) c.args.nothing_left = rw (c.deref_mut-2.ensures.value, mid_is, fam.0, fam.1, off) at c.show_phases.ensures in
    let left = c.requires.left ∙ ap (λ r. is_empty (stack (entry_is.Step c.args.pid c.args._pick.now c.args.out.now ∷ J) r)) (step_tree c.args.pid c.args._pick.now c.args.out.now J c.requires.legal me is_me) in
    let new_long = step_long J b.kept.items b.trees.roots b.unfinished c.requires.book.0 c.args.pid c.args._pick.now c.args.out.now c.requires.legal me is_me three each c.show_phases.new.kept c.args.nothing_left left shown in
    let twice = written c.add_all.new.self.kept.items c.show_phases.new.kept c.add_all.new.self.kept.len (new_long ∙ sym (ap length mid_is)) (omega (arith, c.add_all.new.self.kept.ok.0)) in
    let now = ap length (c.deref-4.ensures.value ∙ twice) ∙ new_long in
    let all = ap length mid_is in
    omega (arith, top.1, er, now, all, more, long3, off)

pub less_if-self-requires : goal.less_if-self-requires
less_if-self-requires c =
    let J : Past = c.args.past.now.entries in
    let b : Book = c.args.self.now in
    let on = c.requires.book.2 in
    let me : Node = c.requires.legal.1.1.0.0 in
    let is_me : node_of c.args.past.now.entries c.args.pid.0 ≡ Some c.requires.legal.1.1.0.0 = c.requires.legal.1.1.0.1 in
    let here = kept_here J b.kept.items b.trees.roots b.unfinished c.requires.book.0 c.args.pid.0 me is_me in
    let fam = c.family-parent.ensures (kept_at J c.args.pid.0 me) (ap (λ l. slice_get l (c.args.pid.0 - b.offset - 1)) c.deref.ensures.value ∙ rw on.begin here.2) in
    let top = root_here J b.kept.items b.trees.roots b.unfinished c.requires.book.0 c.args.pid.0 me is_me in
    let er : c.family-parent.result.1.0 ≡ c.requires.legal.1.1.0.0.root = ap (λ (p : Pid). p.0) fam.1 in
    let ed : c.edition_of-edition.result ≡ edition_of J c.requires.legal.1.1.0.0.root = c.edition_of-edition.ensures (kept_at J c.args.pid.0 me) (ap (λ l. slice_get l (c.args.pid.0 - b.offset - 1)) c.deref-2.ensures.value ∙ rw on.begin here.2) in
    let count_is = ap length (c.as_slice.ensures ∙ c.requires.made) in
    let before_is : b.offset + c.len.result ≡ made J = (let l = c.len.ensures in let n = c.requires.book.0.count in omega (arith, l, n, b.kept.ok.0, on.begin)) in
    let each : (q : ℕ) → slice_get c.note_all.new.kept q ≡ option_map (noted (offset J + q + 1) c.args.pid (parent_shown c.requires.legal.1.1.0.0.above) (pid_of c.requires.legal.1.1.0.0.root) c.args.out.now (made c.args.past.now.entries) (length (args_in c.args.out.now.children))) (slice_get c.args.self.now.kept.items q) =
    λ q. c.note_all.ensures q ∙ rw (c.deref_mut.ensures.value, fam.0, fam.1, before_is, count_is, on.begin) refl in
    let three = c.note_all.new.kept in
    let long3 = long J b.kept.items b.trees.roots b.unfinished c.requires.book.0 c.args.pid c.args._pick.now c.args.out.now c.requires.legal me is_me three each in
    let once = written b.kept.items three b.kept.len long3 (omega (arith, b.kept.ok.0)) in
    let off : c.add_all.new.self.offset ≡ offset J = c.add_all.ensures.base.0 ∙ on.begin in
    let mid_is : c.add_all.new.self.kept.items ≡ mid J b.kept.items b.trees.roots b.unfinished c.requires.book.0 c.args.pid c.args._pick.now c.args.out.now c.requires.legal me is_me three each =
    c.add_all.ensures.kept ∙ rw (once, long3, on.begin, c.requires.book.0.count, fam.1, ed, c.requires.made) refl in
    let roots_is : c.add_all.new.self.trees.roots ≡ roots_mid J b.kept.items b.trees.roots b.unfinished c.requires.book.0 c.args.pid c.args._pick.now c.args.out.now c.requires.legal me is_me three each =
    c.add_all.ensures.trees ∙ rw (once, long3, on.begin, c.requires.book.0.count, fam.1, ed, c.requires.made) refl in
    let more = ap length mid_is ∙ count_more three (made J) (Some (c.args.pid, pid_of c.requires.legal.1.1.0.0.root)) (edition_of J c.requires.legal.1.1.0.0.root) (args_in c.args.out.now.children) in
    let shown : Shows (offset J) (mid J b.kept.items b.trees.roots b.unfinished c.requires.book.0 c.args.pid c.args._pick.now c.args.out.now c.requires.legal me is_me three each) c.show_phases.new.kept c.args.pid (parent_shown c.requires.legal.1.1.0.0.above) (pid_of c.requires.legal.1.1.0.0.root) c.args.nothing_left = rw (c.deref_mut-2.ensures.value, mid_is, fam.0, fam.1, off) at c.show_phases.ensures in
    let left = c.requires.left ∙ ap (λ r. is_empty (stack (entry_is.Step c.args.pid c.args._pick.now c.args.out.now ∷ J) r)) (step_tree c.args.pid c.args._pick.now c.args.out.now J c.requires.legal me is_me) in
    let new_long = step_long J b.kept.items b.trees.roots b.unfinished c.requires.book.0 c.args.pid c.args._pick.now c.args.out.now c.requires.legal me is_me three each c.show_phases.new.kept c.args.nothing_left left shown in
    let twice = written c.add_all.new.self.kept.items c.show_phases.new.kept c.add_all.new.self.kept.len (new_long ∙ sym (ap length mid_is)) (omega (arith, c.add_all.new.self.kept.ok.0)) in
    let told : (k : Tracked) → slice_get c.show_phases.new.kept (c.requires.legal.1.1.0.0.root - offset J - 1) ≡ Some k → c.has_ended-over.result ≡ has_ended k = λ k at. c.has_ended-over.ensures k (rw (er, off) (ap (λ l. slice_get l (c.requires.legal.1.1.0.0.root - offset J - 1)) (c.deref-4.ensures.value ∙ twice) ∙ at)) in
    let enough = step_enough J b.kept.items b.trees.roots b.unfinished c.requires.book.0 c.args.pid c.args._pick.now c.args.out.now c.requires.legal me is_me three each c.show_phases.new.kept c.args.nothing_left c.has_ended-over.result 0 left shown told in
    let same = c.add_all.ensures.unfinished in
    omega (arith, enough, same)

pub returns-clause-book : goal.returns-clause-book
returns-clause-book c =
    let J : Past = c.args.past.now.entries in
    let b : Book = c.args.self.now in
    let on = c.requires.book.2 in
    let me : Node = c.requires.legal.1.1.0.0 in
    let is_me : node_of c.args.past.now.entries c.args.pid.0 ≡ Some c.requires.legal.1.1.0.0 = c.requires.legal.1.1.0.1 in
    let here = kept_here J b.kept.items b.trees.roots b.unfinished c.requires.book.0 c.args.pid.0 me is_me in
    let fam = c.family-parent.ensures (kept_at J c.args.pid.0 me) (ap (λ l. slice_get l (c.args.pid.0 - b.offset - 1)) c.deref.ensures.value ∙ rw on.begin here.2) in
    let top = root_here J b.kept.items b.trees.roots b.unfinished c.requires.book.0 c.args.pid.0 me is_me in
    let er : c.family-parent.result.1.0 ≡ c.requires.legal.1.1.0.0.root = ap (λ (p : Pid). p.0) fam.1 in
    let ed : c.edition_of-edition.result ≡ edition_of J c.requires.legal.1.1.0.0.root = c.edition_of-edition.ensures (kept_at J c.args.pid.0 me) (ap (λ l. slice_get l (c.args.pid.0 - b.offset - 1)) c.deref-2.ensures.value ∙ rw on.begin here.2) in
    let count_is = ap length (c.as_slice.ensures ∙ c.requires.made) in
    let before_is : b.offset + c.len.result ≡ made J = (let l = c.len.ensures in let n = c.requires.book.0.count in omega (arith, l, n, b.kept.ok.0, on.begin)) in
    let each : (q : ℕ) → slice_get c.note_all.new.kept q ≡ option_map (noted (offset J + q + 1) c.args.pid (parent_shown c.requires.legal.1.1.0.0.above) (pid_of c.requires.legal.1.1.0.0.root) c.args.out.now (made c.args.past.now.entries) (length (args_in c.args.out.now.children))) (slice_get c.args.self.now.kept.items q) =
    λ q. c.note_all.ensures q ∙ rw (c.deref_mut.ensures.value, fam.0, fam.1, before_is, count_is, on.begin) refl in
    let three = c.note_all.new.kept in
    let long3 = long J b.kept.items b.trees.roots b.unfinished c.requires.book.0 c.args.pid c.args._pick.now c.args.out.now c.requires.legal me is_me three each in
    let once = written b.kept.items three b.kept.len long3 (omega (arith, b.kept.ok.0)) in
    let off : c.add_all.new.self.offset ≡ offset J = c.add_all.ensures.base.0 ∙ on.begin in
    let mid_is : c.add_all.new.self.kept.items ≡ mid J b.kept.items b.trees.roots b.unfinished c.requires.book.0 c.args.pid c.args._pick.now c.args.out.now c.requires.legal me is_me three each =
    c.add_all.ensures.kept ∙ rw (once, long3, on.begin, c.requires.book.0.count, fam.1, ed, c.requires.made) refl in
    let roots_is : c.add_all.new.self.trees.roots ≡ roots_mid J b.kept.items b.trees.roots b.unfinished c.requires.book.0 c.args.pid c.args._pick.now c.args.out.now c.requires.legal me is_me three each =
    c.add_all.ensures.trees ∙ rw (once, long3, on.begin, c.requires.book.0.count, fam.1, ed, c.requires.made) refl in
    let more = ap length mid_is ∙ count_more three (made J) (Some (c.args.pid, pid_of c.requires.legal.1.1.0.0.root)) (edition_of J c.requires.legal.1.1.0.0.root) (args_in c.args.out.now.children) in
    let shown : Shows (offset J) (mid J b.kept.items b.trees.roots b.unfinished c.requires.book.0 c.args.pid c.args._pick.now c.args.out.now c.requires.legal me is_me three each) c.show_phases.new.kept c.args.pid (parent_shown c.requires.legal.1.1.0.0.above) (pid_of c.requires.legal.1.1.0.0.root) c.args.nothing_left = rw (c.deref_mut-2.ensures.value, mid_is, fam.0, fam.1, off) at c.show_phases.ensures in
    let left = c.requires.left ∙ ap (λ r. is_empty (stack (entry_is.Step c.args.pid c.args._pick.now c.args.out.now ∷ J) r)) (step_tree c.args.pid c.args._pick.now c.args.out.now J c.requires.legal me is_me) in
    let new_long = step_long J b.kept.items b.trees.roots b.unfinished c.requires.book.0 c.args.pid c.args._pick.now c.args.out.now c.requires.legal me is_me three each c.show_phases.new.kept c.args.nothing_left left shown in
    let twice = written c.add_all.new.self.kept.items c.show_phases.new.kept c.add_all.new.self.kept.len (new_long ∙ sym (ap length mid_is)) (omega (arith, c.add_all.new.self.kept.ok.0)) in
    let told : (k : Tracked) → slice_get c.show_phases.new.kept (c.requires.legal.1.1.0.0.root - offset J - 1) ≡ Some k → c.has_ended-over.result ≡ has_ended k = λ k at. c.has_ended-over.ensures k (rw (er, off) (ap (λ l. slice_get l (c.requires.legal.1.1.0.0.root - offset J - 1)) (c.deref-4.ensures.value ∙ twice) ∙ at)) in
    let first_is : c.first_child-eldest.result ≡ first_child_of (entry_is.Step c.args.pid c.args._pick.now c.args.out.now ∷ J) c.args.pid.0 =
    c.first_child-eldest.ensures (kept_in (phase_before J c.args.pid.0 me) (entry_is.Step c.args.pid c.args._pick.now c.args.out.now ∷ J) c.args.pid.0 me)
    (ap (λ l. slice_get l (c.args.pid.0 - b.offset - 1)) (c.deref-3.ensures.value ∙ once) ∙ rw on.begin (step_here J b.kept.items b.trees.roots b.unfinished c.requires.book.0 c.args.pid c.args._pick.now c.args.out.now c.requires.legal me is_me three each)) in
    let same_long = elders_long J c.requires.book.0.legal b.siblings.roots c.requires.book.1 (kept_at J) b.kept.items c.requires.book.0.kept_are in
    let long_list : offset J + length b.siblings.roots ≡ made J = (let count = c.requires.book.0.count in omega (arith, same_long, count)) in (
      rw (twice, roots_is) (step_kept J b.kept.items b.trees.roots b.unfinished c.requires.book.0 c.args.pid c.args._pick.now c.args.out.now c.requires.legal me is_me three each c.show_phases.new.kept c.args.nothing_left c.has_ended-over.result c.less_if-self.result left shown told (c.less_if-self.ensures ∙ c.add_all.ensures.unfinished)),
      rw (c.add_all.ensures.siblings, once, long3, on.begin, c.requires.book.0.count, first_is, c.requires.made) (elders_step J c.requires.book.0.legal b.siblings.roots c.requires.book.1 long_list c.args.pid c.args._pick.now c.args.out.now c.requires.legal me is_me),
      still_based J (entry_is.Step c.args.pid c.args._pick.now c.args.out.now ∷ J) b _ refl refl refl on c.add_all.ensures.base,
    )
