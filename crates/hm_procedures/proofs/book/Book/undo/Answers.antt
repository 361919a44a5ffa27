use Rattle.std.proofs.Common.{◌≡◌, ◌+◌, ◌-◌, ◌∷◌, Some, None, length, map, slice_get, refl, ap, sym, subst, ◌∙◌, arith}
use Rattle.std.specs.Option.{option_map}
use Rattle.std.proofs.lemmas.Option.{slice_get_within}
use Rattle.hm_names.specs.declared.pid.Pid.{Pid}
use Rattle.hm_data.specs.declared.entry.Entry.TheVariants as entry_is
use Rattle.hm_model.specs.Editions.{editions}
use Rattle.hm_model.specs.Journal.{Past}
use Rattle.hm_model.specs.Procedures.{offset}
use Rattle.hm_model.specs.Apart.{tree_of}
use Rattle.hm_model.specs.Tree.{Node, args_in, made, pid_of}
use Rattle.hm_model.specs.Undo.{is_empty, stack}
use Rattle.hm_procedures.specs.Changes.{added, has_ended}
use Rattle.hm_procedures.specs.Kept.{args_made, kept_at, root_shown}
use Rattle.hm_procedures.specs.declared.book.Book.{Book}
use Rattle.hm_procedures.specs.declared.kept.Tracked.{Tracked}
use Rattle.hm_procedures.proofs.Based.{still_based}
use Rattle.hm_procedures.proofs.Elders.{elders_long, elders_undo}
use Rattle.hm_procedures.proofs.Enters.{count_more}
use Rattle.hm_procedures.proofs.Facts.{parent_shown}
use Rattle.hm_procedures.proofs.InTrees.{undo_tree, undone_there}
use Rattle.hm_procedures.proofs.Needs.{few_roots, kept_here, offset_most, parent_here, root_here, roots_long}
use Rattle.hm_procedures.proofs.Places.{slice_get-low, written}
use Rattle.hm_procedures.proofs.Steps.{Shows, mid_undo, roots_undo, roots_undo_are, undo_enough, undo_kept, undo_long}
use Rattle.hm_data.specs.declared.entry.Entry.{Entry}
use Rattle.hm_model.specs.Rules.{IsLegal}
use Rattle.hm_procedures.proofs.book.Book.undo.Goals as goal

pub family-parent-requires-clause-low : goal.family-parent-requires-clause-low
family-parent-requires-clause-low c =
    let legal : IsLegal (entry_is.Undo c.in-Undo.pid c.in-Undo._row c.in-Undo._out ∷ c.args.past.now.entries) = subst (λ (e : Entry). IsLegal (e ∷ c.args.past.now.entries)) c.in-Undo.is c.requires.legal in
    let J : Past = c.args.past.now.entries in
    let b : Book = c.args.self.now in
    let on = c.requires.book.2 in
    let found = undone_there c.in-Undo.pid c.in-Undo._row c.in-Undo._out c.args.past.now.entries legal in
    let me : Node = found.0 in
    let is_me = found.1 in
    let here = kept_here J b.kept.items b.trees.roots b.unfinished c.requires.book.0 c.in-Undo.pid.0 me is_me in
    rw on.begin here.0

pub family-parent-requires-clause-high : goal.family-parent-requires-clause-high
family-parent-requires-clause-high c =
    let legal : IsLegal (entry_is.Undo c.in-Undo.pid c.in-Undo._row c.in-Undo._out ∷ c.args.past.now.entries) = subst (λ (e : Entry). IsLegal (e ∷ c.args.past.now.entries)) c.in-Undo.is c.requires.legal in
    let J : Past = c.args.past.now.entries in
    let b : Book = c.args.self.now in
    let on = c.requires.book.2 in
    let found = undone_there c.in-Undo.pid c.in-Undo._row c.in-Undo._out c.args.past.now.entries legal in
    let me : Node = found.0 in
    let is_me = found.1 in
    let here = kept_here J b.kept.items b.trees.roots b.unfinished c.requires.book.0 c.in-Undo.pid.0 me is_me in
    rw (on.begin, c.deref.ensures.value) here.1

pub overflow_add-self : goal.overflow_add-self
overflow_add-self c =
    let J : Past = c.args.past.now.entries in
    let b : Book = c.args.self.now in
    let few = few_roots J b.kept.items b.trees.roots b.unfinished c.requires.book.0 in
    let least = offset_most J c.requires.book.0.legal in
    let m = ap length c.as_slice.ensures in
    omega (arith, few, m, least, c.requires.room, b.kept.ok.0, b.kept.small)

pub add_all-requires-clause-count : goal.add_all-requires-clause-count
add_all-requires-clause-count c =
    let J : Past = c.args.past.now.entries in
    let b : Book = c.args.self.now in
    roots_long J b.kept.items b.trees.roots b.unfinished c.requires.book.0

pub add_all-requires-clause-siblings : goal.add_all-requires-clause-siblings
add_all-requires-clause-siblings c =
    let J : Past = c.args.past.now.entries in
    let b : Book = c.args.self.now in
    elders_long J c.requires.book.0.legal b.siblings.roots c.requires.book.1 (kept_at J) b.kept.items c.requires.book.0.kept_are

pub add_all-requires-clause-trees_from : goal.add_all-requires-clause-trees_from
add_all-requires-clause-trees_from c =
    c.requires.book.2.trees ∙ sym c.requires.book.2.begin

pub add_all-requires-clause-siblings_from : goal.add_all-requires-clause-siblings_from
add_all-requires-clause-siblings_from c =
    c.requires.book.2.siblings ∙ sym c.requires.book.2.begin

pub add_all-requires-clause-few : goal.add_all-requires-clause-few
add_all-requires-clause-few c =
    rw c.requires.book.2.begin (offset_most c.args.past.now.entries c.requires.book.0.legal)

pub show_phases-requires-clause-from : goal.show_phases-requires-clause-from
show_phases-requires-clause-from c =
    let same = c.add_all.ensures.base in
    same.3 ∙ c.requires.book.2.trees ∙ sym (same.0 ∙ c.requires.book.2.begin)

pub show_phases-requires-clause-pid_low : goal.show_phases-requires-clause-pid_low
show_phases-requires-clause-pid_low c =
    let legal : IsLegal (entry_is.Undo c.in-Undo.pid c.in-Undo._row c.in-Undo._out ∷ c.args.past.now.entries) = subst (λ (e : Entry). IsLegal (e ∷ c.args.past.now.entries)) c.in-Undo.is c.requires.legal in
    let J : Past = c.args.past.now.entries in
    let b : Book = c.args.self.now in
    let on = c.requires.book.2 in
    let found = undone_there c.in-Undo.pid c.in-Undo._row c.in-Undo._out c.args.past.now.entries legal in
    let me : Node = found.0 in
    let is_me = found.1 in
    let here = kept_here J b.kept.items b.trees.roots b.unfinished c.requires.book.0 c.in-Undo.pid.0 me is_me in
    rw (c.add_all.ensures.base.0, on.begin) here.0

pub show_phases-requires-clause-pid_high : goal.show_phases-requires-clause-pid_high
show_phases-requires-clause-pid_high c =
    let legal : IsLegal (entry_is.Undo c.in-Undo.pid c.in-Undo._row c.in-Undo._out ∷ c.args.past.now.entries) = subst (λ (e : Entry). IsLegal (e ∷ c.args.past.now.entries)) c.in-Undo.is c.requires.legal in
    let J : Past = c.args.past.now.entries in
    let b : Book = c.args.self.now in
    let on = c.requires.book.2 in
    let found = undone_there c.in-Undo.pid c.in-Undo._row c.in-Undo._out c.args.past.now.entries legal in
    let me : Node = found.0 in
    let is_me = found.1 in
    let here = kept_here J b.kept.items b.trees.roots b.unfinished c.requires.book.0 c.in-Undo.pid.0 me is_me in
    let made_is : c.args.made ≡ args_made c.args.past.now.entries (entry_is.Undo c.in-Undo.pid c.in-Undo._row c.in-Undo._out) = c.requires.made ∙ ap (args_made c.args.past.now.entries) c.in-Undo.is in
    let fam = c.family-parent.ensures (kept_at J c.in-Undo.pid.0 me) (ap (λ l. slice_get l (c.in-Undo.pid.0 - b.offset - 1)) c.deref.ensures.value ∙ rw on.begin here.2) in
    let top = root_here J b.kept.items b.trees.roots b.unfinished c.requires.book.0 c.in-Undo.pid.0 me is_me in
    let er = ap (λ (p : Pid). p.0) fam.1 in
    let off : c.add_all.new.self.offset ≡ offset J = c.add_all.ensures.base.0 ∙ on.begin in
    let mid_is : c.add_all.new.self.kept.items ≡ mid_undo J b.kept.items b.trees.roots b.unfinished c.requires.book.0 c.in-Undo.pid c.in-Undo._row c.in-Undo._out legal me is_me =
    c.add_all.ensures.kept ∙ rw (on.begin, c.requires.book.0.count, on.edition, made_is) refl in
    let roots_is : c.add_all.new.self.trees.roots ≡ roots_undo J b.kept.items b.trees.roots b.unfinished c.requires.book.0 c.in-Undo.pid c.in-Undo._row c.in-Undo._out legal me is_me =
    c.add_all.ensures.trees ∙ rw (on.begin, c.requires.book.0.count, on.edition, made_is) refl in
    let n = c.requires.book.0.count in
    let more = ap length mid_is ∙ count_more b.kept.items (made J) None (editions J) (args_in c.in-Undo._out.followers) in
    let long = ap length c.deref_mut.ensures.value in
    omega (arith, here.1, more, n, off, long)

pub show_phases-requires-clause-parent_low : goal.show_phases-requires-clause-parent_low
show_phases-requires-clause-parent_low c =
    let legal : IsLegal (entry_is.Undo c.in-Undo.pid c.in-Undo._row c.in-Undo._out ∷ c.args.past.now.entries) = subst (λ (e : Entry). IsLegal (e ∷ c.args.past.now.entries)) c.in-Undo.is c.requires.legal in
    let J : Past = c.args.past.now.entries in
    let b : Book = c.args.self.now in
    let on = c.requires.book.2 in
    let found = undone_there c.in-Undo.pid c.in-Undo._row c.in-Undo._out c.args.past.now.entries legal in
    let me : Node = found.0 in
    let is_me = found.1 in
    let here = kept_here J b.kept.items b.trees.roots b.unfinished c.requires.book.0 c.in-Undo.pid.0 me is_me in
    let made_is : c.args.made ≡ args_made c.args.past.now.entries (entry_is.Undo c.in-Undo.pid c.in-Undo._row c.in-Undo._out) = c.requires.made ∙ ap (args_made c.args.past.now.entries) c.in-Undo.is in
    let fam = c.family-parent.ensures (kept_at J c.in-Undo.pid.0 me) (ap (λ l. slice_get l (c.in-Undo.pid.0 - b.offset - 1)) c.deref.ensures.value ∙ rw on.begin here.2) in
    let top = root_here J b.kept.items b.trees.roots b.unfinished c.requires.book.0 c.in-Undo.pid.0 me is_me in
    let er = ap (λ (p : Pid). p.0) fam.1 in
    λ up is. rw (c.add_all.ensures.base.0, on.begin) (parent_here J b.kept.items b.trees.roots b.unfinished c.requires.book.0 c.in-Undo.pid.0 me is_me up (sym fam.0 ∙ is)).0

pub show_phases-requires-clause-parent_high : goal.show_phases-requires-clause-parent_high
show_phases-requires-clause-parent_high c =
    let legal : IsLegal (entry_is.Undo c.in-Undo.pid c.in-Undo._row c.in-Undo._out ∷ c.args.past.now.entries) = subst (λ (e : Entry). IsLegal (e ∷ c.args.past.now.entries)) c.in-Undo.is c.requires.legal in
    let J : Past = c.args.past.now.entries in
    let b : Book = c.args.self.now in
    let on = c.requires.book.2 in
    let found = undone_there c.in-Undo.pid c.in-Undo._row c.in-Undo._out c.args.past.now.entries legal in
    let me : Node = found.0 in
    let is_me = found.1 in
    let here = kept_here J b.kept.items b.trees.roots b.unfinished c.requires.book.0 c.in-Undo.pid.0 me is_me in
    let made_is : c.args.made ≡ args_made c.args.past.now.entries (entry_is.Undo c.in-Undo.pid c.in-Undo._row c.in-Undo._out) = c.requires.made ∙ ap (args_made c.args.past.now.entries) c.in-Undo.is in
    let fam = c.family-parent.ensures (kept_at J c.in-Undo.pid.0 me) (ap (λ l. slice_get l (c.in-Undo.pid.0 - b.offset - 1)) c.deref.ensures.value ∙ rw on.begin here.2) in
    let top = root_here J b.kept.items b.trees.roots b.unfinished c.requires.book.0 c.in-Undo.pid.0 me is_me in
    let er = ap (λ (p : Pid). p.0) fam.1 in
    let off : c.add_all.new.self.offset ≡ offset J = c.add_all.ensures.base.0 ∙ on.begin in
    let mid_is : c.add_all.new.self.kept.items ≡ mid_undo J b.kept.items b.trees.roots b.unfinished c.requires.book.0 c.in-Undo.pid c.in-Undo._row c.in-Undo._out legal me is_me =
    c.add_all.ensures.kept ∙ rw (on.begin, c.requires.book.0.count, on.edition, made_is) refl in
    let roots_is : c.add_all.new.self.trees.roots ≡ roots_undo J b.kept.items b.trees.roots b.unfinished c.requires.book.0 c.in-Undo.pid c.in-Undo._row c.in-Undo._out legal me is_me =
    c.add_all.ensures.trees ∙ rw (on.begin, c.requires.book.0.count, on.edition, made_is) refl in
    let n = c.requires.book.0.count in
    let more = ap length mid_is ∙ count_more b.kept.items (made J) None (editions J) (args_in c.in-Undo._out.followers) in
    let long = ap length c.deref_mut.ensures.value in
    λ up is. (let high = (parent_here J b.kept.items b.trees.roots b.unfinished c.requires.book.0 c.in-Undo.pid.0 me is_me up (sym fam.0 ∙ is)).1 in omega (arith, high, more, n, off, long))

pub show_phases-requires-clause-root_low : goal.show_phases-requires-clause-root_low
show_phases-requires-clause-root_low c =
    let legal : IsLegal (entry_is.Undo c.in-Undo.pid c.in-Undo._row c.in-Undo._out ∷ c.args.past.now.entries) = subst (λ (e : Entry). IsLegal (e ∷ c.args.past.now.entries)) c.in-Undo.is c.requires.legal in
    let J : Past = c.args.past.now.entries in
    let b : Book = c.args.self.now in
    let on = c.requires.book.2 in
    let found = undone_there c.in-Undo.pid c.in-Undo._row c.in-Undo._out c.args.past.now.entries legal in
    let me : Node = found.0 in
    let is_me = found.1 in
    let here = kept_here J b.kept.items b.trees.roots b.unfinished c.requires.book.0 c.in-Undo.pid.0 me is_me in
    let made_is : c.args.made ≡ args_made c.args.past.now.entries (entry_is.Undo c.in-Undo.pid c.in-Undo._row c.in-Undo._out) = c.requires.made ∙ ap (args_made c.args.past.now.entries) c.in-Undo.is in
    let fam = c.family-parent.ensures (kept_at J c.in-Undo.pid.0 me) (ap (λ l. slice_get l (c.in-Undo.pid.0 - b.offset - 1)) c.deref.ensures.value ∙ rw on.begin here.2) in
    let top = root_here J b.kept.items b.trees.roots b.unfinished c.requires.book.0 c.in-Undo.pid.0 me is_me in
    let er = ap (λ (p : Pid). p.0) fam.1 in
    rw (er, c.add_all.ensures.base.0, on.begin) top.0

pub show_phases-requires-clause-root : goal.show_phases-requires-clause-root
show_phases-requires-clause-root c =
    let legal : IsLegal (entry_is.Undo c.in-Undo.pid c.in-Undo._row c.in-Undo._out ∷ c.args.past.now.entries) = subst (λ (e : Entry). IsLegal (e ∷ c.args.past.now.entries)) c.in-Undo.is c.requires.legal in
    let J : Past = c.args.past.now.entries in
    let b : Book = c.args.self.now in
    let on = c.requires.book.2 in
    let found = undone_there c.in-Undo.pid c.in-Undo._row c.in-Undo._out c.args.past.now.entries legal in
    let me : Node = found.0 in
    let is_me = found.1 in
    let here = kept_here J b.kept.items b.trees.roots b.unfinished c.requires.book.0 c.in-Undo.pid.0 me is_me in
    let made_is : c.args.made ≡ args_made c.args.past.now.entries (entry_is.Undo c.in-Undo.pid c.in-Undo._row c.in-Undo._out) = c.requires.made ∙ ap (args_made c.args.past.now.entries) c.in-Undo.is in
    let fam = c.family-parent.ensures (kept_at J c.in-Undo.pid.0 me) (ap (λ l. slice_get l (c.in-Undo.pid.0 - b.offset - 1)) c.deref.ensures.value ∙ rw on.begin here.2) in
    let top = root_here J b.kept.items b.trees.roots b.unfinished c.requires.book.0 c.in-Undo.pid.0 me is_me in
    let er = ap (λ (p : Pid). p.0) fam.1 in
    let off : c.add_all.new.self.offset ≡ offset J = c.add_all.ensures.base.0 ∙ on.begin in
    let mid_is : c.add_all.new.self.kept.items ≡ mid_undo J b.kept.items b.trees.roots b.unfinished c.requires.book.0 c.in-Undo.pid c.in-Undo._row c.in-Undo._out legal me is_me =
    c.add_all.ensures.kept ∙ rw (on.begin, c.requires.book.0.count, on.edition, made_is) refl in
    let roots_is : c.add_all.new.self.trees.roots ≡ roots_undo J b.kept.items b.trees.roots b.unfinished c.requires.book.0 c.in-Undo.pid c.in-Undo._row c.in-Undo._out legal me is_me =
    c.add_all.ensures.trees ∙ rw (on.begin, c.requires.book.0.count, on.edition, made_is) refl in
    let n = c.requires.book.0.count in
    let more = ap length mid_is ∙ count_more b.kept.items (made J) None (editions J) (args_in c.in-Undo._out.followers) in
    let low = slice_get-low b.trees.roots (map root_shown (added (made J) None (editions J) (args_in c.in-Undo._out.followers))) (me.root - offset J - 1) (slice_get_within b.trees.roots (me.root - offset J - 1) (pid_of me.root) top.2) in
    rw (fam.1, off) (ap (λ l. slice_get l (me.root - offset J - 1)) roots_is ∙ low ∙ top.2)

pub show_phases-requires-clause-roots : goal.show_phases-requires-clause-roots
show_phases-requires-clause-roots c =
    let legal : IsLegal (entry_is.Undo c.in-Undo.pid c.in-Undo._row c.in-Undo._out ∷ c.args.past.now.entries) = subst (λ (e : Entry). IsLegal (e ∷ c.args.past.now.entries)) c.in-Undo.is c.requires.legal in
    let J : Past = c.args.past.now.entries in
    let b : Book = c.args.self.now in
    let on = c.requires.book.2 in
    let found = undone_there c.in-Undo.pid c.in-Undo._row c.in-Undo._out c.args.past.now.entries legal in
    let me : Node = found.0 in
    let is_me = found.1 in
    let here = kept_here J b.kept.items b.trees.roots b.unfinished c.requires.book.0 c.in-Undo.pid.0 me is_me in
    let made_is : c.args.made ≡ args_made c.args.past.now.entries (entry_is.Undo c.in-Undo.pid c.in-Undo._row c.in-Undo._out) = c.requires.made ∙ ap (args_made c.args.past.now.entries) c.in-Undo.is in
    let fam = c.family-parent.ensures (kept_at J c.in-Undo.pid.0 me) (ap (λ l. slice_get l (c.in-Undo.pid.0 - b.offset - 1)) c.deref.ensures.value ∙ rw on.begin here.2) in
    let top = root_here J b.kept.items b.trees.roots b.unfinished c.requires.book.0 c.in-Undo.pid.0 me is_me in
    let er = ap (λ (p : Pid). p.0) fam.1 in
    let off : c.add_all.new.self.offset ≡ offset J = c.add_all.ensures.base.0 ∙ on.begin in
    let mid_is : c.add_all.new.self.kept.items ≡ mid_undo J b.kept.items b.trees.roots b.unfinished c.requires.book.0 c.in-Undo.pid c.in-Undo._row c.in-Undo._out legal me is_me =
    c.add_all.ensures.kept ∙ rw (on.begin, c.requires.book.0.count, on.edition, made_is) refl in
    let roots_is : c.add_all.new.self.trees.roots ≡ roots_undo J b.kept.items b.trees.roots b.unfinished c.requires.book.0 c.in-Undo.pid c.in-Undo._row c.in-Undo._out legal me is_me =
    c.add_all.ensures.trees ∙ rw (on.begin, c.requires.book.0.count, on.edition, made_is) refl in
    let n = c.requires.book.0.count in
    let more = ap length mid_is ∙ count_more b.kept.items (made J) None (editions J) (args_in c.in-Undo._out.followers) in
    λ p.
    ap (λ l. slice_get l p) roots_is ∙ roots_undo_are J b.kept.items b.trees.roots b.unfinished c.requires.book.0 c.in-Undo.pid c.in-Undo._row c.in-Undo._out legal me is_me p ∙ sym (ap (λ l. option_map root_shown (slice_get l p)) (c.deref_mut.ensures.value ∙ mid_is))

pub has_ended-over-requires-clause-low : goal.has_ended-over-requires-clause-low
has_ended-over-requires-clause-low c =
    let legal : IsLegal (entry_is.Undo c.in-Undo.pid c.in-Undo._row c.in-Undo._out ∷ c.args.past.now.entries) = subst (λ (e : Entry). IsLegal (e ∷ c.args.past.now.entries)) c.in-Undo.is c.requires.legal in
    let J : Past = c.args.past.now.entries in
    let b : Book = c.args.self.now in
    let on = c.requires.book.2 in
    let found = undone_there c.in-Undo.pid c.in-Undo._row c.in-Undo._out c.args.past.now.entries legal in
    let me : Node = found.0 in
    let is_me = found.1 in
    let here = kept_here J b.kept.items b.trees.roots b.unfinished c.requires.book.0 c.in-Undo.pid.0 me is_me in
    let made_is : c.args.made ≡ args_made c.args.past.now.entries (entry_is.Undo c.in-Undo.pid c.in-Undo._row c.in-Undo._out) = c.requires.made ∙ ap (args_made c.args.past.now.entries) c.in-Undo.is in
    let fam = c.family-parent.ensures (kept_at J c.in-Undo.pid.0 me) (ap (λ l. slice_get l (c.in-Undo.pid.0 - b.offset - 1)) c.deref.ensures.value ∙ rw on.begin here.2) in
    let top = root_here J b.kept.items b.trees.roots b.unfinished c.requires.book.0 c.in-Undo.pid.0 me is_me in
    let er = ap (λ (p : Pid). p.0) fam.1 in
    rw (er, c.add_all.ensures.base.0, on.begin) top.0

pub has_ended-over-requires-clause-high : goal.has_ended-over-requires-clause-high
has_ended-over-requires-clause-high c =
    let legal : IsLegal (entry_is.Undo c.in-Undo.pid c.in-Undo._row c.in-Undo._out ∷ c.args.past.now.entries) = subst (λ (e : Entry). IsLegal (e ∷ c.args.past.now.entries)) c.in-Undo.is c.requires.legal in
    let J : Past = c.args.past.now.entries in
    let b : Book = c.args.self.now in
    let on = c.requires.book.2 in
    let found = undone_there c.in-Undo.pid c.in-Undo._row c.in-Undo._out c.args.past.now.entries legal in
    let me : Node = found.0 in
    let is_me = found.1 in
    let here = kept_here J b.kept.items b.trees.roots b.unfinished c.requires.book.0 c.in-Undo.pid.0 me is_me in
    let made_is : c.args.made ≡ args_made c.args.past.now.entries (entry_is.Undo c.in-Undo.pid c.in-Undo._row c.in-Undo._out) = c.requires.made ∙ ap (args_made c.args.past.now.entries) c.in-Undo.is in
    let fam = c.family-parent.ensures (kept_at J c.in-Undo.pid.0 me) (ap (λ l. slice_get l (c.in-Undo.pid.0 - b.offset - 1)) c.deref.ensures.value ∙ rw on.begin here.2) in
    let top = root_here J b.kept.items b.trees.roots b.unfinished c.requires.book.0 c.in-Undo.pid.0 me is_me in
    let er = ap (λ (p : Pid). p.0) fam.1 in
    let off : c.add_all.new.self.offset ≡ offset J = c.add_all.ensures.base.0 ∙ on.begin in
    let mid_is : c.add_all.new.self.kept.items ≡ mid_undo J b.kept.items b.trees.roots b.unfinished c.requires.book.0 c.in-Undo.pid c.in-Undo._row c.in-Undo._out legal me is_me =
    c.add_all.ensures.kept ∙ rw (on.begin, c.requires.book.0.count, on.edition, made_is) refl in
    let roots_is : c.add_all.new.self.trees.roots ≡ roots_undo J b.kept.items b.trees.roots b.unfinished c.requires.book.0 c.in-Undo.pid c.in-Undo._row c.in-Undo._out legal me is_me =
    c.add_all.ensures.trees ∙ rw (on.begin, c.requires.book.0.count, on.edition, made_is) refl in
    let n = c.requires.book.0.count in
    let more = ap length mid_is ∙ count_more b.kept.items (made J) None (editions J) (args_in c.in-Undo._out.followers) in
    let left_is : c.args.nothing_left ≡ is_empty (stack (entry_is.Undo c.in-Undo.pid c.in-Undo._row c.in-Undo._out ∷ c.args.past.now.entries) (tree_of c.args.past.now.entries (entry_is.Undo c.in-Undo.pid c.in-Undo._row c.in-Undo._out))) = c.requires.left ∙ ap (λ (e : Entry). is_empty (stack (e ∷ c.args.past.now.entries) (tree_of c.args.past.now.entries e))) c.in-Undo.is in
    let shown : Shows (offset J) (mid_undo J b.kept.items b.trees.roots b.unfinished c.requires.book.0 c.in-Undo.pid c.in-Undo._row c.in-Undo._out legal me is_me) c.show_phases.new.kept c.in-Undo.pid (parent_shown found.0.above) (pid_of found.0.root) c.args.nothing_left = rw (c.deref_mut.ensures.value, mid_is, fam.0, fam.1, off) at c.show_phases.ensures in
    let left = left_is ∙ ap (λ r. is_empty (stack (entry_is.Undo c.in-Undo.pid c.in-Undo._row c.in-Undo._out ∷ J) r)) (undo_tree c.in-Undo.pid c.in-Undo._row c.in-Undo._out J legal me is_me) in
    let new_long = undo_long J b.kept.items b.trees.roots b.unfinished c.requires.book.0 c.in-Undo.pid c.in-Undo._row c.in-Undo._out legal me is_me c.show_phases.new.kept c.args.nothing_left left shown in
    let once = written c.add_all.new.self.kept.items c.show_phases.new.kept c.add_all.new.self.kept.len (new_long ∙ sym (ap length mid_is)) (omega (arith, c.add_all.new.self.kept.ok.0)) in
    let now = ap length (c.deref-2.ensures.value ∙ once) ∙ new_long ∙ sym (ap length mid_is) in
    omega (arith, top.1, er, now, n, more, off)

pub less_if-self-requires : goal.less_if-self-requires
less_if-self-requires c =
    let legal : IsLegal (entry_is.Undo c.in-Undo.pid c.in-Undo._row c.in-Undo._out ∷ c.args.past.now.entries) = subst (λ (e : Entry). IsLegal (e ∷ c.args.past.now.entries)) c.in-Undo.is c.requires.legal in
    let J : Past = c.args.past.now.entries in
    let b : Book = c.args.self.now in
    let on = c.requires.book.2 in
    let found = undone_there c.in-Undo.pid c.in-Undo._row c.in-Undo._out c.args.past.now.entries legal in
    let me : Node = found.0 in
    let is_me = found.1 in
    let here = kept_here J b.kept.items b.trees.roots b.unfinished c.requires.book.0 c.in-Undo.pid.0 me is_me in
    let made_is : c.args.made ≡ args_made c.args.past.now.entries (entry_is.Undo c.in-Undo.pid c.in-Undo._row c.in-Undo._out) = c.requires.made ∙ ap (args_made c.args.past.now.entries) c.in-Undo.is in
    let fam = c.family-parent.ensures (kept_at J c.in-Undo.pid.0 me) (ap (λ l. slice_get l (c.in-Undo.pid.0 - b.offset - 1)) c.deref.ensures.value ∙ rw on.begin here.2) in
    let top = root_here J b.kept.items b.trees.roots b.unfinished c.requires.book.0 c.in-Undo.pid.0 me is_me in
    let er = ap (λ (p : Pid). p.0) fam.1 in
    let off : c.add_all.new.self.offset ≡ offset J = c.add_all.ensures.base.0 ∙ on.begin in
    let mid_is : c.add_all.new.self.kept.items ≡ mid_undo J b.kept.items b.trees.roots b.unfinished c.requires.book.0 c.in-Undo.pid c.in-Undo._row c.in-Undo._out legal me is_me =
    c.add_all.ensures.kept ∙ rw (on.begin, c.requires.book.0.count, on.edition, made_is) refl in
    let roots_is : c.add_all.new.self.trees.roots ≡ roots_undo J b.kept.items b.trees.roots b.unfinished c.requires.book.0 c.in-Undo.pid c.in-Undo._row c.in-Undo._out legal me is_me =
    c.add_all.ensures.trees ∙ rw (on.begin, c.requires.book.0.count, on.edition, made_is) refl in
    let n = c.requires.book.0.count in
    let more = ap length mid_is ∙ count_more b.kept.items (made J) None (editions J) (args_in c.in-Undo._out.followers) in
    let left_is : c.args.nothing_left ≡ is_empty (stack (entry_is.Undo c.in-Undo.pid c.in-Undo._row c.in-Undo._out ∷ c.args.past.now.entries) (tree_of c.args.past.now.entries (entry_is.Undo c.in-Undo.pid c.in-Undo._row c.in-Undo._out))) = c.requires.left ∙ ap (λ (e : Entry). is_empty (stack (e ∷ c.args.past.now.entries) (tree_of c.args.past.now.entries e))) c.in-Undo.is in
    let shown : Shows (offset J) (mid_undo J b.kept.items b.trees.roots b.unfinished c.requires.book.0 c.in-Undo.pid c.in-Undo._row c.in-Undo._out legal me is_me) c.show_phases.new.kept c.in-Undo.pid (parent_shown found.0.above) (pid_of found.0.root) c.args.nothing_left = rw (c.deref_mut.ensures.value, mid_is, fam.0, fam.1, off) at c.show_phases.ensures in
    let left = left_is ∙ ap (λ r. is_empty (stack (entry_is.Undo c.in-Undo.pid c.in-Undo._row c.in-Undo._out ∷ J) r)) (undo_tree c.in-Undo.pid c.in-Undo._row c.in-Undo._out J legal me is_me) in
    let new_long = undo_long J b.kept.items b.trees.roots b.unfinished c.requires.book.0 c.in-Undo.pid c.in-Undo._row c.in-Undo._out legal me is_me c.show_phases.new.kept c.args.nothing_left left shown in
    let once = written c.add_all.new.self.kept.items c.show_phases.new.kept c.add_all.new.self.kept.len (new_long ∙ sym (ap length mid_is)) (omega (arith, c.add_all.new.self.kept.ok.0)) in
    let told : (k : Tracked) → slice_get c.show_phases.new.kept (found.0.root - offset J - 1) ≡ Some k → c.has_ended-over.result ≡ has_ended k = λ k at. c.has_ended-over.ensures k (rw (er, off) (ap (λ l. slice_get l (me.root - offset J - 1)) (c.deref-2.ensures.value ∙ once) ∙ at)) in
    let m = ap length (c.as_slice.ensures ∙ made_is) in
    let same = c.add_all.ensures.unfinished in
    let enough = undo_enough J b.kept.items b.trees.roots b.unfinished c.requires.book.0 c.in-Undo.pid c.in-Undo._row c.in-Undo._out legal me is_me c.show_phases.new.kept c.args.nothing_left c.has_ended-over.result 0 left shown told in
    omega (arith, enough, same, m)

pub returns-clause-book : goal.returns-clause-book
returns-clause-book c =
    let legal : IsLegal (entry_is.Undo c.in-Undo.pid c.in-Undo._row c.in-Undo._out ∷ c.args.past.now.entries) = subst (λ (e : Entry). IsLegal (e ∷ c.args.past.now.entries)) c.in-Undo.is c.requires.legal in
    let J : Past = c.args.past.now.entries in
    let b : Book = c.args.self.now in
    let on = c.requires.book.2 in
    let found = undone_there c.in-Undo.pid c.in-Undo._row c.in-Undo._out c.args.past.now.entries legal in
    let me : Node = found.0 in
    let is_me = found.1 in
    let here = kept_here J b.kept.items b.trees.roots b.unfinished c.requires.book.0 c.in-Undo.pid.0 me is_me in
    let made_is : c.args.made ≡ args_made c.args.past.now.entries (entry_is.Undo c.in-Undo.pid c.in-Undo._row c.in-Undo._out) = c.requires.made ∙ ap (args_made c.args.past.now.entries) c.in-Undo.is in
    let fam = c.family-parent.ensures (kept_at J c.in-Undo.pid.0 me) (ap (λ l. slice_get l (c.in-Undo.pid.0 - b.offset - 1)) c.deref.ensures.value ∙ rw on.begin here.2) in
    let top = root_here J b.kept.items b.trees.roots b.unfinished c.requires.book.0 c.in-Undo.pid.0 me is_me in
    let er = ap (λ (p : Pid). p.0) fam.1 in
    let off : c.add_all.new.self.offset ≡ offset J = c.add_all.ensures.base.0 ∙ on.begin in
    let mid_is : c.add_all.new.self.kept.items ≡ mid_undo J b.kept.items b.trees.roots b.unfinished c.requires.book.0 c.in-Undo.pid c.in-Undo._row c.in-Undo._out legal me is_me =
    c.add_all.ensures.kept ∙ rw (on.begin, c.requires.book.0.count, on.edition, made_is) refl in
    let roots_is : c.add_all.new.self.trees.roots ≡ roots_undo J b.kept.items b.trees.roots b.unfinished c.requires.book.0 c.in-Undo.pid c.in-Undo._row c.in-Undo._out legal me is_me =
    c.add_all.ensures.trees ∙ rw (on.begin, c.requires.book.0.count, on.edition, made_is) refl in
    let n = c.requires.book.0.count in
    let more = ap length mid_is ∙ count_more b.kept.items (made J) None (editions J) (args_in c.in-Undo._out.followers) in
    let left_is : c.args.nothing_left ≡ is_empty (stack (entry_is.Undo c.in-Undo.pid c.in-Undo._row c.in-Undo._out ∷ c.args.past.now.entries) (tree_of c.args.past.now.entries (entry_is.Undo c.in-Undo.pid c.in-Undo._row c.in-Undo._out))) = c.requires.left ∙ ap (λ (e : Entry). is_empty (stack (e ∷ c.args.past.now.entries) (tree_of c.args.past.now.entries e))) c.in-Undo.is in
    let shown : Shows (offset J) (mid_undo J b.kept.items b.trees.roots b.unfinished c.requires.book.0 c.in-Undo.pid c.in-Undo._row c.in-Undo._out legal me is_me) c.show_phases.new.kept c.in-Undo.pid (parent_shown found.0.above) (pid_of found.0.root) c.args.nothing_left = rw (c.deref_mut.ensures.value, mid_is, fam.0, fam.1, off) at c.show_phases.ensures in
    let left = left_is ∙ ap (λ r. is_empty (stack (entry_is.Undo c.in-Undo.pid c.in-Undo._row c.in-Undo._out ∷ J) r)) (undo_tree c.in-Undo.pid c.in-Undo._row c.in-Undo._out J legal me is_me) in
    let new_long = undo_long J b.kept.items b.trees.roots b.unfinished c.requires.book.0 c.in-Undo.pid c.in-Undo._row c.in-Undo._out legal me is_me c.show_phases.new.kept c.args.nothing_left left shown in
    let once = written c.add_all.new.self.kept.items c.show_phases.new.kept c.add_all.new.self.kept.len (new_long ∙ sym (ap length mid_is)) (omega (arith, c.add_all.new.self.kept.ok.0)) in
    let told : (k : Tracked) → slice_get c.show_phases.new.kept (found.0.root - offset J - 1) ≡ Some k → c.has_ended-over.result ≡ has_ended k = λ k at. c.has_ended-over.ensures k (rw (er, off) (ap (λ l. slice_get l (me.root - offset J - 1)) (c.deref-2.ensures.value ∙ once) ∙ at)) in
    let m = ap length (c.as_slice.ensures ∙ made_is) in
    let same = c.add_all.ensures.unfinished in
    let rest = c.less_if-self.ensures in
    let same_long = elders_long J c.requires.book.0.legal b.siblings.roots c.requires.book.1 (kept_at J) b.kept.items c.requires.book.0.kept_are in
    let long : offset J + length b.siblings.roots ≡ made J = omega (arith, same_long, n) in
    λ is. (
      rw (c.in-Undo.is, once, roots_is) (undo_kept J b.kept.items b.trees.roots b.unfinished c.requires.book.0 c.in-Undo.pid c.in-Undo._row c.in-Undo._out legal me is_me c.show_phases.new.kept c.args.nothing_left c.has_ended-over.result c.less_if-self.result left shown told (omega (arith, rest, same, m))),
      rw (c.in-Undo.is, c.add_all.ensures.siblings, made_is, on.begin, n) (elders_undo J c.requires.book.0.legal b.siblings.roots c.requires.book.1 long c.in-Undo.pid c.in-Undo._row c.in-Undo._out legal),
      rw c.in-Undo.is (still_based J (entry_is.Undo c.in-Undo.pid c.in-Undo._row c.in-Undo._out ∷ J) b _ refl refl refl on c.add_all.ensures.base),
    )
