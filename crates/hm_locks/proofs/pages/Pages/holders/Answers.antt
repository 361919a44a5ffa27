use Rattle.std.proofs.Common.{◌≡◌, ◌++◌, ◌∷◌, [], Some, None, sym, ap, ◌∙◌, subst, append_assoc, append-nil}
use Rattle.std.specs.List.{filter_map}
use Rattle.std.specs.Option.{option_copied}
use Rattle.hm_lists.specs.Chains.{list_at}
use Rattle.hm_model.specs.Tree.{pid_of}
use Rattle.hm_locks.specs.Book.{AreHolders}
use Rattle.hm_locks.specs.Entries.{rows_of}
use Rattle.hm_locks.specs.Kept.{entry_at}
use Rattle.hm_locks.proofs.Holders.{holders_are, pid_at, pids_next}
use Rattle.hm_locks.proofs.pages.Pages.holders.Goals as goal

pub loop-place-preserved-in-Continue-1 : goal.loop-place-preserved-in-Continue-1
loop-place-preserved-in-Continue-1 c =
    let p = c.args.self.now in
    let es = p.entries.items in
    let pid = pid_of c.in-Some-entry_at.entry.now.pid in
    let rest = filter_map (pid_at es) c.next.new.self in
    let is = sym (c.entry_at.ensures ∙ ap (λ xs. entry_at xs c.in-Some.place) c.deref.ensures.value) ∙ ap option_copied c.in-Some-entry_at.is in
    ap (λ l. l ++ rest) c.in_ok-push.ensures.items ∙ append_assoc c.loop-place.pids.items (pid ∷ []) rest
    ∙ pids_next es c.loop-place.pids.items (filter_map (pid_at es) (list_at p.held.lists 0)) c.in-Some.place c.loop-place.place-iterator c.next.new.self (Some c.in-Some-entry_at.entry.now) is c.in-Some.ensures.steps c.loop-place.invariant

pub loop-place-preserved : goal.loop-place-preserved
loop-place-preserved c =
    let p = c.args.self.now in
    let es = p.entries.items in
    let is = sym (c.entry_at.ensures ∙ ap (λ xs. entry_at xs c.in-Some.place) c.deref.ensures.value) ∙ ap option_copied c.in_default.is in
    pids_next es c.loop-place.pids.items (filter_map (pid_at es) (list_at p.held.lists 0)) c.in-Some.place c.loop-place.place-iterator c.next.new.self None is c.in-Some.ensures.steps c.loop-place.invariant

pub returns : goal.returns
returns c =
    let p = c.args.self.now in
    let es = p.entries.items in
    let all = filter_map (pid_at es) (list_at p.held.lists 0) in
    let is : c.loop-place.pids.items ≡ all =
    sym (append-nil c.loop-place.pids.items) ∙ ap (λ ns. c.loop-place.pids.items ++ filter_map (pid_at es) ns) (sym c.in-None.ensures.steps.0) ∙ c.loop-place.invariant in
    subst (AreHolders (rows_of p)) (sym is) (holders_are p.places.pairs es c.requires.kept.index p.held.lists p.held.spare c.requires.held (c.list_of-list.ensures.apart.once 0))
