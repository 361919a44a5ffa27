use Rattle.std.proofs.Common.{◌≡◌, ℕ, ◌+◌, [], ◌∷◌, ◌++◌, length, map, arith, ap, sym, subst, ◌∙◌}
use Rattle.std.proofs.lemmas.List.{length_push}
use Rattle.std.proofs.lemmas.Iterator.Adapters.{YieldsList-from_vec}
use Rattle.std.proofs.lemmas.Iterator.Consumers.{YieldsList-turn}
use Rattle.hm_procedures.specs.Book.{HasElder}
use Rattle.hm_procedures.specs.Changes.{added, elder_by}
use Rattle.hm_procedures.specs.Kept.{root_shown}
use Rattle.hm_procedures.proofs.Elders.{elder_next, elders_more, elders_next}
use Rattle.hm_procedures.proofs.Needs.{roots_more, roots_still}
use Rattle.hm_procedures.specs.declared.book.Book.{Book}
use Rattle.hm_procedures.proofs.Places.{added_next, long_now, roots_next}
use Rattle.hm_procedures.proofs.book.Book.add_all.Goals as goal

pub add-requires-clause-room : goal.add-requires-clause-room
add-requires-clause-room c =
    let b = c.into_iter-args-iterator.ensures.into_iter_gives in
    let turn = YieldsList-turn (YieldsList-from_vec {s = c.into_iter-args-iterator.result} c.args.made (b.0 ∙ c.into_vec-args-items.ensures) (b.1 ∙ c.into_vec-args-items.result.ok.0 ∙ ap length c.into_vec-args-items.ensures)) c.loop-args.yielded c.loop-args.args-iterator c.loop-args.yielded_by c.next.result c.next.new.self c.in-Some.args c.in-Some.is c.next.ensures.steps in
    omega (arith, turn.0, c.loop-args.invariant.spare, c.requires.room)

pub add-requires-clause-count : goal.add-requires-clause-count
add-requires-clause-count c = roots_more c.args.self.now.offset c.args.self.now.trees.roots c.args.self.now.kept.items c.args.up c.args.edition c.loop-args.yielded c.loop-args.self.trees.roots c.loop-args.self.kept.items c.requires.count c.loop-args.invariant.trees c.loop-args.invariant.kept

pub add-requires-clause-siblings : goal.add-requires-clause-siblings
add-requires-clause-siblings c = elders_more c.args.self.now.offset c.args.self.now.siblings.roots c.args.self.now.kept.items c.args.up c.args.edition c.args.eldest c.loop-args.yielded c.loop-args.self.siblings.roots c.loop-args.self.kept.items c.requires.siblings c.loop-args.invariant.siblings c.loop-args.invariant.kept

pub add-requires-clause-root : goal.add-requires-clause-root
add-requires-clause-root c =
    rw c.loop-args.invariant.base.0 (roots_still c.args.self.now.offset c.args.up c.args.self.now.trees.roots (map root_shown (added (c.args.self.now.offset + length c.args.self.now.kept.items) c.args.up c.args.edition c.loop-args.yielded)) c.loop-args.self.trees.roots c.loop-args.invariant.trees c.requires.root)

pub loop-args-preserved : goal.loop-args-preserved
loop-args-preserved c =
    let old : Book = c.args.self.now in
    let base = c.loop-args.invariant.base in
    let low : ℕ = old.offset in
    let long : c.loop-args.self.offset + length c.loop-args.self.kept.items ≡ low + length old.kept.items + length c.loop-args.yielded = ap (λ n. n + length c.loop-args.self.kept.items) base.0 ∙ long_now low old.kept.items c.args.up c.args.edition c.loop-args.yielded c.loop-args.self.kept.items c.loop-args.invariant.kept in
    let same = elders_more low old.siblings.roots old.kept.items c.args.up c.args.edition c.args.eldest c.loop-args.yielded c.loop-args.self.siblings.roots c.loop-args.self.kept.items c.requires.siblings c.loop-args.invariant.siblings c.loop-args.invariant.kept in
    let after = c.add.ensures.base in
    record {
      kept = c.add.ensures.kept ∙ ap (λ n. c.loop-args.self.kept.items ++ added (n + length c.loop-args.self.kept.items) c.args.up c.args.edition (c.in-Some.args ∷ [])) base.0 ∙ added_next low old.kept.items c.args.up c.args.edition c.loop-args.yielded c.in-Some.args c.loop-args.self.kept.items c.loop-args.invariant.kept;
      trees = c.add.ensures.trees ∙ roots_next old.trees.roots root_shown (low + length old.kept.items) c.args.up c.args.edition c.loop-args.yielded c.in-Some.args (c.loop-args.self.offset + length c.loop-args.self.kept.items) c.loop-args.self.trees.roots long c.loop-args.invariant.trees;
      siblings = c.add.ensures.siblings ∙ elders_next old.siblings.roots (low + length old.kept.items) c.args.eldest c.loop-args.yielded c.in-Some.args (c.loop-args.self.offset + length c.loop-args.self.kept.items) c.loop-args.self.siblings.roots long c.loop-args.invariant.siblings;
      elder = rw after.0 (subst (λ l. HasElder c.loop-args.self.offset l c.args.eldest) (sym (c.add.ensures.siblings ∙ ap (λ n. c.loop-args.self.siblings.roots ++ elder_by (c.loop-args.self.offset + n + 1) c.args.eldest ∷ []) (sym same))) (elder_next c.loop-args.self.offset c.loop-args.self.siblings.roots c.args.eldest c.loop-args.invariant.elder));
      unfinished = c.add.ensures.unfinished ∙ c.loop-args.invariant.unfinished;
      base = (after.0 ∙ base.0, after.1 ∙ base.1, after.2 ∙ base.2, after.3 ∙ base.3, after.4 ∙ base.4);
      spare = omega (arith, c.add.ensures.spare, c.loop-args.invariant.spare, length_push c.loop-args.yielded c.in-Some.args);
      room = c.add.ensures.room ∙ c.loop-args.invariant.room;
    }
