use Rattle.std.proofs.Common.{◌≡◌, ℕ, ◌+◌, ◌≤◌, [], ◌∷◌, length, ap, sym, subst, ◌∙◌, arith}
use Rattle.hm_data.specs.declared.entry.Entry.{Entry}
use Rattle.hm_model.specs.Journal.{Past}
use Rattle.hm_undo.specs.Laws.{Tells}
use Rattle.hm_procedures.specs.Kept.{args_made}
use Rattle.hm_records.specs.Book.{AreRows, asks_in, asks_of}
use Rattle.hm_records.specs.Parts.{size_of}
use Rattle.hm_records.specs.Records.{AreForgotten, AreRecords, Beside, RecordsView, is_open}
use Rattle.hm_records.proofs.Drafts.{asks_same, drafts_count}
use Rattle.hm_records.proofs.Whole.{least_within, made_count, named_more}
use Rattle.hm_records.proofs.records.Records.enter.Goals as goal

pub invariant_of-self : goal.invariant_of-self
invariant_of-self c =
    let J : Past = c.self.inside.procedures.past in
    let entry : Entry = c.args.entry.now in
    let same : J ≡ c.args.self.now.past = ap (λ (v : RecordsView). v.past) c.self.view_is in
    let after : c.enter_tree.new.procedures.past ≡ entry ∷ J = c.enter_tree.ensures.past in
    let beside : Beside = record {
      rows = c.set_rows.new.catalog.rows;
      stacks = c.enter_tree.new.stack.stacks;
      places = c.set_place.new.places.places;
      servers = c.set_servers.new.servers.servers;
      nonces = c.add_nonce.new.nonces.pairs;
      drawn_ids = c.count_ids.new.drawn.pairs;
      sheets = c.enter.new.self.sheets;
      layouts = c.enter.new.self.layouts;
      root_nonces = c.enter.new.self.root_nonces;
      book = c.release_ended.new.book.rows;
    } in
    subst (λ (l : Past). AreRecords l beside) (sym after) (record {
      begun = λ e. cc;
      named = named_more entry J c.entry_names.ensures c.self.invariant.named;
      rows_are = c.set_rows.ensures.rows;
      stacks_tell = subst (λ (l : Past). Tells (is_open l) l c.enter_tree.new.stack.stacks) after c.enter_tree.ensures.tells;
      stacks_forget = subst (λ (l : Past). AreForgotten l c.enter_tree.new.stack.stacks) after c.enter_tree.ensures.forgotten;
      places_are = c.set_place.ensures.places;
      servers_are = c.set_servers.ensures.servers;
      nonces_are = c.add_nonce.ensures.nonces;
      drawn_are = c.count_ids.ensures.drawn;
      sheets_are = c.enter.ensures.editions;
      layouts_are = c.enter.ensures.layouts;
      root_nonces_are = c.enter.ensures.root_nonces;
      book_is = subst (λ (l : Past). AreRows l c.release_ended.new.book.rows) after (c.release_ended.ensures.rows J after c.tree_of-tree.ensures c.enlist_made.ensures.rows);
    })

pub returns-clause-spare : goal.returns-clause-spare
returns-clause-spare c =
    let f = c.self.inside in
    let J : Past = c.args.self.now.past in
    let entry : Entry = c.args.entry.now in
    let made_is = ap length c.requires.parts.made ∙ made_count J entry in
    let edits_are = ap length c.requires.parts.edits in
    let size : ℕ = size_of entry in
    let procedures : f.procedures.spare ≤ c.enter_tree.new.procedures.spare + size = omega (arith, c.enter_tree.ensures.procedure_spare, made_is) in
    let catalog : f.catalog.spare ≤ c.set_rows.new.catalog.spare + size = omega (arith, c.set_rows.ensures.spare, edits_are) in
    let stack : f.stack.spare ≤ c.enter_tree.new.stack.spare + size = omega (arith, c.enter_tree.ensures.step_spare) in
    let places : f.places.spare ≤ c.set_place.new.places.spare + size = omega (arith, c.set_place.ensures.spare) in
    let servers : f.servers.spare ≤ c.set_servers.new.servers.spare + size = omega (arith, c.set_servers.ensures.spare) in
    let nonces : f.nonces.spare ≤ c.add_nonce.new.nonces.spare + size = omega (arith, c.add_nonce.ensures.spare) in
    let drawn : f.drawn.spare ≤ c.count_ids.new.drawn.spare + size = omega (arith, c.count_ids.ensures.spare) in
    let drafts : length (let parts = c.args.parts in let drafts = parts.drafts in let list = drafts.list in list.items) ≤ length (args_made [] entry) = (let same = ap length c.requires.parts.drafts in let few = drafts_count J entry in omega (arith, same, few)) in
    let asks : asks_in (let parts = c.args.parts in let drafts = parts.drafts in let list = drafts.list in list.items) ≡ asks_of entry = ap asks_in c.requires.parts.drafts ∙ asks_same entry J c.requires.legal.0 in
    let lists : f.lists.spare ≤ c.enter.new.self.spare + size = (let count = ap length c.as_slice.ensures in omega (arith, c.enter.ensures.spare, made_is, count)) in
    let book : f.book.spare ≤ c.release_ended.new.book.spare + size = omega (arith, c.enlist_made.ensures.spare, c.release_ended.ensures.spare.0, drafts) in
    let more : f.book.spare_asks ≤ c.release_ended.new.book.spare_asks + size = omega (arith, c.enlist_made.ensures.asks, c.release_ended.ensures.spare.1, asks) in
    let least = least_within size in
    let all = least _ _ _ _ (least _ _ _ _ procedures catalog) (least _ _ _ _ (least _ _ _ _ stack places) (least _ _ _ _ (least _ _ _ _ servers (least _ _ _ _ nonces drawn)) (least _ _ _ _ lists (least _ _ _ _ book more)))) in
    rw (sym (ap (λ (v : RecordsView). v.spare) c.self.view_is)) all

pub enlist_made-requires-clause-spare : goal.enlist_made-requires-clause-spare
enlist_made-requires-clause-spare c =
    let J : Past = c.args.self.now.past in
    let entry : Entry = c.args.entry.now in
    let same = ap length c.requires.parts.drafts in
    let count = drafts_count J entry in
    let spare = ap (λ (v : RecordsView). v.spare) c.self.view_is in
    let room = c.requires.room in
    omega (arith, same, count, spare, room)

pub enlist_made-requires-clause-asks : goal.enlist_made-requires-clause-asks
enlist_made-requires-clause-asks c =
    let J : Past = c.args.self.now.past in
    let entry : Entry = c.args.entry.now in
    let count = ap asks_in c.requires.parts.drafts ∙ asks_same entry J c.requires.legal.0 in
    let spare = ap (λ (v : RecordsView). v.spare) c.self.view_is in
    let room = c.requires.room in
    omega (arith, count, spare, room)
