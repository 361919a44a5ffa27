use Rattle.std.proofs.Common.{◌≡◌, ◌+◌, ◌≤◌, ◌++◌, length, map}
use Rattle.hm_procedures.specs.Book.{HasElder, SameBase, room_of, spare_of}
use Rattle.hm_procedures.specs.Changes.{added, elders}
use Rattle.hm_procedures.specs.Kept.{root_shown}
use Rattle.hm_procedures.proofs.book.Book.add_all.Given as goal

abbrev pub invariant-loop-args : goal.invariant-loop-args
invariant-loop-args l = record {
  kept : l.self.kept.items ≡ l.fn.self.kept.items ++ added (l.fn.self.offset + length l.fn.self.kept.items) l.fn.up l.fn.edition l.yielded;
  trees : l.self.trees.roots ≡ l.fn.self.trees.roots ++ map root_shown (added (l.fn.self.offset + length l.fn.self.kept.items) l.fn.up l.fn.edition l.yielded);
  siblings : l.self.siblings.roots ≡ l.fn.self.siblings.roots ++ elders (l.fn.self.offset + length l.fn.self.kept.items) l.fn.eldest l.yielded;
  elder : HasElder l.self.offset l.self.siblings.roots l.fn.eldest;
  unfinished : l.self.unfinished ≡ l.fn.self.unfinished;
  base : SameBase l.fn.self l.self;
  spare : spare_of l.fn.self ≤ spare_of l.self + length l.yielded;
  room : room_of l.self ≡ room_of l.fn.self;
}
