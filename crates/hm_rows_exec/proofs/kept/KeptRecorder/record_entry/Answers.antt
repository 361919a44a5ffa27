use Rattle.std.proofs.Common.{◌<◌, ◌^◌, rules}
use Rattle.hm_rows_exec.proofs.Baseless.{baseless_on, copy_told, fit_on, sized_on}
use Rattle.hm_rows_exec.proofs.kept.KeptRecorder.record_entry.Goals as goal

pub invariant_of-self-2 : goal.invariant_of-self-2
invariant_of-self-2 c =
    let f = c.self.inside in
    let copy = c.in-Some-take.copy in
    let small : f.hard < 2 ^ 64 = search rules in
    let told = copy_told f.copy c.take.result copy c.take.ensures.value c.in-Some-take.is c.self.invariant.copied in
    record {
      fits = fit_on f.entries.items copy c.push_reserved.new.self.items c.self.invariant.fits told.fits c.push_reserved.ensures.items;
      baseless = baseless_on f.entries.items copy c.push_reserved.new.self.items (c.parts_stand_first.ensures.behind f.entries.items copy told.other) c.self.invariant.baseless c.push_reserved.ensures.items;
      sized = sized_on f.entries.items copy c.push_reserved.new.self.items f.bytes c.length.result f.hard c.self.invariant.sized c.length.ensures small told.accepted.1 c.push_reserved.ensures.items;
      copied = search rules;
      refused = search rules;
    }
