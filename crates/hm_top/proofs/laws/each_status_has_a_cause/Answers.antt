use Rattle.std.proofs.Common.{ap, refl, ◌∙◌}
use Rattle.std.specs.Prelude.{Ok}
use Rattle.hm_top.specs.Ports.{disk_use, sink_use, source_use}
use Rattle.hm_top.specs.Run.{Run}
use Rattle.hm_top.specs.Words.{misfit_in}
use Rattle.hm_top.proofs.Complete.{bad_in, fault_in, full_in, ran_out, read_in, write_in}
use Rattle.hm_top.proofs.laws.each_status_has_a_cause.Goals as goal

pub returns-clause-usage : goal.returns-clause-usage
returns-clause-usage g c word words limits s0 s1 k0 k1 d0 d1 hands marks keeps = ap misfit_in keeps.ends.0

pub returns-clause-bad_script : goal.returns-clause-bad_script
returns-clause-bad_script g c bad words limits s0 s1 k0 k1 d0 d1 hands marks keeps =
    let run : Run = record { words = words; limits = limits; script = source_use g.S.Source s0 s1; out = sink_use g.K.Sink k0 k1; disk = disk_use g.D.Disk d0 d1; hands = hands; marks = marks } in
    let found = bad_in run keeps.ends.0 bad keeps.ends.2 in
    (keeps.ends.1 ∙ ap Ok found.0, λ told. (found.1.1 told).0)

pub returns-clause-log_fault : goal.returns-clause-log_fault
returns-clause-log_fault g c words limits s0 s1 k0 k1 d0 d1 hands marks keeps =
    let run : Run = record { words = words; limits = limits; script = source_use g.S.Source s0 s1; out = sink_use g.K.Sink k0 k1; disk = disk_use g.D.Disk d0 d1; hands = hands; marks = marks } in
    fault_in run keeps.ends.0 keeps.ends.2

pub returns-clause-log_refused : goal.returns-clause-log_refused
returns-clause-log_refused g c why form journal words limits s0 s1 k0 k1 d0 d1 hands marks keeps asked told on fits = keeps.accepts form asked told journal on fits why refl

pub returns-clause-read_fault : goal.returns-clause-read_fault
returns-clause-read_fault g c words limits s0 s1 k0 k1 d0 d1 hands marks keeps =
    let run : Run = record { words = words; limits = limits; script = source_use g.S.Source s0 s1; out = sink_use g.K.Sink k0 k1; disk = disk_use g.D.Disk d0 d1; hands = hands; marks = marks } in
    read_in run keeps.ends.0 keeps.ends.2

pub returns-clause-write_fault : goal.returns-clause-write_fault
returns-clause-write_fault g c words limits s0 s1 k0 k1 d0 d1 hands marks keeps =
    let run : Run = record { words = words; limits = limits; script = source_use g.S.Source s0 s1; out = sink_use g.K.Sink k0 k1; disk = disk_use g.D.Disk d0 d1; hands = hands; marks = marks } in
    write_in run keeps.ends.0 keeps.ends.2

pub returns-clause-journal_full : goal.returns-clause-journal_full
returns-clause-journal_full g c bytes words limits s0 s1 k0 k1 d0 d1 hands marks keeps =
    let run : Run = record { words = words; limits = limits; script = source_use g.S.Source s0 s1; out = sink_use g.K.Sink k0 k1; disk = disk_use g.D.Disk d0 d1; hands = hands; marks = marks } in
    full_in run keeps.ends.0 bytes keeps.ends.2

pub returns-clause-memory : goal.returns-clause-memory
returns-clause-memory g c words limits s0 s1 k0 k1 d0 d1 hands marks keeps =
    let run : Run = record { words = words; limits = limits; script = source_use g.S.Source s0 s1; out = sink_use g.K.Sink k0 k1; disk = disk_use g.D.Disk d0 d1; hands = hands; marks = marks } in
    (keeps.ends.0, keeps.ends.1, ran_out run keeps.ends.0 keeps.ends.2)
