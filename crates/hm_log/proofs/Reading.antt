-- Calls that only read, one after the other.
use Rattle.std.proofs.Common.{◌∙◌, arith}
use Rattle.hm_disk.specs.declared.disk.Disk as Disk
use Rattle.hm_disk.proofs.Moments.{joined, weaker}
use Rattle.hm_log.specs.Opening.{OnlyReads}

pub reads_then : {D Setting : Type 0} (disk : Disk.Ghosts D Setting) (old mid new : D) → OnlyReads disk old mid → OnlyReads disk mid new → OnlyReads disk old new
reads_then disk old mid new first second = record {
  untouched = record {
    reads = second.untouched.reads ∙ first.untouched.reads;
    images = λ c image. first.untouched.images c (second.untouched.images c image);
    count = second.untouched.count ∙ first.untouched.count;
  };
  stays = λ c image. second.stays c (first.stays c image);
  moment = second.moment ∙ first.moment;
  leaves =
      joined disk.moment disk.left_since old mid new (disk.image old) first.leaves
      (weaker disk.moment disk.left_since mid new (disk.image mid) (disk.image old) first.untouched.images second.leaves);
  called = record {
    fault = omega (arith, first.called.fault, second.called.fault);
    later = omega (arith, first.called.later, second.called.later);
    changes = omega (arith, first.called.changes, second.called.changes);
    setting = second.called.setting ∙ first.called.setting;
  };
}
