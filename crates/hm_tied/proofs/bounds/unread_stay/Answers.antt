use Rattle.hm_tied.proofs.Unread.{unread_stay}
use Rattle.hm_tied.proofs.bounds.unread_stay.Goals as goal

pub returns : goal.returns
returns c = unread_stay
