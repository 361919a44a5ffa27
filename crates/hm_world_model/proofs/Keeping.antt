-- Entries, and what happens outside, keep what is kept for one journal.
use Rattle.hm_world_model.specs.Kept.{EntriesKeep, OutsideKeeps}
use Rattle.hm_world_model.proofs.Appending.{safe_append}
use Rattle.hm_world_model.proofs.From.{safe_arm, safe_die, safe_send, safe_start}
use Rattle.hm_world_model.proofs.Storing.{safe_deliver}

pub entries_keep : EntriesKeep
entries_keep J o safe entry allowed true_report = safe_append entry J (safe.legal, allowed) o safe true_report

pub outside_keeps : OutsideKeeps
outside_keeps J o safe = (
  (λ call is. (safe_send J o call safe is, safe_deliver J o safe call is)),
  (λ server new. safe_start J o server safe new),
  (λ server. safe_die J o server safe),
  (λ peer count. safe_arm J o peer count safe),
)
