use Rattle.hm_model.proofs.GoingBack.{all_is_undone, undos_are_last, undos_go_back}
use Rattle.hm_model.proofs.LeadsBack.{undo_leads_back}
use Rattle.hm_model.proofs.laws.undos_go_back.Goals as goal

pub returns-clause-order : goal.returns-clause-order
returns-clause-order c = undos_go_back

pub returns-clause-all : goal.returns-clause-all
returns-clause-all c = all_is_undone

pub returns-clause-last : goal.returns-clause-last
returns-clause-last c = undos_are_last

pub returns-clause-edits : goal.returns-clause-edits
returns-clause-edits c = λ edits now told key. undo_leads_back edits now key told
