use Rattle.hm_hall.proofs.Stopping.{carry_sheets, give_sheets, put_back_sheets, take_sheets}
use Rattle.hm_hall.proofs.laws.sheets_stay.Goals as goal

pub returns-clause-take : goal.returns-clause-take
returns-clause-take c = take_sheets

pub returns-clause-give : goal.returns-clause-give
returns-clause-give c = give_sheets

pub returns-clause-back : goal.returns-clause-back
returns-clause-back c = put_back_sheets

pub returns-clause-carry : goal.returns-clause-carry
returns-clause-carry c = carry_sheets
