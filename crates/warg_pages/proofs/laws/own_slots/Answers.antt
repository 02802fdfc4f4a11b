use Rattle.warg_pages.proofs.OwnPages.{own_slots}
use Rattle.warg_pages.proofs.laws.own_slots.Goals as goal

pub returns : goal.returns
returns c = own_slots
