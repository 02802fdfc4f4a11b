use Rattle.std.proofs.Common.{refl}
use Rattle.warg_pages.proofs.LoneSlots.{lone_over}
use Rattle.warg_pages.proofs.laws.lone_slot.Goals as goal

pub returns : goal.returns
returns c = λ H es prefix s x key leaf h is. lone_over H es _ s _ x key leaf refl h is
