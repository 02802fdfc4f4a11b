use Rattle.std.proofs.Common.{◌∙◌, ◌++◌, codes, refl}
use Rattle.hex.specs.Hex.{encode_lower}
use Rattle.warg_program.specs.Orders.{absent}
use Rattle.warg_program.proofs.MapLemmas.{absent_said, present_said}
use Rattle.warg_program.proofs.TextLemmas.{told}
use Rattle.warg_program.proofs.session.Session.say_absent.Goals as goal

pub returns-in-Some : goal.returns-in-Some
returns-in-Some g c =
    told c.args.self.now c.say_root.new.self (absent c.args.key.now.items)
    (codes "empty " ++ encode_lower c.evaluate_absent.result) c.say_root.result
    (λ s at. absent_said s _ _ _ _ _ _ at.map_is (c.in_ok-copy.ensures.items ∙ c.as_slice.ensures.value)
    c.in-Some.is c.in_ok-absence.ensures.empty c.in_ok-absence.ensures.peers c.evaluate_absent.ensures) (λ s. refl)
    (λ s full. full) c.say_root.ensures

pub returns-in-None : goal.returns-in-None
returns-in-None g c =
    told c.args.self.now c.say.new.self (absent c.args.key.now.items) (codes "refused present") c.say.result
    (λ s at. present_said s _ _ _ _ at.map_is (c.in_ok-copy.ensures.items ∙ c.as_slice.ensures.value) c.in-None.is
    c.in_ok-absence.ensures.empty) (λ s. refl) (λ s full. full) c.say.ensures
