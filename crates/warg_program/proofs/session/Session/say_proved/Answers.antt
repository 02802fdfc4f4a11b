use Rattle.std.proofs.Common.{◌∙◌, ◌++◌, ◌≤◌, codes, length, refl, rules}
use Rattle.hex.specs.Hex.{encode_lower}
use Rattle.warg_program.specs.Orders.{prove}
use Rattle.warg_program.proofs.MapLemmas.{proved_said, unproved_said}
use Rattle.warg_program.proofs.TextLemmas.{told}
use Rattle.warg_program.proofs.session.Session.say_proved.Goals as goal

pub returns-in-Some : goal.returns-in-Some
returns-in-Some g c =
    let proves = rw c.in-Some.is at c.in_ok-proof.ensures.answer in
    let few : length c.in-Some.proof ≤ 256 = search rules in
    told c.args.self.now c.say_root.new.self (prove c.args.key.now.items c.args.value.now.items)
    (codes "root " ++ encode_lower c.evaluate.result) c.say_root.result
    (λ s at. proved_said s _ _ _ _ _ _ at.map_is (c.in_ok-copy.ensures.items ∙ c.as_slice.ensures.value) few proves
    c.evaluate.ensures) (λ s. refl) (λ s full. full) c.say_root.ensures

pub returns-in-None : goal.returns-in-None
returns-in-None g c =
    let lacks = rw c.in-None.is at c.in_ok-proof.ensures.answer in
    told c.args.self.now c.say.new.self (prove c.args.key.now.items c.args.value.now.items)
    (codes "absent") c.say.result (λ s at. unproved_said s _ _ _ _ at.map_is
    (c.in_ok-copy.ensures.items ∙ c.as_slice.ensures.value) lacks) (λ s. refl) (λ s full. full) c.say.ensures
