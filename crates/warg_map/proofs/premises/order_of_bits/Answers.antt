use Rattle.std.proofs.Common.{◌≡◌, [], ◌∷◌}
use Rattle.std.specs.declared.cmp.Ordering.TheVariants.{Equal, Less, Greater}
use Rattle.warg_map.specs.Bits.{bits_from}
use Rattle.warg_crypto.proofs.ForCallers.{zeros_are}
use Rattle.warg_map.proofs.PremiseLemmas.{short}
use Rattle.warg_map.proofs.premises.order_of_bits.Goals as goal

pub returns-clause-first : goal.returns-clause-first
unfolding bits_from
returns-clause-first c = λ law. let order : Equal ≡ Less = law short [] (0 ∷ []) zeros_are in cc

pub returns-clause-second : goal.returns-clause-second
unfolding bits_from
returns-clause-second c = λ law. let order : Equal ≡ Greater = law short (0 ∷ []) [] zeros_are in cc
