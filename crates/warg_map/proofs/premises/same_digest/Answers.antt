use Rattle.std.proofs.Common.{[], ◌∷◌, refl}
use Rattle.warg_map.specs.Bits.{bits_from}
use Rattle.warg_crypto.proofs.ForCallers.{zeros_are, ones_are}
use Rattle.warg_map.proofs.PremiseLemmas.{short, apart}
use Rattle.warg_map.proofs.premises.same_digest.Goals as goal

pub returns-clause-first : goal.returns-clause-first
unfolding bits_from
returns-clause-first c = λ law. cc (law short [] (0 ∷ []) zeros_are refl)

pub returns-clause-second : goal.returns-clause-second
unfolding bits_from
returns-clause-second c = λ law. cc (law short (0 ∷ []) [] zeros_are refl)

pub returns-clause-bits : goal.returns-clause-bits
returns-clause-bits c = λ law. cc (law apart [] (0 ∷ []) zeros_are ones_are)
