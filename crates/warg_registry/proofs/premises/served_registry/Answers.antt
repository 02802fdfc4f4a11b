use Rattle.std.proofs.Common.{[], ◌∷◌, None, refl, arith}
use Rattle.std.proofs.lemmas.List.Elements.{All-nil}
use Rattle.warg_crypto.specs.Digests.{IsByte}
use Rattle.warg_map.specs.Bits.{bits_from}
use Rattle.warg_map.specs.Last.{last_with}
use Rattle.warg_registry.proofs.premises.served_registry.Goals as goal

pub returns-clause-checkpoint : goal.returns-clause-checkpoint
returns-clause-checkpoint c = λ law. (let e = (law [] [] (λ n. None)).1 in cc e)

pub returns-clause-pages : goal.returns-clause-pages
unfolding last_with bits_from
returns-clause-pages c = λ law. (let e = law (([], []) ∷ []) (λ n. None) [] (All-nil IsByte) (omega arith) refl in cc e)
