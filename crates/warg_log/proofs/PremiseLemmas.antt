-- What refutes a law without one of its premises.
use Rattle.std.proofs.Common.{ℕ, List, [], Option, Some, None, arith}
use Rattle.std.proofs.lemmas.Nat.{pow_pos}
use Rattle.warg_log.specs.Cut.{IsFull}

-- Each byte string is its own digest.
abbrev pub own : List ℕ → List ℕ
own m = m

-- No digest, and no bytes everywhere.
abbrev pub nothing : ℕ → Option (List ℕ)
nothing node = None

abbrev pub empty_everywhere : ℕ → Option (List ℕ)
empty_everywhere node = Some []

-- 0 is no power of two
pub not_full : ¬ IsFull 0
not_full (h, is) = omega (arith, pow_pos h, is)
