-- When two collisions are one.
use Rattle.std.specs.Prelude.{Bool, nat_eq, List, ℕ}
use Rattle.std.specs.Ordering.{on, eq_of_both}
use Rattle.std.specs.Cmp.Lexicographic.{pointwise}

-- Whether two pairs of byte strings are one: the first with the first, and the second with the second.
abbrev pub same_collision : List ℕ × List ℕ → List ℕ × List ℕ → Bool
same_collision = eq_of_both (on (λ (p : List ℕ × List ℕ). p.0) (pointwise nat_eq)) (on (λ (p : List ℕ × List ℕ). p.1) (pointwise nat_eq))
