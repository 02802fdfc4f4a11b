-- Tiles with their digests, as pairs and as they are.
use Rattle.std.proofs.Common.{List, [], ◌∷◌, map}
use Rattle.std.specs.List.{AllByRecursion}

-- what holds of the pairs that values are seen as holds of the values
pub all_seen : {X A : Type 0} (P : A → Type 0) (f : X → A) (xs : List X) → AllByRecursion P (map f xs)
    → AllByRecursion (λ x. P (f x)) xs
all_seen P f [] all = tt
all_seen P f (x ∷ xs) all = (all.0, all_seen P f xs all.1)
