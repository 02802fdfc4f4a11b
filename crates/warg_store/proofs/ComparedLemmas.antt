-- Files that are compared, one after the other.
use Rattle.std.proofs.Common.{◌≡◌, ℕ, ◌+◌, ◌<◌, List, ◌∷◌, [], length, map, take, get_or}
use Rattle.std.specs.List.{AllByRecursion}
use Rattle.warg_store.proofs.ListLemmas.{next_mapped}
use Rattle.warg_protobuf.proofs.ForCallers.{all_append}

-- one more has what those before it have
pub all_more : {X Y : Type 0} (P : Y → Type 0) (f : X → Y) (xs : List X) (i : ℕ) (x : X) → i < length xs
    → x ≡ get_or xs i x → AllByRecursion P (map f (take i xs)) → P (f x) → AllByRecursion P (map f (take (i + 1) xs))
all_more P f xs i x below is so_far here = rw (next_mapped f xs i x below is)
    (all_append P (map f (take i xs)) (f x ∷ []) so_far (here, tt))
