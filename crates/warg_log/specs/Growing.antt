-- How a log grows.
use Rattle.std.specs.Prelude.{ℕ, List, ◌++◌}

-- Whatever leaf digests the log stood for, it now stands for these and then for the new ones.
abbrev pub Appends : {Log : Type 0} → (Log → List (List ℕ) → Type 0) → Log → Log → List (List ℕ) → Type 0
Appends stands_for old new leaves = (ds : List (List ℕ)) → stands_for old ds → stands_for new (ds ++ leaves)
