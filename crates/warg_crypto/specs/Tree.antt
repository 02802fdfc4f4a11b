-- The leaves and branches of both trees (RFC 6962, section 2.1), over any digest function H.
use Rattle.std.specs.Prelude.{ℕ, Bool, cond, List, ◌∷◌, ◌++◌, Option, Some, None}

-- The bytes of a leaf: 00 and the value's.
abbrev pub leaf_input : List ℕ → List ℕ
leaf_input value = 0 ∷ value

-- The digest of a leaf.
abbrev pub leaf_digest : (List ℕ → List ℕ) → List ℕ → List ℕ
leaf_digest H value = H (leaf_input value)

-- The bytes of a branch: 01, the left digest and the right one.
abbrev pub branch_input : List ℕ → List ℕ → List ℕ
branch_input left right = 1 ∷ left ++ right

-- The digest of a branch.
abbrev pub branch : (List ℕ → List ℕ) → List ℕ → List ℕ → List ℕ
branch H left right = H (branch_input left right)

-- The bytes of the branch over a digest x on the side of a bit, 0 on the left, and the digest beside it.
abbrev pub input_beside : Bool → List ℕ → List ℕ → List ℕ
input_beside bit beside x = branch_input (cond bit beside x) (cond bit x beside)

-- What two digests make, where both are there.
abbrev pub where_both : (List ℕ → List ℕ → List ℕ) → Option (List ℕ) → Option (List ℕ) → Option (List ℕ)
where_both make (Some left) (Some right) = Some (make left right)
where_both make _ _ = None
