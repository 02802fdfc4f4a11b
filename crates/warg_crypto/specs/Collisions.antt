-- Two byte strings of one digest.
use Rattle.std.specs.Prelude.{◌≡◌, ℕ, List, length}
use Rattle.std.specs.List.{AllByRecursion}
use Rattle.warg_crypto.specs.Digests.{IsDigest}

-- Every digest is 32 bytes.
abbrev pub GivesHashes : (List ℕ → List ℕ) → Type 0
GivesHashes H = (m : List ℕ) → IsDigest (H m)

-- Each of these byte lists has 32 bytes.
abbrev pub AreHashes : List (List ℕ) → Type 0
AreHashes ds = AllByRecursion (λ d. length d ≡ 32) ds

-- Two byte lists that differ and have one digest.
pub record Collides (H : List ℕ → List ℕ) (pair : List ℕ × List ℕ) : Type 0 where
  pub differ : pair.0 ≡ pair.1 → ⊥
  pub same : H pair.0 ≡ H pair.1

-- Two byte lists that collide, and stand where P says. Under every function to 32 bytes some two collide, as there are more
-- byte lists than digests: so a law says something only by its P, which names where the two stand.
pub record SomeCollision (H : List ℕ → List ℕ) (P : List ℕ → List ℕ → Type 0) : Type 0 where
  pub first : List ℕ
  pub second : List ℕ
  pub collide : Collides H (first, second)
  pub placed : P first second
