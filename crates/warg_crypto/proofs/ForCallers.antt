-- What proofs of other crates use.
use Rattle.std.proofs.Common.{◌≡◌, ℕ, Bool, true, false, cond, List, [], ◌∷◌, length, All, ◌⊎◌, inl, inr, nat_eq, ◌++◌, refl, arith}
use Rattle.std.specs.Prelude.{replicate}
use Rattle.std.specs.Cmp.Lexicographic.{pointwise, bytes_decides}
use Rattle.std.proofs.lemmas.Bool.{cases_Bool}
use Rattle.std.proofs.lemmas.Bool.Decides.{not_from_Decides}
use Rattle.std.proofs.lemmas.List.{take_at, drop_at}
use Rattle.std.proofs.lemmas.List.Elements.{All-cons, All-nil, All-replicate}
use Rattle.warg_crypto.specs.Collisions.{GivesHashes}
use Rattle.warg_crypto.specs.Digests.{IsByte, IsDigest}
use Rattle.warg_crypto.specs.Framed.{framed, IsPart}
use Rattle.warg_crypto.proofs.FramedLemmas.{framed_parts}

-- Two parts are parts.
pair : (a b : List ℕ) → IsPart a → IsPart b → All IsPart (a ∷ b ∷ [])
pair a b fa fb = All-cons IsPart a (b ∷ []) fa (All-cons IsPart b [] fb (All-nil IsPart))

-- Two framed parts are told by their bytes.
pub framed_pairs : (a b c d : List ℕ) → IsPart a → IsPart b → IsPart c → IsPart d
    → framed (a ∷ b ∷ []) ≡ framed (c ∷ d ∷ []) → (a ≡ c) × (b ≡ d)
framed_pairs a b c d fa fb fc fd e =
    let same = framed_parts (a ∷ b ∷ []) (c ∷ d ∷ []) (pair a b fa fb) (pair c d fc fd) e in
    (cc, cc)

-- Every digest has 32 bytes.
abbrev pub HasSize : (List ℕ → List ℕ) → Type 0
HasSize H = (m : List ℕ) → length (H m) ≡ 32

pub sizes : {H : List ℕ → List ℕ} → GivesHashes H → HasSize H
sizes gives m = (gives m).has_32

-- Byte lists are the same or not.
pub same_or_not : (xs ys : List ℕ) → (xs ≡ ys) ⊎ (xs ≡ ys → ⊥)
same_or_not xs ys = elim (cases_Bool (pointwise nat_eq xs ys)) [
  | inl t ↦ inl ((bytes_decides xs ys).0 t)
  | inr f ↦ inr
      (not_from_Decides _ (bytes_decides xs ys) f)
]

-- What the digest function takes at two branches is the same only where both digests are.
pub branch_parts : (a b c d : List ℕ) → length a ≡ length c → 1 ∷ a ++ b ≡ 1 ∷ c ++ d → (a ≡ c) × (b ≡ d)
branch_parts a b c d len e = grind (
  arith,
  take_at a b (length c) len,
  drop_at a b (length c) len,
  take_at c d (length c) refl,
  drop_at c d (length c) refl,
)

-- Digests of zeros and of ones.
abbrev pub zeros : List ℕ
zeros = replicate 32 0

abbrev pub ones : List ℕ
ones = replicate 32 1

pub zeros_are : IsDigest zeros
zeros_are = record { has_32 = refl; are_bytes = All-replicate IsByte 32 0 (omega arith) }

pub ones_are : IsDigest ones
ones_are = record { has_32 = refl; are_bytes = All-replicate IsByte 32 1 (omega arith) }

-- A digest function that tells whether the byte 1 stands behind the first byte: ones where it does, and else zeros.
abbrev pub has_one : List ℕ → Bool
has_one [] = false
has_one (x ∷ xs) = cond (nat_eq x 1) true (has_one xs)

abbrev pub mark : Bool → List ℕ
mark true = ones
mark false = zeros

abbrev pub marked : List ℕ → List ℕ
marked [] = zeros
marked (tag ∷ rest) = mark (has_one rest)

mark_is : (b : Bool) → IsDigest (mark b)
mark_is true = ones_are
mark_is false = zeros_are

pub marked_hashes : GivesHashes marked
marked_hashes [] = zeros_are
marked_hashes (tag ∷ rest) = mark_is (has_one rest)
