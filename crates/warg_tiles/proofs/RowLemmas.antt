-- Digests in a row whose root is that over the leaves below them are the roots of these, or two byte lists collide.
use Rattle.std.proofs.Common.{◌≡◌, ◌⊎◌, inl, inr, ℕ, zero, suc, ◌+◌, ◌-◌, ◌*◌, ◌^◌, ◌<◌, ◌≤◌, min, List, [], length, take, drop, slice_index_or, sym, ap, ◌∙◌, arith}
use Rattle.std.proofs.Math.Nat.{mul-le-mul_left}
use Rattle.std.proofs.lemmas.Nat.{pow_pos, pow-add}
use Rattle.std.proofs.lemmas.Bool.{cases_lt}
use Rattle.std.proofs.lemmas.List.{take_all, length-drop}
use Rattle.warg_crypto.specs.Collisions.{GivesHashes, AreHashes, SomeCollision}
use Rattle.warg_crypto.proofs.ForCallers.{HasSize, sizes, same_or_not, branch_parts}
use Rattle.warg_log.specs.Tree.{front_of, root_of, root_over}
use Rattle.warg_log.proofs.ForCallers.{root_over_one, root_over_parts, front_of_is, front_is_greatest}
use Rattle.warg_protobuf.proofs.ForCallers.{all_at}
use Rattle.warg_tiles.specs.Placed.{IsPart, whole, front, rest, range_input, IsRowPlaced}
use Rattle.warg_tiles.proofs.RootLemmas as roots

-- a root over digests of 32 bytes has 32 bytes
pub root_size : (H : List ℕ → List ℕ) → HasSize H → (ds : List (List ℕ)) → AreHashes ds → (a n : ℕ) → 0 < n
    → a + n ≤ length ds → length (root_over H ds a n) ≡ 32
root_size H gives ds hashes a n some fits = elim (cases_lt 1 n) [
  | inl more ↦ rw (root_over_parts H ds a n more fits) (gives _)
  | inr few ↦
      let one : n ≡ 1 = omega arith in
      rw one (ap length (root_over_one H ds a (omega arith))
      ∙ all_at (λ (d : List ℕ). length d ≡ 32) ds a [] hashes (omega arith))
]

-- as many of the leaves as are left
cut_short : (ys : List (List ℕ)) (a p c : ℕ) → c ≡ min p (length ys - a) → take c (drop a ys) ≡ take p (drop a ys)
cut_short ys a p c is = grind (arith, cases_lt, take_all, length-drop)

module _ (H : List ℕ → List ℕ) (digests : GivesHashes H) (xs ys : List (List ℕ)) (row : AreHashes xs)
    (leaves : AreHashes ys) (m : ℕ) where
  -- Each of the digests from a up to an end is the root over its leaves.
  abbrev pub AreRoots : ℕ → ℕ → Type 0
  AreRoots a e = (i : ℕ) → a ≤ i → i < e → slice_index_or xs i [] ≡ root_of H (take (2 ^ m) (drop (i * 2 ^ m) ys))

  -- at a range of the recursion
  at_range : (fuel a n c : ℕ) → n ≤ fuel → 0 < n → IsPart (length xs) a n → a + n ≤ length xs
      → c ≡ min (n * 2 ^ m) (length ys - a * 2 ^ m) → n * 2 ^ m < c + 2 ^ m
      → root_over H xs a n ≡ root_over H ys (a * 2 ^ m) c → AreRoots a (a + n)
      ⊎ SomeCollision H (IsRowPlaced H xs (2 ^ m) ys)
  at_range zero a n c most some part fits is near e = absurd (omega arith)
  at_range (suc fuel) a n c most some part fits is near e = elim (cases_lt 1 n) [
    | inr few ↦ let one : n ≡ 1 = omega arith in let short : c ≡ min (2 ^ m) (length ys - a * 2 ^ m) = omega
        (arith, ap (λ k. k * 2 ^ m) one) in inl (grind (arith, root_over_one, cut_short))
    | inl more ↦ let p = 2 ^ m
        in let unit : 0 < p = pow_pos m in let greatest = front_is_greatest n more in let f = front_of n in let h =
        greatest.0.0 in let power : f ≡ 2 ^ h = greatest.0.1 in let one_more : f + 1 ≤ n = omega (arith, greatest.1)
        in let low = mul-le-mul_left p one_more in let high = mul-le-mul_left p greatest.2 in let least : 1 ≤ f =
        omega (arith, pow_pos h) in let some_front = mul-le-mul_left p least in let size : 2 ^ (h + m) ≡ f * p =
        pow-add 2 h m ∙ ap (λ k. k * p) (sym power) in let twice : 2 ^ suc (h + m) ≡ 2 * (f * p) = ap (λ k. 2 ^ k)
        (let s : suc (h + m) ≡ 1 + (h + m) = omega arith in s) ∙ pow-add 2 1 (h + m) ∙ ap (λ k. 2 * k) size in let
        at : front_of c ≡ f * p = front_of_is (h + m) c (omega arith) (omega arith) ∙ size in let many : 1 < c = omega
        arith in let inside : a * p + c ≤ length ys = omega arith in let next : (a + f) * p ≡ a * p + f * p = omega
        arith in let others : (n - f) * p + f * p ≡ n * p = let whole : n ≡ (n - f) + f = omega arith in omega
        (arith, ap (λ k. k * p) whole) in let left = ap (λ k. root_over H ys (a * p) k) at in let right = ap
        (λ k. root_over H ys (a * p + k) (c - k)) at ∙ ap (λ b. root_over H ys b (c - f * p)) (sym next) in let both =
        sym (root_over_parts H xs a n more fits) ∙ e ∙ root_over_parts H ys (a * p) c many inside in elim
        (same_or_not (range_input H xs a n) (range_input H ys (a * p) c)) [
          | inr differ ↦ inr (grind arith)
          | inl same ↦ let parts = branch_parts _ _ _ _
              (grind (arith, root_size, sizes)) same in let first = at_range fuel a f (f * p) (omega arith) (omega arith)
              (front a n part more) (omega arith) (omega arith) (omega arith) (parts.0 ∙ left) in let second = at_range fuel
              (a + f) (n - f) (c - f * p) (omega arith) (omega arith) (rest a n part more) (omega arith) (omega arith)
              (omega arith) (parts.1 ∙ right) in elim first [
                | inr collision ↦ inr collision
                | inl front_are ↦ elim second
                    [ inr collision ↦ inr collision | inl rest_are ↦ inl (grind (arith, cases_lt)) ]
              ]
        ]
  ]

  -- the digests are the roots over the leaves below them, or two byte lists collide
  pub row_or_collides : 0 < length xs → length xs * 2 ^ m < length ys + 2 ^ m → length ys ≤ length xs * 2 ^ m
      → root_of H xs ≡ root_of H ys
      → AreRoots 0 (length xs) ⊎ SomeCollision H (IsRowPlaced H xs (2 ^ m) ys)
  row_or_collides some low high e =
      let start : 0 * 2 ^ m ≡ 0 = omega arith in
      let all : 0 + length xs ≡ length xs = omega arith in
      rw all at
      (at_range (length xs) 0 (length xs) (length ys) (omega arith) some whole (omega arith) (omega arith) low
      (roots.whole H xs ∙ e ∙ sym (ap (λ b. root_over H ys b (length ys)) start ∙ roots.whole H ys)))
