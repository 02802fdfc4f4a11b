-- The root over digests in a row.
use Rattle.std.proofs.Common.{◌≡◌, inl, inr, ℕ, zero, suc, zero-add, ◌+◌, ◌-◌, ◌*◌, ◌^◌, ◌<◌, ◌≤◌, List, [], ◌∷◌, length, take, drop, slice_index_or, refl, sym, ap, ◌∙◌, arith}
use Rattle.std.proofs.Math.Nat.{pow-suc, mul-le-mul_left, lt_of_mul-lt-mul_right}
use Rattle.std.proofs.lemmas.Nat.{pow_pos, pow-add}
use Rattle.std.proofs.lemmas.Bool.{cases_lt}
use Rattle.std.proofs.lemmas.List.{take_all, take-take, length-take-le, length-drop, drop-drop, drop-take, get_or-take, get_or-drop}
use Rattle.warg_crypto.specs.Tree.{branch}
use Rattle.warg_log.specs.Tree.{root_of, root_over, root_within}
use Rattle.warg_log.proofs.ForCallers.{root_over_one, root_over_parts, front_of_is}

-- the root over all digests
pub whole : (H : List ℕ → List ℕ) (ds : List (List ℕ)) → root_over H ds 0 (length ds) ≡ root_of H ds
whole H ds = ap (root_of H) (take_all (length ds) ds (omega arith))

-- the root over one digest is it
pub root_one : (H : List ℕ → List ℕ) (ds : List (List ℕ)) → length ds ≡ 1 → root_of H ds ≡ slice_index_or ds 0 []
root_one H ds one = sym (whole H ds) ∙ ap (root_over H ds 0) one ∙ root_over_one H ds 0 (omega arith)

-- the root over two is the branch over them
pub root_two : (H : List ℕ → List ℕ) (ds : List (List ℕ)) (left right : List ℕ) → 2 ≤ length ds → length ds < 3
    → left ≡ slice_index_or ds 0 left → right ≡ slice_index_or ds 1 right → branch H left right ≡ root_of H ds
unfolding root_within
root_two H [] left right some few first second = absurd (omega arith)
root_two H (d ∷ []) left right some few first second = absurd (omega arith)
root_two H (d ∷ e ∷ []) left right some few first second = rw first (ap (branch H d) second)
root_two H (d ∷ e ∷ f ∷ ds) left right some few first second = absurd (omega arith)

-- the root over more is the branch over the roots of both parts
pub root_parts : (H : List ℕ → List ℕ) (ds front rest : List (List ℕ)) (e : ℕ) → 2 ^ e ≤ length ds - 1
    → length ds - 1 < 2 ^ suc e → 1 < length ds → front ≡ take (2 ^ e) ds → rest ≡ drop (2 ^ e) ds
    → root_of H ds ≡ branch H (root_of H front) (root_of H rest)
root_parts H ds front rest e low high more first second = grind (
  arith,
  front_of_is e (length ds),
  take_all (length ds - 2 ^ e) (drop (0 + 2 ^ e) ds),
  length-drop (0 + 2 ^ e)
      ds,
  zero-add (2 ^ e),
  whole H ds,
  root_over_parts H ds 0 (length ds) more,
)

-- some of the first elements, without and with a cut behind them
pub take_drop_take : (a b c : ℕ) (xs : List (List ℕ)) → a + b ≤ c → take b (drop a (take c xs)) ≡ take b (drop a xs)
take_drop_take a b c xs fits = grind (arith, drop-take a (c - a) xs, take-take b (c - a) (drop a xs))

-- the root over the roots of parts, of which the last may be shorter, is the root over all
pub roots_of_chunks : (H : List ℕ → List ℕ) (m k : ℕ) (ys xs : List (List ℕ)) → 0 < length ys → length ys ≤ 2 ^ (k + m)
    → length xs * 2 ^ m < length ys + 2 ^ m → length ys ≤ length xs * 2 ^ m
    → ((i : ℕ) → i < length xs → slice_index_or xs i [] ≡ root_of H (take (2 ^ m) (drop (i * 2 ^ m) ys)))
    → root_of H xs ≡ root_of H ys
roots_of_chunks H m zero ys xs some most low high each =
    let same : 0 + m ≡ m = omega arith in
    let start : 0 * 2 ^ m ≡ 0 = omega arith in
    let few : length xs * 2 ^ m < 2 * 2 ^ m = omega (arith, most, ap (λ n. 2 ^ n) same) in
    let many : 0 * 2 ^ m < length xs * 2 ^ m = omega arith in
    grind (arith, root_one H xs, lt_of_mul-lt-mul_right (2 ^ m) few, lt_of_mul-lt-mul_right (2 ^ m) many, take_all)
roots_of_chunks H m (suc k) ys xs some most low high each = elim (cases_lt (2 ^ (k + m)) (length ys)) [
  | inr fits ↦ roots_of_chunks H m k ys xs some fits low high each
  | inl more ↦ let p = 2 ^ m in let s = 2 ^
      (k + m) in let whole : s ≡ 2 ^ k * p = pow-add 2 k m in let exponent : suc k + m ≡ suc (k + m) = omega arith in
      let twice : 2 ^ (suc k + m) ≡ 2 * s = rw exponent (omega (arith, pow-suc 2 (k + m))) in let over : 2 ^ k * p <
      length xs * p = omega arith in let under : length xs * p < (2 * 2 ^ k + 1) * p = omega arith in let above =
      lt_of_mul-lt-mul_right p over in let below = lt_of_mul-lt-mul_right p under in let most_front : length
      (take s ys) ≡ s = length-take-le s ys (omega arith) in let most_rest = length-drop s ys in let
      count_front : length (take (2 ^ k) xs) ≡ 2 ^ k = length-take-le (2 ^ k) xs (omega arith) in let count_rest =
      length-drop (2 ^ k) xs in let product_front = ap (λ n. n * p) count_front in let product_rest : length
      (drop (2 ^ k) xs) * p + 2 ^ k * p ≡ length xs * p = let e : length xs ≡ length (drop (2 ^ k) xs) + 2 ^ k = omega
      arith in omega (arith, ap (λ n. n * p) e) in let front = roots_of_chunks H m k (take s ys) (take (2 ^ k) xs)
      (omega (arith, pow_pos (k + m))) (omega arith) (omega (arith, pow_pos m)) (omega arith)
      (λ i inside. let here : i < 2 ^ k = omega arith in grind
      (arith, get_or-take (2 ^ k) xs i [] here, take_drop_take (i * p) p s ys, mul-le-mul_left p here)) in let rest =
      roots_of_chunks H m k (drop s ys) (drop (2 ^ k) xs) (omega arith) (omega arith) (omega arith) (omega arith)
      (grind (arith, get_or-drop, drop-drop)) in root_parts H xs (take (2 ^ k) xs) (drop (2 ^ k) xs) k (omega arith)
      (omega (arith, pow-suc 2 k)) (omega (arith, pow_pos k)) refl refl ∙ ap
      (λ l. branch H l (root_of H (drop (2 ^ k) xs))) front ∙ ap (λ l. branch H (root_of H (take s ys)) l) rest ∙ sym
      (grind (arith, root_parts, pow-suc, pow_pos))
]

-- the root over the roots of parts of one size is the root over all
pub roots_of_parts : (H : List ℕ → List ℕ) (ds xs : List (List ℕ)) (m k a : ℕ) → a + 2 ^ (k + m) ≤ length ds
    → length xs ≡ 2 ^ k
    → ((i : ℕ) → i < 2 ^ k → slice_index_or xs i [] ≡ root_over H ds (a + i * 2 ^ m) (2 ^ m))
    → root_of H xs ≡ root_over H ds a (2 ^ (k + m))
roots_of_parts H ds xs m k a fits count each =
    let whole : 2 ^ (k + m) ≡ 2 ^ k * 2 ^ m = pow-add 2 k m in
    let size : length (take (2 ^ (k + m)) (drop a ds)) ≡ 2 ^ (k + m) = length-take-le (2 ^ (k + m)) (drop a ds)
    (omega (arith, length-drop a ds)) in
    let product : length xs * 2 ^ m ≡ 2 ^ k * 2 ^ m = ap (λ n. n * 2 ^ m) count in
    roots_of_chunks H m k (take (2 ^ (k + m)) (drop a ds)) xs (omega (arith, pow_pos (k + m))) (omega arith)
    (omega (arith, pow_pos m)) (omega arith) (grind (arith, drop-drop, take_drop_take, mul-le-mul_left))
