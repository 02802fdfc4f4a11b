-- Heights, places and their arithmetic.
use Rattle.std.proofs.Common.{◌≡◌, ℕ, zero, suc, ◌+◌, ◌-◌, ◌*◌, ◌/◌, ◌%◌, ◌^◌, ◌<◌, ◌≤◌, refl, sym, ap, ◌∙◌, arith, w64, ⊎_elim, add-zero}
use Rattle.std.proofs.Math.Nat.{le_refl, mul-le-mul_left, pow-le-pow_right, pow-suc}
use Rattle.std.specs.Int.{trailing_ones, trailing_zeros, bit_at}
use Rattle.std.proofs.lemmas.Nat.{pow_pos, pow-add, div-mul-add}
use Rattle.std.proofs.lemmas.Nat.Bits.{bit_at-suc, bit_at_cat_low, bit_at-trailing_ones, bit_at-trailing_zeros}
use Rattle.std.proofs.lemmas.Bool.{cases_lt, cases_eq, eq-eqb, ne_eqb}
use Rattle.warg_log.specs.Nodes.{IsNode, height_within, height_of, place_of, start_of, end_of, node_over}

-- a power of two is the product of two others
pub parts : (h k : ℕ) → h ≤ k → 2 ^ k ≡ 2 ^ h * 2 ^ (k - h)
parts h k le = grind (arith, pow-add)

-- a power of two below another has a smaller exponent
pub pow_below_pow : (a b : ℕ) → 2 ^ a < 2 ^ b → a < b
pow_below_pow a b lt = grind (arith, pow-le-pow_right)

-- a node's height and place by its number's halves
height_is : (fuel x : ℕ) → x ≤ fuel → (j : ℕ) × IsNode x (height_within fuel x) j
unfolding height_within
height_is zero x le = (0, omega arith)
height_is (suc fuel) x le =
    let half : x / 2 ≤ fuel = omega arith in
    ⊎_elim (λ even. (x / 2, rw (eq-eqb (x % 2) 0 even) (omega arith)))
    (λ odd. let found = height_is fuel (x / 2) half in (found.0, rw (ne_eqb (x % 2) 0 odd, pow-suc) (omega arith)))
    (cases_eq (x % 2) 0)

-- the place is a quotient
place_is : (x k j : ℕ) → IsNode x k j → x / 2 ^ (k + 1) ≡ j
place_is x k j is = grind (arith, pow-add, div-mul-add j (2 ^ k * 2 ^ 1) (2 ^ k - 1))

-- every number is a node of its height, at its place
pub node_is : (x : ℕ) → IsNode x (height_of x) (place_of x)
unfolding height_of place_of
node_is x = grind (arith, height_is x x (le_refl x), place_is)

-- a node has one height and one place
halve : (x k j : ℕ) → IsNode x (suc k) j → (x % 2 ≡ 1) × IsNode (x / 2) k j
halve x k j is = let at = rw pow-suc at is in (omega arith, omega arith)

one_place : (k k' x j j' : ℕ) → IsNode x k j → IsNode x k' j' → (k ≡ k') × (j ≡ j')
one_place zero zero x j j' is is' = (refl, omega arith)
one_place zero (suc k') x j j' is is' = omega arith
one_place (suc k) zero x j j' is is' = absurd (omega arith)
one_place (suc k) (suc k') x j j' is is' = search (one_place k k' (x / 2) j j' (halve x k j is).1 (halve x k' j' is').1)

pub node_at : (x k j : ℕ) → IsNode x k j → (height_of x ≡ k) × (place_of x ≡ j)
node_at x k j is = one_place (height_of x) k x (place_of x) j (node_is x) is

-- a digit b at each place below k, and the other one there
by_bits : (b k n : ℕ) → b ≤ 1 → bit_at n k ≡ 1 - b → ((i : ℕ) → i < k → bit_at n i ≡ b)
    → (q : ℕ) × (n + b ≡ (2 * q + 1) * 2 ^ k)
by_bits b zero n digit other same = (n / 2, omega arith)
by_bits b (suc k) n digit other same =
    let half = by_bits b k (n / 2) digit (sym (bit_at-suc n k) ∙ other) (λ i lt. grind (arith, bit_at-suc n i)) in
    (half.0, omega (arith, same 0 (omega arith), ap (λ w. (2 * half.0 + 1) * w) (pow-suc 2 k)))

-- the program counts the ones at a number's end
pub height_of_trailing_ones : (x : ℕ) → x < 2 ^ 64 → height_of x ≡ trailing_ones w64 x
unfolding lib.Count.count_trailing_zeros
height_of_trailing_ones x lt = ⊎_elim (λ below. let t = bit_at-trailing_ones w64 x below in let n = by_bits 1
    (trailing_ones w64 x) x (omega arith) t.1 t.2 in (node_at x _ n.0 (omega arith)).0)
    (λ above. let top : x ≡ 18446744073709551615 = omega arith in rw top (node_at 18446744073709551615 64 0 refl).0)
    (cases_lt (x + 1) (2 ^ 64))

-- the same as an equation of its first leaf and its width
pub by_start : (x : ℕ) → 2 ^ height_of x + 2 * start_of x ≡ x + 1
by_start x = omega (arith, node_is x)

-- a node ends at or behind its width
pub low_by_end : (x : ℕ) → end_of x < 2 ^ 64 → height_of x < 64
low_by_end x lt = pow_below_pow (height_of x) 64 (omega arith)

-- the parent of a left and of a right node
pub parent_left : (x : ℕ) → place_of x % 2 ≡ 0 → IsNode (x + 2 ^ height_of x) (height_of x + 1) (place_of x / 2)
parent_left x even = let half : place_of x ≡ place_of x / 2 * 2 = omega arith in
    rw pow-add (omega (arith, node_is x, ap (λ n. 2 ^ height_of x * n) half))

pub parent_right : (x : ℕ) → place_of x % 2 ≡ 1 → (2 ^ height_of x ≤ x) × IsNode (x - 2 ^ height_of x) (height_of x + 1)
    (place_of x / 2)
parent_right x odd =
    let half : place_of x ≡ place_of x / 2 * 2 + 1 = omega arith in
    let scaled = ap (λ n. 2 ^ height_of x * n) half in
    rw pow-add (omega (arith, node_is x, scaled), omega (arith, node_is x, scaled))

-- the sibling of a right node
pub sibling_right : (x : ℕ) → place_of x % 2 ≡ 1 → (2 ^ height_of x + 2 ^ height_of x ≤ x)
    × IsNode (x - 2 ^ height_of x - 2 ^ height_of x) (height_of x) (place_of x - 1)
sibling_right x odd =
    let one : place_of x ≡ place_of x - 1 + 1 = omega arith in
    let scaled = ap (λ n. 2 ^ height_of x * n) one in
    omega (arith, node_is x)

-- the children of a branch
pub child_nodes : (x : ℕ) → 0 < height_of x → (2 ^ height_of x / 2 ≤ x) × IsNode (x - 2 ^ height_of x / 2)
    (height_of x - 1) (2 * place_of x) × IsNode (x + 2 ^ height_of x / 2) (height_of x - 1) (2 * place_of x + 1)
child_nodes x some =
    let at = rw (parts 1 (height_of x) (omega arith)) at (node_is x) in
    let half : 2 ^ height_of x / 2 ≡ 2 ^ (height_of x - 1) = omega (arith, parts) in
    omega arith

-- the last leaf below a node
pub last_leaf : (x : ℕ) → x + (2 ^ height_of x - 1) + 2 ≡ 2 * end_of x
last_leaf x = omega (arith, node_is x, pow_pos)

-- the room above a node below height 64, and above a left one below height 63
room_at : (x k j : ℕ) → IsNode x k j → x < 2 ^ 64 → k < 64 → x + 2 ^ k < 2 ^ 64
room_at x k j is lt low =
    let whole : 2 ^ 63 ≡ 2 ^ k * 2 ^ (63 - k) = parts k 63 (omega arith) in
    let less : j < 2 ^ (63 - k) = grind arith in
    let more : 2 ^ k * (j + 1) ≤ 2 ^ k * 2 ^ (63 - k) = mul-le-mul_left (2 ^ k) (omega arith) in
    omega arith

pub room : (x : ℕ) → x < 2 ^ 64 → height_of x < 64 → x + 2 ^ height_of x < 2 ^ 64
room x = room_at x (height_of x) (place_of x) (node_is x)

pub room_left : (x : ℕ) → x < 2 ^ 64 → height_of x < 63 → place_of x % 2 ≡ 0
    → x + 2 ^ height_of x + 2 ^ height_of x < 2 ^ 64
room_left x lt low even =
    let below = room x lt (omega arith) in
    omega (
      arith,
      pow-add,
      room_at (x + 2 ^ height_of x) (height_of x + 1) (place_of x / 2) (parent_left x even)
          below (omega arith),
    )

-- the node of height h that begins where the node x ends, from the last leaf below x and the first node of the height
pub next_at : (x h last first : ℕ) → h ≤ height_of x → last ≡ 2 * (end_of x - 1) → IsNode first h 0
    → (height_of (last + 2 + first) ≡ h) × (start_of (last + 2 + first) ≡ end_of x)
next_at x h last first le ends is =
    let wide = parts h (height_of x) le in
    let at = node_at (last + 2 + first) h ((place_of x + 1) * 2 ^ (height_of x - h))
    (omega (arith, ap (λ w. (place_of x + 1) * w) wide, pow_pos)) in
    (at.0, rw (at.0, at.1) (grind arith))

-- the node over a range
pub only_number : (x k j : ℕ) → IsNode x k j → x ≡ node_over (j * 2 ^ k) (2 ^ k)
only_number x k j is = omega arith

pub over_at : (k j : ℕ) → (height_of (node_over (j * 2 ^ k) (2 ^ k)) ≡ k)
    × (place_of (node_over (j * 2 ^ k) (2 ^ k)) ≡ j)
over_at k j = node_at (node_over (j * 2 ^ k) (2 ^ k)) k j (omega (arith, pow_pos))

-- the two halves of a node's leaves
pub halves : (k j : ℕ) → (2 * j * 2 ^ k ≡ j * 2 ^ suc k) × ((2 * j + 1) * 2 ^ k ≡ j * 2 ^ suc k + 2 ^ k)
    × (2 ^ suc k - 2 ^ k ≡ 2 ^ k)
halves k j = rw pow-suc (omega arith)

pub over_ends : (k j : ℕ) → end_of (node_over (j * 2 ^ k) (2 ^ k)) ≡ j * 2 ^ k + 2 ^ k
over_ends k j = grind (arith, over_at)

-- a length's last balanced root has as many leaves as the greatest power of two that divides the length
pub last_root : (n : ℕ) → 0 < n → n < 2 ^ 64 → (q : ℕ) × (n ≡ (2 * q + 1) * 2 ^ trailing_zeros w64 n)
    × (trailing_zeros w64 n < 64)
last_root n some fits =
    let t = bit_at-trailing_zeros w64 n some fits in
    let last = by_bits 0 (trailing_zeros w64 n) n (omega arith) t.1 t.2 in
    (last.0, omega arith, t.0)

pub last_width : (n : ℕ) → 0 < n → n < 2 ^ 64 → (trailing_zeros w64 n < 64)
    × (1 * 2 ^ trailing_zeros w64 n % 2 ^ 64 ≤ n) × (0 < 1 * 2 ^ trailing_zeros w64 n % 2 ^ 64)
last_width n some fits = grind (arith, last_root n some fits)

-- twice each smaller power of two divides the length
pub smaller_root : (n h : ℕ) → 0 < n → n < 2 ^ 64 → h < trailing_zeros w64 n → (j : ℕ) × (n ≡ (j + 1) * 2 ^ suc h)
    × (1 * 2 ^ h % 2 ^ 64 ≡ 2 ^ h) × (2 * 2 ^ h ≤ n)
smaller_root n h some fits low =
    let last = last_root n some fits in
    let m = (2 * last.0 + 1) * 2 ^ (trailing_zeros w64 n - suc h) in
    let back : m - 1 + 1 ≡ m = omega (arith, pow_pos) in
    let is : n ≡ (m - 1 + 1) * 2 ^ suc h = rw back (grind (arith, parts (suc h) (trailing_zeros w64 n) low)) in
    grind arith

-- no greater power of two divides it
pub divides_most : (n h j : ℕ) → 0 < n → n < 2 ^ 64 → n ≡ j * 2 ^ h → h ≤ trailing_zeros w64 n
divides_most n h j some fits is =
    let t = trailing_zeros w64 n in
    ⊎_elim (λ (tall : t < h). grind (
      arith,
      add-zero,
      bit_at_cat_low j h 0 t tall,
      bit_at-trailing_zeros w64 n some
          fits,
    )) (λ le. le) (cases_lt t h)

-- a height and a place have one number
pub one_number : (x y k j i : ℕ) → j ≡ i → IsNode x k j → IsNode y k i → x ≡ y
one_number x y k j i same is is' = grind arith
