-- The least tile of a node.
use Rattle.std.proofs.Common.{◌↔◌, IsTrue, false}
use Rattle.std.proofs.Common.{◌≡◌, ℕ, ◌+◌, ◌-◌, ◌*◌, ◌/◌, ◌%◌, ◌^◌, ◌<◌, ◌≤◌, ap, ◌∙◌, arith}
use Rattle.std.proofs.Math.Nat.{add-sub_of_le, mul-le-mul_left, mul-le-mul_right, mul-div_cancel, mul-mod_left, mul-div-le}
use Rattle.std.proofs.lemmas.Nat.{pow_pos, pow-add, mod-pow-add, le-div}
use Rattle.std.proofs.Math.Dec.{leb}
use Rattle.std.proofs.lemmas.Bool.{false≢true, leb-true, le-leb}
use Rattle.warg_log.specs.Nodes.{IsNode, height_of, place_of, start_of}
use Rattle.warg_log.proofs.ForCallers.{pow_below_pow}
use Rattle.warg_tiles.specs.Tiles.{TileAt, tile_end, place_in_level, tile_over}

-- a node's height is at most 64
pub height_most : (x k j : ℕ) → IsNode x k j → x < 2 ^ 64 → k ≤ 64
height_most x k j is lt =
    let below : k < 65 = pow_below_pow k 65 (omega arith) in
    omega arith

first_of_high : (b j : ℕ) → 0 < b → 2 ^ 63 * b * (2 * j + 1) ≤ 2 ^ 64 → j ≡ 0
first_of_high b j some most = omega (arith, mul-le-mul_left (2 * j + 1) some)

-- a node of height 63 or more is the first of its height
pub highest_first : (x k j : ℕ) → IsNode x k j → x < 2 ^ 64 → 63 ≤ k → j ≡ 0
highest_first x k j is lt high = grind (
  arith,
  add-sub_of_le high,
  pow-add 2 63 (k - 63),
  pow_pos (k - 63),
  first_of_high,
)

-- a power of two is that of a height's level and that of its height within the level
pub height_parts : (k : ℕ) → 2 ^ k ≡ 2 ^ (8 * (k / 8)) * 2 ^ (k % 8)
height_parts k = let whole : k ≡ 8 * (k / 8) + k % 8 = omega arith in ap (λ n. 2 ^ n) whole
    ∙ pow-add 2 (8 * (k / 8)) (k % 8)

-- the number of the nodes of the level's height that stand before a node
pub place_in_level_is : (x : ℕ) → place_in_level x ≡ place_of x * 2 ^ (height_of x % 8)
place_in_level_is x =
    let q = 2 ^ (8 * (height_of x / 8)) in
    let r = 2 ^ (height_of x % 8) in
    let start : start_of x ≡ place_of x * r * q =
    omega (arith, ap (λ n. place_of x * n) (height_parts (height_of x))) in
    rw start (mul-div_cancel (place_of x * r) (pow_pos (8 * (height_of x / 8))))

-- that number is one of 64 bits
pub place_fits : (x k j : ℕ) → IsNode x k j → x < 2 ^ 64 → j * 2 ^ (k % 8) < 2 ^ 64
place_fits x k j is lt = grind (arith, height_parts, mul-le-mul_left, pow_pos)

width_within : (b q place part rest : ℕ) → q * b ≡ 256 → place ≡ part * b + rest → rest ≡ 0 → part < q → place + b ≤ 256
width_within b q place part rest whole is none less = omega (arith, mul-le-mul_left b less)

-- the width ends with the tile at the latest
pub width_most : (p r : ℕ) → r < 8 → p * 2 ^ r % 256 + 2 ^ r ≤ 256
width_most p r low = grind (
  arith,
  pow-add 2 (8 - r) r,
  mod-pow-add (p * 2 ^ r) (8 - r) r,
  mul-div_cancel p
      (pow_pos r),
  pow_pos r,
  pow_pos (8 - r),
  width_within,
  mul-mod_left p (2 ^ r),
)

-- the least tile of a node, as it is made in 64 bits
pub tile_made : (x k j : ℕ) (t : TileAt) → x < 2 ^ 64 → IsNode x k (place_of x) → k ≡ height_of x → j ≡ place_of x
    → t.level ≡ k / 8 → t.number ≡ j * 2 ^ (k % 8) % 2 ^ 64 / 256 → t.width ≡ j * 2 ^ (k % 8) % 2 ^ 64 % 256 + 1 * 2 ^
    (k % 8) % 2 ^ 64 → t ≡ tile_over x
tile_made x k j t small is height place level number width = grind (arith, place_fits, width_most, place_in_level_is)

-- a tile of a log of at most 2 ^ 63 entries has a level below 8
pub level_low : (t : TileAt) → 0 < t.width → tile_end t ≤ 2 ^ 63 → t.level < 8
level_low t some fits =
    let least : 1 * 2 ^ (8 * t.level) ≤ (256 * t.number + t.width) * 2 ^ (8 * t.level) =
    mul-le-mul_right (2 ^ (8 * t.level)) (omega arith) in
    let low : 8 * t.level < 64 = pow_below_pow (8 * t.level) 64 (omega arith) in
    omega arith

-- the number of a tile of such a log
pub number_low : (t : TileAt) → 0 < t.width → tile_end t ≤ 2 ^ 63 → t.number < 2 ^ 55
number_low t some fits = omega (arith, mul-le-mul_left (256 * t.number + t.width) (pow_pos (8 * t.level)))

-- a tile of a level above 7, or of a number from 2 ^ 55 on, stands at no length
pub at_no_length : (t : TileAt) (n : ℕ) → (t.level < 8 → t.number < 2 ^ 55 → ⊥) → 0 < t.width → n ≤ 2 ^ 63
    → IsTrue false ↔ (tile_end t ≤ n)
at_no_length t n beyond some small = grind (arith, false≢true, level_low, number_low)

-- any other stands at the lengths that have so many nodes of its level
pub by_nodes : (t : TileAt) (n : ℕ) → IsTrue (leb (256 * t.number + t.width) (n / 2 ^ (8 * t.level))) ↔ (tile_end t ≤ n)
by_nodes t n = (
  λ yes. omega (
    arith,
    mul-le-mul_left (2 ^ (8 * t.level))
        (leb-true (256 * t.number + t.width) (n / 2 ^ (8 * t.level)) yes),
    mul-div-le n (2 ^ (8 * t.level)),
  ),
  grind
      (arith, le-leb, le-div, pow_pos),
)
