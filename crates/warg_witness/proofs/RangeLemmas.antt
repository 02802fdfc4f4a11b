-- Ranges of the tree's recursion and their sides, and balanced roots by that recursion.
use Rattle.std.proofs.Common.{◌≡◌, ℕ, suc, ◌+◌, ◌-◌, ◌*◌, ◌^◌, ◌<◌, ◌≤◌, ◌⊎◌, Bool, false, true, List, Option, inl, inr, ap, ◌∙◌, arith, refl}
use Rattle.std.proofs.lemmas.Nat.{pow-add, pow_pos, pow_below, row_fits, mul-le}
use Rattle.std.proofs.lemmas.Bool.{cases_lt, cases_eq}
use Rattle.warg_log.specs.Cut.{is_target, IsFull}
use Rattle.warg_log.specs.Nodes.{height_of, place_of, node_over}
use Rattle.warg_log.specs.Tree.{front_of}
use Rattle.warg_witness.specs.Ranges.{IsPart, IsAround}
use Rattle.warg_witness.specs.Ranges.IsPart.{whole, front, rest}
use Rattle.warg_log.specs.Ranges.{Range, leaves_from, range_of, front_part, rest_part, IsAligned}
use Rattle.warg_witness.specs.Private.Divergence.{IsNodeRange, IsAbove, side_of}
use Rattle.warg_log.proofs.ForCallers.{same_range, starts, counts, target_decides, below_pow, front_is_greatest, over_at, pow_below_pow}

-- A digest function, and digests by node, as data holds them.
abbrev pub Digest : Type 0
Digest = List ℕ → List ℕ

abbrev pub Data : Type 0
Data = ℕ → Option (List ℕ)

-- a multiple of a power of two is one of each lower power
pub multiple : (c k h : ℕ) → k ≤ h → c * 2 ^ h ≡ c * 2 ^ (h - k) * 2 ^ k
multiple c k h le = let sum : h ≡ h - k + k = omega arith in rw (ap (λ i. 2 ^ i) sum ∙ pow-add 2 (h - k) k)
    (omega arith)

-- a range that isn't full has more than one leaf
pub more_than_one : (n : ℕ) → 0 < n → (IsFull n → ⊥) → 1 < n
more_than_one n some not_full = grind arith

-- one leaf is a node's range, and such a range and the whole of a log are aligned
pub leaf_node : {range : Range} → range.count ≡ 1 → IsNodeRange range
leaf_node {range} one = record { height = 0; place = range.start; start = omega arith; count = one }

pub node_aligned : {range : Range} → IsNodeRange range → IsAligned range.start range.count
node_aligned node = record { height = node.height; place = node.place; start = node.start; most = omega arith }

-- a node's leaves are a node's range
pub node_range : (node : ℕ) → IsNodeRange (range_of node)
node_range node = record { height = height_of node; place = place_of node; start = refl; count = refl }

pub leaf_aligned : {a n : ℕ} → n ≡ 1 → IsAligned a n
leaf_aligned {a} {n} one = node_aligned (leaf_node {range = leaves_from a n} one)

pub whole_aligned : {a : ℕ} (n : ℕ) → a ≡ 0 → IsAligned a n
whole_aligned n start = record { height = n; place = 0; start = omega arith; most = omega (arith, below_pow n) }

pub node_some : {range : Range} → IsNodeRange range → 0 < range.count
node_some node = rw node.count (pow_pos node.height)

-- a range around another is the same or above it
pub same_or_above : (inner outer : Range) → IsAround inner outer → (outer ≡ inner) ⊎ IsAbove inner outer
same_or_above inner outer around = grind (arith, cases_lt, same_range)

-- so it is above it, where the code tells them apart
pub above : {inner outer : Range} → IsAround inner outer → (same : Bool) → same ≡ is_target inner outer → same ≡ false
    → IsAbove inner outer
above {inner} {outer} around same told apart = elim (same_or_above inner outer around) [
  | inl is ↦ let yes = (target_decides inner outer).1 is in absurd (cc)
  | inr it ↦ it
]

-- the parts of a part are parts
pub IsPart-trans : {a₀ n₀ a n b m : ℕ} → IsPart a₀ n₀ a n → IsPart a n b m → IsPart a₀ n₀ b m
IsPart-trans outer whole = outer
IsPart-trans outer (front c k part more) = front c k (IsPart-trans outer part) more
IsPart-trans outer (rest c k part more) = rest c k (IsPart-trans outer part) more

pub side_part : (right : Bool) {a₀ n₀ : ℕ} (range : Range) → IsPart a₀ n₀ range.start range.count → 1 < range.count
    → IsPart a₀ n₀ (side_of right range).start (side_of right range).count
side_part false range part more = front _ _ part more
side_part true range part more = rest _ _ part more

-- an aligned range splits at a multiple of each power of two below its count, so its parts are aligned
split_place : {a n : ℕ} → IsAligned a n → 1 < n → (k : ℕ) → 2 ^ k < n → (q : ℕ) × (a + front_of n ≡ q * 2 ^ k)
split_place {a} {n} aligned more k below =
    let f = front_is_greatest n more in
    let low : k < suc f.0.0 = grind (arith, pow_below) in
    let high : f.0.0 < aligned.height = grind (arith, pow_below) in (
      aligned.place * 2 ^ (aligned.height - k) + 2 ^ (f.0.0 - k),
      omega (arith, multiple aligned.place k aligned.height (omega arith), multiple 1 k f.0.0 (omega arith)),
    )

pub front_aligned : {a n m : ℕ} → IsAligned a n → m ≤ n → IsAligned a m
front_aligned aligned shorter = record {
  height = aligned.height;
  place = aligned.place;
  start = aligned.start;
  most = omega (arith, aligned.most);
}

pub rest_aligned : {a n : ℕ} → IsAligned a n → 1 < n → IsAligned (a + front_of n) (n - front_of n)
rest_aligned {n = n} aligned more = grind (arith, front_is_greatest, split_place)

-- of the sides of a range above a target, the one in which the target begins is around it, shorter and aligned
module _ {target range : Range} (node : IsNodeRange target) (aligned : IsAligned range.start range.count)
    (over : IsAbove target range) where
  -- What is so of that side.
  abbrev pub IsSide : Range → Type 0
  IsSide side = (side.count < range.count) × IsAligned side.start side.count × IsAround target side

  pub above_one : 1 < range.count
  above_one = omega (arith, node_some node, over.more)

  pub front_side : target.start < range.start + front_of range.count → IsSide (front_part range)
  front_side left =
      let f = front_is_greatest range.count above_one in
      let at = split_place aligned above_one node.height (omega (arith, over.more)) in
      let ends : target.start + target.count ≤ range.start + front_of range.count = elim (cases_lt node.place at.0) [
        | inl less ↦ omega (arith, row_fits node.place (2 ^ node.height) at.0 (2 ^ node.height) less (omega arith))
        | inr le ↦ omega (arith, mul-le at.0 (2 ^ node.height) node.place (2 ^ node.height) le (omega arith))
      ] in
      (f.1, front_aligned aligned (omega arith), record { starts = over.around.starts; ends = ends })

  pub rest_side : range.start + front_of range.count ≤ target.start → IsSide (rest_part range)
  rest_side right = grind (arith, front_is_greatest, above_one, rest_aligned)

  pub side_around : (right : Bool) × IsSide (side_of right range)
  side_around = grind (arith, cases_lt, front_side, rest_side)

-- the parts of an aligned range lie within it and are aligned, and so are those of a whole log
pub part_within : {a n b m : ℕ} → IsAligned a n → IsPart a n b m → (b + m ≤ a + n) × IsAligned b m
part_within {a} {n} aligned whole = (omega arith, aligned)
part_within aligned (front b k part more) = let at = part_within aligned part in let f = front_is_greatest k more in
    (omega arith, front_aligned at.1 (omega arith))
part_within aligned (rest b k part more) = let at = part_within aligned part in let f = front_is_greatest k more in
    (omega arith, rest_aligned at.1 more)

pub part_in : {n b m : ℕ} → IsPart 0 n b m → (b + m ≤ n) × IsAligned b m
part_in {n} part = let at = part_within (whole_aligned n refl) part in (omega arith, at.1)

-- a power of two of leaves that begins at a multiple of a greater one is a node's
pub full_node : {range : Range} → IsAligned range.start range.count → IsFull range.count → IsNodeRange range
full_node aligned is =
    let low : is.0 ≤ aligned.height = grind (arith, pow_below) in
    grind (arith, multiple aligned.place is.0 aligned.height low)

-- a count is a power of two or not
pub full_or_not : (n : ℕ) → 0 < n → IsFull n ⊎ (IsFull n → ⊥)
full_or_not n some =
    let f = front_is_greatest (n + 1) (omega arith) in
    elim (cases_eq n (front_of (n + 1))) [
      | inl is ↦ inl (f.0.0, is ∙ f.0.1)
      | inr other ↦ inr (λ full. grind (
        arith,
        f.0.1,
        full.1,
        pow_below_pow f.0.0 full.0,
        pow_below_pow full.0 (suc f.0.0),
      ))
    ]

-- what the checks of functions over ranges try
pub ruleset wholes = (whole_aligned, starts)

pub ruleset leaves = (leaf_aligned, leaf_node, counts)

pub ruleset parts = (front_aligned, rest_aligned, starts, counts)

pub ruleset sides = (above_one, front_side, rest_side, starts)

-- the leaves below the node over a range
pub node_bounds : {range : Range} → IsNodeRange range → range_of (node_over range.start range.count) ≡ range
node_bounds {range} node = grind (arith, over_at, same_range)
