-- The tiles by which a log grows are those that it has at its new length and hadn't at its old one, each once.
use Rattle.std.proofs.Common.{◌≡◌, ◌≢◌, ℕ, zero, suc, ◌+◌, ◌-◌, ◌*◌, ◌/◌, ◌^◌, ◌<◌, ◌≤◌, min, List, [], ◌++◌, length, map, get_or, inl, inr, refl, sym, ap, subst, ◌∙◌, arith, length-append}
use Rattle.std.specs.List.{range_with_len, Contains, AllPairs}
use Rattle.std.proofs.Math.Nat.{div-eq_of_lt, div-mul-le_self}
use Rattle.std.proofs.Math.Pow.{pow_mono}
use Rattle.std.proofs.Math.ListN.{get_or-append}
use Rattle.std.proofs.lemmas.List.{get_or-append_right}
use Rattle.std.proofs.lemmas.List.Elements.{Contains-append_left, Contains-append_right, Contains-append_cases, Contains-get_or}
use Rattle.std.proofs.lemmas.List.FromFn.{length-map-range_with_len, get_or-map-range_with_len}
use Rattle.std.proofs.lemmas.Bool.{cases_lt, ne_eqb, eq-eqb}
use Rattle.std.proofs.lemmas.Nat.{pow_pos, le-div}
use Rattle.warg_tiles.specs.Tiles.{TileAt}
use Rattle.warg_tiles.specs.Between.{IsTileOf, filled, level_tiles, levels_from, tiles_between, AreNew}

-- a level has no tiles where no node is new, and else those of a range of numbers
by_level : (P : List TileAt → Type 0) (level old new : ℕ) → old ≤ new → (old ≡ new → P [])
    → (old < new → P (map (filled level new) (range_with_len (old / 256) ((new + 255) / 256 - old / 256))))
    → P (level_tiles level old new)
by_level P level old new order none some = grind (arith, cases_lt, ne_eqb, eq-eqb)

-- a longer log has no fewer nodes of a level
higher : (old new level : ℕ) → old ≤ new → old / 2 ^ (8 * level) ≤ new / 2 ^ (8 * level)
higher old new level order = grind (arith, le-div, pow_pos, div-mul-le_self)

-- a tile of a level's list is new
pub level_only : (level old new : ℕ) (t : TileAt) → old ≤ new
    → Contains (level_tiles level (old / 2 ^ (8 * level)) (new / 2 ^ (8 * level))) t
    → (t.level ≡ level) × (IsTileOf new t × (IsTileOf old t → ⊥))
level_only level old new t order = grind (arith, by_level, higher, length-map-range_with_len, get_or-map-range_with_len)

-- a new tile stands in its level's list
in_level : (old new : ℕ) (t : TileAt) → old ≤ new → IsTileOf new t → (IsTileOf old t → ⊥)
    → Contains (level_tiles t.level (old / 2 ^ (8 * t.level)) (new / 2 ^ (8 * t.level))) t
in_level old new t order is isnt =
    let a = old / 2 ^ (8 * t.level) in
    let b = new / 2 ^ (8 * t.level) in
    let more_nodes = higher old new t.level order in
    let differ : t.width ≢ min (a - 256 * t.number) 256 = λ same. isnt (record { some = is.some; width = same }) in
    by_level (λ l. Contains l t) t.level a b more_nodes
    (λ same. absurd (differ (is.width ∙ ap (λ n. min (n - 256 * t.number) 256) (sym same))))
    (λ more. let from : a / 256 ≤ t.number = omega (arith, is.width, differ) in let to : t.number < (b + 255) / 256
    = omega (arith, is.some, is.width) in (
      t.number - a / 256,
      omega
          (arith, length-map-range_with_len (filled t.level b) (a / 256) ((b + 255) / 256 - a / 256)),
      grind
          (arith, get_or-map-range_with_len),
    ))

-- a tile of the levels' lists is new
levels_only : (k level old new : ℕ) (t : TileAt) → old ≤ new → Contains (levels_from k level old new) t
    → (level ≤ t.level) × (IsTileOf new t × (IsTileOf old t → ⊥))
unfolding levels_from
levels_only zero level old new t order has = absurd (omega (arith, has.1))
levels_only (suc k) level old new t order has =
    elim (Contains-append_cases (level_tiles level (old / 2 ^ (8 * level)) (new / 2 ^ (8 * level)))
    (levels_from k (level + 1) old new) t has) [
      | inl here ↦ let f = level_only level old new t order here in (omega (arith, f.0), f.1)
      | inr there ↦ let f = levels_only k (level + 1) old new t order there in (omega (arith, f.0), f.1)
    ]

-- a new tile stands in the levels' lists
in_levels : (k level old new : ℕ) (t : TileAt) → old ≤ new → level ≤ t.level → t.level < level + k → IsTileOf new t
    → (IsTileOf old t → ⊥) → Contains (levels_from k level old new) t
unfolding levels_from
in_levels zero level old new t order from to is isnt = absurd (omega arith)
in_levels (suc k) level old new t order from to is isnt =
    let tiles : ℕ → List TileAt = λ l. level_tiles l (old / 2 ^ (8 * l)) (new / 2 ^ (8 * l)) in
    elim (cases_lt level t.level) [
      | inl above ↦ Contains-append_right (tiles level) (levels_from k (level + 1) old new) t
          (in_levels k (level + 1) old new t order (omega arith) (omega arith) is isnt)
      | inr here ↦ Contains-append_left (tiles level) (levels_from k (level + 1) old new) t
          (subst (λ l. Contains (tiles l) t) (omega arith) (in_level old new t order is isnt))
    ]

-- pairs of two lists
pub all_pairs_append : (R : TileAt → TileAt → Type 0) (xs ys : List TileAt) → AllPairs R xs → AllPairs R ys
    → ((s t : TileAt) → Contains xs s → Contains ys t → R s t) → AllPairs R (xs ++ ys)
all_pairs_append R xs ys left right across i j d order inside =
    let count = length-append xs ys in
    let low_at : (k : ℕ) → k < length xs → get_or xs k d ≡ get_or (xs ++ ys) k d =
    λ k low. sym (get_or-append xs ys d k low) in
    let high_at : (k : ℕ) → length xs ≤ k → get_or ys (k - length xs) d ≡ get_or (xs ++ ys) k d =
    λ k high. sym (get_or-append_right xs ys (length xs) k d refl high) in
    elim (cases_lt j (length xs)) [
      | inl low ↦ rw (low_at i (omega arith)) at
          (subst (R (get_or xs i d)) (low_at j low) (left i j d order low))
      | inr high ↦ elim (cases_lt i (length xs)) [
        | inl low ↦ rw (low_at i low) at
            (subst (R (get_or xs i d)) (high_at j high)
            (across (get_or xs i d) (get_or ys (j - length xs) d) (Contains-get_or xs i d low)
            (Contains-get_or ys (j - length xs) d (omega arith))))
        | inr both ↦ rw (high_at i both) at
            (subst (R (get_or ys (i - length xs) d)) (high_at j high)
            (right (i - length xs) (j - length xs) d (omega arith) (omega arith)))
      ]
    ]

-- a level's tiles have different numbers
once_level : (level old new : ℕ) → old ≤ new → AllPairs (λ (s t : TileAt). s ≢ t) (level_tiles level old new)
once_level level old new order = grind (arith, length-map-range_with_len, by_level, get_or-map-range_with_len)

once_levels : (k level old new : ℕ) → old ≤ new → AllPairs (λ (s t : TileAt). s ≢ t) (levels_from k level old new)
unfolding levels_from
once_levels zero level old new order = λ i j d before inside same. omega arith
once_levels (suc k) level old new order = all_pairs_append (λ (s t : TileAt). s ≢ t) _
    (levels_from k (level + 1) old new) (once_level level (old / 2 ^ (8 * level)) (new / 2 ^ (8 * level))
    (higher old new level order)) (once_levels k (level + 1) old new order)
    (λ s t here there same. grind (
      arith,
      level_only level old new s order here,
      levels_only k (level + 1) old new t
          order there,
    ))

-- a tile of a log stands below level 8
pub low_level : (n : ℕ) (t : TileAt) → n ≤ 2 ^ 63 → IsTileOf n t → t.level < 8
low_level n t fits is = elim (cases_lt t.level 8) [
  | inl low ↦ low
  | inr high ↦
      let power = pow_mono {i = 64} {j = 8 * t.level} (omega arith) in
      let none : n / 2 ^ (8 * t.level) ≡ 0 = div-eq_of_lt (omega arith) in
      absurd (omega (arith, is.some, is.width))
]

pub all_new : (old new : ℕ) → old ≤ new → new ≤ 2 ^ 63 → AreNew old new (tiles_between old new)
all_new old new order fits = record {
  exactly = λ t. (
    λ has. (levels_only 8 0 old new t order has).1,
    λ is. in_levels 8 0 old new t order (omega arith)
        (low_level new t fits is.0) is.0 is.1,
  );
  once = once_levels 8 0 old new order;
}
