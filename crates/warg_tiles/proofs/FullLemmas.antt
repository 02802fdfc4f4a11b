-- The full and the partial tiles of a length, each once.
use Rattle.std.proofs.Common.{◌≡◌, ◌≢◌, ◌⊎◌, inl, inr, ℕ, zero, suc, ◌+◌, ◌-◌, ◌*◌, ◌/◌, ◌%◌, ◌^◌, ◌<◌, ◌≤◌, min, List, [], ◌∷◌, ◌++◌, refl, sym, ap, subst, ◌∙◌, arith}
use Rattle.std.specs.List.{Contains, AllPairs}
use Rattle.std.proofs.Math.Nat.{div-mul-le_self, mul-le-mul_left, eq_of_mul-eq-mul_right}
use Rattle.std.proofs.lemmas.Bool.{cases_lt, eq-eqb, ne_eqb}
use Rattle.std.proofs.lemmas.List.Elements.{Contains-append_left, Contains-append_right, Contains-append_cases}
use Rattle.std.proofs.lemmas.Nat.{pow_pos, pow-add, le-div}
use Rattle.warg_tiles.specs.Tiles.{TileAt, tile_end}
use Rattle.warg_tiles.specs.Between.{IsTileOf}
use Rattle.warg_tiles.specs.TileLog.{last_tile, partial_tiles, completed_from, completed_at, full_between, IsFilledBefore, AreFullBetween, ArePartialOf}
use Rattle.warg_tiles.specs.Private.Edges.{partial_from}
use Rattle.warg_tiles.proofs.BetweenLemmas.{same_tile}
use Rattle.warg_tiles.proofs.EdgeLemmas.{pow_up}
use Rattle.warg_tiles.proofs.GrowthLemmas.{all_pairs_append, low_level}
use Rattle.warg_tiles.proofs.OpenLemmas.{from_none, from_some}
use Rattle.warg_tiles.proofs.PushLemmas.{full_more}

-- what stands in a list with one more in front
pub in_front : (x y : TileAt) (xs : List TileAt) → Contains (x ∷ xs) y → (x ≡ y) ⊎ Contains xs y
in_front x y xs (zero, low, is) = inl is
in_front x y xs (suc k, low, is) = inr (k, omega arith, is)

one_alone : (R : TileAt → TileAt → Type 0) (x : TileAt) → AllPairs R (x ∷ [])
one_alone R x i j d order inside = absurd (omega arith)

none_alone : (R : TileAt → TileAt → Type 0) → AllPairs R []
none_alone R i j d order inside = absurd (omega arith)

-- tiles in an order that is strict are different
pub once_by : (R : TileAt → TileAt → Type 0) → ((s t : TileAt) → R s t → s ≢ t) → (tiles : List TileAt)
    → AllPairs R tiles → AllPairs (λ (s t : TileAt). s ≢ t) tiles
once_by R strict tiles all i j d order inside = strict _ _ (all i j d order inside)

-- the tiles that an entry completes, by where they end
completed_only : (k level count : ℕ) (t : TileAt) → 0 < count → Contains (completed_from k level count) t
    → (t.width ≡ 256) × (level ≤ t.level) × (tile_end t ≡ count * 2 ^ (8 * level))
unfolding completed_from
completed_only zero level count t some has = absurd (omega (arith, has.1))
completed_only (suc k) level count t some has = (elim (cases_lt 0 (count % 256))
    as (λ _. Contains (completed_from (suc k) level count) t → (t.width ≡ 256) × (level ≤ t.level) ×
    (tile_end t ≡ count * 2 ^ (8 * level))) [
      | inl rest ↦ rw (ne_eqb (count % 256) 0 (λ none. omega arith))
          (λ has. absurd (omega (arith, has.1)))
      | inr none ↦ let full : count % 256 ≡ 0 = omega arith in let
          whole : count ≡ count / 256 * 256 = omega arith in let up : count / 256 * 2 ^ (8 * (level + 1)) ≡ count * 2 ^
          (8 * level) = omega (arith, ap (λ p. count / 256 * p) (pow_up level), ap (λ n. n * 2 ^ (8 * level)) whole) in rw
          (eq-eqb (count % 256) 0 full) (grind (arith, in_front, completed_only k (level + 1) (count / 256) t))
    ]) has

in_completed : (k level count : ℕ) (t : TileAt) → t.width ≡ 256 → level ≤ t.level → t.level < level + k
    → tile_end t ≡ count * 2 ^ (8 * level) → Contains (completed_from k level count) t
unfolding completed_from
in_completed zero level count t full low high ends = absurd (omega arith)
in_completed (suc k) level count t full low high ends =
    let p = 2 ^ (8 * level) in
    let unit : 0 < p = pow_pos (8 * level) in
    let wide : (256 * t.number + 256) * 2 ^ (8 * t.level) ≡ count * p =
    ap (λ w. (256 * t.number + w) * 2 ^ (8 * t.level)) (sym full) ∙ ends in
    elim (cases_lt level t.level) [
      | inr same ↦
          let here : t.level ≡ level = omega arith in
          let last : 256 * t.number + 256 ≡ count = eq_of_mul-eq-mul_right p unit _ _
          (ap (λ l. (256 * t.number + 256) * 2 ^ (8 * l)) (sym here) ∙ wide) in
          rw (eq-eqb (count % 256) 0 (omega arith))
          (zero, omega arith, sym (same_tile t level (count / 256 - 1) 256 here (omega arith) full))
      | inl above ↦
          let q = 2 ^ (8 * (t.level - (level + 1))) in
          let parts : 8 * t.level ≡ 8 * (t.level - (level + 1)) + 8 * (level + 1) = omega arith in
          let size : 2 ^ (8 * t.level) ≡ q * (256 * p) = ap (λ e. 2 ^ e) parts ∙ pow-add 2 (8 * (t.level - (level + 1)))
          (8 * (level + 1)) ∙ ap (λ u. q * u) (pow_up level) in
          let product : 256 * ((256 * t.number + 256) * q) * p ≡ count * p =
          omega (arith, ap (λ u. (256 * t.number + 256) * u) size, wide) in
          let whole : 256 * ((256 * t.number + 256) * q) ≡ count = eq_of_mul-eq-mul_right p unit _ _ product in
          let none : count % 256 ≡ 0 = omega arith in
          let up : count * p ≡ count / 256 * 2 ^ (8 * (level + 1)) = let w : count ≡ count / 256 * 256 = omega arith in
          omega (arith, ap (λ u. count / 256 * u) (pow_up level), ap (λ n. n * p) w) in
          let there = in_completed k (level + 1) (count / 256) t full (omega arith) (omega arith) (ends ∙ up) in
          rw (eq-eqb (count % 256) 0 none) (suc there.0, omega (arith, there.1), there.2)
    ]

completed_order : (k level count : ℕ) → 0 < count → AllPairs IsFilledBefore (completed_from k level count)
unfolding completed_from
completed_order zero level count some = none_alone IsFilledBefore
completed_order (suc k) level count some = elim (cases_lt 0 (count % 256))
    as (λ _. AllPairs IsFilledBefore (completed_from (suc k) level count)) [
      | inl rest ↦ rw (ne_eqb (count % 256) 0 (λ none. omega arith)) (none_alone IsFilledBefore)
      | inr none ↦ let
          full : count % 256 ≡ 0 = omega arith in let first : TileAt = record
          { level = level; number = count / 256 - 1; width = 256 } in let last : 256 * (count / 256 - 1) + 256 ≡ count =
          omega arith in let ends : tile_end first ≡ count * 2 ^ (8 * level) = ap (λ n. n * 2 ^ (8 * level)) last in let
          whole : count ≡ count / 256 * 256 = omega arith in let up : count / 256 * 2 ^ (8 * (level + 1)) ≡ count * 2 ^
          (8 * level) = omega (arith, ap (λ p. count / 256 * p) (pow_up level), ap (λ n. n * 2 ^ (8 * level)) whole) in rw
          (eq-eqb (count % 256) 0 full) (all_pairs_append IsFilledBefore (first ∷ [])
          (completed_from k (level + 1) (count / 256)) (one_alone IsFilledBefore first)
          (completed_order k (level + 1) (count / 256) (omega arith))
          (λ s t here there. grind (arith, in_front, completed_only k (level + 1) (count / 256) t)))
    ]

-- those between two lengths
at_length : (n : ℕ) → n * 2 ^ (8 * 0) ≡ n
at_length n = omega arith

full_none : (old : ℕ) → full_between old (old + 0) ≡ []
full_none old = let nothing : old + 0 - old ≡ 0 = omega arith in
    rw nothing refl

full_next : (old d : ℕ) → full_between old (old + suc d) ≡ full_between old (old + d) ++ completed_at (old + d + 1)
full_next old d = let next : old + suc d ≡ old + d + 1 = omega arith in rw next
    (full_more old (old + d) (omega arith))

full_only : (d old : ℕ) (t : TileAt) → Contains (full_between old (old + d)) t → (t.width ≡ 256) × (old < tile_end t)
    × (tile_end t ≤ old + d)
full_only zero old t has = let none = rw (full_none old) at has in absurd (omega (arith, none.1))
full_only (suc d) old t has = elim (Contains-append_cases (full_between old (old + d)) (completed_at (old + d + 1)) t
    (rw (full_next old d) at has)) [
      | inl before ↦ let f = full_only d old t before in (f.0, f.1, omega (arith, f.2))
      | inr now ↦ let f = completed_only 8 0 (old + d + 1) t (omega arith) now in let ends = f.2
          ∙ at_length (old + d + 1) in (f.0, omega arith, omega arith)
    ]

in_full : (d old : ℕ) (t : TileAt) → t.width ≡ 256 → t.level < 8 → old < tile_end t → tile_end t ≤ old + d
    → Contains (full_between old (old + d)) t
in_full zero old t full low from to = absurd (omega arith)
in_full (suc d) old t full low from to =
    rw (full_next old d)
    (elim (cases_lt (tile_end t) (old + d + 1)) [
      | inl before ↦ Contains-append_left (full_between old (old + d)) (completed_at (old + d + 1)) t
          (in_full d old t full low from (omega arith))
      | inr now ↦ let ends : tile_end t ≡ old + d + 1 = omega arith in
          Contains-append_right (full_between old (old + d)) (completed_at (old + d + 1)) t
          (in_completed 8 0 (old + d + 1) t full (omega arith) (omega arith) (ends ∙ sym (at_length (old + d + 1))))
    ])

full_order : (d old : ℕ) → AllPairs IsFilledBefore (full_between old (old + d))
full_order zero old = subst (AllPairs IsFilledBefore) (sym (full_none old)) (none_alone IsFilledBefore)
full_order (suc d) old = rw (full_next old d) (all_pairs_append IsFilledBefore (full_between old (old + d))
    (completed_at (old + d + 1)) (full_order d old) (completed_order 8 0 (old + d + 1) (omega arith))
    (λ s t here there. grind (
      arith,
      full_only d old s here,
      completed_only 8 0 (old + d + 1) t,
      at_length
          (old + d + 1),
    )))

-- a full tile is there from its end on
there_from : (n : ℕ) (t : TileAt) → t.width ≡ 256 → tile_end t ≤ n → IsTileOf n t
there_from n t full ends = grind (arith, le-div, pow_pos)

end_there : (n : ℕ) (t : TileAt) → t.width ≡ 256 → IsTileOf n t → tile_end t ≤ n
end_there n t full is =
    let p = 2 ^ (8 * t.level) in
    let wide = ap (λ w. (256 * t.number + w) * p) full in
    let least : 256 * t.number + 256 ≤ n / p = omega (arith, is.width) in
    let product : (256 * t.number + 256) * p ≤ n / p * p = omega (arith, mul-le-mul_left p least) in
    omega (arith, div-mul-le_self n p)

differ_by_order : (s t : TileAt) → IsFilledBefore s t → s ≢ t
differ_by_order s t (inl earlier) same = omega (arith, ap tile_end same)
differ_by_order s t (inr lower) same = omega (arith, lower.1, ap (λ (x : TileAt). x.level) same)

full_later : (old new : ℕ) → old ≤ new → new ≤ 2 ^ 63 → AreFullBetween old new (full_between old new)
full_later old new order fits =
    let whole : old + (new - old) ≡ new = omega arith in
    let pairs = rw whole at (full_order (new - old) old) in
    record {
      exactly = λ t. (
        λ has.
            let f = full_only (new - old) old t (rw whole has) in
            (f.0, there_from new t f.0 (omega (arith, f.2)), λ older. omega (arith, f.1, end_there old t f.0 older)),
        λ is.
            let to = end_there new t is.0 is.1 in
            let from : old < tile_end t = elim (cases_lt old (tile_end t)) [
              | inl more ↦ more
              | inr less ↦ absurd
                  (is.2 (there_from old t is.0 less))
            ] in
            rw whole at
            (in_full (new - old) old t is.0 (low_level new t fits is.1) from (omega arith)),
      );
      once = once_by IsFilledBefore differ_by_order (full_between old new) pairs;
      order = pairs;
    }

-- where the length is no greater, no tile is new
full_before : (old new : ℕ) → new < old → AreFullBetween old new (full_between old new)
full_before old new order = grind (arith, there_from, end_there, none_alone)

pub all_full : (old new : ℕ) → new ≤ 2 ^ 63 → AreFullBetween old new (full_between old new)
all_full old new fits =
    elim (cases_lt new old) [ inl before ↦ full_before old new before | inr later ↦ full_later old new later fits ]

-- the partial tiles from a level on
partial_only : (k level n : ℕ) (t : TileAt) → level + k ≡ 8 → Contains (partial_from n level) t → (level ≤ t.level)
    × (IsTileOf n t × (t.width < 256))
partial_only zero level n t last has = grind arith
partial_only (suc k) level n t last has = grind (
  arith,
  cases_lt,
  in_front,
  from_some,
  partial_only k (level + 1) n
      t,
  from_none,
)

in_partial : (k level n : ℕ) (t : TileAt) → level + k ≡ 8 → level ≤ t.level → t.level < 8 → IsTileOf n t → t.width < 256
    → Contains (partial_from n level) t
in_partial zero level n t last from to is few = absurd (omega arith)
in_partial (suc k) level n t last from to is few = elim (cases_lt level t.level) [
  | inl above ↦
      let there = in_partial k (level + 1) n t (omega arith) (omega arith) to is few in
      elim (cases_lt 0 (n / 2 ^ (8 * level) % 256)) [
        | inl some ↦ rw (from_some n level (omega arith) some)
            (suc there.0, omega (arith, there.1), there.2)
        | inr none ↦ rw (from_none n level (omega arith) (omega arith)) there
      ]
  | inr here ↦
      let same : t.level ≡ level = omega arith in
      let width : t.width ≡ min (n / 2 ^ (8 * level) - 256 * t.number) 256 = is.width
      ∙ ap (λ l. min (n / 2 ^ (8 * l) - 256 * t.number) 256) same in
      let some = is.some in
      rw (from_some n level (omega arith) (omega arith)) (
        zero,
        omega arith,
        sym (same_tile t level (n / 2 ^ (8 * level) / 256) (n / 2 ^ (8 * level) % 256) same
            (omega arith) (omega arith)),
      )
]

partial_order : (k level n : ℕ) → level + k ≡ 8 → AllPairs (λ (s t : TileAt). s.level < t.level) (partial_from n level)
partial_order zero level n last = grind (arith, none_alone)
partial_order (suc k) level n last =
    let Below : TileAt → TileAt → Type 0 = λ s t. s.level < t.level in
    elim (cases_lt 0 (n / 2 ^ (8 * level) % 256)) [
      | inl some ↦ subst (AllPairs Below)
          (sym (from_some n level (omega arith) some)) (all_pairs_append Below (last_tile n level ∷ [])
          (partial_from n (level + 1)) (one_alone Below (last_tile n level)) (partial_order k (level + 1) n (omega arith))
          (λ s t here there. grind (arith, in_front (last_tile n level) s [] here, partial_only k (level + 1) n t)))
      | inr
          none ↦ subst (AllPairs Below) (sym (from_none n level (omega arith) (omega arith)))
          (partial_order k (level + 1) n (omega arith))
    ]

pub all_partial : (n : ℕ) → n ≤ 2 ^ 63 → ArePartialOf n (partial_tiles n)
all_partial n fits = record {
  exactly = λ t. (
    λ has. (partial_only 8 0 n t refl has).1,
    λ is. in_partial 8 0 n t refl (omega arith)
        (low_level n t fits is.0) is.0 is.1,
  );
  once = once_by (λ (s t : TileAt). s.level < t.level)
      (λ s t less same. omega (arith, ap (λ (x : TileAt). x.level) same)) (partial_tiles n) (partial_order 8 0 n refl);
  order = partial_order 8 0 n refl;
}
