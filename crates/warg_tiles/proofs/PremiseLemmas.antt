-- Logs and tiles of which no placed byte strings collide.
use Rattle.std.proofs.Common.{◌≡◌, ◌⊎◌, inl, inr, ℕ, zero, suc, ◌+◌, ◌*◌, ◌/◌, ◌%◌, ◌^◌, ◌<◌, ◌≤◌, ◌==◌, ◌++◌, List, [], ◌∷◌, length, drop, Some, None, refl, sym, ap, ◌∙◌, arith, if◌then◌else◌, length-append, append-nil}
use Rattle.std.specs.Prelude.{replicate, Contains}
use Rattle.std.specs.Option.{option_to_list}
use Rattle.std.proofs.Math.Seq.{drop-append_seam}
use Rattle.std.proofs.lemmas.Bool.{cases_lt, eq-eqb, ne_eqb}
use Rattle.std.proofs.lemmas.List.{length-replicate}
use Rattle.std.proofs.lemmas.List.Elements.{All-replicate, recursion_from_All, Contains-append_cases}
use Rattle.warg_crypto.proofs.ForCallers.{zeros, zeros_are, ones}
use Rattle.warg_crypto.specs.Collisions.{AreHashes, Collides, SomeCollision}
use Rattle.warg_log.specs.Cut.{with_target, way_within, top_of}
use Rattle.warg_log.specs.Nodes.{height_of, height_within, place_of}
use Rattle.warg_log.specs.Ranges.{range_of}
use Rattle.warg_log.specs.Tree.{root_of, root_over, root_within, front_of, front_within, own_digest}
use Rattle.warg_log.proofs.ForCallers.{root_over_parts}
use Rattle.warg_protobuf.proofs.ForCallers.{all_append}
use Rattle.warg_tiles.specs.Tiles.{TileAt, node_in}
use Rattle.warg_tiles.specs.TileData.{Tiles, digest_by}
use Rattle.warg_tiles.specs.CheckpointText.{Said, CanBeSaid}
use Rattle.warg_tiles.specs.TileLog.{root_on, completed_from, completed_at, full_between}
use Rattle.warg_tiles.specs.Between.{levels_from, level_tiles}
use Rattle.warg_tiles.specs.Placed.{IsPart, whole, front, rest, IsRowPlaced, IsEdgePlaced, IsEvaluationPlaced}
use Rattle.warg_tiles.proofs.FullLemmas.{in_front}
use Rattle.warg_tiles.proofs.GrowthLemmas.{level_only}
use Rattle.warg_tiles.proofs.RootLemmas as roots
use Rattle.warg_tiles.proofs.StoredLemmas.{own_at}

-- Each byte string is its own digest, so none collide.
abbrev pub own : List ℕ → List ℕ
own m = m

pub none_collide : (P : List ℕ → List ℕ → Type 0) → ¬ SomeCollision own P
none_collide P c = c.collide.differ c.collide.same

-- Byte strings that are one have one length.
pub some_length : (a b : List ℕ) → Some a ≡ Some b → length a ≡ length b
some_length a b is = let same : a ≡ b = cc in ap length same

-- So many zeros.
abbrev pub bytes : ℕ → List ℕ
bytes n = replicate n 0

-- The first tile of leaf digests, of a width.
abbrev pub leaf_tile : ℕ → TileAt
leaf_tile width = record { level = 0; number = 0; width = width }

-- A digest of one byte or of two by the second byte of what is hashed, where that is 0 or 1, and else of none.
abbrev pub tell : List ℕ → List ℕ
tell [] = []
tell (tag ∷ []) = []
tell (tag ∷ b ∷ more) = if b == 0 then 5 ∷ [] else (if b == 1 then 5 ∷ 5 ∷ [] else [])

-- Of one digest there is one part, and of four there are three of more than one.
pub part_of_one : {a n : ℕ} → IsPart 1 a n → n ≡ 1
part_of_one whole = refl
part_of_one (front a n part more) = let one = part_of_one part in absurd (omega arith)
part_of_one (rest a n part more) = let one = part_of_one part in absurd (omega arith)

in_four : {a n : ℕ} → IsPart 4 a n → (n ≡ 1) ⊎ ((a ≡ 0) × (n ≡ 4)) ⊎ ((a ≡ 0) × (n ≡ 2)) ⊎ ((a ≡ 2) × (n ≡ 2))
unfolding front_of front_within
in_four whole = inr (inl (refl, refl))
in_four (front a n part more) = grind (arith, in_four part)
in_four (rest a n part more) = grind (arith, in_four part)

-- Four leaf digests, and four others of the same root, which no placed byte strings tell apart.
pub tile_apart : (first second : List ℕ)
    → IsRowPlaced tell (ones ∷ zeros ∷ zeros ∷ zeros ∷ []) 1 (zeros ∷ zeros ∷ ones ∷ zeros ∷ []) first second
    → Collides tell (first, second) → ⊥
unfolding root_within front_of front_within
tile_apart first second at c = elim (in_four at.part) [
  | inl one ↦ let more = at.more in omega arith
  | inr (inl all) ↦ let is = rw (all.0, all.1) at at.by_row in let other = rw (all.0, all.1) at at.by_leaves in
      c.differ (is ∙ sym other)
  | inr (inr (inl left)) ↦ let is = rw (left.0, left.1) at at.by_row in let other =
      rw (left.0, left.1) at at.by_leaves in let same : 5 ∷ 5 ∷ [] ≡ 5 ∷ [] = sym (ap tell is) ∙ c.same
      ∙ ap tell other in absurd cc
  | inr (inr (inr right)) ↦ let is = rw (right.0, right.1) at at.by_row in let other =
      rw (right.0, right.1) at at.by_leaves in let same : 5 ∷ [] ≡ 5 ∷ 5 ∷ [] = sym (ap tell is) ∙ c.same
      ∙ ap tell other in absurd cc
]

-- A row of one digest has no place for two byte strings.
pub no_row : {H : List ℕ → List ℕ} {d : List ℕ} {size : ℕ} {leaves : List (List ℕ)} {first second : List ℕ}
    → IsRowPlaced H (d ∷ []) size leaves first second → ⊥
no_row at = let one = part_of_one at.part in let more = at.more in omega arith

-- Of one partial tile, the row is that tile's.
abbrev RowOf : (List ℕ → List ℕ) → TileAt × List (List ℕ) → Tiles → List (List ℕ) → List ℕ → List ℕ → Type 0
RowOf H t lower ds first second =
    IsRowPlaced H (t.1 ++ option_to_list (root_on H None lower)) (2 ^ (8 * t.0.level))
    (drop (256 * t.0.number * 2 ^ (8 * t.0.level)) ds) first second

row_of_one : (H : List ℕ → List ℕ) (t : TileAt × List (List ℕ)) (ds : List (List ℕ)) (first second : List ℕ)
    (lower : Tiles) (tile : TileAt × List (List ℕ)) (upper : Tiles)
    → t ∷ [] ≡ lower ++ tile ∷ upper → RowOf H tile lower ds first second → RowOf H t [] ds first second
row_of_one H t ds first second [] tile upper split row = let is : tile ≡ t = cc in
    rw is at row
row_of_one H t ds first second (other ∷ lower) tile upper split row =
    absurd (omega (arith, ap length split, length-append lower (tile ∷ upper)))

pub edge_of_one : (H : List ℕ → List ℕ) (t : TileAt × List (List ℕ)) (ds : List (List ℕ)) (first second : List ℕ)
    → IsEdgePlaced H (t ∷ []) ds first second → RowOf H t [] ds first second
edge_of_one H t ds first second at = row_of_one H t ds first second at.lower at.tile at.upper at.split at.row

-- The first of four leaves, and one tile that gives others of the same root, which no placed byte strings tell apart.
abbrev pub other_four : Tiles
other_four = (leaf_tile 4, ones ∷ zeros ∷ zeros ∷ zeros ∷ []) ∷ []

abbrev pub four : List (List ℕ)
four = zeros ∷ zeros ∷ ones ∷ zeros ∷ []

pub evaluation_apart : (first second : List ℕ)
    → IsEvaluationPlaced tell (with_target (digest_by tell other_four) (range_of 0) ones) four first second
    → Collides tell (first, second) → ⊥
unfolding root_within front_of front_within height_of height_within place_of way_within top_of
evaluation_apart first second at c = elim (in_four at.part) [
  | inl one ↦ let more = at.more in omega arith
  | inr (inl all) ↦ let is = rw (all.0, all.1) at at.by_data in let other = rw (all.0, all.1) at at.by_leaves in
      c.differ cc
  | inr (inr (inl left)) ↦ let by : Some (1 ∷ ones ++ zeros) ≡ Some first = rw (left.0, left.1) at at.by_data in
      let is : 1 ∷ ones ++ zeros ≡ first = cc in let other = rw (left.0, left.1) at at.by_leaves in
      let same : 5 ∷ 5 ∷ [] ≡ 5 ∷ [] = ap tell is ∙ c.same ∙ ap tell other in absurd cc
  | inr (inr (inr right)) ↦ let by : Some (1 ∷ zeros ++ zeros) ≡ Some first = rw (right.0, right.1) at at.by_data in
      let is : 1 ∷ zeros ++ zeros ≡ first = cc in let other = rw (right.0, right.1) at at.by_leaves in
      let same : 5 ∷ [] ≡ 5 ∷ 5 ∷ [] = ap tell is ∙ c.same ∙ ap tell other in absurd cc
]

-- Of no entries there is no part, and of two there is one of more than one.
pub part_of_none : {a n : ℕ} → IsPart 0 a n → n ≡ 0
part_of_none whole = refl
part_of_none (front a n part more) = let none = part_of_none part in absurd (omega arith)
part_of_none (rest a n part more) = let none = part_of_none part in absurd (omega arith)

pub in_two : {a n : ℕ} → IsPart 2 a n → (n ≡ 1) ⊎ ((a ≡ 0) × (n ≡ 2))
unfolding front_of front_within
in_two whole = inr (refl, refl)
in_two (front a n part more) = elim (in_two part) [ inl one ↦ absurd (omega arith) | inr all ↦ inl (rw all.1 refl) ]
in_two (rest a n part more) = elim (in_two part) [ inl one ↦ absurd (omega arith) | inr all ↦ inl (rw all.1 refl) ]

-- Without tiles, an evaluation of the first of two leaves takes nothing at the root.
pub nothing_taken : (H : List ℕ → List ℕ) (first second : List ℕ)
    → IsEvaluationPlaced H (with_target (digest_by H []) (range_of 0) zeros) (zeros ∷ zeros ∷ []) first second → ⊥
unfolding front_of front_within height_of height_within place_of way_within top_of
nothing_taken H first second at = grind (arith, in_two)

-- The full tiles that a length's last entry completes are on so many levels.
pub completed_low : (k level count : ℕ) (t : TileAt) → Contains (completed_from k level count) t → t.level < level + k
unfolding completed_from
completed_low zero level count t has = absurd (omega (arith, has.1))
completed_low (suc k) level count t has =
    (elim (cases_lt 0 (count % 256)) as (λ _. Contains (completed_from (suc k) level count) t
    → t.level < level + suc k) [
      | inl other ↦ rw (ne_eqb (count % 256) 0 (λ none. omega arith)) (λ has. absurd (omega (arith, has.1)))
      | inr none ↦
          let full : count % 256 ≡ 0 = omega arith in
          rw (eq-eqb (count % 256) 0 full) (λ has. elim (in_front _ t _ has) [
            | inl is ↦ omega (arith, ap (λ (s : TileAt). s.level) is)
            | inr there ↦ let low = completed_low k (level + 1) (count / 256) t there in omega arith
          ])
    ]) has

-- So are the tiles between two lengths.
pub levels_low : (k level old new : ℕ) (t : TileAt) → old ≤ new → Contains (levels_from k level old new) t
    → t.level < level + k
unfolding levels_from
levels_low zero level old new t order has = absurd (omega (arith, has.1))
levels_low (suc k) level old new t order has =
    elim (Contains-append_cases (level_tiles level (old / 2 ^ (8 * level)) (new / 2 ^ (8 * level)))
    (levels_from k (level + 1) old new) t has) [
      | inl here ↦ let at = level_only level old new t order here in omega (arith, at.0)
      | inr there ↦ let low = levels_low k (level + 1) old new t order there in omega arith
    ]

-- A log of more leaves than tiles of eight levels take, the last of another digest than all have: so many, and one
-- behind.
module _ (before : List (List ℕ)) (count : length before ≡ 2 ^ 64) (sizes : AreHashes before) where
  abbrev pub many : List (List ℕ)
  many = before ++ ones ∷ []

  pub many_count : length many ≡ 2 ^ 64 + 1
  many_count = length-append before (ones ∷ []) ∙ ap (λ n. n + 1) count

  pub many_sizes : AreHashes many
  many_sizes = all_append (λ (d : List ℕ). length d ≡ 32) before (ones ∷ []) sizes (refl, tt)

  -- Where each digest is zeros, so is the root, and the last leaf's digest is ones.
  pub many_root : root_of (λ m. zeros) many ≡ zeros
  many_root = sym (roots.whole (λ m. zeros) many) ∙ ap (λ n. root_over (λ m. zeros) many 0 n) many_count
      ∙ root_over_parts (λ m. zeros) many 0 (2 ^ 64 + 1) (omega arith) (omega (arith, many_count))

  pub many_last : own_digest (λ m. zeros) many (node_in (record { level = 0; number = 2 ^ 56; width = 1 }) 0)
      ≡ Some ones
  unfolding root_within
  many_last =
      own_at (λ m. zeros) many (record { level = 0; number = 2 ^ 56; width = 1 }) 0 ones (omega (arith, many_count))
      (sym (rw (ap (λ n. drop n many) (sym count) ∙ drop-append_seam before (ones ∷ [])) refl))

-- So many digests.
pub some_leaves : (n : ℕ) → (leaves : List (List ℕ)) × (length leaves ≡ n) × AreHashes leaves
some_leaves n = (
  replicate n zeros,
  length-replicate n zeros,
  recursion_from_All (λ d. length d ≡ 32) (replicate n zeros) (All-replicate (λ d. length d ≡ 32) n zeros refl),
)

-- What is filled between two lengths that differ by one is what the greater one completes.
pub only_last : (t : TileAt) → Contains (full_between 4722366482869645213695 4722366482869645213696) t
    → Contains (completed_at 4722366482869645213696) t
only_last t has = rw (append-nil (completed_at 4722366482869645213696)) at has

-- A checkpoint's text with two further lines, and one with both as one line.
abbrev said_with : List (List ℕ) → Said
said_with extensions = record { origin = 97 ∷ []; length = 0; root = zeros; extensions = extensions }

abbrev pub two_lines : Said
two_lines = said_with ((98 ∷ []) ∷ (99 ∷ []) ∷ [])

abbrev pub two_lines_at_once : Said
two_lines_at_once = said_with ((98 ∷ 10 ∷ 99 ∷ []) ∷ [])

pub lines_can_be_said : CanBeSaid two_lines
lines_can_be_said = grind (arith, zeros_are)
