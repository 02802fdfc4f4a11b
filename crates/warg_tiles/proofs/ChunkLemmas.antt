-- The root over the roots of parts of which the last may be shorter.
use Rattle.std.proofs.Common.{◌≡◌, inl, inr, ℕ, suc, ◌+◌, ◌*◌, ◌/◌, ◌%◌, ◌^◌, ◌<◌, ◌≤◌, List, [], ◌∷◌, ◌++◌, length, take, drop, slice_index_or, Option, Some, None, refl, sym, ap, ◌∙◌, arith}
use Rattle.std.specs.Option.{option_to_list}
use Rattle.std.proofs.Math.Nat.{mul-le-mul_left}
use Rattle.std.proofs.Math.Seq.{get_or-append_seam}
use Rattle.std.proofs.Math.ListN.{get_or-append}
use Rattle.std.proofs.lemmas.Nat.{pow_pos, pow-add}
use Rattle.std.proofs.lemmas.Bool.{cases_lt}
use Rattle.std.proofs.lemmas.List.{take_all, length-drop, drop-drop, take-append-le, drop-append-le, length-append, append-nil}
use Rattle.warg_crypto.specs.Tree.{branch}
use Rattle.warg_log.specs.Tree.{root_of}
use Rattle.warg_tiles.specs.Tiles.{TileAt}
use Rattle.warg_tiles.specs.TileLog.{last_tile, tile_digests}
use Rattle.warg_tiles.specs.Private.Edges.{root_if}
use Rattle.warg_tiles.proofs.RootLemmas.{root_one, root_parts, roots_of_chunks}
use Rattle.warg_tiles.proofs.EdgeLemmas.{node_root, pow_up, tile_count, digest_at_place}
use Rattle.warg_tiles.proofs.PushLemmas.{level_count}

-- one digest behind none
pub root_alone : (H : List ℕ → List ℕ) (ds : List (List ℕ)) (last : List ℕ) → length ds ≡ 0
    → last ≡ root_of H (ds ++ last ∷ [])
root_alone H [] last none = sym (root_one H (last ∷ []) refl)
root_alone H (d ∷ ds) last none = absurd (omega arith)

-- the root over digests with one more behind them, by its parts
pub root_behind : (H : List ℕ → List ℕ) (ds front rest : List (List ℕ)) (last left right root : List ℕ) (e : ℕ)
    → 2 ^ e ≤ length ds → length ds < 2 ^ suc e → front ≡ take (2 ^ e) ds → rest ≡ drop (2 ^ e) ds
    → left ≡ root_of H front → right ≡ root_of H (rest ++ last ∷ []) → root ≡ branch H left right
    → root ≡ root_of H (ds ++ last ∷ [])
root_behind H ds front rest last left right root e low high first second l r made = grind
    (arith, pow_pos, length-append, root_parts, take-append-le, drop-append-le)

-- the root of at least one digest
pub root_if_some : (H : List ℕ → List ℕ) (ds : List (List ℕ)) → 0 < length ds → root_if H ds ≡ Some (root_of H ds)
root_if_some H [] some = absurd (omega arith)
root_if_some H (d ∷ ds) some = refl

pub root_if_none : (H : List ℕ → List ℕ) (ds : List (List ℕ)) → length ds ≡ 0 → root_if H ds ≡ None
root_if_none H [] none = refl
root_if_none H (d ∷ ds) none = absurd (omega arith)

-- the leaves before a level's nodes are those before its last tile and those below the tile
pub tile_start : (level m : ℕ) → m * 2 ^ (8 * level) ≡ m / 256 * 2 ^ (8 * (level + 1)) + m % 256 * 2 ^ (8 * level)
tile_start level m = let whole : m ≡ 256 * (m / 256) + m % 256 = omega arith in
    omega (arith, ap (λ n. n * 2 ^ (8 * level)) whole, ap (λ n. m / 256 * n) (pow_up level))

-- a digest of the last tile of a level, by the leaves from the tile's first one on
pub chunk_at : (H : List ℕ → List ℕ) (ds : List (List ℕ)) (level m i : ℕ) → i < m % 256
    → slice_index_or (tile_digests H ds (record { level = level; number = m / 256; width = m % 256 })) i []
    ≡ root_of H (take (2 ^ (8 * level)) (drop (i * 2 ^ (8 * level)) (drop (m / 256 * 2 ^ (8 * (level + 1))) ds)))
chunk_at H ds level m i low =
    let t : TileAt = record { level = level; number = m / 256; width = m % 256 } in
    let p = 2 ^ (8 * level) in
    let at : (256 * (m / 256) + i) * p ≡ m / 256 * 2 ^ (8 * (level + 1)) + i * p = omega
    (arith, ap (λ n. m / 256 * n) (pow_up level)) in
    grind (arith, digest_at_place, node_root, drop-drop)

-- the root over the digests of the last tile of a level and one of what is behind its nodes, if there is any
tile_root : (H : List ℕ → List ℕ) (ds xs : List (List ℕ)) (level m r : ℕ) → length ds ≡ m * 2 ^ (8 * level) + r
    → r < 2 ^ (8 * level) → 0 < m % 256 * 2 ^ (8 * level) + r
    → length xs * 2 ^ (8 * level) < m % 256 * 2 ^ (8 * level) + r + 2 ^ (8 * level)
    → m % 256 * 2 ^ (8 * level) + r ≤ length xs * 2 ^ (8 * level)
    → ((i : ℕ) → i < length xs → slice_index_or xs i []
    ≡ root_of H (take (2 ^ (8 * level)) (drop (i * 2 ^ (8 * level)) (drop (m / 256 * 2 ^ (8 * (level + 1))) ds))))
    → root_of H xs ≡ root_of H (drop (m / 256 * 2 ^ (8 * (level + 1))) ds)
tile_root H ds xs level m r count less some low high each = grind
    (arith, length-drop, tile_start level m, roots_of_chunks, pow-add 2 8 (8 * level), mul-le-mul_left)

-- the root of what is behind the full tiles of a level, by that of what is behind its nodes
pub root_step : (H : List ℕ → List ℕ) (ds : List (List ℕ)) (level n : ℕ) → length ds ≡ n
    → root_if H (tile_digests H ds (last_tile n level) ++ option_to_list
    (root_if H (drop (n / 2 ^ (8 * level) * 2 ^ (8 * level)) ds)))
    ≡ root_if H (drop (n / 2 ^ (8 * (level + 1)) * 2 ^ (8 * (level + 1))) ds)
root_step H ds level n count =
    let p = 2 ^ (8 * level) in
    let m = n / p in
    let a = m / 256 * 2 ^ (8 * (level + 1)) in
    let digests = tile_digests H ds (last_tile n level) in
    let unit : 0 < p = pow_pos (8 * level) in
    let rest : n ≡ m * p + n % p = omega arith in
    let less : n % p < p = omega arith in
    let wide = tile_count H ds (last_tile n level) in
    let product = ap (λ k. k * p) wide in
    let tail : length (drop (m * p) ds) ≡ n % p = omega (arith, length-drop (m * p) ds) in
    let left : length (drop a ds) ≡ m % 256 * p + n % p = omega (arith, length-drop a ds, tile_start level m) in
    rw (← level_count n level) (elim (cases_lt 0 (n % p)) [
      | inl some ↦ let last = root_of H (drop (m * p) ds) in let more : length (digests ++ last ∷ []) ≡ m % 256 + 1
          = omega (arith, length-append digests (last ∷ [])) in rw (
            root_if_some H (drop (m * p) ds) (omega arith),
            root_if_some H (digests ++ last ∷ []) (omega arith),
            root_if_some H (drop a ds) (omega arith),
          ) (ap Some
          (tile_root H ds (digests ++ last ∷ []) level m (n % p) (omega arith) less (omega arith)
          (omega (arith, ap (λ k. k * p) more)) (omega (arith, ap (λ k. k * p) more))
          (grind (
            arith,
            cases_lt,
            get_or-append,
            chunk_at,
            tile_start level m,
            get_or-append_seam digests last [] [],
            take_all p (drop (m * p) ds),
            drop-drop,
          ))))
      | inr none ↦ rw
          (root_if_none H (drop (m * p) ds) (omega arith), append-nil digests)
          (elim (cases_lt 0 (m % 256)) [
            | inl some ↦ let least : 1 * p ≤ m % 256 * p = omega
                (arith, mul-le-mul_left p some) in rw (
                  root_if_some H digests (omega arith),
                  root_if_some H (drop a ds)
                      (omega arith),
                ) (ap Some (tile_root H ds digests level m (n % p) (omega arith) less (omega arith) (omega arith)
                (omega arith) (λ i low. chunk_at H ds level m i (omega arith))))
            | inr few ↦ let nought : m % 256 ≡ 0 = omega
                arith in root_if_none H digests (omega arith) ∙ sym
                (root_if_none H (drop a ds) (omega (arith, ap (λ k. k * p) nought)))
          ])
    ])

-- the root that is there
pub root_found : (H : List ℕ → List ℕ) (ds : List (List ℕ)) (o : Option (List ℕ)) (r : List ℕ) → o ≡ root_if H ds
    → o ≡ Some r → r ≡ root_of H ds
root_found H [] o r is some = let e = sym some ∙ is in cc e
root_found H (d ∷ ds) o r is some = let e = sym some ∙ is in cc e

-- and that of no digests
pub root_lacks : (H : List ℕ → List ℕ) (ds : List (List ℕ)) (o : Option (List ℕ)) → o ≡ root_if H ds → o ≡ None
    → H [] ≡ root_of H ds
root_lacks H [] o is none = refl
root_lacks H (d ∷ ds) o is none = let e = sym none ∙ is in cc e

-- all is behind the last level's tiles
pub root_end : (H : List ℕ → List ℕ) (ds : List (List ℕ)) (n level : ℕ) → n ≤ 2 ^ 63 → level ≡ 8
    → root_if H (drop (n / 2 ^ (8 * level) * 2 ^ (8 * level)) ds) ≡ root_if H ds
root_end H ds n level most last =
    let first : n / 2 ^ (8 * 8) * 2 ^ (8 * 8) ≡ 0 = omega arith in
    rw last (rw first refl)
