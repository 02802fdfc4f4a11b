use Rattle.std.proofs.Common.{inl, inr, ℕ, ◌≡◌, ◌^◌, List, [], ◌∷◌, length, map, refl, sym, ◌∙◌, arith, Some}
use Rattle.warg_crypto.proofs.ForCallers.{ones, zeros}
use Rattle.warg_tiles.proofs.PremiseLemmas.{some_leaves, many, many_count, many_sizes, many_root, many_last, no_row, edge_of_one}
use Rattle.warg_tiles.specs.Tiles.{TileAt}
use Rattle.warg_tiles.specs.TileData.{Tiles}
use Rattle.warg_tiles.specs.TileLog.{partial_tiles}
use Rattle.warg_crypto.specs.Collisions.{GivesHashes}
use Rattle.warg_crypto.specs.Digests.{IsByte}
use Rattle.std.proofs.lemmas.List.Elements.{All-replicate}
use Rattle.warg_log.specs.Tree.{root_within}
use Rattle.warg_tiles.proofs.premises.partial_bound_is_needed.Goals as goal

pub returns : goal.returns
unfolding root_within
returns c = λ law.
    let gives : GivesHashes (λ m. zeros) =
    λ m. record { has_32 = refl; are_bytes = All-replicate IsByte 32 0 (omega arith) } in
    let (leaves, count, sizes) = some_leaves (2 ^ 64) in
    let tiles : Tiles = (record { level = 0; number = 2 ^ 56; width = 1 }, zeros ∷ []) ∷ [] in
    let places : map (λ (t : TileAt × List (List ℕ)). t.0) tiles ≡ partial_tiles (length (many leaves count sizes)) =
    rw (many_count leaves count sizes) refl in
    elim (law (λ m. zeros) (many leaves count sizes) tiles gives (many_sizes leaves count sizes)
    (record { places = places; counts = (refl, tt); hashes = ((refl, tt), tt) })
    (sym (many_root leaves count sizes))) [
      | inl same ↦ let first : Some ones ≡ Some zeros = sym (many_last leaves count sizes)
          ∙ same.0.digest 0 (omega arith) in absurd cc
      | inr c ↦ no_row (edge_of_one _ _ _ _ _ c.placed)
    ]
