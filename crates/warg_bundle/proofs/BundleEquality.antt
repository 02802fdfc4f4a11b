-- What `==` says of bundles: their contract values are equal.
use Rattle.std.proofs.Common.{◌≡◌, ℕ, List, arith, ap}
use Rattle.std.specs.Bool.{Decides}
use Rattle.std.specs.Cmp.Lexicographic.{pointwise_decides}
use Rattle.std.proofs.lemmas.Bool.Decides.{Decides-eqb, Decides-and}
use Rattle.warg_protobuf.specs.MapProofBundle.{MapBundle}
use Rattle.warg_log.specs.declared.node.Node.{Node}
use Rattle.warg_log.proofs.ForCallers.{nodes_decide}
use Rattle.warg_map.proofs.ForCallers.{peers_decide}
use Rattle.warg_bundle.specs.LogBundles.{Bundle, same_pair, same_bundle}
use Rattle.warg_bundle.specs.MapBundles.{same_map_bundle}

pairs_decide : (p q : Node × List ℕ) → Decides (same_pair p q) (p ≡ q)
pairs_decide p q =
    let d = Decides-and _ _ (nodes_decide p.0 q.0) (pointwise_decides Decides-eqb p.1 q.1) in
    (λ e. let h = d.0 e in (λ i. (h.0 i, h.1 i)), λ e. grind (arith, d))

pub log_bundles_decide : (a b : Bundle) → Decides (same_bundle a b) (a ≡ b)
log_bundles_decide a b =
    let lengths = Decides-and _ _ (Decides-eqb a.log_length b.log_length)
    (pointwise_decides Decides-eqb a.consistent_lengths b.consistent_lengths) in
    let d = Decides-and _ _ (Decides-and _ _ lengths (pointwise_decides nodes_decide a.included_nodes b.included_nodes))
    (pointwise_decides pairs_decide a.hashes b.hashes) in (
      λ e. let h = d.0 e in (λ i. record {
        log_length = h.0.0.0 i;
        consistent_lengths = h.0.0.1 i;
        included_nodes = h.0.1 i;
        hashes = h.1 i;
      }),
      λ e. grind (arith, d),
    )

pub map_bundles_decide : (a b : MapBundle) → Decides (same_map_bundle a b) (a ≡ b)
map_bundles_decide a b =
    let d : Decides (same_map_bundle a b) ((a.proofs ≡ b.proofs) × (a.absences ≡ b.absences)) =
    Decides-and _ _ (pointwise_decides peers_decide a.proofs b.proofs)
    (pointwise_decides peers_decide a.absences b.absences) in (
      λ e. let h : (a.proofs ≡ b.proofs) × (a.absences ≡ b.absences) = d.0 e in
          (λ i. record { proofs = h.0 i; absences = h.1 i }),
      λ e. d.1 (ap (λ (x : MapBundle). x.proofs) e, ap (λ (x : MapBundle). x.absences) e),
    )
