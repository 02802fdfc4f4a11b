use Rattle.std.proofs.Common.{length, sym, ◌∙◌, ap, arith}
use Rattle.std.proofs.lemmas.Nat.{pow_pos}
use Rattle.warg_log.proofs.ForCallers.{starts, counts, inclusion_leads}
use Rattle.warg_witness.proofs.RangeLemmas.{node_aligned, node_range}
use Rattle.warg_witness.proofs.CutLemmas.{leaves_count, have_root, root_led}
use Rattle.warg_witness.proofs.log.meet_tree.Goals as goal

pub returns-in_err-divergence : goal.returns-in_err-divergence
returns-in_err-divergence g c entries is = rw c.from_residual.ensures (λ met.
    let leads = (inclusion_leads _ _ c.args.proof.now _ _).0 met.is in
    (rw (
      c.plain_digest-plain.ensures,
      c.leaf_range-target.ensures,
      c.leaf.ensures,
      c.new-whole.ensures,
      c.log_length.ensures.value ∙ sym c.requires.count,
    ) at c.in_err-divergence.ensures)
    (have_root _ _ (rw (c.requires.count, is) leads.1) (rw c.requires.count (omega (arith, leads.0, pow_pos)))))

pub returns : goal.returns
returns g c entries is =
    let target = rw c.leaf.ensures at c.leaf_range-target.ensures in
    let all = c.requires.count in
    let met = rw (c.plain_digest-plain.ensures, target, c.new-whole.ensures, c.log_length.ensures.value ∙ sym all) at
    c.in_ok-divergence.ensures in
    let root = rw (all, is) at (root_led _ _ met.0 (rw all (omega (arith, c.requires.exists, pow_pos)))) in (
      record {
        target_is = target;
        aligned = rw target (node_aligned (node_range _));
        within = omega (arith, starts target, counts target);
        plain_is = c.plain_digest-plain.ensures;
      },
      record {
        met = record {
          count = sym (leaves_count g.D.SupportedDigest.digest entries) ∙ sym (ap length is) ∙ all;
          is = (inclusion_leads _ _ c.args.proof.now _ _).1 (c.requires.exists, root);
        };
        tree_is = is;
        diverges = met.1;
      },
    )
