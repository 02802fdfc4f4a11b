use Rattle.std.proofs.Common.{Some, ap, ◌∙◌}
use Rattle.warg_log.proofs.SliceLemmas.{inside_slice, slice_size, own_digest_held}
use Rattle.warg_log.proofs.vec_log.VecLogLogData.hash_for.Goals as goal

pub index-requires : goal.index-requires
index-requires g c =
    let exists = c.exists_at_length.ensures.0 c.if-exists_at_length.true in
    rw c.self.inside.tree.ok.0 (inside_slice _ _ _ (rw c.self.invariant.0 at exists)
    (slice_size g.D.SupportedDigest.digest _ _ c.self.invariant.1))

pub returns-then-exists_at_length : goal.returns-then-exists_at_length
returns-then-exists_at_length g c =
    let exists = c.exists_at_length.ensures.0 c.if-exists_at_length.true in
    rw (← c.self.view_is)
    (ap Some c.copied.ensures ∙ own_digest_held g.D.SupportedDigest.digest _ _ c.args.node.0 c.index.result.now
    c.self.invariant.1 (rw c.self.invariant.0 at exists) c.index.ensures)
