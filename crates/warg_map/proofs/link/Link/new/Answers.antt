use Rattle.std.proofs.Common.{◌≡◌, ◌+◌, ◌-◌, refl, sym, arith}
use Rattle.warg_map.proofs.StemRoots.{root-stem}
use Rattle.warg_map.proofs.SparseTree.{sparse_root-empty, sparse_root-join}
use Rattle.warg_map.proofs.link.Link.new.Goals as goal
use Rattle.warg_map.proofs.link.Link.new.Goals.{in-Fork, in-Singleton, in-Stem, in-Empty}

pub invariant_of-result : goal.invariant_of-result
invariant_of-result g c =
    let H = g.D.SupportedDigest.digest in (
      c.requires,
      elim c.match-node.branch [
        | in-Fork w ↦ (let level = rw w.in-Fork.is at c.requires.level in
            let f = w.in-Fork.fork.value in
            rw (
              w.hash-is,
              w.in-Fork.is,
              w.hash_branch-hash.ensures,
              w.hash.ensures,
              w.hash-in-Fork.ensures,
              w.as_ref-fork.ensures,
              ← level.0,
            ) (sym (sparse_root-join H f.left.0 f.left.1 f.right.1)))
        | in-Singleton w ↦ rw (w.hash-is, w.in-Singleton.is, w.hash-hash.ensures, w.deref.ensures) refl
        | in-Stem w ↦ (let level = rw w.in-Stem.is at c.requires.level in
            let s = w.in-Stem.stem.value in
            let z : 256 - (w.in-Stem.stem.value.from + w.in-Stem.stem.value.len) ≡ w.in-Stem.stem.value.below.0 =
            omega arith in
            rw (w.hash-is, w.in-Stem.is, w.stem_digest-hash.ensures, w.as_ref-stem.ensures)
            (root-stem H s.key s.from s.len s.below.1 z
            (rw w.as_ref-stem.ensures at w.hash-in-Stem.ensures)))
        | in-Empty w ↦ rw (w.hash-is, w.in-Empty.is, w.empty_tree-hash.ensures) (sym (sparse_root-empty H 256))
      ],
    )
