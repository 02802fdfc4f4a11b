use Rattle.std.proofs.Common.{◌≡◌, ◌++◌, map, drop}
use Rattle.warg_map.specs.Sparse.{pair_bytes}
use Rattle.warg_registry.specs.Insertions.{entries_of}
use Rattle.warg_registry.proofs.folder.entries_in.Given as goal

abbrev pub invariant-insertions : goal.invariant-insertions
invariant-insertions l = map (λ e. e.items) l.entries.items
    ++ entries_of (pair_bytes (λ k. k.now) (λ v. v.now) (drop l.insertion-index l.insertions))
    ≡ entries_of (pair_bytes (λ k. k.now) (λ v. v.now) l.insertions)
