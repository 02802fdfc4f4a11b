use Rattle.std.proofs.Common.{◌≡◌, take, drop}
use Rattle.warg_protobuf.specs.Decoding.{first_fault, digest_fault}
use Rattle.warg_log.specs.Tree.{leaves_in}
use Rattle.warg_log.proofs.vec_log.image.grown.Given as goal

abbrev pub invariant-places : goal.invariant-places
invariant-places g l = record {
  grown : l.log ≡ leaves_in (take l.place l.tree);
  good : first_fault digest_fault l.tree ≡ first_fault digest_fault (drop l.place l.tree);
}
