use Rattle.std.proofs.Common.{◌≡◌, ◌++◌, take}
use Rattle.std.specs.List.{flat_map}
use Rattle.warg_protobuf.specs.Written.{field_bytes, delimited_field}
use Rattle.warg_protobuf.proofs.writer.push_repeated.Given as goal

abbrev pub invariant-loop-digest : goal.invariant-loop-digest
invariant-loop-digest g l = l.out.items ≡ l.fn.out.items ++ flat_map
    (λ digest. field_bytes (delimited_field l.field digest)) (take l.digest-index l.digests)
