use Rattle.std.proofs.Common.{◌≡◌, take}
use Rattle.std.specs.List.{flat_map}
use Rattle.warg_store.proofs.log.joined.Given as goal

abbrev pub invariant-digests : goal.invariant-digests
invariant-digests l = l.bytes.items ≡ flat_map (λ digest. digest) (take l.digest-index l.digests)
