use Rattle.std.proofs.Common.{◌≡◌, map, take, drop}
use Rattle.warg_protobuf.specs.HashEntry.{entry_view}
use Rattle.warg_protobuf.specs.Decoding.{first_fault, digest_fault}
use Rattle.warg_log.proofs.stack_log.image.read_blocks.Given as goal

abbrev pub invariant-entries : goal.invariant-entries
invariant-entries g l = record {
  read : l.hashes.items ≡ map (λ e. e.hash) (map entry_view (take l.entry-index l.entries));
  good : first_fault digest_fault (map (λ e. e.hash) (map entry_view l.entries)) ≡ first_fault digest_fault
      (map (λ e. e.hash) (map entry_view (drop l.entry-index l.entries)));
}
