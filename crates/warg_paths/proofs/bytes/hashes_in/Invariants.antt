use Rattle.std.proofs.Common.{◌≡◌, ◌%◌, ◌/◌, ◌++◌, length}
use Rattle.warg_paths.specs.Pieces.{pieces}
use Rattle.warg_paths.proofs.bytes.hashes_in.Given as goal

abbrev pub invariant-pieces : goal.invariant-pieces
invariant-pieces g l = record {
  read : l.hashes.items ++ pieces (length l.piece-iterator.rest.now / 32) l.piece-iterator.rest.now
      ≡ pieces (length l.bytes / 32) l.bytes;
  even : length l.piece-iterator.rest.now % 32 ≡ 0;
  size : l.piece-iterator.size ≡ 32;
}
