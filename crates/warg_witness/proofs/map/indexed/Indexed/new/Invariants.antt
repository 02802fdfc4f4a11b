use Rattle.std.proofs.Common.{◌≡◌, ℕ, List, take}
use Rattle.std.specs.Map.{lookup}
use Rattle.warg_crypto.specs.Bytes.{same_bytes}
use Rattle.warg_map.specs.Bits.{key_bits}
use Rattle.warg_map.specs.Last.{last_under}
use Rattle.warg_map.specs.Sparse.{pair_bytes}
use Rattle.warg_witness.specs.Private.MapMeeting.{lent_pair}
use Rattle.warg_witness.proofs.map.indexed.Indexed.new.Given as goal

-- under each key digest stands the last of the insertions so far
abbrev pub invariant-loop-insertion : goal.invariant-loop-insertion
invariant-loop-insertion g l =
    let H = g.D.SupportedDigest.digest in
    let kb = g.K.VisitBytes.bytes in
    let vb = g.V.VisitBytes.bytes in
    let passed = take l.insertion-index (pair_bytes kb vb l.insertions) in
    (key : List ℕ) → last_under H (key_bits H key) passed ≡ lent_pair kb vb (lookup (same_bytes (H key)) l.last.entries)
