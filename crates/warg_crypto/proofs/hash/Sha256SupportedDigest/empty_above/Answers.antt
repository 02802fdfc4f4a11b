use Rattle.std.proofs.Common.{◌∙◌, ◌+◌, ◌≤◌, arith}
use Rattle.warg_crypto.proofs.EmptyLemmas.{row_of_table}
use Rattle.warg_crypto.proofs.hash.Sha256SupportedDigest.empty_above.Goals as goal

pub returns : goal.returns
returns c = let within : c.args.height + 1 ≤ 256 = omega arith in c.from_array.ensures
    ∙ row_of_table (c.args.height + 1) within
