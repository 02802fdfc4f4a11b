use Rattle.std.proofs.Common.{◌∙◌}
use Rattle.warg_crypto.proofs.EmptyLemmas.{row_of_table}
use Rattle.warg_crypto.proofs.hash.Sha256SupportedDigest.empty_tree.Goals as goal

pub returns : goal.returns
returns c = c.from_array.ensures ∙ row_of_table c.args.height c.requires
