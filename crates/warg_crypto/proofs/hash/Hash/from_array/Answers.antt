-- What the type of 32 bytes says of them.
use Rattle.std.proofs.Common.{w8, arith}
use borrow.Author.Rules.{elem_Fits}
use Rattle.std.proofs.lemmas.List.Elements.{All-from_get_or}
use Rattle.warg_crypto.specs.Digests.{IsByte}
use Rattle.warg_crypto.proofs.hash.Hash.from_array.Goals as goal

pub invariant_of-result : goal.invariant_of-result
invariant_of-result g c =
    let typed = c.well_formed.0.1 in
    record {
      has_32 = typed.0.1;
      are_bytes = All-from_get_or IsByte c.args.bytes 0
          (λ i _. omega (arith, elem_Fits w8 w8 c.args.bytes c.well_formed.0.0 i typed.1 tt));
    }
