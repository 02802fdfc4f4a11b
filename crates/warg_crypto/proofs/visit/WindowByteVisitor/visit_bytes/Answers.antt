use Rattle.std.proofs.Common.{◌++◌, arith}
use Rattle.std.specs.Cmp.Lexicographic.{bytes_decides}
use Rattle.std.proofs.lemmas.List.{take_rest}
use Rattle.warg_crypto.specs.Private.Compared.{IsFound}
use Rattle.warg_crypto.proofs.CompareLemmas.{step_visited, window_step}
use Rattle.warg_crypto.proofs.visit.WindowByteVisitor.visit_bytes.Goals as goal

pub returns : goal.returns
returns c m before more =
    step_visited IsFound m c.args.bytes.now more (before (c.args.bytes.now ++ more))
    (window_step c.args.bytes.now c.args.self.now.rest.now _ _ more c.args.self.now.skip c.min-passed.result
    c.min-count.result
    c.min-passed.ensures (take_rest c.args.bytes.now c.min-passed.result) c.min-count.ensures
    (take_rest c.args.self.now.rest.now c.min-count.result))
    (grind (arith, bytes_decides))
