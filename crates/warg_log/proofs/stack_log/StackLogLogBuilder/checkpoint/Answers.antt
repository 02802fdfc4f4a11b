use Rattle.std.proofs.Common.{ap, Some, sym, ◌∙◌}
use Rattle.warg_log.specs.Blocks.{Blocks, joined_blocks}
use Rattle.warg_log.proofs.StackLemmas.{none_root, blocks_root, stands_root}
use Rattle.warg_log.proofs.stack_log.StackLogLogBuilder.checkpoint.Goals as goal

pub returns : goal.returns
returns g c =
    let H = g.D.SupportedDigest.digest in
    let own : Blocks = record { len = c.self.inside.count; digests = c.self.inside.blocks.items } in
    let is = c.new.ensures.root ∙ c.root_of_blocks.ensures ∙ ap (joined_blocks H) c.as_slice.ensures.value in
    rw (← c.self.view_is) (record {
      root = λ ds stands. is ∙ stands_root H own ds stands;
      none = λ none. is ∙ none_root H own.digests (rw none at c.self.invariant.0);
      blocks = λ some. blocks_root H own c.self.invariant.0 some ∙ ap Some (sym is);
      length = c.new.ensures.length;
      fits = c.self.invariant.1;
    })
