use Rattle.std.proofs.Common.{sym, ◌∙◌, arith}
use Rattle.warg_store.specs.Pruned.{full_of}
use Rattle.warg_folder.proofs.ForCallers.{apart}
use Rattle.warg_store.proofs.PathLemmas.{same_tile}
use Rattle.warg_store.proofs.pruning.is_spare.Goals as goal

pub returns : goal.returns
returns c =
    let same = same_tile c.new.result (full_of c.args.tile.now) (c.new.ensures.level ∙ c.level.ensures.value)
    (c.new.ensures.number ∙ c.number.ensures.value) c.new.ensures.width in (
      λ yes. (
        omega arith,
        rw same at (c.is_tile_of-2.ensures.0 yes),
        λ is. apart (sym (c.is_tile_of.ensures.1 is) ∙ c.if-is_tile_of.false),
      ),
      λ all. c.is_tile_of-2.ensures.1 (rw same all.1),
    )
