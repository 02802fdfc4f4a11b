use Rattle.std.proofs.Common.{[], ◌∷◌, refl, arith}
use Rattle.warg_log.specs.Nodes.{height_of, height_within, place_of}
use Rattle.warg_log.specs.Tree.{front_of, front_within, root_within}
use Rattle.warg_log.specs.Cut.{way_within, top_of}
use Rattle.warg_log.specs.Ranges.{leaves_from}
use Rattle.warg_log.proofs.PremiseLemmas.{own}
use Rattle.warg_log.proofs.premises.cut_own_range.Goals as goal

pub returns : goal.returns
unfolding way_within top_of height_of height_within place_of root_within front_of front_within
returns c = record {
  some = λ law. cc (law own [] (leaves_from 5 1) (leaves_from 0 0)
      (record { height = 0; place = 0; start = refl; most = omega arith }) (omega arith));
  aligned = λ law. cc (law own ([] ∷ [] ∷ [] ∷ []) (leaves_from 5 1) (leaves_from 1 2) (omega arith) (omega arith));
  length = λ law. cc (law own [] (leaves_from 5 1) (leaves_from 0 1) (omega arith)
      (record { height = 0; place = 0; start = refl; most = omega arith }));
}
