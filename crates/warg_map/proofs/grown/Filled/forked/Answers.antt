use Rattle.std.proofs.Common.{arith, inl}
use Rattle.warg_crypto.specs.Sides.{side_bit}
use Rattle.warg_map.proofs.TreeForm.{splits_join}
use Rattle.warg_map.proofs.grown.Filled.forked.Goals as goal

pub beside-requires : goal.beside-requires
beside-requires g c = record {
  heights = (c.requires.heights.0, omega (arith, c.requires.heights.1));
  hold = c.requires.hold;
  fits = c.requires.fits;
}

pub with_stem-requires : goal.with_stem-requires
with_stem-requires g c =
    let splits = splits_join (side_bit c.args.side) _ _ c.requires.hold.0 c.requires.hold.1 in
    rw c.in_ok-beside.ensures (record { height = c.requires.heights.1; below = λ _. inl splits })

pub returns : goal.returns
returns g c = rw c.in_ok-beside.ensures at c.with_stem.ensures
