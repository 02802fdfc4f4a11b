use Rattle.std.proofs.Common.{◌≡◌, ◌<◌, ◌^◌, drop}
use Rattle.warg_tiles.specs.Private.PathDigits.{number_on}
use Rattle.warg_tiles.proofs.path.number_of_digits.Given as goal

abbrev pub invariant-bytes : goal.invariant-bytes
invariant-bytes l = record {
  read : number_on l.number (drop l.byte-index l.text) ≡ number_on 0 l.text;
  fits : l.number < 2 ^ 64;
}
