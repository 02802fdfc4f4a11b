use Rattle.std.proofs.Common.{◌≡◌, ◌<◌, ◌^◌, drop}
use Rattle.std.specs.List.{list_all}
use Rattle.std.specs.Char.{is_ascii_digit}
use Rattle.warg_program.specs.Words.{value_from}
use Rattle.warg_program.proofs.words.number_of.Given as goal

abbrev pub invariant-loop-digit : goal.invariant-loop-digit
invariant-loop-digit l = record {
  digits : list_all is_ascii_digit l.word ≡ list_all is_ascii_digit (drop l.digit-index l.word);
  fits : l.value < 2 ^ 64;
  value : value_from 0 l.word ≡ value_from l.value (drop l.digit-index l.word);
}
