use Rattle.std.proofs.Common.{◌≡◌, take}
use Rattle.std.specs.Str.Parse.{AllDigits, digits_value}
use Rattle.tc_texts.proofs.handle.half.Given as goal

abbrev pub invariant-loop-c : goal.invariant-loop-c
invariant-loop-c l = record {
  number : l.number ≡ digits_value 16 (take l.c-index l.digits);
  digits : AllDigits 16 (take l.c-index l.digits);
}
