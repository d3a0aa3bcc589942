use Rattle.std.proofs.Common.{◌≡◌, ◌≤◌, ◌-◌, ◌++◌, length, take, drop}
use Rattle.uq_json.specs.Internal.Reading.{digits_of, behind_digits}
use Rattle.uq_json.proofs.scanning.split_digits.Given as goal

abbrev pub decreases-loop-count : goal.decreases-loop-count
decreases-loop-count l = length l.text - l.count

abbrev pub invariant-loop-count : goal.invariant-loop-count
invariant-loop-count l = record {
  within : l.count ≤ length l.text;
  digits : digits_of l.text ≡ take l.count l.text ++ digits_of (drop l.count l.text);
  rest : behind_digits l.text ≡ behind_digits (drop l.count l.text);
}
