use Rattle.std.proofs.Common.{◌≡◌, ◌-◌, ◌^◌, min, take, true}
use Rattle.std.specs.Char.{is_ascii_digit}
use Rattle.std.specs.List.{list_all}
use Rattle.uq_value.specs.Number.{digits_value}
use Rattle.uq_value.proofs.numbers.unsigned.Given as goal

abbrev pub invariant-loop-c : goal.invariant-loop-c
invariant-loop-c l =
    record {
      value : l.n ≡ min (digits_value 0 (take l.c-index l.digits)) (2 ^ 64 - 1);
      digits : list_all is_ascii_digit (take l.c-index l.digits) ≡ true;
    }
