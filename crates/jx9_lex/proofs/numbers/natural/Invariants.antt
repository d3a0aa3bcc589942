use Rattle.std.proofs.Common.{◌≡◌, ◌-◌, ◌^◌, min, take}
use Rattle.jx9_syntax.specs.Bytes.{value_in}
use Rattle.jx9_lex.proofs.numbers.natural.Given as goal

abbrev pub invariant-loop-c : goal.invariant-loop-c
invariant-loop-c l = l.n ≡ min (value_in l.base 0 (take l.c-index l.digits)) (2 ^ 64 - 1)
