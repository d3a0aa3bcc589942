use Rattle.std.proofs.Common.{◌≡◌, ◌≤◌, ◌-◌, ◌++◌, length, take, drop}
use Rattle.jx9_syntax.specs.Bytes.{run, behind}
use Rattle.jx9_lex.specs.Classes.{test}
use Rattle.jx9_lex.proofs.class.split_run.Given as goal

abbrev pub decreases-loop-count : goal.decreases-loop-count
decreases-loop-count l = length l.text - l.count

abbrev pub invariant-loop-count : goal.invariant-loop-count
invariant-loop-count l = record {
  within : l.count ≤ length l.text;
  run_is : run (test l.class) l.text ≡ take l.count l.text ++ run (test l.class) (drop l.count l.text);
  behind_is : behind (test l.class) l.text ≡ behind (test l.class) (drop l.count l.text);
}
