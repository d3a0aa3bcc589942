-- A program is clean, or it has one first problem.
use Rattle.jx9_syntax.specs.declared.program.Program.{Program}
use Rattle.jx9_compile.specs.Laws.{HasOneOutcome}
use Rattle.jx9_compile.proofs.Firsts.{clean_or_first}
use Rattle.jx9_compile.proofs.Order.{same_problem}

pub one_outcome : (p : Program) → HasOneOutcome p
one_outcome p = record {
  one_first = λ q r a b. same_problem q r (b.first q a.found) (a.first r b.found);
  not_both = λ q clean a. clean.none q a.found;
  one_of_both = clean_or_first p;
}
