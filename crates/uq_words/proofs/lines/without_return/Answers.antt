use Rattle.uq_words.proofs.Cutting.{returned, unreturned, unreturned_empty}
use Rattle.uq_words.proofs.lines.without_return.Goals as goal

pub returns-then-last-eq13-clause-line : goal.returns-then-last-eq13-clause-line
returns-then-last-eq13-clause-line c = returned c.args.line.now c.in-Some.front.now c.in-Some.last.now c.in-Some.ensures.cases.0 c.if-last-eq13.true

pub returns-else-last-eq13-clause-line : goal.returns-else-last-eq13-clause-line
returns-else-last-eq13-clause-line c = unreturned c.args.line.now c.in-Some.front.now c.in-Some.last.now c.in-Some.ensures.cases.0 c.if-last-eq13.false

pub returns-in_default-clause-line : goal.returns-in_default-clause-line
returns-in_default-clause-line c = unreturned_empty c.args.line.now c.in_default.ensures.cases
