use Rattle.std.proofs.Common.{length}
use Rattle.jx9_parse.proofs.tests.+has_one_end.Given as goal

abbrev pub decreases-has_one_end : goal.decreases-has_one_end
decreases-has_one_end l = length l.tokens.now
