use Rattle.jx9_syntax.proofs.FrontLemmas.{front_right}
use Rattle.jx9_syntax.proofs.laws.front_is_longest.Goals as goal

pub returns : goal.returns
returns c = front_right
