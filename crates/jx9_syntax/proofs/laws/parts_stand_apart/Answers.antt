use Rattle.jx9_syntax.proofs.PartLaws.{all_apart}
use Rattle.jx9_syntax.proofs.laws.parts_stand_apart.Goals as goal

pub returns : goal.returns
returns c = all_apart
