use Rattle.std.proofs.Common.{rules}
use Rattle.uq_value.proofs.Levels.{items-plain}
use Rattle.uq_value.proofs.list.List.item.Goals as goal

pub returns : goal.returns
returns c = rw (← c.self.view_is, items-plain c.self.inside.items.items) (search rules)
