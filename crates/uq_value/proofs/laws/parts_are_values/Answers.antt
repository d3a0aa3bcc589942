use Rattle.uq_value.specs.Laws.Parts.{item_is_value, member_is_value, name_fits}
use Rattle.uq_value.proofs.laws.parts_are_values.Goals as goal

pub returns-clause-items : goal.returns-clause-items
returns-clause-items c = item_is_value

pub returns-clause-members : goal.returns-clause-members
returns-clause-members c = member_is_value

pub returns-clause-names : goal.returns-clause-names
returns-clause-names c = name_fits
