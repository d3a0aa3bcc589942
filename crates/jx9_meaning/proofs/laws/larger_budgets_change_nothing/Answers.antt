use Rattle.jx9_meaning.proofs.CallBudgets.{larger_budget}
use Rattle.jx9_meaning.proofs.laws.larger_budgets_change_nothing.Goals as goal

pub returns : goal.returns
returns c = larger_budget
