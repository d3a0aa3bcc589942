use Rattle.jx9_vm.proofs.tests.failing_base.FailingBaseBase.collection.Goals as goal

pub returns-clause-does : goal.returns-clause-does
returns-clause-does c = c.answer.ensures.saved _
