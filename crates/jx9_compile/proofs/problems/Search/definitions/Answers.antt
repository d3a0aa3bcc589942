use Rattle.jx9_compile.proofs.Searches.{no_definitions, definitions_go_on}
use Rattle.jx9_compile.proofs.problems.Search.definitions.Goals as goal

pub loop-definition-init : goal.loop-definition-init
loop-definition-init c = no_definitions _

pub loop-definition-preserved : goal.loop-definition-preserved
loop-definition-preserved c = definitions_go_on _ _ _ _ _ _ c.loop-definition-test.true c.definition-item.is c.loop-definition.invariant c.note.ensures
