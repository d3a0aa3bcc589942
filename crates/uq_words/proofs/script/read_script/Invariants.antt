use Rattle.uq_words.proofs.WholeScripts.{Reading}
use Rattle.uq_words.proofs.script.read_script.Given as goal

abbrev pub decreases-pieces : goal.decreases-pieces
decreases-pieces g l = l.lines.room

abbrev pub invariant-pieces : goal.invariant-pieces
invariant-pieces g l = Reading g.I.Source l.fn.most l.fn.input l.lines l.input
