use Rattle.std.proofs.Common.{◌+◌, ◌*◌}
use Rattle.jx9_parse.proofs.parser.+Parser-tree_within+fn-Parser-tree_within-deeper.Given as goal

-- the closure stands for a level of nesting less, and calls the function with that
abbrev pub decreases-Parser::tree_within : goal.decreases-Parser::tree_within
decreases-Parser::tree_within l = 2 * l.room

abbrev pub decreases-deeper : goal.decreases-deeper
decreases-deeper l = 2 * l.within + 1
