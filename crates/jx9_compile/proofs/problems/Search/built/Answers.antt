use Rattle.jx9_compile.proofs.Searches.{unless_kept, unless_noted}
use Rattle.jx9_compile.proofs.problems.Search.built.Goals as goal

pub returns-then-is_built : goal.returns-then-is_built
returns-then-is_built c = unless_kept _ _ _ c.if-is_built.true

pub returns : goal.returns
returns c = unless_noted _ _ _ _ c.if-is_built.false c.note.ensures
