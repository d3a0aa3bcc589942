use Rattle.jx9_compile.proofs.Searches.{unless_kept, unless_noted}
use Rattle.jx9_compile.proofs.problems.Search.looped.Goals as goal

pub returns-then-looped : goal.returns-then-looped
returns-then-looped c = unless_kept _ _ _ c.if-looped.true

pub returns : goal.returns
returns c = unless_noted _ _ _ _ c.if-looped.false c.note.ensures
