use Rattle.jx9_compile.proofs.Searches.{noted, passed}
use Rattle.jx9_compile.proofs.problems.Search.note.Goals as goal

pub returns-then-not-is_before : goal.returns-then-not-is_before
returns-then-not-is_before c = passed _ _ _ _ _ c.is_before.ensures c.if-not-is_before.true

pub returns : goal.returns
returns c = noted _ _ _ _ _ c.is_before.ensures c.if-not-is_before.false
