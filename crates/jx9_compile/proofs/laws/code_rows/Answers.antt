use Rattle.jx9_compile.proofs.Rows.{code_rows}
use Rattle.jx9_compile.proofs.laws.code_rows.Goals as goal

pub returns : goal.returns
returns c = code_rows
