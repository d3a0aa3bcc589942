-- Scripts that are compiled and then run.
use Rattle.std.specs.Prelude.{◌≡◌, Some}
use Rattle.jx9_meaning.specs.Script.{Source, Ended, script}
use Rattle.jx9_meaning.specs.World.{World}
use Rattle.jx9_compile.specs.Correct.{Behaves}
use Rattle.jx9_compile.specs.Run.{CodeRun}
use Rattle.jx9_compile.specs.declared.code.Code.{Code}

-- Each run of the code of a script is that script's meaning.
abbrev pub MeansItsScripts : Code → Type 0
MeansItsScripts code = (p : Source) → Behaves p code → (w : World) (ended : Ended) → CodeRun code w ended → script p w ≡ Some ended
