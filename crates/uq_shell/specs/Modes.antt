-- What the words make of the input, as the code has it.
use Rattle.std.specs.Prelude.{map}
use Rattle.uq_shell.specs.Stream as stream
use Rattle.uq_shell.specs.declared.mode.Mode.{Mode}
use Rattle.uq_shell.specs.declared.mode.Mode.TheVariants.{Lines, Script, Words}

abbrev pub mode_in : Mode → stream.Mode
mode_in Lines = stream.OfLines
mode_in Script = stream.OfScript
mode_in (Words words) = stream.OfWords (map (λ word. word.items) words.now)
