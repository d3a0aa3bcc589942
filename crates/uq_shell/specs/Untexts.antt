-- What a fault of the lexer, the parser or the compiler is to a script.
use Rattle.jx9_lex.specs.declared.error.LexFault.{LexFault}
use Rattle.jx9_lex.specs.declared.error.LexFault.TheVariants as lexer
use Rattle.jx9_parse.specs.declared.error.SyntaxFault.{SyntaxFault}
use Rattle.jx9_parse.specs.declared.error.SyntaxFault.TheVariants as parser
use Rattle.jx9_compile.specs.declared.error.CompileFault.{CompileFault}
use Rattle.jx9_compile.specs.declared.error.CompileFault.TheVariants as compiler
use Rattle.uq_shell.specs.declared.failure.Failure.TheVariants.{Lexical, Syntax, Compile}
use Rattle.uq_shell.specs.declared.judging.NoCode.{NoCode}
use Rattle.uq_shell.specs.declared.judging.NoCode.TheVariants.{Failed, Memory}

abbrev pub by_lexer : LexFault → NoCode
by_lexer (lexer.Bad line) = Failed (Lexical line)
by_lexer lexer.Memory = Memory

abbrev pub by_parser : SyntaxFault → NoCode
by_parser (parser.Dead token line) = Failed (Syntax line)
by_parser parser.Memory = Memory

abbrev pub by_compiler : CompileFault → NoCode
by_compiler (compiler.Bad kind line) = Failed (Compile kind line)
by_compiler compiler.Memory = Memory
