-- Parts of a program, as the grammar has them.
use Rattle.std.specs.Prelude.{List, [], ◌∷◌, ◌++◌}
use Rattle.jx9_syntax.specs.Grammar.{Item, Define, Run}
use Rattle.jx9_syntax.specs.declared.program.Named.{Named}
use Rattle.jx9_syntax.specs.declared.statement.Statement.{Statement}
use Rattle.jx9_parse.specs.declared.program.Piece.{Piece}
use Rattle.jx9_parse.specs.declared.program.Piece.TheVariants as piece
use Rattle.jx9_parse.specs.declared.program.Pieces.{Pieces}

abbrev pub item_of : Piece → Item
item_of (piece.Definition f) = Define f
item_of (piece.Statement s) = Run s

abbrev pub Parts : Type 0
Parts = List Named × List Statement

-- the definitions, and the statements
abbrev pub parts_in : Pieces → Parts
parts_in p = (p.functions, p.statements)

abbrev pub plus_item : Parts → Item → Parts
plus_item front (Define f) = (front.0 ++ f ∷ [], front.1)
plus_item front (Run s) = (front.0, front.1 ++ s ∷ [])
