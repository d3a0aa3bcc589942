-- How the definitions and statements of a program are read.
use Rattle.std.specs.Prelude.{ℕ, suc, Bool, false, cond, eqb, List, [], ◌∷◌, codes}
use Rattle.jx9_syntax.specs.Grammar.{code, is_word, name, pair, named_of, Item, Define, Run}
use Rattle.jx9_syntax.specs.Program.{definitions, statements_of}
use Rattle.jx9_syntax.specs.declared.program.Named.{Named}
use Rattle.jx9_syntax.specs.declared.statement.Statement.{Statement}
use Rattle.jx9_parse.specs.Reading.{Tokens, Reader, next_in, one, then_read, map_read, many}
use Rattle.jx9_parse.specs.Expressions.{parameters}
use Rattle.jx9_parse.specs.Statements.{statement_begins}
use Rattle.jx9_parse.specs.Rooms.{block_within, statement_within}

-- `function NAME` is next: a definition, and no lambda
abbrev pub defines : Tokens → Bool
defines [] = false
defines (t ∷ ts) = cond (eqb (code t) 9) (next_in (8 ∷ []) ts) false

-- the block is of nesting at most k
abbrev pub definition : ℕ → Reader Named
definition k = then_read named_of (one (is_word (codes "function"))) (then_read pair (one name) (then_read pair parameters (block_within k)))

abbrev pub item : ℕ → Reader Item
item k s = cond (defines s.tokens) (map_read Define (definition k) s) (map_read Run (statement_within (suc k)) s)

-- as long as the next token begins one
abbrev pub items : ℕ → Reader (List Item)
items k = many statement_begins (item k)

-- the definitions in order, and the statements in order
abbrev pub parts : List Item → List Named × List Statement
parts is = (definitions is, statements_of is)

-- nesting is at most 200, and a definition has one level more than its block
abbrev pub program_parts : Reader (List Named × List Statement)
program_parts = map_read parts (items 199)
