-- What a program is, and which token is dead.
use Rattle.std.specs.Prelude.{◌≡◌, ℕ, suc, ◌<◌, List, [], ◌∷◌, ◌++◌, length, take}
use Rattle.jx9_syntax.specs.Words.{Many}
use Rattle.jx9_syntax.specs.Making.{Making, Made, all_made}
use Rattle.jx9_syntax.specs.Nesting.{most_nesting}
use Rattle.jx9_syntax.specs.Grammar.{code, Item, Define, Run, ItemWithin}
use Rattle.jx9_syntax.specs.declared.program.Function.{Function}
use Rattle.jx9_syntax.specs.declared.program.Named.{Named}
use Rattle.jx9_syntax.specs.declared.program.Program.{Program}
use Rattle.jx9_syntax.specs.declared.statement.Statement.{Statement}
use Rattle.jx9_syntax.specs.declared.token.Token.{Token}

abbrev pub definitions : List Item → List Named
definitions [] = []
definitions (Define f ∷ is) = f ∷ definitions is
definitions (Run s ∷ is) = definitions is

abbrev pub statements_of : List Item → List Statement
statements_of [] = []
statements_of (Define f ∷ is) = statements_of is
statements_of (Run s ∷ is) = s ∷ statements_of is

-- the trees of a program
pub record Trees : Type 0 where
  pub functions : List Named
  pub lambdas : List Function
  pub statements : List Statement

-- tokens are numbered from 0, lambdas from 1
abbrev pub trees_of : Made (List Item) → Trees
trees_of m = record { functions = definitions m.made; lambdas = m.lambdas; statements = statements_of m.made }

abbrev pub trees : Program → Trees
trees p = record { functions = p.functions; lambdas = p.lambdas; statements = p.statements }

-- definitions and statements, and the end
pub record IsProgramOf (tokens : List Token) (found : Trees) : Type 0 where
  pub body : List Token
  pub last : Token
  pub items : List (Making Item)
  pub split : tokens ≡ body ++ last ∷ []
  pub is_end : code last ≡ 0
  pub reads : Many (ItemWithin most_nesting) body items
  pub makes : found ≡ trees_of (all_made items 0 1)

abbrev pub IsProgram : List Token → Program → Type 0
IsProgram tokens p = IsProgramOf tokens (trees p)

abbrev pub NoEnd : List Token → Type 0
NoEnd [] = Unit {0}
NoEnd (t ∷ ts) = (code t ≡ 0 → ⊥) × NoEnd ts

-- one end, and it is the last
pub record IsTokens (tokens : List Token) : Type 0 where
  pub body : List Token
  pub last : Token
  pub split : tokens ≡ body ++ last ∷ []
  pub is_end : code last ≡ 0
  pub others : NoEnd body

-- no program begins with the first n + 1 tokens, and one does with the first n
pub record IsDead (tokens : List Token) (n : ℕ) : Type 0 where
  pub within : n < length tokens
  pub dead : (more : List Token) (found : Trees) → IsProgramOf (take (suc n) tokens ++ more) found → ⊥
  pub alive : (more : List Token) × (found : Trees) × IsProgramOf (take n tokens ++ more) found
