-- What reads one level of nesting deeper.
use Rattle.std.specs.Prelude.{ℕ, Result}
use Rattle.std.specs.Borrow.{MutBor}
use Rattle.jx9_syntax.specs.declared.expression.Expr.{Expr}
use Rattle.jx9_syntax.specs.declared.statement.Statement.{Statement}
use Rattle.jx9_parse.specs.Answers.{Gives, state, it}
use Rattle.jx9_parse.specs.OneOf.{first_of, second_of}
use Rattle.jx9_parse.specs.Reading.{State}
use Rattle.jx9_parse.specs.Rooms.{unary_within, expr_within, block_within, statement_within}
use Rattle.jx9_parse.specs.declared.construct.Construct.{Construct}
use Rattle.jx9_parse.specs.declared.construct.Construct.TheVariants as construct
use Rattle.jx9_parse.specs.declared.construct.OneOf.{OneOf}
use Rattle.jx9_parse.specs.declared.parser.Parser.{Parser}
use Rattle.jx9_parse.specs.declared.stop.Stop.{Stop}

-- the tree of a construct
abbrev pub Tree : Type 0
Tree = OneOf Expr Statement

-- the construct of nesting at most k
abbrev pub TreeGives : Construct → Result Tree Stop → Parser → ℕ → State → Type 0
TreeGives construct.Unary r p k s = Gives it (first_of r) p (unary_within k s)
TreeGives construct.Expr r p k s = Gives it (first_of r) p (expr_within k s)
TreeGives construct.Block r p k s = Gives it (second_of r) p (block_within k s)
TreeGives construct.Statement r p k s = Gives it (second_of r) p (statement_within k s)

-- calls with these predicates read constructs of nesting at most k
pub record IsDeeper (pre : MutBor Parser → Construct → Type 0) (post : MutBor Parser → Construct → Result Tree Stop → MutBor Parser → Type 0) (k : ℕ) : Type 0 where
  pub callable : (p : MutBor Parser) (c : Construct) → pre p c
  pub answers : (p : MutBor Parser) (c : Construct) (r : Result Tree Stop) (q : MutBor Parser) → post p c r q → TreeGives c r q.now k (state p.now)
