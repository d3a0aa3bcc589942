-- How chains of operators are read: a first operand, and what stands behind it up to a level of operators.
use Rattle.std.specs.Prelude.{ℕ, zero, suc, ◌==◌, Bool, false, if◌then◌else◌, List, [], ◌∷◌, ◌++◌, map, reverse, Option, Some, None}
use Rattle.jx9_syntax.specs.Grammar.{Operator, Of, Joining, Both, Either, operator, chain, pair}
use Rattle.jx9_syntax.specs.declared.expression.Expr.{Expr}
use Rattle.jx9_parse.specs.Reading.{Reader, one, then_read, many, given, bind, bind_on, done}
use Rattle.jx9_parse.specs.declared.chain.Open.{Open}
use Rattle.jx9_parse.specs.declared.chain.Operator.{Operator as Sort}
use Rattle.jx9_parse.specs.declared.chain.Operator.TheVariants as sort
use Rattle.jx9_parse.specs.declared.chain.Tie.{Tie}

-- the operators of a level
abbrev pub operators : ℕ → List ℕ
operators zero = []
operators (suc zero) = 50 ∷ 51 ∷ 52 ∷ []
operators (suc (suc zero)) = 53 ∷ 13 ∷ []
operators (suc (suc (suc zero))) = 54 ∷ []
operators (suc (suc (suc (suc zero)))) = 55 ∷ 56 ∷ 57 ∷ 58 ∷ []
operators (suc (suc (suc (suc (suc zero))))) = 59 ∷ 60 ∷ 61 ∷ 62 ∷ []
operators (suc (suc (suc (suc (suc (suc zero)))))) = 63 ∷ []
operators (suc (suc (suc (suc (suc (suc (suc zero))))))) = 64 ∷ []
operators (suc (suc (suc (suc (suc (suc (suc (suc n)))))))) = []

module _ (un : Reader Expr) where
  -- what stands behind a first operand, up to level n. It is no abbreviation, since at a given level it would be written out twice for each level below
  unfoldable pub tail : ℕ → Expr → Reader Expr
  tail zero = done (λ e. e)
  tail (suc n) = bind_on (tail n) (given chain (many (operators (suc n)) (then_read pair (one (operator (suc n))) (bind un (tail n)))))

  -- an operand of level n
  abbrev pub level : ℕ → Reader Expr
  level n = bind un (tail n)

  -- an operator of level n + 1 and its operand
  abbrev pub link : ℕ → Reader (Operator × Expr)
  link n = then_read pair (one (operator (suc n))) (level n)

-- ---- chains that are open: an operand is owed behind their last operator

-- the operator of the grammar
abbrev pub operator_of : Sort → Operator
operator_of (sort.Of b) = Of b
operator_of sort.Join = Joining
operator_of sort.And = Both
operator_of sort.Or = Either

abbrev pub tied : Tie → Operator × Expr
tied t = (operator_of t.operator, t.operand)

-- a chain of a level: its first operand, the operators and operands behind it, and the operator behind these
pub record OpenChain : Type 0 where
  pub level : ℕ
  pub first : Expr
  pub ties : List (Operator × Expr)
  pub operator : Operator

abbrev pub open_chain : Open → OpenChain
open_chain o = record { level = o.level; first = o.first; ties = map tied o.ties.items; operator = operator_of o.operator }

-- the last that was opened is the first
abbrev pub open_chains : List Open → List OpenChain
open_chains os = map open_chain (reverse os)

abbrev pub is_last : ℕ → List OpenChain → Bool
is_last n [] = false
is_last n (c ∷ cs) = c.level == n

-- the chain of level n, where the last that was opened is one, and the others
abbrev pub take_open : ℕ → List OpenChain → Option OpenChain × List OpenChain
take_open n [] = (None, [])
take_open n (c ∷ cs) = if c.level == n then (Some c, cs) else (None, c ∷ cs)

-- with an operand more; an operand by itself is the first of a chain
abbrev pub first_operand : Option OpenChain → Expr → Expr
first_operand None e = e
first_operand (Some c) e = c.first

abbrev pub ties_with : Option OpenChain → Expr → List (Operator × Expr)
ties_with None e = []
ties_with (Some c) e = c.ties ++ (c.operator, e) ∷ []

-- the operand ends the chain
abbrev pub closed : Option OpenChain → Expr → Expr
closed o e = chain (first_operand o e) (ties_with o e)

-- an operator of level n stands behind the operand
abbrev pub opened : ℕ → Operator → Option OpenChain → Expr → OpenChain
opened n operator o e = record { level = n; first = first_operand o e; ties = ties_with o e; operator = operator }
