-- A small program and its tree, by the grammar.
use Rattle.std.proofs.Common.{ℕ, zero, suc, false, pos, List, [], ◌∷◌, refl, sym, append-nil, arith}
use Rattle.jx9_syntax.specs.Grammar.{code, Rule, Level, IsUnary, with_steps, of_or, of_primary, of_literal, literal_at, spot, chain, first, expr_statement, StatementWithin, ExprWithin, UnaryWithin, BlockWithin, simple, of_expr, statement, Run}
use Rattle.jx9_syntax.specs.Making.{Making, mapped, then_made, all_made}
use Rattle.jx9_syntax.specs.Program.{IsProgramOf}
use Rattle.jx9_syntax.specs.declared.expression.Expr.{Expr}
use Rattle.jx9_syntax.specs.declared.expression.Literal.TheVariants as literal
use Rattle.jx9_syntax.specs.declared.expression.Node
use Rattle.jx9_syntax.specs.declared.sign.Sign.TheVariants as sign
use Rattle.jx9_syntax.specs.declared.statement.Kind
use Rattle.jx9_syntax.specs.declared.statement.Statement.{Statement}
use Rattle.jx9_syntax.specs.declared.token.Token.{Token}
use Rattle.jx9_syntax.specs.declared.token.TokenKind.TheVariants as kind

abbrev Tokens : Type 0
Tokens = List Token

abbrev one : Token
one = record { kind = kind.Int (pos 1); line = 2 }

abbrev semicolon : Token
semicolon = record { kind = kind.Sign sign.Semicolon; line = 2 }

abbrev end : Token
end = record { kind = kind.End; line = 3 }

-- one operand is of each level
level_more : (un : Rule Expr) (n : ℕ) (word : Tokens) (m : Making Expr) → Level un n word m → Level un (suc n) (word) (then_made chain m (all_made []))
level_more un n word m is = record {
  front = word;
  back = [];
  left = m;
  right = all_made [];
  parts = sym (append-nil word);
  is_left = is;
  is_right = record { value = []; is_word = refl; is_value = refl };
  is_value = refl;
}

abbrev literal_one : Making Expr
literal_one = literal_at one (literal.Int (pos 1))

abbrev raised : ℕ → Making Expr
raised zero = then_made with_steps literal_one (all_made [])
raised (suc n) = then_made chain (raised n) (all_made [])

operand : (un expr : Rule Expr) (block : Rule Statement) → IsUnary un expr block (one ∷ []) (raised zero)
operand un expr block = of_primary (record {
  front = one ∷ [];
  back = [];
  left = literal_one;
  right = all_made [];
  parts = refl;
  is_left = of_literal (record { token = one; is_word = refl; tells = refl });
  is_right = record { value = []; is_word = refl; is_value = refl };
  is_value = refl;
})

of_level : (un expr : Rule Expr) (block : Rule Statement) (n : ℕ) → Level (IsUnary un expr block) n (one ∷ []) (raised n)
of_level un expr block zero = operand un expr block
of_level un expr block (suc n) = level_more (IsUnary un expr block) n (one ∷ []) (raised n) (of_level un expr block n)

abbrev tree : Expr
tree = record { line = 2; token = 0; node = Node.Literal (literal.Int (pos 1)) }

-- `1;` in line 2
the_statement : StatementWithin 200 false (one ∷ semicolon ∷ []) (mapped expr_statement (then_made first (raised 7) (spot semicolon)))
unfolding StatementWithin code
the_statement = simple refl (of_expr (λ e. absurd (omega (arith, e))) (record {
  value = then_made first (raised 7) (spot semicolon);
  is_word = record {
    front = one ∷ [];
    back = semicolon ∷ [];
    left = raised 7;
    right = spot semicolon;
    parts = refl;
    is_left = of_or (of_level (UnaryWithin 199) (ExprWithin 199) (BlockWithin 199) 7);
    is_right = record { token = semicolon; is_word = refl; tells = refl };
    is_value = refl;
  };
  is_value = refl;
}))

-- and it is a program of one statement
pub number_is_a_program : IsProgramOf (one ∷ semicolon ∷ end ∷ []) (record { functions = []; lambdas = []; statements = record { line = 2; token = 0; kind = Kind.Expr tree } ∷ [] })
unfolding code
number_is_a_program = record {
  body = one ∷ semicolon ∷ [];
  last = end;
  items = mapped Run (mapped expr_statement (then_made first (raised 7) (spot semicolon))) ∷ [];
  split = refl;
  is_end = refl;
  reads = (one ∷ semicolon ∷ [], [], refl, statement (record { value = mapped expr_statement (then_made first (raised 7) (spot semicolon)); is_word = (false, the_statement); is_value = refl }), refl);
  makes = refl;
}
