-- What is read of trees of nesting at most a number, by induction on it.
use Rattle.std.proofs.Common.{◌≡◌, ℕ, zero, suc, ltb, lt-ltb, Bool, true, false, List, sym, ◌∙◌, arith}
use Rattle.jx9_syntax.specs.Grammar.{Rule, IsExpr, UnaryWithin, ExprWithin, BlockWithin, StatementWithin}
use Rattle.jx9_syntax.specs.declared.expression.Expr.{Expr}
use Rattle.jx9_parse.specs.Reading.{Reader}
use Rattle.jx9_parse.specs.Expressions.{expression}
use Rattle.jx9_parse.specs.Statements.{statement_begins}
use Rattle.jx9_parse.specs.Rooms.{unary_within, expr_within, block_within, statement_within}
use Rattle.jx9_parse.proofs.Sets.{false_true}
use Rattle.jx9_parse.proofs.Parts.{Part, Guard}
use Rattle.jx9_parse.proofs.Opens.{GuardOpen}
use Rattle.jx9_parse.proofs.Primaries.{Inner}
use Rattle.jx9_parse.proofs.Unaries.{the_unary}
use Rattle.jx9_parse.proofs.Heads.{the_expr, a_plain}
use Rattle.jx9_parse.proofs.StatementLaws.{Within, a_block, the_statement}

pub record Room (k : ℕ) : Type 0 where
  pub inner : Inner (ltb 0 k) (UnaryWithin k) (ExprWithin k) (BlockWithin k) (unary_within k) (expr_within k) (block_within k)
  pub a_statement : GuardOpen (ltb 0 k) (StatementWithin k) statement_begins (statement_within k)

-- an expression of one level more than what is within
abbrev pub ExprOver : ℕ → Rule Expr
ExprOver k = IsExpr (UnaryWithin k) (ExprWithin k) (BlockWithin k)

abbrev pub expr_over : ℕ → Reader Expr
expr_over k = expression (ltb 0 k) (unary_within k) (expr_within k) (block_within k)

pub within_of : (k : ℕ) → Room k → Within (ltb 0 k) (ExprOver k) (ExprWithin k) (StatementWithin k) (expr_over k) (expr_within k) (statement_within k)
within_of k r = record { an_expr = the_expr r.inner; plain = a_plain r.inner; an_inner = r.inner.an_expr; a_statement = r.a_statement }

no_part : {A : Type 0} → false ≡ true → A
no_part h = absurd (false_true h)

some_room : (k : ℕ) → ltb 0 (suc k) ≡ true
some_room k = lt-ltb 0 (suc k) (omega arith)

with_room : {A : Type 0} {L : Rule A} {ms bs : List ℕ} {r : Reader A} {b : Bool} → b ≡ true → Part L ms bs r → Guard b L ms bs r
with_room e l = record { part = λ h. l; empty = λ h. no_part (sym h ∙ e) }

pub room : (k : ℕ) → Room k
unfolding UnaryWithin ExprWithin BlockWithin StatementWithin unary_within expr_within block_within statement_within
room zero = record {
  inner = record {
    a_unary = record { part = λ h. no_part h; empty = λ h w m is. is };
    an_expr = record { part = λ h. no_part h; empty = λ h w m is. is };
    a_block = record { part = λ h. no_part h; empty = λ h w m is. is };
  };
  a_statement = record { inner = λ h. no_part h; empty = λ h is_open w m is. is };
}
room (suc k) = let r = room k in let w = within_of k r in let e = some_room k in record {
  inner = record { a_unary = with_room e (the_unary r.inner); an_expr = with_room e (the_expr r.inner); a_block = with_room e (a_block w) };
  a_statement = record { inner = λ h. the_statement w; empty = λ h. no_part (sym h ∙ e) };
}
