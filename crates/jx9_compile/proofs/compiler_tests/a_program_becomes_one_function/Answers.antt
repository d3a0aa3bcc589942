use Rattle.std.proofs.Common.{◌≡◌, [], refl, sym, subst}
use Rattle.std.specs.Prelude.{Result, IfOk, Ok}
use Rattle.jx9_syntax.specs.Nesting.{StatementsFit, most_nesting, literal, of_expr, statement, no_statements}
use Rattle.jx9_syntax.specs.declared.expression.Access.TheViews.{rolls-Literal}
use Rattle.jx9_syntax.specs.declared.statement.Kind.TheViews.{rolls-Expr}
use Rattle.jx9_compile.proofs.EmitNodes.{open_node}
use Rattle.jx9_compile.proofs.EmitStatements.{open_kind}
use Rattle.jx9_compile.proofs.compiler_tests.a_program_becomes_one_function.Goals as goal

given : {A E : Type 0} (P : A → Type 0) (r : Result A E) (a : A) → IfOk r P → r ≡ Ok a → P a
given P r a h is = subst (λ x. IfOk x P) is h

pub program-requires : goal.program-requires
program-requires c c' =
    subst (λ ts. StatementsFit [] most_nesting ts) (sym (given _ _ _ c'.from_array.ensures.items c'.expect-statements.ensures))
    (statement (of_expr _ (open_kind _ refl (rolls-Expr _)) (literal _ (open_node _ refl (rolls-Literal _)))) no_statements)
