use Rattle.std.proofs.Common.{◌≡◌, [], refl, sym, ap, ◌∙◌, subst}
use Rattle.std.specs.Prelude.{Result, IfOk, Ok}
use Rattle.jx9_syntax.specs.Trees.{AccessLayer}
use Rattle.jx9_syntax.specs.Nesting.{ExprsFit, StepsFit, StatementsFit, most_nesting, no_exprs, expr, var, no_steps, index, literal, empty, print, break, statement, no_statements}
use Rattle.jx9_syntax.specs.declared.expression.Access.{Access, out-Access, roll-Access}
use Rattle.jx9_syntax.specs.declared.expression.Access.TheViews.{out-roll-Access, rolls-Index, rolls-Literal, rolls-Var}
use Rattle.jx9_syntax.specs.declared.statement.Kind.TheViews.{rolls-Empty, rolls-Print, rolls-Break}
use Rattle.jx9_compile.proofs.EmitNodes.{open_node}
use Rattle.jx9_compile.proofs.EmitStatements.{open_kind}
use Rattle.jx9_compile.proofs.compiler_tests.the_first_problem_of_a_program_is_named.Goals as goal

given : {A E : Type 0} (P : A → Type 0) (r : Result A E) (a : A) → IfOk r P → r ≡ Ok a → P a
given P r a h is = subst (λ x. IfOk x P) is h

open_access : {a : Access} (layer : AccessLayer) → roll-Access layer ≡ a → out-Access a ≡ layer
open_access layer h = ap out-Access (sym h) ∙ out-roll-Access layer

pub program-requires : goal.program-requires
program-requires c c' =
    subst (λ ts. StatementsFit [] most_nesting ts) (sym (given _ _ _ c'.from_array.ensures.items c'.expect-statements.ensures))
    (statement (break (open_kind _ refl rolls-Break)) no_statements)

pub program-requires-2 : goal.program-requires-2
program-requires-2 c c' =
    let steps = c'.from_vec.ensures ∙ given _ _ _ c'.from_array-2.ensures.items c'.expect-steps.ensures in
    let values = c'.from_vec-2.ensures ∙ given _ _ _ c'.from_array-3.ensures.items c'.expect-values.ensures in
    subst (λ ts. StatementsFit [] most_nesting ts) (sym (given _ _ _ c'.from_array-4.ensures.items c'.expect-statements-2.ensures))
    (statement (print _ (open_kind _ refl (rolls-Print _)) (subst (λ es. ExprsFit [] most_nesting es) (sym values)
    (expr (var _ _ (open_node _ refl (rolls-Var _ _)) (subst (λ ks. StepsFit [] most_nesting ks) (sym steps)
    (index _ (open_access _ (rolls-Index _)) (literal _ (open_node _ refl (rolls-Literal _))) no_steps))) no_exprs))) no_statements)

pub program-requires-3 : goal.program-requires-3
program-requires-3 c c' =
    subst (λ ts. StatementsFit [] most_nesting ts) (sym (given _ _ _ c'.from_array-5.ensures.items c'.expect-statements-3.ensures))
    (statement (empty (open_kind _ refl rolls-Empty)) (statement (break (open_kind _ refl rolls-Break)) no_statements))

pub program-requires-4 : goal.program-requires-4
program-requires-4 c c' =
    subst (λ ts. StatementsFit [] most_nesting ts) (sym (given _ _ _ c'.from_array-6.ensures.items c'.expect-statements-4.ensures))
    (statement (break (open_kind _ refl rolls-Break)) (statement (empty (open_kind _ refl rolls-Empty)) no_statements))
