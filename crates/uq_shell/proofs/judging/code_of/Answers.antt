use Rattle.std.proofs.Common.{◌≡◌, List, Result, Err, refl, sym, ap, subst, ◌∙◌}
use Rattle.std.proofs.lemmas.Result.{err_from_is_err_and}
use Rattle.std.specs.Prelude.{IfErr}
use Rattle.jx9_compile.specs.declared.code.Code.{Code}
use Rattle.jx9_meaning.specs.Script.{source_of}
use Rattle.jx9_syntax.specs.Program.{IsProgram}
use Rattle.jx9_syntax.specs.declared.token.Token.{Token}
use Rattle.uq_shell.specs.Verdicts.{HasNoCode}
use Rattle.uq_shell.specs.declared.judging.NoCode.{NoCode}
use Rattle.uq_shell.proofs.Judged.{no_code}
use Rattle.uq_shell.proofs.judging.code_of.Goals as goal

pub returns-in_err-compile-clause-none : goal.returns-in_err-compile-clause-none
returns-in_err-compile-clause-none c =
    let p = err_from_is_err_and c.from_residual-in_err-compile.result c.from_residual-in_err-compile.ensures.1 in
    let is = subst (λ (tokens : List Token). IsProgram tokens c.in_ok-program.program) c.as_slice.ensures.value c.in_ok-program.ensures.found in
    subst (λ (r : Result Code NoCode). IfErr r (HasNoCode c.args.text.now)) (sym (p.1 ∙ ap (λ (why : NoCode). Err why) p.2))
    (no_code c.args.text.now c.in_ok-tokens.tokens.items c.in_ok-program.program c.in_ok-tokens.ensures.tokens is c.in_err-compile.field-0.0 c.in_err-compile.ensures.fault)

pub returns-clause-code : goal.returns-clause-code
returns-clause-code c =
    let is = subst (λ (tokens : List Token). IsProgram tokens c.in_ok-program.program) c.as_slice.ensures.value c.in_ok-program.ensures.found in
    (source_of c.in_ok-program.program, (c.in_ok-tokens.tokens.items, c.in_ok-tokens.ensures.tokens, (c.in_ok-program.program, is, (c.in_ok-compile.ensures.clean, refl))), c.in_ok-compile.ensures.behaves)
