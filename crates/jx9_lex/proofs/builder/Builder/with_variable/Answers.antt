use Rattle.std.proofs.Common.{[], ◌∷◌, ◌++◌, sym, ap, subst, ◌∙◌}
use Rattle.jx9_syntax.specs.Quoted.{variable}
use Rattle.jx9_syntax.specs.declared.parts.Part.TheVariants as part
use Rattle.jx9_lex.specs.Built.{AddsPiece}
use Rattle.std.proofs.lemmas.Result.{err_from_is_err_and}
use Rattle.jx9_lex.proofs.PartLemmas.{adds_variable, variable_text_fails, variable_name_fails}
use Rattle.jx9_lex.proofs.builder.Builder.with_variable.Goals as goal

pub returns-in_err-parts-clause-err : goal.returns-in_err-parts-clause-err
returns-in_err-parts-clause-err c =
    let p = err_from_is_err_and c.from_residual.result c.from_residual.ensures.1 in
    rw (p.1, p.2) (variable_text_fails c.args.name.now c.args.self.parts.items c.args.self.pending.items c.in_err-parts.field-0.0 c.in_err-parts.ensures.err)

pub returns-in_err-name-clause-err : goal.returns-in_err-name-clause-err
returns-in_err-name-clause-err c =
    let p = err_from_is_err_and c.from_residual-in_err-name.result c.from_residual-in_err-name.ensures.1 in
    rw (p.1, p.2) (variable_name_fails c.args.name.now c.args.self.parts.items c.args.self.pending.items c.in_err-name.field-0.0 c.in_err-name.ensures)

pub returns-clause-ok : goal.returns-clause-ok
returns-clause-ok c =
    subst (λ bytes. AddsPiece (variable c.args.name.now) c.args.self.parts.items c.args.self.pending.items c.push.new.self.items bytes) (sym c.new.ensures.items)
    (adds_variable c.args.name.now c.args.self.parts.items c.in_ok-parts.parts.items c.push.new.self.items c.args.self.pending.items c.in_ok-parts.ensures.ok
    (c.in_ok-push.ensures.items ∙ ap (λ name. c.in_ok-parts.parts.items ++ part.Var name ∷ []) c.in_ok-name.ensures.0) c.in_ok-parts.ensures.fits c.in_ok-name.ensures.1)
