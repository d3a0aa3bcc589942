use Rattle.std.proofs.Common.{[], ◌∷◌, ◌++◌, List, sym, ap, subst, ◌∙◌}
use Rattle.std.proofs.lemmas.Result.{err_from_is_err_and}
use Rattle.jx9_syntax.specs.Tokens.{PartsFit}
use Rattle.jx9_syntax.specs.declared.parts.Part.{Part}
use Rattle.jx9_syntax.specs.declared.parts.Part.TheVariants as part
use Rattle.jx9_lex.proofs.PartLemmas.{not_empty_by, text_is, text_parts_fail}
use Rattle.jx9_lex.proofs.builder.with_text.Goals as goal

pub returns-in_err-own_text-clause-err : goal.returns-in_err-own_text-clause-err
returns-in_err-own_text-clause-err c =
    let p = err_from_is_err_and c.from_residual.result c.from_residual.ensures.1 in
    rw (p.1, p.2)
    (text_parts_fail c.args.pending.items c.in_err-own_text.field-0.0 (not_empty_by c.args.pending.len c.args.pending.items c.args.pending.ok.0 (sym c.is_empty.ensures ∙ c.if-is_empty.false)) c.in_err-own_text.ensures)

pub returns-clause-ok : goal.returns-clause-ok
returns-clause-ok c =
    let some' = not_empty_by c.args.pending.len c.args.pending.items c.args.pending.ok.0 (sym c.is_empty.ensures ∙ c.if-is_empty.false) in
    c.in_ok-push.ensures.items
    ∙ ap (λ (qs : List Part). c.args.parts.items ++ qs) (ap (λ bs. part.Text bs ∷ []) c.in_ok-own_text.ensures.0 ∙ sym (text_is c.args.pending.items some'))

pub returns-clause-fits : goal.returns-clause-fits
returns-clause-fits c =
    let some' = not_empty_by c.args.pending.len c.args.pending.items c.args.pending.ok.0 (sym c.is_empty.ensures ∙ c.if-is_empty.false) in
    subst PartsFit (sym (text_is c.args.pending.items some')) (c.in_ok-own_text.ensures.1, tt)
