use Rattle.std.proofs.Common.{sym, ◌∙◌}
use Rattle.std.proofs.lemmas.Result.{err_from_is_err_and}
use Rattle.jx9_lex.proofs.PartLemmas.{empty_by, not_empty_by, text_kind_fails, text_kind, mixed_kind_fails, mixed_kind}
use Rattle.jx9_lex.proofs.builder.Builder.finish.Goals as goal

pub returns-in_err-own_text : goal.returns-in_err-own_text
returns-in_err-own_text c =
    let p = err_from_is_err_and c.from_residual.result c.from_residual.ensures.1 in
    rw (p.1, p.2)
    (text_kind_fails c.args.self.parts.items c.args.self.pending.items c.in_err-own_text.field-0.0 (empty_by c.args.self.parts.len c.args.self.parts.items c.args.self.parts.ok.0 (sym c.is_empty.ensures ∙ c.if-is_empty.true)) c.in_err-own_text.ensures)

pub returns-then-is_empty : goal.returns-then-is_empty
returns-then-is_empty c =
    text_kind c.args.self.parts.items c.args.self.pending.items c.in_ok-own_text.field-0 (empty_by c.args.self.parts.len c.args.self.parts.items c.args.self.parts.ok.0 (sym c.is_empty.ensures ∙ c.if-is_empty.true)) c.in_ok-own_text.ensures

pub returns-in_err-parts : goal.returns-in_err-parts
returns-in_err-parts c =
    let p = err_from_is_err_and c.from_residual-in_err-parts.result c.from_residual-in_err-parts.ensures.1 in
    rw (p.1, p.2) (mixed_kind_fails c.args.self.parts.items c.args.self.pending.items c.in_err-parts.field-0.0 c.in_err-parts.ensures.err)

pub returns : goal.returns
returns c =
    let some' = not_empty_by c.args.self.parts.len c.args.self.parts.items c.args.self.parts.ok.0 (sym c.is_empty.ensures ∙ c.if-is_empty.false) in
    let all = mixed_kind c.args.self.parts.items c.in_ok-parts.parts.items c.args.self.pending.items c.requires.fits c.requires.is_open some' c.in_ok-parts.ensures.ok c.in_ok-parts.ensures.fits in
    rw c.from_vec.ensures all
