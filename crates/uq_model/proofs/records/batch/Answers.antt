use Rattle.std.proofs.Common.{sym, subst, ◌∙◌, arith}
use Rattle.std.proofs.lemmas.Result.{err_from_is_err_and}
use Rattle.uq_model.specs.Change.{Decides}
use Rattle.uq_model.proofs.Batches.{not_objects, ids_left, none_large, sizes_refuse}
use Rattle.uq_model.proofs.records.batch.Goals as goal

pub returns-then-not-are_objects-clause-made : goal.returns-then-not-are_objects-clause-made
returns-then-not-are_objects-clause-made c =
    not_objects c.args.next c.args.values.now (sym c.are_objects.ensures ∙ c.if-not-are_objects.true)

pub returns-in_err-check_sizes-clause-made : goal.returns-in_err-check_sizes-clause-made
returns-in_err-check_sizes-clause-made c =
    let p = err_from_is_err_and c.from_residual.result c.from_residual.ensures.1 in
    rw (p.1, p.2)
    (sizes_refuse _ c.args.next c.args.values.now c.in_err-check_sizes.field-0.0
    (sym c.are_objects.ensures ∙ c.if-not-are_objects.false) c.in_err-check_sizes.ensures)

pub returns-then-values-next-clause-made : goal.returns-then-values-next-clause-made
returns-then-values-next-clause-made c =
    none_large c.args.next c.args.values.now (sym c.are_objects.ensures ∙ c.if-not-are_objects.false)
    (omega (arith, c.if-values-next.true)) c.requires.next c.in_ok-check_sizes.ensures

pub returns-clause-made : goal.returns-clause-made
returns-clause-made c =
    subst (λ r. Decides r c.records_from.result (λ records. records.items))
    (sym (ids_left c.args.next c.args.values.now (sym c.are_objects.ensures ∙ c.if-not-are_objects.false)
    (omega (arith, c.if-values-next.false)) c.requires.next))
    c.records_from.ensures.made
