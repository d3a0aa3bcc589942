use Rattle.std.proofs.Common.{sym, ap, ◌∙◌}
use Rattle.std.specs.FinMap.{contains_key}
use Rattle.std.proofs.lemmas.Result.{err_from_is_err_and}
use Rattle.uq_kv.specs.Stored.{stored_key}
use Rattle.uq_kv.specs.declared.space.Space.TheVariants.{Keys}
use Rattle.uq_kv.proofs.Databases.{handed_on, where_false, where_true}
use Rattle.uq_kv.proofs.walking.present_key.Goals as goal

pub returns-in_err-there-clause-cause : goal.returns-in_err-there-clause-cause
returns-in_err-there-clause-cause g c =
    let p = err_from_is_err_and c.from_residual.result c.from_residual.ensures.1 in
    let one = p.1 in
    let two = p.2 in
    handed_on c.is_there.result c.from_residual.result c.in_err-there.field-0.0 c.in_err-there.was (cc) (g.P.Pages.pages c.args.p.now) c.args.header.now _ _ _ c.is_there.ensures.cause

pub returns-then-there-clause-found : goal.returns-then-there-clause-found
returns-then-there-clause-found g c = λ pages on entries database.
    where_true (contains_key entries (stored_key Keys c.args.key.now)) (stored_key Keys c.args.key.now) c.in-Ok.stored.items c.in-Ok.ensures
    (sym c.if-there.true ∙ c.in_ok-there.ensures.there pages on entries database ∙ ap (contains_key entries) (c.deref.ensures.value ∙ c.in-Ok.ensures))

pub returns-else-there-clause-found : goal.returns-else-there-clause-found
returns-else-there-clause-found g c = λ pages on entries database.
    where_false (contains_key entries (stored_key Keys c.args.key.now)) (stored_key Keys c.args.key.now)
    (sym c.if-there.false ∙ c.in_ok-there.ensures.there pages on entries database ∙ ap (contains_key entries) (c.deref.ensures.value ∙ c.in-Ok.ensures))
