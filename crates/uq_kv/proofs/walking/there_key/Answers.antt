use Rattle.std.proofs.Common.{◌≡◌, ◌-◌, true, false, length, drop, arith, rules, sym, ◌∙◌}
use Rattle.std.specs.FinMap.{contains_key}
use Rattle.std.proofs.lemmas.List.{length-drop, take_all}
use Rattle.std.proofs.lemmas.Result.{err_from_is_err_and}
use Rattle.uq_kv.proofs.Databases.{handed_on, where_false, where_true}
use Rattle.uq_kv.proofs.walking.there_key.Goals as goal

pub returns-in_err-there-clause-cause : goal.returns-in_err-there-clause-cause
returns-in_err-there-clause-cause g c =
    let p = err_from_is_err_and c.from_residual.result c.from_residual.ensures.1 in
    let one = p.1 in
    let two = p.2 in
    handed_on c.is_there.result c.from_residual.result c.in_err-there.field-0.0 c.in_err-there.was (cc) (g.P.Pages.pages c.args.p.now) c.args.header.now _ _ _ c.is_there.ensures.cause

pub returns-then-not-there-clause-found : goal.returns-then-not-there-clause-found
returns-then-not-there-clause-found g c = λ pages on entries database.
    let gone : c.in_ok-there.there ≡ false = search rules in
    where_false (contains_key entries c.args.stored.now) (drop 1 c.args.stored.now) (sym gone ∙ c.in_ok-there.ensures.there pages on entries database)

pub returns-in-Ok-clause-found : goal.returns-in-Ok-clause-found
returns-in-Ok-clause-found g c = λ pages on entries database.
    let there : c.in_ok-there.there ≡ true = search rules in
    let long = length-drop 1 c.args.stored.now in
    let same : c.in-Ok.key.items ≡ drop 1 c.args.stored.now = c.in-Ok.ensures.items ∙ take_all (length c.args.stored.now - 1) (drop 1 c.args.stored.now) (omega (arith, long)) in
    where_true (contains_key entries c.args.stored.now) (drop 1 c.args.stored.now) c.in-Ok.key.items same (sym there ∙ c.in_ok-there.ensures.there pages on entries database)
