use Rattle.std.proofs.Common.{true, None, arith, refl, sym, ◌∙◌}
use Rattle.std.proofs.lemmas.Result.{err_from_is_err_and}
use Rattle.uq_kv.specs.Users.{LastOf}
use Rattle.uq_kv.proofs.Databases.{cause_behind, handed_on, holds_map, if_ok, kept, map_cause, of_empty, where_stored}
use Rattle.uq_kv.proofs.Walks.{last_as, none_empty}
use Rattle.uq_kv.proofs.walking.last_key.Goals as goal

pub returns-then-count-eq0-clause-found : goal.returns-then-count-eq0-clause-found
returns-then-count-eq0-clause-found g c =
    where_stored (g.P.Pages.pages c.args.p.now) c.args.header.now (λ entries. LastOf entries None)
    (of_empty (g.P.Pages.pages c.args.p.now) c.args.header.now (g.P.Pages.size c.args.p.now) (g.met.P.Pages.size_is c.args.p.now)
    (λ entries. LastOf entries None) (sym c.count.ensures ∙ c.if-count-eq0.true) (none_empty _))

pub returns-in_err-start-clause-cause : goal.returns-in_err-start-clause-cause
returns-in_err-start-clause-cause g c =
    let p = err_from_is_err_and c.from_residual.result c.from_residual.ensures.1 in
    let one = p.1 in
    let two = p.2 in
    handed_on c.last.result c.from_residual.result c.in_err-start.field-0.0 c.in_err-start.was (cc) (g.P.Pages.pages c.args.p.now) c.args.header.now _ _ _
    (map_cause (g.P.Pages.pages c.args.p.now) c.args.header.now (g.P.Pages.size c.args.p.now) (g.met.P.Pages.size_is c.args.p.now) _ _ _ c.last.result (omega (arith, c.count.ensures)) c.last.ensures.cause)

pub returns-clause-found : goal.returns-clause-found
returns-clause-found g c =
    if_ok c.backward.result _ _ (λ found held pages on entries database.
    let long = g.met.P.Pages.size_is c.args.p.now pages on in
    let map = holds_map c.args.header.now entries pages (omega (arith, c.count.ensures)) (kept c.args.header.now entries pages database) in
    last_as entries _ _ _ (λ other is. is.1) (λ other is. (refl, is))
    (held pages (c.in_ok-start.ensures.same (λ is. cc) ∙ on) entries database (λ other. true) (λ a b is less. refl) (last_as entries _ _ _ (λ other is. refl) (λ other is. tt) (c.in_ok-start.ensures.found pages on entries map))))
    c.backward.ensures.found

pub returns-clause-cause : goal.returns-clause-cause
returns-clause-cause g c =
    cause_behind c.backward.result (g.P.Pages.pages c.args.p.now) (g.P.Pages.pages c.last.new.p) c.args.header.now _ _ _ _ (c.in_ok-start.ensures.same (λ is. cc)) (c.in_ok-start.ensures.cause.pages.quiet (λ is. cc)) c.backward.ensures.cause
