use Rattle.std.proofs.Common.{◌≡◌, false, arith, sym, ap, ◌∙◌}
use Rattle.std.specs.Prelude.{is_some}
use Rattle.std.specs.Ordering.{nat_cmp}
use Rattle.std.specs.Cmp.Lexicographic.{slice_cmp}
use Rattle.std.specs.FinMap.{contains_key, get, get-empty}
use Rattle.std.proofs.lemmas.Result.{err_from_is_err_and}
use Rattle.uq_kv.proofs.Databases.{handed_on, holds_map, kept, map_cause, of_empty, where_stored}
use Rattle.uq_kv.proofs.Putting.{some_long}
use Rattle.uq_kv.proofs.walking.is_there.Goals as goal

pub returns-then-count-eq0-clause-there : goal.returns-then-count-eq0-clause-there
returns-then-count-eq0-clause-there g c =
    where_stored (g.P.Pages.pages c.args.p.now) c.args.header.now (λ entries. false ≡ contains_key entries c.args.stored.now)
    (of_empty (g.P.Pages.pages c.args.p.now) c.args.header.now (g.P.Pages.size c.args.p.now) (g.met.P.Pages.size_is c.args.p.now)
    (λ entries. false ≡ contains_key entries c.args.stored.now) (sym c.count.ensures ∙ c.if-count-eq0.true) (sym (ap is_some (get-empty (slice_cmp nat_cmp) c.args.stored.now))))

pub returns-in_err-at-clause-cause : goal.returns-in_err-at-clause-cause
returns-in_err-at-clause-cause g c =
    let p = err_from_is_err_and c.from_residual.result c.from_residual.ensures.1 in
    let one = p.1 in
    let two = p.2 in
    handed_on c.look_for.result c.from_residual.result c.in_err-at.field-0.0 c.in_err-at.was (cc) (g.P.Pages.pages c.args.p.now) c.args.header.now _ _ _
    (map_cause (g.P.Pages.pages c.args.p.now) c.args.header.now (g.P.Pages.size c.args.p.now) (g.met.P.Pages.size_is c.args.p.now) _ _ _ c.look_for.result (omega (arith, c.count.ensures)) c.look_for.ensures.cause)

pub returns-clause-there : goal.returns-clause-there
returns-clause-there g c pages on entries database =
    let long = g.met.P.Pages.size_is c.args.p.now pages on in
    let map = holds_map c.args.header.now entries pages (omega (arith, c.count.ensures)) (kept c.args.header.now entries pages database) in
    c.is_some.ensures ∙ ap is_some (c.len.ensures ∙ c.in_ok-at.ensures.len pages on entries map) ∙ some_long (get entries c.args.stored.now)
