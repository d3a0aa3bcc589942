use Rattle.std.proofs.Common.{◌≡◌, None, arith, sym, ◌∙◌}
use Rattle.std.specs.Option.{option_map}
use Rattle.std.specs.Ordering.{nat_cmp}
use Rattle.std.specs.Cmp.Lexicographic.{slice_cmp}
use Rattle.std.specs.FinMap.{get, get-empty}
use Rattle.uq_kv.proofs.Databases.{if_ok, map_cause, of_empty, of_held, where_stored}
use Rattle.uq_kv.proofs.writing.find_stored.Goals as goal

pub returns-then-count-eq0-clause-found : goal.returns-then-count-eq0-clause-found
returns-then-count-eq0-clause-found g c =
    where_stored (g.P.Pages.pages c.args.p.now) c.args.header.now (λ entries. None ≡ get entries c.args.stored.now)
    (of_empty (g.P.Pages.pages c.args.p.now) c.args.header.now (g.P.Pages.size c.args.p.now) (g.met.P.Pages.size_is c.args.p.now)
    (λ entries. None ≡ get entries c.args.stored.now) (sym c.count.ensures ∙ c.if-count-eq0.true)
    (sym (get-empty (slice_cmp nat_cmp) c.args.stored.now)))

pub returns-clause-found : goal.returns-clause-found
returns-clause-found g c =
    if_ok c.find.result _ _ (λ found held. where_stored (g.P.Pages.pages c.args.p.now) c.args.header.now (λ entries. option_map (λ value. value.items) found ≡ get entries c.args.stored.now)
    (of_held (g.P.Pages.pages c.args.p.now) c.args.header.now (g.P.Pages.size c.args.p.now) (g.met.P.Pages.size_is c.args.p.now)
    (λ entries. option_map (λ value. value.items) found ≡ get entries c.args.stored.now) (omega (arith, c.count.ensures)) held)) c.find.ensures.found

pub returns-clause-cause : goal.returns-clause-cause
returns-clause-cause g c =
    map_cause (g.P.Pages.pages c.args.p.now) c.args.header.now (g.P.Pages.size c.args.p.now) (g.met.P.Pages.size_is c.args.p.now) _ _ _ c.find.result (omega (arith, c.count.ensures)) c.find.ensures.cause
