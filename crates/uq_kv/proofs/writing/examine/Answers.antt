use Rattle.std.proofs.Common.{◌≡◌, None, List, ℕ, length, arith, rules, sym, ap, ◌∙◌}
use Rattle.std.specs.Option.{option_map}
use Rattle.std.specs.Ordering.{nat_cmp}
use Rattle.std.specs.Cmp.Lexicographic.{slice_cmp}
use Rattle.std.specs.FinMap.{get-empty, len-empty}
use Rattle.std.proofs.lemmas.Result.{err_from_is_err_and}
use Rattle.uq_kv.specs.Writing.{IsBefore}
use Rattle.uq_kv.proofs.Databases.{bytes_empty, handed_on, map_cause, of_empty, of_held}
use Rattle.uq_kv.proofs.writing.examine.Goals as goal

pub returns-then-count-eq0-clause-before : goal.returns-then-count-eq0-clause-before
returns-then-count-eq0-clause-before g c =
    of_empty (g.P.Pages.pages c.args.p.now) c.args.header.now (g.P.Pages.size c.args.p.now) (g.met.P.Pages.size_is c.args.p.now)
    (λ it. IsBefore it c.args.stored.now (record { totals = record { entries = 0; bytes = 0 }; old_len = None })) (sym c.count.ensures ∙ c.if-count-eq0.true)
    (record { entries = sym (len-empty (slice_cmp nat_cmp) (List ℕ)); bytes = sym bytes_empty; old = sym (ap (option_map length) (get-empty (slice_cmp nat_cmp) c.args.stored.now)) })

pub returns-in_err-at-clause-cause : goal.returns-in_err-at-clause-cause
returns-in_err-at-clause-cause g c =
    let p = err_from_is_err_and c.from_residual.result c.from_residual.ensures.1 in
    let one = p.1 in
    let two = p.2 in
    handed_on c.look_for.result c.from_residual.result c.in_err-at.field-0.0 c.in_err-at.was (cc) (g.P.Pages.pages c.args.p.now) c.args.header.now _ _ _
    (map_cause (g.P.Pages.pages c.args.p.now) c.args.header.now (g.P.Pages.size c.args.p.now) (g.met.P.Pages.size_is c.args.p.now) _ _ _ c.look_for.result (omega (arith, c.count.ensures)) c.look_for.ensures.cause)

pub returns-clause-before : goal.returns-clause-before
returns-clause-before g c =
    of_held (g.P.Pages.pages c.args.p.now) c.args.header.now (g.P.Pages.size c.args.p.now) (g.met.P.Pages.size_is c.args.p.now)
    (λ it. IsBefore it c.args.stored.now (record { totals = record { entries = c.args.header.now.entries; bytes = c.args.header.now.bytes }; old_len = c.map.result })) (omega (arith, c.count.ensures))
    (λ pages on m holds. record {
      entries = holds.sums.keys;
      bytes = holds.sums.bytes;
      old = let same : c.in_ok-at.at.len ≡ c.map.result = search rules in sym same ∙ c.in_ok-at.ensures.len pages on m holds;
    })
