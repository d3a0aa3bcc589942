use Rattle.std.proofs.Common.{◌≡◌, ◌≤◌, false, List, ℕ, arith, sym, ap, subst, ◌∙◌}
use Rattle.std.specs.Prelude.{is_some}
use Rattle.std.specs.Ordering.{nat_cmp}
use Rattle.std.specs.Cmp.Lexicographic.{slice_cmp}
use Rattle.std.specs.FinMap.{contains_key, get, get-empty, remove}
use Rattle.std.proofs.lemmas.Result.{err_from_is_err_and}
use Rattle.uq_kv.specs.Writing.{HoldsNow}
use Rattle.uq_kv.proofs.Databases.{cause_behind, handed_on, holds_map, kept, map_cause, of_empty, where_stored, within}
use Rattle.uq_kv.proofs.Putting.{changed_now, found_none, found_some, headed, less_within}
use Rattle.uq_kv.proofs.writing.remove.Goals as goal

pub returns-then-count-eq0-clause-removes : goal.returns-then-count-eq0-clause-removes
returns-then-count-eq0-clause-removes g c =
    where_stored (g.P.Pages.pages c.args.p.now) c.args.header.now (λ entries. contains_key entries c.args.stored.now ≡ false)
    (of_empty (g.P.Pages.pages c.args.p.now) c.args.header.now (g.P.Pages.size c.args.p.now) (g.met.P.Pages.size_is c.args.p.now)
    (λ entries. contains_key entries c.args.stored.now ≡ false) (sym c.count.ensures ∙ c.if-count-eq0.true) (ap is_some (get-empty (slice_cmp nat_cmp) c.args.stored.now)))

pub returns-in_err-at-clause-cause : goal.returns-in_err-at-clause-cause
returns-in_err-at-clause-cause g c =
    let p = err_from_is_err_and c.from_residual.result c.from_residual.ensures.1 in
    let one = p.1 in
    let two = p.2 in
    handed_on c.look_for.result c.from_residual.result c.in_err-at.field-0.0 c.in_err-at.was (cc) (g.P.Pages.pages c.args.p.now) c.args.header.now _ _ _
    (map_cause (g.P.Pages.pages c.args.p.now) c.args.header.now (g.P.Pages.size c.args.p.now) (g.met.P.Pages.size_is c.args.p.now) _ _ _ c.look_for.result (omega (arith, c.count.ensures)) c.look_for.ensures.cause)

pub returns-in_default-clause-removes : goal.returns-in_default-clause-removes
returns-in_default-clause-removes g c pages on entries database =
    let long = g.met.P.Pages.size_is c.args.p.now pages on in
    let map = holds_map c.args.header.now entries pages (omega (arith, c.count.ensures)) (kept c.args.header.now entries pages database) in
    found_none (get entries c.args.stored.now) c.len.result (c.len.ensures ∙ c.in_ok-at.ensures.len pages on entries map) c.in_default.not-Some

pub returns-in_err-remove_at-clause-cause : goal.returns-in_err-remove_at-clause-cause
returns-in_err-remove_at-clause-cause g c =
    let p = err_from_is_err_and c.from_residual-in_err-remove_at.result c.from_residual-in_err-remove_at.ensures.1 in
    let one = p.1 in
    let two = p.2 in
    let some : 1 ≤ g.P.Pages.size c.look_for.new.p = omega (arith, c.count.ensures, c.in_ok-at.ensures.size) in
    handed_on c.remove_at.result c.from_residual-in_err-remove_at.result c.in_err-remove_at.field-0.0 c.in_err-remove_at.was (cc) (g.P.Pages.pages c.args.p.now) c.args.header.now _ _ _
    (cause_behind c.remove_at.result (g.P.Pages.pages c.args.p.now) (g.P.Pages.pages c.look_for.new.p) c.args.header.now _ _ _ _
    (c.in_ok-at.ensures.same (λ is. cc)) (c.in_ok-at.ensures.cause.pages.quiet (λ is. cc))
    (map_cause (g.P.Pages.pages c.look_for.new.p) c.args.header.now (g.P.Pages.size c.look_for.new.p) (g.met.P.Pages.size_is c.look_for.new.p) _ _ _ c.remove_at.result some c.remove_at.ensures.cause))

pub returns-clause-removes : goal.returns-clause-removes
returns-clause-removes g c pages on entries database =
    let keeps = kept c.args.header.now entries pages database in
    let some : 1 ≤ g.P.Pages.size c.look_for.new.p = omega (arith, c.count.ensures, c.in_ok-at.ensures.size) in
    let long = g.met.P.Pages.size_is c.args.p.now pages on in
    let map = holds_map c.args.header.now entries pages (omega (arith, c.count.ensures)) keeps in
    let there = found_some (get entries c.args.stored.now) c.len.result _ (c.len.ensures ∙ c.in_ok-at.ensures.len pages on entries map) c.in-Some.is in
    let now = changed_now (g.P.Pages.pages c.look_for.new.p) c.args.header.now (g.P.Pages.size c.look_for.new.p) (g.met.P.Pages.size_is c.look_for.new.p) (λ m. remove m c.in_ok-at.at.key.now) (g.P.Pages.pages c.remove_at.new.p) c.remove_at.new.h some
    c.in_ok-remove_at.ensures.removed (c.in_ok-remove_at.ensures.told (λ is. cc)) pages (c.in_ok-at.ensures.same (λ is. cc) ∙ on) entries keeps in (
      there,
      headed c.apart_from_header.ensures (g.P.Pages.pages c.remove_at.new.p) (g.P.Pages.pages c.write_head.new.p) c.remove_at.new.h (remove entries c.args.stored.now) (g.P.Pages.size c.remove_at.new.p)
          (g.met.P.Pages.size_is c.remove_at.new.p) (omega (arith, some, c.in_ok-remove_at.ensures.size))
          (subst (λ (key : List ℕ). HoldsNow (g.P.Pages.pages c.remove_at.new.p) c.remove_at.new.h (remove entries key)) c.in_ok-at.ensures.key now) c.in_ok-write_head.ensures.written
          (less_within c.sums_of_remove.ensures entries c.args.stored.now there (within c.args.header.now entries pages database)),
    )
