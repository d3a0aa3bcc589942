use Rattle.std.proofs.Common.{◌≡◌, Err, Option, Some, sym, ap, subst, ◌∙◌, arith}
use Rattle.std.proofs.lemmas.Result.{err_from_is_err_and}
use Rattle.std.specs.Option.{ok_or, IfSome, IsSomeAnd}
use Rattle.uq_page.specs.declared.error.ChainFault.TheVariants.{Corrupt}
use Rattle.uq_page.specs.Cell.{kept_bytes}
use Rattle.uq_chain.specs.CauseLaws.{corrupted, handed_on, some_fault, not_err}
use Rattle.uq_hash.specs.Bucket.{NoBucket}
use Rattle.uq_hash.specs.Looked.{NoValue}
use Rattle.uq_hash.specs.Map.{chain_pages}
use Rattle.uq_hash.specs.Standing.{IsKeyed, IsSound, rest_of}
use Rattle.uq_hash.specs.WalkOrder.{hash_start}
use Rattle.uq_hash.specs.declared.searching.Standing.{Standing}
use Rattle.uq_hash.proofs.FindLemmas.{key_entry, key_missed}
use Rattle.uq_hash.proofs.lookup.find_in.Goals as goal

pub returns-in_err-cell-clause-cause : goal.returns-in_err-cell-clause-cause
returns-in_err-cell-clause-cause g c =
    let fault = err_from_is_err_and c.from_residual-in_err-cell.result c.from_residual-in_err-cell.ensures.1 in
    let none = c.in_err-cell.ensures.ok_part in
    let is_corrupt : c.from_residual-in_err-cell.result ≡ Err Corrupt = fault.1 ∙ ap Err fault.2 ∙ ap Err (some_fault (c.in_err-cell.ensures.value ∙ ap (λ o. ok_or o Corrupt) none)) in
    corrupted (NoBucket (hash_start c.args.h.now) (g.P.Pages.pages c.args.p.now) c.args.first) ⊥ (g.P.Pages.faults c.args.p.now) (g.P.Pages.faults c.search.new.p) (g.P.Pages.is_sound c.search.new.p)
    c.from_residual-in_err-cell.result is_corrupt (c.in_ok-place.ensures.cause.pages.quiet (not_err _ _)) (c.in_ok-place.ensures.cause.pages.sound (not_err _ _)) (λ pages told row cells first is.
    let here = c.in_ok-place.ensures.found pages told row cells first is in
    subst (λ (o : Option Standing). IsSomeAnd o (IsKeyed (rest_of here.found.stands) c.args.key.now)) none (c.key_cell.ensures.exact (hash_start c.args.h.now) pages row cells _ here))

pub read_value-requires-clause-kept : goal.read_value-requires-clause-kept
read_value-requires-clause-kept g c = subst IsSound c.in-Cell.is (subst (λ (o : Option Standing). IfSome o IsSound) c.in_ok-cell.ensures.ok_part c.key_cell.ensures.kept)

pub returns-in_err-read_value-in-Cell-clause-asked : goal.returns-in_err-read_value-in-Cell-clause-asked
returns-in_err-read_value-in-Cell-clause-asked g c pages told row cells first is =
    let here = c.in_ok-place.ensures.found pages told row cells first is in
    let keyed = subst (λ (o : Option Standing). IsSomeAnd o (IsKeyed (rest_of here.found.stands) c.args.key.now)) c.in_ok-cell.ensures.ok_part (c.key_cell.ensures.exact (hash_start c.args.h.now) pages row cells _ here) in
    let entry = key_entry (hash_start c.args.h.now) pages row cells c.args.key c.in_ok-place.place here.found.stands c.in-Cell.cell is (subst (IsKeyed (rest_of here.found.stands) c.args.key.now) c.in-Cell.is keyed) in
    let asked = c.in_ok-place.ensures.asked pages told row cells first is in
    let more = c.in_err-read_value-in-Cell.ensures.asked pages (c.in_ok-place.ensures.same (not_err _ _) ∙ told) entry.it entry.is in
    let same = ap chain_pages (sym entry.found) in
    omega arith

pub returns-in_err-read_value-in-Cell-clause-cause : goal.returns-in_err-read_value-in-Cell-clause-cause
returns-in_err-read_value-in-Cell-clause-cause g c =
    let fault = err_from_is_err_and c.from_residual-in_err-read_value-in-Cell.result c.from_residual-in_err-read_value-in-Cell.ensures.1 in
    handed_on (NoValue (g.P.Pages.pages c.search.new.p) c.in-Cell.cell.len (kept_bytes c.in-Cell.cell.value)) ⊥ (NoBucket (hash_start c.args.h.now) (g.P.Pages.pages c.args.p.now) c.args.first) ⊥
    (g.P.Pages.faults c.args.p.now) (g.P.Pages.faults c.search.new.p) (g.P.Pages.faults c.read_value.new.p) (g.P.Pages.is_sound c.read_value.new.p)
    c.in_err-read_value-in-Cell.field-0.0 c.from_residual-in_err-read_value-in-Cell.result (fault.1 ∙ ap Err fault.2) (c.in_ok-place.ensures.cause.pages.quiet (not_err _ _)) c.in_err-read_value-in-Cell.ensures.cause
    (λ none pages told row cells first is.
    let here = c.in_ok-place.ensures.found pages told row cells first is in
    let keyed = subst (λ (o : Option Standing). IsSomeAnd o (IsKeyed (rest_of here.found.stands) c.args.key.now)) c.in_ok-cell.ensures.ok_part (c.key_cell.ensures.exact (hash_start c.args.h.now) pages row cells _ here) in
    let entry = key_entry (hash_start c.args.h.now) pages row cells c.args.key c.in_ok-place.place here.found.stands c.in-Cell.cell is (subst (IsKeyed (rest_of here.found.stands) c.args.key.now) c.in-Cell.is keyed) in
    none pages (c.in_ok-place.ensures.same (not_err _ _) ∙ told) entry.it entry.is)
    (λ short. short)

pub returns-in_ok-read_value-in-Cell-clause-found : goal.returns-in_ok-read_value-in-Cell-clause-found
returns-in_ok-read_value-in-Cell-clause-found g c pages told row cells first is =
    let here = c.in_ok-place.ensures.found pages told row cells first is in
    let keyed = subst (λ (o : Option Standing). IsSomeAnd o (IsKeyed (rest_of here.found.stands) c.args.key.now)) c.in_ok-cell.ensures.ok_part (c.key_cell.ensures.exact (hash_start c.args.h.now) pages row cells _ here) in
    let entry = key_entry (hash_start c.args.h.now) pages row cells c.args.key c.in_ok-place.place here.found.stands c.in-Cell.cell is (subst (IsKeyed (rest_of here.found.stands) c.args.key.now) c.in-Cell.is keyed) in
    ap Some (c.in_ok-read_value-in-Cell.ensures.read pages (c.in_ok-place.ensures.same (not_err _ _) ∙ told) entry.it entry.is) ∙ sym entry.found

pub returns-in_ok-read_value-in-Cell-clause-asked : goal.returns-in_ok-read_value-in-Cell-clause-asked
returns-in_ok-read_value-in-Cell-clause-asked g c pages told row cells first is =
    let here = c.in_ok-place.ensures.found pages told row cells first is in
    let keyed = subst (λ (o : Option Standing). IsSomeAnd o (IsKeyed (rest_of here.found.stands) c.args.key.now)) c.in_ok-cell.ensures.ok_part (c.key_cell.ensures.exact (hash_start c.args.h.now) pages row cells _ here) in
    let entry = key_entry (hash_start c.args.h.now) pages row cells c.args.key c.in_ok-place.place here.found.stands c.in-Cell.cell is (subst (IsKeyed (rest_of here.found.stands) c.args.key.now) c.in-Cell.is keyed) in
    let asked = c.in_ok-place.ensures.asked pages told row cells first is in
    let more = c.in_ok-read_value-in-Cell.ensures.asked pages (c.in_ok-place.ensures.same (not_err _ _) ∙ told) entry.it entry.is in
    let same = ap chain_pages (sym entry.found) in
    omega arith

pub returns-in-Nothing-clause-found : goal.returns-in-Nothing-clause-found
returns-in-Nothing-clause-found g c pages told row cells first is =
    let here = c.in_ok-place.ensures.found pages told row cells first is in
    let keyed = subst (λ (o : Option Standing). IsSomeAnd o (IsKeyed (rest_of here.found.stands) c.args.key.now)) c.in_ok-cell.ensures.ok_part (c.key_cell.ensures.exact (hash_start c.args.h.now) pages row cells _ here) in
    sym (key_missed (hash_start c.args.h.now) pages row cells c.args.key c.in_ok-place.place here.found.stands is (subst (IsKeyed (rest_of here.found.stands) c.args.key.now) c.in-Nothing.is keyed))
