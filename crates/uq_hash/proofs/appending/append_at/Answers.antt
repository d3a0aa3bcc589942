use Rattle.std.proofs.Common.{◌≡◌, ℕ, ◌++◌, Err, Option, List, refl, sym, ap, subst, ◌∙◌, arith}
use Rattle.std.specs.Option.{ok_or, IfSome, IsSomeAnd}
use Rattle.std.specs.FinMap.{get, insert}
use Rattle.std.proofs.lemmas.Result.{err_from_is_err_and}
use Rattle.uq_page.specs.Cell.{IsKept, kept_bytes}
use Rattle.uq_page.specs.declared.cell.Cell.{Cell}
use Rattle.uq_page.specs.declared.cell.CellValue.{CellValue}
use Rattle.uq_page.specs.declared.error.ChainFault.TheVariants.{Corrupt}
use Rattle.uq_chain.specs.CauseLaws.{corrupted, handed_on, some_fault}
use Rattle.uq_hash.specs.Causes.{NoMap}
use Rattle.uq_hash.specs.Looks.{value_or_none}
use Rattle.uq_hash.specs.Map.{HoldsMap, Stored, kept}
use Rattle.uq_hash.specs.Standing.{IsCellOf, IsKeyed}
use Rattle.uq_hash.specs.WalkOrder.{hash_start}
use Rattle.uq_hash.specs.declared.searching.Standing.TheVariants.{Cell as AtCell}
use Rattle.uq_hash.specs.declared.seeking.Bound.TheVariants.{Before}
use Rattle.uq_hash.proofs.LookLemmas.{looked_none, looked_there, looked_value}
use Rattle.uq_hash.proofs.ValueLemmas.{kept_short}
use Rattle.uq_hash.proofs.appending.append_at.Goals as goal

pub returns-in_err-insert_at-clause-cause : goal.returns-in_err-insert_at-clause-cause
returns-in_err-insert_at-clause-cause g c =
    let fault = err_from_is_err_and c.from_residual.result c.from_residual.ensures.1 in
    handed_on (NoMap (g.P.Pages.pages c.args.p.now) c.args.h.now) ⊥ (NoMap (g.P.Pages.pages c.args.p.now) c.args.h.now) ⊥
    (g.P.Pages.faults c.args.p.now) (g.P.Pages.faults c.args.p.now) (g.P.Pages.faults c.insert_at.new.p) (g.P.Pages.is_sound c.insert_at.new.p)
    c.in_err-insert_at.field-0.0 c.from_residual.result (fault.1 ∙ ap Err fault.2) refl c.in_err-insert_at.ensures.cause (λ none. none) (λ short. short)

pub returns-in_default-clause-appended : goal.returns-in_default-clause-appended
returns-in_default-clause-appended g c pages told m held after told_after =
    let looks = c.requires.looks.looks pages told m held in
    let none = looked_none pages c.args.h.now m held c.args.at.now looks c.in_default.not-Some in
    subst (λ (old : Option (List ℕ)). HoldsMap after c.insert_at.new.h (insert m c.args.at.now.key.now (value_or_none old ++ c.args.more.now))) (sym none) (c.in_ok-insert_at.ensures.inserted pages told m held after told_after)

pub returns-in_err-cell-clause-cause : goal.returns-in_err-cell-clause-cause
returns-in_err-cell-clause-cause g c =
    let fault = err_from_is_err_and c.from_residual-in_err-cell.result c.from_residual-in_err-cell.ensures.1 in
    let none = c.in_err-cell.ensures.ok_part in
    let is_corrupt : c.from_residual-in_err-cell.result ≡ Err Corrupt = fault.1 ∙ ap Err fault.2 ∙ ap Err (some_fault (c.in_err-cell.ensures.value ∙ ap (λ o. ok_or o Corrupt) none)) in
    corrupted (NoMap (g.P.Pages.pages c.args.p.now) c.args.h.now) ⊥ (g.P.Pages.faults c.args.p.now) (g.P.Pages.faults c.args.p.now) (g.P.Pages.is_sound c.args.p.now)
    c.from_residual-in_err-cell.result is_corrupt refl c.requires.sound (λ pages told m held.
    let looks = c.requires.looks.looks pages told m held in
    let there = looked_there pages c.args.h.now m held c.args.at.now looks c.in-Some.len c.in-Some.is in
    subst (λ (o : Option Cell). IsSomeAnd o (IsCellOf there.it)) none (c.cell_of.ensures.exact (hash_start c.args.h.now) pages looks.bucket.row looks.bucket.cells (Before c.args.at.now.key) looks.here there.it there.others there.is there.long))

pub lengthen-requires-clause-is : goal.lengthen-requires-clause-is
lengthen-requires-clause-is g c pages told m held =
    let looks = c.requires.looks.looks pages told m held in
    let there = looked_there pages c.args.h.now m held c.args.at.now looks c.in-Some.len c.in-Some.is in
    let is = subst (λ (o : Option Cell). IsSomeAnd o (IsCellOf there.it)) c.in_ok-cell.ensures.ok_part (c.cell_of.ensures.exact (hash_start c.args.h.now) pages looks.bucket.row looks.bucket.cells (Before c.args.at.now.key) looks.here there.it there.others there.is there.long) in
    (looks, subst (λ (rest : List Stored). IsKeyed rest c.args.at.now.key.now (AtCell c.in_ok-cell.cell)) (sym there.is) (is, there.same))

pub returns-in_err-insert_at-in-Inline-clause-cause : goal.returns-in_err-insert_at-in-Inline-clause-cause
returns-in_err-insert_at-in-Inline-clause-cause g c =
    let fault = err_from_is_err_and c.from_residual-in_err-insert_at-in-Inline.result c.from_residual-in_err-insert_at-in-Inline.ensures.1 in
    handed_on (NoMap (g.P.Pages.pages c.args.p.now) c.args.h.now) ⊥ (NoMap (g.P.Pages.pages c.args.p.now) c.args.h.now) ⊥
    (g.P.Pages.faults c.args.p.now) (g.P.Pages.faults c.args.p.now) (g.P.Pages.faults c.insert_at-in-Inline.new.p) (g.P.Pages.is_sound c.insert_at-in-Inline.new.p)
    c.in_err-insert_at-in-Inline.field-0.0 c.from_residual-in_err-insert_at-in-Inline.result (fault.1 ∙ ap Err fault.2) refl c.in_err-insert_at-in-Inline.ensures.cause (λ none. none) (λ short. short)

pub returns-in_ok-insert_at-in-Inline-clause-appended : goal.returns-in_ok-insert_at-in-Inline-clause-appended
returns-in_ok-insert_at-in-Inline-clause-appended g c pages told m held after told_after =
    let look = c.args.at.now in
    let seen = c.in_ok-cell.cell in
    let looks = c.requires.looks.looks pages told m held in
    let there = looked_there pages c.args.h.now m held look looks c.in-Some.len c.in-Some.is in
    let is = subst (λ (o : Option Cell). IsSomeAnd o (IsCellOf there.it)) c.in_ok-cell.ensures.ok_part (c.cell_of.ensures.exact (hash_start c.args.h.now) pages looks.bucket.row looks.bucket.cells (Before look.key) looks.here there.it there.others there.is there.long) in
    let known = looked_value pages c.args.h.now m held look looks seen (subst (λ (rest : List Stored). IsKeyed rest look.key.now (AtCell seen)) (sym there.is) (is, there.same)) in
    let kept_is = subst (λ (o : Option Cell). IfSome o (λ it. IsKept it.len it.value)) c.in_ok-cell.ensures.ok_part c.cell_of.ensures.kept in
    let few = (subst (IsKept seen.len) c.in-Inline.is kept_is).0 in
    let value_is : c.in-Inline.value.now ≡ known.0.value = subst (λ (v : CellValue). kept_bytes v ≡ kept known.0) c.in-Inline.is known.2.bytes_are ∙ kept_short known.0 (let long = known.2.long in omega arith) in
    let joined_is : c.deref.result.now ≡ value_or_none (get m look.key.now) ++ c.args.more.now =
    c.deref.ensures.value ∙ c.in_ok-joined-in-Inline.ensures.joined ∙ ap (λ (xs : List ℕ). xs ++ c.args.more.now) (value_is ∙ sym (ap value_or_none known.1)) in
    subst (λ (xs : List ℕ). HoldsMap after c.insert_at-in-Inline.new.h (insert m look.key.now xs)) joined_is (c.in_ok-insert_at-in-Inline.ensures.inserted pages told m held after told_after)
