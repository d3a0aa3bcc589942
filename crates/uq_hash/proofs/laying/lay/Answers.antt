use Rattle.std.proofs.Common.{◌⊎◌, inl, inr, ◌≤◌, Ok, Err, List, ℕ, ◌++◌, length, map, refl, sym, ap, subst, ◌∙◌, arith}
use Rattle.std.specs.Prelude.{All, slice_index}
use Rattle.std.specs.Option.{option_copied}
use Rattle.std.proofs.lemmas.List.{length-map}
use Rattle.std.proofs.lemmas.Result.{IfOk-at_ok, err_from_is_err_and}
use Rattle.uq_page.specs.Page.{bytes_of}
use Rattle.uq_page.specs.declared.layout.TheConstants.{CELLS_AT}
use Rattle.uq_chain.specs.CauseLaws.{handed_whole}
use Rattle.uq_hash.specs.Assembled.{NoneToReplace}
use Rattle.uq_hash.specs.Laid.{LacksPages}
use Rattle.uq_hash.specs.Lying.{NoCells}
use Rattle.uq_hash.specs.Map.{cell}
use Rattle.uq_hash.specs.Refill.{IsBucketAt, IsLaid, IsShortFor, NoRow, Owned}
use Rattle.uq_hash.proofs.CauseLemmas.{roomy, roomy_err, roomy_ok}
use Rattle.uq_hash.proofs.TailLemmas.{tail_bytes, tail_sizes}
use Rattle.uq_hash.proofs.laying.lay.Goals as goal

pub returns-in_err-map_err-clause-most : goal.returns-in_err-map_err-clause-most
returns-in_err-map_err-clause-most g c front olds news others tail =
    let are = c.in_ok-cells.ensures.assembled front tail.lies tail.index in
    let sizes = ap length (tail_sizes c.args.opened.now c.args.is_replaced c.args.new front olds news others c.in_ok-cells.cells.sizes.items tail are.0) in
    let many = length-map (map cell (front ++ (news ++ others))) length in
    let mapped = length-map (front ++ (news ++ others)) cell in
    let most = c.refill.ensures.most in
    omega arith

pub returns-clause-most : goal.returns-clause-most
returns-clause-most g c front olds news others tail =
    let are = c.in_ok-cells.ensures.assembled front tail.lies tail.index in
    let sizes = ap length (tail_sizes c.args.opened.now c.args.is_replaced c.args.new front olds news others c.in_ok-cells.cells.sizes.items tail are.0) in
    let many = length-map (map cell (front ++ (news ++ others))) length in
    let mapped = length-map (front ++ (news ++ others)) cell in
    let most = c.refill.ensures.most in
    omega arith

pub returns-in_err-map_err-clause-cause : goal.returns-in_err-map_err-clause-cause
returns-in_err-map_err-clause-cause g c =
    let fault = err_from_is_err_and c.from_residual-in_err-map_err.result c.from_residual-in_err-map_err.ensures.1 in
    let it = c.args.opened.now in
    let cells = c.in_ok-cells.cells in
    let P1 = g.P.Pages.pages c.args.p.now in
    let was = roomy_err c.refill.result (Err c.in_err-map_err.field-0.0) c.in_err-map_err.field-0.0 c.in_err-map_err.ensures.cases refl in
    let NoRows = NoRow P1 c.args.h.now.free c.deref.result.now in
    let Short = IsShortFor P1 c.args.h.now.free c.deref.result.now (g.P.Pages.size c.refill.new.p) c.deref-2.result.now c.deref-3.result.now in
    handed_whole (NoRows ⊎ Short) ⊥
    ((NoCells (bytes_of it.near.it.page) CELLS_AT it.near.spot.index ⊎ NoneToReplace c.args.is_replaced it.rest.sizes.items)
    ⊎ (NoRow P1 c.args.h.now.free it.rest.row.items ⊎ LacksPages P1 c.args.h.now.free (g.P.Pages.size c.refill.new.p) it c.args.is_replaced (option_copied c.args.new))) ⊥
    (g.P.Pages.faults c.args.p.now) (g.P.Pages.faults c.args.p.now) (g.P.Pages.faults c.refill.new.p) (g.P.Pages.is_sound c.refill.new.p) c.from_residual-in_err-map_err.result refl
    (roomy NoRows Short (g.P.Pages.faults c.args.p.now) (g.P.Pages.faults c.refill.new.p) (g.P.Pages.is_sound c.refill.new.p) was.0 c.refill.result c.from_residual-in_err-map_err.result was.1 (fault.1 ∙ ap Err (fault.2 ∙ was.2)) c.refill.ensures.cause)
    (λ wrong. inr (elim wrong [
      | inl none ↦ inl (λ pages told free list owned buckets.
          none pages told free list (subst (λ (xs : List ℕ). Owned pages xs free) (sym c.deref.ensures.value) owned) (subst (All (IsBucketAt pages)) (sym c.deref.ensures.value) buckets))
      | inr short ↦ inr (
        short.0,
        λ pages told free list owned front olds news others tail.
            let are = c.in_ok-cells.ensures.assembled front tail.lies tail.index in
            let row = ap length c.deref.ensures.value in
            let less = short.1 pages told free list (subst (λ (xs : List ℕ). Owned pages xs free) (sym c.deref.ensures.value) owned) (map cell (front ++ (news ++ others)))
            (tail_sizes it c.args.is_replaced c.args.new front olds news others cells.sizes.items tail are.0 ∙ sym c.deref-2.ensures.value)
            (tail_bytes it c.args.is_replaced c.args.new front olds news others cells.bytes.items tail are.1 ∙ sym c.deref-3.ensures.value) in
            omega arith,
      )
    ]))
    (λ short. short)

pub returns-clause-laid : goal.returns-clause-laid
returns-clause-laid g c before told free list owned after told_after front olds news others tail =
    let it = c.args.opened.now in
    let cells = c.in_ok-cells.cells in
    let first = c.in_ok-map_err.field-0 in
    let ok = roomy_ok c.refill.result (Ok first) first c.in_ok-map_err.ensures.cases refl in
    let are = c.in_ok-cells.ensures.assembled front tail.lies tail.index in
    let laid = IfOk-at_ok _ ok c.refill.ensures.laid before told free list (subst (λ (xs : List ℕ). Owned before xs free) (sym c.deref.ensures.value) owned) after told_after (map cell (front ++ (news ++ others)))
    (tail_sizes it c.args.is_replaced c.args.new front olds news others cells.sizes.items tail are.0 ∙ sym c.deref-2.ensures.value)
    (tail_bytes it c.args.is_replaced c.args.new front olds news others cells.bytes.items tail are.1 ∙ sym c.deref-3.ensures.value) in
    let some : 1 ≤ length c.deref.result.now = subst (λ (xs : List ℕ). 1 ≤ length xs) (sym c.deref.ensures.value) c.requires.some in
    subst (λ (xs : List ℕ). IsLaid before after c.refill.new.h.free free xs (slice_index xs 0) (map cell (front ++ (news ++ others)))) c.deref.ensures.value
    (subst (λ (n : ℕ). IsLaid before after c.refill.new.h.free free c.deref.result.now n (map cell (front ++ (news ++ others)))) (IfOk-at_ok _ ok c.refill.ensures.first some) laid)

pub returns-clause-header : goal.returns-clause-header
returns-clause-header g c = IfOk-at_ok _ (roomy_ok c.refill.result (Ok c.in_ok-map_err.field-0) c.in_ok-map_err.field-0 c.in_ok-map_err.ensures.cases refl) c.refill.ensures.header

pub returns-clause-count : goal.returns-clause-count
returns-clause-count g c = IfOk-at_ok _ (roomy_ok c.refill.result (Ok c.in_ok-map_err.field-0) c.in_ok-map_err.field-0 c.in_ok-map_err.ensures.cases refl) c.refill.ensures.count
