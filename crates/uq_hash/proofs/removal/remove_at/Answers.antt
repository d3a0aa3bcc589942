use Rattle.std.proofs.Common.{◌≡◌, ◌⊎◌, inl, inr, ◌≤◌, ◌<◌, ◌+◌, true, Err, Option, List, ℕ, [], length, None, Some, is_some, refl, sym, ap, subst, ◌∙◌, arith}
use Rattle.std.specs.Option.{ok_or, IfSome, IsSomeAnd}
use Rattle.std.specs.FinMap.{remove}
use Rattle.std.proofs.lemmas.List.Elements.{All-weaker}
use Rattle.std.proofs.lemmas.Option.{same_Some}
use Rattle.std.proofs.lemmas.Result.{err_from_is_err_and}
use Rattle.uq_page.specs.Cell.{kept_bytes}
use Rattle.uq_page.specs.Page.{bytes_of}
use Rattle.uq_page.specs.declared.error.ChainFault.TheVariants.{Corrupt}
use Rattle.uq_page.specs.declared.layout.TheConstants.{CELLS_AT}
use Rattle.uq_chain.specs.CauseLaws.{corrupted, handed_on, not_err, some_fault}
use Rattle.uq_chain.specs.TurnLaws.{header_on, turned_none}
use Rattle.uq_hash.specs.Assembled.{NoneToReplace}
use Rattle.uq_hash.specs.Causes.{NoMap}
use Rattle.uq_hash.specs.Changed.{NoValueOrFreeList}
use Rattle.uq_hash.specs.Laid.{LacksPages}
use Rattle.uq_hash.specs.Lying.{NoCells}
use Rattle.uq_hash.specs.Map.{HoldsMap, Map}
use Rattle.uq_hash.specs.Recounted.{Discounts}
use Rattle.uq_hash.specs.Refill.{NoRow}
use Rattle.uq_hash.specs.Standing.{IsKeyed, IsSound, rest_of}
use Rattle.uq_hash.specs.WalkOrder.{hash_start}
use Rattle.uq_hash.specs.declared.searching.Standing.{Standing}
use Rattle.uq_hash.specs.declared.searching.Standing.TheVariants.{Cell as AtCell, Nothing}
use Rattle.uq_hash.specs.declared.seeking.Bound.TheVariants.{Before}
use Rattle.uq_hash.proofs.CauseLemmas.{handed_quiet}
use Rattle.uq_hash.proofs.KeyLemmas.{at_key, near_olds, old_of, there_is}
use Rattle.uq_hash.proofs.RefillLemmas.{told_still}
use Rattle.uq_hash.proofs.RemoveLemmas.{leaves, missing, removed, value_was}
use Rattle.uq_hash.proofs.StepLemmas.{buckets_at, front_at, old_at, owned_at, tail_at}
use Rattle.uq_hash.proofs.StoreLemmas.{old_dropped, old_entry}
use Rattle.uq_hash.proofs.SumLemmas.{counted, remove_absent, sums_on, sums_without}
use Rattle.uq_hash.proofs.TailLemmas.{some_to_replace}
use Rattle.uq_hash.proofs.removal.remove_at.Goals as goal

pub returns-in_err-opened-clause-cause : goal.returns-in_err-opened-clause-cause
returns-in_err-opened-clause-cause g c =
    let fault = err_from_is_err_and c.from_residual.result c.from_residual.ensures.1 in
    handed_on (NoMap (g.P.Pages.pages c.args.p.now) c.args.h.now) ⊥ (NoMap (g.P.Pages.pages c.args.p.now) c.args.h.now) ⊥
    (g.P.Pages.faults c.args.p.now) (g.P.Pages.faults c.args.p.now) (g.P.Pages.faults c.open_at.new.p) (g.P.Pages.is_sound c.open_at.new.p)
    c.in_err-opened.field-0.0 c.from_residual.result (fault.1 ∙ ap Err fault.2) refl c.in_err-opened.ensures.cause (λ none. none) (λ short. short)

pub returns-in_err-old-clause-cause : goal.returns-in_err-old-clause-cause
returns-in_err-old-clause-cause g c =
    let fault = err_from_is_err_and c.from_residual-in_err-old.result c.from_residual-in_err-old.ensures.1 in
    let none = c.in_err-old.ensures.ok_part in
    let is_corrupt : c.from_residual-in_err-old.result ≡ Err Corrupt = fault.1 ∙ ap Err fault.2 ∙ ap Err (some_fault (c.in_err-old.ensures.value ∙ ap (λ o. ok_or o Corrupt) none)) in
    corrupted (NoMap (g.P.Pages.pages c.args.p.now) c.args.h.now) ⊥ (g.P.Pages.faults c.args.p.now) (g.P.Pages.faults c.open_at.new.p) (g.P.Pages.is_sound c.open_at.new.p)
    c.from_residual-in_err-old.result is_corrupt (c.in_ok-opened.ensures.cause.pages.quiet (not_err _ _)) (c.in_ok-opened.ensures.cause.pages.sound (not_err _ _)) (λ pages told m held.
    let at = c.in_ok-opened.ensures.opened pages told m held in
    subst (λ (o : Option Standing). IsSomeAnd o (IsKeyed (rest_of at.here.found.stands) c.args.at.now.key.now)) none (c.key_cell.ensures.exact (hash_start c.args.h.now) pages at.bucket.row at.bucket.cells (Before c.args.at.now.key) at.here))

pub returns-in-Nothing-clause-there : goal.returns-in-Nothing-clause-there
returns-in-Nothing-clause-there g c pages told m held =
    let at = c.in_ok-opened.ensures.opened pages told m held in
    let so = at_key pages c.args.h.now m held c.args.at.now.key c.in_ok-opened.opened Nothing c.key_cell.result (c.in_ok-old.ensures.ok_part ∙ ap Some c.in-Nothing.is) at
    (c.key_cell.ensures.exact (hash_start c.args.h.now) pages at.bucket.row at.bucket.cells (Before c.args.at.now.key) at.here) in
    there_is m c.args.at.now.key.now Nothing (old_of pages c.args.h.now m held c.args.at.now.key c.in_ok-opened.opened Nothing so)

pub returns-in-Nothing-clause-removed : goal.returns-in-Nothing-clause-removed
returns-in-Nothing-clause-removed g c pages told m held after told_after =
    let at = c.in_ok-opened.ensures.opened pages told m held in
    let so = at_key pages c.args.h.now m held c.args.at.now.key c.in_ok-opened.opened Nothing c.key_cell.result (c.in_ok-old.ensures.ok_part ∙ ap Some c.in-Nothing.is) at
    (c.key_cell.ensures.exact (hash_start c.args.h.now) pages at.bucket.row at.bucket.cells (Before c.args.at.now.key) at.here) in
    let same = same_Some pages after (sym told ∙ sym (c.in_ok-opened.ensures.same (not_err _ _)) ∙ told_after) in
    subst (λ (xs : List (List ℕ)). HoldsMap xs c.args.h.now (remove m c.args.at.now.key.now)) same
    (subst (λ (n : Map). HoldsMap pages c.args.h.now n) (sym (remove_absent m c.args.at.now.key.now (missing m c.args.at.now.key.now (old_of pages c.args.h.now m held c.args.at.now.key c.in_ok-opened.opened Nothing so)))) held)

pub lay-requires-clause-pages : goal.lay-requires-clause-pages
lay-requires-clause-pages g c =
    let there = c.in_ok-opened.ensures.there 0 0 c.in_ok-opened.ensures.some in
    let less = there.1 in
    let size = c.in_ok-opened.ensures.size in
    omega arith

pub lay-requires-clause-there : goal.lay-requires-clause-there
lay-requires-clause-there g c =
    let size = c.in_ok-opened.ensures.size in
    All-weaker (λ n. (1 ≤ n) × (n < g.P.Pages.size c.args.p.now)) (λ n. (1 ≤ n) × (n < g.P.Pages.size c.open_at.new.p)) (λ n is. (is.0, let less = is.1 in omega arith)) c.in_ok-opened.opened.rest.row.items c.in_ok-opened.ensures.there

pub returns-in_err-lay-clause-cause : goal.returns-in_err-lay-clause-cause
returns-in_err-lay-clause-cause g c =
    let fault = err_from_is_err_and c.from_residual-in_err-lay.result c.from_residual-in_err-lay.ensures.1 in
    let it = c.in_ok-opened.opened in
    let P1 = g.P.Pages.pages c.open_at.new.p in
    handed_on ((NoCells (bytes_of it.near.it.page) CELLS_AT it.near.spot.index ⊎ NoneToReplace true it.rest.sizes.items)
    ⊎ (NoRow P1 c.args.h.now.free it.rest.row.items ⊎ LacksPages P1 c.args.h.now.free (g.P.Pages.size c.lay.new.p) it true None)) ⊥
    (NoMap (g.P.Pages.pages c.args.p.now) c.args.h.now) ⊥
    (g.P.Pages.faults c.args.p.now) (g.P.Pages.faults c.open_at.new.p) (g.P.Pages.faults c.lay.new.p) (g.P.Pages.is_sound c.lay.new.p)
    c.in_err-lay.field-0.0 c.from_residual-in_err-lay.result (fault.1 ∙ ap Err fault.2) (c.in_ok-opened.ensures.cause.pages.quiet (not_err _ _)) c.in_err-lay.ensures.cause
    (λ wrong pages told m held.
    let told1 = c.in_ok-opened.ensures.same (not_err _ _) ∙ told in
    let at = c.in_ok-opened.ensures.opened pages told m held in
    let old = AtCell c.in-Cell.cell in
    let so = at_key pages c.args.h.now m held c.args.at.now.key it old c.key_cell.result (c.in_ok-old.ensures.ok_part ∙ ap Some c.in-Cell.is) at (c.key_cell.ensures.exact (hash_start c.args.h.now) pages at.bucket.row at.bucket.cells (Before c.args.at.now.key) at.here) in
    let o = near_olds pages c.args.h.now m held c.args.at.now.key it old so in
    let first = turned_none pages c.args.h.now.free held.free held.form.listed in
    let tail = tail_at pages c.args.h.now m held c.args.at.now.key it old so [] None tt in
    let owned = owned_at pages pages c.args.h.now.free c.args.h.now m held c.args.at.now.key it old so [] first in
    elim wrong [
      | inl cells ↦ elim cells [
        | inl none ↦ none (front_at so) tail.lies tail.index
        | inr none ↦ some_to_replace it true None (front_at so) o.olds [] o.others tail none
      ]
      | inr pages_wrong ↦ elim pages_wrong [
        | inl none ↦ none pages told1 first.left first.free owned (buckets_at pages pages c.args.h.now.free c.args.h.now m held c.args.at.now.key it old so [] first)
        | inr short ↦ leaves pages c.args.h.now m c.args.at.now.key it c.in-Cell.cell held so (length first.left) (short.1 pages told1 first.left first.free owned (front_at so) o.olds [] o.others tail)
      ]
    ])
    (λ short. short)

pub drop_value-requires-clause-kept : goal.drop_value-requires-clause-kept
drop_value-requires-clause-kept g c = subst IsSound c.in-Cell.is (subst (λ (o : Option Standing). IfSome o IsSound) c.in_ok-old.ensures.ok_part c.key_cell.ensures.kept)

pub returns-in_err-drop_value-clause-cause : goal.returns-in_err-drop_value-clause-cause
returns-in_err-drop_value-clause-cause g c =
    let fault = err_from_is_err_and c.from_residual-in_err-drop_value.result c.from_residual-in_err-drop_value.ensures.1 in
    let it = c.in_ok-opened.opened in
    let P1 = g.P.Pages.pages c.open_at.new.p in
    let P2 = g.P.Pages.pages c.lay.new.p in
    handed_on (NoValueOrFreeList P2 c.in-Cell.cell.len (kept_bytes c.in-Cell.cell.value) c.lay.new.h.free) ⊥ (NoMap (g.P.Pages.pages c.args.p.now) c.args.h.now) ⊥
    (g.P.Pages.faults c.args.p.now) (g.P.Pages.faults c.lay.new.p) (g.P.Pages.faults c.drop_value.new.p) (g.P.Pages.is_sound c.drop_value.new.p)
    c.in_err-drop_value.field-0.0 c.from_residual-in_err-drop_value.result (fault.1 ∙ ap Err fault.2)
    (c.in_ok-lay.ensures.cause.pages.quiet (not_err _ _) ∙ c.in_ok-opened.ensures.cause.pages.quiet (not_err _ _)) c.in_err-drop_value.ensures.cause
    (λ none pages told m held.
    let told1 = c.in_ok-opened.ensures.same (not_err _ _) ∙ told in
    let at = c.in_ok-opened.ensures.opened pages told m held in
    let old = AtCell c.in-Cell.cell in
    let so = at_key pages c.args.h.now m held c.args.at.now.key it old c.key_cell.result (c.in_ok-old.ensures.ok_part ∙ ap Some c.in-Cell.is) at (c.key_cell.ensures.exact (hash_start c.args.h.now) pages at.bucket.row at.bucket.cells (Before c.args.at.now.key) at.here) in
    let b2 = told_still P1 P2 pages (c.in_ok-lay.ensures.told (not_err _ _)) told1 in
    let o = near_olds pages c.args.h.now m held c.args.at.now.key it old so in
    let first = turned_none pages c.args.h.now.free held.free held.form.listed in
    let owned = owned_at pages pages c.args.h.now.free c.args.h.now m held c.args.at.now.key it old so [] first in
    let laid = c.in_ok-lay.ensures.laid pages told1 first.left first.free owned b2.0 b2.1 (front_at so) o.olds [] o.others (tail_at pages c.args.h.now m held c.args.at.now.key it old so [] None tt) in
    let one = old_entry b2.0 o.olds c.in-Cell.cell (old_at pages pages b2.0 c.args.h.now.free c.lay.new.h.free c.args.h.now m held c.args.at.now.key it old so [] first _ laid) in
    none b2.0 b2.1 one.it one.is laid.turned.left laid.turned.free)
    (λ short. short)

pub returns-in_err-discount-clause-cause : goal.returns-in_err-discount-clause-cause
returns-in_err-discount-clause-cause g c =
    let fault = err_from_is_err_and c.from_residual-in_err-discount.result c.from_residual-in_err-discount.ensures.1 in
    handed_quiet ((c.drop_value.new.h.entries < 1) ⊎ (c.drop_value.new.h.bytes < length c.args.at.now.key.now + c.in-Cell.cell.len)) ⊥ (NoMap (g.P.Pages.pages c.args.p.now) c.args.h.now) ⊥
    (g.P.Pages.faults c.args.p.now) (g.P.Pages.faults c.drop_value.new.p) (g.P.Pages.is_sound c.drop_value.new.p)
    c.in_err-discount.field-0.0 c.from_residual-in_err-discount.result (fault.1 ∙ ap Err fault.2)
    (c.in_ok-drop_value.ensures.cause.pages.quiet (not_err _ _) ∙ c.in_ok-lay.ensures.cause.pages.quiet (not_err _ _) ∙ c.in_ok-opened.ensures.cause.pages.quiet (not_err _ _))
    (c.in_ok-drop_value.ensures.cause.pages.sound (not_err _ _)) c.in_err-discount.ensures.cause
    (λ fewer pages told m held.
    let at = c.in_ok-opened.ensures.opened pages told m held in
    let old = AtCell c.in-Cell.cell in
    let so = at_key pages c.args.h.now m held c.args.at.now.key c.in_ok-opened.opened old c.key_cell.result (c.in_ok-old.ensures.ok_part ∙ ap Some c.in-Cell.is) at
    (c.key_cell.ensures.exact (hash_start c.args.h.now) pages at.bucket.row at.bucket.cells (Before c.args.at.now.key) at.here) in
    let enough = counted c.args.h.now m c.args.at.now.key.now old (old_of pages c.args.h.now m held c.args.at.now.key c.in_ok-opened.opened old so) held.sums in
    let enough_keys = enough.0 in
    let enough_bytes = enough.1 in
    let keys = c.in_ok-lay.ensures.header.entries in
    let keys' = c.in_ok-drop_value.ensures.header.entries in
    let bytes = c.in_ok-lay.ensures.header.bytes in
    let bytes' = c.in_ok-drop_value.ensures.header.bytes in
    elim fewer [
      | inl none ↦ absurd (omega arith)
      | inr less ↦ absurd (omega arith)
    ])
    (λ short. short)

pub returns-clause-there : goal.returns-clause-there
returns-clause-there g c pages told m held =
    let at = c.in_ok-opened.ensures.opened pages told m held in
    let old = AtCell c.in-Cell.cell in
    let so = at_key pages c.args.h.now m held c.args.at.now.key c.in_ok-opened.opened old c.key_cell.result (c.in_ok-old.ensures.ok_part ∙ ap Some c.in-Cell.is) at
    (c.key_cell.ensures.exact (hash_start c.args.h.now) pages at.bucket.row at.bucket.cells (Before c.args.at.now.key) at.here) in
    there_is m c.args.at.now.key.now old (old_of pages c.args.h.now m held c.args.at.now.key c.in_ok-opened.opened old so)

pub returns-clause-removed : goal.returns-clause-removed
returns-clause-removed g c pages told m held after told_after =
    let it = c.in_ok-opened.opened in
    let P1 = g.P.Pages.pages c.open_at.new.p in
    let P2 = g.P.Pages.pages c.lay.new.p in
    let told1 = c.in_ok-opened.ensures.same (not_err _ _) ∙ told in
    let at = c.in_ok-opened.ensures.opened pages told m held in
    let cell = c.in-Cell.cell in
    let old = AtCell cell in
    let so = at_key pages c.args.h.now m held c.args.at.now.key it old c.key_cell.result (c.in_ok-old.ensures.ok_part ∙ ap Some c.in-Cell.is) at (c.key_cell.ensures.exact (hash_start c.args.h.now) pages at.bucket.row at.bucket.cells (Before c.args.at.now.key) at.here) in
    let b2 = told_still P1 P2 pages (c.in_ok-lay.ensures.told (not_err _ _)) told1 in
    let o = near_olds pages c.args.h.now m held c.args.at.now.key it old so in
    let first = turned_none pages c.args.h.now.free held.free held.form.listed in
    let owned = owned_at pages pages c.args.h.now.free c.args.h.now m held c.args.at.now.key it old so [] first in
    let laid = c.in_ok-lay.ensures.laid pages told1 first.left first.free owned b2.0 b2.1 (front_at so) o.olds [] o.others (tail_at pages c.args.h.now m held c.args.at.now.key it old so [] None tt) in
    let keeps = header_on _ _ _ c.in_ok-lay.ensures.header c.in_ok-drop_value.ensures.header in
    let fields = c.in_ok-discount.ensures.counts.fields in
    let counted_before : c.args.h.now.pages ≡ g.P.Pages.size c.open_at.new.p = held.counts.count ∙ sym (g.met.P.Pages.size_is c.args.p.now pages told) ∙ sym c.in_ok-opened.ensures.size in
    let value = value_was pages c.args.h.now m c.args.at.now.key it cell held so in
    removed pages b2.0 after c.lay.new.h.free c.drop_value.new.h.free c.args.h.now c.discount.new.h m c.args.at.now.key it cell held so first laid
    (λ olds are free list.
    let one = old_entry b2.0 olds cell are in
    old_dropped b2.0 after c.drop_value.new.h.free free olds cell one (c.in_ok-drop_value.ensures.dropped b2.0 b2.1 one.it one.is free list after told_after))
    (record {
      version = fields.version ∙ keeps.version;
      count = fields.pages ∙ c.in_ok-drop_value.ensures.count ∙ c.in_ok-lay.ensures.count counted_before ∙ sym c.in_ok-drop_value.ensures.size ∙ g.met.P.Pages.size_is c.drop_value.new.p after told_after;
      buckets = fields.buckets ∙ keeps.buckets;
      root = fields.root ∙ keeps.root;
      free_is = fields.free;
    })
    (sums_without c.drop_value.new.h c.discount.new.h m c.args.at.now.key.now value.0 value.1 (sums_on c.args.h.now c.drop_value.new.h m keeps.entries keeps.bytes held.sums)
    (subst (λ (n : ℕ). Discounts c.drop_value.new.h c.discount.new.h (length c.args.at.now.key.now) n) value.2 c.in_ok-discount.ensures.counts))

pub returns-clause-buckets : goal.returns-clause-buckets
returns-clause-buckets g c = c.in_ok-discount.ensures.counts.fields.buckets ∙ c.in_ok-drop_value.ensures.header.buckets ∙ c.in_ok-lay.ensures.header.buckets

pub returns-clause-told : goal.returns-clause-told
returns-clause-told g c unless = c.in_ok-drop_value.ensures.told (not_err _ _) ∙ c.in_ok-lay.ensures.told (not_err _ _) ∙ ap is_some (c.in_ok-opened.ensures.same (not_err _ _))

pub returns-clause-version : goal.returns-clause-version
returns-clause-version g c = c.in_ok-discount.ensures.counts.fields.version ∙ c.in_ok-drop_value.ensures.header.version ∙ c.in_ok-lay.ensures.header.version

pub returns-clause-root : goal.returns-clause-root
returns-clause-root g c = c.in_ok-discount.ensures.counts.fields.root ∙ c.in_ok-drop_value.ensures.header.root ∙ c.in_ok-lay.ensures.header.root

pub returns-clause-count : goal.returns-clause-count
returns-clause-count g c was =
    c.in_ok-discount.ensures.counts.fields.pages ∙ c.in_ok-drop_value.ensures.count ∙ c.in_ok-lay.ensures.count (was ∙ sym c.in_ok-opened.ensures.size) ∙ sym c.in_ok-drop_value.ensures.size

pub returns-in-Nothing-clause-count : goal.returns-in-Nothing-clause-count
returns-in-Nothing-clause-count g c was = was ∙ sym c.in_ok-opened.ensures.size
