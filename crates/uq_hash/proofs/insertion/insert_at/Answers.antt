use Rattle.std.proofs.Common.{◌≡◌, ◌⊎◌, inl, inr, ◌≤◌, ◌<◌, Bool, Err, Option, List, [], ◌∷◌, length, Some, is_some, refl, sym, ap, subst, ◌∙◌, arith}
use Rattle.std.specs.Option.{ok_or, IfSome, IsSomeAnd}
use Rattle.std.proofs.lemmas.List.Elements.{All-weaker}
use Rattle.std.proofs.lemmas.Result.{err_from_is_err_and}
use Rattle.uq_page.specs.Page.{bytes_of}
use Rattle.uq_page.specs.declared.error.ChainFault.TheVariants.{Corrupt}
use Rattle.uq_page.specs.declared.layout.TheConstants.{CELLS_AT}
use Rattle.uq_chain.specs.Causes.{IsShort, NoFreeList}
use Rattle.uq_chain.specs.Chain.{pages_for}
use Rattle.uq_chain.specs.CauseLaws.{corrupted, handed_on, not_err, some_fault}
use Rattle.uq_chain.specs.TurnLaws.{header_on}
use Rattle.uq_hash.specs.Assembled.{NoneToReplace}
use Rattle.uq_hash.specs.Causes.{NoMap}
use Rattle.uq_hash.specs.Changed.{NoOldOrFreeList}
use Rattle.uq_hash.specs.Laid.{IsTail, LacksPages}
use Rattle.uq_hash.specs.Lying.{NoCells}
use Rattle.uq_hash.specs.Map.{Stored}
use Rattle.uq_hash.specs.Recounted.{gone_bytes}
use Rattle.uq_hash.specs.Refill.{NoRow}
use Rattle.uq_hash.specs.Standing.{IsKeyed, IsSound, rest_of}
use Rattle.uq_hash.specs.WalkOrder.{hash_start}
use Rattle.uq_hash.specs.declared.searching.Standing.{Standing}
use Rattle.uq_hash.specs.declared.seeking.Bound.TheVariants.{Before}
use Rattle.uq_hash.proofs.CauseLemmas.{handed_quiet}
use Rattle.uq_hash.proofs.InsertLemmas.{fresh, inserted, lays, stores}
use Rattle.uq_hash.proofs.KeyLemmas.{at_key, near_olds, old_of, there_is}
use Rattle.uq_hash.proofs.RefillLemmas.{told_still}
use Rattle.uq_hash.proofs.StepLemmas.{buckets_at, front_at, old_at, owned_at, tail_at}
use Rattle.uq_hash.proofs.SumLemmas.{counted, sums_after, sums_on}
use Rattle.uq_hash.proofs.TailLemmas.{some_to_replace}
use Rattle.uq_hash.proofs.insertion.insert_at.Goals as goal

pub returns-in_err-opened-clause-cause : goal.returns-in_err-opened-clause-cause
returns-in_err-opened-clause-cause g c =
    let fault = err_from_is_err_and c.from_residual.result c.from_residual.ensures.1 in
    handed_on (NoMap (g.P.Pages.pages c.args.p.now) c.args.h.now) ⊥ (NoMap (g.P.Pages.pages c.args.p.now) c.args.h.now) ⊥
    (g.P.Pages.faults c.args.p.now) (g.P.Pages.faults c.args.p.now) (g.P.Pages.faults c.open_at.new.p) (g.P.Pages.is_sound c.open_at.new.p)
    c.in_err-opened.field-0.0 c.from_residual.result (fault.1 ∙ ap Err fault.2) refl c.in_err-opened.ensures.cause (λ none. none) (λ short. short)

pub returns-in_err-old-clause-cause : goal.returns-in_err-old-clause-cause
returns-in_err-old-clause-cause g c =
    let fault = err_from_is_err_and c.from_residual-in_err-old.result c.from_residual-in_err-old.ensures.1 in
    let none = c.in_err-old.ensures.ok_part in
    let is_corrupt : c.from_residual-in_err-old.result ≡ Err Corrupt = fault.1 ∙ ap Err fault.2 ∙ ap Err (some_fault (c.in_err-old.ensures.value ∙ ap (λ o. ok_or o Corrupt) none)) in
    corrupted (NoMap (g.P.Pages.pages c.args.p.now) c.args.h.now) ⊥ (g.P.Pages.faults c.args.p.now) (g.P.Pages.faults c.open_at.new.p) (g.P.Pages.is_sound c.open_at.new.p)
    c.from_residual-in_err-old.result is_corrupt (c.in_ok-opened.ensures.cause.pages.quiet (not_err _ _)) (c.in_ok-opened.ensures.cause.pages.sound (not_err _ _)) (λ pages told m held.
    let at = c.in_ok-opened.ensures.opened pages told m held in
    subst (λ (o : Option Standing). IsSomeAnd o (IsKeyed (rest_of at.here.found.stands) c.args.at.now.key.now)) none (c.key_cell.ensures.exact (hash_start c.args.h.now) pages at.bucket.row at.bucket.cells (Before c.args.at.now.key) at.here))

pub store_value-requires-clause-some : goal.store_value-requires-clause-some
store_value-requires-clause-some g c =
    let there = c.in_ok-opened.ensures.there 0 0 c.in_ok-opened.ensures.some in
    let less = there.1 in
    let size = c.in_ok-opened.ensures.size in
    omega arith

pub returns-in_err-kept-clause-cause : goal.returns-in_err-kept-clause-cause
returns-in_err-kept-clause-cause g c =
    let fault = err_from_is_err_and c.from_residual-in_err-kept.result c.from_residual-in_err-kept.ensures.1 in
    handed_on (NoFreeList (g.P.Pages.pages c.open_at.new.p) c.args.h.now.free ⊎ IsShort (g.P.Pages.pages c.open_at.new.p) c.args.h.now.free (g.P.Pages.size c.store_value.new.p) (pages_for (length c.args.value.now))) ⊥
    (NoMap (g.P.Pages.pages c.args.p.now) c.args.h.now) ⊥
    (g.P.Pages.faults c.args.p.now) (g.P.Pages.faults c.open_at.new.p) (g.P.Pages.faults c.store_value.new.p) (g.P.Pages.is_sound c.store_value.new.p)
    c.in_err-kept.field-0.0 c.from_residual-in_err-kept.result (fault.1 ∙ ap Err fault.2) (c.in_ok-opened.ensures.cause.pages.quiet (not_err _ _)) c.in_err-kept.ensures.cause
    (λ wrong pages told m held.
    let told1 = c.in_ok-opened.ensures.same (not_err _ _) ∙ told in
    let at = c.in_ok-opened.ensures.opened pages told m held in
    let so = at_key pages c.args.h.now m held c.args.at.now.key c.in_ok-opened.opened c.in_ok-old.old c.key_cell.result c.in_ok-old.ensures.ok_part at (c.key_cell.ensures.exact (hash_start c.args.h.now) pages at.bucket.row at.bucket.cells (Before c.args.at.now.key) at.here) in
    let size = g.met.P.Pages.size_is c.args.p.now pages told in
    let size1 = c.in_ok-opened.ensures.size in
    let most = c.in_err-kept.ensures.most in
    elim wrong [
      | inl none ↦ none pages told1 held.free held.form.listed
      | inr short ↦ stores pages c.args.h.now m held c.args.at.now.key c.in_ok-opened.opened c.in_ok-old.old so (length c.args.value.now) (g.P.Pages.size c.store_value.new.p) c.requires.entries c.requires.bytes c.requires.value (omega arith) short.0
          (short.1 pages told1 held.free held.form.listed)
    ])
    (λ short. short)

pub returns-in_err-cell-clause-cause : goal.returns-in_err-cell-clause-cause
returns-in_err-cell-clause-cause g c =
    let fault = err_from_is_err_and c.from_residual-in_err-cell.result c.from_residual-in_err-cell.ensures.1 in
    handed_quiet ⊥ ⊥ (NoMap (g.P.Pages.pages c.args.p.now) c.args.h.now) ⊥ (g.P.Pages.faults c.args.p.now) (g.P.Pages.faults c.store_value.new.p) (g.P.Pages.is_sound c.store_value.new.p)
    c.in_err-cell.field-0.0 c.from_residual-in_err-cell.result (fault.1 ∙ ap Err fault.2) (c.in_ok-kept.ensures.cause.pages.quiet (not_err _ _) ∙ c.in_ok-opened.ensures.cause.pages.quiet (not_err _ _))
    (c.in_ok-kept.ensures.cause.pages.sound (not_err _ _)) c.in_err-cell.ensures.cause (λ wrong. absurd wrong) (λ short. short)

pub lay-requires-clause-pages : goal.lay-requires-clause-pages
lay-requires-clause-pages g c =
    let there = c.in_ok-opened.ensures.there 0 0 c.in_ok-opened.ensures.some in
    let less = there.1 in
    let size = c.in_ok-opened.ensures.size in
    let more = c.in_ok-kept.ensures.size in
    omega arith

pub lay-requires-clause-there : goal.lay-requires-clause-there
lay-requires-clause-there g c =
    let size = c.in_ok-opened.ensures.size in
    let more = c.in_ok-kept.ensures.size in
    All-weaker (λ n. (1 ≤ n) × (n < g.P.Pages.size c.args.p.now)) (λ n. (1 ≤ n) × (n < g.P.Pages.size c.store_value.new.p)) (λ n is. (is.0, let less = is.1 in omega arith)) c.in_ok-opened.opened.rest.row.items c.in_ok-opened.ensures.there

pub returns-in_err-lay-clause-cause : goal.returns-in_err-lay-clause-cause
returns-in_err-lay-clause-cause g c =
    let fault = err_from_is_err_and c.from_residual-in_err-lay.result c.from_residual-in_err-lay.ensures.1 in
    let it = c.in_ok-opened.opened in
    let P2 = g.P.Pages.pages c.store_value.new.p in
    handed_on ((NoCells (bytes_of it.near.it.page) CELLS_AT it.near.spot.index ⊎ NoneToReplace c.is_cell-is_there.result it.rest.sizes.items)
    ⊎ (NoRow P2 c.store_value.new.h.free it.rest.row.items ⊎ LacksPages P2 c.store_value.new.h.free (g.P.Pages.size c.lay.new.p) it c.is_cell-is_there.result (Some c.deref.result.now))) ⊥
    (NoMap (g.P.Pages.pages c.args.p.now) c.args.h.now) ⊥
    (g.P.Pages.faults c.args.p.now) (g.P.Pages.faults c.store_value.new.p) (g.P.Pages.faults c.lay.new.p) (g.P.Pages.is_sound c.lay.new.p)
    c.in_err-lay.field-0.0 c.from_residual-in_err-lay.result (fault.1 ∙ ap Err fault.2) (c.in_ok-kept.ensures.cause.pages.quiet (not_err _ _) ∙ c.in_ok-opened.ensures.cause.pages.quiet (not_err _ _)) c.in_err-lay.ensures.cause
    (λ wrong pages told m held.
    let told1 = c.in_ok-opened.ensures.same (not_err _ _) ∙ told in
    let at = c.in_ok-opened.ensures.opened pages told m held in
    let old = c.in_ok-old.old in
    let so = at_key pages c.args.h.now m held c.args.at.now.key it old c.key_cell.result c.in_ok-old.ensures.ok_part at (c.key_cell.ensures.exact (hash_start c.args.h.now) pages at.bucket.row at.bucket.cells (Before c.args.at.now.key) at.here) in
    let b1 = told_still (g.P.Pages.pages c.open_at.new.p) P2 pages (c.in_ok-kept.ensures.told (not_err _ _)) told1 in
    let stored = c.in_ok-kept.ensures.stored pages told1 held.free held.form.listed b1.0 b1.1 c.args.at.now.key.now in
    let o = near_olds pages c.args.h.now m held c.args.at.now.key it old so in
    let news : List Stored = fresh c.args.at.now.key.now c.args.value.now stored.row ∷ [] in
    let tail = subst (λ (b : Bool). IsTail it b (Some c.deref.result.now) (front_at so) o.olds news o.others) (sym c.is_cell-is_there.ensures)
    (tail_at pages c.args.h.now m held c.args.at.now.key it old so news (Some c.deref.result.now) (refl, c.deref.ensures.value ∙ c.in_ok-cell.ensures.cell stored.row stored.first_is)) in
    let owned = owned_at pages b1.0 c.store_value.new.h.free c.args.h.now m held c.args.at.now.key it old so stored.row stored.turned in
    let size = g.met.P.Pages.size_is c.store_value.new.p b1.0 b1.1 in
    let most = c.in_err-lay.ensures.most (front_at so) o.olds news o.others tail in
    elim wrong [
      | inl cells ↦ elim cells [
        | inl none ↦ none (front_at so) tail.lies tail.index
        | inr none ↦ some_to_replace it c.is_cell-is_there.result (Some c.deref.result.now) (front_at so) o.olds news o.others tail none
      ]
      | inr pages_wrong ↦ elim pages_wrong [
        | inl none ↦ none b1.0 b1.1 stored.turned.left stored.turned.free owned (buckets_at pages b1.0 c.store_value.new.h.free c.args.h.now m held c.args.at.now.key it old so stored.row stored.turned)
        | inr short ↦ lays pages b1.0 c.store_value.new.h.free c.in_ok-kept.kept c.args.h.now m c.args.at.now.key c.args.value.now it old held so stored (g.P.Pages.size c.lay.new.p) c.requires.entries c.requires.bytes c.requires.value (omega arith) short.0
            (short.1 b1.0 b1.1 stored.turned.left stored.turned.free owned (front_at so) o.olds news o.others tail)
      ]
    ])
    (λ short. short)

pub drop_old-requires-clause-kept : goal.drop_old-requires-clause-kept
drop_old-requires-clause-kept g c = subst (λ (o : Option Standing). IfSome o IsSound) c.in_ok-old.ensures.ok_part c.key_cell.ensures.kept

pub returns-in_err-drop_old-clause-cause : goal.returns-in_err-drop_old-clause-cause
returns-in_err-drop_old-clause-cause g c =
    let fault = err_from_is_err_and c.from_residual-in_err-drop_old.result c.from_residual-in_err-drop_old.ensures.1 in
    let it = c.in_ok-opened.opened in
    let P2 = g.P.Pages.pages c.store_value.new.p in
    let P3 = g.P.Pages.pages c.lay.new.p in
    handed_on (NoOldOrFreeList P3 c.in_ok-old.old c.lay.new.h.free) ⊥ (NoMap (g.P.Pages.pages c.args.p.now) c.args.h.now) ⊥
    (g.P.Pages.faults c.args.p.now) (g.P.Pages.faults c.lay.new.p) (g.P.Pages.faults c.drop_old.new.p) (g.P.Pages.is_sound c.drop_old.new.p)
    c.in_err-drop_old.field-0.0 c.from_residual-in_err-drop_old.result (fault.1 ∙ ap Err fault.2)
    (c.in_ok-lay.ensures.cause.pages.quiet (not_err _ _) ∙ c.in_ok-kept.ensures.cause.pages.quiet (not_err _ _) ∙ c.in_ok-opened.ensures.cause.pages.quiet (not_err _ _)) c.in_err-drop_old.ensures.cause
    (λ none pages told m held.
    let told1 = c.in_ok-opened.ensures.same (not_err _ _) ∙ told in
    let at = c.in_ok-opened.ensures.opened pages told m held in
    let old = c.in_ok-old.old in
    let so = at_key pages c.args.h.now m held c.args.at.now.key it old c.key_cell.result c.in_ok-old.ensures.ok_part at (c.key_cell.ensures.exact (hash_start c.args.h.now) pages at.bucket.row at.bucket.cells (Before c.args.at.now.key) at.here) in
    let b1 = told_still (g.P.Pages.pages c.open_at.new.p) P2 pages (c.in_ok-kept.ensures.told (not_err _ _)) told1 in
    let b2 = told_still P2 P3 b1.0 (c.in_ok-lay.ensures.told (not_err _ _)) b1.1 in
    let stored = c.in_ok-kept.ensures.stored pages told1 held.free held.form.listed b1.0 b1.1 c.args.at.now.key.now in
    let o = near_olds pages c.args.h.now m held c.args.at.now.key it old so in
    let news : List Stored = fresh c.args.at.now.key.now c.args.value.now stored.row ∷ [] in
    let tail = subst (λ (b : Bool). IsTail it b (Some c.deref.result.now) (front_at so) o.olds news o.others) (sym c.is_cell-is_there.ensures)
    (tail_at pages c.args.h.now m held c.args.at.now.key it old so news (Some c.deref.result.now) (refl, c.deref.ensures.value ∙ c.in_ok-cell.ensures.cell stored.row stored.first_is)) in
    let owned = owned_at pages b1.0 c.store_value.new.h.free c.args.h.now m held c.args.at.now.key it old so stored.row stored.turned in
    let laid = c.in_ok-lay.ensures.laid b1.0 b1.1 stored.turned.left stored.turned.free owned b2.0 b2.1 (front_at so) o.olds news o.others tail in
    none b2.0 b2.1 o.olds (old_at pages b1.0 b2.0 c.store_value.new.h.free c.lay.new.h.free c.args.h.now m held c.args.at.now.key it old so stored.row stored.turned _ laid) laid.turned.left laid.turned.free)
    (λ short. short)

pub recount-requires-clause-entries : goal.recount-requires-clause-entries
recount-requires-clause-entries g c =
    let a = c.in_ok-kept.ensures.header.entries in
    let b = c.in_ok-lay.ensures.header.entries in
    let d = c.in_ok-drop_old.ensures.header.entries in
    let few = c.requires.entries in
    omega arith

pub recount-requires-clause-bytes : goal.recount-requires-clause-bytes
recount-requires-clause-bytes g c =
    let a = c.in_ok-kept.ensures.header.bytes in
    let b = c.in_ok-lay.ensures.header.bytes in
    let d = c.in_ok-drop_old.ensures.header.bytes in
    let few = c.requires.bytes in
    omega arith

pub returns-in_err-recount-clause-cause : goal.returns-in_err-recount-clause-cause
returns-in_err-recount-clause-cause g c =
    let fault = err_from_is_err_and c.from_residual-in_err-recount.result c.from_residual-in_err-recount.ensures.1 in
    handed_quiet (c.drop_old.new.h.bytes < gone_bytes (length c.args.at.now.key.now) c.in_ok-old.old) ⊥ (NoMap (g.P.Pages.pages c.args.p.now) c.args.h.now) ⊥
    (g.P.Pages.faults c.args.p.now) (g.P.Pages.faults c.drop_old.new.p) (g.P.Pages.is_sound c.drop_old.new.p)
    c.in_err-recount.field-0.0 c.from_residual-in_err-recount.result (fault.1 ∙ ap Err fault.2)
    (c.in_ok-drop_old.ensures.cause.pages.quiet (not_err _ _) ∙ c.in_ok-lay.ensures.cause.pages.quiet (not_err _ _) ∙ c.in_ok-kept.ensures.cause.pages.quiet (not_err _ _) ∙ c.in_ok-opened.ensures.cause.pages.quiet (not_err _ _))
    (c.in_ok-drop_old.ensures.cause.pages.sound (not_err _ _)) c.in_err-recount.ensures.cause
    (λ fewer pages told m held.
    let at = c.in_ok-opened.ensures.opened pages told m held in
    let so = at_key pages c.args.h.now m held c.args.at.now.key c.in_ok-opened.opened c.in_ok-old.old c.key_cell.result c.in_ok-old.ensures.ok_part at (c.key_cell.ensures.exact (hash_start c.args.h.now) pages at.bucket.row at.bucket.cells (Before c.args.at.now.key) at.here) in
    let enough = (counted c.args.h.now m c.args.at.now.key.now c.in_ok-old.old (old_of pages c.args.h.now m held c.args.at.now.key c.in_ok-opened.opened c.in_ok-old.old so) held.sums).1 in
    let a = c.in_ok-kept.ensures.header.bytes in
    let b = c.in_ok-lay.ensures.header.bytes in
    let d = c.in_ok-drop_old.ensures.header.bytes in
    absurd (omega arith))
    (λ short. short)

pub returns-clause-there : goal.returns-clause-there
returns-clause-there g c pages told m held =
    let at = c.in_ok-opened.ensures.opened pages told m held in
    let so = at_key pages c.args.h.now m held c.args.at.now.key c.in_ok-opened.opened c.in_ok-old.old c.key_cell.result c.in_ok-old.ensures.ok_part at (c.key_cell.ensures.exact (hash_start c.args.h.now) pages at.bucket.row at.bucket.cells (Before c.args.at.now.key) at.here) in
    c.is_cell-is_there.ensures ∙ there_is m c.args.at.now.key.now c.in_ok-old.old (old_of pages c.args.h.now m held c.args.at.now.key c.in_ok-opened.opened c.in_ok-old.old so)

pub returns-clause-inserted : goal.returns-clause-inserted
returns-clause-inserted g c pages told m held after told_after =
    let it = c.in_ok-opened.opened in
    let P2 = g.P.Pages.pages c.store_value.new.p in
    let P3 = g.P.Pages.pages c.lay.new.p in
    let told1 = c.in_ok-opened.ensures.same (not_err _ _) ∙ told in
    let at = c.in_ok-opened.ensures.opened pages told m held in
    let old = c.in_ok-old.old in
    let so = at_key pages c.args.h.now m held c.args.at.now.key it old c.key_cell.result c.in_ok-old.ensures.ok_part at (c.key_cell.ensures.exact (hash_start c.args.h.now) pages at.bucket.row at.bucket.cells (Before c.args.at.now.key) at.here) in
    let b1 = told_still (g.P.Pages.pages c.open_at.new.p) P2 pages (c.in_ok-kept.ensures.told (not_err _ _)) told1 in
    let b2 = told_still P2 P3 b1.0 (c.in_ok-lay.ensures.told (not_err _ _)) b1.1 in
    let stored = c.in_ok-kept.ensures.stored pages told1 held.free held.form.listed b1.0 b1.1 c.args.at.now.key.now in
    let o = near_olds pages c.args.h.now m held c.args.at.now.key it old so in
    let news : List Stored = fresh c.args.at.now.key.now c.args.value.now stored.row ∷ [] in
    let tail = subst (λ (b : Bool). IsTail it b (Some c.deref.result.now) (front_at so) o.olds news o.others) (sym c.is_cell-is_there.ensures)
    (tail_at pages c.args.h.now m held c.args.at.now.key it old so news (Some c.deref.result.now) (refl, c.deref.ensures.value ∙ c.in_ok-cell.ensures.cell stored.row stored.first_is)) in
    let owned = owned_at pages b1.0 c.store_value.new.h.free c.args.h.now m held c.args.at.now.key it old so stored.row stored.turned in
    let laid = c.in_ok-lay.ensures.laid b1.0 b1.1 stored.turned.left stored.turned.free owned b2.0 b2.1 (front_at so) o.olds news o.others tail in
    let keeps = header_on _ _ _ (header_on _ _ _ c.in_ok-kept.ensures.header c.in_ok-lay.ensures.header) c.in_ok-drop_old.ensures.header in
    let fields = c.in_ok-recount.ensures.counts.fields in
    let counted_before : c.args.h.now.pages ≡ g.P.Pages.size c.open_at.new.p = held.counts.count ∙ sym (g.met.P.Pages.size_is c.args.p.now pages told) ∙ sym c.in_ok-opened.ensures.size in
    inserted pages b1.0 b2.0 after c.store_value.new.h.free c.lay.new.h.free c.drop_old.new.h.free c.in_ok-kept.kept c.args.h.now c.recount.new.h m c.args.at.now.key c.args.value.now it old held so stored
    c.requires.key c.requires.key_end c.requires.value (omega arith) laid (λ olds are free list. c.in_ok-drop_old.ensures.dropped b2.0 b2.1 olds are free list after told_after)
    (record {
      version = fields.version ∙ keeps.version;
      count = fields.pages ∙ c.in_ok-drop_old.ensures.count ∙ c.in_ok-lay.ensures.count (c.in_ok-kept.ensures.count counted_before) ∙ sym c.in_ok-drop_old.ensures.size ∙ g.met.P.Pages.size_is c.drop_old.new.p after told_after;
      buckets = fields.buckets ∙ keeps.buckets;
      root = fields.root ∙ keeps.root;
      free_is = fields.free;
    })
    (sums_after c.drop_old.new.h c.recount.new.h m c.args.at.now.key.now c.args.value.now old (old_of pages c.args.h.now m held c.args.at.now.key it old so) (sums_on c.args.h.now c.drop_old.new.h m keeps.entries keeps.bytes held.sums) c.in_ok-recount.ensures.counts)

pub returns-clause-buckets : goal.returns-clause-buckets
returns-clause-buckets g c =
    c.in_ok-recount.ensures.counts.fields.buckets ∙ c.in_ok-drop_old.ensures.header.buckets ∙ c.in_ok-lay.ensures.header.buckets ∙ c.in_ok-kept.ensures.header.buckets

pub returns-clause-told : goal.returns-clause-told
returns-clause-told g c unless =
    c.in_ok-drop_old.ensures.told (not_err _ _) ∙ c.in_ok-lay.ensures.told (not_err _ _) ∙ c.in_ok-kept.ensures.told (not_err _ _) ∙ ap is_some (c.in_ok-opened.ensures.same (not_err _ _))

pub returns-in_err-drop_old-clause-keeps : goal.returns-in_err-drop_old-clause-keeps
returns-in_err-drop_old-clause-keeps g c =
    g.met.P.Pages.keeps_on _ _ _ (g.met.P.Pages.keeps_on _ _ _ (g.met.P.Pages.keeps_on _ _ _ (g.met.P.Pages.reads_keep _ _ c.in_ok-opened.ensures.reads) c.in_ok-kept.ensures.keeps) c.in_ok-lay.ensures.keeps) c.in_err-drop_old.ensures.keeps

pub returns-in_err-recount-clause-keeps : goal.returns-in_err-recount-clause-keeps
returns-in_err-recount-clause-keeps g c =
    g.met.P.Pages.keeps_on _ _ _ (g.met.P.Pages.keeps_on _ _ _ (g.met.P.Pages.keeps_on _ _ _ (g.met.P.Pages.reads_keep _ _ c.in_ok-opened.ensures.reads) c.in_ok-kept.ensures.keeps) c.in_ok-lay.ensures.keeps) c.in_ok-drop_old.ensures.keeps

pub returns-clause-keeps : goal.returns-clause-keeps
returns-clause-keeps g c =
    g.met.P.Pages.keeps_on _ _ _ (g.met.P.Pages.keeps_on _ _ _ (g.met.P.Pages.keeps_on _ _ _ (g.met.P.Pages.reads_keep _ _ c.in_ok-opened.ensures.reads) c.in_ok-kept.ensures.keeps) c.in_ok-lay.ensures.keeps) c.in_ok-drop_old.ensures.keeps

pub returns-clause-version : goal.returns-clause-version
returns-clause-version g c =
    c.in_ok-recount.ensures.counts.fields.version ∙ c.in_ok-drop_old.ensures.header.version ∙ c.in_ok-lay.ensures.header.version ∙ c.in_ok-kept.ensures.header.version

pub returns-clause-root : goal.returns-clause-root
returns-clause-root g c =
    c.in_ok-recount.ensures.counts.fields.root ∙ c.in_ok-drop_old.ensures.header.root ∙ c.in_ok-lay.ensures.header.root ∙ c.in_ok-kept.ensures.header.root

pub returns-clause-count : goal.returns-clause-count
returns-clause-count g c was =
    c.in_ok-recount.ensures.counts.fields.pages ∙ c.in_ok-drop_old.ensures.count ∙ c.in_ok-lay.ensures.count (c.in_ok-kept.ensures.count (was ∙ sym c.in_ok-opened.ensures.size)) ∙ sym c.in_ok-drop_old.ensures.size
