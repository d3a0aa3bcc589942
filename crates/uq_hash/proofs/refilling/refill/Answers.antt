use Rattle.std.proofs.Common.{◌≡◌, ◌+◌, ◌-◌, Err, List, ℕ, [], length, take, drop, get_or, refl, sym, ap, subst, ◌∙◌, arith, is_some}
use Rattle.std.specs.List.{concat}
use Rattle.std.proofs.lemmas.List.{take_rest, length-take}
use Rattle.std.proofs.lemmas.Result.{err_from_is_err_and}
use Rattle.uq_page.specs.Page.{bytes_of}
use Rattle.uq_chain.specs.FreeList.{Turned}
use Rattle.uq_chain.specs.Causes.{NoFreeList, IsShort}
use Rattle.uq_chain.specs.CauseLaws.{handed_on, not_err}
use Rattle.uq_chain.specs.TurnLaws.{header_on}
use Rattle.uq_hash.specs.Cells.{filled}
use Rattle.uq_hash.specs.Refill.{IsBucketAt, IsShortFor, NoRow, Owned}
use Rattle.std.specs.Prelude.{All}
use Rattle.std.proofs.lemmas.List.Elements.{All-drop}
use Rattle.uq_hash.proofs.FillLemmas.{flat}
use Rattle.uq_hash.proofs.PartLemmas.{cut_up, part, ends_all, as_many}
use Rattle.uq_hash.proofs.RefillLemmas.{told_still, Laying, laying_none, laying_reuse, laying_place, laying_short, owned_rest, is_some-map, written_as}
use Rattle.uq_hash.proofs.refilling.refill.Goals as goal

pub returns-in_err-give_all-clause-cause : goal.returns-in_err-give_all-clause-cause
returns-in_err-give_all-clause-cause g c =
    let fault = err_from_is_err_and c.from_residual-in_err-give_all.result c.from_residual-in_err-give_all.ensures.1 in
    let back = take_rest c.args.row.now c.min-kept.result in
    handed_on (NoRow (g.P.Pages.pages c.args.p.now) c.args.h.now.free (take (length c.args.row.now - c.min-kept.result) (drop c.min-kept.result c.args.row.now))) ⊥
    (NoRow (g.P.Pages.pages c.args.p.now) c.args.h.now.free c.args.row.now) (IsShortFor (g.P.Pages.pages c.args.p.now) c.args.h.now.free c.args.row.now (g.P.Pages.size c.give_all.new.p) c.args.sizes.now c.args.bytes.now)
    (g.P.Pages.faults c.args.p.now) (g.P.Pages.faults c.args.p.now) (g.P.Pages.faults c.give_all.new.p) (g.P.Pages.is_sound c.give_all.new.p)
    c.in_err-give_all.field-0.0 c.from_residual-in_err-give_all.result (fault.1 ∙ ap Err fault.2) refl c.in_err-give_all.ensures.cause
    (λ none before told free list owned buckets.
    none before told free list (subst (λ (xs : List ℕ). Owned before xs free) (sym back) (owned_rest before c.args.row.now free c.min-kept.result owned))
    (subst (All (IsBucketAt before)) (sym back) (All-drop (IsBucketAt before) c.min-kept.result c.args.row.now buckets)))
    (λ none. absurd none)

pub loop-left-init : goal.loop-left-init
loop-left-init g c =
    let size = c.in_ok-give_all.ensures.size in
    let some = c.requires.some in
    let count = c.len-left.ensures in
    record {
      sound = c.in_ok-give_all.ensures.cause.pages.sound (not_err _ _);
      told = c.in_ok-give_all.ensures.told (not_err _ _);
      some = omega arith;
      size = omega arith;
      most = omega arith;
      keeps = c.in_ok-give_all.ensures.keeps;
      quiet = c.in_ok-give_all.ensures.cause.pages.quiet (not_err _ _);
      header = c.in_ok-give_all.ensures.header;
      count = λ was. c.in_ok-give_all.ensures.count ∙ was ∙ sym size;
      fits = omega arith;
      less = omega arith;
      first = λ less. absurd (omega arith);
      ends = λ cells sizes_are bytes_are. let many = as_many c.in_ok-fills.fills.items cells (c.in_ok-fills.ensures.cells cells sizes_are) in ends_all cells c.args.bytes.now c.len-left.result (omega arith) bytes_are;
      laid = λ before told free list owned now told_now cells sizes_are bytes_are.
          let many = as_many c.in_ok-fills.fills.items cells (c.in_ok-fills.ensures.cells cells sizes_are) in
          let P : List ℕ → Type 0 = λ xs. Turned before now c.give_all.new.h.free free xs [] in
          let kept = c.min-kept.ensures in
          let all = c.len.ensures in
          laying_none before now c.give_all.new.h.free free c.args.row.now (filled [] cells) c.len-left.result c.min-kept.result (omega arith) (omega arith)
          (subst P (take_rest c.args.row.now c.min-kept.result) (c.in_ok-give_all.ensures.given before told free list now told_now));
    }

pub overflow_sub-from : goal.overflow_sub-from
overflow_sub-from g c =
    let cut = cut_up c.args.sizes.now c.args.bytes.now c.requires.bytes in
    let test = c.loop-left-test.true in
    let less = c.loop-left.invariant.less in
    let back : c.loop-left.left ≡ c.loop-left.left - 1 + 1 = omega arith in
    let at = part cut.cells c.args.sizes.now c.args.bytes.now c.in_ok-fills.fills.items (c.loop-left.left - 1) c.loop-left.end c.index-fill.result.now c.requires.sizes cut.sizes_are cut.bytes_are
    (c.in_ok-fills.ensures.cells cut.cells cut.sizes_are) (c.in_ok-fills.ensures.bytes cut.cells cut.sizes_are) (omega arith) c.index-fill.ensures
    (c.loop-left.invariant.ends cut.cells cut.sizes_are cut.bytes_are ∙ ap (λ n. length (concat (flat (take n (filled [] cut.cells))))) back) in
    let fits = at.fits in
    omega arith

pub slice_bounds-page_of-end : goal.slice_bounds-page_of-end
slice_bounds-page_of-end g c =
    let cut = cut_up c.args.sizes.now c.args.bytes.now c.requires.bytes in
    let test = c.loop-left-test.true in
    let less = c.loop-left.invariant.less in
    let back : c.loop-left.left ≡ c.loop-left.left - 1 + 1 = omega arith in
    let at = part cut.cells c.args.sizes.now c.args.bytes.now c.in_ok-fills.fills.items (c.loop-left.left - 1) c.loop-left.end c.index-fill.result.now c.requires.sizes cut.sizes_are cut.bytes_are
    (c.in_ok-fills.ensures.cells cut.cells cut.sizes_are) (c.in_ok-fills.ensures.bytes cut.cells cut.sizes_are) (omega arith) c.index-fill.ensures
    (c.loop-left.invariant.ends cut.cells cut.sizes_are cut.bytes_are ∙ ap (λ n. length (concat (flat (take n (filled [] cut.cells))))) back) in
    at.high

pub page_of-page-requires : goal.page_of-page-requires
page_of-page-requires g c =
    let cut = cut_up c.args.sizes.now c.args.bytes.now c.requires.bytes in
    let test = c.loop-left-test.true in
    let less = c.loop-left.invariant.less in
    let back : c.loop-left.left ≡ c.loop-left.left - 1 + 1 = omega arith in
    let at = part cut.cells c.args.sizes.now c.args.bytes.now c.in_ok-fills.fills.items (c.loop-left.left - 1) c.loop-left.end c.index-fill.result.now c.requires.sizes cut.sizes_are cut.bytes_are
    (c.in_ok-fills.ensures.cells cut.cells cut.sizes_are) (c.in_ok-fills.ensures.bytes cut.cells cut.sizes_are) (omega arith) c.index-fill.ensures
    (c.loop-left.invariant.ends cut.cells cut.sizes_are cut.bytes_are ∙ ap (λ n. length (concat (flat (take n (filled [] cut.cells))))) back) in
    let few = at.few in
    let a = length-take (c.loop-left.end - (c.loop-left.end - c.index-fill.result.now.bytes)) (drop (c.loop-left.end - c.index-fill.result.now.bytes) c.args.bytes.now) in
    omega arith

pub returns-in_err-next-clause-cause : goal.returns-in_err-next-clause-cause
returns-in_err-next-clause-cause g c =
    let fault = err_from_is_err_and c.from_residual-in_err-next.result c.from_residual-in_err-next.ensures.1 in
    let past = c.if-left-row.false in
    let cut = cut_up c.args.sizes.now c.args.bytes.now c.requires.bytes in
    let test = c.loop-left-test.true in
    let less = c.loop-left.invariant.less in
    let back : c.loop-left.left ≡ c.loop-left.left - 1 + 1 = omega arith in
    handed_on (NoFreeList (g.P.Pages.pages c.loop-left.p) c.loop-left.h.free) (IsShort (g.P.Pages.pages c.loop-left.p) c.loop-left.h.free (g.P.Pages.size c.place_page.new.p) 1)
    (NoRow (g.P.Pages.pages c.args.p.now) c.args.h.now.free c.args.row.now) (IsShortFor (g.P.Pages.pages c.args.p.now) c.args.h.now.free c.args.row.now (g.P.Pages.size c.place_page.new.p) c.args.sizes.now c.args.bytes.now)
    (g.P.Pages.faults c.args.p.now) (g.P.Pages.faults c.loop-left.p) (g.P.Pages.faults c.place_page.new.p) (g.P.Pages.is_sound c.place_page.new.p)
    c.in_err-next.field-0.0 c.from_residual-in_err-next.result (fault.1 ∙ ap Err fault.2) c.loop-left.invariant.quiet c.in_err-next.ensures.cause
    (λ none before told free list owned buckets.
    let now = told_still (g.P.Pages.pages c.args.p.now) (g.P.Pages.pages c.loop-left.p) before c.loop-left.invariant.told told in
    let so = c.loop-left.invariant.laid before told free list owned now.0 now.1 cut.cells cut.sizes_are cut.bytes_are in
    none now.0 now.1 so.turned.left so.turned.free)
    (λ short. (
      short.0,
      λ before told free list owned cells sizes_are bytes_are.
          let many = as_many c.in_ok-fills.fills.items cells (c.in_ok-fills.ensures.cells cells sizes_are) in
          let now = told_still (g.P.Pages.pages c.args.p.now) (g.P.Pages.pages c.loop-left.p) before c.loop-left.invariant.told told in
          let P : ℕ → Type 0 = λ n. Laying before now.0 c.loop-left.h.free free c.args.row.now (filled [] cells) n c.loop-left.next in
          let so = subst P back (c.loop-left.invariant.laid before told free list owned now.0 now.1 cells sizes_are bytes_are) in
          laying_short before now.0 c.loop-left.h.free free c.args.row.now (filled [] cells) (c.loop-left.left - 1) c.loop-left.next so (omega arith) (omega arith) (short.1 now.0 now.1 so.turned.left so.turned.free),
    ))

pub loop-left-preserved-in_ok-write_page : goal.loop-left-preserved-in_ok-write_page
loop-left-preserved-in_ok-write_page g c =
    let in_row = c.if-left-row.true in
    let size = c.in_ok-write_page.ensures.size in
    let size_was = c.loop-left.invariant.size in
    let some_was = c.loop-left.invariant.some in
    let ok = c.in_ok-write_page.ensures.ok in
    let there = c.requires.there (c.loop-left.left - 1) 0 (omega arith) in
    let cut = cut_up c.args.sizes.now c.args.bytes.now c.requires.bytes in
    let test = c.loop-left-test.true in
    let less = c.loop-left.invariant.less in
    let back : c.loop-left.left ≡ c.loop-left.left - 1 + 1 = omega arith in
    let at = part cut.cells c.args.sizes.now c.args.bytes.now c.in_ok-fills.fills.items (c.loop-left.left - 1) c.loop-left.end c.index-fill.result.now c.requires.sizes cut.sizes_are cut.bytes_are
    (c.in_ok-fills.ensures.cells cut.cells cut.sizes_are) (c.in_ok-fills.ensures.bytes cut.cells cut.sizes_are) (omega arith) c.index-fill.ensures
    (c.loop-left.invariant.ends cut.cells cut.sizes_are cut.bytes_are ∙ ap (λ n. length (concat (flat (take n (filled [] cut.cells))))) back) in
    record {
      sound = c.in_ok-write_page.ensures.cause.sound (not_err _ _);
      told = ap is_some ok ∙ is_some-map _ (g.P.Pages.pages c.loop-left.p) ∙ c.loop-left.invariant.told;
      some = omega arith;
      size = omega arith;
      most = let most_was = c.loop-left.invariant.most in omega arith;
      keeps = g.met.P.Pages.keeps_on _ _ _ c.loop-left.invariant.keeps c.in_ok-write_page.ensures.keeps;
      quiet = c.in_ok-write_page.ensures.cause.quiet (not_err _ _) ∙ c.loop-left.invariant.quiet;
      header = c.loop-left.invariant.header;
      count = λ was. c.loop-left.invariant.count was ∙ sym size;
      fits = omega (arith, c.type_inv.row (c.loop-left.left - 1));
      less = omega arith;
      first = λ a b. refl;
      ends = λ cells sizes_are bytes_are.
          let at = part cells c.args.sizes.now c.args.bytes.now c.in_ok-fills.fills.items (c.loop-left.left - 1) c.loop-left.end c.index-fill.result.now c.requires.sizes sizes_are bytes_are
          (c.in_ok-fills.ensures.cells cells sizes_are) (c.in_ok-fills.ensures.bytes cells sizes_are) (omega arith) c.index-fill.ensures
          (c.loop-left.invariant.ends cells sizes_are bytes_are ∙ ap (λ n. length (concat (flat (take n (filled [] cells))))) back) in
          at.begins;
      laid = λ before told free list owned after told_after cells sizes_are bytes_are.
          let at = part cells c.args.sizes.now c.args.bytes.now c.in_ok-fills.fills.items (c.loop-left.left - 1) c.loop-left.end c.index-fill.result.now c.requires.sizes sizes_are bytes_are
          (c.in_ok-fills.ensures.cells cells sizes_are) (c.in_ok-fills.ensures.bytes cells sizes_are) (omega arith) c.index-fill.ensures
          (c.loop-left.invariant.ends cells sizes_are bytes_are ∙ ap (λ n. length (concat (flat (take n (filled [] cells))))) back) in
          let now = told_still (g.P.Pages.pages c.args.p.now) (g.P.Pages.pages c.loop-left.p) before c.loop-left.invariant.told told in
          let P : ℕ → Type 0 = λ n. Laying before now.0 c.loop-left.h.free free c.args.row.now (filled [] cells) n c.loop-left.next in
          let so = subst P back (c.loop-left.invariant.laid before told free list owned now.0 now.1 cells sizes_are bytes_are) in
          let n = get_or c.args.row.now (c.loop-left.left - 1) 0 in
          let Q : List (List ℕ) → Type 0 = λ pages. Laying before pages c.loop-left.h.free free c.args.row.now (filled [] cells) (c.loop-left.left - 1) n in
          subst Q (written_as n (bytes_of c.page_of-page.result) (g.P.Pages.pages c.loop-left.p) (g.P.Pages.pages c.write_page.new.self) now.0 after ok now.1 told_after)
          (laying_reuse before now.0 c.args.h.now.free c.loop-left.h.free free c.args.row.now (filled [] cells) (c.loop-left.left - 1) c.loop-left.next n (bytes_of c.page_of-page.result) owned list so
          in_row at.within refl there.0 c.loop-left.invariant.fits (c.page_of-page.ensures (get_or (filled [] cells) (c.loop-left.left - 1) []) at.count at.piece));
    }

pub loop-left-preserved : goal.loop-left-preserved
loop-left-preserved g c =
    let past = c.if-left-row.false in
    let size = c.in_ok-next.ensures.size in
    let size_was = c.loop-left.invariant.size in
    let some_was = c.loop-left.invariant.some in
    let cut = cut_up c.args.sizes.now c.args.bytes.now c.requires.bytes in
    let test = c.loop-left-test.true in
    let less = c.loop-left.invariant.less in
    let back : c.loop-left.left ≡ c.loop-left.left - 1 + 1 = omega arith in
    let at = part cut.cells c.args.sizes.now c.args.bytes.now c.in_ok-fills.fills.items (c.loop-left.left - 1) c.loop-left.end c.index-fill.result.now c.requires.sizes cut.sizes_are cut.bytes_are
    (c.in_ok-fills.ensures.cells cut.cells cut.sizes_are) (c.in_ok-fills.ensures.bytes cut.cells cut.sizes_are) (omega arith) c.index-fill.ensures
    (c.loop-left.invariant.ends cut.cells cut.sizes_are cut.bytes_are ∙ ap (λ n. length (concat (flat (take n (filled [] cut.cells))))) back) in
    record {
      sound = c.in_ok-next.ensures.cause.pages.sound (not_err _ _);
      told = c.in_ok-next.ensures.told (not_err _ _) ∙ c.loop-left.invariant.told;
      some = omega arith;
      size = omega arith;
      most = let most_was = c.loop-left.invariant.most in let more = c.in_ok-next.ensures.most in omega arith;
      keeps = g.met.P.Pages.keeps_on _ _ _ c.loop-left.invariant.keeps c.in_ok-next.ensures.keeps;
      quiet = c.in_ok-next.ensures.cause.pages.quiet (not_err _ _) ∙ c.loop-left.invariant.quiet;
      header = header_on _ _ _ c.loop-left.invariant.header c.in_ok-next.ensures.header;
      count = λ was. c.in_ok-next.ensures.count (c.loop-left.invariant.count was);
      fits = omega arith;
      less = omega arith;
      first = λ a b. absurd (omega arith);
      ends = λ cells sizes_are bytes_are.
          let at = part cells c.args.sizes.now c.args.bytes.now c.in_ok-fills.fills.items (c.loop-left.left - 1) c.loop-left.end c.index-fill.result.now c.requires.sizes sizes_are bytes_are
          (c.in_ok-fills.ensures.cells cells sizes_are) (c.in_ok-fills.ensures.bytes cells sizes_are) (omega arith) c.index-fill.ensures
          (c.loop-left.invariant.ends cells sizes_are bytes_are ∙ ap (λ n. length (concat (flat (take n (filled [] cells))))) back) in
          at.begins;
      laid = λ before told free list owned after told_after cells sizes_are bytes_are.
          let at = part cells c.args.sizes.now c.args.bytes.now c.in_ok-fills.fills.items (c.loop-left.left - 1) c.loop-left.end c.index-fill.result.now c.requires.sizes sizes_are bytes_are
          (c.in_ok-fills.ensures.cells cells sizes_are) (c.in_ok-fills.ensures.bytes cells sizes_are) (omega arith) c.index-fill.ensures
          (c.loop-left.invariant.ends cells sizes_are bytes_are ∙ ap (λ n. length (concat (flat (take n (filled [] cells))))) back) in
          let now = told_still (g.P.Pages.pages c.args.p.now) (g.P.Pages.pages c.loop-left.p) before c.loop-left.invariant.told told in
          let P : ℕ → Type 0 = λ n. Laying before now.0 c.loop-left.h.free free c.args.row.now (filled [] cells) n c.loop-left.next in
          let so = subst P back (c.loop-left.invariant.laid before told free list owned now.0 now.1 cells sizes_are bytes_are) in
          laying_place before now.0 after c.args.h.now.free c.loop-left.h.free c.place_page.new.h.free free c.args.row.now (filled [] cells) (c.loop-left.left - 1) c.loop-left.next c.in_ok-next.next (bytes_of c.page_of-page.result)
          owned list so past at.within c.in_ok-next.ensures.number c.loop-left.invariant.fits (c.page_of-page.ensures (get_or (filled [] cells) (c.loop-left.left - 1) []) at.count at.piece)
          (c.in_ok-next.ensures.taken now.0 now.1 so.turned.left so.turned.free after told_after) (c.in_ok-next.ensures.page now.0 now.1 so.turned.left so.turned.free after told_after);
    }

pub returns-clause-laid : goal.returns-clause-laid
returns-clause-laid g c before told free list owned after told_after cells sizes_are bytes_are =
    let none : c.loop-left.left ≡ 0 = let stop = c.loop-left-test.false in omega arith in
    let P : ℕ → Type 0 = λ n. Laying before after c.loop-left.h.free free c.args.row.now (filled [] cells) n c.loop-left.next in
    let so = subst P none (c.loop-left.invariant.laid before told free list owned after told_after cells sizes_are bytes_are) in
    record { made = so.made; linked = so.linked; turned = so.turned }
