use Rattle.std.proofs.Common.{◌≡◌, ◌-◌, ◌*◌, ◌/◌, Err, Some, List, ℕ, length, take, drop, inl, refl, sym, ap, subst, ◌∙◌, arith}
use Rattle.std.proofs.lemmas.Result.{err_from_is_err_and}
use Rattle.uq_page.specs.declared.layout.TheConstants.{VALUE_ROOM}
use Rattle.uq_chain.specs.Chain.{IsWritten, pages_for}
use Rattle.uq_chain.specs.Causes.{NoFreeList, IsShort}
use Rattle.uq_chain.specs.CauseLaws.{handed_on, not_err}
use Rattle.uq_chain.specs.TurnLaws.{header_itself, header_on}
use Rattle.uq_page.specs.FreePage.{IsFreePage}
use Rattle.uq_chain.specs.Path.{IsNotFree}
use Rattle.uq_chain.proofs.KeepLemmas.{grows_on, keeps_none, keeps_then, value_in_use}
use Rattle.uq_chain.proofs.WriteLemmas.{cut_all, cut_next, written_none, written_more, too_few}
use Rattle.uq_chain.proofs.ToldLemmas.{told_same, told_still}
use Rattle.uq_chain.proofs.writing.write_chain.Goals as goal

pub loop-end-init : goal.loop-end-init
loop-end-init g c = record {
  sound = c.requires.sound;
  told = refl;
  some = c.requires.some;
  size = omega arith;
  keeps = g.met.P.Pages.keeps_itself _;
  quiet = refl;
  header = header_itself c.args.h.now;
  grows = inl refl;
  others = keeps_none IsFreePage (g.P.Pages.pages c.args.p.now) (g.P.Pages.pages c.args.p.now) c.args.h.now.free refl;
  count = λ was. was;
  fits = omega arith;
  pages = pages_for (length c.args.bytes.now);
  asked = omega arith;
  most = omega arith;
  cut = cut_all (length c.args.bytes.now);
  number = λ less. absurd (omega arith);
  written = λ before told free list now told_now.
      let same = told_same _ _ before now refl told told_now in
      let P : List (List ℕ) → Type 0 = λ pages. IsWritten before pages c.args.h.now.free free 0 (drop (length c.args.bytes.now) c.args.bytes.now) in
      subst P same (written_none before c.args.h.now.free free c.args.bytes.now list);
}

pub returns-in_err-next-clause-cause : goal.returns-in_err-next-clause-cause
returns-in_err-next-clause-cause g c =
    let fault = err_from_is_err_and c.from_residual.result c.from_residual.ensures.1 in
    let some = c.loop-end-test.true in
    handed_on (NoFreeList (g.P.Pages.pages c.loop-end.p) c.loop-end.h.free) (IsShort (g.P.Pages.pages c.loop-end.p) c.loop-end.h.free (g.P.Pages.size c.place_page.new.p) 1)
    (NoFreeList (g.P.Pages.pages c.args.p.now) c.args.h.now.free) (IsShort (g.P.Pages.pages c.args.p.now) c.args.h.now.free (g.P.Pages.size c.place_page.new.p) (pages_for (length c.args.bytes.now)))
    (g.P.Pages.faults c.args.p.now) (g.P.Pages.faults c.loop-end.p) (g.P.Pages.faults c.place_page.new.p) (g.P.Pages.is_sound c.place_page.new.p)
    c.in_err-next.field-0.0 c.from_residual.result (fault.1 ∙ ap Err fault.2) c.loop-end.invariant.quiet c.in_err-next.ensures.cause
    (λ none before told free list.
    let now = told_still (g.P.Pages.pages c.args.p.now) (g.P.Pages.pages c.loop-end.p) before c.loop-end.invariant.told told in
    let so = c.loop-end.invariant.written before told free list now.0 now.1 in
    none now.0 now.1 so.turned.left so.turned.free)
    (λ short. (
      short.0,
      λ before told free list.
          let now = told_still (g.P.Pages.pages c.args.p.now) (g.P.Pages.pages c.loop-end.p) before c.loop-end.invariant.told told in
          let so = c.loop-end.invariant.written before told free list now.0 now.1 in
          too_few before now.0 c.args.h.now.free c.loop-end.h.free free c.args.bytes.now c.loop-end.next c.loop-end.end c.loop-end.invariant.pages so c.loop-end.invariant.cut (omega arith)
          (short.1 now.0 now.1 so.turned.left so.turned.free),
    ))

pub loop-end-preserved : goal.loop-end-preserved
loop-end-preserved g c =
    let stop = c.loop-end.end in
    let some = c.loop-end-test.true in
    let size = c.in_ok-next.ensures.size in
    let size_was = c.loop-end.invariant.size in
    let some_was = c.loop-end.invariant.some in
    let cut = c.loop-end.invariant.cut in
    let cut_is = cut.is in
    let cut_few = cut.few in
    let asked = c.in_ok-next.ensures.asked in
    let asked_was = c.loop-end.invariant.asked in
    let most = c.in_ok-next.ensures.most in
    let most_was = c.loop-end.invariant.most in
    record {
      sound = c.in_ok-next.ensures.cause.pages.sound (not_err _ _);
      told = c.in_ok-next.ensures.told (not_err _ _) ∙ c.loop-end.invariant.told;
      some = omega arith;
      size = omega arith;
      keeps = g.met.P.Pages.keeps_on _ _ _ c.loop-end.invariant.keeps c.in_ok-next.ensures.keeps;
      quiet = c.in_ok-next.ensures.cause.pages.quiet (not_err _ _) ∙ c.loop-end.invariant.quiet;
      header = header_on _ _ _ c.loop-end.invariant.header c.in_ok-next.ensures.header;
      grows = grows_on c.args.h.now.free c.loop-end.h.free c.place_page.new.h.free (g.P.Pages.size c.args.p.now) (g.P.Pages.size c.loop-end.p) (g.P.Pages.size c.place_page.new.p) c.in_ok-next.next
          c.loop-end.invariant.grows c.in_ok-next.ensures.first;
      others = keeps_then IsFreePage (g.P.Pages.pages c.args.p.now) (g.P.Pages.pages c.loop-end.p) (g.P.Pages.pages c.place_page.new.p) c.args.h.now.free c.loop-end.h.free c.place_page.new.h.free
          c.loop-end.invariant.told c.loop-end.invariant.others
          (c.in_ok-next.ensures.others (subst IsNotFree (sym c.page_of-page.ensures) (value_in_use (take (stop - (stop - 1) / VALUE_ROOM * VALUE_ROOM) (drop ((stop - 1) / VALUE_ROOM * VALUE_ROOM) c.args.bytes.now)) c.loop-end.next)));
      count = λ was. c.in_ok-next.ensures.count (c.loop-end.invariant.count was);
      fits = omega arith;
      pages = c.loop-end.invariant.pages - 1;
      asked = omega arith;
      most = omega arith;
      cut = cut_next (length c.args.bytes.now) stop c.loop-end.invariant.pages c.loop-end.invariant.cut (omega arith);
      number = λ less. c.in_ok-next.ensures.number;
      written = λ before told free list after told_after.
          let now = told_still (g.P.Pages.pages c.args.p.now) (g.P.Pages.pages c.loop-end.p) before c.loop-end.invariant.told told in
          let so = c.loop-end.invariant.written before told free list now.0 now.1 in
          let taken = c.in_ok-next.ensures.taken now.0 now.1 so.turned.left so.turned.free after told_after in
          let there = c.in_ok-next.ensures.page now.0 now.1 so.turned.left so.turned.free after told_after in
          written_more before now.0 after c.args.h.now.free c.loop-end.h.free c.place_page.new.h.free free c.args.bytes.now (take (stop - (stop - 1) / VALUE_ROOM * VALUE_ROOM) (drop ((stop - 1) / VALUE_ROOM * VALUE_ROOM) c.args.bytes.now))
          c.loop-end.next c.in_ok-next.next stop c.loop-end.invariant.pages list so c.loop-end.invariant.cut (omega arith) refl c.loop-end.invariant.fits c.in_ok-next.ensures.number taken (there ∙ ap Some c.page_of-page.ensures);
    }

pub returns-clause-written : goal.returns-clause-written
returns-clause-written g c before told free list after told_after =
    let none : c.loop-end.end ≡ 0 = let stop = c.loop-end-test.false in omega arith in
    let P : ℕ → Type 0 = λ n. IsWritten before after c.loop-end.h.free free c.loop-end.next (drop n c.args.bytes.now) in
    subst P none (c.loop-end.invariant.written before told free list after told_after)
