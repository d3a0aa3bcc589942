use Rattle.std.proofs.Common.{◌≡◌, ◌-◌, Err, List, ℕ, refl, sym, ap, subst, ◌∙◌, arith, is_some, []}
use Rattle.std.specs.Prelude.{min}
use Rattle.std.proofs.lemmas.Result.{err_from_is_err_and}
use Rattle.uq_page.specs.declared.layout.TheConstants.{VALUE_ROOM}
use Rattle.uq_page.specs.Page.{bytes_of}
use Rattle.uq_chain.specs.Chain.{NoChain, WhereChain, pages_for}
use Rattle.uq_chain.specs.FreeList.{IsFreeList, Turned}
use Rattle.uq_chain.specs.CauseLaws.{handed_on, not_err}
use Rattle.uq_chain.specs.TurnLaws.{header_itself, header_on}
use Rattle.uq_chain.proofs.PartLemmas.{fewer, rest_len}
use Rattle.uq_page.specs.FreePage.{free_page}
use Rattle.uq_chain.specs.Path.{IsValuePage}
use Rattle.uq_chain.proofs.KeepLemmas.{free_no_value, keeps_none, keeps_set, keeps_then}
use Rattle.uq_chain.proofs.FreeingLemmas.{Freeing, freeing_none, freeing_more, freeing_all, part_not_free}
use Rattle.uq_chain.proofs.ToldLemmas.{told_same, told_still}
use Rattle.uq_chain.proofs.chain.free_chain.Goals as goal

pub loop-left-init : goal.loop-left-init
loop-left-init g c = record {
  sound = c.requires;
  less = omega arith;
  told = refl;
  size = refl;
  asked = omega arith;
  keeps = g.met.P.Pages.keeps_itself _;
  quiet = refl;
  header = header_itself c.args.h.now;
  others = keeps_none IsValuePage (g.P.Pages.pages c.args.p.now) (g.P.Pages.pages c.args.p.now) c.args.first refl;
  count = refl;
  freed = λ before told row bytes is long free list now told_now.
      let same = told_same _ _ before now refl told told_now in
      let P : List (List ℕ) → Type 0 = λ pages. Freeing before pages c.args.h.now.free free row bytes c.args.first c.args.len in
      subst P same (freeing_none before c.args.h.now.free free row bytes c.args.first c.args.len list is long);
}

pub returns-in_err-head-clause-cause : goal.returns-in_err-head-clause-cause
returns-in_err-head-clause-cause g c =
    let fault = err_from_is_err_and c.from_residual.result c.from_residual.ensures.1 in
    let some = c.loop-left-test.true in
    let less = c.loop-left.invariant.less in
    handed_on (NoChain (g.P.Pages.pages c.loop-left.p) c.loop-left.no c.loop-left.left) ⊥
    (WhereChain (g.P.Pages.pages c.args.p.now) c.args.first c.args.len (λ pages row bytes. (free : List ℕ) → IsFreeList pages c.args.h.now.free free → ⊥)) ⊥
    (g.P.Pages.faults c.args.p.now) (g.P.Pages.faults c.loop-left.p) (g.P.Pages.faults c.read_part.new.p) (g.P.Pages.is_sound c.read_part.new.p)
    c.in_err-head.field-0.0 c.from_residual.result (fault.1 ∙ ap Err fault.2) c.loop-left.invariant.quiet (c.in_err-head.ensures.cause (omega arith))
    (λ none before told row bytes is long free list.
    let now = told_still (g.P.Pages.pages c.args.p.now) (g.P.Pages.pages c.loop-left.p) before c.loop-left.invariant.told told in
    let so = c.loop-left.invariant.freed before told row bytes is long free list now.0 now.1 in
    none now.0 now.1 so.rest _ so.behind (rest_len c.loop-left.left bytes (omega arith)))
    (λ short. short)

pub give_page-requires-clause-used : goal.give_page-requires-clause-used
give_page-requires-clause-used g c pages told free list =
    part_not_free pages c.loop-left.no (bytes_of c.read_part.new.page) c.in_ok-head.head c.loop-left.h.free free
    (c.in_ok-head.ensures.page pages (sym (c.in_ok-head.ensures.same (not_err _ _)) ∙ told)) c.in_ok-head.ensures.head list

pub loop-left-preserved : goal.loop-left-preserved
loop-left-preserved g c =
    let left = c.loop-left.left in
    let head = c.in_ok-head.head in
    let held = c.in_ok-head.ensures.held in
    let from = c.from-left.ensures in
    let size = c.in_ok-head.ensures.size in
    let size_now = c.in_ok-give_page.ensures.size in
    let was = c.loop-left.invariant.size in
    let less = c.loop-left.invariant.less in
    let some = c.loop-left-test.true in
    let fewer_pages = fewer left (omega arith) in
    let gone : pages_for (left - c.from-left.result) ≡ pages_for (left - min left VALUE_ROOM) = ap (λ n. pages_for (left - n)) (from ∙ held) in
    let asked = c.in_ok-head.ensures.asked in
    let asked_now = c.in_ok-give_page.ensures.asked in
    let asked_was = c.loop-left.invariant.asked in
    let cause = c.in_ok-head.ensures.cause (omega arith) in
    let same = c.in_ok-head.ensures.same (not_err _ _) in
    record {
      sound = c.in_ok-give_page.ensures.cause.pages.sound (not_err _ _);
      less = omega arith;
      told = c.in_ok-give_page.ensures.told (not_err _ _) ∙ ap is_some same ∙ c.loop-left.invariant.told;
      size = size_now ∙ size ∙ was;
      asked = omega arith;
      keeps = g.met.P.Pages.keeps_on _ _ _ c.loop-left.invariant.keeps (g.met.P.Pages.keeps_on _ _ _ (g.met.P.Pages.reads_keep _ _ c.in_ok-head.ensures.reads) c.in_ok-give_page.ensures.keeps);
      quiet = c.in_ok-give_page.ensures.cause.pages.quiet (not_err _ _) ∙ cause.pages.quiet (not_err _ _) ∙ c.loop-left.invariant.quiet;
      header = header_on _ _ _ c.loop-left.invariant.header c.in_ok-give_page.ensures.header;
      others = keeps_then IsValuePage (g.P.Pages.pages c.args.p.now) (g.P.Pages.pages c.loop-left.p) (g.P.Pages.pages c.give_page.new.p) c.args.first c.loop-left.no head.next
          c.loop-left.invariant.told c.loop-left.invariant.others
          (keeps_set IsValuePage (g.P.Pages.pages c.loop-left.p) (g.P.Pages.pages c.read_part.new.p) (g.P.Pages.pages c.give_page.new.p) c.loop-left.no c.loop-left.no head.next (free_page c.loop-left.h.free) same refl
          (λ pages told. record {
            is = refl;
            page = bytes_of c.read_part.new.page;
            next = head.next;
            there = c.in_ok-head.ensures.page pages told;
            kind = record { head = head; is = c.in_ok-head.ensures.head; names = refl };
            rest = refl;
          })
          c.in_ok-give_page.ensures.page (free_no_value c.loop-left.h.free));
      count = c.in_ok-give_page.ensures.count ∙ c.loop-left.invariant.count;
      freed = λ before told row bytes is long free list after told_after.
          let now = told_still (g.P.Pages.pages c.args.p.now) (g.P.Pages.pages c.loop-left.p) before c.loop-left.invariant.told told in
          let so = c.loop-left.invariant.freed before told row bytes is long free list now.0 now.1 in
          let there = c.in_ok-head.ensures.page now.0 now.1 in
          let given = c.in_ok-give_page.ensures.given now.0 (same ∙ now.1) so.turned.left so.turned.free after told_after in
          let P : ℕ → Type 0 = λ n. Freeing before after c.give_page.new.h.free free row bytes head.next (left - n) in
          subst P (sym from) (freeing_more before now.0 after c.loop-left.h.free c.give_page.new.h.free free row bytes (bytes_of c.read_part.new.page) head c.loop-left.no left so
          (omega arith) (omega arith) there c.in_ok-head.ensures.head held given);
    }

pub returns-clause-freed : goal.returns-clause-freed
returns-clause-freed g c before told row bytes is long before' told' free list after told_after =
    let same = told_same _ _ before before' refl told told' in
    let P : List (List ℕ) → Type 0 = λ pages. Turned pages after c.loop-left.h.free free row [] in
    let Q : List (List ℕ) → Type 0 = λ pages. IsFreeList pages c.args.h.now.free free in
    let so = c.loop-left.invariant.freed before told row bytes is long free (subst Q (sym same) list) after told_after in
    let none = c.loop-left-test.false in
    subst P same (freeing_all before after c.loop-left.h.free free row bytes c.loop-left.no c.loop-left.left (omega arith) so)

pub returns-clause-others : goal.returns-clause-others
returns-clause-others g c = (c.loop-left.no, c.loop-left.invariant.others)
