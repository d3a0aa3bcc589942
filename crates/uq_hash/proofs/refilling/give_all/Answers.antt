use Rattle.std.proofs.Common.{Err, List, ℕ, [], get_or, is_some, refl, sym, ap, subst, ◌∙◌}
use Rattle.std.proofs.lemmas.List.{take_all}
use Rattle.std.proofs.lemmas.Option.{same_Some}
use Rattle.std.proofs.lemmas.Result.{err_from_is_err_and}
use Rattle.uq_page.specs.NextLaws.{bucket_not_free}
use Rattle.uq_page.specs.Page.{bytes_of}
use Rattle.uq_page.specs.RowLaws.{kind_apart}
use Rattle.uq_chain.specs.FreeList.{Turned, free_at}
use Rattle.uq_chain.specs.CauseLaws.{handed_on, not_err}
use Rattle.uq_chain.specs.TurnLaws.{header_itself, header_on, turned_none}
use Rattle.uq_hash.specs.Bucket.{NoBucketPage}
use Rattle.uq_hash.specs.Refill.{NoRow}
use Rattle.uq_hash.proofs.RefillLemmas.{still_there, told_still, given_more}
use Rattle.uq_hash.proofs.refilling.give_all.Goals as goal

pub loop-no-init : goal.loop-no-init
loop-no-init g c = record {
  sound = c.requires;
  told = refl;
  size = refl;
  keeps = g.met.P.Pages.keeps_itself _;
  quiet = refl;
  header = header_itself c.args.h.now;
  count = refl;
  given = λ before told free list now told_now. let P : List (List ℕ) → Type 0 = λ pages. Turned before pages c.args.h.now.free free [] [] in
      subst P (same_Some before now (sym told ∙ told_now)) (turned_none before c.args.h.now.free free list);
}

pub returns-in_err-read_bucket_page-clause-cause : goal.returns-in_err-read_bucket_page-clause-cause
returns-in_err-read_bucket_page-clause-cause g c =
    let fault = err_from_is_err_and c.from_residual.result c.from_residual.ensures.1 in
    handed_on (NoBucketPage (g.P.Pages.pages c.loop-no.p) (get_or c.args.row.now c.loop-no.no-index 0)) ⊥ (NoRow (g.P.Pages.pages c.args.p.now) c.args.h.now.free c.args.row.now) ⊥
    (g.P.Pages.faults c.args.p.now) (g.P.Pages.faults c.loop-no.p) (g.P.Pages.faults c.read_bucket_page.new.p) (g.P.Pages.is_sound c.read_bucket_page.new.p)
    c.in_err-read_bucket_page.field-0.0 c.from_residual.result (fault.1 ∙ ap Err fault.2) c.loop-no.invariant.quiet c.in_err-read_bucket_page.ensures.cause
    (λ none before told free list owned buckets.
    let now = told_still (g.P.Pages.pages c.args.p.now) (g.P.Pages.pages c.loop-no.p) before c.loop-no.invariant.told told in
    let so = c.loop-no.invariant.given before told free list now.0 now.1 in
    let it = buckets c.loop-no.no-index 0 c.loop-no-test.true in
    none now.0 now.1 it.page it.cells it.next it.some (still_there before now.0 c.loop-no.h.free free c.args.row.now c.loop-no.no-index _ owned so c.loop-no-test.true refl it.there) it.is)
    (λ short. short)

pub give_page-requires-clause-used : goal.give_page-requires-clause-used
give_page-requires-clause-used g c now told left list =
    kind_apart free_at now c.loop-no.h.free left left _ (bytes_of c.in_ok-read_bucket_page.field-0.page) (c.in_ok-read_bucket_page.ensures.page now (sym (c.in_ok-read_bucket_page.ensures.same (not_err _ _)) ∙ told))
    (λ n next is. bucket_not_free (bytes_of c.in_ok-read_bucket_page.field-0.page) c.in_ok-read_bucket_page.field-0.head next c.in_ok-read_bucket_page.ensures.head.bytes is) list

pub loop-no-preserved : goal.loop-no-preserved
loop-no-preserved g c =
    let same = c.in_ok-read_bucket_page.ensures.same (not_err _ _) in
    record {
      sound = c.in_ok-give_page.ensures.cause.pages.sound (not_err _ _);
      told = c.in_ok-give_page.ensures.told (not_err _ _) ∙ ap is_some same ∙ c.loop-no.invariant.told;
      size = c.in_ok-give_page.ensures.size ∙ c.in_ok-read_bucket_page.ensures.size ∙ c.loop-no.invariant.size;
      keeps = g.met.P.Pages.keeps_on _ _ _ c.loop-no.invariant.keeps (g.met.P.Pages.keeps_on _ _ _ (g.met.P.Pages.reads_keep _ _ c.in_ok-read_bucket_page.ensures.reads) c.in_ok-give_page.ensures.keeps);
      quiet = c.in_ok-give_page.ensures.cause.pages.quiet (not_err _ _) ∙ c.in_ok-read_bucket_page.ensures.cause.pages.quiet (not_err _ _) ∙ c.loop-no.invariant.quiet;
      header = header_on _ _ _ c.loop-no.invariant.header c.in_ok-give_page.ensures.header;
      count = c.in_ok-give_page.ensures.count ∙ c.loop-no.invariant.count;
      given = λ before told_before free list after told_after.
          let now = told_still (g.P.Pages.pages c.args.p.now) (g.P.Pages.pages c.loop-no.p) before c.loop-no.invariant.told told_before in
          let so = c.loop-no.invariant.given before told_before free list now.0 now.1 in
          given_more before now.0 after c.loop-no.h.free c.give_page.new.h.free free c.args.row.now c.loop-no.no-index _ c.loop-no-test.true refl so (c.in_ok-give_page.ensures.given now.0 (same ∙ now.1) so.left so.free after told_after);
    }

pub returns-clause-given : goal.returns-clause-given
returns-clause-given g c before told free list after told_after =
    let P : List ℕ → Type 0 = λ xs. Turned before after c.loop-no.h.free free xs [] in
    subst P (take_all c.loop-no.no-index c.args.row.now c.loop-no-test.false) (c.loop-no.invariant.given before told free list after told_after)
