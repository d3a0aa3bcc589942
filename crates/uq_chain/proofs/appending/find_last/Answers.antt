use Rattle.std.proofs.Common.{◌-◌, ◌++◌, ◌∷◌, [], ℕ, refl, sym, subst, ◌∙◌, arith}
use Rattle.uq_page.specs.Page.{bytes_of}
use Rattle.uq_chain.specs.CauseLaws.{not_err}
use Rattle.uq_chain.specs.Path.{IsValuePage}
use Rattle.uq_chain.specs.PathLaws.{path_then}
use Rattle.uq_chain.proofs.AppendLemmas.{Passing, passing_more, passing_last}
use Rattle.uq_chain.proofs.appending.find_last.Goals as goal

pub loop-left-preserved : goal.loop-left-preserved
loop-left-preserved g c =
    let left = c.loop-left.left in
    let head = c.in_ok-head.head in
    let held = c.in_ok-head.ensures.held in
    let from = c.from-left.ensures in
    let more = c.loop-left-test.true in
    let cause = c.in_ok-head.ensures.cause (omega arith) in
    let cut = c.loop-left.invariant.cut in
    let asked = c.in_ok-head.ensures.asked in
    let asked_was = c.loop-left.invariant.asked in
    record {
      sound = cause.pages.sound (not_err _ _);
      some = omega arith;
      cut = omega arith;
      asked = omega arith;
      same = c.in_ok-head.ensures.same (not_err _ _) ∙ c.loop-left.invariant.same;
      size = c.in_ok-head.ensures.size ∙ c.loop-left.invariant.size;
      reads = g.met.P.Pages.reads_on _ _ _ c.loop-left.invariant.reads c.in_ok-head.ensures.reads;
      quiet = cause.pages.quiet (not_err _ _) ∙ c.loop-left.invariant.quiet;
      leads = λ pages told.
          let path = c.loop-left.invariant.leads pages told in (
            path.0 ++ c.loop-left.no ∷ [],
            path_then IsValuePage pages c.args.first c.loop-left.no head.next path.0 (c.loop-left.no ∷ []) path.1 (record {
              is = refl;
              page = bytes_of c.read_part.new.page;
              next = head.next;
              there = c.in_ok-head.ensures.page pages (c.loop-left.invariant.same ∙ told);
              kind = record { head = head; is = c.in_ok-head.ensures.head; names = refl };
              rest = refl;
            }),
          );
      passing = λ pages told row bytes is long.
          let so = c.loop-left.invariant.passing pages told row bytes is long in
          let there = c.in_ok-head.ensures.page pages (c.loop-left.invariant.same ∙ told) in
          let P : ℕ → Type 0 = λ n. Passing pages head.next (left - n) row bytes in
          subst P (sym from) (passing_more pages c.loop-left.no left row bytes (bytes_of c.read_part.new.page) head so more there c.in_ok-head.ensures.head.next c.in_ok-head.ensures.head.bytes held);
    }

pub returns-clause-tail : goal.returns-clause-tail
returns-clause-tail g c pages told row bytes is long =
    let so = c.loop-left.invariant.passing pages told row bytes is long in
    let there = c.in_ok-head-2.ensures.page pages (c.loop-left.invariant.same ∙ told) in
    passing_last pages c.loop-left.no c.loop-left.left row bytes (bytes_of c.read_part-2.new.page) c.in_ok-head-2.head so c.loop-left-test.false c.loop-left.invariant.some there
    c.in_ok-head-2.ensures.head.next c.in_ok-head-2.ensures.head.bytes c.in_ok-head-2.ensures.held

pub returns-clause-page : goal.returns-clause-page
returns-clause-page g c pages told = c.in_ok-head-2.ensures.page pages (c.loop-left.invariant.same ∙ told)
