use Rattle.std.proofs.Common.{◌≡◌, Option, Err, ℕ, refl, sym, ap, subst, ◌∙◌, arith}
use Rattle.std.proofs.lemmas.Result.{err_from_is_err_and}
use Rattle.std.proofs.lemmas.Option.{none-some}
use Rattle.std.specs.Option.{ok_or, IfSome}
use Rattle.uq_page.specs.declared.error.ChainFault.TheVariants.{Corrupt}
use Rattle.uq_page.specs.Page.{bytes_of}
use Rattle.uq_page.specs.FreePage.{IsFreePage}
use Rattle.uq_chain.specs.Causes.{NoFreeList}
use Rattle.uq_chain.specs.CauseLaws.{corrupted, some_fault, not_err}
use Rattle.uq_chain.proofs.ToldLemmas.{turns_reused, head_is_free, head_within}
use Rattle.uq_chain.proofs.free_list.pop_page.Goals as goal

pub returns-then-count-no-clause-cause : goal.returns-then-count-no-clause-cause
returns-then-count-no-clause-cause g c =
    corrupted (NoFreeList (g.P.Pages.pages c.args.p.now) c.args.h.now.free) ⊥
    (g.P.Pages.faults c.args.p.now) (g.P.Pages.faults c.args.p.now) (g.P.Pages.is_sound c.args.p.now) _ refl refl c.requires.sound
    (λ pages told row free. let size = g.met.P.Pages.size_is c.args.p.now pages told in let within = head_within pages c.args.h.now.free row c.requires.some free in let few = c.if-count-no.true in let count = c.count.ensures in absurd (omega arith))

pub returns-in_err-h-clause-cause : goal.returns-in_err-h-clause-cause
returns-in_err-h-clause-cause g c =
    let fault = err_from_is_err_and c.from_residual-in_err-h.result c.from_residual-in_err-h.ensures.1 in
    let none = c.in_err-h.ensures.ok_part in
    let is_corrupt : c.from_residual-in_err-h.result ≡ Err Corrupt = fault.1 ∙ ap Err fault.2 ∙ ap Err (some_fault (c.in_err-h.ensures.value ∙ ap (λ o. ok_or o Corrupt) none)) in
    corrupted (NoFreeList (g.P.Pages.pages c.args.p.now) c.args.h.now.free) ⊥
    (g.P.Pages.faults c.args.p.now) (g.P.Pages.faults c.read_page.new.self) (g.P.Pages.is_sound c.read_page.new.self) c.from_residual-in_err-h.result is_corrupt
    (c.in_ok-read_page.ensures.cause.quiet (not_err _ _)) (c.in_ok-read_page.ensures.cause.sound (not_err _ _))
    (λ pages told row free.
    let there = c.in_ok-read_page.ensures.page pages told in
    let is = head_is_free pages c.args.h.now.free (bytes_of c.read_page.new.into) row c.requires.some there free in
    none-some is.0 (sym none ∙ c.read_free.ensures.exact is.0 is.1))

pub returns-clause-leads : goal.returns-clause-leads
returns-clause-leads g c pages told = record {
  is = refl;
  page = bytes_of c.read_page.new.into;
  next = c.in_ok-h.field-0;
  there = c.in_ok-read_page.ensures.page pages told;
  kind = subst (λ (o : Option ℕ). IfSome o (IsFreePage (bytes_of c.read_page.new.into))) c.in_ok-h.ensures.ok_part c.read_free.ensures.found;
  rest = refl;
}

pub returns-clause-taken : goal.returns-clause-taken
returns-clause-taken g c =
    let is : IsFreePage (bytes_of c.read_page.new.into) c.in_ok-h.field-0 = subst (λ (o : Option ℕ). IfSome o (IsFreePage (bytes_of c.read_page.new.into))) c.in_ok-h.ensures.ok_part c.read_free.ensures.found in
    turns_reused (g.P.Pages.pages c.args.p.now) (g.P.Pages.pages c.read_page.new.self) c.args.h.now.free c.in_ok-h.field-0 (bytes_of c.read_page.new.into)
    c.requires.some c.in_ok-read_page.ensures.page is (c.in_ok-read_page.ensures.same (not_err _ _))
