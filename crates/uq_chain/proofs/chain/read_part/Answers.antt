use Rattle.std.proofs.Common.{◌≡◌, Err, Option, refl, sym, ap, subst, ◌∙◌, arith}
use Rattle.std.proofs.lemmas.Result.{err_from_is_err_and}
use Rattle.std.proofs.lemmas.Option.{none-some, same_Some}
use Rattle.std.specs.Option.{ok_or, IfSome}
use Rattle.uq_page.specs.declared.error.ChainFault.TheVariants.{Corrupt}
use Rattle.uq_page.specs.declared.value_page.ValueHead.{ValueHead}
use Rattle.uq_page.specs.Page.{bytes_of}
use Rattle.uq_page.specs.ValuePage.{IsValueHead}
use Rattle.uq_chain.specs.Chain.{NoChain}
use Rattle.uq_chain.specs.CauseLaws.{corrupted, some_fault, not_err}
use Rattle.uq_chain.specs.ChainLaws.{begins, first_head, last_page}
use Rattle.uq_chain.proofs.chain.read_part.Goals as goal
use Rattle.uq_chain.proofs.chain.read_part.Goals.{then-no-eq0-via-then-no-eq0, then-no-eq0-via-else-no-eq0+then-count-no}

pub returns-then-no-eq0-clause-cause : goal.returns-then-no-eq0-clause-cause
returns-then-no-eq0-clause-cause g c some =
    corrupted (NoChain (g.P.Pages.pages c.args.p.now) c.args.no c.args.left) ⊥ (g.P.Pages.faults c.args.p.now) (g.P.Pages.faults c.args.p.now) (g.P.Pages.is_sound c.args.p.now)
    _ refl refl c.requires (λ pages told row bytes is long.
    let size = g.met.P.Pages.size_is c.args.p.now pages told in
    let start = begins pages c.args.no row bytes is (omega arith) in
    let one = start.some in
    let within = start.within in
    elim c.then-no-eq0.branch [ then-no-eq0-via-then-no-eq0 w ↦ let none = w.if-no-eq0.true in absurd (omega arith) | then-no-eq0-via-else-no-eq0+then-count-no w ↦ let few = w.if-count-no.true in let count = w.count.ensures in absurd (omega arith) ])

pub returns-in_err-head-clause-cause : goal.returns-in_err-head-clause-cause
returns-in_err-head-clause-cause g c some =
    let fault = err_from_is_err_and c.from_residual-in_err-head.result c.from_residual-in_err-head.ensures.1 in
    let none = c.in_err-head.ensures.ok_part in
    let is_corrupt : c.from_residual-in_err-head.result ≡ Err Corrupt = fault.1 ∙ ap Err fault.2 ∙ ap Err (some_fault (c.in_err-head.ensures.value ∙ ap (λ o. ok_or o Corrupt) none)) in
    corrupted (NoChain (g.P.Pages.pages c.args.p.now) c.args.no c.args.left) ⊥ (g.P.Pages.faults c.args.p.now) (g.P.Pages.faults c.read_page.new.self) (g.P.Pages.is_sound c.read_page.new.self)
    c.from_residual-in_err-head.result is_corrupt (c.in_ok-read_page.ensures.cause.quiet (not_err _ _)) (c.in_ok-read_page.ensures.cause.sound (not_err _ _)) (λ pages told row bytes is long.
    let head = first_head pages c.args.no row bytes (bytes_of c.read_page.new.into) is (omega arith) (c.in_ok-read_page.ensures.page pages told) in
    none-some head.0 (sym none ∙ c.read_value_page.ensures.exact head.0 head.1))

pub returns-then-from-min-clause-cause : goal.returns-then-from-min-clause-cause
returns-then-from-min-clause-cause g c some =
    corrupted (NoChain (g.P.Pages.pages c.args.p.now) c.args.no c.args.left) ⊥ (g.P.Pages.faults c.args.p.now) (g.P.Pages.faults c.read_page.new.self) (g.P.Pages.is_sound c.read_page.new.self)
    _ refl (c.in_ok-read_page.ensures.cause.quiet (not_err _ _)) (c.in_ok-read_page.ensures.cause.sound (not_err _ _)) (λ pages told row bytes is long.
    let head = first_head pages c.args.no row bytes (bytes_of c.read_page.new.into) is (omega arith) (c.in_ok-read_page.ensures.page pages told) in
    let same : c.in_ok-head.head ≡ head.0 = same_Some c.in_ok-head.head head.0 (sym c.in_ok-head.ensures.ok_part ∙ c.read_value_page.ensures.exact head.0 head.1) in
    let held : c.in_ok-head.head.held ≡ head.0.held = ap (λ (h : ValueHead). h.held) same in
    let all = head.2 in
    let from = c.from.ensures in
    let least = c.min.ensures in
    c.if-from-min.true (omega arith))

pub returns-then-head-ne0-clause-cause : goal.returns-then-head-ne0-clause-cause
returns-then-head-ne0-clause-cause g c some =
    corrupted (NoChain (g.P.Pages.pages c.args.p.now) c.args.no c.args.left) ⊥ (g.P.Pages.faults c.args.p.now) (g.P.Pages.faults c.read_page.new.self) (g.P.Pages.is_sound c.read_page.new.self)
    _ refl (c.in_ok-read_page.ensures.cause.quiet (not_err _ _)) (c.in_ok-read_page.ensures.cause.sound (not_err _ _)) (λ pages told row bytes is long.
    let valued : IsValueHead (bytes_of c.read_page.new.into) c.in_ok-head.head = subst (λ (o : Option ValueHead). IfSome o (IsValueHead (bytes_of c.read_page.new.into))) c.in_ok-head.ensures.ok_part c.read_value_page.ensures.found in
    let from = c.from.ensures in
    let least = c.min.ensures in
    let even = c.if-from-min.false in
    let few = c.if-left.true in
    c.if-head-ne0.true (last_page pages c.args.no row bytes (bytes_of c.read_page.new.into) c.in_ok-head.head is (omega arith) (omega arith) (c.in_ok-read_page.ensures.page pages told) valued (omega arith)))
