use Rattle.std.proofs.Common.{◌≡◌, ◌-◌, ◌++◌, List, Option, ℕ, is_some, length, take, drop, sym, ap, subst, ◌∙◌, arith}
use Rattle.std.specs.Prelude.{slice_set, min}
use Rattle.std.proofs.lemmas.List.{take_rest}
use Rattle.uq_page.specs.declared.layout.TheConstants.{VALUE_AT, VALUE_ROOM}
use Rattle.uq_page.specs.Page.{bytes_of}
use Rattle.uq_page.specs.ValuePage.{value_page}
use Rattle.uq_chain.specs.Chain.{IsAppended, IsWritten}
use Rattle.uq_chain.specs.CauseLaws.{not_err}
use Rattle.uq_chain.specs.Path.{KeepsButFree}
use Rattle.uq_chain.proofs.KeepLemmas.{keeps_both}
use Rattle.uq_chain.proofs.AppendLemmas.{appended}
use Rattle.uq_chain.proofs.ToldLemmas.{told_as, told_still}
use Rattle.uq_chain.proofs.appending.append_chain.Goals as goal

pub returns-clause-appended : goal.returns-clause-appended
returns-clause-appended g c before told row old is long free list after told_after =
    let last = c.in_ok-last.last in
    let same = c.in_ok-last.ensures.same (not_err _ _) in
    let tail = c.in_ok-last.ensures.tail before told row old is long in
    let mid = told_still (g.P.Pages.pages c.find_last.new.p) (g.P.Pages.pages c.write_rest.new.p) before (c.in_ok-next.ensures.told (not_err _ _)) (same ∙ told) in
    let low = c.in_ok-last.ensures.head.low in
    let high = c.in_ok-last.ensures.head.high in
    let now_is : c.min-now.result ≡ min (length c.args.bytes.now) (VALUE_ROOM - last.head.held) = let least = c.min-now.ensures in let from = c.from-held.ensures in omega arith in
    let P : List ℕ → Type 0 = λ xs. IsWritten before mid.0 c.write_rest.new.h.free free c.in_ok-next.next xs in
    let written = subst P (take_rest c.args.bytes.now c.min-now.result) (c.in_ok-next.ensures.written before (same ∙ told) free list mid.0 mid.1) in
    let page_is : bytes_of c.longer.result ≡ value_page (take last.head.held (drop VALUE_AT (bytes_of c.find_last.new.page)) ++ take c.min-now.result c.args.bytes.now) c.in_ok-next.next = c.longer.ensures ∙ ap (λ n. value_page (take n (drop VALUE_AT (bytes_of c.find_last.new.page)) ++ take c.min-now.result c.args.bytes.now) c.in_ok-next.next) c.from-held.ensures in
    let Q : List (List ℕ) → Type 0 = λ pages. IsAppended before pages c.write_rest.new.h.free free row c.args.first (old ++ c.args.bytes.now) in
    subst Q (ap (λ x. slice_set mid.0 last.no x) (sym page_is) ∙ told_as (λ pages. slice_set pages last.no (bytes_of c.longer.result)) (g.P.Pages.pages c.write_rest.new.p) (g.P.Pages.pages c.write_page.new.self) mid.0 after c.in_ok-write_page.ensures.ok mid.1 told_after)
    (appended before mid.0 c.args.h.now.free c.write_rest.new.h.free free row old c.args.bytes.now (bytes_of c.find_last.new.page) c.args.first last.no last.head.held c.min-now.result c.in_ok-next.next is tail high low list now_is (omega arith) written)

pub returns-clause-others : goal.returns-clause-others
returns-clause-others g c =
    let last = c.in_ok-last.last in
    let same = c.in_ok-last.ensures.same (not_err _ _) in
    let free = subst (λ (told : Option (List (List ℕ))). KeepsButFree told (g.P.Pages.pages c.write_rest.new.p) c.args.h.now.free c.write_rest.new.h.free) same c.in_ok-next.ensures.others in
    keeps_both (g.P.Pages.pages c.args.p.now) (g.P.Pages.pages c.write_rest.new.p) (g.P.Pages.pages c.write_page.new.self) c.args.h.now.free c.write_rest.new.h.free c.args.first last.no
    (bytes_of c.find_last.new.page) (bytes_of c.longer.result) last.head (c.in_ok-next.ensures.told (not_err _ _) ∙ ap is_some same) free c.in_ok-last.ensures.leads c.in_ok-last.ensures.page c.in_ok-last.ensures.head
    c.in_ok-write_page.ensures.ok
