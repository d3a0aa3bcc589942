use Rattle.std.proofs.Common.{◌≡◌, ◌+◌, ◌-◌, ◌++◌, ℕ, List, take, drop, sym, ap, subst, ◌∙◌, arith, append_assoc}
use Rattle.std.specs.Prelude.{min}
use Rattle.uq_page.specs.declared.layout.TheConstants.{VALUE_AT, VALUE_ROOM}
use Rattle.uq_chain.specs.Chain.{pages_for}
use Rattle.uq_page.specs.Page.{bytes_of}
use Rattle.uq_chain.proofs.PartLemmas.{Onto, onto_more, fewer}
use Rattle.uq_chain.specs.CauseLaws.{not_err}
use Rattle.uq_chain.proofs.chain.read_onto.Goals as goal

pub loop-left-preserved : goal.loop-left-preserved
loop-left-preserved g c =
    let left = c.loop-left.left in
    let head = c.in_ok-head.head in
    let held = c.in_ok-head.ensures.held in
    let from = c.from-left.ensures in
    let size = c.in_ok-head.ensures.size in
    let was = c.loop-left.invariant.size in
    let less = c.loop-left.invariant.less in
    let some = c.loop-left-test.true in
    let fewer_pages = fewer left (omega arith) in
    let asked = c.in_ok-head.ensures.asked in
    let asked_was = c.loop-left.invariant.asked in
    let later = c.in_ok-head.ensures.cause (omega arith) in
    let piece : List ℕ = take head.held (drop VALUE_AT (bytes_of c.read_part.new.page)) in
    let items : c.extend_from_slice.new.self.items ≡ c.loop-left.into.items ++ piece =
    c.in-Ok.ensures.items ∙ ap (λ xs. c.loop-left.into.items ++ take (VALUE_AT + head.held - VALUE_AT) (drop VALUE_AT xs)) c.bytes.ensures.bytes
    ∙ ap (λ n. c.loop-left.into.items ++ take n (drop VALUE_AT (bytes_of c.read_part.new.page))) (omega arith) in
    let gone : pages_for (left - c.from-left.result) ≡ pages_for (left - min left VALUE_ROOM) = ap (λ n. pages_for (left - n)) (from ∙ held) in
    record {
      sound = later.pages.sound (not_err _ _);
      less = omega arith;
      same = c.in_ok-head.ensures.same (not_err _ _) ∙ c.loop-left.invariant.same;
      size = size ∙ was;
      asked = omega arith;
      reads = g.met.P.Pages.reads_on _ _ _ c.loop-left.invariant.reads c.in_ok-head.ensures.reads;
      quiet = later.pages.quiet (not_err _ _) ∙ c.loop-left.invariant.quiet;
      front = (c.loop-left.invariant.front.0 ++ piece, items ∙ ap (λ xs. xs ++ piece) c.loop-left.invariant.front.1 ∙ append_assoc c.args.into.now.items c.loop-left.invariant.front.0 piece);
      read = λ pages told row bytes is long.
          let so = c.loop-left.invariant.read pages told row bytes is long in
          let there = c.in_ok-head.ensures.page pages (c.loop-left.invariant.same ∙ told) in
          let P : ℕ → List ℕ → Type 0 = λ n xs. Onto pages head.next (left - n) bytes c.args.into.now.items xs in
          let more = onto_more pages c.loop-left.no left bytes c.args.into.now.items c.loop-left.into.items (bytes_of c.read_part.new.page) head so (omega arith) (omega arith) there c.in_ok-head.ensures.head.next c.in_ok-head.ensures.head.bytes held in
          subst (λ n. P n c.extend_from_slice.new.self.items) (sym from) (subst (λ xs. P head.held xs) (sym items) more);
    }
