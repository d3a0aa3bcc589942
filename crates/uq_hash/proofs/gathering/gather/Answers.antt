use Rattle.std.proofs.Common.{◌≡◌, ◌-◌, ◌+◌, ◌<◌, ◌≤◌, Err, List, ℕ, [], ◌∷◌, ◌++◌, length, drop, refl, sym, ap, subst, ◌∙◌, arith}
use Rattle.std.proofs.lemmas.List.{length_push, length-map}
use Rattle.std.proofs.lemmas.List.Elements.{All-nil, All-push}
use Rattle.std.proofs.lemmas.Result.{err_from_is_err_and}
use Rattle.std.specs.Prelude.{All, map}
use Rattle.uq_page.specs.Page.{bytes_of}
use Rattle.uq_page.specs.declared.layout.TheConstants.{CELLS_AT}
use Rattle.uq_chain.specs.CauseLaws.{corrupted, handed_on, not_err}
use Rattle.uq_hash.specs.Bucket.{NoBucketPage}
use Rattle.uq_hash.specs.Lying.{NoCells, NoNear}
use Rattle.uq_hash.specs.Map.{cell}
use Rattle.uq_hash.specs.Place.{cells_bytes}
use Rattle.uq_hash.specs.Lying.{sizes_of}
use Rattle.uq_hash.proofs.CauseLemmas.{handed_quiet, unless_here}
use Rattle.uq_hash.proofs.GatherLemmas.{Gathering, gathering_all, gathering_first, gathering_more, gathering_page, left_count, lies_here}
use Rattle.uq_hash.proofs.LyingLemmas.{lies_behind}
use Rattle.uq_hash.proofs.SearchLemmas.{read_is}
use Rattle.uq_hash.proofs.gathering.gather.Goals as goal

pub returns-in_err-append_cells-clause-cause : goal.returns-in_err-append_cells-clause-cause
returns-in_err-append_cells-clause-cause g c =
    let fault = err_from_is_err_and c.from_residual.result c.from_residual.ensures.1 in
    handed_quiet (NoCells (bytes_of c.args.place.now.it.page) c.args.place.now.spot.at (c.args.place.now.it.head.cells - c.args.place.now.spot.index)) ⊥ (NoNear (g.P.Pages.pages c.args.p.now) c.args.place.now) ⊥
    (g.P.Pages.faults c.args.p.now) (g.P.Pages.faults c.args.p.now) (g.P.Pages.is_sound c.args.p.now) c.in_err-append_cells.field-0.0 c.from_residual.result (fault.1 ∙ ap Err fault.2) refl c.requires.sound
    c.in_err-append_cells.ensures.cause
    (λ none pages told start row cells bound near. none (drop c.args.place.now.spot.index near.found.stands.group) (lies_here start pages row cells bound c.args.place.now near) (left_count start pages row cells bound c.args.place.now near))
    (λ short. short)

pub loop-seen-init : goal.loop-seen-init
loop-seen-init g c =
    let items : c.push.new.self.items ≡ c.args.place.now.no ∷ [] = c.in-Ok.ensures.items ∙ ap (λ (xs : List ℕ). xs ++ c.args.place.now.no ∷ []) c.new-row.ensures.items in
    let long = ap length items in
    record {
      sound = c.requires.sound;
      same = refl;
      size = refl;
      reads = g.met.P.Pages.reads_itself _;
      quiet = refl;
      cut = c.in_ok-append_cells.ensures.cut;
      there = subst (All (λ (n : ℕ). (1 ≤ n) × (n < g.P.Pages.size c.args.p.now))) (sym items) (All-push (λ (n : ℕ). (1 ≤ n) × (n < g.P.Pages.size c.args.p.now)) [] c.args.place.now.no (All-nil (λ (n : ℕ). (1 ≤ n) × (n < g.P.Pages.size c.args.p.now))) (c.requires.within.some, c.requires.there));
      some = omega arith;
      gathering = λ pages told start row cells bound near.
          let lies = c.in_ok-append_cells.ensures.appended (drop c.args.place.now.spot.index near.found.stands.group) (lies_here start pages row cells bound c.args.place.now near) (left_count start pages row cells bound c.args.place.now near) in
          subst (λ (xs : List ℕ). Gathering start pages row cells bound c.args.place.now near c.args.place.now.it.head.next xs c.append_cells.new.sizes.items c.append_cells.new.bytes.items 0) (sym items)
          (gathering_first start pages row cells bound c.args.place.now near c.append_cells.new.sizes.items c.append_cells.new.bytes.items
          (lies.0 ∙ ap (λ (xs : List ℕ). xs ++ sizes_of (drop c.args.place.now.spot.index near.found.stands.group)) c.new-sizes.ensures.items)
          (lies.1 ∙ ap (λ (xs : List ℕ). xs ++ cells_bytes (drop c.args.place.now.spot.index near.found.stands.group)) c.new-bytes.ensures.items));
    }

pub returns-then-next-eq0-clause-gathered : goal.returns-then-next-eq0-clause-gathered
returns-then-next-eq0-clause-gathered g c pages told start row cells bound near =
    let all = gathering_all start pages row cells bound c.args.place.now near c.loop-seen.next c.loop-seen.row.items c.loop-seen.sizes.items c.loop-seen.bytes.items c.loop-seen._seen
    (c.loop-seen.invariant.gathering pages told start row cells bound near) c.if-next-eq0.true in
    record { row_is = all.0; sizes_are = all.1; bytes_are = all.2 }

pub returns-in_err-it-clause-same : goal.returns-in_err-it-clause-same
returns-in_err-it-clause-same g c unless =
    let fault = err_from_is_err_and c.from_residual-in_err-it.result c.from_residual-in_err-it.ensures.1 in
    c.in_err-it.ensures.same (unless_here c.in_err-it.field-0.0 c.from_residual-in_err-it.result (fault.1 ∙ ap Err fault.2) unless) ∙ c.loop-seen.invariant.same

pub returns-in_err-it-clause-cause : goal.returns-in_err-it-clause-cause
returns-in_err-it-clause-cause g c =
    let fault = err_from_is_err_and c.from_residual-in_err-it.result c.from_residual-in_err-it.ensures.1 in
    handed_on (NoBucketPage (g.P.Pages.pages c.loop-seen.p) c.loop-seen.next) ⊥ (NoNear (g.P.Pages.pages c.args.p.now) c.args.place.now) ⊥
    (g.P.Pages.faults c.args.p.now) (g.P.Pages.faults c.loop-seen.p) (g.P.Pages.faults c.read_bucket_page.new.p) (g.P.Pages.is_sound c.read_bucket_page.new.p)
    c.in_err-it.field-0.0 c.from_residual-in_err-it.result (fault.1 ∙ ap Err fault.2) c.loop-seen.invariant.quiet c.in_err-it.ensures.cause
    (λ none pages told start row cells bound near.
    let so = c.loop-seen.invariant.gathering pages told start row cells bound near in
    let on = gathering_page start pages row cells bound c.args.place.now near c.loop-seen.next _ _ _ _ so c.if-next-eq0.false in
    none pages (c.loop-seen.invariant.same ∙ told) on.page (map cell on.group) on.next on.some on.there on.is)
    (λ short. short)

pub returns-in_err-append_cells-2-clause-cause : goal.returns-in_err-append_cells-2-clause-cause
returns-in_err-append_cells-2-clause-cause g c =
    let fault = err_from_is_err_and c.from_residual-in_err-append_cells-2.result c.from_residual-in_err-append_cells-2.ensures.1 in
    handed_quiet (NoCells (bytes_of c.in_ok-it.it.page) CELLS_AT c.in_ok-it.it.head.cells) ⊥ (NoNear (g.P.Pages.pages c.args.p.now) c.args.place.now) ⊥
    (g.P.Pages.faults c.args.p.now) (g.P.Pages.faults c.read_bucket_page.new.p) (g.P.Pages.is_sound c.read_bucket_page.new.p) c.in_err-append_cells-2.field-0.0 c.from_residual-in_err-append_cells-2.result (fault.1 ∙ ap Err fault.2)
    (c.in_ok-it.ensures.cause.pages.quiet (not_err _ _) ∙ c.loop-seen.invariant.quiet) (c.in_ok-it.ensures.cause.pages.sound (not_err _ _)) c.in_err-append_cells-2.ensures.cause
    (λ none pages told start row cells bound near.
    let so = c.loop-seen.invariant.gathering pages told start row cells bound near in
    let on = gathering_page start pages row cells bound c.args.place.now near c.loop-seen.next _ _ _ _ so c.if-next-eq0.false in
    let page = read_is pages so.left so.groups c.loop-seen.next (bytes_of c.in_ok-it.it.page) on (c.in_ok-it.ensures.page pages (c.loop-seen.invariant.same ∙ told)) in
    let head = c.in_ok-it.ensures.exact (map cell on.group) on.next page in
    none on.group (lies_behind (bytes_of c.in_ok-it.it.page) on.group on.next 0 CELLS_AT page.is on.small on.stored refl) (ap (λ head. head.cells) head ∙ length-map on.group cell))
    (λ short. short)

pub loop-seen-preserved : goal.loop-seen-preserved
loop-seen-preserved g c =
    let items : c.push-in-loop-seen.new.self.items ≡ c.loop-seen.row.items ++ c.loop-seen.next ∷ [] = c.in-Ok-push.ensures.items in
    let long = ap length items in
    let pushed = length_push c.loop-seen.row.items c.loop-seen.next in
    let there = c.in_ok-it.ensures.there in
    let size = c.in_ok-it.ensures.size in
    let size_was = c.loop-seen.invariant.size in
    let Q : ℕ → Type 0 = λ (n : ℕ). (1 ≤ n) × (n < g.P.Pages.size c.args.p.now) in
    record {
      sound = c.in_ok-it.ensures.cause.pages.sound (not_err _ _);
      same = c.in_ok-it.ensures.same (not_err _ _) ∙ c.loop-seen.invariant.same;
      size = size ∙ size_was;
      reads = g.met.P.Pages.reads_on _ _ _ c.loop-seen.invariant.reads c.in_ok-it.ensures.reads;
      quiet = c.in_ok-it.ensures.cause.pages.quiet (not_err _ _) ∙ c.loop-seen.invariant.quiet;
      cut = c.in_ok-append_cells-2.ensures.cut;
      there = subst (All Q) (sym items) (All-push Q c.loop-seen.row.items c.loop-seen.next c.loop-seen.invariant.there (c.in_ok-it.ensures.number, omega arith));
      some = omega arith;
      gathering = λ pages told start row cells bound near.
          let so = c.loop-seen.invariant.gathering pages told start row cells bound near in
          let on = gathering_page start pages row cells bound c.args.place.now near c.loop-seen.next _ _ _ _ so c.if-next-eq0.false in
          let page = read_is pages so.left so.groups c.loop-seen.next (bytes_of c.in_ok-it.it.page) on (c.in_ok-it.ensures.page pages (c.loop-seen.invariant.same ∙ told)) in
          let head = c.in_ok-it.ensures.exact (map cell on.group) on.next page in
          let lies = c.in_ok-append_cells-2.ensures.appended on.group (lies_behind (bytes_of c.in_ok-it.it.page) on.group on.next 0 CELLS_AT page.is on.small on.stored refl) (ap (λ head. head.cells) head ∙ length-map on.group cell) in
          subst (λ (xs : List ℕ). Gathering start pages row cells bound c.args.place.now near c.in_ok-it.it.head.next xs c.append_cells-in-loop-seen.new.sizes.items c.append_cells-in-loop-seen.new.bytes.items (c.loop-seen._seen + 1)) (sym items)
          (gathering_more start pages row cells bound c.args.place.now near c.loop-seen.next c.in_ok-it.it.head.next c.loop-seen.row.items c.loop-seen.sizes.items c.loop-seen.bytes.items _ _ c.loop-seen._seen so on
          (ap (λ head. head.next) head) lies.0 lies.1);
    }

pub returns-clause-cause : goal.returns-clause-cause
returns-clause-cause g c =
    corrupted (NoNear (g.P.Pages.pages c.args.p.now) c.args.place.now) ⊥ (g.P.Pages.faults c.args.p.now) (g.P.Pages.faults c.loop-seen.p) (g.P.Pages.is_sound c.loop-seen.p)
    _ refl c.loop-seen.invariant.quiet c.loop-seen.invariant.sound (λ pages told start row cells bound near.
    let so = c.loop-seen.invariant.gathering pages told start row cells bound near in
    let few = so.count in
    let all = c.loop-seen-test.false in
    let count = c.count-seen-end.ensures in
    let size = g.met.P.Pages.size_is c.args.p.now pages told in
    omega arith)
