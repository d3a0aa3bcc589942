use Rattle.std.proofs.Common.{◌<◌, length, sym, ◌∙◌, arith}
use Rattle.uq_page.specs.Page.{bytes_of}
use Rattle.uq_hash.specs.Place.{nothing}
use Rattle.uq_hash.specs.WalkOrder.{hash_start}
use Rattle.uq_hash.proofs.CellLemmas.{cell_behind, length-cell-read}
use Rattle.uq_hash.proofs.SeekLemmas.{passed_more, spot_here}
use Rattle.uq_hash.proofs.seeking.seek.Goals as goal

pub returns-in_err-cell-clause-exact : goal.returns-in_err-cell-clause-exact
returns-in_err-cell-clause-exact c group next is count small stored =
    let within : c.loop-index.index < length group = omega arith in
    let so = c.loop-index.invariant.passed group next is count small stored in
    absurd (c.in_err-cell.ensures.exact _ _ _ (cell_behind (bytes_of c.args.page.now) group next c.loop-index.index c.loop-index.at is small within (stored c.loop-index.index nothing within) so.begins))

pub returns-then-not-is_passed-clause-exact : goal.returns-then-not-is_passed-clause-exact
returns-then-not-is_passed-clause-exact c group next is count small stored =
    let within : c.loop-index.index < length group = omega arith in
    let so = c.loop-index.invariant.passed group next is count small stored in
    let read = c.in_ok-cell.ensures.exact _ _ _ (cell_behind (bytes_of c.args.page.now) group next c.loop-index.index c.loop-index.at is small within (stored c.loop-index.index nothing within) so.begins) in
    spot_here (hash_start c.args.h.now) group c.args.bound _ _ so within read.0 (sym c.is_passed.ensures ∙ c.if-not-is_passed.true)

pub loop-index-preserved : goal.loop-index-preserved
loop-index-preserved c =
    let found = c.in_ok-cell.ensures.found in
    let low = c.loop-index.invariant.low in
    let high = found.high in
    let size = found.kept_size in
    let end = c.size_of-at.ensures in
    record {
      low = omega arith;
      high = omega arith;
      passed = λ group next is count small stored.
          let within : c.loop-index.index < length group = omega arith in
          let so = c.loop-index.invariant.passed group next is count small stored in
          let read = c.in_ok-cell.ensures.exact _ _ _ (cell_behind (bytes_of c.args.page.now) group next c.loop-index.index c.loop-index.at is small within (stored c.loop-index.index nothing within) so.begins) in
          passed_more (hash_start c.args.h.now) group c.args.bound c.loop-index.at c.loop-index.last c.loop-index.index c.size_of-at.result _ so within read.0 (sym c.is_passed.ensures ∙ c.if-not-is_passed.false)
          (end ∙ length-cell-read group c.loop-index.index _ _ read.0 read.1);
    }
