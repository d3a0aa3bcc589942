use Rattle.std.proofs.Common.{◌≡◌, ◌+◌, ◌<◌, Err, Option, List, ℕ, ◌∷◌, [], ◌++◌, length, refl, sym, ap, subst, ◌∙◌, arith}
use Rattle.std.proofs.lemmas.Result.{err_from_is_err_and}
use Rattle.std.specs.Option.{ok_or, IfSome, IsSomeAnd}
use Rattle.std.specs.Prelude.{All, sum}
use Rattle.uq_page.specs.Cell.{IsCellAt, kept_bytes}
use Rattle.uq_page.specs.Page.{bytes_of}
use Rattle.uq_page.specs.declared.cell.Cell.{Cell}
use Rattle.uq_page.specs.declared.error.ChainFault.TheVariants.{Corrupt}
use Rattle.uq_chain.specs.CauseLaws.{corrupted, some_fault}
use Rattle.uq_hash.specs.Lying.{NoCells}
use Rattle.uq_hash.specs.Map.{kept}
use Rattle.uq_hash.specs.Place.{at}
use Rattle.uq_hash.specs.Refill.{Fits}
use Rattle.uq_hash.proofs.CellLemmas.{length-cell-read}
use Rattle.uq_hash.proofs.LyingLemmas.{Sizing, cell_lies, fits_push, sizing_more, sum-push}
use Rattle.uq_hash.proofs.gathering.append_cells.Goals as goal

pub returns-in_err-cell-clause-cause : goal.returns-in_err-cell-clause-cause
returns-in_err-cell-clause-cause c =
    let fault = err_from_is_err_and c.from_residual.result c.from_residual.ensures.1 in
    let none = c.in_err-cell.ensures.ok_part in
    let is_corrupt : c.from_residual.result ≡ Err Corrupt = fault.1 ∙ ap Err fault.2 ∙ ap Err (some_fault (c.in_err-cell.ensures.value ∙ ap (λ o. ok_or o Corrupt) none)) in
    corrupted (NoCells (bytes_of c.args.page.now) c.args.from c.args.count) ⊥ 0 0 _ c.from_residual.result is_corrupt refl refl (λ xs lies count.
    let so = c.loop-seen.invariant.sizing xs lies count in
    let within : c.loop-seen._seen < length xs = omega arith in
    subst (λ (o : Option Cell). IsSomeAnd o (λ cell. (cell.key.now ≡ (at xs c.loop-seen._seen).key) × (cell.len ≡ length (at xs c.loop-seen._seen).value) × (kept_bytes cell.value ≡ kept (at xs c.loop-seen._seen)))) none
    (c.read_cell.ensures.exact _ _ _ (cell_lies (bytes_of c.args.page.now) c.args.from c.loop-seen._seen c.loop-seen.at xs lies within so.begins)))

pub loop-seen-preserved : goal.loop-seen-preserved
loop-seen-preserved c =
    let found : IsCellAt (bytes_of c.args.page.now) c.loop-seen.at c.in_ok-cell.cell.key.now c.in_ok-cell.cell.len (kept_bytes c.in_ok-cell.cell.value) =
    subst (λ (o : Option Cell). IfSome o (λ cell. IsCellAt (bytes_of c.args.page.now) c.loop-seen.at cell.key.now cell.len (kept_bytes cell.value))) c.in_ok-cell.ensures.ok_part c.read_cell.ensures.found in
    let cell_low = found.low in
    let cell_high = found.high in
    let size = found.kept_size in
    let end = c.size_of-size.ensures in
    let low = c.loop-seen.invariant.low in
    let whole = c.loop-seen.invariant.whole in
    let items : c.push.new.self.items ≡ c.loop-seen.sizes.items ++ c.size_of-size.result ∷ [] = c.in-Ok.ensures.items in
    let total = ap sum items ∙ sum-push c.loop-seen.sizes.items c.size_of-size.result in
    record {
      low = omega arith;
      high = omega arith;
      whole = omega arith;
      fits = subst (All Fits) (sym items) (fits_push c.loop-seen.sizes.items c.size_of-size.result c.loop-seen.invariant.fits (omega arith, omega arith));
      sizing = λ xs lies count.
          let so = c.loop-seen.invariant.sizing xs lies count in
          let within : c.loop-seen._seen < length xs = omega arith in
          let read = subst (λ (o : Option Cell). IsSomeAnd o (λ cell. (cell.key.now ≡ (at xs c.loop-seen._seen).key) × (cell.len ≡ length (at xs c.loop-seen._seen).value) × (kept_bytes cell.value ≡ kept (at xs c.loop-seen._seen)))) c.in_ok-cell.ensures.ok_part
          (c.read_cell.ensures.exact _ _ _ (cell_lies (bytes_of c.args.page.now) c.args.from c.loop-seen._seen c.loop-seen.at xs lies within so.begins)) in
          subst (λ (ns : List ℕ). Sizing c.args.from c.args.count (c.loop-seen.at + c.size_of-size.result) (c.loop-seen._seen + 1) c.args.sizes.now.items ns xs) (sym items)
          (sizing_more c.args.from c.args.count c.loop-seen.at c.loop-seen._seen c.size_of-size.result c.args.sizes.now.items c.loop-seen.sizes.items xs so within
          (end ∙ length-cell-read xs c.loop-seen._seen _ _ read.0 read.1));
    }
