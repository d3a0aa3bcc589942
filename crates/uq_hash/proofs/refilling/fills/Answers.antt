use Rattle.std.proofs.Common.{◌≡◌, ◌+◌, ◌++◌, ◌∷◌, [], ℕ, List, length, map, get_or, refl, sym, ap, subst, ◌∙◌, arith}
use Rattle.std.proofs.lemmas.List.{length_push, map_push}
use Rattle.uq_hash.specs.declared.refilling.Fill.{Fill}
use Rattle.uq_hash.specs.Refill.{counts, lens}
use Rattle.uq_hash.proofs.FillingLemmas.{Filling, filling_none, filling_here, filling_next}
use Rattle.uq_hash.proofs.refilling.fills.Goals as goal
use Rattle.uq_hash.proofs.refilling.fills.Goals.{then-page-size, else-page-size+in-Ok}

pub loop-size-init : goal.loop-size-init
loop-size-init c = record {
  few = omega arith;
  less = omega arith;
  short = let none = ap length c.new-fills.ensures.items in omega arith;
  filling = λ cells sizes_are. let P : List ℕ → List ℕ → Type 0 = λ a b. Filling cells a b 0 0 0 in
      subst (λ xs. P (map counts xs) (map lens xs)) (sym c.new-fills.ensures.items) (filling_none cells);
}

pub loop-size-preserved : goal.loop-size-preserved
loop-size-preserved c =
    let j = c.loop-size.size-index in
    let size = get_or c.args.sizes.now j 0 in
    let one = c.requires j 0 c.loop-size-test.true in
    let low = one.0 in
    let high = one.1 in
    let few = c.loop-size.invariant.few in
    let less = c.loop-size.invariant.less in
    let short = c.loop-size.invariant.short in
    elim c.if-page-size.branch [
      | then-page-size w ↦
          let cells_are : c.if-page-size.page.cells ≡ c.loop-size.page.cells + 1 = ap (λ (f : Fill). f.cells) w.page-is in
          let bytes_are : c.if-page-size.page.bytes ≡ c.loop-size.page.bytes + size = ap (λ (f : Fill). f.bytes) w.page-is in
          let room = w.if-page-size.true in
          let items : c.if-page-size.fills.items ≡ c.loop-size.fills.items = ap (λ v. v.items) w.fills-is in
          let long = ap length items in
          let P : List Fill → ℕ → ℕ → List (List ℕ) → Type 0 = λ fs n b cells. Filling cells (map counts fs) (map lens fs) n b (j + 1) in
          record {
            few = omega arith;
            less = omega arith;
            short = omega arith;
            filling = λ cells sizes_are.
                let more = filling_here cells c.args.sizes.now (map counts c.loop-size.fills.items) (map lens c.loop-size.fills.items) c.loop-size.page.cells c.loop-size.page.bytes j size sizes_are c.loop-size-test.true refl room (c.loop-size.invariant.filling cells sizes_are) in
                subst (λ fs. P fs c.if-page-size.page.cells c.if-page-size.page.bytes cells) (sym items) (subst (λ n. P c.loop-size.fills.items n c.if-page-size.page.bytes cells) (sym cells_are) (subst (λ b. P c.loop-size.fills.items (c.loop-size.page.cells + 1) b cells) (sym bytes_are) more));
          }
      | else-page-size+in-Ok w ↦
          let cells_are : c.if-page-size.page.cells ≡ 1 = ap (λ (f : Fill). f.cells) w.page-is in
          let bytes_are : c.if-page-size.page.bytes ≡ size = ap (λ (f : Fill). f.bytes) w.page-is in
          let full = w.if-page-size.false in
          let pushed = w.in-Ok.ensures in
          let items : c.if-page-size.fills.items ≡ c.loop-size.fills.items ++ c.loop-size.page ∷ [] = ap (λ v. v.items) w.fills-is ∙ pushed.items in
          let long = ap length items in
          let one_more = length_push c.loop-size.fills.items c.loop-size.page in
          let P : List ℕ → List ℕ → ℕ → ℕ → List (List ℕ) → Type 0 = λ xs ys n b cells. Filling cells xs ys n b (j + 1) in
          let counts_are = ap (map counts) items ∙ map_push counts c.loop-size.fills.items c.loop-size.page in
          let lens_are = ap (map lens) items ∙ map_push lens c.loop-size.fills.items c.loop-size.page in
          record {
            few = omega arith;
            less = omega arith;
            short = omega arith;
            filling = λ cells sizes_are.
                let more = filling_next cells c.args.sizes.now (map counts c.loop-size.fills.items) (map lens c.loop-size.fills.items) c.loop-size.page.cells c.loop-size.page.bytes j size sizes_are c.loop-size-test.true refl full (c.loop-size.invariant.filling cells sizes_are) in
                let A = map counts c.if-page-size.fills.items in
                let B = map lens c.if-page-size.fills.items in
                subst (λ n. P A B n c.if-page-size.page.bytes cells) (sym cells_are) (subst (λ b. P A B 1 b cells) (sym bytes_are) (subst (λ xs. P xs B 1 size cells) (sym counts_are) (subst (λ ys. P (map counts c.loop-size.fills.items ++ c.loop-size.page.cells ∷ []) ys 1 size cells) (sym lens_are) more)));
          }
    ]
