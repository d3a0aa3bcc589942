use Rattle.std.proofs.Common.{arith, ap, ◌≡◌, map, subst}
use Rattle.uq_value.specs.Internal.Beside.{size_of, depth_of}
use Rattle.uq_value.specs.Data.{list, items_of}
use Rattle.uq_value.specs.Size.{data_size}
use Rattle.uq_value.specs.Depth.{data_depth}
use Rattle.uq_value.specs.IsValue.{ItemsAreSound}
use Rattle.uq_value.specs.Plain.{plain}
use Rattle.uq_value.proofs.Fields.{made_list}
use Rattle.uq_value.proofs.list.List.from_values.Goals as goal

pub invariant_of-result : goal.invariant_of-result
invariant_of-result c =
    let size : size_of c.with_numbers.result ≡ data_size (list (map plain c.args.values.items)) =
    omega (arith, c.with_numbers.ensures.size, c.measured-size.ensures.size, c.if-size-gt-MOST_SIZE.false, ap (λ vs. data_size (list (map plain vs))) c.as_slice.ensures.value) in
    let depth : depth_of c.with_numbers.result ≡ data_depth (list (map plain c.args.values.items)) =
    omega (arith, c.with_numbers.ensures.depth, c.measured-size.ensures.depth, ap (λ vs. data_depth (list (map plain vs))) c.as_slice.ensures.value) in
    made_list _ size depth (omega (arith, c.with_numbers.ensures.size, c.if-size-gt-MOST_SIZE.false)) (omega (arith, c.with_numbers.ensures.depth, c.if-depth-gt-MOST_DEPTH.false))
    (c.with_numbers.ensures.counts _ (c.new.ensures.counts _)) (subst (λ vs. ItemsAreSound (items_of (map plain vs))) c.as_slice.ensures.value c.measured-size.ensures.sound)
