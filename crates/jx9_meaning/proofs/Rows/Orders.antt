-- Scripts that show the order of evaluation.
use Rattle.std.specs.Prelude.{refl}
use Rattle.jx9_meaning.specs.Compute.{trees, values, meaning}
use Rattle.jx9_meaning.specs.Rows.Orders.{OrderRows}

pub order_rows : OrderRows
unfolding trees values meaning
order_rows = record {
  chain_from_the_left = refl;
  join_after_all = refl;
  and_stops = refl;
  or_stops = refl;
  first_branch_alone = refl;
  second_branch_alone = refl;
  steps_before_and_behind = refl;
  old_number = refl;
  no_number_to_step = refl;
  index_before_reading = refl;
  index_before_right_side = refl;
  place_after_right_side = refl;
  operation_before_write = refl;
  written_value = refl;
  group_before = refl;
  arguments_before_nobody = refl;
  variable_before_arguments = refl;
}
