-- Worked codes, by computation.
use Rattle.std.specs.Prelude.{refl}
use Rattle.jx9_meaning.specs.Compute.{trees, values, meaning}
use Rattle.jx9_compile.specs.Rows.{CodeRows}

pub code_rows : CodeRows
unfolding trees values meaning
code_rows = record {
  two_units_are_enough = refl;
  one_unit_is_too_few = refl;
  endless_jump_is_spent = refl;
  endless_branch_is_spent = refl;
  endless_loop_takes_all_units = refl;
  slots_are_null = refl;
  loop_counts_down = refl;
  left_is_below = refl;
  fault_has_its_line = refl;
  counts_before_and_behind = refl;
  text_has_no_number = refl;
  change_writes_its_value = refl;
  change_has_its_line = refl;
  long_change_takes_a_unit = refl;
  long_change_is_spent = refl;
  joins_from_the_lowest = refl;
  jumps_by_truth = refl;
  call_gives_a_value = refl;
  call_without_unit_is_spent = refl;
  calls_go_256_deep = refl;
}
