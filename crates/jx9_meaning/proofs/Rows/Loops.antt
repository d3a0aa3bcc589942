-- Scripts on statements.
use Rattle.std.specs.Prelude.{refl}
use Rattle.jx9_meaning.specs.Compute.{trees, values, meaning}
use Rattle.jx9_meaning.specs.Rows.Loops.{LoopRows}

pub loop_rows : LoopRows
unfolding trees values meaning
loop_rows = record {
  parts_of_for = refl;
  for_ever = refl;
  continue_runs_the_last_part = refl;
  break_of_while = refl;
  inner_break = refl;
  branches = refl;
  first_true_branch = refl;
  no_branch = refl;
  return_at_the_top = refl;
  return_from_a_loop = refl;
  empty_statement = refl;
  foreach_over_the_copy = refl;
  foreach_keeps_its_copy = refl;
  foreach_over_object = refl;
  keys_are_numbers = refl;
  foreach_over_null = refl;
  foreach_over_number = refl;
  value_wins = refl;
  variables_stay = refl;
  foreach_breaks = refl;
  line_of_the_node = refl;
  line_of_the_statement = refl;
}
