-- Scripts with functions.
use Rattle.std.specs.Prelude.{refl}
use Rattle.jx9_meaning.specs.Compute.{trees, values, meaning}
use Rattle.jx9_meaning.specs.Rows.Calls.{CallRows}

pub call_rows : CallRows
unfolding trees values meaning
call_rows = record {
  endless = refl;
  depth_256 = refl;
  depth_257 = refl;
  depth_again = refl;
  missing_and_further = refl;
  last_parameter_counts = refl;
  own_variables = refl;
  sees_no_variables = refl;
  no_return = refl;
  return_from_foreach = refl;
  return_from_while = refl;
  name_of_a_lambda = refl;
  lambda_by_name = refl;
  no_lambda = refl;
  nobody = refl;
  maps = refl;
  filters = refl;
  reduces = refl;
  lines_of_the_prelude = refl;
  lambda_counts_for_depth = refl;
  lambda_as_value = refl;
}
