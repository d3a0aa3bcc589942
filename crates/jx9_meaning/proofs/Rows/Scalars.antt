-- Scripts on scalars.
use Rattle.std.specs.Prelude.{refl}
use Rattle.jx9_meaning.specs.Compute.{trees, values, meaning}
use Rattle.jx9_meaning.specs.Rows.Scalars.{ScalarRows}

pub scalar_rows : ScalarRows
unfolding trees values meaning
scalar_rows = record {
  quotient_and_remainder = refl;
  overflow = refl;
  least_by_minus_one = refl;
  least_remainder = refl;
  least_negated = refl;
  one_unit = refl;
  two_units = refl;
  counts_with_27 = refl;
  counts_with_26 = refl;
  prints_before_a_fault = refl;
  spent_between = refl;
  loose = refl;
  strict = refl;
  order = refl;
  no_order = refl;
  no_number = refl;
  remainder_by_zero = refl;
  number_before_zero = refl;
  joined_texts = refl;
  number_of_text = refl;
  truth = refl;
  texts = refl;
  changes = refl;
}
