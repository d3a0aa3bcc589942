-- Scripts that take units by size.
use Rattle.std.specs.Prelude.{refl}
use Rattle.jx9_meaning.specs.Compute.{trees, values, meaning}
use Rattle.jx9_meaning.specs.Rows.Units.{UnitRows}

pub unit_rows : UnitRows
unfolding trees values meaning
unit_rows = record {
  variable_in_text = refl;
  grown = refl;
  grown_and_joined = refl;
  faults_before_units = refl;
  fewer_left_than_taken = refl;
}
