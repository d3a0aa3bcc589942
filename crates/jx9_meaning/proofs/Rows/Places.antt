-- Scripts on lists, objects and places.
use Rattle.std.specs.Prelude.{refl}
use Rattle.jx9_meaning.specs.Compute.{trees, values, meaning}
use Rattle.jx9_meaning.specs.Rows.Places.{PlaceRows}

pub place_rows : PlaceRows
unfolding trees values meaning
place_rows = record {
  copies_apart = refl;
  copies_apart_within = refl;
  nothing_there = refl;
  reads = refl;
  number_as_name = refl;
  steps_of_a_literal = refl;
  no_bytes_of_a_text = refl;
  repeated_member = refl;
  makes_containers = refl;
  appends_within = refl;
  member_of_a_number = refl;
  append_to_a_number = refl;
  behind_the_end = refl;
  text_in_a_list = refl;
  behind_the_end_of_nothing = refl;
  boolean_into_null = refl;
  boolean_into_object = refl;
  too_deep = refl;
}
