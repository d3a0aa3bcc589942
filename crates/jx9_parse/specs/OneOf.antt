-- What was read, where it is the one of two that was asked for.
use Rattle.std.specs.Prelude.{Result, Ok, Err}
use Rattle.jx9_parse.specs.declared.construct.OneOf.{OneOf}
use Rattle.jx9_parse.specs.declared.construct.OneOf.TheVariants as one_of
use Rattle.jx9_parse.specs.declared.stop.Stop.{Stop}
use Rattle.jx9_parse.specs.declared.stop.Stop.TheVariants as stop

abbrev pub first_of : {A B : Type 0} → Result (OneOf A B) Stop → Result A Stop
first_of (Ok (one_of.First x)) = Ok x
first_of (Ok (one_of.Second y)) = Err stop.Dead
first_of (Err e) = Err e

abbrev pub second_of : {A B : Type 0} → Result (OneOf A B) Stop → Result B Stop
second_of (Ok (one_of.First x)) = Err stop.Dead
second_of (Ok (one_of.Second y)) = Ok y
second_of (Err e) = Err e
