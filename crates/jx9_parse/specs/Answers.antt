-- What a method of the parser answers is what reading gives.
use Rattle.std.specs.Prelude.{◌≡◌, Result, Ok, Err}
use Rattle.jx9_parse.specs.Reading.{State, Read}
use Rattle.jx9_parse.specs.declared.parser.Parser.{Parser}
use Rattle.jx9_parse.specs.declared.stop.Stop.{Stop}
use Rattle.jx9_parse.specs.declared.stop.Stop.TheVariants as stop

abbrev pub state : Parser → State
state p = record { tokens = p.tokens.now; number = p.number; lambdas = p.lambdas }

-- unless memory ran out; where reading stops the parser stands before the token that is dead
abbrev pub Stops : {X : Type 0} → Stop → Parser → Read X → Type 0
Stops stop.Memory p read = Unit {0}
Stops stop.Dead p read = read ≡ Err p.tokens.now

abbrev pub Gives : {X Y : Type 0} → (X → Y) → Result X Stop → Parser → Read Y → Type 0
Gives view (Ok x) p read = read ≡ Ok (view x, state p)
Gives view (Err e) p read = Stops e p read

abbrev pub it : {X : Type 0} → X → X
it x = x
