-- Where steps lead, whatever is to be written at their end.
use Rattle.std.specs.Prelude.{◌≡◌, List, Option, Result, Ok, Err, MatchResult}
use Rattle.uq_value.specs.Put.{Put, Key, nth, named, then_put, key, there, put_within}
use Rattle.uq_value.specs.declared.value.Value.{Value}
use Rattle.uq_value.specs.declared.step.Step.{Step}
use Rattle.uq_value.specs.declared.key.Key.{Key as Found}
use Rattle.uq_value.specs.declared.key.Key.TheVariants as found
use Rattle.uq_value.specs.declared.error.ValueFault.{ValueFault}

-- what the code says of a key
abbrev pub key_of : Found → Key
key_of (found.Nth at) = nth at
key_of (found.Named name) = named name.now

-- a call answers the key that is defined, or its refusal
abbrev pub GivesKey : Put Key → Result Found ValueFault → Type 0
GivesKey defined result = MatchResult result (λ k. defined ≡ Ok (key_of k)) (λ e. defined ≡ Err e)

-- what stands a step on
abbrev pub reached : Step → Value → Put (Option Value)
reached s v = then_put (key s v) (λ k. Ok (there k v))

-- the first fault of the steps
abbrev pub Refused : List Step → Value → ValueFault → Type 0
Refused steps v e = (new : Value) → put_within steps new v ≡ Err e

-- the steps lead somewhere
abbrev pub Leads : List Step → Value → Type 0
Leads steps v = (new : Value) → (w : Value) × (put_within steps new v ≡ Ok w)
