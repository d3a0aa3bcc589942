-- Steps in order: each goes on with a value, or ends the script.
use Rattle.std.specs.Prelude.{ℕ, ◌-◌, ◌/◌, ◌^◌, if◌then◌else◌, nat_lt, List, [], ◌∷◌, length, Option, Some, None, Result, Ok, Err}
use Rattle.uq_value.specs.Data.{Bytes}
use Rattle.uq_value.specs.Plain.{size}
use Rattle.uq_value.specs.Put.{Put, limited}
use Rattle.uq_value.specs.declared.error.ValueFault.{ValueFault}
use Rattle.uq_value.specs.declared.error.ValueFault.TheVariants as value
use Rattle.uq_value.specs.declared.value.Value.{Value}
use Rattle.jx9_meaning.specs.World.{State, Event, variable, with_variable, with_event}
use Rattle.jx9_meaning.specs.declared.fault.FaultKind.{FaultKind}
use Rattle.jx9_meaning.specs.declared.fault.FaultKind.TheVariants.{NotContainer, IndexRange, TooDeep, TooLarge}

-- How a script ends.
pub data Ending : Type 0 where
  Done : Ending
  -- an operation of the node or statement of this line faulted
  Fault : FaultKind → ℕ → Ending
  -- fewer units were left than were to be taken
  Spent : Ending
  -- this host function failed
  HostFailed : Bytes → Ending
  -- a host call found no answer, or the answer that memory was refused
  Unanswered : Ending

-- `Unfinished`: the bound on the levels of calls and turns was too small, which a bound above the units left never is.
pub data Outcome (A : Type 0) : Type 0 where
  Goes : A → State → Outcome A
  Ends : Ending → State → Outcome A
  Unfinished : Outcome A

abbrev pub Meaning : Type 0 → Type 0
Meaning A = State → Outcome A

abbrev pub after : {A B : Type 0} → Outcome A → (A → State → Outcome B) → Outcome B
after (Goes a s) next = next a s
after (Ends e s) next = Ends e s
after Unfinished next = Unfinished

infixl 10 ◌>>=◌
abbrev pub ◌>>=◌ : {A B : Type 0} → Meaning A → (A → Meaning B) → Meaning B
p >>= f = λ s. after (p s) f

infixl 10 ◌>>◌
abbrev pub ◌>>◌ : {A B : Type 0} → Meaning A → Meaning B → Meaning B
p >> q = p >>= (λ _. q)

abbrev pub pure : {A : Type 0} → A → Meaning A
pure a = λ s. Goes a s

abbrev pub ends : {A : Type 0} → Ending → Meaning A
ends e = λ s. Ends e s

abbrev pub fault : {A : Type 0} → ℕ → FaultKind → Meaning A
fault line kind = ends (Fault kind line)

-- a value, or the fault where there is none
abbrev pub some_or : {A : Type 0} → ℕ → FaultKind → Option A → Meaning A
some_or line kind (Some a) = pure a
some_or line kind None = fault line kind

abbrev pub ok_or : {A : Type 0} → ℕ → Result A FaultKind → Meaning A
ok_or line (Ok a) = pure a
ok_or line (Err kind) = fault line kind

-- want of memory is no outcome of `put`, only an answer of the call
abbrev pub fault_of : ValueFault → FaultKind
fault_of value.NotContainer = NotContainer
fault_of value.IndexRange = IndexRange
fault_of value.TooDeep = TooDeep
fault_of value.TooLarge = TooLarge
fault_of value.Memory = TooLarge

abbrev pub put_or : {A : Type 0} → ℕ → Put A → Meaning A
put_or line (Ok a) = pure a
put_or line (Err e) = fault line (fault_of e)

-- ---- units, variables and events

abbrev pub spend : ℕ → State → State
spend n s = record s { world = record s.world { units = s.world.units - n } }

unfoldable pub take : ℕ → Meaning (Unit {0})
take n = λ s. if nat_lt s.world.units n then Ends Spent s else Goes tt (spend n s)

abbrev pub read : Bytes → Meaning Value
read name = λ s. Goes (variable name s) s

abbrev pub write : Bytes → Value → Meaning (Unit {0})
write name v = λ s. Goes tt (with_variable name v s)

-- no script has more events: the number of an event is below 2^64 - 1
abbrev pub most_events : ℕ
most_events = 2 ^ 64 - 1

-- an event that would have a greater number is not made, and ends the script as spent
unfoldable pub tell : Event → Meaning (Unit {0})
tell e = λ s. if nat_lt (length s.events) most_events then Goes tt (with_event e s) else Ends Spent s

-- a result within the limits
unfoldable pub fits : ℕ → Value → Meaning Value
fits line v = put_or line (limited v)

-- the units that a result takes by its size
abbrev pub units_of : Value → ℕ
units_of v = size v / 256

-- a result within the limits, which takes units by its size
unfoldable pub sized : ℕ → Value → Meaning Value
sized line v = do
  fits line v
  take (units_of v)
  pure v

-- ---- lists

-- the values of all, from the left
abbrev pub each : {A B : Type 0} → (A → Meaning B) → List A → Meaning (List B)
each f [] = pure []
each f (a ∷ more) = f a >>= (λ b. each f more >>= (λ bs. pure (b ∷ bs)))

-- from the left, where each changes what the one before gave
abbrev pub through : {A B : Type 0} → (B → A → Meaning B) → B → List A → Meaning B
through f b [] = pure b
through f b (a ∷ more) = f b a >>= (λ c. through f c more)
