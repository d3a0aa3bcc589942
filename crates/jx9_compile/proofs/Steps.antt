-- The steps of the meaning that ops take: each is finished, and brings no units.
use Rattle.std.proofs.Common.{ℕ, ◌≤◌, Option, Some, None, arith}
use Rattle.std.specs.Prelude.{Bool, true, false, if◌then◌else◌, nat_lt, length, pos, ◌++◌, Result, Ok, Err}
use Rattle.uq_value.specs.Number.{number}
use Rattle.uq_value.specs.Put.{Put, limited}
use Rattle.uq_value.specs.declared.value.Value.{Value}
use Rattle.uq_json.specs.Text.{text_of}
use Rattle.jx9_syntax.specs.declared.expression.Change.{Change as How}
use Rattle.jx9_syntax.specs.declared.expression.Change.TheVariants as how
use Rattle.jx9_syntax.specs.declared.expression.Step.{Step}
use Rattle.jx9_meaning.specs.Expression.{stepped, operation, change_units}
use Rattle.jx9_meaning.specs.Meaning.{Spent, Meaning, Outcome, Goes, Ends, Unfinished, after, ◌>>=◌, pure, some_or, ok_or, put_or, spend, take, tell, most_events, fits, sized, units_of}
use Rattle.jx9_meaning.specs.Operators.{operate}
use Rattle.jx9_meaning.specs.World.{State, Event, with_event}
use Rattle.jx9_meaning.specs.declared.fault.FaultKind.{FaultKind}
use Rattle.jx9_meaning.specs.declared.fault.FaultKind.TheVariants.{NotNumber}
use Rattle.jx9_compile.specs.Run.{counting, changing}

-- it is finished, and where it goes on there are no more units
abbrev pub Thrifty : {A : Type 0} → State → Outcome A → Type 0
Thrifty s (Goes a t) = t.world.units ≤ s.world.units
Thrifty s (Ends e t) = Unit {0}
Thrifty s Unfinished = ⊥

thrifty_from : {A : Type 0} (s t : State) (r : Outcome A) → t.world.units ≤ s.world.units → Thrifty t r → Thrifty s r
thrifty_from s t (Goes a u) l h = omega arith
thrifty_from s t (Ends e u) l h = tt
thrifty_from s t Unfinished l h = h

pub thrifty_then : {A B : Type 0} (s : State) (r : Outcome A) (f : A → Meaning B) → Thrifty s r → ((a : A) (t : State) → Thrifty t (f a t))
    → Thrifty s (after r f)
thrifty_then s (Goes a t) f h g = thrifty_from s t (f a t) h (g a t)
thrifty_then s (Ends e t) f h g = tt
thrifty_then s Unfinished f h g = h

thrifty_pure : {A : Type 0} (s : State) (a : A) → Thrifty s (pure a s)
thrifty_pure s a = omega arith

thrifty_some : {A : Type 0} (s : State) (line : ℕ) (kind : FaultKind) (o : Option A) → Thrifty s (some_or line kind o s)
thrifty_some s line kind (Some a) = thrifty_pure s a
thrifty_some s line kind None = tt

pub thrifty_ok : {A : Type 0} (s : State) (line : ℕ) (r : Result A FaultKind) → Thrifty s (ok_or line r s)
thrifty_ok s line (Ok a) = thrifty_pure s a
thrifty_ok s line (Err e) = tt

thrifty_put : {A : Type 0} (s : State) (line : ℕ) (r : Put A) → Thrifty s (put_or line r s)
thrifty_put s line (Ok a) = thrifty_pure s a
thrifty_put s line (Err e) = tt

abbrev pub taken : ℕ → State → Bool → Outcome (Unit {0})
taken n s b = if b then Ends Spent s else Goes tt (spend n s)

abbrev pub told : Event → State → Bool → Outcome (Unit {0})
told e s b = if b then Goes tt (with_event e s) else Ends Spent s

thrifty_taken : (s : State) (n : ℕ) (b : Bool) → Thrifty s (taken n s b)
thrifty_taken s n true = tt
thrifty_taken s n false = omega arith

pub thrifty_take : (s : State) (n : ℕ) → Thrifty s (take n s)
unfolding take
thrifty_take s n = thrifty_taken s n (nat_lt s.world.units n)

thrifty_told : (s : State) (e : Event) (b : Bool) → Thrifty s (told e s b)
unfolding with_event
thrifty_told s e true = omega arith
thrifty_told s e false = tt

pub thrifty_tell : (s : State) (e : Event) → Thrifty s (tell e s)
unfolding tell
thrifty_tell s e = thrifty_told s e (nat_lt (length s.events) most_events)

pub thrifty_fits : (s : State) (line : ℕ) (v : Value) → Thrifty s (fits line v s)
unfolding fits
thrifty_fits s line v = thrifty_put s line (limited v)

pub thrifty_sized : (s : State) (line : ℕ) (v : Value) → Thrifty s (sized line v s)
unfolding sized
thrifty_sized s line v =
    thrifty_then s (fits line v s) _ (thrifty_fits s line v)
    (λ a t. thrifty_then t (take (units_of v) t) (λ _. pure v) (thrifty_take t (units_of v)) (λ b u. thrifty_pure u v))

pub thrifty_counting : (s : State) (line : ℕ) (step : Step) (v : Value) → Thrifty s (counting line step v s)
thrifty_counting s line step v =
    thrifty_then s (some_or line NotNumber (number v) s) _ (thrifty_some s line NotNumber (number v))
    (λ old t. thrifty_then t (ok_or line (operate (stepped step) (Value.Int old) (Value.Int (pos 1))) t) _
    (thrifty_ok t line (operate (stepped step) (Value.Int old) (Value.Int (pos 1))))
    (λ new u. let two : Value × Value = (Value.Int old, new) in thrifty_pure u two))

thrifty_operation : (s : State) (line : ℕ) (old : Value) (change : How) (right : Value) → Thrifty s (operation line old change right s)
thrifty_operation s line old (how.By operator) right = thrifty_ok s line (operate operator old right)
thrifty_operation s line old how.Join right = thrifty_fits s line (Value.Text (text_of old ++ text_of right))

pub thrifty_changing : (s : State) (line : ℕ) (change : How) (old right : Value) → Thrifty s (changing line change old right s)
thrifty_changing s line change old right =
    thrifty_then s (operation line old change right s) _ (thrifty_operation s line old change right)
    (λ new t. thrifty_then t (fits line new t) (λ _. take (change_units change new) >>= (λ _. pure new)) (thrifty_fits t line new)
    (λ a u. thrifty_then u (take (change_units change new) u) (λ _. pure new) (thrifty_take u (change_units change new)) (λ b v. thrifty_pure v new)))
