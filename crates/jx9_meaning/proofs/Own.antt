-- Steps that leave a view of the variables as it is.
use Rattle.std.proofs.Common.{◌≡◌, ℕ, Option, Some, None, refl, ◌∙◌, length, subst}
use Rattle.std.specs.Prelude.{Bool, true, false, if◌then◌else◌, nat_lt, Result, Ok, Err}
use Rattle.uq_value.specs.Data.{Bytes}
use Rattle.uq_value.specs.Put.{Put, limited}
use Rattle.uq_value.specs.declared.value.Value.{Value}
use Rattle.jx9_meaning.specs.Meaning.{Ending, Meaning, Outcome, Goes, Ends, Unfinished, after, ◌>>=◌, pure, ends, some_or, ok_or, put_or, take, read, tell, most_events, fits, sized, units_of}
use Rattle.jx9_meaning.specs.World.{State, Named, Event, with_event}
use Rattle.jx9_meaning.specs.declared.fault.FaultKind.{FaultKind}
use Rattle.jx9_meaning.proofs.Steps.{made, taken}

module _ {V : Type 0} (view : Named Value → V) where
  -- where it goes on, this is what is seen
  abbrev pub Sees : {A : Type 0} → V → Outcome A → Type 0
  Sees seen (Goes a t) = view t.own ≡ seen
  Sees seen (Ends e t) = Unit {0}
  Sees seen Unfinished = Unit {0}

  pub record Keeps {A : Type 0} (q : Meaning A) : Type 0 where
    pub by : (s : State) → Sees (view s.own) (q s)

  pub sees_then : {A B : Type 0} (seen : V) (r : Outcome A) (f : A → Meaning B) → Sees seen r → ((a : A) → Keeps (f a)) → Sees seen (after r f)
  sees_then {B = B} seen (Goes a t) f h g = on (f a t) ((g a).by t)
    where
      on : (r : Outcome B) → Sees (view t.own) r → Sees seen r
      on (Goes b u) x = x ∙ h
      on (Ends e u) x = tt
      on Unfinished x = tt
  sees_then seen (Ends e t) f h g = tt
  sees_then seen Unfinished f h g = tt

  pub sees_so : {A : Type 0} (seen : V) (r : Outcome A) (a : A) (t : State) → Sees seen r → r ≡ Goes a t → view t.own ≡ seen
  sees_so seen r a t h e = subst (Sees seen) e h

  pub keeps_then : {A B : Type 0} (p : Meaning A) (f : A → Meaning B) → Keeps p → ((a : A) → Keeps (f a)) → Keeps (p >>= f)
  keeps_then p f h g = record { by = λ s. sees_then (view s.own) (p s) f (h.by s) g }

  pub keeps_pure : {A : Type 0} (a : A) → Keeps (pure a)
  keeps_pure a = record { by = λ s. refl }

  pub keeps_ends : {A : Type 0} (e : Ending) → Keeps {A = A} (ends e)
  keeps_ends e = record { by = λ s. tt }

  pub keeps_some : {A : Type 0} (line : ℕ) (kind : FaultKind) (o : Option A) → Keeps (some_or line kind o)
  keeps_some line kind (Some a) = keeps_pure a
  keeps_some line kind None = keeps_ends _

  pub keeps_ok : {A : Type 0} (line : ℕ) (r : Result A FaultKind) → Keeps (ok_or line r)
  keeps_ok line (Ok a) = keeps_pure a
  keeps_ok line (Err e) = keeps_ends _

  pub keeps_put : {A : Type 0} (line : ℕ) (r : Put A) → Keeps (put_or line r)
  keeps_put line (Ok a) = keeps_pure a
  keeps_put line (Err e) = keeps_ends _

  pub keeps_read : (name : Bytes) → Keeps (read name)
  keeps_read name = record { by = λ s. refl }

  pub keeps_take : (k : ℕ) → Keeps (take k)
  unfolding take
  keeps_take k = record { by = λ s. either s (nat_lt s.world.units k) }
    where
      either : (s : State) (b : Bool) → Sees (view s.own) (taken k s b)
      either s true = tt
      either s false = refl

  pub keeps_tell : (e : Event) → Keeps (tell e)
  unfolding tell with_event
  keeps_tell e = record { by = λ s. either s (nat_lt (length s.events) most_events) }
    where
      either : (s : State) (b : Bool) → Sees (view s.own) (made e s b)
      either s true = refl
      either s false = tt

  pub keeps_fits : (line : ℕ) (v : Value) → Keeps (fits line v)
  unfolding fits
  keeps_fits line v = keeps_put line (limited v)

  pub keeps_sized : (line : ℕ) (v : Value) → Keeps (sized line v)
  unfolding sized
  keeps_sized line v = keeps_then _ _ (keeps_fits line v) (λ _. keeps_then _ _ (keeps_take (units_of v)) (λ _. keeps_pure v))

  pub keeps_if : {A : Type 0} (b : Bool) (p q : Meaning A) → Keeps p → Keeps q → Keeps (if b then p else q)
  keeps_if true p q h g = h
  keeps_if false p q h g = g
