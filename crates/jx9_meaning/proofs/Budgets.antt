-- With more units a step does the same, unless it was spent.
use Rattle.std.proofs.Common.{◌≡◌, ℕ, ◌+◌, ◌-◌, ◌≤◌, List, [], ◌∷◌, length, Option, Some, None, refl, sym, ◌∙◌, ap, subst, arith}
use Rattle.std.specs.Prelude.{Bool, true, false, if◌then◌else◌, nat_lt, Result, Ok, Err}
use Rattle.std.proofs.lemmas.Bool.{ltb-false, le-ltb}
use Rattle.uq_value.specs.Data.{Bytes}
use Rattle.uq_value.specs.Put.{Put, limited}
use Rattle.uq_value.specs.declared.value.Value.{Value}
use Rattle.jx9_meaning.specs.Laws.{IsNotSpent, raised}
use Rattle.jx9_meaning.specs.Meaning.{Ending, Meaning, Outcome, Goes, Ends, Unfinished, after, ◌>>=◌, pure, ends, some_or, ok_or, put_or, spend, take, read, write, tell, most_events, fits, sized, units_of, each, through}
use Rattle.jx9_meaning.specs.World.{State, Event, variable, with_variable, with_event, with_world}
use Rattle.jx9_meaning.specs.declared.fault.FaultKind.{FaultKind}
use Rattle.jx9_meaning.proofs.Steps.{taken, made}

-- the same state with k units more
abbrev pub raise : ℕ → State → State
raise k s = with_world (raised k s.world) s

-- the second outcome is the first one with k units more, unless that is spent or unfinished
abbrev pub Follows : {A : Type 0} → ℕ → Outcome A → Outcome A → Type 0
Follows k (Goes a t) other = other ≡ Goes a (raise k t)
Follows k (Ends e t) other = IsNotSpent e → other ≡ Ends e (raise k t)
Follows k Unfinished other = Unit {0}

pub record Scales {A : Type 0} (k : ℕ) (q other : Meaning A) : Type 0 where
  pub by : (s : State) → Follows k (q s) (other (raise k s))

pub follows_then : {A B : Type 0} (k : ℕ) (r other : Outcome A) (f g : A → Meaning B) → Follows k r other → ((a : A) → Scales k (f a) (g a)) → Follows k (after r f) (after other g)
follows_then k (Goes a t) other f g h x = subst (λ o. Follows k (f a t) (after o g)) (sym h) ((x a).by t)
follows_then k (Ends e t) other f g h x = λ n. ap (λ o. after o g) (h n)
follows_then k Unfinished other f g h x = tt

pub scales_then : {A B : Type 0} (k : ℕ) (p q : Meaning A) (f g : A → Meaning B) → Scales k p q → ((a : A) → Scales k (f a) (g a)) → Scales k (p >>= f) (q >>= g)
scales_then k p q f g h x = record { by = λ s. follows_then k (p s) (q (raise k s)) f g (h.by s) x }

-- ---- single steps

pub scales_pure : {A : Type 0} (k : ℕ) (a : A) → Scales k (pure a) (pure a)
scales_pure k a = record { by = λ s. refl }

pub scales_ends : {A : Type 0} (k : ℕ) (e : Ending) → Scales {A = A} k (ends e) (ends e)
scales_ends k e = record { by = λ s n. refl }

pub scales_some : {A : Type 0} (k line : ℕ) (kind : FaultKind) (o : Option A) → Scales k (some_or line kind o) (some_or line kind o)
scales_some k line kind (Some a) = scales_pure k a
scales_some k line kind None = scales_ends k _

pub scales_ok : {A : Type 0} (k line : ℕ) (r : Result A FaultKind) → Scales k (ok_or line r) (ok_or line r)
scales_ok k line (Ok a) = scales_pure k a
scales_ok k line (Err e) = scales_ends k _

pub scales_put : {A : Type 0} (k line : ℕ) (r : Put A) → Scales k (put_or line r) (put_or line r)
scales_put k line (Ok a) = scales_pure k a
scales_put k line (Err e) = scales_ends k _

pub scales_read : (k : ℕ) (name : Bytes) → Scales k (read name) (read name)
unfolding variable
scales_read k name = record { by = λ s. refl }

pub scales_write : (k : ℕ) (name : Bytes) (v : Value) → Scales k (write name v) (write name v)
unfolding with_variable
scales_write k name v = record { by = λ s. refl }

-- where n units are left, they are so with k more
pub scales_take : (k n : ℕ) → Scales k (take n) (take n)
unfolding take
scales_take k n = record { by = λ s. either s (nat_lt s.world.units n) refl }
  where
    more : (s : State) → n ≤ s.world.units → spend n (raise k s) ≡ raise k (spend n s)
    more s l = ap (λ u. with_world (record s.world { units = u }) s) (let e : s.world.units + k - n ≡ s.world.units - n + k = omega (arith, l) in e)

    either : (s : State) (b : Bool) → nat_lt s.world.units n ≡ b → Follows k (taken n s b) (taken n (raise k s) (nat_lt (s.world.units + k) n))
    either s true e = λ x. absurd x
    either s false e =
        let enough : n ≤ s.world.units + k = omega (arith, ltb-false s.world.units n e) in
        ap (λ b. taken n (raise k s) b) (le-ltb (s.world.units + k) n enough) ∙ ap (λ t. Goes tt t) (more s (ltb-false s.world.units n e))

pub scales_tell : (k : ℕ) (e : Event) → Scales k (tell e) (tell e)
unfolding tell with_event
scales_tell k e = record { by = λ s. either s (nat_lt (length s.events) most_events) }
  where
    either : (s : State) (b : Bool) → Follows k (made e s b) (made e (raise k s) b)
    either s true = refl
    either s false = λ x. absurd x

pub scales_fits : (k line : ℕ) (v : Value) → Scales k (fits line v) (fits line v)
unfolding fits
scales_fits k line v = scales_put k line (limited v)

pub scales_sized : (k line : ℕ) (v : Value) → Scales k (sized line v) (sized line v)
unfolding sized
scales_sized k line v = scales_then k _ _ _ _ (scales_fits k line v) (λ _. scales_then k _ _ _ _ (scales_take k (units_of v)) (λ _. scales_pure k v))

-- ---- lists and tests

pub scales_each : {A B : Type 0} (k : ℕ) (f g : A → Meaning B) → ((a : A) → Scales k (f a) (g a)) → (l : List A) → Scales k (each f l) (each g l)
scales_each k f g h [] = scales_pure k []
scales_each k f g h (a ∷ l) = scales_then k _ _ _ _ (h a) (λ b. scales_then k _ _ _ _ (scales_each k f g h l) (λ bs. scales_pure k _))

pub scales_through : {A B : Type 0} (k : ℕ) (f g : B → A → Meaning B) → ((b : B) (a : A) → Scales k (f b a) (g b a)) → (b : B) (l : List A) → Scales k (through f b l) (through g b l)
scales_through k f g h b [] = scales_pure k b
scales_through k f g h b (a ∷ l) = scales_then k _ _ _ _ (h b a) (λ c. scales_through k f g h c l)

pub scales_if : {A : Type 0} (k : ℕ) (b : Bool) (p q p' q' : Meaning A) → Scales k p p' → Scales k q q' → Scales k (if b then p else q) (if b then p' else q')
scales_if k true p q p' q' h g = h
scales_if k false p q p' q' h g = g
