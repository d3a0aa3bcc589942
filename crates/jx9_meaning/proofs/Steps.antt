-- Steps one after the other, and what they may have changed together.
use Rattle.std.proofs.Common.{◌≡◌, ℕ, suc, ◌+◌, ◌<◌, ◌≤◌, List, [], ◌∷◌, ◌++◌, length, Option, Some, None, refl, ◌∙◌, arith}
use Rattle.std.specs.Prelude.{Bool, true, false, if◌then◌else◌, nat_lt, Result, Ok, Err}
use Rattle.std.proofs.lemmas.Bool.{ltb-false}
use Rattle.std.proofs.lemmas.List.{length-append}
use Rattle.uq_value.specs.Data.{Bytes}
use Rattle.uq_value.specs.Put.{Put, limited}
use Rattle.uq_value.specs.declared.value.Value.{Value}
use Rattle.jx9_meaning.specs.Laws.{last_saved}
use Rattle.jx9_meaning.specs.Meaning.{Ending, Spent, Meaning, Outcome, Goes, Ends, Unfinished, after, ◌>>=◌, ◌>>◌, pure, ends, some_or, ok_or, put_or, spend, take, read, write, tell, most_events, fits, sized, each, through}
use Rattle.jx9_meaning.specs.World.{State, Event, Out, Commit, Host, with_variable, with_event}
use Rattle.jx9_meaning.specs.declared.fault.FaultKind.{FaultKind}
use Rattle.jx9_meaning.proofs.Moves.{Moves, weight, moves_then, moves_less, moves_nowhere, moves_still}

-- it is finished, and has moved so; where it goes on, as many functions are active as before
abbrev pub Kept : {A : Type 0} → ℕ → ℕ → State → Outcome A → Type 0
Kept d k s (Goes a t) = Moves d k s t × (t.world.active ≡ s.world.active)
Kept d k s (Ends e t) = Moves 0 k s t
Kept d k s Unfinished = ⊥

-- with fewer than n units it takes d units at least, and makes k events at most that no unit of its own pays for
pub record Costs {A : Type 0} (n d k : ℕ) (q : Meaning A) : Type 0 where
  pub by : (s : State) → s.world.units < n → Kept d k s (q s)

abbrev pub Frugal : {A : Type 0} → ℕ → Meaning A → Type 0
Frugal n q = Costs n 0 0 q

-- it takes a unit at least
abbrev pub Spends : {A : Type 0} → ℕ → Meaning A → Type 0
Spends n q = Costs n 1 0 q

-- it makes an event at most that a unit before it pays for
abbrev pub Owes : {A : Type 0} → ℕ → Meaning A → Type 0
Owes n q = Costs n 0 1 q

pub kept_less : {A : Type 0} (d k d' k' : ℕ) (s : State) (r : Outcome A) → d' ≤ d → d' + k ≤ k' + d → k ≤ k' → Kept d k s r → Kept d' k' s r
kept_less d k d' k' s (Goes a t) c1 c2 c3 h = (moves_less d k d' k' s t c1 c2 h.0, h.1)
kept_less d k d' k' s (Ends e t) c1 c2 c3 h = moves_less 0 k 0 k' s t (omega arith) (omega (arith, c3)) h
kept_less d k d' k' s Unfinished c1 c2 c3 h = h

-- ---- one after the other

-- it went on, and then something else was kept
pub kept_on : {A B : Type 0} (d j e k d' k' : ℕ) (s t : State) (a : A) (f : A → Meaning B) → d' ≤ d + e → d' + j + k ≤ k' + d + e → j + k ≤ k' + d
    → Kept d j s (Goes a t) → Kept e k t (f a t) → Kept d' k' s (f a t)
kept_on {A = A} {B = B} d j e k d' k' s t a f c1 c2 c3 h x = on (f a t) x
  where
    on : (r : Outcome B) → Kept e k t r → Kept d' k' s r
    on (Goes b u) x = (moves_then d j e k d' k' s t u c1 c2 h.0 x.0, x.1 ∙ h.1)
    on (Ends y u) x = moves_then d j 0 k 0 k' s t u (omega arith) (omega (arith, c3)) h.0 x
    on Unfinished x = x

pub kept_then : {A B : Type 0} (d j e k d' k' : ℕ) (s : State) (r : Outcome A) (f : A → Meaning B) → d' ≤ d + e → d' + j + k ≤ k' + d + e → j + k ≤ k' + d → j ≤ k'
    → Kept d j s r → ((a : A) (t : State) → t.world.units ≤ s.world.units → Kept e k t (f a t)) → Kept d' k' s (after r f)
kept_then d j e k d' k' s (Goes a t) f c1 c2 c3 c4 h g = kept_on d j e k d' k' s t a f c1 c2 c3 h (g a t (omega (arith, h.0.units)))
kept_then d j e k d' k' s (Ends y t) f c1 c2 c3 c4 h g = moves_less 0 j 0 k' s t (omega arith) (omega (arith, c4)) h
kept_then d j e k d' k' s Unfinished f c1 c2 c3 c4 h g = h

costs_then : {A B : Type 0} (n d j e k d' k' : ℕ) (p : Meaning A) (f : A → Meaning B) → d' ≤ d + e → d' + j + k ≤ k' + d + e → j + k ≤ k' + d → j ≤ k'
    → Costs n d j p → ((a : A) → Costs n e k (f a)) → Costs n d' k' (p >>= f)
costs_then n d j e k d' k' p f c1 c2 c3 c4 h g = record {
  by = λ s l. kept_then d j e k d' k' s (p s) f c1 c2 c3 c4 (h.by s l) (λ a t m. (g a).by t (omega (arith, l, m)));
}

-- the second may owe an event
pub after_frugal : {A B : Type 0} (n k : ℕ) (p : Meaning A) (f : A → Meaning B) → Frugal n p → ((a : A) → Costs n 0 k (f a)) → Costs n 0 k (p >>= f)
after_frugal n k p f h g = costs_then n 0 0 0 k 0 k p f (omega arith) (omega arith) (omega arith) (omega arith) h g

pub frugal_then : {A B : Type 0} (n : ℕ) (p : Meaning A) (f : A → Meaning B) → Frugal n p → ((a : A) → Frugal n (f a)) → Frugal n (p >>= f)
frugal_then n p f h g = after_frugal n 0 p f h g

pub owes_then : {A B : Type 0} (n : ℕ) (p : Meaning A) (f : A → Meaning B) → Owes n p → ((a : A) → Frugal n (f a)) → Owes n (p >>= f)
owes_then n p f h g = costs_then n 0 1 0 0 0 1 p f (omega arith) (omega arith) (omega arith) (omega arith) h g

-- the unit of the first pays for the event of the second
pub paid_then : {A B : Type 0} (n : ℕ) (p : Meaning A) (f : A → Meaning B) → Spends n p → ((a : A) → Owes n (f a)) → Frugal n (p >>= f)
paid_then n p f h g = costs_then n 1 0 0 1 0 0 p f (omega arith) (omega arith) (omega arith) (omega arith) h g

pub frugal : {A : Type 0} (n : ℕ) (q : Meaning A) → Spends n q → Frugal n q
frugal n q h = record { by = λ s l. kept_less 1 0 0 0 s (q s) (omega arith) (omega arith) (omega arith) (h.by s l) }

pub owes : {A : Type 0} (n : ℕ) (q : Meaning A) → Frugal n q → Owes n q
owes n q h = record { by = λ s l. kept_less 0 0 0 1 s (q s) (omega arith) (omega arith) (omega arith) (h.by s l) }

-- ---- single steps

pub frugal_pure : {A : Type 0} (n : ℕ) (a : A) → Frugal n (pure a)
frugal_pure n a = record { by = λ s l. (moves_nowhere s, refl) }

pub frugal_ends : {A : Type 0} (n : ℕ) (e : Ending) → Frugal {A = A} n (ends e)
frugal_ends n e = record { by = λ s l. moves_nowhere s }

pub frugal_some : {A : Type 0} (n line : ℕ) (kind : FaultKind) (o : Option A) → Frugal n (some_or line kind o)
frugal_some n line kind (Some a) = frugal_pure n a
frugal_some n line kind None = frugal_ends n _

pub frugal_ok : {A : Type 0} (n line : ℕ) (r : Result A FaultKind) → Frugal n (ok_or line r)
frugal_ok n line (Ok a) = frugal_pure n a
frugal_ok n line (Err e) = frugal_ends n _

pub frugal_put : {A : Type 0} (n line : ℕ) (r : Put A) → Frugal n (put_or line r)
frugal_put n line (Ok a) = frugal_pure n a
frugal_put n line (Err e) = frugal_ends n _

pub frugal_read : (n : ℕ) (name : Bytes) → Frugal n (read name)
frugal_read n name = record { by = λ s l. (moves_nowhere s, refl) }

pub frugal_write : (n : ℕ) (name : Bytes) (v : Value) → Frugal n (write name v)
unfolding with_variable
frugal_write n name v = record {
  by = λ s l. (
    moves_still 0 s (with_variable name v s) (omega arith) refl refl refl refl,
    refl,
  );
}

-- ---- units

abbrev pub taken : ℕ → State → Bool → Outcome (Unit {0})
taken k s b = if b then Ends Spent s else Goes tt (spend k s)

takes : (s : State) (k d : ℕ) → d ≤ k → (b : Bool) → nat_lt s.world.units k ≡ b → Kept d 0 s (taken k s b)
takes s k d c true e = moves_nowhere s
takes s k d c false e = (
  moves_still d s (spend k s) (omega (arith, ltb-false s.world.units k e, c)) refl refl refl refl,
  refl,
)

pub frugal_take : (n k : ℕ) → Frugal n (take k)
unfolding take
frugal_take n k = record { by = λ s l. takes s k 0 (omega arith) (nat_lt s.world.units k) refl }

-- a unit has the weight of two events
takes_one : (s : State) (b : Bool) → nat_lt s.world.units 1 ≡ b → Kept 1 0 s (taken 1 s b)
takes_one s b e = takes s 1 1 (omega arith) b e

-- a unit, and then the rest, which has fewer, and may owe an event
pub spends_unit : {A : Type 0} (n : ℕ) (q : Meaning A) → Owes n q → Spends (suc n) (take 1 >> q)
unfolding take
spends_unit {A} n q h = record { by = λ s l. by_units s l (nat_lt s.world.units 1) refl }
  where
    spent : (s : State) → nat_lt s.world.units 1 ≡ false → Moves 1 0 s (spend 1 s) × (2 + weight (spend 1 s) ≤ weight s)
    spent s e = (
      moves_still 1 s (spend 1 s) (omega (arith, ltb-false s.world.units 1 e)) refl refl refl refl,
      omega (arith, ltb-false s.world.units 1 e),
    )

    rest : (s : State) → nat_lt s.world.units 1 ≡ false → (r : Outcome A) → Kept 0 1 (spend 1 s) r → Kept 1 0 s r
    rest s e (Goes a t) x = (
      record {
        units = omega (arith, (spent s e).0.units, x.0.units);
        less = omega (arith, (spent s e).1, x.0.less);
        limits = x.0.limits;
        hosts = x.0.hosts;
        more = x.0.more;
        told = x.0.told;
        saved = x.0.saved;
        settled = x.0.settled;
      },
      x.1,
    )
    rest s e (Ends y t) x = record {
      units = omega (arith, (spent s e).0.units, x.units);
      less = omega (arith, (spent s e).1, x.less);
      limits = x.limits;
      hosts = x.hosts;
      more = x.more;
      told = x.told;
      saved = x.saved;
      settled = x.settled;
    }
    rest s e Unfinished x = x

    by_units : (s : State) → s.world.units < suc n → (b : Bool) → nat_lt s.world.units 1 ≡ b → Kept 1 0 s (after (taken 1 s b) (λ _. q))
    by_units s l true e = moves_nowhere s
    by_units s l false e = rest s e (q (spend 1 s)) (h.by (spend 1 s) (omega (arith, l, (spent s e).0.units)))

-- ---- events

-- nothing but a commit changes the saved store
abbrev pub Leaves : Event → Type 0
Leaves (Out bytes) = Unit {0}
Leaves (Commit store) = ⊥
Leaves (Host name vs) = Unit {0}

stays : (e : Event) (s : State) → Leaves e → s.world.session.saved ≡ last_saved s.world.session.saved (e ∷ [])
stays (Out bytes) s h = refl
stays (Commit store) s h = absurd h
stays (Host name vs) s h = refl

pub length_with : (s : State) (e : Event) → length (s.events ++ e ∷ []) ≡ length s.events + 1
length_with s e = length-append s.events (e ∷ [])

abbrev pub made : Event → State → Bool → Outcome (Unit {0})
made e s b = if b then Goes tt (with_event e s) else Ends Spent s

pub owes_tell : (n : ℕ) (e : Event) → Leaves e → Owes n (tell e)
unfolding tell with_event
owes_tell n e h = record { by = λ s l. by_room s (nat_lt (length s.events) most_events) }
  where
    by_room : (s : State) → (b : Bool) → Kept 0 1 s (made e s b)
    by_room s true = (
      record {
        units = omega arith;
        less = omega (arith, length_with s e);
        limits = refl;
        hosts = refl;
        more = e ∷ [];
        told = refl;
        saved = stays e s h;
        settled = λ h. h;
      },
      refl,
    )
    by_room s false = moves_less 0 0 0 1 s s (omega arith) (omega arith) (moves_nowhere s)

-- ---- results

pub frugal_fits : (n line : ℕ) (v : Value) → Frugal n (fits line v)
unfolding fits
frugal_fits n line v = frugal_put n line (limited v)

pub frugal_sized : (n line : ℕ) (v : Value) → Frugal n (sized line v)
unfolding sized
frugal_sized n line v = frugal_then n _ _ (frugal_fits n line v) (λ _. frugal_then n _ _ (frugal_take n _) (λ _. frugal_pure n v))

-- ---- lists and tests

pub frugal_each : {A B : Type 0} (n : ℕ) (f : A → Meaning B) → ((a : A) → Frugal n (f a)) → (l : List A) → Frugal n (each f l)
frugal_each n f h [] = frugal_pure n []
frugal_each n f h (a ∷ l) = frugal_then n _ _ (h a) (λ b. frugal_then n _ _ (frugal_each n f h l) (λ bs. frugal_pure n _))

pub frugal_through : {A B : Type 0} (n : ℕ) (f : B → A → Meaning B) → ((b : B) (a : A) → Frugal n (f b a)) → (b : B) (l : List A) → Frugal n (through f b l)
frugal_through n f h b [] = frugal_pure n b
frugal_through n f h b (a ∷ l) = frugal_then n _ _ (h b a) (λ c. frugal_through n f h c l)

pub frugal_if : {A : Type 0} (n : ℕ) (b : Bool) (p q : Meaning A) → Frugal n p → Frugal n q → Frugal n (if b then p else q)
frugal_if n true p q h g = h
frugal_if n false p q h g = g
