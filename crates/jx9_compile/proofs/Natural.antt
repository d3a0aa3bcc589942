-- Steps that look at no variable do the same where the variables live in slots.
use Rattle.std.proofs.Common.{◌≡◌, ℕ, suc, ◌+◌, List, ◌∷◌, refl, sym, ap, ◌∙◌, subst}
use Rattle.std.specs.Prelude.{Bool, true, false, if◌then◌else◌, map, nat_lt, ◌++◌, Ok, Err, Result}
use Rattle.uq_value.specs.Data.{Bytes}
use Rattle.uq_value.specs.Put.{Put, limited}
use Rattle.uq_value.specs.declared.value.Value.{Value}
use Rattle.uq_json.specs.Text.{text_of}
use Rattle.jx9_syntax.specs.declared.expression.Change.{Change as How}
use Rattle.jx9_syntax.specs.declared.expression.Change.TheVariants as how
use Rattle.jx9_meaning.specs.Expression.{operation}
use Rattle.jx9_meaning.specs.Meaning.{Ending, Spent, Meaning, Outcome, Goes, Ends, Unfinished, after, ◌>>=◌, pure, ends, take, spend, ok_or, put_or, fits, sized, units_of}
use Rattle.jx9_meaning.specs.Operators.{operate}
use Rattle.jx9_meaning.specs.World.{State, variable}
use Rattle.jx9_meaning.specs.declared.fault.FaultKind.{FaultKind}
use Rattle.jx9_compile.specs.Machine.{Frame, Machine}
use Rattle.jx9_compile.specs.Run.{gives, run}
use Rattle.jx9_compile.specs.declared.code.Code.{Code}
use Rattle.jx9_compile.proofs.Leads.{Leads, bare, machine, leads_at_once, leads_step, leads_end}

-- the outcome with no variables, where the variables are as before
abbrev pub SameBare : {A : Type 0} → State → Outcome A → Outcome A → Type 0
SameBare s (Goes a t) r = (r ≡ Goes a (bare t)) × (t.own ≡ s.own)
SameBare s (Ends e t) r = r ≡ Ends e (bare t)
SameBare s Unfinished r = r ≡ Unfinished

pub record Natural {A : Type 0} (q : Meaning A) : Type 0 where
  pub at : (s : State) → SameBare s (q s) (q (bare s))

same_own : {A : Type 0} (s t : State) (r r' : Outcome A) → t.own ≡ s.own → SameBare t r r' → SameBare s r r'
same_own s t (Goes a u) r' e h = (h.0, h.1 ∙ e)
same_own s t (Ends x u) r' e h = h
same_own s t Unfinished r' e h = h

natural_after : {A B : Type 0} (s : State) (f : A → Meaning B) → ((a : A) → Natural (f a)) → (r r' : Outcome A) → SameBare s r r' → SameBare s (after r f) (after r' f)
natural_after s f h (Goes a t) r' g = subst (λ x. SameBare s (f a t) (after x f)) (sym g.0) (same_own s t (f a t) (f a (bare t)) g.1 ((h a).at t))
natural_after s f h (Ends e t) r' g = ap (λ x. after x f) g
natural_after s f h Unfinished r' g = ap (λ x. after x f) g

pub natural_then : {A B : Type 0} (q : Meaning A) (f : A → Meaning B) → Natural q → ((a : A) → Natural (f a)) → Natural (q >>= f)
natural_then q f h g = record { at = λ s. natural_after s f g (q s) (q (bare s)) (h.at s) }

pub natural_pure : {A : Type 0} (a : A) → Natural (pure a)
natural_pure a = record { at = λ s. (refl, refl) }

pub natural_ends : {A : Type 0} (e : Ending) → Natural {A = A} (ends e)
natural_ends e = record { at = λ s. refl }

one : ℕ → State → Bool → Outcome (Unit {0})
one n s b = if b then Ends Spent s else Goes tt (spend n s)

taken : (n : ℕ) (s : State) (b : Bool) → SameBare s (one n s b) (one n (bare s) b)
unfolding one
taken n s true = refl
taken n s false = (refl, refl)

pub natural_take : (n : ℕ) → Natural (take n)
unfolding take one
natural_take n = record { at = λ s. taken n s (nat_lt s.world.units n) }

natural_put : (line : ℕ) (r : Put Value) → Natural (put_or line r)
natural_put line (Ok v) = natural_pure v
natural_put line (Err e) = natural_ends _

pub natural_fits : (line : ℕ) (v : Value) → Natural (fits line v)
unfolding fits
natural_fits line v = natural_put line (limited v)

pub natural_sized : (line : ℕ) (v : Value) → Natural (sized line v)
unfolding sized
natural_sized line v =
    natural_then (fits line v) _ (natural_fits line v) (λ a. natural_then (take (units_of v)) (λ _. pure v) (natural_take (units_of v)) (λ b. natural_pure v))

natural_ok : (line : ℕ) (r : Result Value FaultKind) → Natural (ok_or line r)
natural_ok line (Ok v) = natural_pure v
natural_ok line (Err kind) = natural_ends _

pub natural_operation : (line : ℕ) (old : Value) (change : How) (right : Value) → Natural (operation line old change right)
natural_operation line old (how.By operator) right = natural_ok line (operate operator old right)
natural_operation line old how.Join right = natural_fits line (Value.Text (text_of old ++ text_of right))

-- such a step in one op, which puts its value on the stack
module _ (code : Code) (function : ℕ) (names : List Bytes) where
  pub natural_runs : (at : ℕ) (q : Meaning Value) → Natural q → (m : Machine) (stack : List Value) (callers : List Frame) (s : State)
      → ((k : ℕ) → run code (suc k) m ≡ gives (q (bare s)) (λ v t. run code k (record (machine code function names (at + 1) (v ∷ stack) callers s) { outside = t })))
      → Leads code m (q s) (λ k v t. run code k (machine code function names (at + 1) (v ∷ stack) callers t))
  unfolding variable
  natural_runs at q h m stack callers s g = by_result (q s) (q (bare s)) (h.at s) g
    where
      by_result : (r r' : Outcome Value) → SameBare s r r' → ((k : ℕ) → run code (suc k) m ≡ gives r' (λ v t. run code k (record (machine code function names (at + 1) (v ∷ stack) callers s) { outside = t })))
          → Leads code m r (λ k v t. run code k (machine code function names (at + 1) (v ∷ stack) callers t))
      by_result (Goes v t) r' e g = leads_step code (Goes v t)
          (λ k. g k ∙ ap (λ x. gives x (λ v u. run code k (record (machine code function names (at + 1) (v ∷ stack) callers s) { outside = u }))) e.0
          ∙ ap (λ own. run code k (record (machine code function names (at + 1) (v ∷ stack) callers s) { frame = record { function = function; place = at + 1; stack = v ∷ stack; slots = map own names }; outside = bare t })) (sym e.1))
          (leads_at_once code (λ k. refl))
      by_result (Ends x t) r' e g = leads_end code (Ends x t) (λ k. g 0 ∙ ap (λ y. gives y (λ v u. run code 0 (record (machine code function names (at + 1) (v ∷ stack) callers s) { outside = u }))) e)
      by_result Unfinished r' e g = record { by = λ k. (0, tt) }
