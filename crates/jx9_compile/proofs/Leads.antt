-- The machine goes on as the meaning does.
use Rattle.std.proofs.Common.{◌≡◌, ℕ, suc, ◌+◌, List, [], ◌∷◌, Some, refl, sym, ap, ◌∙◌, subst}
use Rattle.std.specs.Prelude.{Bool, true, false, if◌then◌else◌, map, slice_get, nat_lt, Result, Ok, Err}
use Rattle.uq_value.specs.Data.{Bytes}
use Rattle.uq_value.specs.declared.value.Value.{Value}
use Rattle.jx9_meaning.specs.Meaning.{Spent, Fault, Meaning, Outcome, Goes, Ends, Unfinished, after, ◌>>◌, ok_or, spend, take}
use Rattle.jx9_meaning.specs.Script.{ended}
use Rattle.jx9_meaning.specs.World.{State, variable, no_variables}
use Rattle.jx9_meaning.specs.declared.fault.FaultKind.{FaultKind}
use Rattle.jx9_compile.specs.Machine.{Frame, Machine, ops_of}
use Rattle.jx9_compile.specs.Run.{Result', gives, act, run}
use Rattle.jx9_compile.specs.declared.code.Code.{Code}
use Rattle.jx9_compile.specs.declared.op.Op.{Op}
use Rattle.jx9_compile.specs.declared.op.Op.TheVariants.{Unit as OneUnit}

-- A run is what follows an outcome of the meaning: the rest where it goes on, the end where it ends. Of an unfinished outcome
-- nothing is said.
abbrev pub Follows : {A : Type 0} → Outcome A → (A → State → Result') → Result' → Type 0
Follows (Goes a s) rest o = o ≡ rest a s
Follows (Ends e s) rest o = o ≡ Some (ended e s)
Follows Unfinished rest o = Unit {0}

-- the variables live in slots
abbrev pub bare : State → State
bare s = record s { own = no_variables }

-- values on the stack, the last on top
abbrev pub above : List Value → List Value → List Value
above [] stack = stack
above (v ∷ vs) stack = above vs (v ∷ stack)

-- a fact on the value, where there is one
abbrev pub Holds : {A : Type 0} → (A → Type 0) → Outcome A → Type 0
Holds P (Goes a s) = P a
Holds P (Ends e s) = Unit {0}
Holds P Unfinished = Unit {0}

pub holds_then : {A B : Type 0} (P : B → Type 0) (r : Outcome A) (f : A → Meaning B) → ((a : A) (s : State) → Holds P (f a s)) → Holds P (after r f)
holds_then P (Goes a s) f h = h a s
holds_then P (Ends e s) f h = tt
holds_then P Unfinished f h = tt

pub holds_map : {A B : Type 0} (P : A → Type 0) (Q : B → Type 0) (r : Outcome A) (g : A → B) → ((a : A) → P a → Q (g a)) → Holds P r
    → Holds Q (after r (λ a t. Goes (g a) t))
holds_map P Q (Goes a s) g h p = h a p
holds_map P Q (Ends e s) g h p = tt
holds_map P Q Unfinished g h p = tt

module _ (code : Code) where
  -- However many ops the rest makes, with some number of ops the machine does what the meaning does and then the rest.
  pub record Leads {A : Type 0} (m : Machine) (r : Outcome A) (rest : ℕ → A → State → Result') : Type 0 where
    pub by : (k : ℕ) → (j : ℕ) × Follows r (rest k) (run code j m)

  -- in no op
  pub leads_at_once : {A : Type 0} {m : Machine} {a : A} {s : State} {rest : ℕ → A → State → Result'}
      → ((k : ℕ) → run code k m ≡ rest k a s) → Leads m (Goes a s) rest
  leads_at_once h = record { by = λ k. (k, h k) }

  -- one op first
  pub leads_step : {A : Type 0} {m m' : Machine} (r : Outcome A) {rest : ℕ → A → State → Result'}
      → ((k : ℕ) → run code (suc k) m ≡ run code k m') → Leads m' r rest → Leads m r rest
  leads_step r {rest = rest} h l = record { by = λ k. let a = l.by k in (suc a.0, subst (Follows r (rest k)) (sym (h a.0)) a.1) }

  -- one op that ends the script
  pub leads_end : {A : Type 0} {m : Machine} {rest : ℕ → A → State → Result'} (r : Outcome A)
      → ((k : ℕ) → Follows r (rest k) (run code 1 m)) → Leads m r rest
  leads_end r h = record { by = λ k. (1, h k) }

  -- one thing after another
  pub leads_then : {A B : Type 0} {m : Machine} (r : Outcome A) (f : A → State → Outcome B) {mid : ℕ → A → State → Result'} {rest : ℕ → B → State → Result'}
      → Leads m r mid → ((a : A) (s : State) → (k : ℕ) → (j : ℕ) × Follows (f a s) (rest k) (mid j a s)) → Leads m (after r f) rest
  leads_then (Goes a s) f {rest = rest} l g = record { by = λ k. let b = g a s k in let c = l.by b.0 in (c.0, subst (Follows (f a s) (rest k)) (sym c.1) b.1) }
  leads_then (Ends e s) f l g = record { by = λ k. l.by 0 }
  leads_then Unfinished f l g = record { by = λ k. (0, tt) }

  -- and then some ops that the meaning knows nothing of
  pub leads_on : {A : Type 0} {m : Machine} (r : Outcome A) {mid rest : ℕ → A → State → Result'}
      → Leads m r mid → ((k : ℕ) (a : A) (s : State) → (j : ℕ) × (mid j a s ≡ rest k a s)) → Leads m r rest
  leads_on (Goes a s) l g = record { by = λ k. let b = g k a s in let c = l.by b.0 in (c.0, c.1 ∙ b.1) }
  leads_on (Ends e s) l g = record { by = λ k. l.by 0 }
  leads_on Unfinished l g = record { by = λ k. (0, tt) }

  -- the same, with a fact on the value
  pub leads_then_where : {A B : Type 0} {m : Machine} (P : A → Type 0) (r : Outcome A) (f : A → State → Outcome B) {mid : ℕ → A → State → Result'} {rest : ℕ → B → State → Result'}
      → Holds P r → Leads m r mid → ((a : A) → P a → (s : State) → (k : ℕ) → (j : ℕ) × Follows (f a s) (rest k) (mid j a s)) → Leads m (after r f) rest
  leads_then_where P (Goes a s) f {rest = rest} h l g = record { by = λ k. let b = g a h s k in let c = l.by b.0 in (c.0, subst (Follows (f a s) (rest k)) (sym c.1) b.1) }
  leads_then_where P (Ends e s) f h l g = record { by = λ k. l.by 0 }
  leads_then_where P Unfinished f h l g = record { by = λ k. (0, tt) }

  -- ---- in a function with these names for its slots

  module _ (function : ℕ) (names : List Bytes) where
    -- the machine is a function of the meaning's state
    abbrev pub machine : ℕ → List Value → List Frame → State → Machine
    machine at stack callers s = record {
      frame = record { function = function; place = at; stack = stack; slots = map (λ name. variable name s) names };
      callers = callers;
      outside = bare s;
    }

    abbrev pub HasOp : ℕ → Op → Type 0
    HasOp at op = slice_get (ops_of code function) at ≡ Some op

    pub step : (at : ℕ) (op : Op) (stack : List Value) (callers : List Frame) (s : State) → HasOp at op
        → (k : ℕ) → run code (suc k) (machine at stack callers s) ≡ act code (run code k) (Some op) (machine at stack callers s)
    step at op stack callers s h k = ap (λ o. act code (run code k) o (machine at stack callers s)) h

    -- a unit, and then the rest
    pub unit_runs : {A : Type 0} (at line : ℕ) (q : Meaning A) {rest : ℕ → A → State → Result'} (stack : List Value) (callers : List Frame) (s : State)
        → HasOp at (OneUnit line) → ((t : State) → Leads (machine (at + 1) stack callers t) (q t) rest)
        → Leads (machine at stack callers s) ((take 1 >> q) s) rest
    unfolding take variable
    unit_runs at line q {rest = rest} stack callers s h go = by_units (nat_lt s.world.units 1) (step at (OneUnit line) stack callers s h)
      where
        one : Bool → State → Outcome (Unit {0})
        one b s = if b then Ends Spent s else Goes tt (spend 1 s)

        by_units : (b : Bool)
            → ((k : ℕ) → run code (suc k) (machine at stack callers s) ≡ gives (one b (bare s)) (λ _ t. run code k (record (machine (at + 1) stack callers s) { outside = t })))
            → Leads (machine at stack callers s) (after (one b s) (λ _. q)) rest
        by_units true h = leads_end (Ends Spent s) (λ k. h 0)
        by_units false h = leads_step (q (spend 1 s)) h (go (spend 1 s))

    -- a checked result, put on the stack
    pub checked_runs : (at line : ℕ) (r : Result Value FaultKind) (m : Machine) (stack : List Value) (callers : List Frame) (s : State)
        → ((k : ℕ) → run code (suc k) m ≡ gives (ok_or line r (bare s)) (λ v t. run code k (record (machine (at + 1) (v ∷ stack) callers s) { outside = t })))
        → Leads m (ok_or line r s) (λ k v t. run code k (machine (at + 1) (v ∷ stack) callers t))
    checked_runs at line (Ok v) m stack callers s h = leads_step (Goes v s) h (leads_at_once (λ k. refl))
    checked_runs at line (Err kind) m stack callers s h = leads_end (Ends (Fault kind line) s) (λ k. h 0)
