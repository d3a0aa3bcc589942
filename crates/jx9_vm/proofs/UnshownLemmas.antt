-- Ops with a `Pop` behind them.
use Rattle.std.proofs.Common.{◌≡◌, ℕ, ◌+◌, ◌-◌, ◌≤◌, Bool, true, false, List, ◌∷◌, ◌++◌, Option, Some, None, Ok, Err, refl, sym, ap, ◌∙◌, subst, arith, reverse}
use Rattle.std.specs.Bool.{MatchBool}
use Rattle.std.specs.Prelude.{nat_lt, slice_get, slice_set, unwrap_or, ℤ}
use Rattle.std.proofs.lemmas.List.{reverse-reverse, set-set}
use Rattle.uq_value.specs.Data.{Bytes}
use Rattle.uq_value.specs.Put.{limited}
use Rattle.uq_value.specs.Size.{most_size, text_size}
use Rattle.uq_value.specs.declared.value.Value.{Value}
use Rattle.uq_json.specs.Text.{text_of}
use Rattle.jx9_syntax.specs.declared.expression.Binary.{Binary}
use Rattle.jx9_syntax.specs.declared.expression.Step.{Step}
use Rattle.jx9_meaning.specs.Expression.{shown}
use Rattle.jx9_meaning.specs.Meaning.{units_of}
use Rattle.jx9_meaning.specs.Operators.{Checked, operate}
use Rattle.jx9_meaning.specs.declared.fault.FaultKind.{FaultKind}
use Rattle.jx9_meaning.specs.declared.fault.FaultKind.TheVariants as fault
use Rattle.jx9_compile.specs.Machine.{below}
use Rattle.jx9_vm.specs.declared.ending.Ending.TheVariants.{Fault, Spent}
use Rattle.jx9_vm.specs.declared.work.Flow.{Flow}
use Rattle.jx9_vm.specs.declared.work.Flow.TheVariants.{Next, Ends}
use Rattle.jx9_vm.specs.declared.work.Work.{Work}
use Rattle.jx9_vm.specs.Layered.{Layered}
use Rattle.jx9_vm.specs.Moves.{Appends, ChangesBy, Counts, IsKept, IsPopped, IsTaken, Passes, Quits, Skips, Stepped, Unshown, after_step, is_appended}
use Rattle.jx9_vm.specs.Work.{slot_of, stack_of, top_of}
use Rattle.jx9_vm.proofs.Outcomes.{on_false, on_true}
use Rattle.jx9_vm.proofs.WorkLemmas.{text_fits}

-- the machine between an op and the `Pop` behind it
abbrev pub between : Work → ℕ → List Value → List Value → Work
between old left values variables = record old {
  place = old.place + 1;
  stack = record { under = old.stack.under; here = reverse values };
  slots = record { under = old.slots.under; here = variables };
  units = left;
}

module _ (old new : Work) (flow : Flow) (left : ℕ) (v : Value) (values variables : List Value) (skips : Skips flow left values variables old new) where
  pub comes : Passes Next left (v ∷ values) variables old (between old left (v ∷ values) variables)
  comes = record {
    next = refl;
    function = refl;
    place = refl;
    stack = reverse-reverse (v ∷ values);
    under = refl;
    slots = refl;
    slots_under = refl;
    calls = refl;
    units = refl;
    events = refl;
    last = refl;
  }

  pub goes : Passes Next left (below (stack_of (between old left (v ∷ values) variables))) variables (between old left (v ∷ values) variables) new
  goes = record {
    next = refl;
    function = skips.function;
    place = omega (arith, skips.place);
    stack = skips.stack ∙ ap below (sym (reverse-reverse (v ∷ values)));
    under = skips.under;
    slots = skips.slots;
    slots_under = skips.slots_under;
    calls = skips.calls;
    units = skips.units;
    events = skips.events;
    last = skips.last;
  }

  pub drops : (Moves : Flow → Work → Work → Type 0) → (Passes Next left (v ∷ values) variables old (between old left (v ∷ values) variables)
      → Moves Next old (between old left (v ∷ values) variables)) → Unshown Moves flow old new
  drops Moves made = subst (λ (f : Flow). Unshown Moves f old new) (sym skips.next) (record {
    between = between old left (v ∷ values) variables;
    function = refl;
    place = refl;
    made = made comes;
    dropped = goes;
  })

-- an op that leads to the same machines
pub unshown_map : (Moves Others : Flow → Work → Work → Type 0) (flow : Flow) (old new : Work)
    → ((f : Flow) (w : Work) → Moves f old w → Others f old w) → Unshown Moves flow old new → Unshown Others flow old new
unshown_map Moves Others Next old new same drops = record {
  between = drops.between;
  function = drops.function;
  place = drops.place;
  made = same Next drops.between drops.made;
  dropped = drops.dropped;
}
unshown_map Moves Others (Ends ending) old new same moves = same (Ends ending) new moves

-- ---- numbers that are counted

module _ (old new : Work) (line slot : ℕ) (step : Step) where
  pub counts_unshown : (flow : Flow) (v : Value) (n : Option ℤ) → Ok v ≡ after_step step n
      → Skips flow old.units (stack_of old) (slice_set old.slots.here slot v) old new → Unshown (Counts line slot step n) flow old new
  counts_unshown flow v None gives skips = absurd (let f : ⊥ = cc in f)
  counts_unshown flow v (Some z) gives skips =
      drops old new flow old.units (shown step (Value.Int z) v) (stack_of old) (slice_set old.slots.here slot v) skips (Counts line slot step (Some z))
      (λ passes. subst (λ r. Stepped line slot step z r Next old (between old old.units (shown step (Value.Int z) v ∷ stack_of old) (slice_set old.slots.here slot v))) gives passes)

  pub no_step : (kind : FaultKind) (n : Option ℤ) → Err kind ≡ after_step step n → Quits (Fault kind line) (Ends (Fault kind line)) old new
      → Unshown (Counts line slot step n) (Ends (Fault kind line)) old new
  no_step kind None gives quits =
      let is : kind ≡ fault.NotNumber = cc in
      subst (λ (k : FaultKind). Quits (Fault k line) (Ends (Fault kind line)) old new) is quits
  no_step kind (Some z) gives quits = subst (λ r. Stepped line slot step z r (Ends (Fault kind line)) old new) gives quits

-- ---- variables that an operator changes

module _ (old mid new : Work) (line slot : ℕ) (flow : Flow) (popped : IsPopped old mid) where
  -- over a stack whose top was taken off first
  skips_after : (left : ℕ) (v : Value) → Skips flow left (stack_of mid) (slice_set mid.slots.here slot v) mid new
      → Skips flow left (below (stack_of old)) (slice_set old.slots.here slot v) old new
  skips_after left v skips = record {
    next = skips.next;
    function = skips.function ∙ popped.function;
    place = skips.place ∙ ap (λ n. n + 2) popped.place;
    stack = skips.stack ∙ popped.stack;
    under = skips.under ∙ popped.under;
    slots = skips.slots ∙ ap (λ l. slice_set l.here slot v) popped.slots;
    slots_under = skips.slots_under ∙ ap (λ l. l.under) popped.slots;
    calls = skips.calls ∙ popped.calls;
    units = skips.units;
    events = skips.events ∙ popped.events;
    last = skips.last ∙ popped.last;
  }

  pub changes_unshown : (v : Value) (r : Checked) → Ok v ≡ r → limited v ≡ Ok v
      → Skips flow mid.units (stack_of mid) (slice_set mid.slots.here slot v) mid new → Unshown (ChangesBy line slot r) flow old new
  changes_unshown v r is within skips =
      let same : Skips flow old.units (below (stack_of old)) (slice_set old.slots.here slot v) old new =
      subst (λ n. Skips flow n (below (stack_of old)) (slice_set old.slots.here slot v) old new) popped.units (skips_after mid.units v skips) in
      drops old new flow old.units v (below (stack_of old)) (slice_set old.slots.here slot v) same (ChangesBy line slot r)
      (λ passes. subst (λ x. ChangesBy line slot x Next old (between old old.units (v ∷ below (stack_of old)) (slice_set old.slots.here slot v))) is (within, passes))

-- from the stack and the slots after the top was taken off
pub operated_after : (old mid : Work) (slot : ℕ) (operator : Binary) (v right : Value) → IsPopped old mid → right ≡ top_of old
    → Ok v ≡ operate operator (slot_of mid slot) right → Ok v ≡ operate operator (slot_of old slot) (top_of old)
operated_after old mid slot operator v right popped is gives =
    gives
    ∙ ap (λ (l : Layered). operate operator (unwrap_or (slice_get l.here slot) Value.Null) right) popped.slots
    ∙ ap (operate operator (slot_of old slot)) is

-- ---- texts that grow

module _ (old mid new : Work) (line slot : ℕ) (flow : Flow) (taken : IsTaken slot old mid) where
  kept_after : (left : ℕ) (v : Value) → Skips flow left (stack_of mid) (slice_set mid.slots.here slot v) mid new
      → Skips flow left (below (stack_of old)) (slice_set old.slots.here slot v) old new
  kept_after left v skips = record {
    next = skips.next;
    function = skips.function ∙ taken.function;
    place = skips.place ∙ ap (λ n. n + 2) taken.place;
    stack = skips.stack ∙ taken.stack;
    under = skips.under ∙ taken.under;
    slots = skips.slots ∙ ap (λ vs. slice_set vs slot v) taken.slots ∙ set-set old.slots.here slot Value.Null v;
    slots_under = skips.slots_under ∙ taken.slots_under;
    calls = skips.calls ∙ taken.calls;
    units = skips.units;
    events = skips.events ∙ taken.events;
    last = skips.last ∙ taken.last;
  }

  -- by whether there are units
  by_units : (v : Value) (b : Bool) → nat_lt old.units (units_of v) ≡ b → limited v ≡ Ok v
      → MatchBool b (Quits Spent flow mid new) (Skips flow (mid.units - units_of v) (stack_of mid) (slice_set mid.slots.here slot v) mid new)
      → Unshown (Appends line slot v) flow old new
  by_units v true test within quits =
      subst (λ (f : Flow). Unshown (Appends line slot v) f old new) (sym quits.ends)
      (is_appended within (on_true _ (nat_lt old.units (units_of v)) test (record {
        ends = refl;
        calls = quits.calls ∙ ap (λ x. x.items) taken.calls;
        units = quits.units ∙ taken.units;
        events = quits.events ∙ taken.events;
        last = quits.last ∙ taken.last;
      })))
  by_units v false test within skips =
      let same : Skips flow (old.units - units_of v) (below (stack_of old)) (slice_set old.slots.here slot v) old new =
      subst (λ n. Skips flow (n - units_of v) (below (stack_of old)) (slice_set old.slots.here slot v) old new) taken.units (kept_after (mid.units - units_of v) v skips) in
      drops old new flow (old.units - units_of v) v (below (stack_of old)) (slice_set old.slots.here slot v) same (Appends line slot v)
      (λ passes. is_appended within (on_false _ (nat_lt old.units (units_of v)) test passes))

  appends_unshown : (v : Value) → limited v ≡ Ok v → IsKept slot v flow mid new → Unshown (Appends line slot v) flow old new
  appends_unshown v within kept =
      by_units v (nat_lt old.units (units_of v)) refl within
      (subst (λ n. MatchBool (nat_lt n (units_of v)) (Quits Spent flow mid new) (Skips flow (mid.units - units_of v) (stack_of mid) (slice_set mid.slots.here slot v) mid new)) taken.units kept)

  module _ (bytes : Bytes) (is : bytes ≡ text_of (slot_of old slot) ++ text_of (top_of old)) where
    pub text_unshown : text_size bytes ≤ most_size → IsKept slot (Value.Text bytes) flow mid new
        → Unshown (Appends line slot (Value.Text (text_of (slot_of old slot) ++ text_of (top_of old)))) flow old new
    text_unshown small kept =
        subst (λ bs. Unshown (Appends line slot (Value.Text bs)) flow old new) is (appends_unshown (Value.Text bytes) (text_fits bytes small) kept)
