-- Texts that are joined, sized or put out, and the first slots of a call.
use Rattle.std.proofs.Common.{◌≡◌, ℕ, ◌+◌, ◌-◌, ◌<◌, ◌≤◌, min, List, [], ◌∷◌, ◌++◌, Bool, true, false, suc, Option, Some, Ok, Err, refl, sym, ap, ◌∙◌, subst, append_assoc, arith, drop, take, length, replicate, reverse}
use Rattle.std.specs.Prelude.{if◌then◌else◌, nat_lt, slice_get, slice_set, unwrap_or}
use Rattle.std.specs.Bool.{MatchBool}
use Rattle.std.specs.Option.{option_or}
use Rattle.std.proofs.Math.Bool.{beq}
use Rattle.std.proofs.lemmas.Bool.{le-ltb, lt-ltb}
use Rattle.uq_value.specs.Data.{Bytes}
use Rattle.uq_value.specs.Faults.{TextFault}
use Rattle.uq_value.specs.Put.{Put, limited}
use Rattle.uq_value.specs.Same.{alike}
use Rattle.uq_value.specs.Size.{most_size, text_size}
use Rattle.uq_value.specs.declared.error.ValueFault.{ValueFault}
use Rattle.uq_value.specs.declared.error.ValueFault.TheVariants.{IndexRange, Memory, NotContainer, TooDeep, TooLarge}
use Rattle.uq_value.specs.declared.value.Value.{Value}
use Rattle.uq_json.specs.Text.{text_of}
use Rattle.jx9_meaning.specs.Expression.{joined}
use Rattle.jx9_compile.specs.Machine.{first_slots}
use Rattle.jx9_compile.specs.Run.{arguments}
use Rattle.jx9_compile.specs.declared.function.Function.{Function}
use Rattle.jx9_meaning.specs.Meaning.{units_of}
use Rattle.jx9_meaning.specs.declared.fault.FaultKind.TheVariants as fault
use Rattle.jx9_vm.specs.declared.ending.Ending.TheVariants.{Fault, Spent}
use Rattle.jx9_vm.specs.declared.work.Flow.{Flow}
use Rattle.jx9_vm.specs.declared.work.Work.{Work}
use Rattle.jx9_vm.specs.Events.{last_in}
use Rattle.jx9_vm.specs.Layered.{Layered}
use Rattle.jx9_vm.specs.Moves.{Appends, IsPaidFor, IsPopped, IsSized, IsWritten, Passes, Pays, Quits, Sizes, is_appended, outgrows}
use Rattle.jx9_vm.specs.Work.{joined_top, slot_of, stack_of, top_of}
use Rattle.jx9_vm.proofs.LayerLemmas.{filled, rest_under, values_above}

-- a text by its size alone
pub text_fits : (bs : Bytes) → text_size bs ≤ most_size → limited (Value.Text bs) ≡ Ok (Value.Text bs)
text_fits bs h = ap (λ b. if b then Err TooLarge else Ok (Value.Text bs)) (le-ltb most_size (text_size bs) h)

pub text_too_large : (bs : Bytes) → most_size < text_size bs → limited (Value.Text bs) ≡ Err TooLarge
text_too_large bs h = ap (λ b. if b then Err TooLarge else Ok (Value.Text bs)) (lt-ltb most_size (text_size bs) h)

-- the last byte of a text
pub last_is : (before : Option ℕ) (bs : Bytes) → option_or (slice_get bs (length bs - 1)) before ≡ last_in before bs
last_is before [] = refl
last_is before (b ∷ []) = refl
last_is before (b ∷ c ∷ cs) =
    ap (λ n. option_or (slice_get (b ∷ c ∷ cs) n) before) (let e : length (b ∷ c ∷ cs) - 1 ≡ suc (length (c ∷ cs) - 1) = omega arith in e)
    ∙ last_is before (c ∷ cs)

pub alike_by : (a b : Bool) → beq a b ≡ true → alike b a ≡ true
alike_by true true same = refl
alike_by true false same = same
alike_by false true same = same
alike_by false false same = refl

-- a list that counts as empty
pub none_there : {A : Type 0} (xs : List A) → length xs ≡ 0 → xs ≡ []
none_there [] is = refl
none_there (x ∷ xs) is = absurd (omega arith)

-- one value more
pub joined_append : (vs : List Value) (v : Value) → joined (vs ++ v ∷ []) ≡ joined vs ++ text_of v
joined_append [] v = nothing_behind (text_of v)
  where
    nothing_behind : (bs : Bytes) → bs ++ [] ≡ bs
    nothing_behind [] = refl
    nothing_behind (b ∷ bs) = ap (λ cs. b ∷ cs) (nothing_behind bs)
joined_append (w ∷ ws) v = ap (λ bs. text_of w ++ bs) (joined_append ws v) ∙ sym (append_assoc (text_of w) (joined ws) (text_of v))

-- the first slots of a call, as they are made of its caller's upper values
pub first_slots_are : (f : Function) (o : Option Function) (count kept : ℕ) (here : List Value) → o ≡ Some f → kept ≡ min f.params f.slots
    → take kept (drop (length here - count) here) ++ replicate (f.slots - length (take kept (drop (length here - count) here))) Value.Null
    ≡ first_slots o (arguments count (reverse here))
first_slots_are f o count kept here is few =
    ap (λ k. take k (drop (length here - count) here) ++ replicate (f.slots - length (take k (drop (length here - count) here))) Value.Null) few
    ∙ ap (λ vs. take (min f.params f.slots) vs ++ replicate (f.slots - length (take (min f.params f.slots) vs)) Value.Null) (values_above count here)
    ∙ sym (filled f.slots f.params (arguments count (reverse here)) Value.Null)
    ∙ ap (λ g. first_slots g (arguments count (reverse here))) (sym is)

-- ---- sized values

-- a value on top of what is left of a stack
pays_after : (old new : Work) (left : Layered) (flow : Flow) (rest : List Value) (v : Value) → left.under ≡ old.stack.under → reverse left.here ≡ rest
    → Pays (reverse left.here) v flow (record old { stack = left }) new → Pays rest v flow old new
pays_after old new left flow rest v under is pays = by (nat_lt old.units (units_of v)) pays
  where
    by : (b : Bool)
        → MatchBool b (Quits Spent flow (record old { stack = left }) new)
        (Passes flow (old.units - units_of v) (v ∷ reverse left.here) old.slots.here (record old { stack = left }) new)
        → MatchBool b (Quits Spent flow old new) (Passes flow (old.units - units_of v) (v ∷ rest) old.slots.here old new)
    by true quits = record { ends = quits.ends; calls = quits.calls; units = quits.units; events = quits.events; last = quits.last }
    by false passes = record {
      next = passes.next;
      function = passes.function;
      place = passes.place;
      stack = passes.stack ∙ ap (λ vs. v ∷ vs) is;
      under = passes.under ∙ under;
      slots = passes.slots;
      slots_under = passes.slots_under;
      calls = passes.calls;
      units = passes.units;
      events = passes.events;
      last = passes.last;
    }

-- the fault of a text that was not made, where memory was not wanting
pub is_too_large : (bs : Bytes) (f : ValueFault) → TextFault bs f → (f ≡ Memory → ⊥) → most_size < text_size bs
is_too_large bs Memory h there = absurd (there refl)
is_too_large bs TooLarge h there = h
is_too_large bs NotContainer h there = absurd h
is_too_large bs IndexRange h there = absurd h
is_too_large bs TooDeep h there = absurd h

module _ (old new : Work) (count line : ℕ) (flow : Flow) (bytes : Bytes) (is : bytes ≡ joined_top count old) where
  pub joined_fits : (text : Bytes) (left : Layered) → text ≡ bytes → text_size bytes ≤ most_size → left.under ≡ old.stack.under
      → left.here ≡ take (length old.stack.here - count) old.stack.here
      → Pays (reverse left.here) (Value.Text text) flow (record old { stack = left }) new
      → IsSized line (drop count (stack_of old)) (Value.Text (joined_top count old)) flow old new
  joined_fits text left same small under here pays =
      let above : reverse left.here ≡ drop count (stack_of old) = ap reverse here ∙ rest_under count old.stack.here in
      subst (λ (bs : Bytes). IsSized line (drop count (stack_of old)) (Value.Text bs) flow old new) is
      (subst (λ (p : Put Value). Sizes line (drop count (stack_of old)) (Value.Text bytes) p flow old new) (sym (text_fits bytes small))
      (subst (λ (bs : Bytes). Pays (drop count (stack_of old)) (Value.Text bs) flow old new) same
      (pays_after old new left flow (drop count (stack_of old)) (Value.Text text) under above pays)))

  pub joined_too_large : most_size < text_size bytes → Quits (Fault fault.TooLarge line) flow old new
      → IsSized line (drop count (stack_of old)) (Value.Text (joined_top count old)) flow old new
  joined_too_large large quits =
      subst (λ (bs : Bytes). IsSized line (drop count (stack_of old)) (Value.Text bs) flow old new) is
      (subst (λ (p : Put Value). Sizes line (drop count (stack_of old)) (Value.Text bytes) p flow old new) (sym (text_too_large bytes large)) quits)

-- the texts of the upper values
pub joined_above : (count : ℕ) (w : Work) (vs : List Value) → vs ≡ drop (length w.stack.here - count) w.stack.here → joined vs ≡ joined_top count w
joined_above count w vs is = ap joined (is ∙ values_above count w.stack.here)

-- ---- texts that an operator changes

-- over a stack whose top was taken off first
pub paid_after : (old mid new : Work) (slot : ℕ) (v : Value) (flow : Flow) → IsPopped old mid → IsPaidFor slot v flow mid new
    → MatchBool (nat_lt old.units (units_of v)) (Quits Spent flow old new) (IsWritten slot (old.units - units_of v) v flow old new)
paid_after old mid new slot v flow popped paid =
    subst (λ (n : ℕ). MatchBool (nat_lt n (units_of v)) (Quits Spent flow old new) (IsWritten slot (n - units_of v) v flow old new)) popped.units
    (by (nat_lt mid.units (units_of v)) paid)
  where
    by : (b : Bool)
        → MatchBool b (Quits Spent flow mid new) (Passes flow (mid.units - units_of v) (v ∷ stack_of mid) (slice_set mid.slots.here slot v) mid new)
        → MatchBool b (Quits Spent flow old new) (IsWritten slot (mid.units - units_of v) v flow old new)
    by true quits = record {
      ends = quits.ends;
      calls = quits.calls ∙ ap (λ x. x.items) popped.calls;
      units = quits.units ∙ popped.units;
      events = quits.events ∙ popped.events;
      last = quits.last ∙ popped.last;
    }
    by false passes = record {
      next = passes.next;
      function = passes.function ∙ popped.function;
      place = passes.place ∙ ap (λ n. n + 1) popped.place;
      stack = passes.stack ∙ ap (λ vs. v ∷ vs) popped.stack;
      under = passes.under ∙ popped.under;
      slots = passes.slots ∙ ap (λ (l : Layered). slice_set l.here slot v) popped.slots;
      slots_under = passes.slots_under ∙ ap (λ (l : Layered). l.under) popped.slots;
      calls = passes.calls ∙ popped.calls;
      units = passes.units;
      events = passes.events ∙ popped.events;
      last = passes.last ∙ popped.last;
    }

module _ (old mid new : Work) (line slot : ℕ) (flow : Flow) (bytes : Bytes) (popped : IsPopped old mid)
    (is : bytes ≡ text_of (slot_of old slot) ++ text_of (top_of old)) where
  pub appended : (text : Bytes) → text ≡ bytes → text_size bytes ≤ most_size → IsPaidFor slot (Value.Text text) flow mid new
      → Appends line slot (Value.Text (text_of (slot_of old slot) ++ text_of (top_of old))) flow old new
  appended text same small paid =
      subst (λ (bs : Bytes). Appends line slot (Value.Text bs) flow old new) is
      (is_appended (text_fits bytes small)
      (paid_after old mid new slot (Value.Text bytes) flow popped (subst (λ (bs : Bytes). IsPaidFor slot (Value.Text bs) flow mid new) same paid)))

  pub appended_too_large : most_size < text_size bytes → Quits (Fault fault.TooLarge line) flow old new
      → Appends line slot (Value.Text (text_of (slot_of old slot) ++ text_of (top_of old))) flow old new
  appended_too_large large quits =
      subst (λ (bs : Bytes). Appends line slot (Value.Text bs) flow old new) is (outgrows (text_too_large bytes large) quits)

-- from the stack and the slots after the top was taken off
pub text_after : (old mid : Work) (slot : ℕ) (right : Value) → IsPopped old mid → right ≡ top_of old
    → text_of (slot_of mid slot) ++ text_of right ≡ text_of (slot_of old slot) ++ text_of (top_of old)
text_after old mid slot right popped is =
    ap (λ (l : Layered). text_of (unwrap_or (slice_get l.here slot) Value.Null) ++ text_of right) popped.slots
    ∙ ap (λ v. text_of (slot_of old slot) ++ text_of v) is
