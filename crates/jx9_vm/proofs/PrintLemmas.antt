-- Prints.
use Rattle.std.proofs.Common.{◌≡◌, ℕ, ◌+◌, ◌-◌, ◌^◌, ◌<◌, Bool, true, false, [], ◌∷◌, ◌++◌, Option, Some, refl, sym, ap, ◌∙◌, subst, arith, length, take, reverse, Result, Ok, Err, IfOk}
use Rattle.std.specs.Prelude.{IfErr, nat_lt}
use Rattle.uq_value.specs.Data.{Bytes}
use Rattle.uq_json.specs.Text.{text_of}
use Rattle.uq_outside.specs.Streams.{Grows}
use Rattle.uq_model.specs.declared.cause.BaseStop.{BaseStop}
use Rattle.jx9_meaning.specs.Meaning.{most_events, tell}
use Rattle.jx9_meaning.specs.Meaning as meaning
use Rattle.jx9_meaning.specs.Script.{ended}
use Rattle.jx9_meaning.specs.World.{State, Out, with_event}
use Rattle.jx9_compile.specs.Machine.{Machine, below, on, ops_of, with_outside, with_stack}
use Rattle.jx9_compile.specs.Run.{Next as Follows, act, gives, run}
use Rattle.jx9_compile.specs.declared.code.Code.{Code}
use Rattle.jx9_compile.specs.declared.op.Op.{Op}
use Rattle.jx9_compile.specs.declared.op.Op.TheVariants.{Print}
use Rattle.jx9_vm.specs.declared.ending.Ending.TheVariants.{Spent}
use Rattle.jx9_vm.specs.declared.stop.StopCause.{StopCause}
use Rattle.jx9_vm.specs.declared.stop.StopCause.TheVariants.{Base, Sink, Memory}
use Rattle.jx9_vm.specs.declared.work.Flow.{Flow}
use Rattle.jx9_vm.specs.declared.work.Work.{Work}
use Rattle.jx9_vm.specs.Events.{having, last_in}
use Rattle.jx9_vm.specs.Moves.{IsPopped, Unmade}
use Rattle.jx9_vm.specs.Step.{Acts, DoesSome, Fails, IsPut, Misses, Prints, puts_out, is_full}
use Rattle.jx9_vm.specs.Work.{around, machine_of, stack_of, top_of}
use Rattle.jx9_vm.proofs.EventLemmas.{grows_not, nothing_more}
use Rattle.jx9_vm.proofs.JumpLemmas.{less_is, not_less}
use Rattle.jx9_vm.proofs.Reaching.{did_end, less_ahead, same_around, same_machine, stands, zero_more}
use Rattle.jx9_vm.proofs.Turns.{told}

module _ (code : Code) (old : Work) where
  abbrev text : Bytes
  text = text_of (top_of old)

  -- what a print does, once it is known whether there is room for its event
  prints : (next : Follows) (t : State) (b : Bool) → nat_lt (length t.events) most_events ≡ b
      → act code next (Some Print) (machine_of old t)
      ≡ gives (told (Out text) (around old t) b)
      (λ _ s. next (with_stack (below (stack_of old)) (on (with_outside s (machine_of old t)))))
  unfolding tell
  prints next t b is =
      ap (λ x. gives (told (Out text) (around old t) x)
      (λ _ s. next (with_stack (below (stack_of old)) (on (with_outside s (machine_of old t)))))) is

  with_room : (t : State) → old.events < 2 ^ 64 - 1 → old.events ≡ length t.events → nat_lt (length t.events) most_events ≡ true
  with_room t room is = less_is (length t.events) most_events (omega (arith, room, is))

  -- the machine behind it
  abbrev pub printed : State → Machine
  printed t = stands old.function (old.place + 1) (below (stack_of old)) old.slots.here old.calls.items old.stack.under old.slots.under old.units (having (t.events ++ Out text ∷ []) t)

  pub prints_to : (next : Follows) (t : State) → old.events < 2 ^ 64 - 1 → old.events ≡ length t.events
      → act code next (Some Print) (machine_of old t) ≡ next (printed t)
  unfolding with_event
  prints_to next t room is = prints next t true (with_room t room is)

  pub print_did : (flow : Flow) (new : Work) (w w' : Option Bytes) → old.place < length (ops_of code old.function) → Prints flow old new w w'
      → DoesSome code (Acts code Print) flow old new w w'
  print_did flow new w w' there (puts_out bytes p grows) =
      subst (λ (f : Flow). DoesSome code (Acts code Print) f old new w w') (sym p.next) (
        Out bytes ∷ [],
        record {
          units = omega (arith, p.units);
          events = p.events;
          last = p.last ∙ ap (last_in old.last) (sym (nothing_more bytes));
          bytes = subst (λ b. Grows b w w') (sym (nothing_more bytes)) grows;
          saves = λ store. refl;
          falls = λ going. less_ahead code old new p.function there (omega (arith, p.place)) (ap (λ x. x.items) p.calls) (omega (arith, p.units));
          leads = λ t is. (
            0,
            λ k. ap (λ n. act code (run code n) (Some Print) (machine_of old t)) (zero_more k)
                ∙ prints_to (run code k) t p.room is
                ∙ ap (λ b. run code k (stands old.function (old.place + 1) (below (stack_of old)) old.slots.here old.calls.items old.stack.under old.slots.under old.units (having (t.events ++ Out b ∷ []) t))) (sym p.text)
                ∙ ap (run code k) (same_machine (having (t.events ++ Out bytes ∷ []) t) (sym p.function) (sym p.place) (sym p.stack) (ap (λ x. x.here) (sym p.slots))
                (ap (λ x. x.items) (sym p.calls)) (sym p.under) (ap (λ x. x.under) (sym p.slots)) (sym p.units)),
          );
        },
      )
  print_did flow new w w' there (is_full full quits same) =
      subst (λ (v : Option Bytes). DoesSome code (Acts code Print) flow old new w v) (sym same)
      (did_end code Print Spent flow old new w quits.ends (omega (arith, quits.units)) quits.events quits.last (λ t is. (
        0,
        λ k. ap (λ n. act code (run code n) (Some Print) (machine_of old t)) (zero_more k)
            ∙ prints (run code k) t false (not_less (length t.events) most_events (omega (arith, full, is)))
            ∙ ap (λ s. Some (ended meaning.Spent s)) (sym (same_around old new t quits.calls quits.units)),
      )))

  -- a print that failed has its event under way
  pub print_fails : (new : Work) (w w' : Option Bytes) (f f' : ℕ) (cause : StopCause) → Misses text old new w w' f f' cause
      → Fails (Acts code Print) old new w w' f f' cause
  print_fails new w w' f f' cause misses = record {
    units = misses.units;
    events = misses.events;
    last = misses.last;
    under_way = Out text ∷ [];
    one = omega arith;
    bytes = (misses.front.0, subst (λ b. Grows (take misses.front.0 b) w w') (sym (nothing_more text)) misses.front.1);
    at_sink = λ h. (text, refl);
    still = misses.still;
    next = λ t e is same. (
      printed t,
      (0, λ k. ap (λ n. act code (run code n) (Some Print) (machine_of old t)) (zero_more k) ∙ prints_to (run code k) t misses.room same),
      ap (λ es. t.events ++ es) is,
    );
    later = misses.later;
    sink = misses.sink;
    quiet = misses.quiet;
    not_base = misses.not_base;
  }

-- what is put out is the text that was popped
pub printed_by : (bytes : Bytes) (old mid new : Work) (w w' : Option Bytes) (r : Result Flow StopCause) → bytes ≡ text_of (top_of old) → IsPopped old mid
    → IfOk r (λ flow. IsPut bytes flow mid new) → IfOk r (λ flow. Grows bytes w w') → IfOk r (λ flow. Prints flow old new w w')
printed_by bytes old mid new w w' (Ok flow) is popped put grows = puts_out bytes (record {
  room = omega (arith, put.room, popped.events);
  text = is;
  next = put.next;
  function = put.function ∙ popped.function;
  place = omega (arith, put.place, popped.place);
  stack = ap (λ x. reverse x.here) put.stack ∙ popped.stack;
  under = ap (λ x. x.under) put.stack ∙ popped.under;
  slots = put.slots ∙ popped.slots;
  calls = put.calls ∙ popped.calls;
  units = put.units ∙ popped.units;
  events = omega (arith, put.events, popped.events);
  last = put.last ∙ ap (λ l. last_in l bytes) popped.last;
}) grows
printed_by bytes old mid new w w' (Err cause) is popped put grows = put

pub missed_by : (bytes : Bytes) (old mid new : Work) (w w' : Option Bytes) (f f' : ℕ) (r : Result Flow StopCause) → bytes ≡ text_of (top_of old) → IsPopped old mid
    → IfErr r (Misses bytes mid new w w' f f') → IfErr r (Misses (text_of (top_of old)) old new w w' f f')
missed_by bytes old mid new w w' f f' (Ok flow) is popped misses = misses
missed_by bytes old mid new w w' f f' (Err cause) is popped misses = record {
  room = omega (arith, misses.room, popped.events);
  units = omega (arith, misses.units, popped.units);
  events = misses.events ∙ popped.events;
  last = misses.last ∙ popped.last;
  front = (misses.front.0, subst (λ b. Grows (take misses.front.0 b) w w') is misses.front.1);
  still = misses.still;
  later = misses.later;
  sink = misses.sink;
  quiet = misses.quiet;
  not_base = misses.not_base;
}

-- an op that found no memory has made nothing
pub memory_fails : (code : Code) (op : Op) (old new : Work) (w : Option Bytes) (f : ℕ) (cause : StopCause) → Unmade old new cause
    → Fails (Acts code op) old new w w f f cause
memory_fails code op old new w f cause unmade = record {
  units = unmade.units;
  events = unmade.events;
  last = unmade.last;
  under_way = [];
  one = omega arith;
  bytes = (0, grows_not w);
  at_sink = λ h. absurd (memory_alone (sym unmade.memory ∙ h));
  still = λ h. refl;
  next = λ t e nothing same. absurd (let x : ⊥ = cc in x);
  later = omega arith;
  sink = λ h. absurd (memory_alone (sym unmade.memory ∙ h));
  quiet = λ h. refl;
  not_base = λ stop h. memory_not_base stop (sym unmade.memory ∙ h);
}
  where
    memory_alone : ◌≡◌ {A = StopCause} Memory Sink → ⊥
    memory_alone h = cc

    memory_not_base : (stop : BaseStop) → ◌≡◌ {A = StopCause} Memory (Base stop) → ⊥
    memory_not_base stop h = cc
