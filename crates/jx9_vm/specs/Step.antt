-- Steps of the machine against those of a code's run, and how far a run of steps has come.
use Rattle.std.specs.Prelude.{◌≡◌, ℕ, ◌+◌, ◌-◌, ◌^◌, ◌<◌, ◌≤◌, List, [], ◌∷◌, ◌++◌, length, take, Option, Some, None}
use Rattle.uq_facts.specs.Causes.{Rose}
use Rattle.uq_value.specs.Data.{Bytes}
use Rattle.uq_json.specs.Text.{text_of}
use Rattle.uq_outside.specs.Streams.{Grows}
use Rattle.uq_model.specs.declared.cause.BaseStop.{BaseStop}
use Rattle.uq_model.specs.Store.{Store}
use Rattle.jx9_meaning.specs.Laws.{last_saved}
use Rattle.jx9_meaning.specs.Meaning as meaning
use Rattle.jx9_meaning.specs.Script.{Ended, ended}
use Rattle.jx9_meaning.specs.World.{State, Event, Out}
use Rattle.jx9_compile.specs.Machine.{Machine, below, top}
use Rattle.jx9_compile.specs.Run.{Result', act, run}
use Rattle.jx9_compile.specs.declared.code.Code.{Code}
use Rattle.jx9_compile.specs.declared.op.Op.{Op}
use Rattle.jx9_vm.specs.declared.ending.Ending.{Ending}
use Rattle.jx9_vm.specs.declared.ending.Ending.TheVariants.{Done, Fault, Spent}
use Rattle.jx9_vm.specs.declared.stop.StopCause.{StopCause}
use Rattle.jx9_vm.specs.declared.stop.StopCause.TheVariants.{Base, Sink}
use Rattle.jx9_vm.specs.declared.work.Flow.{Flow}
use Rattle.jx9_vm.specs.declared.work.Flow.TheVariants.{Next, Ends}
use Rattle.jx9_vm.specs.declared.work.Work.{Work}
use Rattle.jx9_vm.specs.Events.{bytes_of, having, last_in}
use Rattle.jx9_vm.specs.Moves.{Quits}
use Rattle.jx9_vm.specs.Work.{left_of, machine_of, stack_of}

-- the ending of a script as its meaning has it
abbrev pub meant : Ending → meaning.Ending
meant Done = meaning.Done
meant (Fault kind line) = meaning.Fault kind line
meant Spent = meaning.Spent

-- ---- prints

-- a text is put out: one event, and on to the next op
pub record IsPut (bytes : Bytes) (flow : Flow) (old new : Work) : Type 0 where
  pub room : old.events < 2 ^ 64 - 1
  pub next : flow ≡ Next
  pub function : new.function ≡ old.function
  pub place : new.place ≡ old.place + 1
  pub stack : new.stack ≡ old.stack
  pub slots : new.slots ≡ old.slots
  pub calls : new.calls ≡ old.calls
  pub units : new.units ≡ old.units
  pub events : new.events ≡ old.events + 1
  pub last : new.last ≡ last_in old.last bytes

-- the top is taken off first
pub record IsPrinted (bytes : Bytes) (flow : Flow) (old new : Work) : Type 0 where
  pub room : old.events < 2 ^ 64 - 1
  pub text : bytes ≡ text_of (top (stack_of old))
  pub next : flow ≡ Next
  pub function : new.function ≡ old.function
  pub place : new.place ≡ old.place + 1
  pub stack : stack_of new ≡ below (stack_of old)
  pub under : new.stack.under ≡ old.stack.under
  pub slots : new.slots ≡ old.slots
  pub calls : new.calls ≡ old.calls
  pub units : new.units ≡ old.units
  pub events : new.events ≡ old.events + 1
  pub last : new.last ≡ last_in old.last bytes

-- The top's text is put out, or the script ends, where its event would have too great a number.
pub data Prints (flow : Flow) (old new : Work) (written written' : Option Bytes) : Type 0 where
  puts_out : (bytes : Bytes) → IsPrinted bytes flow old new → Grows bytes written written' → Prints flow old new written written'
  is_full : old.events ≡ 2 ^ 64 - 1 → Quits Spent flow old new → written' ≡ written → Prints flow old new written written'

-- no event was made, and so much of these bytes was put out, nothing unless the sink failed
pub record Misses (bytes : Bytes) (old new : Work) (written written' : Option Bytes) (faults faults' : ℕ) (cause : StopCause) : Type 0 where
  pub room : old.events < 2 ^ 64 - 1
  pub units : new.units ≤ old.units
  pub events : new.events ≡ old.events
  pub last : new.last ≡ old.last
  pub front : (n : ℕ) × Grows (take n bytes) written written'
  pub still : (cause ≡ Sink → ⊥) → written' ≡ written
  pub later : faults ≤ faults'
  pub sink : cause ≡ Sink → Rose faults faults'
  pub quiet : (cause ≡ Sink → ⊥) → faults' ≡ faults
  pub not_base : (stop : BaseStop) → cause ≡ Base stop → ⊥

-- ---- steps

abbrev pub IsGoing : Flow → Type 0
IsGoing Next = Unit {0}
IsGoing (Ends ending) = ⊥

-- the rest of a run, of at most so many ops
abbrev pub arrives : Flow → Code → ℕ → Machine → Result'
arrives Next code k m = run code k m
arrives (Ends ending) code k m = Some (ended (meant ending) m.outside)

-- some ops lead from one machine to another, or to the end of the script
abbrev pub Reaches : Code → Flow → Machine → Machine → Type 0
Reaches code flow m n = (j : ℕ) × ((k : ℕ) → run code (j + k) m ≡ arrives flow code k n)

-- this op, with the ops that are made together with it
abbrev pub Acts : Code → Op → Flow → Machine → Machine → Type 0
Acts code op flow m n = (j : ℕ) × ((k : ℕ) → act code (run code (j + k)) (Some op) m ≡ arrives flow code k n)

-- A step made these events. `Leads` says how it leads from machine to machine.
pub record Did (code : Code) (Leads : Flow → Machine → Machine → Type 0) (made : List Event) (flow : Flow) (old new : Work)
    (written written' : Option Bytes) : Type 0 where
  pub units : new.units ≤ old.units
  pub events : new.events ≡ old.events + length made
  pub last : new.last ≡ last_in old.last (bytes_of made)
  pub bytes : Grows (bytes_of made) written written'
  pub saves : (store : Store) → last_saved store made ≡ store
  pub falls : IsGoing flow → left_of code new < left_of code old
  pub leads : (t : State) → old.events ≡ length t.events → Leads flow (machine_of old t) (machine_of new (having (t.events ++ made) t))

abbrev pub DoesSome : Code → (Flow → Machine → Machine → Type 0) → Flow → Work → Work → Option Bytes → Option Bytes → Type 0
DoesSome code Leads flow old new written written' = (made : List Event) × Did code Leads made flow old new written written'

-- one event, which puts out a text
abbrev pub IsOneOut : List Event → Type 0
IsOneOut events = (text : Bytes) × (events ≡ Out text ∷ [])

-- A step was stopped. It made no event; at most one was under way, some bytes of which may have been put out. Where the
-- sink failed that was a text, and else nothing was put out.
pub record Fails (Leads : Flow → Machine → Machine → Type 0) (old new : Work) (written written' : Option Bytes) (faults faults' : ℕ)
    (cause : StopCause) : Type 0 where
  pub units : new.units ≤ old.units
  pub events : new.events ≡ old.events
  pub last : new.last ≡ old.last
  pub under_way : List Event
  pub one : length under_way ≤ 1
  pub bytes : (n : ℕ) × Grows (take n (bytes_of under_way)) written written'
  pub at_sink : cause ≡ Sink → IsOneOut under_way
  pub still : (cause ≡ Sink → ⊥) → written' ≡ written
  pub next : (t : State) (e : Event) → under_way ≡ e ∷ [] → old.events ≡ length t.events
      → (m : Machine) × Leads Next (machine_of old t) m × (m.outside.events ≡ t.events ++ e ∷ [])
  pub later : faults ≤ faults'
  pub sink : cause ≡ Sink → Rose faults faults'
  pub quiet : (cause ≡ Sink → ⊥) → faults' ≡ faults
  pub not_base : (stop : BaseStop) → cause ≡ Base stop → ⊥

-- ---- runs of steps

-- how far a run has come: `flow` says whether it goes on
pub record At (code : Code) (flow : Flow) (first work : Work) (written written' : Option Bytes) : Type 0 where
  pub made : List Event
  pub units : work.units ≤ first.units
  pub events : work.events ≡ length made
  pub last : work.last ≡ last_in None (bytes_of made)
  pub bytes : Grows (bytes_of made) written written'
  pub saves : (store : Store) → last_saved store made ≡ store
  pub reaches : (t : State) → Reaches code flow (machine_of first (having [] t)) (machine_of work (having made t))

abbrev pub IsFront : List Event → List Event → Type 0
IsFront es fs = (more : List Event) × (fs ≡ es ++ more)

-- a run that was stopped
pub record Halted (code : Code) (first work : Work) (written written' : Option Bytes) (faults faults' : ℕ) (cause : StopCause) : Type 0 where
  pub made : List Event
  pub units : work.units ≤ first.units
  pub events : work.events ≡ length made
  pub last : work.last ≡ last_in None (bytes_of made)
  pub saves : (store : Store) → last_saved store made ≡ store
  pub under_way : List Event
  pub one : length under_way ≤ 1
  pub bytes : (n : ℕ) × Grows (bytes_of made ++ take n (bytes_of under_way)) written written'
  pub at_sink : cause ≡ Sink → IsOneOut under_way
  pub at_other : (cause ≡ Sink → ⊥) → Grows (bytes_of made) written written'
  pub front : (t : State) (e : Ended) (n : ℕ) → run code n (machine_of first (having [] t)) ≡ Some e → IsFront (made ++ under_way) e.events
  pub later : faults ≤ faults'
  pub sink : cause ≡ Sink → Rose faults faults'
  pub quiet : (cause ≡ Sink → ⊥) → faults' ≡ faults
  pub not_base : (stop : BaseStop) → cause ≡ Base stop → ⊥
