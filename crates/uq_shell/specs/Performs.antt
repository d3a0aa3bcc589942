-- What running a code does to where a run stands.
use Rattle.std.specs.Prelude.{◌≡◌, ◌≤◌, ℕ, ◌+◌, ◌*◌, ◌++◌, List, [], length, take, slice_get, Option, Some, None, Result, Ok, Err}
use Rattle.std.specs.List.{flat_map}
use Rattle.uq_outside.specs.Streams.{Grows}
use Rattle.uq_outside.specs.declared.sink.Sink.{Ghosts}
use Rattle.uq_model.specs.IsStore.{AreLimits}
use Rattle.uq_model.specs.declared.limits.Limits.{Limits}
use Rattle.uq_words.specs.Options.{most_budget}
use Rattle.jx9_vm.specs.declared.stop.StopCause.{StopCause}
use Rattle.jx9_vm.specs.declared.stop.StopCause.TheVariants as cause
use Rattle.uq_shell.specs.Events.{Event, Out, bytes_of, output}
use Rattle.uq_shell.specs.Headline.{SinkRose}
use Rattle.uq_shell.specs.Line.{last_byte}
use Rattle.uq_shell.specs.Scripts.{Played}
use Rattle.uq_shell.specs.declared.failure.Failure.{Failure}
use Rattle.uq_shell.specs.declared.progress.Progress.{Progress}
use Rattle.uq_shell.specs.declared.progress.Stop.{Stop}
use Rattle.uq_shell.specs.declared.progress.Stop.TheVariants.{At, Sink}
use Rattle.uq_shell.specs.declared.status.Status.TheVariants.{Memory}
use Rattle.uq_shell.specs.declared.terms.Terms.{Terms}

-- the terms of a run over a store with these limits
pub record AreWithin (terms : Terms) (limits : Limits) : Type 0 where
  pub of_store : terms.limits ≡ limits
  pub are_limits : AreLimits terms.limits
  pub budget : terms.budget ≤ most_budget

-- ---- events

-- the last byte of some, or of those before
abbrev pub last_of : Option ℕ → Option ℕ → Option ℕ
last_of before None = before
last_of before (Some byte) = Some byte

-- so many events more, of which this is the last byte
abbrev pub Passes : ℕ → Option ℕ → Progress → Progress → Type 0
Passes events last was now = now ≡ record { done = was.done + events; last = last_of was.last last; is_refused = was.is_refused; meter = was.meter }

-- ---- a run of a code

-- by what a run ends in which a script is stopped: a base in memory stops it for want of memory alone
abbrev pub stop_by : StopCause → Stop
stop_by (cause.Base stop) = At Memory
stop_by cause.Sink = Sink
stop_by cause.Memory = At Memory

module _ {O : Type 0} (o : Ghosts O) where
  -- All of its events are done.
  pub record Performed (it : Played) (was now : Progress) (out_old out_new : O) (failure : Option Failure) : Type 0 where
    pub failure_is : failure ≡ it.failure
    pub progress : now ≡ record {
      done = was.done + length it.events;
      last = last_of was.last (last_byte (flat_map bytes_of it.events));
      is_refused = was.is_refused;
      meter = was.meter + it.units;
    }
    pub written : Grows (flat_map bytes_of it.events) (o.written out_old) (o.written out_new)
    pub quiet : o.faults out_new ≡ o.faults out_old
    -- a unit comes with two events at most
    pub few : length it.events ≤ 2 * most_budget
    pub few_units : it.units ≤ most_budget

  -- It was stopped behind the first of its events. Where the sink failed, it did so within the next.
  pub record IsStopped (it : Played) (was now : Progress) (out_old out_new : O) (stop : Stop) : Type 0 where
    pub count : ℕ
    pub inside : count ≤ length it.events
    pub done : now.done ≡ was.done + count
    pub refused : now.is_refused ≡ was.is_refused
    pub later : o.faults out_old ≤ o.faults out_new
    -- for want of memory: nothing of another event was put out
    pub memory : (stop ≡ Sink → ⊥) → stop ≡ At Memory
    pub last : (stop ≡ Sink → ⊥) → now.last ≡ last_of was.last (last_byte (output count it.events))
    pub written : (stop ≡ Sink → ⊥) → Grows (output count it.events) (o.written out_old) (o.written out_new)
    pub quiet : (stop ≡ Sink → ⊥) → o.faults out_new ≡ o.faults out_old
    -- by the sink
    pub part : stop ≡ Sink → (event : List ℕ) × (n : ℕ) × (slice_get it.events count ≡ Some (Out event))
        × Grows (output count it.events ++ take n event) (o.written out_old) (o.written out_new) × SinkRose o out_old out_new

  abbrev pub PerformsBy : Result (Option Failure) Stop → Played → Progress → Progress → O → O → Type 0
  PerformsBy (Ok failure) it was now out_old out_new = Performed it was now out_old out_new failure
  PerformsBy (Err stop) it was now out_old out_new = IsStopped it was now out_old out_new stop
