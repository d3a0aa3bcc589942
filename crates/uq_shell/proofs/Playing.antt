-- A code is run: what its run is in that of the program.
use Rattle.std.proofs.Common.{◌≡◌, ◌≤◌, ◌<◌, ℕ, zero, suc, ◌+◌, ◌*◌, ◌-◌, ◌^◌, min, List, [], ◌∷◌, ◌++◌, length, map, take, Option, Some, None, Result, Ok, Err, inl, inr, refl, sym, ap, subst, ◌∙◌, arith, append-nil, append_assoc, length-append}
use Rattle.std.proofs.lemmas.List.{length-map, take_all, take_at, take-append-le, take-map}
use Rattle.std.proofs.lemmas.List.Concat.{flat_map-append}
use Rattle.std.specs.Prelude.{slice_get}
use Rattle.std.specs.List.{flat_map}
use Rattle.uq_facts.specs.Causes.{Rose}
use Rattle.uq_outside.specs.Streams.{Grows}
use Rattle.uq_outside.specs.declared.sink.Sink.{Ghosts}
use Rattle.uq_model.specs.Base.{Shown}
use Rattle.uq_model.specs.Map.{session_in, shown_by}
use Rattle.uq_model.specs.Session.{Session, opened}
use Rattle.uq_model.specs.Store.{Store, empty}
use Rattle.uq_model.specs.declared.limits.Limits.{Limits}
use Rattle.uq_model.specs.declared.map_base.MapBase.{MapBase}
use Rattle.uq_kv.specs.Stored.{Stored}
use Rattle.uq_words.specs.Options.{most_budget}
use Rattle.jx9_meaning.specs.Laws.{EndsWell}
use Rattle.jx9_meaning.specs.Meaning as meaning
use Rattle.jx9_meaning.specs.Script.{Ended, Source, script}
use Rattle.jx9_meaning.specs.World.{World, world_of}
use Rattle.jx9_meaning.specs.World as world
use Rattle.jx9_compile.specs.Correct.{Behaves}
use Rattle.jx9_compile.specs.Run.{CodeRun}
use Rattle.jx9_compile.specs.declared.code.Code.{Code}
use Rattle.jx9_vm.specs.Events.{last_in}
use Rattle.jx9_vm.specs.Events as machine
use Rattle.jx9_vm.specs.Exec.{IsRaised, Runs, SinkCause, Stopped, used_by, world_over}
use Rattle.jx9_vm.specs.Laws.{MeansItsScripts}
use Rattle.jx9_vm.specs.Step.{meant}
use Rattle.jx9_vm.specs.declared.ending.Ending.{Ending}
use Rattle.jx9_vm.specs.declared.ending.Ending.TheVariants as ending
use Rattle.jx9_vm.specs.declared.stop.Ran.{Ran}
use Rattle.jx9_vm.specs.declared.stop.Stop as machine_stop
use Rattle.jx9_vm.specs.declared.stop.StopCause.{StopCause}
use Rattle.jx9_vm.specs.declared.stop.StopCause.TheVariants as cause
use Rattle.uq_shell.specs.Events.{Event, Out, bytes_of, last_commit, output}
use Rattle.uq_shell.specs.Failures.{failure_of}
use Rattle.uq_shell.specs.Line.{last_byte}
use Rattle.uq_shell.specs.Performs.{IsStopped, Passes, Performed, PerformsBy, last_of, stop_by}
use Rattle.uq_shell.specs.Scripts.{Played, fresh, played, plays, shown, taken_by}
use Rattle.uq_shell.specs.declared.failure.Failure.{Failure}
use Rattle.uq_shell.specs.declared.progress.Progress.{Progress}
use Rattle.uq_shell.specs.declared.progress.Stop.{Stop}
use Rattle.uq_shell.specs.declared.progress.Stop.TheVariants.{At, Sink}
use Rattle.uq_shell.specs.declared.status.Status.TheVariants.{Memory}
use Rattle.uq_shell.specs.declared.terms.Terms.{Terms}
use Rattle.uq_shell.proofs.Doing.{event_next}

-- ---- the last byte

last_some : (byte : ℕ) (bytes : List ℕ) → last_in (Some byte) bytes ≡ last_byte (byte ∷ bytes)
last_some byte [] = refl
last_some byte (next ∷ bytes) = last_some next bytes

last_is : (bytes : List ℕ) → last_in None bytes ≡ last_byte bytes
last_is [] = refl
last_is (byte ∷ bytes) = last_some byte bytes

none_of : (last : Option ℕ) → last_of None last ≡ last
none_of None = refl
none_of (Some byte) = refl

-- where there are some bytes they have a last one
some_last : (before : Option ℕ) (byte : ℕ) (bytes : List ℕ) → last_of before (last_byte (byte ∷ bytes)) ≡ last_byte (byte ∷ bytes)
some_last before byte [] = refl
some_last before byte (next ∷ bytes) = some_last before next bytes

-- of some bytes behind others
pub last_behind : (before bytes : List ℕ) → last_byte (before ++ bytes) ≡ last_of (last_byte before) (last_byte bytes)
last_behind [] bytes = sym (none_of (last_byte bytes))
last_behind (byte ∷ []) [] = refl
last_behind (byte ∷ []) (next ∷ bytes) = sym (some_last (Some byte) next bytes)
last_behind (byte ∷ next ∷ before) bytes = last_behind (next ∷ before) bytes

-- ---- events of a script

shown_bytes : (events : List world.Event) → flat_map bytes_of (map shown events) ≡ machine.bytes_of events
shown_bytes [] = refl
shown_bytes (world.Out bytes ∷ events) = ap (λ (l : List ℕ). bytes ++ l) (shown_bytes events)
shown_bytes (world.Commit store ∷ events) = shown_bytes events
shown_bytes (world.Host name vs ∷ events) = shown_bytes events

-- the first of them are those before others
shown_front : (events more : List world.Event) → take (length events) (map shown (events ++ more)) ≡ map shown events
shown_front [] more = refl
shown_front (event ∷ events) more = ap (λ (l : List Event). shown event ∷ l) (shown_front events more)

shown_append : (events more : List world.Event) → map shown (events ++ more) ≡ map shown events ++ map shown more
shown_append [] more = refl
shown_append (event ∷ events) more = ap (λ (l : List Event). shown event ∷ l) (shown_append events more)

-- they commit nothing
abbrev pub SavesNone : List Event → Type 0
SavesNone events = (entry : Stored) (before : List Event) (k : ℕ) → last_commit entry (before ++ take k events) ≡ last_commit entry before

no_commit : (entry : Stored) (events : List world.Event) (k : ℕ) → last_commit entry (take k (map shown events)) ≡ entry
no_commit entry [] zero = refl
no_commit entry [] (suc k) = refl
no_commit entry (event ∷ events) zero = refl
no_commit entry (world.Out bytes ∷ events) (suc k) = no_commit entry events k
no_commit entry (world.Commit store ∷ events) (suc k) = no_commit entry events k
no_commit entry (world.Host name vs ∷ events) (suc k) = no_commit entry events k

shown_saves : (events : List world.Event) → SavesNone (map shown events)
shown_saves events entry [] k = no_commit entry events k
shown_saves events entry (Event.Out bytes ∷ before) k = shown_saves events entry before k
shown_saves events entry (Event.Commit later ∷ before) k = shown_saves events later before k

nothing_saves : SavesNone []
nothing_saves entry [] zero = refl
nothing_saves entry [] (suc k) = refl
nothing_saves entry (Event.Out bytes ∷ before) k = nothing_saves entry before k
nothing_saves entry (Event.Commit later ∷ before) k = nothing_saves later before k

played_saves : (budget : ℕ) (ended : Option Ended) → SavesNone (played budget ended).events
played_saves budget None = nothing_saves
played_saves budget (Some ended) = shown_saves ended.events

pub plays_saves : (terms : Terms) (source : Source) → SavesNone (plays terms source).events
plays_saves terms source = played_saves terms.budget (script source (fresh terms))

-- ---- units

used_is : (end : Ending) (budget left : ℕ) → used_by end budget left ≡ taken_by (meant end) budget left
used_is ending.Done budget left = refl
used_is (ending.Fault kind line) budget left = refl
used_is ending.Spent budget left = refl

used_within : (end : Ending) (budget left : ℕ) → used_by end budget left ≤ budget
used_within ending.Done budget left = omega arith
used_within (ending.Fault kind line) budget left = omega arith
used_within ending.Spent budget left = omega arith

taken_within : (end : meaning.Ending) (budget left : ℕ) → taken_by end budget left ≤ budget
taken_within meaning.Done budget left = omega arith
taken_within (meaning.Fault kind line) budget left = omega arith
taken_within meaning.Spent budget left = omega arith
taken_within (meaning.HostFailed name) budget left = omega arith
taken_within meaning.Unanswered budget left = omega arith

-- the meter does not stand yet
raised_is : (by old new : ℕ) → by ≤ most_budget → old < 2 ^ 120 → IsRaised by old new → new ≡ old + by
raised_is by old new within few raised = omega (arith, within, few, raised)

-- ---- the run of a code

module _ {O : Type 0} (o : Ghosts O) (terms : Terms) (source : Source) (code : Code) (behaves : Behaves source code) (means : MeansItsScripts code) (ends : EndsWell source (fresh terms)) (budget : terms.budget ≤ most_budget)
    (base : MapBase) (new_base : session_in base ≡ opened empty) (limits_are : (shown_by base).limits ≡ terms.limits) (was : Progress) (few : was.meter < 2 ^ 120) where
  world_is : world_over (shown_by base) (opened empty) terms.budget ≡ fresh terms
  world_is = ap (λ (l : Limits). world_of (opened empty) l terms.budget [] []) limits_are

  script_is : (ended : Ended) → CodeRun code (world_over (shown_by base) (opened empty) terms.budget) ended → script source (fresh terms) ≡ Some ended
  script_is ended runs = means source behaves (fresh terms) ended (subst (λ (w : World). CodeRun code w ended) world_is runs)

  plays_is : (ended : Ended) → CodeRun code (world_over (shown_by base) (opened empty) terms.budget) ended → plays terms source ≡ played terms.budget (Some ended)
  plays_is ended runs = ap (played terms.budget) (script_is ended runs)

  -- the base tells the session of an empty store
  tells_new : (shown_by base).tells (opened empty)
  tells_new = sym new_base

  -- after so many units
  abbrev metered : ℕ → Progress
  metered meter = record { done = was.done; last = was.last; is_refused = was.is_refused; meter = meter }

  module _ (ended : Ended) (runs : CodeRun code (world_over (shown_by base) (opened empty) terms.budget) ended) where
    few_events : length (played terms.budget (Some ended)).events ≤ 2 * most_budget
    few_events =
        let same : ended ≡ ends.ended = let both : Some ended ≡ Some ends.ended = sym (script_is ended runs) ∙ ends.is_script in cc in
        let count : length (map shown ended.events) ≡ length ended.events = length-map ended.events shown in
        let least : length ended.events + 2 * ended.world.units ≤ 2 * terms.budget = subst (λ (e : Ended). length e.events + 2 * e.world.units ≤ 2 * terms.budget) (sym same) ends.events in
        omega arith

    few_taken : (played terms.budget (Some ended)).units ≤ most_budget
    few_taken = let within = taken_within ended.ending terms.budget ended.world.units in omega arith

  pub performed : (now_base : Shown) (ran : Ran) (meter : ℕ) (x z : O) (now : Progress) (failure : Option Failure) → Runs code terms.budget (shown_by base) now_base (o.written x) (o.written z) was.meter meter ran
      → o.faults z ≡ o.faults x → Passes ran.events ran.last (metered meter) now → failure ≡ failure_of (meant ran.ending) → Performed o (plays terms source) was now x z failure
  performed now_base ran meter x z now failure runs quiet passes failure_is =
      let told = runs.told (opened empty) tells_new in
      let it : Played = played terms.budget (Some told.ended) in
      let count : length (map shown told.ended.events) ≡ length told.ended.events = length-map told.ended.events shown in
      let bytes : flat_map bytes_of (map shown told.ended.events) ≡ machine.bytes_of runs.events = shown_bytes told.ended.events ∙ ap machine.bytes_of told.events_are in
      let events : ran.events ≡ length it.events = runs.count ∙ sym (ap length told.events_are) ∙ sym count in
      let last : ran.last ≡ last_byte (flat_map bytes_of it.events) = runs.last ∙ last_is (machine.bytes_of runs.events) ∙ ap last_byte (sym bytes) in
      let used : used_by ran.ending terms.budget told.ended.world.units ≡ it.units
      = used_is ran.ending terms.budget told.ended.world.units ∙ ap (λ (e : meaning.Ending). taken_by e terms.budget told.ended.world.units) (sym told.ending) in
      let within = used_within ran.ending terms.budget told.ended.world.units in
      let units : meter ≡ was.meter + it.units = raised_is (used_by ran.ending terms.budget told.ended.world.units) was.meter meter (omega arith) few told.units ∙ ap (λ (n : ℕ). was.meter + n) used in
      subst (λ (p : Played). Performed o p was now x z failure) (sym (plays_is told.ended told.runs)) (record {
        failure_is = failure_is ∙ ap failure_of (sym told.ending);
        progress =
            passes ∙ ap (λ (n : ℕ). record { done = was.done + n; last = last_of was.last ran.last; is_refused = was.is_refused; meter = meter }) events
            ∙ ap (λ (l : Option ℕ). record { done = was.done + length it.events; last = last_of was.last l; is_refused = was.is_refused; meter = meter }) last
            ∙ ap (λ (n : ℕ). record { done = was.done + length it.events; last = last_of was.last (last_byte (flat_map bytes_of it.events)); is_refused = was.is_refused; meter = n }) units;
        written = subst (λ (l : List ℕ). Grows l (o.written x) (o.written z)) (sym bytes) runs.bytes;
        quiet = quiet;
        few = few_events told.ended told.runs;
        few_units = few_taken told.ended told.runs;
      })

  -- ---- it was stopped

  memory_by : (why : StopCause) → (stop_by why ≡ Sink → ⊥) → stop_by why ≡ At Memory
  memory_by (cause.Base stop) other = refl
  memory_by cause.Sink other = absurd (other refl)
  memory_by cause.Memory other = refl

  sink_by : (why : StopCause) → stop_by why ≡ Sink → why ≡ cause.Sink
  sink_by (cause.Base stop) is = absurd (cc)
  sink_by cause.Sink is = refl
  sink_by cause.Memory is = absurd (cc)

  not_sink : (why : StopCause) → (stop_by why ≡ Sink → ⊥) → why ≡ cause.Sink → ⊥
  not_sink why other is = other (ap stop_by is)

  pub stopped : (now_base : Shown) (stop : machine_stop.Stop) (meter : ℕ) (x z : O) (now : Progress)
      → Stopped code terms.budget (shown_by base) now_base (o.written x) (o.written z) (o.faults x) (o.faults z) was.meter meter stop → SinkCause (o.faults x) (o.faults z) (Err stop)
      → Passes stop.events stop.last (metered meter) now → IsStopped o (plays terms source) was now x z (stop_by stop.cause)
  stopped now_base stop meter x z now stops sink passes =
      let told = stops.told (opened empty) tells_new in
      let it : Played = played terms.budget (Some told.ended) in
      let rest : told.ended.events ≡ stops.events ++ (stops.under_way ++ told.front.0) = told.front.1 ∙ append_assoc stops.events stops.under_way told.front.0 in
      let all : it.events ≡ map shown (stops.events ++ (stops.under_way ++ told.front.0)) = ap (map shown) rest in
      let count : length (map shown told.ended.events) ≡ length told.ended.events = length-map told.ended.events shown in
      let whole : length told.ended.events ≡ length stops.events + length (stops.under_way ++ told.front.0)
      = ap length rest ∙ length-append stops.events (stops.under_way ++ told.front.0) in
      let done_front : take (length stops.events) it.events ≡ map shown stops.events = ap (take (length stops.events)) all ∙ shown_front stops.events (stops.under_way ++ told.front.0) in
      let bytes : output (length stops.events) it.events ≡ machine.bytes_of stops.events = ap (flat_map bytes_of) done_front ∙ shown_bytes stops.events in
      let last : stop.last ≡ last_byte (output (length stops.events) it.events) = stops.last ∙ last_is (machine.bytes_of stops.events) ∙ ap last_byte (sym bytes) in
      subst (λ (p : Played). IsStopped o p was now x z (stop_by stop.cause)) (sym (plays_is told.ended told.runs)) (record {
        count = length stops.events;
        inside = omega arith;
        done = ap (λ (p : Progress). p.done) passes ∙ ap (λ (n : ℕ). was.done + n) stops.count;
        refused = ap (λ (p : Progress). p.is_refused) passes;
        later = sink.later;
        memory = memory_by stop.cause;
        last = λ other. ap (λ (p : Progress). p.last) passes ∙ ap (last_of was.last) last;
        written = λ other. subst (λ (l : List ℕ). Grows l (o.written x) (o.written z)) (sym bytes) (stops.at_other (not_sink stop.cause other));
        quiet = λ other. sink.quiet_stop stop refl (not_sink stop.cause other);
        part = λ is.
            let failed = sink_by stop.cause is in
            let one = stops.at_sink failed in
            let text : List ℕ = one.0 in
            let event : it.events ≡ map shown stops.events ++ Out text ∷ map shown told.front.0
            = all ∙ shown_append stops.events (stops.under_way ++ told.front.0)
            ∙ ap (λ (l : List world.Event). map shown stops.events ++ map shown (l ++ told.front.0)) one.1 in
            let counted : length (map shown stops.events) ≡ length stops.events = length-map stops.events shown in
            let put : machine.bytes_of stops.events ++ take stops.bytes.0 (machine.bytes_of stops.under_way) ≡ output (length stops.events) it.events ++ take stops.bytes.0 text
            = ap (λ (l : List ℕ). l ++ take stops.bytes.0 (machine.bytes_of stops.under_way)) (sym bytes)
            ∙ ap (λ (l : List ℕ). output (length stops.events) it.events ++ take stops.bytes.0 l) (ap machine.bytes_of one.1 ∙ append-nil text) in (
              text,
              stops.bytes.0,
              ap (λ (l : List Event). slice_get l (length stops.events)) event ∙ event_next (map shown stops.events) (map shown told.front.0) (Out text) (length stops.events) counted,
              subst (λ (l : List ℕ). Grows l (o.written x) (o.written z)) put stops.bytes.1,
              stops.reason.sink failed,
            );
      })
