-- A run of a code behind the events that are done.
use Rattle.std.proofs.Common.{◌≡◌, ◌≤◌, ℕ, suc, ◌+◌, ◌*◌, ◌^◌, List, [], ◌∷◌, ◌++◌, length, take, Option, Some, None, Result, Ok, Err, refl, sym, ap, subst, ◌∙◌, arith, append-nil, append_assoc, length-append}
use Rattle.std.proofs.lemmas.List.{take_all}
use Rattle.std.proofs.lemmas.List.Concat.{flat_map-append}
use Rattle.std.specs.Prelude.{IsTrue, OnOk, slice_get}
use Rattle.std.specs.List.{flat_map}
use Rattle.uq_outside.specs.declared.disk.Disk as disk
use Rattle.uq_outside.specs.declared.sink.Sink as sink
use Rattle.uq_outside.specs.Files.{Files}
use Rattle.uq_outside.specs.Since.{LeavesOnly}
use Rattle.uq_outside.specs.SinceLaws.{weaker}
use Rattle.uq_outside.specs.Streams.{Grows}
use Rattle.uq_model.specs.declared.limits.Limits.{Limits}
use Rattle.uq_kv.specs.Holds.{RecoversTo}
use Rattle.uq_kv.specs.Kv.{closed_of, disk_of}
use Rattle.uq_kv.specs.KvLaws.{holds_saved}
use Rattle.uq_kv.specs.Stored.{Stored}
use Rattle.uq_kv.specs.declared.kv.Kv.{Kv}
use Rattle.uq_shell.specs.Commands.{fails_by}
use Rattle.uq_shell.specs.Events.{Event, Out, bytes_of, last_commit, output}
use Rattle.uq_shell.specs.Followed.{FollowedFiles, Last, RecoversIn}
use Rattle.uq_shell.specs.Headline.{SinkRose}
use Rattle.uq_shell.specs.Line.{last_byte}
use Rattle.uq_shell.specs.Obeys.{HasFew, MovesOn}
use Rattle.uq_shell.specs.Performs.{IsStopped, Performed, last_of}
use Rattle.uq_shell.specs.Reached.{CutShort, Reached, ReachedBy, Stands, Stops, is_of_command}
use Rattle.uq_shell.specs.Scripts.{Played}
use Rattle.uq_shell.specs.Stream.{State, failed_in, obeyed_in, performed_in, played_in}
use Rattle.uq_shell.specs.Verdicts.{IsRight, Judge}
use Rattle.uq_shell.specs.declared.failure.Failure.{Failure}
use Rattle.uq_shell.specs.declared.progress.Progress.{Progress}
use Rattle.uq_shell.specs.declared.progress.Stop.{Stop}
use Rattle.uq_shell.specs.declared.progress.Stop.TheVariants.{At, Sink}
use Rattle.uq_shell.specs.declared.status.Status.{Status}
use Rattle.uq_shell.specs.declared.status.Status.TheVariants.{Memory, NotDatabase}
use Rattle.uq_shell.proofs.Doing.{saved_more, taken}
use Rattle.uq_shell.proofs.Extending.{failed_extends}
use Rattle.uq_shell.proofs.Lines.{grows_on}
use Rattle.uq_shell.proofs.Moving.{cut_more}
use Rattle.uq_shell.proofs.Playing.{SavesNone, last_behind}

-- a script that is not run does nothing before its reply
pub performed_none : (state : State) (failure : Failure) → performed_in state (record { events = []; failure = Some failure; units = 0 }) ≡ state
performed_none state failure =
    ap (λ (l : List Event). record { events = l; desk = state.desk; is_refused = state.is_refused; units = state.units + 0 }) (append-nil state.events)
    ∙ ap (λ (n : ℕ). record { events = state.events; desk = state.desk; is_refused = state.is_refused; units = n }) (let e : state.units + 0 ≡ state.units = omega arith in e)

-- an event behind others
event_behind : (before more : List Event) (n k : ℕ) (event : Event) → length before ≡ n → slice_get more k ≡ Some event → slice_get (before ++ more) (n + k) ≡ Some event
event_behind [] more n k event count is = subst (λ (m : ℕ). slice_get more m ≡ Some event) (let e : k ≡ n + k = omega (arith, count) in e) is
event_behind (first ∷ before) more n k event count is =
    subst (λ (m : ℕ). slice_get (first ∷ (before ++ more)) m ≡ Some event) (let e : suc (length before + k) ≡ n + k = omega (arith, count) in e)
    (event_behind before more (length before) k event refl is)

-- the same last byte, told by progress
last_told : (before bytes : List ℕ) (last : Option ℕ) → last_byte before ≡ last → last_byte (before ++ bytes) ≡ last_of last (last_byte bytes)
last_told before bytes last is = last_behind before bytes ∙ ap (λ (l : Option ℕ). last_of l (last_byte bytes)) is

module _ {D O : Type 0} (g : disk.Ghosts D) (o : sink.Ghosts O) (it : Played) (saves : SavesNone it.events) (was : Progress) (kv : Kv D g) (x : O) where
  all_saves : (entry : Stored) (before : List Event) → last_commit entry (before ++ it.events) ≡ last_commit entry before
  all_saves entry before =
      sym (ap (λ (l : List Event). last_commit entry (before ++ l)) (take_all (length it.events) it.events (omega arith))) ∙ saves entry before (length it.events)

  -- ---- over every disk and sink

  pub stands_played : (now : Progress) (y : O) (failure : Option Failure) (disk_first : D) (x0 : O) → Performed o it was now x y failure → Stands g o was disk_first kv x0 x → Stands g o now disk_first kv x0 y
  stands_played now y failure disk_first x0 performed stands =
      let more : List ℕ = flat_map bytes_of it.events in
      let done : now.done ≡ was.done + length it.events = ap (λ (p : Progress). p.done) performed.progress in
      record {
        later = stands.later;
        quiet = performed.quiet ∙ stands.quiet;
        replies = stands.replies ++ more;
        written = grows_on stands.replies more (o.written x0) (o.written x) (o.written y) stands.written performed.written;
        ends = last_told stands.replies more was.last stands.ends ∙ sym (ap (λ (p : Progress). p.last) performed.progress);
        idle = λ none. stands.idle (omega (arith, done, none));
        kept = λ none. stands.kept (omega (arith, done, none));
      }

  pub stops_played : (stop : Stop) (now : Progress) (y : O) (disk_first : D) (x0 : O) → IsStopped o it was now x y stop → Stands g o was disk_first kv x0 x → Stops g o stop now disk_first (disk_of g kv).now x0 y
  stops_played (At status) now y disk_first x0 stopped stands =
      let put : List ℕ = output stopped.count it.events in
      let done = stopped.done in
      let before = stands.quiet in
      let later = stopped.later in
      let other : At status ≡ Sink → ⊥ = λ is. cc in
      record {
        later = stands.later;
        sink_later = omega arith;
        replies = stands.replies ++ put;
        written = grows_on stands.replies put (o.written x0) (o.written x) (o.written y) stands.written (stopped.written other);
        quiet = λ _ _. stopped.quiet other ∙ stands.quiet;
        ends = λ _ _. last_told stands.replies put was.last stands.ends ∙ sym (stopped.last other);
        rose = λ is. absurd (other is);
        disk = λ is. absurd (let same : At status ≡ At Memory = stopped.memory other in cc);
        kept = λ none. stands.kept (omega (arith, done, none));
      }
  stops_played Sink now y disk_first x0 stopped stands =
      let part = stopped.part refl in
      let put : List ℕ = output stopped.count it.events ++ take part.1 part.0 in
      let done = stopped.done in
      let before = stands.quiet in
      let later = stopped.later in
      let rose = part.4 in
      record {
        later = stands.later;
        sink_later = omega arith;
        replies = stands.replies ++ put;
        written = grows_on stands.replies put (o.written x0) (o.written x) (o.written y) stands.written part.3;
        quiet = λ _ is. absurd (cc);
        ends = λ _ is. absurd (cc);
        rose = λ _. rw (← before) rose;
        disk = λ is. absurd (cc);
        kept = λ none. stands.kept (omega (arith, done, none));
      }

  -- ---- over a store that tells its session

  module _ (entry : Stored) (state : State) (place : Option (List ℕ)) (disk_first : D) (x0 : O) (reached : Reached g o entry state was place disk_first kv x0 x) where
    abbrev events : List Event
    events = state.events ++ it.events

    out_is : (more : List Event) → flat_map bytes_of (state.events ++ more) ≡ flat_map bytes_of state.events ++ flat_map bytes_of more
    out_is more = flat_map-append bytes_of state.events more

    in_more : (more : List Event) (files : Files) → RecoversIn entry state.events files → RecoversIn entry (state.events ++ more) files
    in_more more files was_in = record { stored = was_in.stored; saved = saved_more entry was_in.stored state.events more was_in.saved; recovers = was_in.recovers }

    stop_more : (more : List Event) → LeavesOnly g disk_first (disk_of g kv).now (RecoversIn entry (state.events ++ more))
    stop_more more = weaker g (RecoversIn entry state.events) (RecoversIn entry (state.events ++ more)) disk_first (disk_of g kv).now (in_more more) reached.stop

    pub reached_played : (now : Progress) (y : O) (failure : Option Failure) → Performed o it was now x y failure → Reached g o entry (performed_in state it) now place disk_first kv x0 y
    reached_played now y failure performed =
        let more : List ℕ = flat_map bytes_of it.events in
        let before = reached.done in
        let both : length events ≡ length state.events + length it.events = length-append state.events it.events in
        let done : now.done ≡ was.done + length it.events = ap (λ (p : Progress). p.done) performed.progress in
        record {
          done = omega arith;
          last = ap last_byte (out_is it.events) ∙ last_told (flat_map bytes_of state.events) more was.last reached.last ∙ sym (ap (λ (p : Progress). p.last) performed.progress);
          refused = reached.refused ∙ sym (ap (λ (p : Progress). p.is_refused) performed.progress);
          units = ap (λ (n : ℕ). n + it.units) reached.units ∙ sym (ap (λ (p : Progress). p.meter) performed.progress);
          tells = reached.tells;
          cursor = reached.cursor;
          saved = all_saves entry state.events ∙ reached.saved;
          written = subst (λ (l : List ℕ). Grows l (o.written x0) (o.written y)) (sym (out_is it.events))
              (grows_on (flat_map bytes_of state.events) more (o.written x0) (o.written x) (o.written y) reached.written performed.written);
          quiet = performed.quiet ∙ reached.quiet;
          stop = stop_more it.events;
        }

    pub cut_played : (stop : Stop) (now : Progress) (y : O) → IsStopped o it was now x y stop → CutShort g o entry events stop now disk_first kv x0 y
    cut_played stop now y stopped =
        let before = reached.done in
        let inside = stopped.inside in
        let done = stopped.done in
        let both : length events ≡ length state.events + length it.events = length-append state.events it.events in
        let front : take now.done events ≡ state.events ++ take stopped.count it.events
        = ap (λ (n : ℕ). take n events) done ∙ taken state.events it.events was.done stopped.count reached.done in
        let next : take (now.done + 1) events ≡ state.events ++ take (stopped.count + 1) it.events
        = ap (λ (n : ℕ). take n events) (let e : now.done + 1 ≡ was.done + (stopped.count + 1) = omega arith in e) ∙ taken state.events it.events was.done (stopped.count + 1) reached.done in
        let put : output now.done events ≡ flat_map bytes_of state.events ++ output stopped.count it.events = ap (flat_map bytes_of) front ∙ out_is (take stopped.count it.events) in
        let last : state.desk.session.saved ≡ last_commit entry (take now.done events)
        = sym reached.saved ∙ sym (saves entry state.events stopped.count) ∙ sym (ap (last_commit entry) front) in
        let holds = holds_saved g kv state.desk.session reached.tells in
        record {
          inside = omega arith;
          any_moment = subst (λ (l : List Event). LeavesOnly g disk_first (disk_of g kv).now (RecoversIn entry l)) (sym next) (stop_more (take (stopped.count + 1) it.events));
          at_exit = λ files may. record {
            stored = state.desk.session.saved;
            acknowledged = Last last;
            recovers = subst (RecoversTo state.desk.session.saved) (sym (holds.settled files may)) holds.recovers;
          };
          written = λ status is.
              subst (λ (l : List ℕ). Grows l (o.written x0) (o.written y)) (sym put)
              (grows_on (flat_map bytes_of state.events) (output stopped.count it.events) (o.written x0) (o.written x) (o.written y) reached.written (stopped.written (other status is)));
          last = λ status is.
              ap last_byte put ∙ last_told (flat_map bytes_of state.events) (output stopped.count it.events) was.last reached.last ∙ sym (stopped.last (other status is));
          quiet = λ status is. stopped.quiet (other status is) ∙ reached.quiet;
          part = λ is.
              let part = stopped.part is in
              let quiet = reached.quiet in
              let rose = part.4 in
              record {
                event = part.0;
                under_way = ap (λ (n : ℕ). slice_get events n) done ∙ event_behind state.events it.events was.done stopped.count (Out part.0) reached.done part.2;
                count = part.1;
                written = subst (λ (l : List ℕ). Grows l (o.written x0) (o.written y))
                    (sym (append_assoc (flat_map bytes_of state.events) (output stopped.count it.events) (take part.1 part.0)) ∙ ap (λ (l : List ℕ). l ++ take part.1 part.0) (sym put))
                    (grows_on (flat_map bytes_of state.events) (output stopped.count it.events ++ take part.1 part.0) (o.written x0) (o.written x) (o.written y) reached.written part.3);
                rose = rw (← quiet) rose;
              };
          tells = λ _. (state.desk.session, reached.tells, last);
        }
      where
        other : (status : Status) → stop ≡ At status → stop ≡ Sink → ⊥
        other status is same = cc

  -- ---- a script as a move

  module _ (place : Option (List ℕ)) (limits : Limits) where
    abbrev next : Judge → State → State
    next judge state = played_in limits state it

    -- it is done
    pub moves_done : (now : Progress) (y : O) → closed_of g kv ≡ None → Performed o it was now x y None → MovesOn g o next was now place place kv kv x y (Ok tt)
    moves_done now y unclosed performed =
        let done : now.done ≡ was.done + length it.events = ap (λ (p : Progress). p.done) performed.progress in
        let units : now.meter ≡ was.meter + it.units = ap (λ (p : Progress). p.meter) performed.progress in
        let few = performed.few in
        let few_units = performed.few_units in
        record {
          same_reference = refl;
          limits = refl;
          unclosed = unclosed;
          few = omega arith;
          few_units = omega arith;
          within = tt;
          stands = λ disk_first x0 stands. stands_played now y None disk_first x0 performed stands;
          tells = λ told. told;
          not_database = λ is. absurd (cc);
          reached = λ judge right entry state disk_first x0 reached.
              subst (λ (f : Option Failure). Reached g o entry (failed_in limits (performed_in state it) f) now place disk_first kv x0 y) performed.failure_is
              (reached_played entry state place disk_first x0 reached now y None performed);
        }

    -- it failed, and that is replied
    pub moves_failed : (failure : Failure) (mid now : Progress) (place_new : Option (List ℕ)) (new : Kv D g) (y z : O) (result : Result (Unit {0}) Stop) → Performed o it was mid x y (Some failure)
        → MovesOn g o (λ _ state. obeyed_in limits state (fails_by failure)) mid now place place_new kv new y z result → HasFew g o result mid now → MovesOn g o next was now place place_new kv new x z result
    moves_failed failure mid now place_new new y z result performed moves has_few = record {
      same_reference = moves.same_reference;
      limits = moves.limits;
      unclosed = moves.unclosed;
      few = few_by result has_few;
      few_units = units_by result has_few;
      within = moves.within;
      stands = λ disk_first x0 stands. moves.stands disk_first x0 (stands_played mid y (Some failure) disk_first x0 performed stands);
      tells = moves.tells;
      not_database = moves.not_database;
      reached = λ judge right entry state disk_first x0 reached.
          subst (λ (f : Option Failure). ReachedBy g o result entry (failed_in limits (performed_in state it) f) now place_new disk_first new x0 z) performed.failure_is
          (moves.reached judge right entry (performed_in state it) disk_first x0 (reached_played entry state place disk_first x0 reached mid y (Some failure) performed));
    }
      where
        few_by : (result : Result (Unit {0}) Stop) → HasFew g o result mid now → OnOk result (now.done ≤ was.done + 2 ^ 42)
        few_by (Ok done) both =
            let first : mid.done ≡ was.done + length it.events = ap (λ (p : Progress). p.done) performed.progress in
            let few = performed.few in
            let second = both.0 in
            omega arith
        few_by (Err stop) both = tt

        units_by : (result : Result (Unit {0}) Stop) → HasFew g o result mid now → OnOk result (now.meter ≤ was.meter + 2 ^ 42)
        units_by (Ok done) both =
            let first : mid.meter ≡ was.meter + it.units = ap (λ (p : Progress). p.meter) performed.progress in
            let few = performed.few_units in
            let second = both.1 in
            omega arith
        units_by (Err stop) both = tt

    -- it was stopped
    pub moves_stopped : (stop : Stop) (now : Progress) (y : O) → IsStopped o it was now x y stop → MovesOn g o next was now place place kv kv x y (Err stop)
    moves_stopped stop now y stopped = record {
      same_reference = refl;
      limits = refl;
      unclosed = tt;
      few = tt;
      few_units = tt;
      within = within_by stop stopped.memory;
      stands = λ disk_first x0 stands. stops_played stop now y disk_first x0 stopped stands;
      tells = λ _. tt;
      not_database = λ is told. not_by stop stopped.memory (let same : stop ≡ At NotDatabase = cc in same);
      reached = λ judge right entry state disk_first x0 reached.
          let behind : State = performed_in state it in
          let more = failed_extends limits behind it.failure in
          subst (λ (l : List Event). CutShort g o entry l stop now disk_first kv x0 y) (sym more.1)
          (cut_more g o entry (state.events ++ it.events) more.0 stop now disk_first kv x0 y (cut_played entry state place disk_first x0 reached stop now y stopped));
    }
      where
        within_by : (stop : Stop) → ((stop ≡ Sink → ⊥) → stop ≡ At Memory) → IsTrue (is_of_command stop)
        within_by (At status) memory = subst (λ (s : Stop). IsTrue (is_of_command s)) (sym (memory (λ is. cc))) refl
        within_by Sink memory = refl

        not_by : (stop : Stop) → ((stop ≡ Sink → ⊥) → stop ≡ At Memory) → stop ≡ At NotDatabase → ⊥
        not_by (At status) memory is = let same : At Memory ≡ At NotDatabase = sym (memory (λ e. cc)) ∙ is in cc
        not_by Sink memory is = cc
