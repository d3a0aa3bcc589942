-- A command behind the events that are done, over a store that tells its session.
use Rattle.std.proofs.Common.{◌≡◌, ℕ, ◌+◌, ◌||◌, Bool, true, false, if◌then◌else◌, List, [], ◌∷◌, ◌++◌, length, take, Option, Some, inl, inr, refl, sym, ap, subst, ◌∙◌, arith, length-append}
use Rattle.std.specs.Prelude.{IsTrue, slice_get}
use Rattle.std.specs.List.{flat_map}
use Rattle.std.proofs.lemmas.List.{take_all, take_at, take-append-le}
use Rattle.uq_outside.specs.declared.disk.Disk as disk
use Rattle.uq_outside.specs.declared.sink.Sink as sink
use Rattle.uq_outside.specs.Files.{Files}
use Rattle.uq_outside.specs.Since.{Laws, LeavesOnly}
use Rattle.uq_outside.specs.SinceLaws.{at_end, goes_on, weaker}
use Rattle.uq_outside.specs.Streams.{Grows}
use Rattle.uq_model.specs.Session.{Session}
use Rattle.uq_kv.specs.Holds.{RecoversTo, RecoversToEither}
use Rattle.uq_kv.specs.Kv.{Tells, disk_of}
use Rattle.uq_kv.specs.KvLaws.{holds_saved}
use Rattle.uq_kv.specs.Stored.{Stored}
use Rattle.uq_kv.specs.declared.kv.Kv.{Kv}
use Rattle.uq_shell.specs.Commands.{Desk, events_of}
use Rattle.uq_shell.specs.Events.{Event, Out, Commit, IsSavedIn, bytes_of, last_commit, output}
use Rattle.uq_shell.specs.Followed.{FollowedFiles, IsAcknowledged, Last, RecoversIn, UnderWay}
use Rattle.uq_shell.specs.Headline.{SinkRose}
use Rattle.uq_shell.specs.Line.{last_byte, line_after}
use Rattle.uq_shell.specs.Obeys.{commits_before}
use Rattle.uq_shell.specs.Reached.{CutShort, Reached}
use Rattle.uq_shell.specs.Replies.{Said}
use Rattle.uq_shell.specs.Statuses.{row}
use Rattle.uq_shell.specs.Stream.{State, written_last}
use Rattle.uq_shell.specs.declared.progress.Progress.{Progress}
use Rattle.uq_shell.specs.declared.progress.Stop.{Stop}
use Rattle.uq_shell.specs.declared.progress.Stop.TheVariants.{At, Sink}
use Rattle.uq_shell.specs.declared.status.Status.{Status}
use Rattle.uq_shell.proofs.Doing.{commit_in, event_more, event_next, first_saved, half_event, half_last, half_taken, output_done, saved_last, saved_more, silent, taken, taken_more, told_by, told_count, told_last, told_output, told_saved}
use Rattle.uq_shell.proofs.Lines.{grows_on, line_ends}

-- the state behind what a command says
abbrev pub state_behind : State → Said → Desk → State
state_behind state said after = record {
  events = state.events ++ events_of (written_last state) state.desk.session said;
  desk = after;
  is_refused = state.is_refused || said.is_refusal;
  units = state.units;
}

-- what it saves: what is there, where a commit stands before its reply, or else nothing
abbrev pub SavesBy : Bool → Session Stored → Session Stored → Type 0
SavesBy commits s after = after.saved ≡ (if commits then s.present else s.saved)

module _ {D O : Type 0} (g : disk.Ghosts D) (o : sink.Ghosts O) (entry : Stored) (state : State) (was : Progress) (place : Option (List ℕ)) (said : Said) (after : Desk) (disk_first : D) (old new : Kv D g) (x0 x : O)
    (reached : Reached g o entry state was place disk_first old x0 x) (saves : SavesBy said.commits state.desk.session after.session)
    (stop : LeavesOnly g (disk_of g old).now (disk_of g new).now (RecoversToEither state.desk.session.saved after.session.saved)) where
  abbrev line : List ℕ
  line = line_after (written_last state) said.text

  abbrev more : List Event
  more = told_by said.commits state.desk.session.present line

  abbrev events : List Event
  events = state.events ++ more

  -- by what the command says it saves
  saved_by : (if said.commits then state.desk.session.present else last_commit entry state.events) ≡ after.session.saved
  saved_by = ap (λ (saved : Stored). if said.commits then state.desk.session.present else saved) reached.saved ∙ sym saves

  saved_now : last_commit entry events ≡ after.session.saved
  saved_now = told_last entry state.events said.commits state.desk.session.present line ∙ saved_by

  -- all that a stop may leave is saved in its events
  before_in : (files : Files) → RecoversIn entry state.events files → RecoversIn entry events files
  before_in files was_in = record { stored = was_in.stored; saved = saved_more entry was_in.stored state.events more was_in.saved; recovers = was_in.recovers }

  either_in : (files : Files) → RecoversToEither state.desk.session.saved after.session.saved files → RecoversIn entry events files
  either_in files (inl was_saved) =
      let P : Stored → Type 0 = λ it. IsSavedIn entry events it in
      record { stored = state.desk.session.saved; saved = subst P reached.saved (saved_last entry state.events more); recovers = was_saved }
  either_in files (inr now_saved) =
      let P : Stored → Type 0 = λ it. IsSavedIn entry events it in
      record { stored = after.session.saved; saved = subst P saved_by (told_saved entry state.events said.commits state.desk.session.present line); recovers = now_saved }

  moments : LeavesOnly g disk_first (disk_of g new).now (RecoversIn entry events)
  moments =
      goes_on g (RecoversIn entry events) disk_first (disk_of g old).now (disk_of g new).now
      (weaker g (RecoversIn entry state.events) (RecoversIn entry events) disk_first (disk_of g old).now before_in reached.stop)
      (weaker g (RecoversToEither state.desk.session.saved after.session.saved) (RecoversIn entry events) (disk_of g old).now (disk_of g new).now either_in stop)

  same_line : line_after was.last said.text ≡ line
  same_line = ap (λ (last : Option ℕ). line_after last said.text) (sym reached.last)

  -- the reply is put out
  pub reached_on : (now : Progress) (place_now : Option (List ℕ)) (z : O) → place_now ≡ after.cursor → Tells g new after.session
      → now ≡ record { done = was.done + commits_before said.commits + 1; last = Some 0x0a; is_refused = was.is_refused || said.is_refusal; meter = was.meter }
      → Grows (line_after was.last said.text) (o.written x) (o.written z) → o.faults z ≡ o.faults x → Reached g o entry (state_behind state said after) now place_now disk_first new x0 z
  reached_on now place_now z cursor tells progress written quiet =
      let count : length events ≡ length state.events + commits_before said.commits + 1 = told_count state.events said.commits state.desk.session.present line in
      let done : now.done ≡ was.done + commits_before said.commits + 1 = ap (λ (it : Progress). it.done) progress in
      let was_done = reached.done in
      record {
        done = omega arith;
        last =
            ap last_byte (told_output state.events said.commits state.desk.session.present line) ∙ line_ends (flat_map bytes_of state.events) (written_last state) said.text
            ∙ sym (ap (λ (it : Progress). it.last) progress);
        refused = ap (λ (b : Bool). b || said.is_refusal) reached.refused ∙ sym (ap (λ (it : Progress). it.is_refused) progress);
        units = reached.units ∙ sym (ap (λ (it : Progress). it.meter) progress);
        tells = tells;
        cursor = cursor;
        saved = saved_now;
        written = subst (λ (l : List ℕ). Grows l (o.written x0) (o.written z)) (sym (told_output state.events said.commits state.desk.session.present line))
            (grows_on (flat_map bytes_of state.events) line (o.written x0) (o.written x) (o.written z) reached.written
            (subst (λ (l : List ℕ). Grows l (o.written x) (o.written z)) same_line written));
        quiet = quiet ∙ reached.quiet;
        stop = moments;
      }

  -- ---- the store failed

  abbrev first : List Event
  first = state.events ++ take 1 more

  first_is : take (was.done + 1) events ≡ first
  first_is = taken state.events more was.done 1 reached.done

  before_first : (files : Files) → RecoversIn entry state.events files → RecoversIn entry first files
  before_first files was_in = record { stored = was_in.stored; saved = saved_more entry was_in.stored state.events (take 1 more) was_in.saved; recovers = was_in.recovers }

  either_first : (files : Files) → RecoversToEither state.desk.session.saved after.session.saved files → RecoversIn entry first files
  either_first files (inl was_saved) =
      let P : Stored → Type 0 = λ it. IsSavedIn entry first it in
      record { stored = state.desk.session.saved; saved = subst P reached.saved (saved_last entry state.events (take 1 more)); recovers = was_saved }
  either_first files (inr now_saved) =
      let P : Stored → Type 0 = λ it. IsSavedIn entry first it in
      record { stored = after.session.saved; saved = subst P saved_by (first_saved entry state.events said.commits state.desk.session.present line); recovers = now_saved }

  first_moments : LeavesOnly g disk_first (disk_of g new).now (RecoversIn entry (take (was.done + 1) events))
  first_moments = subst (λ (l : List Event). LeavesOnly g disk_first (disk_of g new).now (RecoversIn entry l)) (sym first_is)
      (goes_on g (RecoversIn entry first) disk_first (disk_of g old).now (disk_of g new).now
      (weaker g (RecoversIn entry state.events) (RecoversIn entry first) disk_first (disk_of g old).now before_first reached.stop)
      (weaker g (RecoversToEither state.desk.session.saved after.session.saved) (RecoversIn entry first) (disk_of g old).now (disk_of g new).now either_first stop))

  was_last : state.desk.session.saved ≡ last_commit entry (take was.done events)
  was_last = sym reached.saved ∙ sym (ap (last_commit entry) (take_at state.events more was.done reached.done))

  -- what was saved, or the commit under way
  exit_either : (files : Files) → RecoversToEither state.desk.session.saved after.session.saved files → (b : Bool) → said.commits ≡ b → FollowedFiles entry events was.done files
  exit_either files (inl was_saved) b is = record { stored = state.desk.session.saved; acknowledged = Last was_last; recovers = was_saved }
  exit_either files (inr now_saved) true is =
      let there : after.session.saved ≡ state.desk.session.present = saves ∙ ap (λ (b : Bool). if b then state.desk.session.present else state.desk.session.saved) is in
      let under_way = subst (λ (b : Bool). slice_get (state.events ++ told_by b state.desk.session.present line) was.done ≡ Some (Commit state.desk.session.present)) (sym is)
      (event_next state.events (Out line ∷ []) (Commit state.desk.session.present) was.done reached.done) in
      record { stored = state.desk.session.present; acknowledged = UnderWay under_way; recovers = subst (λ (it : Stored). RecoversTo it files) there now_saved }
  exit_either files (inr now_saved) false is =
      let there : after.session.saved ≡ state.desk.session.saved = saves ∙ ap (λ (b : Bool). if b then state.desk.session.present else state.desk.session.saved) is in
      record { stored = state.desk.session.saved; acknowledged = Last was_last; recovers = subst (λ (it : Stored). RecoversTo it files) there now_saved }

  pub cut_by_store : Laws g → (status : Status) → (IsTrue (row status).is_answered → ⊥) → CutShort g o entry events (At status) was disk_first new x0 x
  cut_by_store laws status unanswered =
      let count : length events ≡ length state.events + commits_before said.commits + 1 = told_count state.events said.commits state.desk.session.present line in
      let was_done = reached.done in
      let put : output was.done events ≡ flat_map bytes_of state.events = output_done state.events more was.done reached.done in
      record {
        inside = omega arith;
        any_moment = first_moments;
        at_exit = λ files may.
            exit_either files (at_end g (RecoversToEither state.desk.session.saved after.session.saved) laws.counts_now (disk_of g old).now (disk_of g new).now stop files may) said.commits refl;
        written = λ _ _. subst (λ (l : List ℕ). Grows l (o.written x0) (o.written x)) (sym put) reached.written;
        last = λ _ _. ap last_byte put ∙ reached.last;
        quiet = λ _ _. reached.quiet;
        part = λ is. absurd (cc);
        tells = λ answered. absurd (unanswered answered);
      }

  -- ---- the sink failed within the reply

  half : (now : Progress) → now.done ≡ was.done + commits_before said.commits → take now.done events ≡ state.events ++ commit_in said.commits state.desk.session.present
  half now done = ap (λ (n : ℕ). take n events) done ∙ half_taken state.events state.desk.session.present line was.done reached.done said.commits

  saved_half : (now : Progress) → now.done ≡ was.done + commits_before said.commits → after.session.saved ≡ last_commit entry (take now.done events)
  saved_half now done = sym (ap (last_commit entry) (half now done) ∙ half_last entry state.events said.commits state.desk.session.present ∙ saved_by)

  pub cut_by_sink : (now : Progress) (z : O) (count : ℕ) → Tells g new after.session
      → now ≡ record { done = was.done + commits_before said.commits; last = was.last; is_refused = was.is_refused; meter = was.meter }
      → Grows (take count (line_after was.last said.text)) (o.written x) (o.written z) → SinkRose o x z → CutShort g o entry events Sink now disk_first new x0 z
  cut_by_sink now z count tells progress written rose =
      let all : length events ≡ length state.events + commits_before said.commits + 1 = told_count state.events said.commits state.desk.session.present line in
      let done : now.done ≡ was.done + commits_before said.commits = ap (λ (it : Progress). it.done) progress in
      let was_done = reached.done in
      let whole : take (now.done + 1) events ≡ events = take_all (now.done + 1) events (omega arith) in
      let holds = holds_saved g new after.session tells in
      let put : output now.done events ≡ flat_map bytes_of state.events = ap (flat_map bytes_of) (half now done) ∙ silent state.events said.commits state.desk.session.present in
      record {
        inside = omega arith;
        any_moment = subst (λ (l : List Event). LeavesOnly g disk_first (disk_of g new).now (RecoversIn entry l)) (sym whole) moments;
        at_exit = λ files may. record {
          stored = after.session.saved;
          acknowledged = Last (saved_half now done);
          recovers = subst (RecoversTo after.session.saved) (sym (holds.settled files may)) holds.recovers;
        };
        written = λ _ is. absurd (cc);
        last = λ _ is. absurd (cc);
        quiet = λ _ is. absurd (cc);
        part = λ _. record {
          event = line;
          under_way = ap (λ (n : ℕ). slice_get events n) done ∙ half_event state.events state.desk.session.present line was.done reached.done said.commits;
          count = count;
          written = subst (λ (l : List ℕ). Grows (l ++ take count line) (o.written x0) (o.written z)) (sym put)
              (grows_on (flat_map bytes_of state.events) (take count line) (o.written x0) (o.written x) (o.written z) reached.written
              (subst (λ (l : List ℕ). Grows (take count l) (o.written x) (o.written z)) same_line written));
          rose = let quiet = reached.quiet in rw (← quiet) rose;
        };
        tells = λ _. (after.session, tells, saved_half now done);
      }

-- ---- a run that goes on no further

module _ {D O : Type 0} (g : disk.Ghosts D) (o : sink.Ghosts O) where
  -- between two commands
  pub reached_cut : (entry : Stored) (state : State) (at : Progress) (place : Option (List ℕ)) (disk_first : D) (kv : Kv D g) (x0 x : O) (status : Status) → Reached g o entry state at place disk_first kv x0 x
      → CutShort g o entry state.events (At status) at disk_first kv x0 x
  reached_cut entry state at place disk_first kv x0 x status reached =
      let done = reached.done in
      let more : take (at.done + 1) state.events ≡ state.events = take_all (at.done + 1) state.events (omega arith) in
      let all : take at.done state.events ≡ state.events = take_all at.done state.events (omega arith) in
      let put : output at.done state.events ≡ flat_map bytes_of state.events = ap (flat_map bytes_of) all in
      let last : state.desk.session.saved ≡ last_commit entry (take at.done state.events) = sym (ap (last_commit entry) all ∙ reached.saved) in
      let holds = holds_saved g kv state.desk.session reached.tells in
      record {
        inside = omega arith;
        any_moment = subst (λ (l : List Event). LeavesOnly g disk_first (disk_of g kv).now (RecoversIn entry l)) (sym more) reached.stop;
        at_exit = λ files may. record {
          stored = state.desk.session.saved;
          acknowledged = Last last;
          recovers = subst (RecoversTo state.desk.session.saved) (sym (holds.settled files may)) holds.recovers;
        };
        written = λ _ _. subst (λ (l : List ℕ). Grows l (o.written x0) (o.written x)) (sym put) reached.written;
        last = λ _ _. ap last_byte put ∙ reached.last;
        quiet = λ _ _. reached.quiet;
        part = λ is. absurd (cc);
        tells = λ _. (state.desk.session, reached.tells, last);
      }

  -- whatever events stand behind
  pub cut_more : (entry : Stored) (before more : List Event) (stop : Stop) (at : Progress) (disk_first : D) (kv : Kv D g) (x0 x : O) → CutShort g o entry before stop at disk_first kv x0 x
      → CutShort g o entry (before ++ more) stop at disk_first kv x0 x
  cut_more entry before more stop at disk_first kv x0 x cut =
      let same : take at.done (before ++ more) ≡ take at.done before = take-append-le at.done before more cut.inside in
      let put : output at.done (before ++ more) ≡ output at.done before = ap (flat_map bytes_of) same in
      let both = length-append before more in
      let inside = cut.inside in
      let others = taken_more (at.done + 1) before more in
      record {
        inside = omega arith;
        any_moment = subst (λ (l : List Event). LeavesOnly g disk_first (disk_of g kv).now (RecoversIn entry l)) (sym others.1)
            (weaker g (RecoversIn entry (take (at.done + 1) before)) (RecoversIn entry (take (at.done + 1) before ++ others.0)) disk_first (disk_of g kv).now (λ files is. record {
              stored = is.stored;
              saved = saved_more entry is.stored (take (at.done + 1) before) others.0 is.saved;
              recovers = is.recovers;
            }) cut.any_moment);
        at_exit = λ files may. exit files (cut.at_exit files may);
        written = λ status is. subst (λ (l : List ℕ). Grows l (o.written x0) (o.written x)) (sym put) (cut.written status is);
        last = λ status is. ap last_byte put ∙ cut.last status is;
        quiet = cut.quiet;
        part = λ is. let part = cut.part is in record {
          event = part.event;
          under_way = event_more before more (Out part.event) at.done part.under_way;
          count = part.count;
          written = subst (λ (l : List ℕ). Grows (l ++ take part.count part.event) (o.written x0) (o.written x)) (sym put) part.written;
          rose = part.rose;
        };
        tells = λ answered. let told = cut.tells answered in (told.0, told.1, told.2 ∙ sym (ap (last_commit entry) same));
      }
    where
      exit : (files : Files) → FollowedFiles entry before at.done files → FollowedFiles entry (before ++ more) at.done files
      exit files is = record { stored = is.stored; acknowledged = acknowledged is.stored is.acknowledged; recovers = is.recovers }
        where
          acknowledged : (stored : Stored) → IsAcknowledged entry before at.done stored → IsAcknowledged entry (before ++ more) at.done stored
          acknowledged stored (Last last) = Last (last ∙ sym (ap (last_commit entry) (take-append-le at.done before more cut.inside)))
          acknowledged stored (UnderWay there) = UnderWay (event_more before more (Commit stored) at.done there)
