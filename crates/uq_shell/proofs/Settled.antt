-- The end of the input behind the events that are done: a commit that is done, one that failed, or none to make.
use Rattle.std.proofs.Common.{◌≡◌, ◌≤◌, ℕ, ◌+◌, Bool, true, false, if◌then◌else◌, List, Option, [], ◌∷◌, ◌++◌, length, take, Some, inl, inr, refl, sym, ap, subst, ◌∙◌, arith, length-append}
use Rattle.std.proofs.lemmas.List.{take_all, take_at}
use Rattle.std.specs.Prelude.{slice_get}
use Rattle.std.specs.List.{flat_map}
use Rattle.uq_outside.specs.declared.disk.Disk as disk
use Rattle.uq_outside.specs.declared.sink.Sink as sink
use Rattle.uq_outside.specs.Files.{Files}
use Rattle.uq_outside.specs.Since.{Laws, LeavesOnly}
use Rattle.uq_outside.specs.SinceLaws.{at_end, goes_on, weaker}
use Rattle.uq_outside.specs.Streams.{Grows}
use Rattle.uq_model.specs.Session.{Session, committed, opened}
use Rattle.uq_kv.specs.Holds.{Holds, LeavesNow, RecoversTo, RecoversToEither}
use Rattle.uq_kv.specs.Kv.{Tells, disk_of}
use Rattle.uq_kv.specs.KvLaws.{holds_saved}
use Rattle.uq_kv.specs.Stored.{Stored}
use Rattle.uq_kv.specs.declared.kv.Kv.{Kv}
use Rattle.uq_shell.specs.Ends.{Ends}
use Rattle.uq_shell.specs.Events.{Event, Commit, IsSavedIn, bytes_of, last_commit, output}
use Rattle.uq_shell.specs.Followed.{FollowedFiles, Last, RecoversIn, UnderWay}
use Rattle.uq_shell.specs.Line.{last_byte}
use Rattle.uq_shell.specs.Obeys.{commits_before}
use Rattle.uq_shell.specs.Reached.{CutShort, Reached}
use Rattle.uq_shell.specs.Statuses.{status_of}
use Rattle.uq_shell.specs.Stream.{State, at_end as ended_at}
use Rattle.uq_shell.specs.declared.progress.Progress.{Progress}
use Rattle.uq_shell.specs.declared.progress.Stop.TheVariants.{At}
use Rattle.uq_shell.specs.declared.status.Status.TheVariants.{Disk}
use Rattle.uq_shell.proofs.Doing.{commit_in, event_next, half_last, output_done, saved_last, saved_more, saved_next, silent}
use Rattle.uq_shell.proofs.Meeting.{meets_whole}

commit_count : (before : List Event) (b : Bool) (next : Stored) → length (before ++ commit_in b next) ≡ length before + commits_before b
commit_count before true next = length-append before (Commit next ∷ [])
commit_count before false next = length-append before []

commit_saved : (entry : Stored) (before : List Event) (b : Bool) (next : Stored) → IsSavedIn entry (before ++ commit_in b next) (if b then next else last_commit entry before)
commit_saved entry before true next = saved_next entry next before []
commit_saved entry before false next = saved_last entry before []

-- with none begun, what is there is what was saved
there : (entry : Stored) (before : List Event) (s : Session Stored) → last_commit entry before ≡ s.saved → (b : Bool) → (b ≡ false → s.present ≡ s.saved) → (if b then s.present else last_commit entry before) ≡ s.present
there entry before s last true idle = refl
there entry before s last false idle = last ∙ sym (idle refl)

committed_is : (b : Bool) (s : Session Stored) → (b ≡ false → s.present ≡ s.saved) → (if b then opened s.present else s).saved ≡ s.present
committed_is true s idle = refl
committed_is false s idle = sym (idle refl)

module _ {D O : Type 0} (g : disk.Ghosts D) (o : sink.Ghosts O) (entry : Stored) (state : State) (at : Progress) (place : Option (List ℕ)) (disk_first : D) (old new : Kv D g) (x0 x : O)
    (reached : Reached g o entry state at place disk_first old x0 x)
    (stop : LeavesOnly g (disk_of g old).now (disk_of g new).now (RecoversToEither state.desk.session.saved state.desk.session.present)) where
  abbrev events : List Event
  events = state.events ++ commit_in state.desk.session.begun state.desk.session.present

  present_is : (if state.desk.session.begun then state.desk.session.present else last_commit entry state.events) ≡ state.desk.session.present
  present_is = there entry state.events state.desk.session reached.saved state.desk.session.begun reached.tells.idle

  count_is : length events ≡ at.done + commits_before state.desk.session.begun
  count_is =
      let count = commit_count state.events state.desk.session.begun state.desk.session.present in
      let done = reached.done in
      omega arith

  before_in : (files : Files) → RecoversIn entry state.events files → RecoversIn entry events files
  before_in files is = record {
    stored = is.stored;
    saved = saved_more entry is.stored state.events (commit_in state.desk.session.begun state.desk.session.present) is.saved;
    recovers = is.recovers;
  }

  either_in : (files : Files) → RecoversToEither state.desk.session.saved state.desk.session.present files → RecoversIn entry events files
  either_in files (inl was) =
      let P : Stored → Type 0 = λ it. IsSavedIn entry events it in
      record { stored = state.desk.session.saved; saved = subst P reached.saved (saved_last entry state.events (commit_in state.desk.session.begun state.desk.session.present)); recovers = was }
  either_in files (inr now) =
      let P : Stored → Type 0 = λ it. IsSavedIn entry events it in
      record { stored = state.desk.session.present; saved = subst P present_is (commit_saved entry state.events state.desk.session.begun state.desk.session.present); recovers = now }

  moments : (n : ℕ) → length events ≤ n → LeavesOnly g disk_first (disk_of g new).now (RecoversIn entry (take n events))
  moments n all = subst (λ (l : List Event). LeavesOnly g disk_first (disk_of g new).now (RecoversIn entry l)) (sym (take_all n events all))
      (goes_on g (RecoversIn entry events) disk_first (disk_of g old).now (disk_of g new).now
      (weaker g (RecoversIn entry state.events) (RecoversIn entry events) disk_first (disk_of g old).now before_in reached.stop)
      (weaker g (RecoversToEither state.desk.session.saved state.desk.session.present) (RecoversIn entry events) (disk_of g old).now (disk_of g new).now either_in stop))

  -- what is begun is committed
  pub settled : (source_rose : Type 0) (n : ℕ) → n ≡ at.done + commits_before state.desk.session.begun → Tells g new (committed state.desk.session) → LeavesNow g (disk_of g new).now state.desk.session.present
      → Ends g o entry (ended_at state) source_rose disk_first (disk_of g new).now x0 x (record { status = status_of state.is_refused; done = n; meter = at.meter })
  settled source_rose n is tells now =
      let count = count_is in
      let whole : take n events ≡ events = take_all n events (omega arith) in
      let put : output n events ≡ flat_map bytes_of state.events = ap (flat_map bytes_of) whole ∙ silent state.events state.desk.session.begun state.desk.session.present in
      let last : state.desk.session.present ≡ last_commit entry (take n events)
      = sym (ap (last_commit entry) whole ∙ half_last entry state.events state.desk.session.begun state.desk.session.present ∙ present_is) in
      let saved : (committed state.desk.session).saved ≡ last_commit entry (take n events) = committed_is state.desk.session.begun state.desk.session reached.tells.idle ∙ last in
      record {
        meets = meets_whole o x0 x (ended_at state) source_rose n at.meter state.is_refused (subst (λ (l : List ℕ). Grows l (o.written x0) (o.written x)) (sym put) reached.written) refl (is ∙ sym count) (sym reached.units);
        recovers = record {
          any_moment = moments (n + 1) (omega arith);
          at_exit = λ files may. record { stored = state.desk.session.present; acknowledged = Last last; recovers = now files may };
        };
        holds = λ _. subst (λ (it : Stored). Holds g (disk_of g new).now it) saved (holds_saved g new (committed state.desk.session) tells);
        complete = λ _ _. inl refl;
      }

  was_last : state.desk.session.saved ≡ last_commit entry (take at.done events)
  was_last = sym reached.saved ∙ sym (ap (last_commit entry) (take_at state.events (commit_in state.desk.session.begun state.desk.session.present) at.done reached.done))

  exit_either : (files : Files) → RecoversToEither state.desk.session.saved state.desk.session.present files → (b : Bool) → state.desk.session.begun ≡ b → FollowedFiles entry events at.done files
  exit_either files (inl was) b is = record { stored = state.desk.session.saved; acknowledged = Last was_last; recovers = was }
  exit_either files (inr now) true is =
      let under_way = subst (λ (b : Bool). slice_get (state.events ++ commit_in b state.desk.session.present) at.done ≡ Some (Commit state.desk.session.present)) (sym is)
      (event_next state.events [] (Commit state.desk.session.present) at.done reached.done) in
      record { stored = state.desk.session.present; acknowledged = UnderWay under_way; recovers = now }
  exit_either files (inr now) false is =
      record { stored = state.desk.session.saved; acknowledged = Last was_last; recovers = subst (λ (it : Stored). RecoversTo it files) (reached.tells.idle is) now }

  -- the commit failed
  pub settled_cut : Laws g → CutShort g o entry events (At Disk) at disk_first new x0 x
  settled_cut laws =
      let count = count_is in
      let few : commits_before state.desk.session.begun ≤ 1 = one state.desk.session.begun in
      let put : output at.done events ≡ flat_map bytes_of state.events = output_done state.events (commit_in state.desk.session.begun state.desk.session.present) at.done reached.done in
      record {
        inside = omega arith;
        any_moment = moments (at.done + 1) (omega arith);
        at_exit = λ files may.
            exit_either files (at_end g (RecoversToEither state.desk.session.saved state.desk.session.present) laws.counts_now (disk_of g old).now (disk_of g new).now stop files may) state.desk.session.begun refl;
        written = λ _ _. subst (λ (l : List ℕ). Grows l (o.written x0) (o.written x)) (sym put) reached.written;
        last = λ _ _. ap last_byte put ∙ reached.last;
        quiet = λ _ _. reached.quiet;
        part = λ is. absurd (cc);
        tells = λ answered. absurd (cc);
      }
    where
      one : (b : Bool) → commits_before b ≤ 1
      one true = omega arith
      one false = omega arith
