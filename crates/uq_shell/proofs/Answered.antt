-- A command is obeyed behind others.
use Rattle.std.proofs.Common.{◌≡◌, ◌⊎◌, ◌≤◌, ◌+◌, ℕ, Bool, true, false, List, Option, None, Result, Ok, Err, inl, inr, refl, sym, ap, subst, arith}
use Rattle.std.specs.Prelude.{IsTrue}
use Rattle.uq_outside.specs.declared.disk.Disk as disk
use Rattle.uq_outside.specs.declared.sink.Sink as sink
use Rattle.uq_outside.specs.Since.{Laws, LeavesOnly}
use Rattle.uq_kv.specs.Holds.{RecoversToEither}
use Rattle.uq_kv.specs.Kv.{Tells, closed_of, disk_of, limits_of}
use Rattle.uq_kv.specs.Stored.{Stored}
use Rattle.uq_kv.specs.declared.kv.Kv.{Kv}
use Rattle.uq_shell.specs.Answers.{DoesAsAsked, Leaves, desk_at, request_of}
use Rattle.uq_shell.specs.Commands.{Desk}
use Rattle.uq_shell.specs.Events.{Event}
use Rattle.uq_shell.specs.Obeys.{MovesOn, Replied, RepliesBy, Unreplied, commits_before}
use Rattle.uq_shell.specs.Reached.{CutShort, Reached, ReachedBy}
use Rattle.uq_shell.specs.Replies.{Said, said_in, text_of}
use Rattle.uq_shell.specs.Statuses.{is_of_store, row}
use Rattle.uq_shell.specs.Stream.{State, obeyed_in}
use Rattle.uq_shell.specs.Verdicts.{IsRight, Judge}
use Rattle.uq_shell.specs.declared.answering.Answer.{Answer}
use Rattle.uq_shell.specs.declared.command.Command.{Command}
use Rattle.uq_shell.specs.declared.progress.Progress.{Progress}
use Rattle.uq_shell.specs.declared.progress.Stop.{Stop}
use Rattle.uq_shell.specs.declared.progress.Stop.TheVariants.{At, Sink}
use Rattle.uq_shell.specs.declared.status.Status.{Status}
use Rattle.uq_shell.specs.declared.status.Status.TheVariants.{Memory, Disk, NotDatabase}
use Rattle.uq_shell.proofs.Extending.{Extends}
use Rattle.uq_shell.proofs.Moving.{SavesBy, cut_by_sink, cut_by_store, cut_more, reached_cut, reached_on, state_behind}
use Rattle.uq_shell.proofs.Saving.{saves_by}
use Rattle.uq_shell.proofs.Standing.{stands_cut, stands_on, stops_by_sink, stops_by_store}

-- a fault of the store ends a run with a status of these
abbrev pub IsCut : Status → Type 0
IsCut status = (status ≡ Disk) ⊎ ((status ≡ NotDatabase) ⊎ (status ≡ Memory))

-- P, where it holds of each of the three
by_cut : (P : Status → Type 0) → P Disk → P NotDatabase → P Memory → (status : Status) → IsCut status → P status
by_cut P disk none memory status (inl is) = subst P (sym is) disk
by_cut P disk none memory status (inr (inl is)) = subst P (sym is) none
by_cut P disk none memory status (inr (inr is)) = subst P (sym is) memory

pub cut_answered : (status : Status) → IsCut status → IsTrue (row status).is_answered → ⊥
cut_answered = by_cut (λ status. IsTrue (row status).is_answered → ⊥) (λ answered. cc) (λ answered. cc) (λ answered. cc)

pub cut_of_store : (status : Status) → IsCut status → IsTrue (is_of_store status)
cut_of_store = by_cut (λ status. IsTrue (is_of_store status)) refl refl refl

-- a desk is its session and the place of its cursor
desk_is : (desk : Desk) (place : Option (List ℕ)) → place ≡ desk.cursor → desk_at desk.session place ≡ desk
desk_is desk place is = ap (λ (at : Option (List ℕ)). desk_at desk.session at) is

module _ {D O : Type 0} (g : disk.Ghosts D) (o : sink.Ghosts O) (laws : Laws g) (it : Command) (was : Progress) (place_old place_new : Option (List ℕ)) (old new : Kv D g) (x : O) where
  abbrev next : Judge → State → State
  next judge state = obeyed_in (limits_of g old) state (request_of it)

  -- what it says and leaves of a desk
  abbrev did_at : Desk → Said × Desk
  did_at desk = (request_of it).does (limits_of g old) desk

  abbrev did : State → Said × Desk
  did state = did_at state.desk

  -- what a stop within leaves of a state that was reached
  stop_at : {T : Type 0} (result : Result T Status) → Leaves g {T = T} (request_of it) old new place_old result → (entry : Stored) (state : State) (disk_first : D) (x0 : O)
      → Reached g o entry state was place_old disk_first old x0 x → LeavesOnly g (disk_of g old).now (disk_of g new).now (RecoversToEither state.desk.session.saved (did state).1.session.saved)
  stop_at result leaves entry state disk_first x0 reached =
      subst (λ (desk : Desk). LeavesOnly g (disk_of g old).now (disk_of g new).now (RecoversToEither state.desk.session.saved (did_at desk).1.session.saved))
      (desk_is state.desk place_old reached.cursor) (leaves.stop state.desk.session reached.tells)

  -- it was answered, and its reply was put out, or the sink failed within that
  module _ (answer : Answer) (does : DoesAsAsked g (request_of it) old new place_old place_new answer) (leaves : Leaves g {T = Answer} (request_of it) old new place_old (Ok answer)) (unclosed : closed_of g new ≡ None) where
    saves : (state : State) → said_in answer ≡ (did state).0 → SavesBy answer.commits state.desk.session (did state).1.session
    saves state is = subst (λ (said : Said). SavesBy said.commits state.desk.session (did state).1.session) (sym is) (saves_by it (limits_of g old) state.desk)

    told_at : (entry : Stored) (state : State) (disk_first : D) (x0 : O) → Reached g o entry state was place_old disk_first old x0 x
        → (said_in answer ≡ (did state).0) × Tells g new (did state).1.session × (place_new ≡ (did state).1.cursor)
    told_at entry state disk_first x0 reached =
        subst (λ (desk : Desk). (said_in answer ≡ (did_at desk).0) × Tells g new (did_at desk).1.session × (place_new ≡ (did_at desk).1.cursor))
        (desk_is state.desk place_old reached.cursor) (does state.desk.session reached.tells)

    moves_whole : (now : Progress) (z : O) (done : Unit {0}) → Replied o answer was now x z → MovesOn g o next was now place_old place_new old new x z (Ok done)
    moves_whole now z done replied =
        let count : now.done ≡ was.done + commits_before answer.commits + 1 = ap (λ (it : Progress). it.done) replied.progress in
        let units : now.meter ≡ was.meter = ap (λ (it : Progress). it.meter) replied.progress in
        let few = few_commits answer.commits in
        record {
          same_reference = leaves.same_reference;
          limits = leaves.limits;
          unclosed = unclosed;
          few = omega arith;
          few_units = omega arith;
          within = tt;
          stands = λ disk_first x0 stands.
              stands_on g o was disk_first old new x0 x stands leaves.later (text_of answer.reply) now z (omega arith) (ap (λ (it : Progress). it.last) replied.progress) replied.written replied.quiet;
          tells = λ told. ((did_at (desk_at told.0 place_old)).1.session, (does told.0 told.1).1);
          not_database = λ is. absurd (cc);
          reached = λ judge right entry state disk_first x0 reached.
              let told = told_at entry state disk_first x0 reached in
              subst (λ (said : Said). Reached g o entry (state_behind state said (did state).1) now place_new disk_first new x0 z) told.0
              (reached_on g o entry state was place_old (said_in answer) (did state).1 disk_first old new x0 x reached (saves state told.0) (stop_at (Ok answer) leaves entry state disk_first x0 reached)
              now place_new z told.2 told.1 replied.progress replied.written replied.quiet);
        }
      where
        few_commits : (b : Bool) → commits_before b ≤ 1
        few_commits true = omega arith
        few_commits false = omega arith

    moves_part : (now : Progress) (z : O) → Unreplied o answer was now x z → MovesOn g o next was now place_old place_new old new x z (Err Sink)
    moves_part now z unreplied =
        let count : now.done ≡ was.done + commits_before answer.commits = ap (λ (it : Progress). it.done) unreplied.progress in
        record {
          same_reference = leaves.same_reference;
          limits = leaves.limits;
          unclosed = tt;
          few = tt;
          few_units = tt;
          within = refl;
          stands = λ disk_first x0 stands.
              stops_by_sink g o was disk_first old new x0 x stands leaves.later laws _ now z (omega arith) unreplied.written unreplied.rose unreplied.later leaves.kept;
          tells = λ _. tt;
          not_database = λ is. absurd (cc);
          reached = λ judge right entry state disk_first x0 reached.
              let told = told_at entry state disk_first x0 reached in
              subst (λ (said : Said). CutShort g o entry (state_behind state said (did state).1).events Sink now disk_first new x0 z) told.0
              (cut_by_sink g o entry state was place_old (said_in answer) (did state).1 disk_first old new x0 x reached (saves state told.0) (stop_at (Ok answer) leaves entry state disk_first x0 reached)
              now z unreplied.count told.1 unreplied.progress unreplied.written unreplied.rose);
        }

    pub moves_answered : (now : Progress) (z : O) (result : Result (Unit {0}) Stop) → RepliesBy o result answer was now x z → MovesOn g o next was now place_old place_new old new x z result
    moves_answered now z (Ok done) replies = moves_whole now z done replies
    moves_answered now z (Err (At status)) replies = absurd replies
    moves_answered now z (Err Sink) replies = moves_part now z replies

  -- the store failed
  pub moves_cut : (status : Status) → Leaves g {T = Answer} (request_of it) old new place_old (Err status) → MovesOn g o next was was place_old place_new old new x x (Err (At status))
  moves_cut status leaves = record {
    same_reference = leaves.same_reference;
    limits = leaves.limits;
    unclosed = tt;
    few = tt;
    few_units = tt;
    within = cut_of_store status leaves.others;
    stands = λ disk_first x0 stands.
        stops_by_store g o was disk_first old new x0 x stands leaves.later laws status (λ is. leaves.disk (ap Err is)) leaves.kept;
    tells = λ _. tt;
    not_database = λ is told. leaves.corrupt (ap Err (let same : status ≡ NotDatabase = cc in same)) told.0 told.1;
    reached = λ judge right entry state disk_first x0 reached.
        cut_by_store g o entry state was place_old (did state).0 (did state).1 disk_first old new x0 x reached (saves_by it (limits_of g old) state.desk)
        (stop_at {T = Answer} (Err status) leaves entry state disk_first x0 reached) laws status (cut_answered status leaves.others);
  }

-- ---- nothing is done

module _ {D O : Type 0} (g : disk.Ghosts D) (o : sink.Ghosts O) (was : Progress) (place : Option (List ℕ)) (kv : Kv D g) (x : O) (next : Judge → State → State) where
  -- nothing is asked for
  pub moves_silent : ((judge : Judge) (state : State) → next judge state ≡ state) → closed_of g kv ≡ None → MovesOn g o next was was place place kv kv x x (Ok tt)
  moves_silent same unclosed = record {
    same_reference = refl;
    limits = refl;
    unclosed = unclosed;
    few = omega arith;
    few_units = omega arith;
    within = tt;
    stands = λ disk_first x0 stands. stands;
    tells = λ told. told;
    not_database = λ is. absurd (cc);
    reached = λ judge right entry state disk_first x0 reached. subst (λ (s : State). Reached g o entry s was place disk_first kv x0 x) (sym (same judge state)) reached;
  }

  -- there is no memory for it
  pub moves_memory : ((judge : Judge) (state : State) → Extends state (next judge state).events) → MovesOn g o next was was place place kv kv x x (Err (At Memory))
  moves_memory extends = record {
    same_reference = refl;
    limits = refl;
    unclosed = tt;
    few = tt;
    few_units = tt;
    within = refl;
    stands = λ disk_first x0 stands. stands_cut g o was disk_first kv x0 x Memory stands (λ is. cc);
    tells = λ _. tt;
    not_database = λ is. absurd (cc);
    reached = λ judge right entry state disk_first x0 reached.
        let more = extends judge state in
        subst (λ (events : List Event). CutShort g o entry events (At Memory) was disk_first kv x0 x) (sym more.1)
        (cut_more g o entry state.events more.0 (At Memory) was disk_first kv x0 x (reached_cut g o entry state was place disk_first kv x0 x Memory reached));
  }

-- the same behind each state
pub moves_as : {D O : Type 0} (g : disk.Ghosts D) (o : sink.Ghosts O) (was now : Progress) (place_old place_new : Option (List ℕ)) (old new : Kv D g) (x z : O) (result : Result (Unit {0}) Stop) (next other : Judge → State → State)
    → ((judge : Judge) → IsRight judge → (state : State) → next judge state ≡ other judge state)
    → MovesOn g o next was now place_old place_new old new x z result → MovesOn g o other was now place_old place_new old new x z result
moves_as g o was now place_old place_new old new x z result next other same moves = record {
  same_reference = moves.same_reference;
  limits = moves.limits;
  unclosed = moves.unclosed;
  few = moves.few;
  few_units = moves.few_units;
  within = moves.within;
  stands = moves.stands;
  tells = moves.tells;
  not_database = moves.not_database;
  reached = λ judge right entry state disk_first x0 reached.
      subst (λ (s : State). ReachedBy g o result entry s now place_new disk_first new x0 z) (same judge right state) (moves.reached judge right entry state disk_first x0 reached);
}
