-- A command as a step of the store.
use Rattle.std.proofs.Common.{Vec, Global, ◌≡◌, ◌⊎◌, ℕ, Bool, true, false, not, List, Option, Some, None, Result, Ok, Err, if◌then◌else◌, inl, inr, refl, sym, ap, subst, ◌∙◌, arith}
use Rattle.std.specs.FinMap.{contains_key}
use Rattle.std.specs.Option.{option_map}
use Rattle.std.specs.Prelude.{IfOk, IsTrue, OnOk, []}
use Rattle.uq_facts.specs.Causes.{Rose}
use Rattle.uq_outside.specs.declared.disk.Disk.{Ghosts}
use Rattle.uq_outside.specs.Files.{Files}
use Rattle.uq_outside.specs.Since.{Laws}
use Rattle.uq_outside.specs.SinceLaws.{started, weaker}
use Rattle.uq_journal.specs.Calls.{IsStill}
use Rattle.uq_model.specs.Session.{Call, Session, opened}
use Rattle.uq_model.specs.declared.cause.Cause.{Cause}
use Rattle.uq_model.specs.declared.limits.Limits.{Limits}
use Rattle.uq_kv.specs.Holds.{RecoversTo, RecoversToEither}
use Rattle.uq_kv.specs.Kv.{Does, HasCauses, KeepsKv, LeavesSaved, LeavesSavedOrPresent, Tells, closed_of, disk_of, is_begun_of, limits_of}
use Rattle.uq_kv.specs.KvLaws.{holds_saved}
use Rattle.uq_kv.specs.Calls.{FailsBy, behind, closed_by, is_answered, is_stop, seen_by}
use Rattle.uq_kv.specs.Cursor.{IsLeft, IsMoved, sought}
use Rattle.uq_kv.specs.Lengths.{key_checked}
use Rattle.uq_kv.specs.Stored.{Stored, stored_key}
use Rattle.uq_kv.specs.declared.error.KvFault.TheVariants.{Closed, NotFound}
use Rattle.uq_kv.specs.declared.error.KvFault.{KvFault}
use Rattle.uq_kv.specs.declared.kv.Kv.{Kv}
use Rattle.uq_kv.specs.declared.space.Space.TheVariants.{Keys}
use Rattle.uq_json.specs.Quote.{quoted}
use Rattle.uq_shell.specs.Answers.{DoesAsAsked, Leaves, LeavesAlike, LeavesEither, SaysBy}
use Rattle.uq_shell.specs.Commands.{Request, beside, commits_one, goes_to, place_sought, reading, said_at, saying, says_key, seeks_key, writing}
use Rattle.uq_shell.specs.Moves.{Shows, key_shown}
use Rattle.uq_shell.specs.Replies.{Said, said_in, says}
use Rattle.uq_shell.specs.declared.answering.Answer.{Answer}
use Rattle.uq_shell.specs.declared.reply.Reply.TheVariants as reply
use Rattle.uq_shell.specs.declared.status.Status.{Status}
use Rattle.uq_shell.specs.declared.status.Status.TheVariants.{Disk, NotDatabase, Memory}
use Rattle.uq_shell.proofs.Alike.{alike_here, still_here}
use Rattle.uq_shell.proofs.Taking.{ByClosing, ByDisk, ByPages, EndsBy, ForMemory, ends_by, said_is, said_open}

module _ {D : Type 0} (g : Ghosts D) (old new : Kv D g) where
  -- what is said of its answer is what is meant, and so is the session after it
  pub step_does : {T U : Type 0} (view : T → U) (say : U → Said) (call : Call Stored (Result U KvFault)) (outcome : Result T KvFault) (result : Result Answer Status)
      → SaysBy (λ (value : T). say (view value)) outcome result → Does g view call old new outcome
      → IfOk result (λ (answer : Answer). (s : Session Stored) → Tells g old s → (said_in answer ≡ (saying say call s).0) × Tells g new (saying say call s).1)
  step_does view say call outcome (Ok answer) says does = λ s tells.
      let both = said_is view say outcome (said_in answer) says.said in
      let did = does s tells both.1 in
      (both.0 ∙ ap (said_at say) did.0, did.1)
  step_does view say call outcome (Err status) says does = tt

  -- the store is open still
  pub step_open : {T : Type 0} (say : T → Said) (outcome : Result T KvFault) (answer : Answer) → SaysBy say outcome (Ok answer) → closed_of g old ≡ None
      → HasCauses g old new outcome → closed_of g new ≡ None
  step_open say outcome answer says unclosed causes =
      causes.closes ∙ ap (closed_by outcome) unclosed ∙ said_open say outcome (said_in answer) says.said

  -- by what it ends, of a store that was open
  ended : {T : Type 0} (say : T → Said) (outcome : Result T KvFault) (status : Status) → SaysBy say outcome (Err status) → (status ≡ Memory) ⊎ EndsBy outcome status
  ended say outcome status says = elim says.ends [ inl memory ↦ inl memory | inr by ↦ inr (ends_by say outcome status by) ]

  not_closed : {T : Type 0} (outcome : Result T KvFault) → closed_of g old ≡ None → HasCauses g old new outcome → (first : Cause) → outcome ≡ Err (Closed first) → ⊥
  not_closed outcome unclosed causes first is = let was : closed_of g old ≡ Some first = (causes.closed first).0 is in cc

  -- a call without a refusal of its own succeeds, where the store is open
  pub none_refused : {T P : Type 0} (outcome : Result T KvFault) → FailsBy [] outcome → closed_of g old ≡ None → HasCauses g old new outcome → OnOk outcome P → P
  none_refused (Ok value) fails unclosed causes done = done
  none_refused (Err fault) fails unclosed causes done = absurd (not_closed (Err fault) unclosed causes fails.0 (ap Err fails.1))

  pub step_disk : {T : Type 0} (say : T → Said) (outcome : Result T KvFault) (status : Status) → SaysBy say outcome (Err status) → closed_of g old ≡ None
      → HasCauses g old new outcome → status ≡ Disk → Rose (g.faults (disk_of g old).now) (g.faults (disk_of g new).now)
  step_disk say outcome status says unclosed causes is = elim (ended say outcome status says) [
    | inl memory ↦ absurd (untrue (sym memory ∙ is))
    | inr by ↦ elim by [
      | ByDisk failed status_is ↦ causes.disk failed
      | ByPages failed status_is ↦ absurd (other (sym status_is ∙ is))
      | ForMemory failed status_is ↦ absurd (untrue (sym status_is ∙ is))
      | ByClosing first failed ↦ absurd (not_closed outcome unclosed causes first failed)
    ]
  ]
    where
      untrue : Memory ≡ Disk → ⊥
      untrue e = cc

      other : NotDatabase ≡ Disk → ⊥
      other e = cc

  pub step_corrupt : {T : Type 0} (say : T → Said) (outcome : Result T KvFault) (status : Status) → SaysBy say outcome (Err status) → closed_of g old ≡ None
      → HasCauses g old new outcome → status ≡ NotDatabase → (s : Session Stored) → Tells g old s → ⊥
  step_corrupt say outcome status says unclosed causes is = elim (ended say outcome status says) [
    | inl memory ↦ absurd (untrue (sym memory ∙ is))
    | inr by ↦ elim by [
      | ByDisk failed status_is ↦ absurd (other (sym status_is ∙ is))
      | ByPages failed status_is ↦ causes.corrupt failed
      | ForMemory failed status_is ↦ absurd (untrue (sym status_is ∙ is))
      | ByClosing first failed ↦ absurd (not_closed outcome unclosed causes first failed)
    ]
  ]
    where
      untrue : Memory ≡ NotDatabase → ⊥
      untrue e = cc

      other : Disk ≡ NotDatabase → ⊥
      other e = cc

  pub step_others : {T : Type 0} (say : T → Said) (outcome : Result T KvFault) (status : Status) → SaysBy say outcome (Err status) → closed_of g old ≡ None
      → HasCauses g old new outcome → (status ≡ Disk) ⊎ ((status ≡ NotDatabase) ⊎ (status ≡ Memory))
  step_others say outcome status says unclosed causes = elim (ended say outcome status says) [
    | inl memory ↦ inr (inr memory)
    | inr by ↦ elim by [
      | ByDisk failed status_is ↦ inl status_is
      | ByPages failed status_is ↦ inr (inl status_is)
      | ForMemory failed status_is ↦ inr (inr status_is)
      | ByClosing first failed ↦ absurd (not_closed outcome unclosed causes first failed)
    ]
  ]

  -- where the cursor stays, so does its place
  pub beside_does : (call : Limits → Call Stored Said) (writes : Bool) (was now : Option (List ℕ)) (result : Result Answer Status) → now ≡ was
      → IfOk result (λ (answer : Answer). (s : Session Stored) → Tells g old s → (said_in answer ≡ (call (limits_of g old) s).0) × Tells g new (call (limits_of g old) s).1)
      → IfOk result (DoesAsAsked g (record { writes = writes; does = beside call }) old new was now)
  beside_does call writes was now (Ok answer) same does = λ s tells. let did = does s tells in (did.0, did.1, same)
  beside_does call writes was now (Err status) same does = tt

  -- ---- what moves the cursor

  -- the key at a place is said, or that there is none
  said_key : (place : Option (List ℕ)) → said_at (λ (key : List ℕ). says (quoted key)) (key_shown place) ≡ says_key place
  said_key None = refl
  said_key (Some stored) = refl

  pub step_goes : (place : Option (List ℕ) → Stored → Option (List ℕ)) (was now : Option (List ℕ)) (outcome : Result (Vec ℕ Global) KvFault) (result : Result Answer Status)
      → SaysBy (λ (key : Vec ℕ Global). says (quoted key.items)) outcome result → Shows g (place was) old new now outcome → IfOk result (DoesAsAsked g (reading (goes_to place)) old new was now)
  step_goes place was now outcome (Ok answer) says_by shows = λ s tells.
      let both = said_is (λ (key : Vec ℕ Global). key.items) (λ (key : List ℕ). says (quoted key)) outcome (said_in answer) says_by.said in
      let did = shows.shows s tells both.1 in
      (both.0 ∙ ap (said_at (λ (key : List ℕ). says (quoted key))) did.1 ∙ said_key (place was s.present), did.2, did.0)
  step_goes place was now outcome (Err status) says_by shows = tt

  -- a search leaves the session
  sought_stays : (checked : Result (Unit {0}) KvFault) (f : Session Stored → Result (Unit {0}) KvFault) (s : Session Stored) → (behind checked (λ s. (f s, s)) s).1 ≡ s
  sought_stays (Ok done) f s = refl
  sought_stays (Err fault) f s = refl

  -- where the cursor is behind it
  place_is : (key : List ℕ) (was now : Option (List ℕ)) (outcome : Result (Unit {0}) KvFault) → OnOk outcome (now ≡ Some key) → IsMoved was now outcome → IsTrue (is_answered outcome)
      → option_map (stored_key Keys) now ≡ place_sought key outcome
  place_is key was now (Ok done) at moved answered = ap (option_map (stored_key Keys)) at
  place_is key was now (Err fault) at moved answered = by (is_stop fault) answered moved
    where
      by : (stop : Bool) → IsTrue (not stop) → IsLeft stop was now → option_map (stored_key Keys) now ≡ None
      by true answered left = absurd (cc)
      by false answered left = ap (option_map (stored_key Keys)) left

  seen_same : (outcome : Result (Unit {0}) KvFault) → seen_by (λ (done : Unit {0}). done) outcome ≡ outcome
  seen_same (Ok done) = refl
  seen_same (Err fault) = refl

  pub step_seeks : (key : List ℕ) (was now : Option (List ℕ)) (outcome : Result (Unit {0}) KvFault) (result : Result Answer Status)
      → SaysBy (λ (done : Unit {0}). says (quoted key)) outcome result → Does g (λ (done : Unit {0}). done) (sought key) old new outcome → OnOk outcome (now ≡ Some key) → IsMoved was now outcome
      → (before : Option (List ℕ)) → IfOk result (DoesAsAsked g (reading (seeks_key key)) old new before (option_map (stored_key Keys) now))
  step_seeks key was now outcome (Ok answer) says_by does at moved before = λ s tells.
      let both = said_is (λ (done : Unit {0}). done) (λ (done : Unit {0}). says (quoted key)) outcome (said_in answer) says_by.said in
      let did = does s tells both.1 in
      let found : outcome ≡ (sought key s).0 = sym (seen_same outcome) ∙ did.0 in
      let stays = sought_stays (key_checked key) (λ (s : Session Stored). if contains_key s.present (stored_key Keys key) then Ok tt else Err NotFound) s in
      (both.0 ∙ ap (said_at (λ (done : Unit {0}). says (quoted key))) did.0, subst (Tells g new) stays did.1, place_is key was now outcome at moved both.1 ∙ ap (place_sought key) found)
  step_seeks key was now outcome (Err status) says_by does at moved before = tt

  -- ---- what a command leaves, by the call of the store that it makes

  no_error : (answer : Answer) (status : Status) → ◌≡◌ {A = Result Answer Status} (Ok answer) (Err status) → ⊥
  no_error answer status is = cc

  same_status : (a b : Status) → ◌≡◌ {A = Result Answer Status} (Err a) (Err b) → a ≡ b
  same_status a b is = cc

  pub leaves : {T : Type 0} (asked : Request) (was : Option (List ℕ)) (say : T → Said) (outcome : Result T KvFault) (result : Result Answer Status) → SaysBy say outcome result
      → closed_of g old ≡ None → KeepsKv g old new → HasCauses g old new outcome → LeavesEither g asked old new was
      → (asked.writes ≡ false → IsStill g (disk_of g old).now (disk_of g new).now)
      → (asked.writes ≡ false → is_begun_of g old ≡ false → is_begun_of g new ≡ false)
      → (is_begun_of g old ≡ false → LeavesAlike g (disk_of g old).now (disk_of g new).now)
      → Leaves g asked old new was result
  leaves asked was say outcome (Ok answer) says unclosed keeps causes stop still idle kept = record {
    same_reference = keeps.same_reference;
    limits = keeps.limits;
    stop = stop;
    still = still;
    kept = kept;
    idle = idle;
    later = causes.later;
    disk = λ is. absurd (no_error answer Disk is);
    corrupt = λ is. absurd (no_error answer NotDatabase is);
    others = tt;
  }
  leaves asked was say outcome (Err status) says unclosed keeps causes stop still idle kept = record {
    same_reference = keeps.same_reference;
    limits = keeps.limits;
    stop = stop;
    still = still;
    kept = kept;
    idle = idle;
    later = causes.later;
    disk = λ is. step_disk say outcome status says unclosed causes (same_status status Disk is);
    corrupt = λ is. step_corrupt say outcome status says unclosed causes (same_status status NotDatabase is);
    others = step_others say outcome status says unclosed causes;
  }

  -- a call that saves nothing leaves what was saved
  pub stop_saved : (asked : Request) (was : Option (List ℕ)) → LeavesSaved g old new → LeavesEither g asked old new was
  stop_saved asked was stop = λ s tells.
      weaker g (RecoversTo s.saved) (RecoversToEither s.saved _) (disk_of g old).now (disk_of g new).now (λ files was. inl was) (stop s tells)

  -- a commit saves what is there, where one is begun; else that is what was saved
  what_is_saved : (begun : Bool) (s : Session Stored) → (begun ≡ false → s.present ≡ s.saved) → (files : Files) → RecoversToEither s.saved s.present files
      → RecoversToEither s.saved (if begun then opened s.present else s).saved files
  what_is_saved true s idle files either = either
  what_is_saved false s idle files (inl was) = inl was
  what_is_saved false s idle files (inr now) = inl (subst (λ (it : Stored). RecoversTo it files) (idle refl) now)

  pub stop_commit : (was : Option (List ℕ)) → LeavesSavedOrPresent g old (disk_of g new) → LeavesEither g (writing (beside commits_one)) old new was
  stop_commit was stop = λ s tells.
      weaker g (RecoversToEither s.saved s.present) (RecoversToEither s.saved _) (disk_of g old).now (disk_of g new).now (what_is_saved s.begun s tells.idle) (stop s tells)

-- words that ask nothing of the store make no call
pub leaves_here : {D : Type 0} (g : Ghosts D) (laws : Laws g) (it : Kv D g) (asked : Request) (was : Option (List ℕ)) (answer : Answer) → Leaves g {T = Answer} asked it it was (Ok answer)
leaves_here g laws it asked was answer = record {
  same_reference = refl;
  limits = refl;
  stop = λ s tells.
      let holds = holds_saved g it s tells in
      started g (RecoversToEither s.saved _) laws.only_now (disk_of g it).now (λ files may. inl (subst (RecoversTo s.saved) (sym (holds.settled files may)) holds.recovers));
  still = λ _. still_here g laws (disk_of g it).now;
  kept = λ _. alike_here g laws (disk_of g it).now;
  idle = λ _ none. none;
  later = omega arith;
  disk = λ is. absurd (no_error answer Disk is);
  corrupt = λ is. absurd (no_error answer NotDatabase is);
  others = tt;
}
  where
    no_error : (answer : Answer) (status : Status) → ◌≡◌ {A = Result Answer Status} (Ok answer) (Err status) → ⊥
    no_error answer status is = cc

-- a script that was not run makes no call either, and there may be no memory for its reply
pub leaves_unrun : {D : Type 0} (g : Ghosts D) (laws : Laws g) (it : Kv D g) (asked : Request) (was : Option (List ℕ)) (said : Said) (result : Result Answer Status) → SaysBy {T = Unit {0}} (λ _. said) (Ok tt) result
    → Leaves g {T = Answer} asked it it was result
leaves_unrun g laws it asked was said (Ok answer) says_it = leaves_here g laws it asked was answer
leaves_unrun g laws it asked was said (Err status) says_it =
    let here = leaves_here g laws it asked was (record { reply = reply.Ok; commits = false }) in
    let memory : status ≡ Memory = elim says_it.ends [ inl is ↦ is | inr other ↦ absurd (cc) ] in
    record {
      same_reference = refl;
      limits = refl;
      stop = here.stop;
      still = here.still;
      kept = here.kept;
      idle = here.idle;
      later = omega arith;
      disk = λ is. absurd (let same : status ≡ Disk = cc in let both : Memory ≡ Disk = sym memory ∙ same in cc);
      corrupt = λ is. absurd (let same : status ≡ NotDatabase = cc in let both : Memory ≡ NotDatabase = sym memory ∙ same in cc);
      others = inr (inr memory);
    }
