-- What the code has read, as what it asks for; and how it answers that.
use Rattle.std.specs.Prelude.{◌≡◌, ◌⊎◌, ◌≤◌, false, Result, Ok, Err, IfOk, IfErr, ℕ, List, Option}
use Rattle.uq_facts.specs.Causes.{AtErr, Rose}
use Rattle.uq_outside.specs.declared.disk.Disk.{Ghosts}
use Rattle.uq_outside.specs.Since.{After, LeavesOnly}
use Rattle.uq_journal.specs.Calls.{IsStill, RecoversAs}
use Rattle.uq_model.specs.Session.{Session}
use Rattle.uq_kv.specs.declared.kv.Kv.{Kv}
use Rattle.uq_kv.specs.Holds.{RecoversToEither}
use Rattle.uq_kv.specs.Kv.{Tells, disk_of, is_begun_of, limits_of}
use Rattle.uq_kv.specs.Stored.{Stored}
use Rattle.uq_shell.specs.Commands.{Desk, Form, NoWord, OneWord, TwoWords, Request, at_cursor, beside, reading, refuses_words, writing}
use Rattle.uq_shell.specs.Commands.{appends_key, begins_one, commits_one, deletes_key, fetches_key, rolls_back_one, stores_key}
use Rattle.uq_shell.specs.Commands.{drops_entry, fails_by, goes_to, resets_cursor, seeks_key, tells_data, tells_key, tells_valid}
use Rattle.uq_kv.specs.declared.error.KvFault.{KvFault}
use Rattle.uq_shell.specs.Replies.{Said, refuses, said_in, taken_as}
use Rattle.uq_shell.specs.declared.reply.Refusal.{Refusal}
use Rattle.uq_shell.specs.declared.reply.Refusal.TheVariants.{BadCommand}
use Rattle.uq_shell.specs.declared.answering.Answer.{Answer}
use Rattle.uq_shell.specs.declared.command.Command.{Command}
use Rattle.uq_shell.specs.declared.command.Command.TheVariants.{Store, Append, Fetch, Delete, Begin, Commit, Rollback}
use Rattle.uq_shell.specs.declared.command.Command.TheVariants.{Seek, Go, Key, Data, Drop, Valid, Reset, Refused, Failed}
use Rattle.uq_shell.specs.declared.command.Verb.{Verb}
use Rattle.uq_shell.specs.declared.command.Verb.TheVariants as verb
use Rattle.uq_shell.specs.Moves.{place_by}
use Rattle.uq_shell.specs.declared.status.Status.{Status}
use Rattle.uq_shell.specs.declared.status.Status.TheVariants.{Disk, NotDatabase, Memory}

abbrev pub request_of : Command → Request
request_of (Store key value) = writing (beside (stores_key key.now value.now))
request_of (Append key more) = writing (beside (appends_key key.now more.now))
request_of (Fetch key) = reading (beside (fetches_key key.now))
request_of (Delete key) = writing (beside (deletes_key key.now))
request_of Begin = writing (beside begins_one)
request_of Commit = writing (beside commits_one)
request_of Rollback = reading (beside rolls_back_one)
request_of (Seek key) = reading (seeks_key key.now)
request_of (Go to) = reading (goes_to (place_by to))
request_of Key = reading (at_cursor tells_key)
request_of Data = reading (at_cursor tells_data)
request_of Drop = writing (at_cursor drops_entry)
request_of Valid = reading (at_cursor tells_valid)
request_of Reset = reading resets_cursor
request_of (Refused refusal) = refuses_words refusal
request_of (Failed failure) = fails_by failure

-- a command without its words
abbrev pub form_of : Verb → Form
form_of verb.Store = TwoWords (λ key value. writing (beside (stores_key key value)))
form_of verb.Append = TwoWords (λ key more. writing (beside (appends_key key more)))
form_of verb.Fetch = OneWord (λ key. reading (beside (fetches_key key)))
form_of verb.Delete = OneWord (λ key. writing (beside (deletes_key key)))
form_of verb.Begin = NoWord (writing (beside begins_one))
form_of verb.Commit = NoWord (writing (beside commits_one))
form_of verb.Rollback = NoWord (reading (beside rolls_back_one))
form_of verb.Seek = OneWord (λ key. reading (seeks_key key))
form_of (verb.Go to) = NoWord (reading (goes_to (place_by to)))
form_of verb.Key = NoWord (reading (at_cursor tells_key))
form_of verb.Data = NoWord (reading (at_cursor tells_data))
form_of verb.Drop = NoWord (writing (at_cursor drops_entry))
form_of verb.Valid = NoWord (reading (at_cursor tells_valid))
form_of verb.Reset = NoWord (reading resets_cursor)
form_of verb.Script = NoWord (refuses_words BadCommand)

-- ---- what is said of an answer of the store

-- a refusal is said, and another fault ends the run
abbrev pub refused_as : Result Refusal Status → Result Said Status
refused_as (Ok refusal) = Ok (refuses refusal)
refused_as (Err status) = Err status

abbrev pub said_by : {T : Type 0} → (T → Said) → Result T KvFault → Result Said Status
said_by say (Ok value) = Ok (say value)
said_by say (Err fault) = refused_as (taken_as fault)

-- the answer says it, or the run ends by the fault or for want of memory
pub record SaysBy {T : Type 0} (say : T → Said) (outcome : Result T KvFault) (result : Result Answer Status) : Type 0 where
  pub said : IfOk result (λ answer. said_by say outcome ≡ Ok (said_in answer))
  pub ends : IfErr result (λ status. (status ≡ Memory) ⊎ (said_by say outcome ≡ Err status))

-- the same of a fault alone
pub record RefusesBy (fault : KvFault) (result : Result Answer Status) : Type 0 where
  pub said : IfOk result (λ answer. refused_as (taken_as fault) ≡ Ok (said_in answer))
  pub ends : IfErr result (λ status. refused_as (taken_as fault) ≡ Err status)

-- ---- what a command does to a store, and leaves of it

-- A stop within leaves files that recover to what a stop before could leave.
abbrev pub LeavesAlike : {D : Type 0} → Ghosts D → D → D → Type 0
LeavesAlike g old new = LeavesOnly g old new (After g old RecoversAs)

-- the desk of this session, with the cursor at this place
abbrev pub desk_at : Session Stored → Option (List ℕ) → Desk
desk_at s place = record { session = s; cursor = place }

module _ {D : Type 0} (g : Ghosts D) where
  -- Where the session is told, what is said is what is meant, and so are the session and the cursor after it.
  abbrev pub DoesAsAsked : Request → Kv D g → Kv D g → Option (List ℕ) → Option (List ℕ) → Answer → Type 0
  DoesAsAsked asked old new was now answer =
      (s : Session Stored) → Tells g old s
      → (said_in answer ≡ (asked.does (limits_of g old) (desk_at s was)).0) × Tells g new (asked.does (limits_of g old) (desk_at s was)).1.session
      × (now ≡ (asked.does (limits_of g old) (desk_at s was)).1.cursor)

  -- A stop within leaves what was saved, or what is saved behind it.
  abbrev pub LeavesEither : Request → Kv D g → Kv D g → Option (List ℕ) → Type 0
  LeavesEither asked old new was =
      (s : Session Stored) → Tells g old s
      → LeavesOnly g (disk_of g old).now (disk_of g new).now (RecoversToEither s.saved (asked.does (limits_of g old) (desk_at s was)).1.session.saved)

  -- what a command leaves, whatever it answers
  pub record Leaves {T : Type 0} (asked : Request) (old new : Kv D g) (was : Option (List ℕ)) (result : Result T Status) : Type 0 where
    pub same_reference : (disk_of g new).ghost_name ≡ (disk_of g old).ghost_name
    pub limits : limits_of g new ≡ limits_of g old
    pub stop : LeavesEither asked old new was
    -- what writes nothing leaves the disk as it is, and what begins a transaction what the files recover to
    pub still : asked.writes ≡ false → IsStill g (disk_of g old).now (disk_of g new).now
    pub kept : is_begun_of g old ≡ false → LeavesAlike g (disk_of g old).now (disk_of g new).now
    pub idle : asked.writes ≡ false → is_begun_of g old ≡ false → is_begun_of g new ≡ false
    -- each status comes only for its cause, and no other
    pub later : g.faults (disk_of g old).now ≤ g.faults (disk_of g new).now
    pub disk : AtErr Disk result (Rose (g.faults (disk_of g old).now) (g.faults (disk_of g new).now))
    pub corrupt : AtErr NotDatabase result ((s : Session Stored) → Tells g old s → ⊥)
    pub others : IfErr result (λ status. (status ≡ Disk) ⊎ ((status ≡ NotDatabase) ⊎ (status ≡ Memory)))
