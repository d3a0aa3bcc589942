-- The commands: a table of their names and forms, and what each means over a session and the place of the cursor.
use Rattle.std.specs.Prelude.{ℕ, drop, Bool, true, false, bytes_eq, if◌then◌else◌, List, [], ◌∷◌, ◌++◌, Option, Some, None, Result, Ok, Err}
use Rattle.uq_json.specs.Quote.{quoted}
use Rattle.std.specs.Prelude.{codes}
use Rattle.uq_model.specs.Session.{Call, Session, begun, committed, rolled_back}
use Rattle.uq_model.specs.declared.limits.Limits.{Limits}
use Rattle.uq_kv.specs.Calls.{appends, deletes, fetches, stores}
use Rattle.uq_kv.specs.Cursor.{data_at, deletes_at, is_valid, key_at, sought}
use Rattle.uq_kv.specs.Stored.{Stored, stored_key}
use Rattle.uq_kv.specs.declared.error.KvFault.{KvFault}
use Rattle.uq_kv.specs.declared.space.Space.TheVariants.{Keys}
use Rattle.uq_shell.specs.Events.{Event, Out, Commit}
use Rattle.uq_shell.specs.Failures.{fails}
use Rattle.uq_shell.specs.Line.{line_after}
use Rattle.uq_shell.specs.Replies.{Said, refuses, says, says_ok, taken_as}
use Rattle.uq_shell.specs.Statuses.{row}
use Rattle.uq_shell.specs.Walks.{first_key, last_key, next_key, prev_key}
use Rattle.uq_shell.specs.declared.failure.Failure.{Failure}
use Rattle.uq_shell.specs.declared.reply.Refusal.{Refusal}
use Rattle.uq_shell.specs.declared.reply.Refusal.TheVariants.{BadCommand, NoEntry, UnknownCommand}
use Rattle.uq_shell.specs.declared.status.Status.{Status}

-- where a command stands: a session, and the stored key at which the cursor is; None where it is unset
pub record Desk : Type 0 where
  pub session : Session Stored
  pub cursor : Option (List ℕ)

-- what words ask for: whether it may write, and what it says and makes of a desk
pub record Request : Type 0 where
  pub writes : Bool
  pub does : Limits → Desk → Said × Desk

-- a call that knows nothing of the cursor
abbrev pub beside : (Limits → Call Stored Said) → Limits → Desk → Said × Desk
beside call limits desk = ((call limits desk.session).0, record { session = (call limits desk.session).1; cursor = desk.cursor })

-- a call at the key of the cursor, which leaves the cursor
abbrev pub at_cursor : (Option (List ℕ) → Call Stored Said) → Limits → Desk → Said × Desk
at_cursor call limits desk = beside (λ _. call desk.cursor) limits desk

abbrev pub reading : (Limits → Desk → Said × Desk) → Request
reading does = record { writes = false; does = does }

abbrev pub writing : (Limits → Desk → Said × Desk) → Request
writing does = record { writes = true; does = does }

-- ---- the meaning of each command

-- a refusal of the store is replied; its definitions give no other fault
abbrev pub refused_by : Result Refusal Status → Said
refused_by (Ok refusal) = refuses refusal
refused_by (Err status) = record { commits = false; text = (row status).text; is_refusal = true }

-- what is said at Ok, or the refusal
abbrev pub said_at : {T : Type 0} → (T → Said) → Result T KvFault → Said
said_at say (Ok value) = say value
said_at say (Err fault) = refused_by (taken_as fault)

-- a call of the store, with what is said of its answer
abbrev pub saying : {T : Type 0} → (T → Said) → Call Stored (Result T KvFault) → Call Stored Said
saying say call s = (said_at say (call s).0, (call s).1)

abbrev pub stores_key : List ℕ → List ℕ → Limits → Call Stored Said
stores_key key value limits = saying (λ _. says_ok) (stores limits Keys key value)

abbrev pub appends_key : List ℕ → List ℕ → Limits → Call Stored Said
appends_key key more limits = saying (λ _. says_ok) (appends limits Keys key more)

-- the data, as a JSON string
abbrev pub fetches_key : List ℕ → Limits → Call Stored Said
fetches_key key limits = saying (λ found. says (quoted found)) (fetches Keys key)

abbrev pub deletes_key : List ℕ → Limits → Call Stored Said
deletes_key key limits = saying (λ _. says_ok) (deletes Keys key)

abbrev pub begins_one : Limits → Call Stored Said
begins_one limits s = (says_ok, begun s)

-- the commit stands before the reply, where a transaction is begun
abbrev pub commits_one : Limits → Call Stored Said
commits_one limits s = (record says_ok { commits = s.begun }, committed s)

abbrev pub rolls_back_one : Limits → Call Stored Said
rolls_back_one limits s = (says_ok, rolled_back s)

abbrev pub refuses_words : Refusal → Request
refuses_words refusal = reading (λ limits desk. (refuses refusal, desk))

-- the end of a script that is not run or does not end as done
abbrev pub fails_by : Failure → Request
fails_by failure = reading (beside (λ _. fails failure))

-- ---- the cursor

-- the user's key, as a JSON string; a stored key has one byte before it
abbrev pub says_key : Option (List ℕ) → Said
says_key None = refuses NoEntry
says_key (Some stored) = says (quoted (drop 1 stored))

-- it goes there; where there is none it is unset
abbrev pub goes_to : (Option (List ℕ) → Stored → Option (List ℕ)) → Limits → Desk → Said × Desk
goes_to place limits desk =
    (says_key (place desk.cursor desk.session.present), record { session = desk.session; cursor = place desk.cursor desk.session.present })

-- to a key that is there; a refusal unsets it
abbrev pub place_sought : List ℕ → Result (Unit {0}) KvFault → Option (List ℕ)
place_sought key (Ok done) = Some (stored_key Keys key)
place_sought key (Err fault) = None

abbrev pub seeks_key : List ℕ → Limits → Desk → Said × Desk
seeks_key key limits desk =
    let found = (sought key desk.session).0 in
    (said_at (λ _. says (quoted key)) found, record { session = desk.session; cursor = place_sought key found })

abbrev pub tells_key : Option (List ℕ) → Call Stored Said
tells_key at = saying (λ key. says (quoted key)) (key_at at)

abbrev pub tells_data : Option (List ℕ) → Call Stored Said
tells_data at = saying (λ found. says (quoted found)) (data_at at)

abbrev pub drops_entry : Option (List ℕ) → Call Stored Said
drops_entry at = saying (λ _. says_ok) (deletes_at at)

abbrev pub says_truth : Bool → Said
says_truth true = says (codes "yes")
says_truth false = says (codes "no")

abbrev pub tells_valid : Option (List ℕ) → Call Stored Said
tells_valid at = saying says_truth (is_valid at)

abbrev pub resets_cursor : Limits → Desk → Said × Desk
resets_cursor limits desk = (says_ok, record { session = desk.session; cursor = None })

-- ---- the table

-- the words that stand behind a name, and what they then ask for
pub data Form : Type 0 where
  NoWord : Request → Form
  OneWord : (List ℕ → Request) → Form
  TwoWords : (List ℕ → List ℕ → Request) → Form

-- a command: its name, and the form of its words with what they ask for
pub record Row : Type 0 where
  pub name : List ℕ
  pub form : Form

abbrev row_of : List ℕ → Form → Row
row_of name form = record { name = name; form = form }

abbrev pub commands : List Row
commands =
    row_of (codes "store") (TwoWords (λ key value. writing (beside (stores_key key value))))
    ∷ row_of (codes "append") (TwoWords (λ key more. writing (beside (appends_key key more))))
    ∷ row_of (codes "fetch") (OneWord (λ key. reading (beside (fetches_key key))))
    ∷ row_of (codes "delete") (OneWord (λ key. writing (beside (deletes_key key))))
    ∷ row_of (codes "begin") (NoWord (writing (beside begins_one)))
    ∷ row_of (codes "commit") (NoWord (writing (beside commits_one)))
    ∷ row_of (codes "rollback") (NoWord (reading (beside rolls_back_one)))
    ∷ row_of (codes "seek") (OneWord (λ key. reading (seeks_key key)))
    ∷ row_of (codes "first") (NoWord (reading (goes_to first_key)))
    ∷ row_of (codes "last") (NoWord (reading (goes_to last_key)))
    ∷ row_of (codes "next") (NoWord (reading (goes_to next_key)))
    ∷ row_of (codes "prev") (NoWord (reading (goes_to prev_key)))
    ∷ row_of (codes "key") (NoWord (reading (at_cursor tells_key)))
    ∷ row_of (codes "data") (NoWord (reading (at_cursor tells_data)))
    ∷ row_of (codes "drop") (NoWord (writing (at_cursor drops_entry)))
    ∷ row_of (codes "valid") (NoWord (reading (at_cursor tells_valid)))
    ∷ row_of (codes "reset") (NoWord (reading resets_cursor))
    -- alone on a line it begins a block, and alone among the program's words a script: then it is no command
    ∷ row_of (codes "script") (NoWord (refuses_words BadCommand))
    ∷ []

-- the words in this form; another number of words is refused
abbrev pub filled : Form → List (List ℕ) → Request
filled (NoWord request) [] = request
filled (OneWord request) (word ∷ []) = request word
filled (TwoWords request) (word ∷ next ∷ []) = request word next
filled form words = refuses_words BadCommand

-- the form of the row with this name, where there is one
abbrev pub form_named : List Row → List ℕ → Option Form
form_named [] name = None
form_named (first ∷ rest) name = if bytes_eq name first.name then Some first.form else form_named rest name

-- words behind a name, in its form
abbrev pub filled_by : Option Form → List (List ℕ) → Request
filled_by None words = refuses_words UnknownCommand
filled_by (Some form) words = filled form words

-- a name and its words; no word at all is refused
abbrev pub request : List (List ℕ) → Request
request [] = refuses_words BadCommand
request (name ∷ words) = filled_by (form_named commands name) words

-- ---- events

-- the commit of what was there, where one stands before the reply
abbrev pub commit_before : Session Stored → Said → List Event
commit_before s said = if said.commits then Commit s.present ∷ [] else []

-- the events of a command over a session; its reply is a line behind what was written last
abbrev pub events_of : Option ℕ → Session Stored → Said → List Event
events_of last s said = commit_before s said ++ Out (line_after last said.text) ∷ []
