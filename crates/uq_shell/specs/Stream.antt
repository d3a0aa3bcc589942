-- What a run over words and an input means.
use Rattle.std.specs.Prelude.{ℕ, Bool, true, false, ◌||◌, bytes_eq, nat_lt, codes, if◌then◌else◌, List, [], ◌∷◌, ◌++◌, ◌+◌, length, take, Option, Some, None}
use Rattle.std.specs.List.{flat_map}
use Rattle.uq_value.specs.Data.{Bytes}
use Rattle.uq_model.specs.Session.{opened}
use Rattle.uq_model.specs.declared.limits.Limits.{Limits}
use Rattle.uq_kv.specs.Stored.{Stored}
use Rattle.uq_words.specs.Blocks.{Whole, Complete, Overlong, Unended, closes, kept_script, whole, with_feed}
use Rattle.uq_words.specs.Lines.{Spoken, Silent, TooLong, NoWords, Says, lines, spoken}
use Rattle.uq_words.specs.Options.{Asked, order_of_words}
use Rattle.uq_shell.specs.Commands.{Desk, Request, events_of, fails_by, refuses_words, request}
use Rattle.uq_shell.specs.Events.{Event, bytes_of}
use Rattle.uq_shell.specs.Line.{last_byte}
use Rattle.uq_shell.specs.Run.{Outcome, ended_with}
use Rattle.uq_shell.specs.Scripts.{Played, played_by}
use Rattle.uq_shell.specs.Verdicts.{Judge}
use Rattle.uq_shell.specs.declared.failure.Failure.{Failure}
use Rattle.uq_shell.specs.declared.reply.Refusal.TheVariants.{BadCommand, LineTooLong, ScriptTooLong, UnfinishedScript}
use Rattle.uq_shell.specs.declared.status.Status.TheVariants.{TooMuchInput, Usage}
use Rattle.uq_shell.specs.declared.terms.Terms.{Terms}

-- where a run stands: its events so far, the session and the cursor, whether a reply was a refusal, and the units that its scripts took
pub record State : Type 0 where
  pub events : List Event
  pub desk : Desk
  pub is_refused : Bool
  pub units : ℕ

-- nothing is begun, over what is stored at entry, and the cursor is unset
abbrev pub start : Stored → State
start entry = record { events = []; desk = record { session = opened entry; cursor = None }; is_refused = false; units = 0 }

-- ---- one command, and one script

-- what was written last
abbrev pub written_last : State → Option ℕ
written_last state = last_byte (flat_map bytes_of state.events)

abbrev pub obeyed_in : Limits → State → Request → State
obeyed_in limits state asked =
    let did = asked.does limits state.desk in
    record {
      events = state.events ++ events_of (written_last state) state.desk.session did.0;
      desk = did.1;
      is_refused = state.is_refused || did.0.is_refusal;
      units = state.units;
    }

abbrev pub after : Limits → State → Option Request → State
after limits state None = state
after limits state (Some asked) = obeyed_in limits state asked

-- behind the events of a script
abbrev pub performed_in : State → Played → State
performed_in state it = record {
  events = state.events ++ it.events;
  desk = state.desk;
  is_refused = state.is_refused;
  units = state.units + it.units;
}

-- and behind its reply, where it is not done
abbrev pub failed_in : Limits → State → Option Failure → State
failed_in limits state None = state
failed_in limits state (Some failure) = obeyed_in limits state (fails_by failure)

abbrev pub played_in : Limits → State → Played → State
played_in limits state it = failed_in limits (performed_in state it) it.failure

-- a script of this text; None where it is longer than a script may be
abbrev pub script_in : Judge → Terms → State → Option Bytes → State
script_in judge terms state None = obeyed_in terms.limits state (refuses_words ScriptTooLong)
script_in judge terms state (Some text) = played_in terms.limits state (played_by terms (judge text))

-- ---- one line

-- one word, which is `script`
abbrev pub is_script : List Bytes → Bool
is_script [] = false
is_script (word ∷ []) = bytes_eq word (codes "script")
is_script (word ∷ next ∷ words) = false

-- a line with that word begins a block
abbrev pub begins_block : Spoken → Bool
begins_block Silent = false
begins_block TooLong = false
begins_block NoWords = false
begins_block (Says words) = is_script words

-- what any other line asks for, where it says anything
abbrev pub asked_by : Spoken → Option Request
asked_by Silent = None
asked_by TooLong = Some (refuses_words LineTooLong)
asked_by NoWords = Some (refuses_words BadCommand)
asked_by (Says words) = Some (request words)

-- where a run over lines stands: within a block it has the text of that so far
pub record Hearing : Type 0 where
  pub state : State
  pub block : Option Bytes

abbrev pub listening : State → Hearing
listening state = record { state = state; block = None }

abbrev pub within : State → Bytes → Hearing
within state text = record { state = state; block = Some text }

module _ (judge : Judge) (terms : Terms) where
  -- a line, without its line feed; a block goes up to a line that closes it
  abbrev pub heard_in : State → Option Bytes → Bytes → Hearing
  heard_in state None raw = if begins_block (spoken raw) then within state [] else listening (after terms.limits state (asked_by (spoken raw)))
  heard_in state (Some text) raw = if closes raw then listening (script_in judge terms state (kept_script text)) else within state (text ++ with_feed raw)

  abbrev pub heard : Hearing → Bytes → Hearing
  heard hearing raw = heard_in hearing.state hearing.block raw

  -- lines, one behind another
  abbrev pub heard_all : Hearing → List Bytes → Hearing
  heard_all hearing [] = hearing
  heard_all hearing (raw ∷ others) = heard_all (heard hearing raw) others

-- ---- the end

-- where the input ends within a block
abbrev pub finished_in : Limits → State → Option Bytes → State
finished_in limits state None = state
finished_in limits state (Some text) = obeyed_in limits state (refuses_words UnfinishedScript)

abbrev pub finished : Limits → Hearing → State
finished limits hearing = finished_in limits hearing.state hearing.block

-- what is begun is committed at the end of the input
abbrev pub at_end : State → Outcome
at_end state = ended_with state.events state.desk.session state.is_refused state.units

-- where more input is left than is read, nothing more is committed
abbrev pub cut_off : State → Outcome
cut_off state = record { events = state.events; status = TooMuchInput; units = state.units }

abbrev pub but_last : List (List ℕ) → List (List ℕ)
but_last [] = []
but_last (line ∷ []) = []
but_last (line ∷ next ∷ others) = line ∷ but_last (next ∷ others)

-- ---- the input

-- what the words make of the input
pub data Mode : Type 0 where
  -- commands and blocks, line by line
  OfLines : Mode
  -- one script
  OfScript : Mode
  -- nothing: the words are a command
  OfWords : List Bytes → Mode

abbrev pub mode_of : List Bytes → Mode
mode_of [] = OfLines
mode_of (name ∷ words) = if is_script (name ∷ words) then OfScript else OfWords (name ∷ words)

module _ (judge : Judge) (terms : Terms) where
  -- Of an input the first `most` bytes are read. Where that is all of it, the bytes behind the last line feed are a line too;
  -- where it is not, they are part of one that is not at its end.
  abbrev pub run_from : Hearing → ℕ → Bytes → Outcome
  run_from hearing most input =
      let read = lines (take most input) in
      if nat_lt (length input) most then at_end (finished terms.limits (heard_all judge terms hearing read))
      else cut_off (heard_all judge terms hearing (but_last read)).state

  -- an input that is one script
  abbrev pub run_whole : State → Whole → Outcome
  run_whole state (Complete text) = at_end (script_in judge terms state (Some text))
  run_whole state Overlong = at_end (script_in judge terms state None)
  run_whole state Unended = cut_off state

  abbrev pub run_by : State → Mode → ℕ → Bytes → Outcome
  run_by state OfLines most input = run_from (listening state) most input
  run_by state OfScript most input = run_whole state (whole most input)
  run_by state (OfWords words) most input = at_end (obeyed_in terms.limits state (request words))

-- ---- a whole run

abbrev pub terms_in : Asked → Terms
terms_in asked = record { limits = record { entries = asked.max_entries; bytes = asked.max_bytes }; budget = asked.budget }

abbrev pub run_in : Judge → Option Asked → ℕ → Bytes → Stored → Outcome
run_in judge None most input entry = record { events = []; status = Usage; units = 0 }
run_in judge (Some asked) most input entry = run_by judge (terms_in asked) (start entry) (mode_of asked.words) most input

abbrev pub run_within : Judge → List Bytes → ℕ → Bytes → Stored → Outcome
run_within judge words most input entry = run_in judge (order_of_words words) most input entry
