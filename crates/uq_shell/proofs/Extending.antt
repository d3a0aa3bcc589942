-- A run has the events of the state from which it goes on, and others.
use Rattle.std.proofs.Common.{◌≡◌, ℕ, Bool, true, false, ltb, if◌then◌else◌, List, [], ◌∷◌, ◌++◌, length, take, Option, Some, None, refl, sym, ap, ◌∙◌, append-nil, append_assoc}
use Rattle.uq_value.specs.Data.{Bytes}
use Rattle.uq_model.specs.declared.limits.Limits.{Limits}
use Rattle.uq_words.specs.Blocks.{Whole, Complete, Overlong, Unended, closes, kept_script, whole, with_feed}
use Rattle.uq_words.specs.Lines.{lines, spoken}
use Rattle.uq_shell.specs.Asks.{Asking, OfBlock, OfLine, asked_in}
use Rattle.uq_shell.specs.Commands.{Request, events_of, fails_by, refuses_words}
use Rattle.uq_shell.specs.Events.{Event}
use Rattle.uq_shell.specs.Run.{commit_at_end}
use Rattle.uq_shell.specs.Scripts.{Played, played_by}
use Rattle.uq_shell.specs.Stream.{Hearing, State, after, asked_by, at_end, begins_block, but_last, cut_off, failed_in, finished, finished_in, heard, heard_all, heard_in, listening, obeyed_in, performed_in, played_in, run_from, run_whole, script_in, within, written_last}
use Rattle.uq_shell.specs.Verdicts.{Judge}
use Rattle.uq_shell.specs.declared.failure.Failure.{Failure}
use Rattle.uq_shell.specs.declared.reply.Refusal.TheVariants.{ScriptTooLong, UnfinishedScript}
use Rattle.uq_shell.specs.declared.terms.Terms.{Terms}

abbrev pub Extends : State → List Event → Type 0
Extends state events = (more : List Event) × (events ≡ state.events ++ more)

none_more : (state : State) → Extends state state.events
none_more state = ([], sym (append-nil state.events))

extends_on : (state mid : State) (events : List Event) → Extends state mid.events → Extends mid events → Extends state events
extends_on state mid events first rest = (first.0 ++ rest.0, rest.1 ∙ ap (λ (l : List Event). l ++ rest.0) first.1 ∙ append_assoc state.events first.0 rest.0)

-- ---- commands and scripts

obeyed_extends : (limits : Limits) (state : State) (asked : Request) → Extends state (obeyed_in limits state asked).events
obeyed_extends limits state asked = (events_of (written_last state) state.desk.session (asked.does limits state.desk).0, refl)

pub after_extends : (limits : Limits) (state : State) (asked : Option Request) → Extends state (after limits state asked).events
after_extends limits state None = none_more state
after_extends limits state (Some asked) = obeyed_extends limits state asked

pub failed_extends : (limits : Limits) (state : State) (failure : Option Failure) → Extends state (failed_in limits state failure).events
failed_extends limits state None = none_more state
failed_extends limits state (Some failure) = obeyed_extends limits state (fails_by failure)

pub played_extends : (limits : Limits) (state : State) (it : Played) → Extends state (played_in limits state it).events
played_extends limits state it =
    let mid : State = performed_in state it in
    extends_on state mid (played_in limits state it).events (it.events, refl) (failed_extends limits mid it.failure)

pub script_extends : (judge : Judge) (terms : Terms) (state : State) (text : Option Bytes) → Extends state (script_in judge terms state text).events
script_extends judge terms state None = obeyed_extends terms.limits state (refuses_words ScriptTooLong)
script_extends judge terms state (Some text) = played_extends terms.limits state (played_by terms (judge text))

pub asked_extends : (judge : Judge) (terms : Terms) (state : State) (asking : Asking) → Extends state (asked_in judge terms state asking).events
asked_extends judge terms state (OfLine asked) = after_extends terms.limits state asked
asked_extends judge terms state (OfBlock text) = script_extends judge terms state text

-- ---- lines

either_extends : (state : State) (b : Bool) (one other : Hearing) → Extends state one.state.events → Extends state other.state.events → Extends state (if b then one else other).state.events
either_extends state true one other first second = first
either_extends state false one other first second = second

module _ (judge : Judge) (terms : Terms) where
  in_extends : (state : State) (block : Option Bytes) (raw : Bytes) → Extends state (heard_in judge terms state block raw).state.events
  in_extends state None raw =
      either_extends state (begins_block (spoken raw)) (within state []) (listening (after terms.limits state (asked_by (spoken raw)))) (none_more state) (after_extends terms.limits state (asked_by (spoken raw)))
  in_extends state (Some text) raw =
      either_extends state (closes raw) (listening (script_in judge terms state (kept_script text))) (within state (text ++ with_feed raw)) (script_extends judge terms state (kept_script text)) (none_more state)

  all_extends : (hearing : Hearing) (read : List Bytes) → Extends hearing.state (heard_all judge terms hearing read).state.events
  all_extends hearing [] = none_more hearing.state
  all_extends hearing (raw ∷ others) =
      let next : Hearing = heard judge terms hearing raw in
      extends_on hearing.state next.state (heard_all judge terms next others).state.events (in_extends hearing.state hearing.block raw) (all_extends next others)

  finished_extends : (state : State) (block : Option Bytes) → Extends state (finished_in terms.limits state block).events
  finished_extends state None = none_more state
  finished_extends state (Some text) = obeyed_extends terms.limits state (refuses_words UnfinishedScript)

  pub end_extends : (state : State) → Extends state (at_end state).events
  end_extends state = (commit_at_end state.desk.session, refl)

  ends_extends : (hearing : Hearing) (read : List Bytes) → Extends hearing.state (at_end (finished terms.limits (heard_all judge terms hearing read))).events
  ends_extends hearing read =
      let all : Hearing = heard_all judge terms hearing read in
      let last : State = finished terms.limits all in
      extends_on hearing.state all.state (at_end last).events (all_extends hearing read)
      (extends_on all.state last (at_end last).events (finished_extends all.state all.block) (end_extends last))

  over_extends : (hearing : Hearing) (read : List Bytes) (ends : Bool)
      → Extends hearing.state (if ends then at_end (finished terms.limits (heard_all judge terms hearing read)) else cut_off (heard_all judge terms hearing (but_last read)).state).events
  over_extends hearing read true = ends_extends hearing read
  over_extends hearing read false = all_extends hearing (but_last read)

  pub run_extends : (hearing : Hearing) (most : ℕ) (input : Bytes) → Extends hearing.state (run_from judge terms hearing most input).events
  run_extends hearing most input = over_extends hearing (lines (take most input)) (ltb (length input) most)

  pub whole_extends : (state : State) (found : Whole) → Extends state (run_whole judge terms state found).events
  whole_extends state (Complete text) =
      let next : State = script_in judge terms state (Some text) in
      extends_on state next (at_end next).events (script_extends judge terms state (Some text)) (end_extends next)
  whole_extends state Overlong =
      let next : State = script_in judge terms state None in
      extends_on state next (at_end next).events (script_extends judge terms state None) (end_extends next)
  whole_extends state Unended = none_more state
