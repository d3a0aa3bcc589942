-- What an input asks for next, and how a run over it goes on.
use Rattle.std.specs.Prelude.{◌≡◌, ℕ, ◌+◌, ◌<◌, ◌≤◌, true, false, ◌++◌, [], List, length, Option, Some, None, Result, Ok, Err}
use Rattle.std.specs.Option.{ForSome}
use Rattle.uq_outside.specs.Stops.{Told}
use Rattle.uq_outside.specs.declared.source.Source.{Ghosts}
use Rattle.uq_value.specs.Data.{Bytes}
use Rattle.uq_words.specs.Blocks.{longest_script}
use Rattle.uq_words.specs.Lines.{Spoken}
use Rattle.uq_words.specs.Taking.{left_of, most_of, text_of}
use Rattle.uq_words.specs.Texts.{spoken_as}
use Rattle.uq_words.specs.declared.error.InputFault.{InputFault}
use Rattle.uq_words.specs.declared.error.InputFault.TheVariants as input
use Rattle.uq_words.specs.declared.line.Line as line
use Rattle.uq_words.specs.declared.lines.Lines.{Lines}
use Rattle.uq_words.specs.declared.lines.Step.{Step}
use Rattle.uq_words.specs.declared.lines.Step.TheVariants as step
use Rattle.uq_shell.specs.Commands.{Request, refuses_words}
use Rattle.uq_shell.specs.Replies.{stop_by_input}
use Rattle.uq_shell.specs.Run.{Outcome}
use Rattle.uq_shell.specs.Stream.{Hearing, State, after, asked_by, at_end, begins_block, cut_off, listening, run_from, script_in, within}
use Rattle.uq_shell.specs.Verdicts.{Judge}
use Rattle.uq_shell.specs.declared.asking.Ask.{Ask}
use Rattle.uq_shell.specs.declared.asking.Ask.TheVariants.{Line, Script, Unfinished}
use Rattle.uq_shell.specs.declared.asking.Next.{Next}
use Rattle.uq_shell.specs.declared.asking.Next.TheVariants.{More, Last, TooMuch}
use Rattle.uq_shell.specs.declared.progress.Stop.{Stop}
use Rattle.uq_shell.specs.declared.progress.Stop.TheVariants.{At, Sink}
use Rattle.uq_shell.specs.declared.reply.Refusal.TheVariants.{UnfinishedScript}
use Rattle.uq_shell.specs.declared.status.Status.TheVariants.{Stream}
use Rattle.uq_shell.specs.declared.terms.Terms.{Terms}

pub data Asking : Type 0 where
  -- a line: a command, or nothing
  OfLine : Option Request → Asking
  -- a script; None where it is longer than a script may be
  OfBlock : Option Bytes → Asking

abbrev pub asked_in : Judge → Terms → State → Asking → State
asked_in judge terms state (OfLine asked) = after terms.limits state asked
asked_in judge terms state (OfBlock text) = script_in judge terms state text

-- what the code has taken, with the text that it kept
abbrev pub asking_of : Ask → Option Bytes → Asking
asking_of (Line line) text = OfLine (asked_by (spoken_as line))
asking_of Script text = OfBlock text
asking_of Unfinished text = OfLine (Some (refuses_words UnfinishedScript))

-- ---- an input of which only the first `most` bytes count

-- where a run stands before it: between lines, or at the front of a block
abbrev pub Stand : Type 0
Stand = State → Hearing

abbrev pub at_block : Stand
at_block state = within state []

module _ (stand : Stand) where
  -- It asks for this, and then the run goes on with what is behind.
  pub record Leads (asking : Asking) (most : ℕ) (input : Bytes) (most_behind : ℕ) (behind : Bytes) : Type 0 where
    pub consumed : Bytes
    pub split : input ≡ consumed ++ behind
    pub count : most ≡ length consumed + most_behind
    pub leads : (judge : Judge) (terms : Terms) (state : State) (m : ℕ) (tail : Bytes)
        → run_from judge terms (stand state) (length consumed + m) (consumed ++ tail) ≡ run_from judge terms (listening (asked_in judge terms state asking)) m tail

  -- It asks for this alone, and ends.
  abbrev pub Closes : Asking → ℕ → Bytes → Type 0
  Closes asking most input = (judge : Judge) (terms : Terms) (state : State)
      → run_from judge terms (stand state) most input ≡ at_end (asked_in judge terms state asking)

  -- It asks for nothing that is complete, and more of it is left than counts.
  abbrev pub IsCut : ℕ → Bytes → Type 0
  IsCut most input = (judge : Judge) (terms : Terms) (state : State) → run_from judge terms (stand state) most input ≡ cut_off state

  -- Part of it was taken, in which nothing is complete.
  pub record IsPart (input behind : Bytes) : Type 0 where
    pub part : Bytes
    pub split : input ≡ part ++ behind
    pub cut : IsCut (length part) part

-- ---- what was taken

-- a fault of the input ends the run, or want of memory does
abbrev pub IsByInput : Stop → Type 0
IsByInput stop = (fault : InputFault) × (stop ≡ stop_by_input fault)

-- as a step from line to line
abbrev pub fault_of : Stop → InputFault
fault_of (At Stream) = input.Source
fault_of (At _) = input.Memory
fault_of Sink = input.Memory

abbrev pub step_of : Result Next Stop → Result Step InputFault
step_of (Ok (More ask)) = Ok step.Line
step_of (Ok (Last ask)) = Ok step.Last
step_of (Ok TooMuch) = Ok step.TooMuch
step_of (Err stop) = Err (fault_of stop)

module _ {I : Type 0} (i : Ghosts I) where
  -- What is found at the front of what was left, of which so many bytes counted; and what is left behind it.
  abbrev pub FindsAt : Stand → Result Next Stop → Option Bytes → ℕ → Lines → I → Type 0
  FindsAt stand (Ok (More ask)) left most new in_new =
      Told (λ input behind. Leads stand (asking_of ask (text_of new)) most input (most_of new) behind) left (left_of i new in_new)
  FindsAt stand (Ok (Last ask)) left most new in_new =
      Told (λ input behind. Closes stand (asking_of ask (text_of new)) most input × (behind ≡ [])) left (left_of i new in_new)
  FindsAt stand (Ok TooMuch) left most new in_new = ForSome left (IsCut stand most)
  FindsAt stand (Err stop) left most new in_new = stop ≡ At Stream → Told (IsPart stand) left (i.left in_new)

  abbrev pub FindsNext : Result Next Stop → Option Bytes → ℕ → Lines → I → Type 0
  FindsNext = FindsAt listening

  abbrev pub FindsInBlock : Result Next Stop → Option Bytes → ℕ → Lines → I → Type 0
  FindsInBlock = FindsAt at_block

-- the text of a script that was kept is no longer than a script may be, whether the source tells its bytes or not
abbrev pub IsShort : Ask → Option Bytes → Type 0
IsShort (Line said) text = Unit {0}
IsShort Script text = ForSome text (λ it. length it ≤ longest_script)
IsShort Unfinished text = Unit {0}

abbrev pub ShortNext : Result Next Stop → Option Bytes → Type 0
ShortNext (Ok (More ask)) text = IsShort ask text
ShortNext (Ok (Last ask)) text = IsShort ask text
ShortNext (Ok TooMuch) text = Unit {0}
ShortNext (Err stop) text = Unit {0}

-- a line that begins no block
abbrev pub IsPlain : Spoken → Option line.Line → Type 0
IsPlain spoken None = begins_block spoken ≡ true
IsPlain spoken (Some said) = (spoken_as said ≡ spoken) × (begins_block spoken ≡ false)
