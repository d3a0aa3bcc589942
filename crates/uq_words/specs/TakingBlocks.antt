-- What a block taken from a source is, what a source is as one script, and what is left behind them.
use Rattle.std.specs.Prelude.{◌≡◌, ◌⊎◌, ℕ, ◌+◌, ◌≤◌, Bool, true, false, bytes_eq, codes, if◌then◌else◌, List, ◌++◌, [], length, take, drop, Option, Some, None, Result, Ok, Err, IfOk}
use Rattle.std.specs.List.{All}
use Rattle.std.specs.Option.{ForSome}
use Rattle.uq_facts.specs.Causes.{HasCauseAt}
use Rattle.uq_outside.specs.Stops.{Told}
use Rattle.uq_outside.specs.declared.source.Source.{Ghosts}
use Rattle.uq_value.specs.Data.{Bytes}
use Rattle.uq_words.specs.Blocks.{Complete, IsBlockBy, IsBlockPart, IsBlockTooMuch, IsInner, IsLastBlockBy, IsScriptPart, IsUnfinished, IsWhole, Overlong, Unended, Whole, closes, is_ended, kept_script, longest_script, no_text, taken_for, text_of_lines}
use Rattle.uq_words.specs.Taking.{Took, left_of, most_of, pending, text_of}
use Rattle.uq_words.specs.declared.blocks.BlockStep.{BlockStep}
use Rattle.uq_words.specs.declared.blocks.BlockStep.TheVariants as block
use Rattle.uq_words.specs.declared.error.InputFault.{InputFault}
use Rattle.uq_words.specs.declared.error.InputFault.TheVariants.{Source}
use Rattle.uq_words.specs.declared.lines.Lines.{Lines}
use Rattle.uq_words.specs.declared.lines.Step.{Step}
use Rattle.uq_words.specs.declared.lines.Step.TheVariants as step
use Rattle.uq_words.specs.declared.script.Script.{Script}
use Rattle.uq_words.specs.declared.script.Script.TheVariants as script

-- ---- a block

-- the step of the line that a block ends with
abbrev pub line_step : Result BlockStep InputFault → Result Step InputFault
line_step (Ok block.Closed) = Ok step.Line
line_step (Ok block.ClosedLast) = Ok step.Last
line_step (Ok block.Unfinished) = Ok step.Last
line_step (Ok block.TooMuch) = Ok step.TooMuch
line_step (Err fault) = Err fault

module _ {I : Type 0} (i : Ghosts I) where
  -- What is found at the front of what was left, of which so many bytes counted; and what it leaves. The text is kept so.
  abbrev pub FindsBlockBy : (Bytes → Option Bytes) → Result BlockStep InputFault → Option Bytes → ℕ → Lines → I → Type 0
  FindsBlockBy keep (Ok block.Closed) left most new in_new =
      Told (λ input behind. IsBlockBy keep most input (text_of new) (most_of new) behind) left (left_of i new in_new)
  FindsBlockBy keep (Ok block.ClosedLast) left most new in_new =
      Told (λ input behind. IsLastBlockBy keep most input (text_of new) × (behind ≡ [])) left (left_of i new in_new)
  FindsBlockBy keep (Ok block.Unfinished) left most new in_new =
      Told (λ input behind. IsUnfinished most input × (behind ≡ [])) left (left_of i new in_new)
  FindsBlockBy keep (Ok block.TooMuch) left most new in_new = ForSome left (λ input. IsBlockTooMuch most input)
  FindsBlockBy keep (Err fault) left most new in_new = Told IsBlockPart left (i.left in_new)

  -- the same, where a text is kept that is no longer than a script may be
  abbrev pub FindsBlock : Result BlockStep InputFault → Option Bytes → ℕ → Lines → I → Type 0
  FindsBlock = FindsBlockBy kept_script

-- the text of a block is no longer than a script may be, whether the source tells it or not
abbrev pub IsShort : Result BlockStep InputFault → Lines → Type 0
IsShort result new =
    (result ≡ Ok block.Closed) ⊎ (result ≡ Ok block.ClosedLast) → ForSome (text_of new) (λ text. length text ≤ longest_script)

-- ---- one script

-- what the input is, as the code has it
abbrev pub whole_of : Script → Whole
whole_of (script.Complete text) = Complete text.items
whole_of script.TooLong = Overlong
whole_of script.TooMuch = Unended

module _ {I : Type 0} (i : Ghosts I) where
  -- What a source that tells its bytes is as one script, where so many bytes count; and what is left of it.
  abbrev pub FindsScript : Result Script InputFault → Option Bytes → ℕ → I → Type 0
  FindsScript (Ok read) left most in_new =
      Told (λ input behind. IsWhole most input (whole_of read) behind) left (i.left in_new)
  FindsScript (Err fault) left most in_new = Told (IsScriptPart most) left (i.left in_new)

  -- So many bytes were taken as show what the source is, and the end was told where it is all of a script.
  pub record ShowsScript (most : ℕ) (in_old in_new : I) (found : Whole) : Type 0 where
    pub within : taken_for most found ≤ most
    pub short : taken_for most found ≤ longest_script + 1
    pub taken : Took (taken_for most found) (i.taken in_old) (i.taken in_new)
    pub ended : i.ended in_new ≡ is_ended found
    pub fits : (text : Bytes) → found ≡ Complete text → length text ≤ longest_script

  -- Whether the source tells its bytes or not: the count of faults, the number of bytes taken, and whether the end was told.
  pub record TakesScript (result : Result Script InputFault) (most : ℕ) (in_old in_new : I) : Type 0 where
    pub cause : HasCauseAt Source (i.faults in_old) (i.faults in_new) result
    pub shows : IfOk result (λ read. ShowsScript most in_old in_new (whole_of read))

-- ---- the steps within

-- whether the text of a line is a dot
abbrev pub is_dot : Option Bytes → Bool
is_dot None = false
is_dot (Some text) = bytes_eq text (codes ".")

-- The line is not kept.
pub record Drops (old new : Lines) : Type 0 where
  pub pending : pending new ≡ pending old
  pub room : new.room ≡ old.room
  pub text : new.kept ≡ false

-- Lines of a block, of which none closes it, stand before what is left.
pub record ArePassed (most : ℕ) (input : Bytes) (most_behind : ℕ) (behind : Bytes) : Type 0 where
  pub inner : List Bytes
  pub all_inner : All IsInner inner
  pub split : input ≡ text_of_lines inner ++ behind
  pub count : most ≡ length (text_of_lines inner) + most_behind

-- the step of a line of a block, where the block may end with it
abbrev pub passed_step : Result (Option BlockStep) InputFault → Result Step InputFault
passed_step (Ok None) = Ok step.Line
passed_step (Ok (Some ends)) = line_step (Ok ends)
passed_step (Err fault) = Err fault

module _ {I : Type 0} (i : Ghosts I) where
  -- what is found where the next line is passed, and not kept: a line of the block, or its end
  abbrev pub FindsInner : Result (Option BlockStep) InputFault → Option Bytes → ℕ → Lines → I → Type 0
  FindsInner (Ok None) left most new in_new =
      Told (λ input behind. ArePassed most input (most_of new) behind) left (left_of i new in_new)
  FindsInner (Ok (Some ends)) left most new in_new = FindsBlockBy i no_text (Ok ends) left most new in_new
  FindsInner (Err fault) left most new in_new = Told IsBlockPart left (i.left in_new)

-- All that is behind what was given is a block, whose last line begins there.
pub record EndsBlock (line : ℕ) (ends : BlockStep) (old new : Lines) : Type 0 where
  pub none_left : pending new ≡ []
  pub room : new.room ≡ old.room
  pub way : ends ≡ if closes (drop line (pending old)) then block.ClosedLast else block.Unfinished
  pub text : closes (drop line (pending old)) ≡ true → text_of new ≡ kept_script (take line (pending old))
