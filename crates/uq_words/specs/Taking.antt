-- What a line taken from a source is, and what is left behind it.
use Rattle.std.specs.Prelude.{◌≡◌, ◌⊎◌, ◌==◌, ℕ, ◌+◌, ◌-◌, ◌^◌, ◌≤◌, ◌<◌, min, nat_le, true, false, ◌++◌, if◌then◌else◌, [], length, take, drop, slice_range, Option, Some, None, Result, Ok, Err, IfOk, OnErr}
use Rattle.std.specs.Io.KnownBytes.{IsAtEnd}
use Rattle.std.specs.Option.{ForSome, option_map}
use Rattle.uq_facts.specs.Causes.{HasCauseAt}
use Rattle.uq_outside.specs.Stops.{Told}
use Rattle.uq_outside.specs.declared.source.Source.{Ghosts}
use Rattle.uq_value.specs.Data.{Bytes}
use Rattle.uq_words.specs.Lines.{HasNoFeed, IsLastWithin, IsLineWithin, IsPart, IsTooMuch, kept_within, longest}
use Rattle.uq_words.specs.declared.error.InputFault.{InputFault}
use Rattle.uq_words.specs.declared.error.InputFault.TheVariants.{Source}
use Rattle.uq_words.specs.declared.lines.Lines.{Lines}
use Rattle.uq_words.specs.declared.lines.Step.{Step}
use Rattle.uq_words.specs.declared.lines.Step.TheVariants.{Line, Last, TooMuch}

-- bytes that were taken, and are behind the line
abbrev pub pending : Lines → Bytes
pending it = drop it.next it.bytes.items

-- the text of the line, unless it is too long
abbrev pub text_of : Lines → Option Bytes
text_of it = if it.kept then Some (slice_range it.bytes.items it.from it.to) else None

-- how many bytes may still be taken
abbrev pub room_of : Lines → ℕ
room_of it = it.room

-- how many bytes of those that count are behind the line
abbrev pub most_of : Lines → ℕ
most_of it = length (pending it) + it.room

-- so many bytes were taken, as the number that stops at 2^64 - 1 has it
abbrev pub Took : ℕ → ℕ → ℕ → Type 0
Took count before now = ((count ≡ 0) × (now ≡ before)) ⊎ (now ≡ min (before + count) (2 ^ 64 - 1))

module _ {I : Type 0} (i : Ghosts I) where
  -- what is behind the line, where the source tells it
  abbrev pub left_of : Lines → I → Option Bytes
  left_of it input = option_map (λ rest. pending it ++ rest) (i.left input)

  -- What a step finds at the front of what was left, of which so many bytes counted; and what it leaves. A line with more
  -- bytes than the limit is not kept.
  abbrev pub FindsWithin : ℕ → Result Step InputFault → Option Bytes → ℕ → Lines → I → Type 0
  FindsWithin limit (Ok Line) left most new in_new =
      Told (λ input behind. IsLineWithin limit most input (text_of new) (most_of new) behind) left (left_of new in_new)
  FindsWithin limit (Ok Last) left most new in_new =
      Told (λ input behind. IsLastWithin limit most input (text_of new) × (behind ≡ [])) left (left_of new in_new)
  FindsWithin limit (Ok TooMuch) left most new in_new = ForSome left (λ input. IsTooMuch most input)
  FindsWithin limit (Err fault) left most new in_new = Told IsPart left (i.left in_new)

  -- the same, where a line is kept that is no longer than a line may be
  abbrev pub Finds : Result Step InputFault → Option Bytes → ℕ → Lines → I → Type 0
  Finds = FindsWithin longest

  -- nothing was taken, or the last take has not told the end
  abbrev pub IsNotEnded : Lines → I → Lines → I → Type 0
  IsNotEnded old in_old new in_new = ((room_of new ≡ room_of old) × (in_new ≡ in_old)) ⊎ (i.ended in_new ≡ false)

  -- Whether the source tells its bytes or not: the count of faults, the number of bytes taken, and whether the end was told.
  pub record Takes (result : Result Step InputFault) (old : Lines) (in_old : I) (new : Lines) (in_new : I) : Type 0 where
    pub cause : HasCauseAt Source (i.faults in_old) (i.faults in_new) result
    pub room : room_of new ≤ room_of old
    pub taken : Took (room_of old - room_of new) (i.taken in_old) (i.taken in_new)
    pub too_much : result ≡ Ok TooMuch → room_of new ≡ 0
    pub last : result ≡ Ok Last → i.ended in_new ≡ true
    -- the end was told only by the last line
    pub not_last : (result ≡ Ok Line) ⊎ (result ≡ Ok TooMuch) → IsNotEnded old in_old new in_new

-- behind a line fewer bytes count than before it, whether the source tells them or not
abbrev pub Shortens : Result Step InputFault → Lines → Lines → Type 0
Shortens result old new = result ≡ Ok Line → most_of new < most_of old

-- ---- the steps within

-- The text is the first bytes of what was behind the line, unless they are more than the limit.
pub record Gives (count limit next : ℕ) (old new : Lines) : Type 0 where
  pub bytes : new.bytes.items ≡ old.bytes.items
  pub begins : new.next ≡ next
  pub room : new.room ≡ old.room
  pub text : text_of new ≡ if nat_le count limit then Some (take count (pending old)) else None

-- The line is what was behind it up to there.
pub record Cuts (limit end next : ℕ) (old new : Lines) : Type 0 where
  pub bytes : new.bytes.items ≡ old.bytes.items
  pub begins : new.next ≡ next
  pub room : new.room ≡ old.room
  pub text : text_of new ≡ kept_within limit (slice_range old.bytes.items old.next end)

-- What was taken begins with what is behind the line.
pub record Trims (old new : Lines) : Type 0 where
  pub bytes : new.bytes.items ≡ pending old
  pub begins : new.next ≡ 0
  pub kept : new.kept ≡ old.kept
  pub room : new.room ≡ old.room

-- Nothing is behind the line, and it is not kept.
pub record Cleared (old new : Lines) : Type 0 where
  pub pending : pending new ≡ []
  pub begins : new.next ≡ 0
  pub room : new.room ≡ old.room
  pub text : new.kept ≡ false

module _ {I : Type 0} (i : Ghosts I) where
  -- A piece goes from the source behind what was taken.
  pub record Fills (result : Result ℕ InputFault) (old : Lines) (in_old : I) (new : Lines) (in_new : I) : Type 0 where
    pub begins : new.next ≡ 0
    pub kept : new.kept ≡ old.kept
    pub piece : Bytes
    pub pending : pending new ≡ pending old ++ piece
    pub taken_count : IfOk result (λ count. length piece ≡ count)
    pub none : OnErr result (piece ≡ [])
    pub left : left_of i new in_new ≡ left_of i old in_old
    pub at_end : IfOk result (λ count. count ≡ 0 → IsAtEnd (i.left in_new))
    pub room : old.room ≡ new.room + length piece
    pub taken : Took (length piece) (i.taken in_old) (i.taken in_new)
    pub ended : IfOk result (λ count. i.ended in_new ≡ (count == 0))
    pub cause : HasCauseAt Source (i.faults in_old) (i.faults in_new) result

  -- what a step finds, where a line that is too long is at the front
  abbrev pub Passes : ℕ → Result Step InputFault → Lines → I → Lines → I → Type 0
  Passes limit result old in_old new in_new =
      HasNoFeed (pending old) → limit + 1 < length (pending old) → FindsWithin i limit result (left_of i old in_old) (most_of old) new in_new

  -- Takes of a source so far, none of which failed or told the end.
  pub record Going (old : Lines) (in_old : I) (new : Lines) (in_new : I) : Type 0 where
    pub faults : i.faults in_new ≡ i.faults in_old
    pub room : room_of new ≤ room_of old
    pub taken : Took (room_of old - room_of new) (i.taken in_old) (i.taken in_new)
    pub fresh : IsNotEnded i old in_old new in_new

  -- The line that was at the front goes on up to here, and is too long.
  pub record Passing (limit : ℕ) (old : Lines) (in_old : I) (new : Lines) (in_new : I) : Type 0 where
    pub part : Bytes
    pub no_feed : HasNoFeed part
    pub long : limit + 1 < length part
    pub left : left_of i old in_old ≡ option_map (λ rest. part ++ rest) (i.left in_new)
    pub count : most_of old ≡ length part + room_of new
